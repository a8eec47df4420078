-- What the tests on kinds, hooks, protocols, words and rows tell.
use Rattle.std.proofs.Common.{◌≡◌, ℕ, true, ◌==◌, List, refl, sym, ◌∙◌, ap, eqb-true, eq-eqb}
use Rattle.std.specs.Str.{bytes_eq}
use Rattle.std.proofs.lemmas.Bool.{false≢true, and_parts, and_from}
use Rattle.std.proofs.lemmas.Slice.Eq.{bytes_eq-Decides}
use Rattle.tc_base.specs.declared.hook.Hook.{Hook}
use Rattle.tc_base.specs.declared.hook.Hook.TheVariants as hooks
use Rattle.tc_base.specs.declared.hook.Proto.{Proto}
use Rattle.tc_base.specs.declared.hook.Proto.TheVariants as protocols
use Rattle.act_kinds.specs.declared.params.Kind.{Kind}
use Rattle.act_kinds.specs.declared.params.Kind.TheVariants as kinds
use Rattle.act_kinds.specs.Params.{kind_of}
use Rattle.filter_state.specs.States.{Row, Action}
use Rattle.filter_state.specs.Actions.{kind_eq, is_named}
use Rattle.filter_state.specs.Tables.{hook_eq, protocol_eq, in_chain, in_table}

pub kind_eq_true : (a b : Kind) → kind_eq a b ≡ true → a ≡ b
kind_eq_true kinds.Gact kinds.Gact e = refl
kind_eq_true kinds.Vlan kinds.Vlan e = refl
kind_eq_true kinds.Skbedit kinds.Skbedit e = refl
kind_eq_true a b e = absurd (false≢true e)

pub kind_eq_self : (a : Kind) → kind_eq a a ≡ true
kind_eq_self kinds.Gact = refl
kind_eq_self kinds.Vlan = refl
kind_eq_self kinds.Skbedit = refl

pub hook_eq_true : (a b : Hook) → hook_eq a b ≡ true → a ≡ b
hook_eq_true hooks.Ingress hooks.Ingress e = refl
hook_eq_true hooks.Egress hooks.Egress e = refl
hook_eq_true a b e = absurd (false≢true e)

pub hook_eq_self : (a : Hook) → hook_eq a a ≡ true
hook_eq_self hooks.Ingress = refl
hook_eq_self hooks.Egress = refl

pub protocol_eq_true : (a b : Proto) → protocol_eq a b ≡ true → a ≡ b
protocol_eq_true protocols.All protocols.All e = refl
protocol_eq_true (protocols.Ether a) (protocols.Ether b) e = ap (λ n. protocols.Ether n) (eqb-true a b e)
protocol_eq_true a b e = absurd (false≢true e)

pub bytes_eq_true : (a b : List ℕ) → bytes_eq a b ≡ true → a ≡ b
bytes_eq_true a b e = (bytes_eq-Decides a b).0 e

pub bytes_eq_from : (a b : List ℕ) → a ≡ b → bytes_eq a b ≡ true
bytes_eq_from a b e = (bytes_eq-Decides a b).1 e

-- ---- actions
pub named : (kind : Kind) (index : ℕ) (action : Action) → is_named kind index action ≡ true → (kind_of action.params ≡ kind) × (action.index ≡ index)
named kind index action e =
    let parts = and_parts (kind_eq (kind_of action.params) kind) (action.index == index) e in
    (kind_eq_true (kind_of action.params) kind parts.0, eqb-true action.index index parts.1)

pub named_from : (kind : Kind) (index : ℕ) (action : Action) → kind_of action.params ≡ kind → action.index ≡ index → is_named kind index action ≡ true
named_from kind index action of at =
    and_from (kind_eq (kind_of action.params) kind) (action.index == index) (ap (λ k. kind_eq (kind_of action.params) k) (sym of) ∙ kind_eq_self (kind_of action.params)) (eq-eqb action.index index at)

-- ---- rows
pub row_in_table : (hook : Hook) (chain pref : ℕ) (row : Row) → in_table hook chain pref row ≡ true → (row.hook ≡ hook) × (row.chain ≡ chain) × (row.pref ≡ pref)
row_in_table hook chain pref row e =
    let outer = and_parts (in_chain hook chain row) (row.pref == pref) e in
    let inner = and_parts (hook_eq row.hook hook) (row.chain == chain) outer.0 in
    (hook_eq_true row.hook hook inner.0, eqb-true row.chain chain inner.1, eqb-true row.pref pref outer.1)

pub row_in_table_from : (hook : Hook) (chain pref : ℕ) (row : Row) → row.hook ≡ hook → row.chain ≡ chain → row.pref ≡ pref → in_table hook chain pref row ≡ true
row_in_table_from hook chain pref row h c p =
    and_from (in_chain hook chain row) (row.pref == pref)
    (and_from (hook_eq row.hook hook) (row.chain == chain) (ap (λ k. hook_eq row.hook k) (sym h) ∙ hook_eq_self row.hook) (eq-eqb row.chain chain c))
    (eq-eqb row.pref pref p)
