-- The one action of a kind and an index, and the one with a serial.
use Rattle.std.proofs.Common.{◌≡◌, ℕ, Bool, true, false, cond, List, [], ◌∷◌, Option, Some, None, refl, sym, ◌∙◌, arith, eqb-true, eq-eqb}
use Rattle.std.specs.Option.{option_map}
use Rattle.std.specs.List.{list_any}
use Rattle.std.proofs.lemmas.Bool.{false≢true, or_left, or_right, false_from_ne_true}
use Rattle.std.proofs.lemmas.Option.{none-some, same_Some}
use Rattle.act_kinds.specs.declared.params.Kind.{Kind}
use Rattle.act_kinds.specs.Params.{kind_of}
use Rattle.filter_state.specs.States.{Action}
use Rattle.filter_state.specs.Actions.{is_named, has_serial, serial_of}
use Rattle.filter_state.specs.Tables.{first_where}
use Rattle.filter_state.specs.Sound.{Each, EachPair, StandApart}
use Rattle.filter_state.proofs.Pairs.{each_weaker, each_both, pairs_all, pairs_weaker, found, none_passes}
use Rattle.state_laws.proofs.Tests.{named, named_from}

-- two actions of one name agree in a number, and two of one serial have one name
abbrev pub AgreeIn : (Action → ℕ) → Action → Action → Type 0
AgreeIn number x y = kind_of x.params ≡ kind_of y.params → x.index ≡ y.index → number x ≡ number y

abbrev pub OneName : Action → Action → Type 0
OneName x y = x.serial ≡ y.serial → (kind_of x.params ≡ kind_of y.params) × (x.index ≡ y.index)

all_agree : (number : Action → ℕ) (actions : List Action) → EachPair StandApart actions → Each (λ x. Each (AgreeIn number x) actions) actions
all_agree number actions apart =
    pairs_all (AgreeIn number) (λ x of at. refl) (λ x y agree of at. sym (agree (sym of) (sym at))) actions
    (pairs_weaker StandApart (AgreeIn number) (λ x y apart of at. absurd (apart.names of at)) actions apart)

all_one_name : (actions : List Action) → EachPair StandApart actions → Each (λ x. Each (OneName x) actions) actions
all_one_name actions apart =
    pairs_all OneName (λ x same. (refl, refl)) (λ x y one same. let e = one (sym same) in (sym e.0, sym e.1)) actions
    (pairs_weaker StandApart OneName (λ x y apart same. let less = apart.rising in absurd (omega arith)) actions apart)

-- ---- the first that is named, and its serial
serial_step : (b : Bool) (x : Action) (rest : Option Action) (serial : Option ℕ) → serial ≡ option_map (λ (a : Action). a.serial) rest
    → cond b (Some x.serial) serial ≡ option_map (λ (a : Action). a.serial) (cond b (Some x) rest)
serial_step true x rest serial e = refl
serial_step false x rest serial e = e

serial_first : (kind : Kind) (index : ℕ) (actions : List Action) → serial_of kind index actions ≡ option_map (λ (a : Action). a.serial) (first_where (is_named kind index) actions)
serial_first kind index [] = refl
serial_first kind index (x ∷ xs) = serial_step (is_named kind index x) x (first_where (is_named kind index) xs) (serial_of kind index xs) (serial_first kind index xs)

none_mapped : (o : Option Action) → option_map (λ (a : Action). a.serial) o ≡ None → o ≡ None
none_mapped None e = refl
none_mapped (Some x) e = absurd (none-some x.serial (sym e))

some_mapped : (o : Option Action) (serial : ℕ) → option_map (λ (a : Action). a.serial) o ≡ Some serial → (x : Action) × (o ≡ Some x) × (x.serial ≡ serial)
some_mapped None serial e = absurd (none-some serial e)
some_mapped (Some x) serial e = (x, refl, same_Some x.serial serial e)

pub unnamed : (kind : Kind) (index : ℕ) (actions : List Action) → serial_of kind index actions ≡ None → Each (λ x. is_named kind index x ≡ false) actions
unnamed kind index actions e =
    none_passes (is_named kind index) actions (none_mapped (first_where (is_named kind index) actions) (sym (serial_first kind index actions) ∙ e))

-- ---- being named is having that serial
both_tests : (kind : Kind) (index serial : ℕ) (first x : Action) → is_named kind index first ≡ true → first.serial ≡ serial → AgreeIn (λ (a : Action). a.serial) first x → OneName first x
    → (b : Bool) → is_named kind index x ≡ b → has_serial serial x ≡ b
both_tests kind index serial first x named-first at agree one true is =
    let f = named kind index first named-first in
    let n = named kind index x is in
    eq-eqb x.serial serial (sym (agree (f.0 ∙ sym n.0) (f.1 ∙ sym n.1)) ∙ at)
both_tests kind index serial first x named-first at agree one false is =
    let f = named kind index first named-first in
    false_from_ne_true (has_serial serial x)
    (λ there. let same = one (at ∙ sym (eqb-true x.serial serial there)) in
    false≢true (sym is ∙ named_from kind index x (sym same.0 ∙ f.0) (sym same.1 ∙ f.1)))

pub named_by_serial : (kind : Kind) (index serial : ℕ) (actions : List Action) → EachPair StandApart actions → serial_of kind index actions ≡ Some serial
    → Each (λ x. is_named kind index x ≡ has_serial serial x) actions
named_by_serial kind index serial actions apart e =
    let first = some_mapped (first_where (is_named kind index) actions) serial (sym (serial_first kind index actions) ∙ e) in
    let agree = found (λ x. Each (AgreeIn (λ (a : Action). a.serial) x) actions) (is_named kind index) actions first.0 (all_agree (λ (a : Action). a.serial) actions apart) first.1 in
    let one = found (λ x. Each (OneName x) actions) (is_named kind index) actions first.0 (all_one_name actions apart) first.1 in
    each_both (AgreeIn (λ (a : Action). a.serial) first.0) (OneName first.0) (λ x. is_named kind index x ≡ has_serial serial x)
    (λ x a o. sym (both_tests kind index serial first.0 x agree.1 first.2 a o (is_named kind index x) refl)) actions agree.0 one.0

there_step : (b : Bool) (serial : ℕ) (x : Action) (xs : List Action) (rest : Option ℕ) → (rest ≡ Some serial → list_any (has_serial serial) xs ≡ true) → cond b (Some x.serial) rest ≡ Some serial
    → list_any (has_serial serial) (x ∷ xs) ≡ true
there_step true serial x xs rest more e = or_left (has_serial serial x) (list_any (has_serial serial) xs) (eq-eqb x.serial serial (same_Some x.serial serial e))
there_step false serial x xs rest more e = or_right (has_serial serial x) (list_any (has_serial serial) xs) (more e)

pub serial_there : (kind : Kind) (index serial : ℕ) (actions : List Action) → serial_of kind index actions ≡ Some serial → list_any (has_serial serial) actions ≡ true
serial_there kind index serial [] e = absurd (none-some serial e)
serial_there kind index serial (x ∷ xs) e = there_step (is_named kind index x) serial x xs (serial_of kind index xs) (serial_there kind index serial xs) e

-- ---- the binds of the first are those of all of that name
pub same_binds : (kind : Kind) (index : ℕ) (actions : List Action) (first : Action) → EachPair StandApart actions → first_where (is_named kind index) actions ≡ Some first
    → Each (λ x. is_named kind index x ≡ true → x.binds ≡ first.binds) actions
same_binds kind index actions first apart e =
    let agree = found (λ x. Each (AgreeIn (λ (a : Action). a.binds) x) actions) (is_named kind index) actions first (all_agree (λ (a : Action). a.binds) actions apart) e in
    let f = named kind index first agree.1 in
    each_weaker (AgreeIn (λ (a : Action). a.binds) first) (λ x. is_named kind index x ≡ true → x.binds ≡ first.binds)
    (λ x a is. let n = named kind index x is in sym (a (f.0 ∙ sym n.0) (f.1 ∙ sym n.1))) actions agree.0
