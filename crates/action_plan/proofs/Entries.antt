-- The actions of a registry as those of a state: how they are named, and which index a new one gets.
use Rattle.std.proofs.Common.{◌≡◌, ℕ, zero, suc, ◌+◌, ◌≤◌, ◌==◌, Bool, true, false, cond, not, ◌&&◌, List, length, Option, Some, None, refl, sym, ◌∙◌, ap, subst, arith}
use Rattle.std.specs.Prelude.{find, unwrap_or, IfNone}
use Rattle.std.specs.List.{range_with_len}
use Rattle.std.proofs.lemmas.List.{length-map}
use Rattle.act_kinds.specs.declared.params.Kind.{Kind}
use Rattle.act_kinds.specs.declared.params.Kind.TheVariants as kinds
use Rattle.act_kinds.specs.declared.params.Params.{Params}
use Rattle.act_kinds.specs.Params.{kind_of, number_of_kind, kind_number}
use Rattle.act_registry.specs.declared.entry.Entry.{Entry}
use Rattle.act_registry.specs.Entries as entries
use Rattle.filter_state.specs.Actions.{kind_eq, is_named, is_live, first_free, free_index, index_or_free}
use Rattle.action_plan.specs.Entries.{action_of, actions_of}
use Rattle.action_plan.proofs.Mapped.{any_mapped}

-- ---- names
same_kind : (a b : Kind) → (number_of_kind a == number_of_kind b) ≡ kind_eq a b
same_kind kinds.Gact kinds.Gact = refl
same_kind kinds.Gact kinds.Vlan = refl
same_kind kinds.Gact kinds.Skbedit = refl
same_kind kinds.Vlan kinds.Gact = refl
same_kind kinds.Vlan kinds.Vlan = refl
same_kind kinds.Vlan kinds.Skbedit = refl
same_kind kinds.Skbedit kinds.Gact = refl
same_kind kinds.Skbedit kinds.Vlan = refl
same_kind kinds.Skbedit kinds.Skbedit = refl

pub same_name : (kind : Kind) (index : ℕ) (e : Entry Params) → entries.is_named kind_number (number_of_kind kind) index e ≡ is_named kind index (action_of e)
same_name kind index e = ap (λ b. b && e.index == index) (same_kind (kind_of e.params) kind)

pub used_live : (kind : Kind) (es : List (Entry Params)) (index : ℕ) →
    entries.is_used kind_number (number_of_kind kind) es index ≡ is_live kind index (actions_of es)
used_live kind es index = any_mapped action_of (entries.is_named kind_number (number_of_kind kind) index) (is_named kind index) (same_name kind index) es

-- ---- the lowest free index
abbrev pub lowest_in : (ℕ → Bool) → ℕ → ℕ → ℕ
lowest_in used least count = unwrap_or (find (λ n. not (used n)) (range_with_len least count)) 0

-- of the last number that is looked at, the state takes for granted that it is free
last_free : (b : Bool) (least : ℕ) → 1 ≤ unwrap_or (cond (not b) (Some least) None) 0 → unwrap_or (cond (not b) (Some least) None) 0 ≡ least
last_free true least some = absurd (omega (arith, some))
last_free false least some = refl

more_free : (b : Bool) (least rest free : ℕ) (found : Option ℕ) → (1 ≤ unwrap_or found 0 → unwrap_or found 0 ≡ free) → 1 ≤ unwrap_or (cond (not b) (Some least) found) 0 →
    unwrap_or (cond (not b) (Some least) found) 0 ≡ cond b free least
more_free true least rest free found same some = same some
more_free false least rest free found same some = refl

pub first_lowest : (used live : ℕ → Bool) → ((n : ℕ) → used n ≡ live n) → (more least : ℕ) → 1 ≤ lowest_in used least (suc more) →
    lowest_in used least (suc more) ≡ first_free live more least
first_lowest used live same zero least some = last_free (used least) least some
first_lowest used live same (suc more) least some =
    more_free (used least) least 0 (first_free live more (least + 1)) (find (λ n. not (used n)) (range_with_len (least + 1) (suc more)))
    (first_lowest used live same more (least + 1)) some
    ∙ ap (λ b. cond b (first_free live more (least + 1)) least) (same least)

pub lowest_free : (kind : Kind) (es : List (Entry Params)) → 1 ≤ entries.lowest_unused kind_number (number_of_kind kind) es →
    entries.lowest_unused kind_number (number_of_kind kind) es ≡ free_index kind (actions_of es)
lowest_free kind es some =
    let one_more : length es + 1 ≡ suc (length es) = omega arith in
    let used : ℕ → Bool = entries.is_used kind_number (number_of_kind kind) es in
    let live : ℕ → Bool = λ index. is_live kind index (actions_of es) in
    ap (lowest_in used 1) one_more
    ∙ first_lowest used live (used_live kind es) (length es) 1 (subst (λ n. 1 ≤ lowest_in used 1 n) one_more some)
    ∙ ap (λ n. first_free live n 1) (sym (length-map es action_of))

-- the index that the registry gave is the one that the state gives
pub same_index : (kind : Kind) (es : List (Entry Params)) (given : Option ℕ) (index : ℕ) → index ≡ entries.index_for kind_number (number_of_kind kind) es given →
    IfNone given (entries.IsLowestUnused kind_number (number_of_kind kind) es index) → index ≡ index_or_free given kind (actions_of es)
same_index kind es (Some given) index is lowest = is
same_index kind es None index is lowest = is ∙ lowest_free kind es (rw (← is) lowest.from_one)
