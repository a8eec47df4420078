-- The entries that were made later stand last.
use Rattle.std.proofs.Common.{◌≡◌, ℕ, zero, suc, ◌-◌, ◌<◌, ◌≤◌, Bool, cond, List, [], ◌∷◌, length, map, get_or, drop, refl, ap, subst, ◌∙◌, arith, lt-ltb, le-ltb, inl, inr}
use Rattle.std.specs.Prelude.{filter}
use Rattle.std.proofs.lemmas.Bool.{cases_lt}
use Rattle.std.proofs.lemmas.List.{get_or_default}
use Rattle.act_kinds.specs.declared.params.Params.{Params}
use Rattle.act_registry.specs.declared.entry.Entry.{Entry}
use Rattle.act_registry.specs.Entries.{AreRising}
use Rattle.filter_state.specs.States.{Action}
use Rattle.action_plan.specs.Entries.{action_of, actions_of}
use Rattle.batch_run.specs.Made.{name_of, is_later, later_names}

-- all from a place on were made later, and all before it weren't
abbrev pub AreLater : ℕ → ℕ → List (Entry Params) → Type 0
AreLater made first entries = (k : ℕ) (d : Entry Params) → first ≤ k → k < length entries → made < (get_or entries k d).serial

abbrev pub AreEarlier : ℕ → ℕ → List (Entry Params) → Type 0
AreEarlier made first entries = (k : ℕ) (d : Entry Params) → k < first → k < length entries → (get_or entries k d).serial ≤ made

-- ---- what a filter keeps of them
kept : (made : ℕ) (action : Action) (actions : List Action) → made < action.serial → filter (is_later made) (action ∷ actions) ≡ action ∷ filter (is_later made) actions
kept made action actions more = ap (λ (b : Bool). cond b (action ∷ filter (is_later made) actions) (filter (is_later made) actions)) (lt-ltb made action.serial more)

left_out : (made : ℕ) (action : Action) (actions : List Action) → action.serial ≤ made → filter (is_later made) (action ∷ actions) ≡ filter (is_later made) actions
left_out made action actions less = ap (λ (b : Bool). cond b (action ∷ filter (is_later made) actions) (filter (is_later made) actions)) (le-ltb made action.serial less)

all_later : (made : ℕ) (entries : List (Entry Params)) → AreLater made 0 entries → filter (is_later made) (actions_of entries) ≡ actions_of entries
all_later made [] later = refl
all_later made (entry ∷ entries) later =
    kept made (action_of entry) (actions_of entries) (later 0 entry (omega arith) (omega arith))
    ∙ ap (λ (actions : List Action). action_of entry ∷ actions) (all_later made entries (λ k d low within. later (suc k) d (omega arith) (omega arith)))

pub from_first : (made first : ℕ) (entries : List (Entry Params)) → AreEarlier made first entries → AreLater made first entries → filter (is_later made) (actions_of entries) ≡ actions_of (drop first entries)
from_first made zero entries earlier later = all_later made entries later
from_first made (suc first) [] earlier later = refl
from_first made (suc first) (entry ∷ entries) earlier later =
    left_out made (action_of entry) (actions_of entries) (earlier 0 entry (omega arith) (omega arith))
    ∙ from_first made first entries (λ k d low within. earlier (suc k) d (omega arith) (omega arith)) (λ k d low within. later (suc k) d (omega arith) (omega arith))

pub names_from : (made first : ℕ) (entries : List (Entry Params)) → AreEarlier made first entries → AreLater made first entries
    → later_names made (actions_of entries) ≡ map name_of (actions_of (drop first entries))
names_from made first entries earlier later = ap (λ (actions : List Action). map name_of actions) (from_first made first entries earlier later)

-- ---- where the search stops
pub none_earlier : (made first : ℕ) (entries : List (Entry Params)) → first ≤ 0 → AreEarlier made first entries
none_earlier made first entries none k d low within = absurd (omega arith)

pub one_earlier : (made first : ℕ) (entries : List (Entry Params)) (e : Entry Params) → AreRising entries → 0 < first → first ≤ length entries → (get_or entries (first - 1) e).serial ≤ made
    → AreEarlier made first entries
one_earlier made first entries e rising some most last k d low within =
    let here : (get_or entries (first - 1) d).serial ≤ made =
    subst (λ (entry : Entry Params). entry.serial ≤ made) (get_or_default entries (first - 1) e d (omega arith)) last in
    elim (cases_lt k (first - 1)) [
      | inl less ↦ let rises = rising k (first - 1) d less (omega arith) in omega arith
      | inr up ↦ let at : first - 1 ≡ k = omega (arith, up, low) in subst (λ (n : ℕ). (get_or entries n d).serial ≤ made) at here
    ]
