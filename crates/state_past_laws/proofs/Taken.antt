-- Changes that take away are the same in any order.
use Rattle.std.proofs.Common.{◌≡◌, ◌∙◌, ℕ, Bool, true, false, ◌||◌, List, [], ◌∷◌, Option, None, refl, ap}
use Rattle.std.specs.Prelude.{if◌then◌else◌}
use Rattle.std.specs.List.{list_any}
use Rattle.filter_state.specs.States.{Row}
use Rattle.state_past_laws.specs.Slots.{slot_in, SlotChange, concerns, after_changes, Overrides, AreTaken}

none_stays : (changes : List SlotChange) (mask : ℕ) (key : List ℕ) → AreTaken changes → after_changes changes mask key None ≡ None
none_stays [] mask key are = refl
none_stays (change ∷ changes) mask key are = by_test (concerns mask key change) ∙ none_stays changes mask key are.1
  where
    by_test : (b : Bool) → after_changes changes mask key (if b then change.actions else None) ≡ after_changes changes mask key None
    by_test true = ap (after_changes changes mask key) are.0
    by_test false = refl

taken_any : (changes : List SlotChange) (mask : ℕ) (key : List ℕ) (o : Option (List ℕ)) → AreTaken changes → after_changes changes mask key o ≡ (if list_any (concerns mask key) changes then None else o)
taken_any [] mask key o are = refl
taken_any (change ∷ changes) mask key o are = by_test (concerns mask key change) (taken_any changes mask key o are.1)
  where
    by_test : (b : Bool) → after_changes changes mask key o ≡ (if list_any (concerns mask key) changes then None else o)
        → after_changes changes mask key (if b then change.actions else o) ≡ (if b || list_any (concerns mask key) changes then None else o)
    by_test true rest = ap (after_changes changes mask key) are.0 ∙ none_stays changes mask key are.1
    by_test false rest = rest

pub taken : (rows others : List Row) (changes : List SlotChange) → AreTaken changes → Overrides rows others changes → (mask : ℕ) (key : List ℕ)
    → slot_in others mask key ≡ (if list_any (concerns mask key) changes then None else slot_in rows mask key)
taken rows others changes are overrides mask key = overrides mask key ∙ taken_any changes mask key (slot_in rows mask key) are
