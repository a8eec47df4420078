-- Each action that a filter of a sound state names is live.
use Rattle.std.proofs.Common.{◌≡◌, ◌≢◌, ◌∙◌, ℕ, Bool, true, false, cond, ◌||◌, List, [], ◌∷◌, map, filter, Option, Some, None, refl, sym, ap}
use Rattle.std.specs.List.{list_any}
use Rattle.std.specs.Option.{option_map}
use Rattle.std.specs.Prelude.{IsTrue}
use Rattle.filter_state.specs.States.{Row, Action, State}
use Rattle.filter_state.specs.Actions.{has_serial}
use Rattle.filter_state.specs.Tables.{first_where}
use Rattle.filter_state.specs.Order.{of_mask}
use Rattle.filter_state.specs.Sound.{Each, IsRow, Sound}
use Rattle.hook_store_law.specs.OfEffects.Parts.{filter_of}
use Rattle.hook_law.specs.Records.{StatedFilter}
use Rattle.hook_law.specs.Meaning.{IsLive}
use Rattle.hook_store_law.specs.Stated.{hook_meaning, action_stated, filters_at, filter_stated}

-- an action that a filter names is live
found_live : (serial : ℕ) (actions : List Action) → list_any (has_serial serial) actions ≡ true → option_map action_stated (first_where (has_serial serial) actions) ≢ None
found_live serial [] e none = absurd (cc e)
found_live serial (x ∷ xs) e none = pick (has_serial serial x) refl (found_live serial xs)
  where
    pick : (t : Bool) → has_serial serial x ≡ t → (list_any (has_serial serial) xs ≡ true → option_map action_stated (first_where (has_serial serial) xs) ≢ None) → ⊥
    pick true is rest = let there : Some (action_stated x) ≡ None = sym (ap (λ (b : Bool). option_map action_stated (cond b (Some x) (first_where (has_serial serial) xs))) is) ∙ none in absurd (cc there)
    pick false is rest = rest (sym (ap (λ (b : Bool). b || list_any (has_serial serial) xs) is) ∙ e) (sym (ap (λ (b : Bool). option_map action_stated (cond b (Some x) (first_where (has_serial serial) xs))) is) ∙ none)

-- each action of each filter of the mask is
abbrev pub AllLive : State → List StatedFilter → Type 0
AllLive s fs = Each (λ (f : StatedFilter). Each (λ (action : ℕ). IsLive hook_meaning s action) f.actions) fs

live_each : (s : State) (actions : List ℕ) → Each (λ serial. IsTrue (list_any (has_serial serial) s.actions)) actions → Each (λ (action : ℕ). IsLive hook_meaning s action) actions
live_each s [] all = tt
live_each s (a ∷ more) all = (λ none. found_live a s.actions all.0 none, live_each s more all.1)

live_rows : (s : State) (mask : ℕ) (rows : List Row) → Each (IsRow s) rows → AllLive s (map filter_stated (map filter_of (filter (of_mask mask) rows)))
live_rows s mask [] all = tt
live_rows s mask (row ∷ rows) all = pick (of_mask mask row) (live_rows s mask rows all.1)
  where
    pick : (t : Bool) → AllLive s (map filter_stated (map filter_of (filter (of_mask mask) rows))) → AllLive s (map filter_stated (map filter_of (cond t (row ∷ filter (of_mask mask) rows) (filter (of_mask mask) rows))))
    pick true rest = (live_each s row.actions all.0.live, rest)
    pick false rest = rest

pub all_live : (s : State) (mask : ℕ) → Sound s → AllLive s (filters_at s mask)
all_live s mask sound = live_rows s mask s.rows sound.rows
