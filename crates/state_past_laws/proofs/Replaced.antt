-- What a replaced filter changes of the slots.
use Rattle.std.proofs.Common.{◌≡◌, ℕ, Bool, true, false, List, [], ◌∷◌, ◌++◌, map, filter, Some, Ok, sym, ap, subst}
use Rattle.std.specs.Prelude.{◌&&◌, if◌then◌else◌}
use Rattle.std.specs.Str.{bytes_eq}
use Rattle.filter_state.specs.declared.edit.Edit.TheVariants as edits
use Rattle.filter_state.specs.declared.edit.FilterLine.{FilterLine}
use Rattle.filter_state.specs.declared.refusal.Done.{Done}
use Rattle.filter_state.specs.Lines.{IsLine}
use Rattle.filter_state.specs.States.{Row, State}
use Rattle.filter_state.specs.Sound.{Sound, EachPair, GoTogether}
use Rattle.filter_state.specs.Steps.{step, with_row, without_row, with_new_actions}
use Rattle.filter_state.specs.Journals.{state_after}
use Rattle.state_laws.proofs.Steps.{step_sound}
use Rattle.state_laws.proofs.Old.{is_old, old_found}
use Rattle.edit_effects.proofs.OfEffects.Replacing.{replaces, is_there, moved_row}
use Rattle.state_past_laws.specs.Slots.{Overrides, put_there, taken_there, changed_there, moved_there}
use Rattle.state_past_laws.proofs.Rows.{added, removed, overrides_then}
use Rattle.state_past_laws.proofs.InPlace.{in_place}

by_same : (s t : State) (old row : Row) (serials : List ℕ) → EachPair GoTogether s.rows → filter (is_old old) s.rows ≡ old ∷ [] → EachPair GoTogether t.rows → (same : Bool)
    → (if same then record s { rows = with_new_actions old serials s.rows } else with_row (record s { rows = without_row old s.rows }) row).rows ≡ t.rows → Overrides s.rows t.rows (moved_there old row serials same)
by_same s t old row serials pairs only after true is =
    subst (λ (rs : List Row). Overrides s.rows rs (changed_there old serials ∷ [])) is (in_place (is_old old) old serials s.rows only pairs)
by_same s t old row serials pairs only after false is =
    let left : List Row = without_row old s.rows in
    let first : Overrides s.rows left (taken_there old ∷ []) = subst (λ (gone : List Row). Overrides s.rows left (map taken_there gone)) only (removed (is_old old) s.rows pairs) in
    let second : Overrides left (left ++ (row ∷ [])) (put_there row ∷ []) = added left row (subst (EachPair GoTogether) (sym is) after) in
    subst (λ (rs : List Row). Overrides s.rows rs (taken_there old ∷ put_there row ∷ [])) is (overrides_then s.rows left (left ++ (row ∷ [])) (taken_there old ∷ []) (put_there row ∷ []) first second)

pub replace_changes : (s t : State) (line : FilterLine) (old : Row) (done : Done) → Sound s → IsLine (edits.FilterReplace line) → is_there s line ≡ Some old → step s (edits.FilterReplace line) ≡ Ok (t, done)
    → (serials : List ℕ) × Overrides s.rows t.rows (moved_there old (moved_row s line old serials) serials (bytes_eq old.mask line.mask.words && bytes_eq old.key line.key.words))
replace_changes s t line old done sound is there stepped =
    let it = replaces s t line old done there stepped in
    let found = old_found s line old sound there in
    let after : Sound t = subst Sound (ap (state_after s) stepped) (step_sound s (edits.FilterReplace line) sound is) in
    (it.r.serials, by_same s t old (moved_row s line old it.r.serials) it.r.serials sound.together found.only after.together (bytes_eq old.mask line.mask.words && bytes_eq old.key line.key.words) (ap (λ (u : State). u.rows) it.after))
