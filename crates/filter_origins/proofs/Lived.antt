-- An action that is live has a line.
use Rattle.std.proofs.Common.{◌≡◌, ◌∙◌, ◌⊎◌, inl, inr, ℕ, zero, suc, ◌<◌, ◌≤◌, Bool, true, false, List, length, Option, Some, None, refl, sym, ap, subst, arith}
use Rattle.std.specs.Prelude.{◌≢◌, ◌||◌, nat_lt, nat_le, slice_get, option_map, if◌then◌else◌}
use Rattle.std.proofs.lemmas.Bool.{cases_lt, and_from, le-leb}
use Rattle.std.proofs.lemmas.Option.{slice_get-map}
use Rattle.filter_state.specs.declared.edit.Edit.{Edit}
use Rattle.filter_state.specs.States.{Action, State}
use Rattle.filter_state.specs.Actions.{has_serial}
use Rattle.filter_state.specs.Sound.{Sound, IsAction}
use Rattle.filter_state.specs.Tables.{first_where}
use Rattle.filter_state.specs.Steps.{step}
use Rattle.filter_state.specs.Journals.{state_after, state_at, IsLawful}
use Rattle.filter_state.proofs.Pairs.{found}
use Rattle.std.proofs.Common.{eqb-true}
use Rattle.edit_effects.specs.OfEffects.Parts.{params_at}
use Rattle.edit_lines.specs.declared.line.Line.{Line}
use Rattle.filter_origins.specs.Entries.{Entry, edits_of, line_of, line_at}
use Rattle.filter_origins.specs.Brought.{makes, changes, sets_after, brought_action}
use Rattle.filter_origins.proofs.Standing.{step_at, get_none}

-- a serial that was given
pub given : (s : State) (serial : ℕ) → Sound s → params_at s serial ≢ None → (1 ≤ serial) × (serial ≤ s.actions_made)
given s serial sound some = pick (first_where (has_serial serial) s.actions) refl some
  where
    pick : (o : Option Action) → first_where (has_serial serial) s.actions ≡ o → (option_map (λ (action : Action). action.params) o ≡ None → ⊥) → (1 ≤ serial) × (serial ≤ s.actions_made)
    pick None first is = absurd (is refl)
    pick (Some action) first is =
        let own = found (IsAction s) (has_serial serial) s.actions action sound.actions first in
        let range = own.0.serial in
        let same : action.serial ≡ serial = eqb-true action.serial serial own.1 in
        subst (λ (n : ℕ). (1 ≤ n) × (n ≤ s.actions_made)) same range

-- the edit that brought it
pub record IsBrought (journal : List Edit) (point serial : ℕ) : Type 0 where
  pub place : ℕ
  pub before : place < point
  pub brought : brought_action journal point serial ≡ Some (suc place)

module _ (journal : List Edit) (lawful : IsLawful journal) (serial : ℕ) (least : 1 ≤ serial) where
  pub brought_there : (point : ℕ) → point ≤ length journal → serial ≤ (state_at point journal).actions_made → IsBrought journal point serial
  brought_there zero within high = absurd (omega (arith, least, high))
  brought_there (suc place) within high = at_place (slice_get journal place) refl (λ low. brought_there place (omega (arith, within)) low)
    where
      now : sets_after journal place serial (slice_get journal place) ≡ true → IsBrought journal (suc place) serial
      now is = record { place = place; before = omega arith; brought = ap (λ (b : Bool). if b then Some (suc place) else brought_action journal place serial) is }

      later : sets_after journal place serial (slice_get journal place) ≡ false → IsBrought journal place serial → IsBrought journal (suc place) serial
      later is it = let less = it.before in record { place = it.place; before = omega (arith, less); brought = ap (λ (b : Bool). if b then Some (suc place) else brought_action journal place serial) is ∙ it.brought }

      by_sets : (b : Bool) → sets_after journal place serial (slice_get journal place) ≡ b → (sets_after journal place serial (slice_get journal place) ≡ false → IsBrought journal place serial) → IsBrought journal (suc place) serial
      by_sets true is early = now is
      by_sets false is early = later is (early is)

      at_place : (o : Option Edit) → slice_get journal place ≡ o → (serial ≤ (state_at place journal).actions_made → IsBrought journal place serial) → IsBrought journal (suc place) serial
      at_place None is early = absurd (get_none journal place is within)
      at_place (Some edit) is early =
          let st = step_at journal place edit lawful is in
          let after : state_after (state_at place journal) (step (state_at place journal) edit) ≡ state_at (suc place) journal = ap (state_after (state_at place journal)) st.steps ∙ sym st.after in
          by_sets (sets_after journal place serial (slice_get journal place)) refl (λ not. by_made edit is after not (cases_lt (state_at place journal).actions_made serial) early)
        where
          by_made : (edit : Edit) → slice_get journal place ≡ Some edit → state_after (state_at place journal) (step (state_at place journal) edit) ≡ state_at (suc place) journal → sets_after journal place serial (slice_get journal place) ≡ false
              → ((state_at place journal).actions_made < serial) ⊎ (serial ≤ (state_at place journal).actions_made) → (serial ≤ (state_at place journal).actions_made → IsBrought journal place serial) → IsBrought journal place serial
          by_made edit is after not (inr low) early = early low
          by_made edit is after not (inl new) early =
              let makes_it : makes (state_at place journal) (state_after (state_at place journal) (step (state_at place journal) edit)) serial ≡ true =
              ap (λ (u : State). makes (state_at place journal) u serial) after ∙ and_from (nat_lt (state_at place journal).actions_made serial) (nat_le serial (state_at (suc place) journal).actions_made) (le-leb (suc (state_at place journal).actions_made) serial new) (le-leb serial (state_at (suc place) journal).actions_made high) in
              let set : sets_after journal place serial (slice_get journal place) ≡ true = ap (sets_after journal place serial) is ∙ ap (λ (b : Bool). b || changes (state_at place journal) edit serial) makes_it in
              absurd (cc (sym set ∙ not))

pub has_maker : (entries : List Entry) (place : ℕ) → place < length (edits_of entries) → (by : Line) × (line_at entries (suc place) ≡ Some by)
has_maker entries place within = by_entry (slice_get entries place) refl
  where
    by_entry : (o : Option Entry) → slice_get entries place ≡ o → (by : Line) × (line_at entries (suc place) ≡ Some by)
    by_entry (Some entry) is = (line_of (suc place) entry, ap (option_map (line_of (suc place))) is)
    by_entry None is = absurd (get_none (edits_of entries) place (slice_get-map (λ (entry : Entry). entry.edit) entries place ∙ ap (option_map (λ (entry : Entry). entry.edit)) is) (omega (arith, within)))
