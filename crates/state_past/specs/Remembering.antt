-- What a past remembers (this project's own).
use Rattle.std.specs.Prelude.{◌≡◌, ◌⊎◌, ℕ, List, [], length, Result, Ok, Err}
use Rattle.filter_state.specs.declared.edit.Edit.{Edit}
use Rattle.filter_state.specs.declared.refusal.Done.{Done}
use Rattle.filter_state.specs.declared.refusal.Refusal.{Refusal}
use Rattle.filter_state.specs.declared.refusal.Refusal.TheVariants as refusals
use Rattle.filter_state.specs.Journals.{IsLawful}
use Rattle.filter_state.specs.Steps.{Stepped}
use Rattle.hook_lists.specs.declared.kept.Kept.{Kept}
use Rattle.filter_lists.specs.Spells.{Spells}
use Rattle.filter_lists.specs.Edits.{Stays}
use Rattle.edit_effects.specs.OfEffects.Parts.{words_of, params_at}
use Rattle.slot_pasts.specs.Pasts.{stood}
use Rattle.slot_pasts.specs.Names.{past_of}
use Rattle.state_past_laws.specs.Slots.{slot_in}
use Rattle.state_past_laws.specs.Telling.{Tells}
use Rattle.state_past.specs.declared.past.StatePast.{StatePast}
use Rattle.slot_pasts.specs.Serials.{past_at}
use Rattle.state_past.specs.Told.{words_told, named_slot}
use Rattle.tc_base.specs.Memory.{no_memory}

-- THE PAST REMEMBERS A JOURNAL: at each of its points it tells what stood in each slot, the words of each mask
-- and the parameters of each action. No slot has an empty name.
pub record Remembers (past : StatePast) (journal : List Edit) : Type 0 where
  pub lawful : IsLawful journal
  pub point : past.point ≡ length journal
  pub slots : (mask : ℕ) (key : List ℕ)
      → Tells (λ s. slot_in s.rows mask key) stood (past_of past.slots (named_slot mask key)) journal
  pub unnamed : past_of past.slots [] ≡ []
  pub masks : (mask : ℕ) → Tells (λ s. words_of s mask) words_told (past_at past.masks mask) journal
  pub actions : (serial : ℕ) → Tells (λ s. params_at s serial) stood (past_at past.actions serial) journal

-- A step of the lists that is remembered, against the step of a state that they spell: as without that, but
-- that want of memory may come in any case, and then nothing is said of the lists.
abbrev pub IsFollowed : Kept → Kept → Result Done Refusal → Stepped → Type 0
IsFollowed old new (Ok done) (Ok (next, said)) = (done ≡ said) × Spells new next
IsFollowed old new (Err refusal) (Err said) = (refusal ≡ refusals.NoMemory no_memory) ⊎ ((refusal ≡ said) × Stays old new)
IsFollowed old new (Err refusal) (Ok next) = refusal ≡ refusals.NoMemory no_memory
IsFollowed old new (Ok done) (Err said) = ⊥
