use Rattle.std.proofs.Common.{ℕ, List, take}
use Rattle.filter_state.specs.States.{State}
use Rattle.filter_lists.specs.Spells.{Spells}
use Rattle.slot_pasts.specs.Serials.{past_at}
use Rattle.state_past.specs.Brought.{Brought, AllUpTo}
use Rattle.state_past.specs.Told.{masks_of, AreLeft, words_told}
use Rattle.state_past.proofs.masks.note_masks.Given as goal

abbrev pub invariant-loop-filter : goal.invariant-loop-filter
invariant-loop-filter l = record {
  up_to : AllUpTo l.from (past_at l.masks);
  brought : (words : ℕ → List ℕ) (s : State) → Spells l.lists s → AreLeft s l.going words
      → Brought l.from words_told words (masks_of (take l.filter-index l.going)) (past_at l.fn.masks) (past_at l.masks);
}
