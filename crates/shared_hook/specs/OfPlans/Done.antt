-- What an edit leaves that was done on a whole desk (this project's own).
use Rattle.std.specs.Prelude.{◌≡◌, ◌+◌, ◌≤◌, [], ◌∷◌, ◌++◌, Ok}
use Rattle.store_history.specs.History.{edits_of}
use Rattle.pin_store.specs.Sheets.{IsSameButCells}
use Rattle.pin_store.specs.Calls.{sheet_of}
use Rattle.filter_state.specs.declared.edit.Edit.{Edit}
use Rattle.filter_state.specs.declared.refusal.Done.{Done}
use Rattle.filter_state.specs.Steps.{step}
use Rattle.hook_store_law.specs.OfEdits.Premises.{now, next}
use Rattle.desk_needs.specs.declared.pool.Pool.{Pool}
use Rattle.desk_needs.specs.Needs.{needed_of}
use Rattle.desk_actions.specs.OfLedgers.Kept.{commits}
use Rattle.desk_parts.specs.declared.parts.Parts.{Parts}
use Rattle.desk_parts.specs.Desk.{IsDesk}
use Rattle.shared_hook.specs.OfBalance.Counts.{free_of, AreCounted}

-- each pool has as much free as the edit needs
abbrev pub Suffices : Parts → Edit → Type 0
Suffices parts y = (pool : Pool) → needed_of (now (commits parts.ledger)) y pool ≤ free_of parts.pools pool

-- THE EDIT IS DONE: there is a desk again, one edit further, which the lists accepted with this answer; no
-- pool has lost more than the edit needs, and what is free, what left and what is in use add up as before
pub record IsDone (old new : Parts) (y : Edit) (done : Done) : Type 0 where
  pub desk : IsDesk new
  pub point : new.ledger.point ≡ old.ledger.point + 1
  pub journal : edits_of (commits new.ledger) ≡ edits_of (commits old.ledger) ++ y ∷ []
  pub steps : step (now (commits old.ledger)) y ≡ Ok (next (commits old.ledger) y, done)
  pub sheet : IsSameButCells (sheet_of old.ledger.writer.place) (sheet_of new.ledger.writer.place)
  pub lowered : (pool : Pool) → free_of old.pools pool
      ≤ free_of new.pools pool + needed_of (now (commits old.ledger)) y pool
  pub counted : AreCounted old.pools (now (commits old.ledger)) → AreCounted new.pools (now (commits new.ledger))
