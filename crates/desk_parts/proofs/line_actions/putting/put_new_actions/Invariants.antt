use Rattle.std.proofs.Common.{◌≤◌}
use Rattle.pin_store.specs.Sheets.{base_of}
use Rattle.pin_store.specs.Calls.{seen_by, sheet_of, IsSeatOf}
use Rattle.desk_parts.proofs.OfLineActions.Finished.{PutLoop}
use Rattle.desk_parts.proofs.line_actions.putting.put_new_actions.Given as goal

abbrev pub invariant-loop-earlier : goal.invariant-loop-earlier
invariant-loop-earlier g l = IsSeatOf l.store l.writer.place
    × PutLoop (seen_by l.fn.writer.place) (base_of (sheet_of l.fn.writer.place)) l.fn.point l.fn.made g.E.EditName.edit l.fn.store.shape (sheet_of l.fn.writer.place) l.fn.pools
    (seen_by l.writer.place) (sheet_of l.writer.place) l.pools l.places l.earlier
    × (l.earlier ≤ l.fn.lists.actions.made)
