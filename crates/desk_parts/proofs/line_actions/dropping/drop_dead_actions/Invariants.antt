use Rattle.desk_parts.proofs.OfLineActions.Going.{DropLoop}
use Rattle.desk_parts.proofs.line_actions.dropping.drop_dead_actions.Given as goal

abbrev pub invariant-loop-serial : goal.invariant-loop-serial
invariant-loop-serial l = DropLoop l.fn.lists l.fn.pools l.fn.places l.fn.serials l.pools l.places l.serial-index
