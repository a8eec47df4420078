use Rattle.filter_lists.proofs.OfReplacing.Fitting.{moves_room, out_room}
use Rattle.filter_lists.proofs.replacing.doing.change_in.Goals as goal

pub move_within-requires-clause-room : goal.move_within-requires-clause-room
move_within-requires-clause-room c = moves_room c.args.tables.now c.args.old.now c.args.change c.in-Moves.to c.in-Moves.arrival c.in-Moves.is c.requires

pub move_out-requires-clause-room : goal.move_out-requires-clause-room
move_out-requires-clause-room c = (out_room c.args.tables.now c.args.old.now c.args.change c.in-MovesOut.filters c.in-MovesOut.arrival c.in-MovesOut.is c.requires).0

pub move_out-requires-clause-empty : goal.move_out-requires-clause-empty
move_out-requires-clause-empty c = (out_room c.args.tables.now c.args.old.now c.args.change c.in-MovesOut.filters c.in-MovesOut.arrival c.in-MovesOut.is c.requires).1

pub move_out-requires-clause-place : goal.move_out-requires-clause-place
move_out-requires-clause-place c = (out_room c.args.tables.now c.args.old.now c.args.change c.in-MovesOut.filters c.in-MovesOut.arrival c.in-MovesOut.is c.requires).2
