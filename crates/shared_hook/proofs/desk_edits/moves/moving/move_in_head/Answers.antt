use Rattle.shared_hook.proofs.OfDeskEdits.OfMoves.DeskMoved.{may_move, moved_on}
use Rattle.shared_hook.proofs.desk_edits.moves.moving.move_in_head.Goals as goal

pub move_at-requires-clause-may : goal.move_at-requires-clause-may
move_at-requires-clause-may g c = let up = c.requires.raising in may_move up.0 c.args.parts.now g.E.EditName.edit up.1 up.2 c.args.built.now up.3 c.args.hook c.requires.free

pub returns-clause-moved : goal.returns-clause-moved
returns-clause-moved g c = let up = c.requires.raising in let told = c.move_at.ensures in let m = c.requires.moves in
    moved_on up.0 c.args.parts.now g.E.EditName.edit up.1 up.2 c.args.built.now up.3 c.args.hook c.move_at.new.parts told.swapped told.masks told.pools told.sized (told.left m.0 m.1 m.2).others told.rest
