use Rattle.std.proofs.Common.{arith}
use Rattle.frame_edit.proofs.Places.{retagged-moved_down}
use Rattle.frame_edit.proofs.tag.insert_tag.Goals as goal

pub returns : goal.returns
returns c =
    rw (c.write_tag.ensures, c.copy_within.ensures.after) (retagged-moved_down c.args.room.now c.args.tpid c.args.tci (omega (arith, c.requires)))
