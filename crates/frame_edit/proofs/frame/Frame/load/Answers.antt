use Rattle.std.proofs.Common.{◌+◌, length, ap, ◌∙◌, arith, rules}
use Rattle.frame_edit.proofs.Places.{between-written, loaded_frame_is}
use Rattle.frame_edit.proofs.frame.Frame.load.Goals as goal

pub returns : goal.returns
returns c =
    let q = c.self.inside in
    let bytes = c.args.bytes.now in
    let same = c.deref_mut.ensures.value in
    let all = ap length same in
    let room = c.self.invariant.room in
    let short = c.requires in
    let after = c.copy_from_slice.ensures.after in
    let written = between-written q.buffer 64 (64 + length bytes) c.deref_mut.result.now c.copy_from_slice.new.self same (omega arith) (omega arith) (omega (arith, ap length after)) in
    loaded_frame_is _ bytes (written ∙ after) (omega arith) (search rules)
