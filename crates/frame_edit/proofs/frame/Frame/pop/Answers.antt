use Rattle.std.proofs.Common.{◌-◌, length, drop, sym, ap, ◌∙◌, arith}
use Rattle.std.specs.List.{between}
use Rattle.std.specs.Vec.{with_items}
use Rattle.std.proofs.lemmas.List.Edits.{length-between}
use borrow.Rule.Slice.PartMut.{put_mid}
use Rattle.frame_edit.specs.EditedFrame.{with_bytes}
use Rattle.frame_edit.specs.contracts.frame.Frame.{the_view}
use Rattle.frame_edit.specs.Tags.{popped}
use Rattle.frame_edit.proofs.Places.{between-written, between-behind, popped_is}
use Rattle.frame_edit.proofs.frame.Frame.pop.Goals as goal

pub returns-then-has_tag : goal.returns-then-has_tag
returns-then-has_tag c =
    let q = c.self.inside in
    let placed = c.self.invariant in
    let xs = c.deref_mut.result.now in
    let same = c.deref_mut.ensures.value in
    let all = ap length same in
    let room = placed.room in
    let inside = placed.inside in
    let ordered = placed.ordered in
    let part = length-between xs q.start q.end (omega arith) in
    let kept = c.remove_tag.auto.frame in
    let ys = c.remove_tag.new.frame in
    let written = between-written q.buffer q.start q.end xs ys same (omega arith) (omega arith) (omega arith) in
    let buffer = (with_items q.buffer (put_mid q.start (q.end - q.start) xs ys)).items in
    let frame = ap (between q.start q.end) same in
    let tagged = sym c.has_tag.ensures ∙ c.if-has_tag.true in
    rw (← c.self.view_is) (ap (with_bytes (the_view q)) (
    between-behind buffer q.start q.end ∙ ap (drop 4) written ∙ c.remove_tag.ensures
    ∙ sym (popped_is (between q.start q.end xs) tagged) ∙ ap popped frame
    ))
