use Rattle.std.proofs.Common.{◌≡◌, ◌+◌, ◌-◌, ℕ, length, drop, sym, ap, ◌∙◌, arith}
use Rattle.std.specs.List.{between}
use Rattle.std.proofs.lemmas.List.Edits.{length-between}
use Rattle.frame_edit.specs.EditedFrame.{with_bytes}
use Rattle.frame_edit.specs.contracts.frame.Frame.{the_view}
use Rattle.frame_edit.specs.Tags.{with_tag}
use Rattle.frame_edit.proofs.Places.{between-written, between-behind, pushed_is}
use Rattle.frame_edit.proofs.frame.Frame.push.Goals as goal

-- the room is the frame with four bytes in front
pub returns-clause-ok : goal.returns-clause-ok
returns-clause-ok c =
    let q = c.self.inside in
    let placed = c.self.invariant in
    let xs = c.deref_mut.result.now in
    let same = c.deref_mut.ensures.value in
    let all = ap length same in
    let room = placed.room in
    let inside = placed.inside in
    let a = q.start - 4 in
    let start : q.start ≡ a + 4 = omega arith in
    let part = length-between xs a q.end (omega arith) in
    let kept = c.insert_tag.auto.room in
    let written = between-written q.buffer a q.end xs c.insert_tag.new.room same (omega arith) (omega arith) (omega arith) in
    let frame : drop 4 (between a q.end xs) ≡ between q.start q.end q.buffer.items =
    sym (between-behind xs a q.end) ∙ ap (λ (i : ℕ). between i q.end xs) (sym start) ∙ ap (between q.start q.end) same in
    let long = length-between q.buffer.items q.start q.end (omega arith) in
    rw (← c.self.view_is) (ap (with_bytes (the_view q)) (
    written ∙ c.insert_tag.ensures ∙ ap (λ bs. with_tag bs c.args.tpid c.args.tci) frame
    ∙ sym (pushed_is (between q.start q.end q.buffer.items) c.args.tpid c.args.tci (omega arith))
    ))
