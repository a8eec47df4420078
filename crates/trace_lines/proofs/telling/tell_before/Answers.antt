use Rattle.std.proofs.Common.{◌∙◌, ap}
use Rattle.frame_edit.specs.EditedFrame.{EditedFrame}
use Rattle.frame_edit.specs.Tags.{ether_type_of}
use Rattle.trace_lines.proofs.Stands.{before_lines, before_seen}
use Rattle.trace_lines.proofs.telling.tell_before.Goals as goal

pub returns-clause-lines : goal.returns-clause-lines
returns-clause-lines c =
    let types = c.ether_type.ensures ∙ ap (λ (frame : EditedFrame). ether_type_of frame.bytes) c.frame.ensures in
    before_lines c.args.told c.args.seen.now c.args.walk.now.standing _ _ _ _ _ _ c.stand-stand.ensures types c.key.ensures c.in_ok-tell_table.ensures c.in_ok-tell_fields.ensures.lines

pub returns-clause-seen : goal.returns-clause-seen
returns-clause-seen c =
    let types = c.ether_type.ensures ∙ ap (λ (frame : EditedFrame). ether_type_of frame.bytes) c.frame.ensures in
    before_seen c.args.seen.now _ c.args.walk.now.standing _ _ _ c.stand-stand.ensures types c.key.ensures c.in_ok-tell_fields.ensures.seen
