use Rattle.std.proofs.Common.{◌∙◌, List, ℕ, ◌++◌, length, ap}
use Rattle.frame_edit.specs.EditedFrame.{EditedFrame}
use Rattle.trace_lines.specs.Lines.{joined}
use Rattle.trace_lines.proofs.Visited.{visit_told, edit_told}
use Rattle.trace_lines.proofs.telling.tell_visit.Goals as goal

pub returns-clause-lines : goal.returns-clause-lines
returns-clause-lines g c = λ st answer is asks goes.
    let names = g.N.Naming.names c.args.names.now in
    let size = ap length (c.bytes.ensures.bytes ∙ ap (λ (frame : EditedFrame). frame.bytes) c.frame.ensures) in
    c.in_ok-edit.ensures.lines
    ∙ ap (λ (lines : List (List ℕ)). c.args.page.now ++ joined lines)
    (visit_told c.args.told names st c.args.walk.now.standing answer c.args.answered c.args.point c.args.before _ _ _ is asks goes
    c.key.ensures size c.stand.ensures)

pub returns-clause-decided : goal.returns-clause-decided
returns-clause-decided g c = λ st answer is asks goes.
    let names = g.N.Naming.names c.args.names.now in
    c.in_ok-edit.ensures.decided
    ∙ edit_told names st c.args.walk.now.standing answer c.args.answered c.args.point _ asks goes c.key.ensures
