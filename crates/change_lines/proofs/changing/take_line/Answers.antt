use Rattle.std.proofs.Common.{◌∙◌, ◌++◌, ℕ, ap, arith}
use Rattle.tc_words.specs.Lines.{words_of}
use Rattle.journal_replay.specs.Passed.{event_line}
use Rattle.change_lines.proofs.Noting.{taken}
use Rattle.change_lines.proofs.changing.take_line.Goals as goal

pub push_event_line-requires : goal.push_event_line-requires
push_event_line-requires c =
    let point = c.point-before.ensures in
    let is = c.requires.kept.remembers.point in
    let short = c.requires.short in
    omega (arith, point, is, short)

pub note_heads-requires : goal.note_heads-requires
note_heads-requires c =
    let point = c.requires.knows.point in
    let short = c.requires.short in
    omega (arith, point, short)

pub returns-clause-told : goal.returns-clause-told
returns-clause-told c =
    c.in_ok-push_event_line.ensures
    ∙ ap (λ (n : ℕ). c.args.lines.now.items ++ event_line n c.in_ok-event.event) (c.point-before.ensures ∙ c.requires.kept.remembers.point)

pub returns-clause-knows : goal.returns-clause-knows
returns-clause-knows c =
    taken c.args.heads.now c.note_heads.new.heads c.args.replay.now c.meet_line.new.replay (words_of c.args.text.now) c.args.number c.in_ok-event.event c.in_ok-event.ensures c.in_ok-note_heads.ensures.knows
    c.requires.knows
