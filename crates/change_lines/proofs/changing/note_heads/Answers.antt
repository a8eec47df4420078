use Rattle.std.proofs.Common.{rules, ◌≡◌, ◌∙◌}
use Rattle.std.specs.Prelude.{if◌then◌else◌}
use Rattle.journal_replay.specs.Passed.{is_accepted}
use Rattle.change_lines.proofs.Noting.{noted, unnoted}
use Rattle.change_lines.proofs.changing.note_heads.Goals as goal

pub returns-in-Accepted-clause-knows : goal.returns-in-Accepted-clause-knows
returns-in-Accepted-clause-knows c = λ journal own long knows spells.
    let one : (if is_accepted c.args.kind.now then 1 else 0) ≡ 1 = search rules in
    noted c.note.result c.note.new.self journal own c.args.lists.now (long ∙ one) (λ edit. c.note.ensures.knows journal edit knows) spells

pub returns-in-Refused-clause-knows : goal.returns-in-Refused-clause-knows
returns-in-Refused-clause-knows c = λ journal own long knows spells.
    let none : (if is_accepted c.args.kind.now then 1 else 0) ≡ 0 = search rules in
    unnoted c.args.heads.now journal own (long ∙ none) knows

pub returns-in-Syntax-clause-knows : goal.returns-in-Syntax-clause-knows
returns-in-Syntax-clause-knows c = λ journal own long knows spells.
    let none : (if is_accepted c.args.kind.now then 1 else 0) ≡ 0 = search rules in
    unnoted c.args.heads.now journal own (long ∙ none) knows
