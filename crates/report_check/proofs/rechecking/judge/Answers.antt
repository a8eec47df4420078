use Rattle.std.proofs.Common.{rules, ◌≡◌, Bool, true, Ok, ap, sym, subst}
use Rattle.journal_replay.specs.declared.replay.Replay.{Replay}
use Rattle.report_check.specs.Replayed.{IsReplayOf}
use Rattle.report_check.proofs.LastLines.{replay_of}
use Rattle.report_check.proofs.rechecking.judge.Goals as goal

pub returns-clause-check : goal.returns-clause-check
returns-clause-check c =
    let went : c.in_ok-check_rounds.field-0 ≡ true = search rules in
    let yes : c.in_ok-check_closing.field-0 ≡ true = search rules in
    let between = c.in_ok-check_rounds.ensures.through (ap (λ (t : Bool). Ok t) went) in
    let end = c.in_ok-check_closing.ensures.through (ap (λ (t : Bool). Ok t) yes) c.args.job.now between in
    c.closed_at.ensures.check c.args.job.now end.0 c.check_rounds.new.progress.replay.journal.items c.requires.loaded end.2

pub returns-clause-lawful : goal.returns-clause-lawful
returns-clause-lawful c = λ lawful.
    let went : c.in_ok-check_rounds.field-0 ≡ true = search rules in
    let yes : c.in_ok-check_closing.field-0 ≡ true = search rules in
    let between = c.in_ok-check_rounds.ensures.through (ap (λ (t : Bool). Ok t) went) in
    let end = c.in_ok-check_closing.ensures.through (ap (λ (t : Bool). Ok t) yes) c.args.job.now between in
    let ran = c.closed_at.ensures.run (cc lawful) c.args.job.now end.0 c.check_rounds.new.progress.replay.journal.items end.2 in
    subst (λ (replay : Replay). IsReplayOf c.args.job.now c.args.report.now replay) (sym c.in_ok-check_closing.ensures.replay)
    (replay_of c.args.job.now c.args.report.now c.check_rounds.new.progress.replay end.0 c.requires.loaded between.kept end.1 ran)
