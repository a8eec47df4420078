use Rattle.std.proofs.Common.{◌∙◌, Err, inr, ap, refl}
use Rattle.std.proofs.lemmas.Result.{err_from_is_err_and}
use Rattle.tool_words.specs.Command.{Recheck}
use Rattle.tool_run.specs.Rechecks.{status_of_check}
use Rattle.tool_run.proofs.Writing.{put_caused}
use Rattle.tool_run.proofs.run_recheck.run_recheck.Goals as goal

pub returns-in_err-write_check-clause-cause : goal.returns-in_err-write_check-clause-cause
returns-in_err-write_check-clause-cause g c =
    let put = c.in_err-write_check.field-0.0 in
    let p = err_from_is_err_and c.from_residual-in_err-write_check.result
    c.from_residual-in_err-write_check.ensures.1 in
    let check = c.in_ok-check.check in
    rw (p.1, p.2) (put_caused g.S.Shelf.held g.S.Shelf.read_faults g.S.Shelf.failed_name
    g.S.Shelf.write_faults g.O.Sink.faults c.args.shelf.now c.judge.new.shelf c.args.out.now
    c.write_check.new.out
    (Recheck c.args.job.now c.args.report.now) put (status_of_check check, (check, c.in_ok-check.ensures.judged, refl)) (λ failed. inr
    (c.write_check.ensures.cause (c.in_err-write_check.was ∙ ap Err failed))))
