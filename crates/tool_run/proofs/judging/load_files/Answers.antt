use Rattle.std.proofs.Common.{[], ◌∷◌}
use Rattle.tool_run.proofs.Asking.{job_then_more, report_asked, report_done}
use Rattle.tool_run.proofs.judging.load_files.Goals as goal

pub returns-in_err-job-clause-fetched : goal.returns-in_err-job-clause-fetched
returns-in_err-job-clause-fetched g c =
    job_then_more (g.S.Shelf.held c.args.shelf.now) (g.S.Shelf.fetched c.args.shelf.now)
    (g.S.Shelf.fetched c.load_job.new.shelf) c.args.job.now (c.args.report.now ∷ []) c.load_job.ensures.fetched_up_to

pub returns-in_err-report-clause-fetched : goal.returns-in_err-report-clause-fetched
returns-in_err-report-clause-fetched g c =
    report_asked (g.S.Shelf.held c.args.shelf.now) (g.S.Shelf.fetched c.args.shelf.now)
    (g.S.Shelf.fetched c.load_job.new.shelf) (g.S.Shelf.fetched c.load.new.shelf) c.args.job.now c.args.report.now
    c.in_ok-job.job.job c.in_ok-job.ensures.done.job c.in_ok-job.ensures.fetched
    c.in_err-report.ensures.fetched

pub returns-clause-fetched : goal.returns-clause-fetched
returns-clause-fetched g c =
    report_done (g.S.Shelf.held c.args.shelf.now) (g.S.Shelf.fetched c.args.shelf.now)
    (g.S.Shelf.fetched c.load_job.new.shelf) (g.S.Shelf.fetched c.load.new.shelf) c.args.job.now c.args.report.now
    c.in_ok-job.job.job c.in_ok-job.ensures.done.job c.in_ok-job.ensures.fetched
    c.in_ok-report.ensures.fetched
