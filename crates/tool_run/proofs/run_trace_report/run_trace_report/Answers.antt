use Rattle.std.proofs.Common.{◌∙◌, ℕ, List, Err, inr, ap, refl, subst}
use Rattle.std.proofs.lemmas.Result.{err_from_is_err_and}
use Rattle.report_trace.specs.Passed.{IsReplayedOf}
use Rattle.tool_words.specs.Command.{TraceReport}
use Rattle.tool_run.specs.Rechecks.{status_of_check}
use Rattle.tool_run.specs.ReportTraces.{IsToldOf, GivesReportTrace, check_of}
use Rattle.tool_run.proofs.ReportTracing.{report_gives}
use Rattle.tool_run.proofs.Tracing.{put_is_not_done, put_may_leave}
use Rattle.tool_run.proofs.Writing.{put_caused}
use Rattle.tool_run.proofs.run_trace_report.run_trace_report.Given as given
use Rattle.tool_run.proofs.run_trace_report.run_trace_report.Goals as goal
use Rattle.tool_run.proofs.run_trace_report.run_trace_report.Goals.{In_ok-replayed}

-- what is held gives what is to be written
gives : (g : given.Over) (c : In_ok-replayed g) → (text : List ℕ)
    × IsToldOf c.in_ok-files.files.job c.in_ok-files.files.report.items
    (check_of c.in_ok-replayed.replayed) text
    × GivesReportTrace (g.S.Shelf.held c.args.shelf.now) c.args.job.now c.args.report.now
    (check_of c.in_ok-replayed.replayed) text
gives g c =
    let files = c.in_ok-files.files in
    let is = subst (λ (bytes : List ℕ). IsReplayedOf files.job bytes c.in_ok-replayed.replayed)
    c.deref.ensures.value c.in_ok-replayed.ensures.replayed in
    report_gives (g.S.Shelf.held c.args.shelf.now) c.args.job.now c.args.report.now files.job
    files.report.items c.in_ok-replayed.replayed c.in_ok-files.ensures.job c.in_ok-files.ensures.report is

pub returns-in_err-tell-clause-cause : goal.returns-in_err-tell-clause-cause
returns-in_err-tell-clause-cause g c =
    let at = goal.at.returns-in_err-tell-clause-cause g c in
    let p = err_from_is_err_and c.from_residual-in_err-tell.result c.from_residual-in_err-tell.ensures.1 in
    let check = check_of c.in_ok-replayed.replayed in
    let it = gives g at.In_ok-replayed in
    rw (p.1, p.2) (put_caused g.S.Shelf.held g.S.Shelf.read_faults g.S.Shelf.failed_name
    g.S.Shelf.write_faults g.O.Sink.faults c.args.shelf.now c.load_files.new.shelf c.args.out.now
    c.tell.new.out (TraceReport c.args.job.now c.args.report.now) c.in_err-tell.field-0.0
    (status_of_check check, (check, it.2.judges, refl))
    (λ failed. inr (c.tell.ensures.cause (c.in_err-tell.was ∙ ap Err failed))))

pub returns-in_err-tell-clause-not_done : goal.returns-in_err-tell-clause-not_done
returns-in_err-tell-clause-not_done g c =
    let p = err_from_is_err_and c.from_residual-in_err-tell.result c.from_residual-in_err-tell.ensures.1 in
    rw (p.1, p.2) (put_is_not_done c.in_err-tell.field-0.0)

pub returns-in_err-tell-clause-nothing : goal.returns-in_err-tell-clause-nothing
returns-in_err-tell-clause-nothing g c =
    let p = err_from_is_err_and c.from_residual-in_err-tell.result c.from_residual-in_err-tell.ensures.1 in
    rw (p.1, p.2) (put_may_leave (g.S.Shelf.held c.args.shelf.now) (g.S.Shelf.held c.load_files.new.shelf)
    (g.O.Sink.written c.args.out.now) (g.O.Sink.written c.tell.new.out) c.in_err-tell.field-0.0)

pub returns-in_err-tell-clause-so_far : goal.returns-in_err-tell-clause-so_far
returns-in_err-tell-clause-so_far g c =
    let at = goal.at.returns-in_err-tell-clause-so_far g c in
    let it = gives g at.In_ok-replayed in (
      c.load_files.ensures.held,
      inr (record { check = _; text = it.0; gives = it.2; wrote = c.tell.ensures.up_to it.0 it.1 }),
    )

pub returns-clause-so_far : goal.returns-clause-so_far
returns-clause-so_far g c =
    let at = goal.at.returns-clause-so_far g c in
    let it = gives g at.In_ok-replayed in (
      c.load_files.ensures.held,
      inr (record { check = _; text = it.0; gives = it.2; wrote = c.tell.ensures.up_to it.0 it.1 }),
    )

pub returns-clause-done : goal.returns-clause-done
returns-clause-done g c =
    let at = goal.at.returns-clause-done g c in
    let it = gives g at.In_ok-replayed in
    record {
      check = check_of c.in_ok-replayed.replayed;
      text = it.0;
      gives = it.2;
      ended = ap status_of_check c.judgment.ensures;
      same = c.load_files.ensures.held;
      wrote = c.in_ok-tell.ensures.all it.0 it.1;
    }
