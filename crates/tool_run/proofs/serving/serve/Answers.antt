use Rattle.tool_run.proofs.Tracing.{traced_caused}
use Rattle.tool_run.proofs.serving.serve.Goals as goal

pub returns-in-Err-run_walk-clause-cause : goal.returns-in-Err-run_walk-clause-cause
returns-in-Err-run_walk-clause-cause g c = rw c.in-Walk.is (c.in-Err-run_walk.ensures.cause)

pub returns-in-Err-run_recheck-clause-cause : goal.returns-in-Err-run_recheck-clause-cause
returns-in-Err-run_recheck-clause-cause g c = rw c.in-Recheck.is (c.in-Err-run_recheck.ensures.cause)

pub returns-in-Ok-run_recheck-clause-fetched : goal.returns-in-Ok-run_recheck-clause-fetched
returns-in-Ok-run_recheck-clause-fetched g c = rw c.in-Recheck.is (c.run_recheck.ensures.fetched)

pub returns-in-Err-run_trace-clause-cause : goal.returns-in-Err-run_trace-clause-cause
returns-in-Err-run_trace-clause-cause g c = rw c.in-Trace.is (c.in-Err-run_trace.ensures.cause)

pub returns-in-Ok-run_trace-clause-cause : goal.returns-in-Ok-run_trace-clause-cause
returns-in-Ok-run_trace-clause-cause g c =
    rw (c.in-Trace.is, c.ended-in-Ok-run_trace.ensures)
    (traced_caused g.S.Shelf.held g.S.Shelf.read_faults g.S.Shelf.failed_name g.S.Shelf.write_faults
    g.O.Sink.faults c.args.shelf.now c.run_trace.new.shelf c.args.out.now c.run_trace.new.out c.in-Trace.hook
    c.in-Trace.batch.now c.in-Trace.capture.now _ c.in-Ok-run_trace.refused c.in-Ok-run_trace.ensures.done.gives)

pub returns-in-TraceReport-clause-cause : goal.returns-in-TraceReport-clause-cause
returns-in-TraceReport-clause-cause g c = rw c.in-TraceReport.is (c.serve_trace.ensures.cause)

pub returns-in-Foresee-clause-cause : goal.returns-in-Foresee-clause-cause
returns-in-Foresee-clause-cause g c = rw c.in-Foresee.is (c.serve_foresee.ensures.cause)
