use Rattle.std.proofs.Common.{◌∙◌, ℕ, List, Option, Err, inr, sym, ap, subst}
use Rattle.std.proofs.lemmas.Result.{err_from_is_err_and}
use Rattle.std.specs.Borrow.{Bor}
use Rattle.tc_base.specs.Outside.{Held}
use Rattle.walk_ends.specs.declared.limits.TheConstants.{PACKETS_MAX}
use Rattle.batch_run.specs.Commands.{commands_in}
use Rattle.report_trace.specs.Passed.{AreAccepted, told_trace}
use Rattle.report_trace.proofs.Passed.{told_is_trace}
use Rattle.tool_words.specs.Command.{Trace}
use Rattle.tool_words.specs.Ends.{status_after}
use Rattle.job_files.specs.OfInputs.Holdings.{Holds, HasCapture}
use Rattle.tool_run.specs.Holdings.{GivesTrace}
use Rattle.tool_run.specs.Work.{Ends}
use Rattle.tool_run.proofs.Asking.{first_asked, first_done, second_asked, second_done}
use Rattle.tool_run.proofs.Tracing.{trace_gives, trace_ends, put_is_not_done, put_may_leave}
use Rattle.tool_run.proofs.Writing.{put_caused}
use Rattle.tool_run.proofs.run_trace.run_trace.Given as given
use Rattle.tool_run.proofs.run_trace.run_trace.Goals as goal
use Rattle.tool_run.proofs.run_trace.run_trace.Goals.{In_ok-traced}

-- what is held gives what is to be written
gives : (g : given.Over) (c : In_ok-traced g)
    → GivesTrace (g.S.Shelf.held c.args.shelf.now) c.args.hook c.args.batch.now c.args.capture.now
    (told_trace c.in_ok-walk.walk.text c.in_ok-traced.traced c.args.hook c.in_ok-capture.capture.packets)
    (status_after c.in_ok-walk.walk.refused)
gives g c =
    let told = g.S.Shelf.held c.args.shelf.now in
    let held = subst (λ (b : List ℕ). Holds told c.args.batch.now b) (sym c.deref.ensures.value)
    c.in_ok-bytes.ensures.bytes in
    let stands = subst (λ (o : Option Held). HasCapture o PACKETS_MAX c.args.capture.now
    c.in_ok-capture.capture) c.load.ensures.held c.in_ok-capture.ensures.capture in
    let accepted = subst (λ (texts : List (Bor (List ℕ))). AreAccepted (commands_in texts) c.in_ok-traced.traced)
    (c.deref-3.ensures.value ∙ sym c.deref-2.ensures.value) c.in_ok-traced.ensures in
    trace_gives told c.args.hook c.args.batch.now c.args.capture.now c.deref.result.now
    (commands_in c.deref-2.result.now) c.in_ok-capture.capture c.in_ok-walk.walk _
    (record { held = held; few = c.in_ok-texts.ensures.few })
    (ap commands_in c.deref-2.ensures.value ∙ c.in_ok-texts.ensures.commands) stands c.in_ok-walk.ensures
    (λ ran. told_is_trace (commands_in c.deref-2.result.now) ran c.args.hook c.in_ok-capture.capture
    c.in_ok-walk.walk c.in_ok-traced.traced accepted)

pub returns-in_err-write_trace-clause-cause : goal.returns-in_err-write_trace-clause-cause
returns-in_err-write_trace-clause-cause g c =
    let at = goal.at.returns-in_err-write_trace-clause-cause g c in
    let p = err_from_is_err_and c.from_residual-in_err-write_trace.result
    c.from_residual-in_err-write_trace.ensures.1 in
    let status = status_after c.in_ok-walk.walk.refused in
    let ends : Ends (g.S.Shelf.held c.args.shelf.now) (Trace c.args.hook c.args.batch.now c.args.capture.now)
    status =
    trace_ends (g.S.Shelf.held c.args.shelf.now) c.args.hook c.args.batch.now c.args.capture.now _ status
    (gives g at.In_ok-traced) in
    rw (p.1, p.2) (put_caused g.S.Shelf.held g.S.Shelf.read_faults g.S.Shelf.failed_name
    g.S.Shelf.write_faults g.O.Sink.faults c.args.shelf.now c.load_capture.new.shelf c.args.out.now
    c.write_trace.new.out (Trace c.args.hook c.args.batch.now c.args.capture.now)
    c.in_err-write_trace.field-0.0 (status, ends) (λ failed. inr (c.write_trace.ensures.cause (c.in_err-write_trace.was ∙ ap Err failed))))

pub returns-in_err-write_trace-clause-not_done : goal.returns-in_err-write_trace-clause-not_done
returns-in_err-write_trace-clause-not_done g c =
    let p = err_from_is_err_and c.from_residual-in_err-write_trace.result
    c.from_residual-in_err-write_trace.ensures.1 in
    rw (p.1, p.2) (put_is_not_done c.in_err-write_trace.field-0.0)

pub returns-in_err-write_trace-clause-nothing : goal.returns-in_err-write_trace-clause-nothing
returns-in_err-write_trace-clause-nothing g c =
    let p = err_from_is_err_and c.from_residual-in_err-write_trace.result
    c.from_residual-in_err-write_trace.ensures.1 in
    rw (p.1, p.2) (put_may_leave (g.S.Shelf.held c.args.shelf.now) (g.S.Shelf.held c.load_capture.new.shelf)
    (g.O.Sink.written c.args.out.now) (g.O.Sink.written c.write_trace.new.out) c.in_err-write_trace.field-0.0)

pub returns-in_err-write_trace-clause-so_far : goal.returns-in_err-write_trace-clause-so_far
returns-in_err-write_trace-clause-so_far g c =
    let at = goal.at.returns-in_err-write_trace-clause-so_far g c in (
      c.load_capture.ensures.held ∙ c.load.ensures.held,
      inr (record {
        text = _;
        status = _;
        gives = gives g at.In_ok-traced;
        wrote = c.write_trace.ensures.up_to;
      }),
    )

pub returns-clause-so_far : goal.returns-clause-so_far
returns-clause-so_far g c =
    let at = goal.at.returns-clause-so_far g c in (
      c.load_capture.ensures.held ∙ c.load.ensures.held,
      inr (record {
        text = _;
        status = _;
        gives = gives g at.In_ok-traced;
        wrote = c.write_trace.ensures.up_to;
      }),
    )

pub returns-clause-done : goal.returns-clause-done
returns-clause-done g c =
    let at = goal.at.returns-clause-done g c in
    record {
      text = _;
      gives = gives g at.In_ok-traced;
      same = c.load_capture.ensures.held ∙ c.load.ensures.held;
      wrote = c.in_ok-write_trace.ensures.all;
    }

pub returns-in_err-bytes-clause-fetched : goal.returns-in_err-bytes-clause-fetched
returns-in_err-bytes-clause-fetched g c =
    first_asked (g.S.Shelf.fetched c.args.shelf.now) (g.S.Shelf.fetched c.load.new.shelf)
    c.args.batch.now c.args.capture.now c.in_err-bytes.ensures.fetched

pub returns-in_err-texts-clause-fetched : goal.returns-in_err-texts-clause-fetched
returns-in_err-texts-clause-fetched g c =
    first_done (g.S.Shelf.fetched c.args.shelf.now) (g.S.Shelf.fetched c.load.new.shelf)
    c.args.batch.now c.args.capture.now c.in_ok-bytes.ensures.fetched

pub returns-in_err-capture-clause-fetched : goal.returns-in_err-capture-clause-fetched
returns-in_err-capture-clause-fetched g c =
    second_asked (g.S.Shelf.fetched c.args.shelf.now) (g.S.Shelf.fetched c.load.new.shelf)
    (g.S.Shelf.fetched c.load_capture.new.shelf) c.args.batch.now c.args.capture.now
    c.in_ok-bytes.ensures.fetched c.in_err-capture.ensures.fetched

pub returns-in_err-walk-clause-fetched : goal.returns-in_err-walk-clause-fetched
returns-in_err-walk-clause-fetched g c =
    second_done (g.S.Shelf.fetched c.args.shelf.now) (g.S.Shelf.fetched c.load.new.shelf)
    (g.S.Shelf.fetched c.load_capture.new.shelf) c.args.batch.now c.args.capture.now
    c.in_ok-bytes.ensures.fetched c.in_ok-capture.ensures.fetched

pub returns-in_err-traced-clause-fetched : goal.returns-in_err-traced-clause-fetched
returns-in_err-traced-clause-fetched g c =
    second_done (g.S.Shelf.fetched c.args.shelf.now) (g.S.Shelf.fetched c.load.new.shelf)
    (g.S.Shelf.fetched c.load_capture.new.shelf) c.args.batch.now c.args.capture.now
    c.in_ok-bytes.ensures.fetched c.in_ok-capture.ensures.fetched

pub returns-in_err-write_trace-clause-fetched : goal.returns-in_err-write_trace-clause-fetched
returns-in_err-write_trace-clause-fetched g c =
    second_done (g.S.Shelf.fetched c.args.shelf.now) (g.S.Shelf.fetched c.load.new.shelf)
    (g.S.Shelf.fetched c.load_capture.new.shelf) c.args.batch.now c.args.capture.now
    c.in_ok-bytes.ensures.fetched c.in_ok-capture.ensures.fetched

pub returns-clause-fetched : goal.returns-clause-fetched
returns-clause-fetched g c =
    second_done (g.S.Shelf.fetched c.args.shelf.now) (g.S.Shelf.fetched c.load.new.shelf)
    (g.S.Shelf.fetched c.load_capture.new.shelf) c.args.batch.now c.args.capture.now
    c.in_ok-bytes.ensures.fetched c.in_ok-capture.ensures.fetched
