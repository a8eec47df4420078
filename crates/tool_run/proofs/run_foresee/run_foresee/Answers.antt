use Rattle.std.proofs.Common.{◌∙◌, Err, inr, ap, ap₂, sym, subst}
use Rattle.std.proofs.lemmas.Result.{err_from_is_err_and}
use Rattle.tc_base.proofs.Appends.{AppendsUpTo-all}
use Rattle.change_fates.specs.Passed.{Changed, refused_in}
use Rattle.change_fates.specs.Foreseen.{foreseen_text, not_hitless}
use Rattle.job_files.specs.Changes.{names_in_order}
use Rattle.tool_words.specs.Command.{Foresee}
use Rattle.tool_words.specs.Requests.{files_seen}
use Rattle.tool_words.specs.Ends.{status_of_foreseen}
use Rattle.tool_run.specs.Foresights.{IsChangeOf, GivesForesight}
use Rattle.tool_run.proofs.Foreseeing.{some_change_of, foresees}
use Rattle.tool_run.proofs.Tracing.{put_is_not_done, put_may_leave}
use Rattle.tool_run.proofs.Writing.{put_caused}
use Rattle.tool_run.proofs.run_foresee.run_foresee.Given as given
use Rattle.tool_run.proofs.run_foresee.run_foresee.Goals as goal
use Rattle.tool_run.proofs.run_foresee.run_foresee.Goals.{In_ok-files}

-- the change of the files that were loaded
its : (g : given.Over) (c : In_ok-files g) → (it : Changed) × IsChangeOf c.in_ok-files.files c.args.force it
its g c = some_change_of c.in_ok-files.files c.args.force

-- what is held gives what is to be written
gives : (g : given.Over) (c : In_ok-files g) → GivesForesight (g.S.Shelf.held c.args.shelf.now) c.args.hook
    (files_seen c.args.names.now) c.args.force
    (foreseen_text (its g c).0 c.args.hook c.in_ok-files.files.capture.packets)
    (status_of_foreseen (refused_in (its g c).0)
    (not_hitless (its g c).0 c.args.hook c.in_ok-files.files.capture.packets))
gives g c =
    foresees (g.S.Shelf.held c.args.shelf.now) c.args.hook (files_seen c.args.names.now) c.args.force
    c.in_ok-files.files c.in_ok-files.ensures.files (its g c).0 (its g c).1

pub returns-in_err-foreseen-clause-cause : goal.returns-in_err-foreseen-clause-cause
returns-in_err-foreseen-clause-cause g c =
    let at = goal.at.returns-in_err-foreseen-clause-cause g c in
    let p = err_from_is_err_and c.from_residual-in_err-foreseen.result
    c.from_residual-in_err-foreseen.ensures.1 in
    rw (p.1, p.2) (put_caused g.S.Shelf.held g.S.Shelf.read_faults g.S.Shelf.failed_name
    g.S.Shelf.write_faults g.O.Sink.faults c.args.shelf.now c.load_change.new.shelf c.args.out.now
    c.tell.new.out (Foresee c.args.hook (files_seen c.args.names.now) c.args.force) c.in_err-foreseen.field-0.0
    (_, (_, gives g at.In_ok-files))
    (λ failed. inr (c.tell.ensures.cause (c.in_err-foreseen.was ∙ ap Err failed))))

pub returns-in_err-foreseen-clause-not_done : goal.returns-in_err-foreseen-clause-not_done
returns-in_err-foreseen-clause-not_done g c =
    let p = err_from_is_err_and c.from_residual-in_err-foreseen.result
    c.from_residual-in_err-foreseen.ensures.1 in
    rw (p.1, p.2) (put_is_not_done c.in_err-foreseen.field-0.0)

pub returns-in_err-foreseen-clause-nothing : goal.returns-in_err-foreseen-clause-nothing
returns-in_err-foreseen-clause-nothing g c =
    let p = err_from_is_err_and c.from_residual-in_err-foreseen.result
    c.from_residual-in_err-foreseen.ensures.1 in
    rw (p.1, p.2) (put_may_leave (g.S.Shelf.held c.args.shelf.now) (g.S.Shelf.held c.load_change.new.shelf)
    (g.O.Sink.written c.args.out.now) (g.O.Sink.written c.tell.new.out) c.in_err-foreseen.field-0.0)

pub returns-in_err-foreseen-clause-so_far : goal.returns-in_err-foreseen-clause-so_far
returns-in_err-foreseen-clause-so_far g c =
    let at = goal.at.returns-in_err-foreseen-clause-so_far g c in
    let it = its g at.In_ok-files in (
      c.load_change.ensures.held,
      inr (record {
        text = _;
        status = _;
        gives = gives g at.In_ok-files;
        wrote = c.tell.ensures.up_to it.0 it.1;
      }),
    )

pub returns-clause-so_far : goal.returns-clause-so_far
returns-clause-so_far g c =
    let at = goal.at.returns-clause-so_far g c in
    let it = its g at.In_ok-files in (
      c.load_change.ensures.held,
      inr (record {
        text = _;
        status = _;
        gives = gives g at.In_ok-files;
        wrote = c.tell.ensures.up_to it.0 it.1;
      }),
    )

pub returns-clause-done : goal.returns-clause-done
returns-clause-done g c =
    let at = goal.at.returns-clause-done g c in
    let it = its g at.In_ok-files in
    let counts = c.in_ok-foreseen.ensures.counts it.0 it.1 in
    let same = ap₂ status_of_foreseen (sym counts.0) (sym counts.1) in
    record {
      text = _;
      gives = subst (GivesForesight (g.S.Shelf.held c.args.shelf.now) c.args.hook (files_seen c.args.names.now)
          c.args.force _) same (gives g at.In_ok-files);
      same = c.load_change.ensures.held;
      wrote = c.in_ok-foreseen.ensures.all it.0 it.1;
    }

pub returns-in_err-foreseen-clause-fetched : goal.returns-in_err-foreseen-clause-fetched
returns-in_err-foreseen-clause-fetched g c =
    AppendsUpTo-all (g.S.Shelf.fetched c.args.shelf.now) (g.S.Shelf.fetched c.load_change.new.shelf)
    (names_in_order (files_seen c.args.names.now)) c.in_ok-files.ensures.fetched

pub returns-clause-fetched : goal.returns-clause-fetched
returns-clause-fetched g c =
    AppendsUpTo-all (g.S.Shelf.fetched c.args.shelf.now) (g.S.Shelf.fetched c.load_change.new.shelf)
    (names_in_order (files_seen c.args.names.now)) c.in_ok-files.ensures.fetched
