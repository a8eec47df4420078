use Rattle.std.proofs.Common.{[], inl, refl, arith, sym, subst}
use Rattle.std.proofs.lemmas.Result.{err_from_is_err_and}
use Rattle.tc_base.specs.Outside.{Asked}
use Rattle.tool_words.specs.declared.status.Status.{Status}
use Rattle.tool_words.specs.Command.{Run}
use Rattle.tool_run.specs.Passed.{FetchesInput}
use Rattle.tool_run.specs.Runs.{IsRunOfHeld, status_of_run}
use Rattle.tool_run.specs.Work.{Ends}
use Rattle.tool_run.proofs.Asking.{outputs_of_held}
use Rattle.tool_run.proofs.Writing.{delivery_caused}
use Rattle.tool_run.proofs.Passed.{events_few, packets_few}
use Rattle.rehearsal.proofs.run_job.run_named.Goals as goal

pub returns-in_err-deliver-clause-cause : goal.returns-in_err-deliver-clause-cause
returns-in_err-deliver-clause-cause g c =
    let p = err_from_is_err_and c.from_residual-in_err-deliver.result c.from_residual-in_err-deliver.ensures.1 in
    let told = g.S.Shelf.held c.args.shelf.now in
    let loaded = c.in_ok-loaded.loaded in
    let run = c.in_ok-run.run' in
    let runs : IsRunOfHeld told c.args.job.now loaded run =
    record { held = c.in_ok-loaded.ensures.done; lawful = c.in_ok-run.ensures } in
    let ends : (status : Status) × Ends told (Run c.args.job.now) status =
    (status_of_run run, (loaded, run, runs, refl)) in
    rw (p.1, p.2) (delivery_caused g.S.Shelf.held g.S.Shelf.read_faults g.S.Shelf.failed_name
    g.S.Shelf.write_faults g.O.Sink.faults c.args.shelf.now c.load_job.new.shelf c.deliver.new.shelf
    c.args.out.now c.deliver.new.out (Run c.args.job.now) c.in_err-deliver.field-0.0 ends
    c.load_job.ensures.write_faults c.in_err-deliver.ensures.cause)

pub status_of-requires-clause-events : goal.status_of-requires-clause-events
status_of-requires-clause-events g c =
    let few = events_few c.in_ok-loaded.loaded c.in_ok-run.run' c.in_ok-loaded.ensures.loaded c.in_ok-run.ensures in
    omega (arith, few)

pub status_of-requires-clause-packets : goal.status_of-requires-clause-packets
status_of-requires-clause-packets g c =
    let few = packets_few c.in_ok-loaded.loaded c.in_ok-run.run' c.in_ok-loaded.ensures.loaded c.in_ok-run.ensures in
    omega (arith, few)

pub returns-in_err-run-clause-put_names : goal.returns-in_err-run-clause-put_names
returns-in_err-run-clause-put_names g c = inl c.load_job.ensures.put_names

pub returns-in_err-deliver-clause-put_names : goal.returns-in_err-deliver-clause-put_names
returns-in_err-deliver-clause-put_names g c =
    outputs_of_held (g.S.Shelf.held c.args.shelf.now) (g.S.Shelf.put_names c.args.shelf.now)
    (g.S.Shelf.put_names c.load_job.new.shelf) (g.S.Shelf.put_names c.deliver.new.shelf) c.args.job.now
    c.in_ok-loaded.loaded.job c.in_ok-loaded.ensures.done.job c.load_job.ensures.put_names
    c.deliver.ensures.put_names

pub returns-clause-put_names : goal.returns-clause-put_names
returns-clause-put_names g c =
    outputs_of_held (g.S.Shelf.held c.args.shelf.now) (g.S.Shelf.put_names c.args.shelf.now)
    (g.S.Shelf.put_names c.load_job.new.shelf) (g.S.Shelf.put_names c.deliver.new.shelf) c.args.job.now
    c.in_ok-loaded.loaded.job c.in_ok-loaded.ensures.done.job c.load_job.ensures.put_names
    c.deliver.ensures.put_names

pub returns-in_err-deliver-clause-fetched : goal.returns-in_err-deliver-clause-fetched
returns-in_err-deliver-clause-fetched g c =
    subst (λ (asked : Asked). FetchesInput (g.S.Shelf.held c.args.shelf.now) (g.S.Shelf.fetched c.args.shelf.now)
    asked c.args.job.now []) (sym c.deliver.ensures.fetched) c.load_job.ensures.fetched_up_to

pub returns-clause-fetched : goal.returns-clause-fetched
returns-clause-fetched g c =
    subst (λ (asked : Asked). FetchesInput (g.S.Shelf.held c.args.shelf.now) (g.S.Shelf.fetched c.args.shelf.now)
    asked c.args.job.now []) (sym c.deliver.ensures.fetched) c.load_job.ensures.fetched_up_to
