use Rattle.std.proofs.Common.{List, Ok, Err, sym, ap, subst}
use Rattle.std.proofs.lemmas.Result.{err_from_is_err_and}
use Rattle.tc_base.specs.Outside.{Appended}
use Rattle.lawful_runs.specs.declared.loaded.LoadedJob.{LoadedJob}
use Rattle.job_lines.specs.declared.job.Job.{Job}
use Rattle.job_lines.specs.declared.job.Round.{Round}
use Rattle.job_files.specs.Inputs.{input_names}
use Rattle.job_files.specs.Named.{AreNames, rounds_files}
use Rattle.job_files.specs.Holdings.{HasJob}
use Rattle.job_files.specs.Loaded.{Loaded}
use Rattle.job_files.specs.Growing.{Grows}
use Rattle.job_files.proofs.Asking.{some_asked, all_asked, whole_asked}
use Rattle.job_files.proofs.Exact.{due_or_outside}
use Rattle.job_files.proofs.Numbers.{job_is_loaded}
use Rattle.job_files.proofs.Said.{job_names}
use Rattle.job_files.proofs.Whole.{whole_job, own_fails, files_fail}
use Rattle.job_files.proofs.loading.load_job.Given as given
use Rattle.job_files.proofs.loading.load_job.Goals as goal

pub returns-in_err-job-clause-due : goal.returns-in_err-job-clause-due
returns-in_err-job-clause-due g c =
    let p = err_from_is_err_and c.from_residual.result c.from_residual.ensures.1 in
    rw (p.1, p.2) (due_or_outside g.S.Shelf.held g.S.Shelf.read_faults g.S.Shelf.failed_name c.args.shelf.now
    c.load_job_file.new.shelf c.args.name.now (Err c.in_err-job.field-0.0) tt
    (own_fails g.S.Shelf.held g.S.Shelf.read_faults g.S.Shelf.failed_name c.args.shelf.now
    c.load_job_file.new.shelf c.args.name.now c.in_err-job.field-0.0 c.in_err-job.ensures.cause))

pub add_rounds-requires : goal.add_rounds-requires
add_rounds-requires g c =
    subst (λ (rounds : List Round). AreNames (rounds_files rounds)) (sym c.as_slice.ensures)
    (job_names c.in_ok-job.job c.in_ok-job.ensures.job.is.0.0)

pub returns-in_err-add_rounds-clause-cause : goal.returns-in_err-add_rounds-clause-cause
returns-in_err-add_rounds-clause-cause g c =
    let p = err_from_is_err_and c.from_residual-in_err-add_rounds.result
    c.from_residual-in_err-add_rounds.ensures.1 in
    rw (p.1, p.2) (files_fail g.S.Shelf.held g.S.Shelf.read_faults g.S.Shelf.failed_name c.args.shelf.now
    c.load_job_file.new.shelf c.add_rounds.new.shelf c.args.name.now c.in_ok-job.job c.as_slice.result.now
    c.new-files.result c.in_err-add_rounds.field-0.0 c.in_ok-job.ensures.job c.load_job_file.ensures.held
    c.load_job_file.ensures.later c.as_slice.ensures c.new-files.ensures c.in_err-add_rounds.ensures.cause)

pub returns-in_err-add_rounds-clause-due : goal.returns-in_err-add_rounds-clause-due
returns-in_err-add_rounds-clause-due g c =
    let p = err_from_is_err_and c.from_residual-in_err-add_rounds.result
    c.from_residual-in_err-add_rounds.ensures.1 in
    rw (p.1, p.2) (due_or_outside g.S.Shelf.held g.S.Shelf.read_faults g.S.Shelf.failed_name c.args.shelf.now
    c.add_rounds.new.shelf c.args.name.now (Err c.in_err-add_rounds.field-0.0) tt
    (files_fail g.S.Shelf.held g.S.Shelf.read_faults g.S.Shelf.failed_name c.args.shelf.now
    c.load_job_file.new.shelf c.add_rounds.new.shelf c.args.name.now c.in_ok-job.job c.as_slice.result.now
    c.new-files.result c.in_err-add_rounds.field-0.0 c.in_ok-job.ensures.job c.load_job_file.ensures.held
    c.load_job_file.ensures.later c.as_slice.ensures c.new-files.ensures c.in_err-add_rounds.ensures.cause))

-- the job and its files stand as they were loaded
is_whole : (g : given.Over) (c : goal.After-of g)
    → HasJob (g.S.Shelf.held c.args.shelf.now) c.args.name.now c.of.result
is_whole g c =
    let later = g.S.Shelf.held c.load_job_file.new.shelf in
    let grows = subst (λ (loaded : Loaded). Grows later loaded (rounds_files c.as_slice.result.now)
    c.add_rounds.new.self) c.new-files.ensures c.in_ok-add_rounds.ensures.done in
    subst (HasJob (g.S.Shelf.held c.args.shelf.now) c.args.name.now) (sym c.of.ensures)
    (whole_job (g.S.Shelf.held c.args.shelf.now) later c.args.name.now c.in_ok-job.job c.as_slice.result.now
    c.add_rounds.new.self c.in_ok-job.ensures.job c.load_job_file.ensures.held c.as_slice.ensures grows)

pub returns-clause-done : goal.returns-clause-done
returns-clause-done g c = is_whole g c

pub returns-clause-loaded : goal.returns-clause-loaded
returns-clause-loaded g c =
    job_is_loaded (g.S.Shelf.held c.args.shelf.now) c.args.name.now c.of.result (is_whole g c)

pub returns-clause-due : goal.returns-clause-due
returns-clause-due g c =
    due_or_outside g.S.Shelf.held g.S.Shelf.read_faults g.S.Shelf.failed_name c.args.shelf.now
    c.add_rounds.new.shelf c.args.name.now (Ok c.of.result) (is_whole g c) tt

pub returns-in_err-add_rounds-clause-fetched_up_to : goal.returns-in_err-add_rounds-clause-fetched_up_to
returns-in_err-add_rounds-clause-fetched_up_to g c =
    some_asked (g.S.Shelf.held c.args.shelf.now) (g.S.Shelf.fetched c.args.shelf.now)
    (g.S.Shelf.fetched c.load_job_file.new.shelf) (g.S.Shelf.fetched c.add_rounds.new.shelf) c.args.name.now
    c.in_ok-job.job c.as_slice.result.now c.in_ok-job.ensures.job c.as_slice.ensures
    c.in_ok-job.ensures.fetched c.in_err-add_rounds.ensures.fetched

-- all of the job's input was fetched
is_fetched : (g : given.Over) (c : goal.After-of g)
    → Appended (g.S.Shelf.fetched c.args.shelf.now) (g.S.Shelf.fetched c.add_rounds.new.shelf)
    (input_names c.args.name.now c.of.result.job)
is_fetched g c =
    subst (λ (job : Job). Appended (g.S.Shelf.fetched c.args.shelf.now) (g.S.Shelf.fetched c.add_rounds.new.shelf)
    (input_names c.args.name.now job)) (sym (ap (λ (loaded : LoadedJob). loaded.job) c.of.ensures))
    (all_asked (g.S.Shelf.fetched c.args.shelf.now) (g.S.Shelf.fetched c.load_job_file.new.shelf)
    (g.S.Shelf.fetched c.add_rounds.new.shelf) c.args.name.now c.in_ok-job.job c.as_slice.result.now
    c.as_slice.ensures c.in_ok-job.ensures.fetched c.in_ok-add_rounds.ensures.fetched)

pub returns-clause-fetched : goal.returns-clause-fetched
returns-clause-fetched g c = is_fetched g c

pub returns-clause-fetched_up_to : goal.returns-clause-fetched_up_to
returns-clause-fetched_up_to g c =
    whole_asked (g.S.Shelf.held c.args.shelf.now) (g.S.Shelf.fetched c.args.shelf.now)
    (g.S.Shelf.fetched c.add_rounds.new.shelf) c.args.name.now c.of.result.job (is_whole g c).job (is_fetched g c)
