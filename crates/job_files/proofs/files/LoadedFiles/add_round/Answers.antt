use Rattle.std.proofs.Common.{◌++◌, List, subst}
use Rattle.std.proofs.lemmas.Result.{err_from_is_err_and}
use Rattle.job_lines.specs.declared.job.BatchName.{BatchName}
use Rattle.job_files.specs.Named.{batch_files, capture_files}
use Rattle.job_files.specs.Growing.{AddFails}
use Rattle.job_files.proofs.Asking.{asked_front, round_asked}
use Rattle.job_files.proofs.Adding.{add_fails_sooner}
use Rattle.job_files.proofs.Joined.{each_behind}
use Rattle.job_files.proofs.Said.{named}
use Rattle.job_files.proofs.files.LoadedFiles.add_round.Goals as goal

pub returns-in_err-add_batches-clause-cause : goal.returns-in_err-add_batches-clause-cause
returns-in_err-add_batches-clause-cause g c =
    let p = err_from_is_err_and c.from_residual.result c.from_residual.ensures.1 in
    let captures = capture_files c.args.round.now.capture in
    let why = add_fails_sooner g.S.Shelf.held g.S.Shelf.read_faults g.S.Shelf.failed_name c.args.shelf.now
    c.add_batches.new.shelf c.args.self.now (batch_files c.as_slice.result.now) captures
    c.in_err-add_batches.field-0.0 c.in_err-add_batches.ensures.cause in
    rw (p.1, p.2) (subst (λ (batches : List BatchName). AddFails g.S.Shelf.held g.S.Shelf.read_faults
    g.S.Shelf.failed_name c.args.shelf.now c.add_batches.new.shelf c.args.self.now
    (batch_files batches ++ captures) c.in_err-add_batches.field-0.0) c.as_slice.ensures why)

pub add_captures-requires : goal.add_captures-requires
add_captures-requires g c =
    each_behind named (batch_files c.args.round.now.batches) (capture_files c.args.round.now.capture) c.requires

pub returns-in_err-add_batches-clause-fetched : goal.returns-in_err-add_batches-clause-fetched
returns-in_err-add_batches-clause-fetched g c =
    let p = err_from_is_err_and c.from_residual.result c.from_residual.ensures.1 in
    rw p.1 (asked_front (g.S.Shelf.fetched c.args.shelf.now) (g.S.Shelf.fetched c.add_batches.new.shelf)
    c.args.round.now c.as_slice.result.now c.as_slice.ensures c.in_err-add_batches.ensures.fetched)

pub returns-clause-fetched : goal.returns-clause-fetched
returns-clause-fetched g c =
    round_asked (g.S.Shelf.fetched c.args.shelf.now) (g.S.Shelf.fetched c.add_batches.new.shelf)
    (g.S.Shelf.fetched c.add_captures.new.shelf) c.args.round.now c.as_slice.result.now c.as_slice.ensures
    c.add_captures.result c.in_ok-add_batches.ensures.fetched c.add_captures.ensures.fetched
