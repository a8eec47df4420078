use Rattle.std.proofs.Common.{◌∙◌, ◌∷◌, [], ◌++◌, ℕ, ◌+◌, List, drop, take, sym, ap, subst}
use Rattle.std.proofs.lemmas.Result.{err_from_is_err_and}
use Rattle.job_files.specs.Named.{JobFile, AreNames, batch_files}
use Rattle.job_files.proofs.Asking.{asked_part}
use Rattle.job_files.proofs.Adding.{add_fails_among}
use Rattle.job_files.proofs.Reached.{batches_around, names_among}
use Rattle.job_files.proofs.files.LoadedFiles.add_batches.Goals as goal

pub add_batch-requires : goal.add_batch-requires
add_batch-requires g c =
    let batches = c.args.batches.now in
    let at = c.loop-batch.batch-index in
    subst (λ (name : List ℕ). AreNames (JobFile.Batch name ∷ [])) (sym c.as_slice.ensures)
    (names_among (batch_files (take at batches)) (JobFile.Batch c.batch-item.result.name ∷ [])
    (batch_files (drop (at + 1) batches)) (batch_files batches)
    (batches_around batches at c.batch-item.result c.loop-batch-test.true c.batch-item.is) c.requires)

pub returns-in_err-add_batch-clause-cause : goal.returns-in_err-add_batch-clause-cause
returns-in_err-add_batch-clause-cause g c =
    let p = err_from_is_err_and c.from_residual.result c.from_residual.ensures.1 in
    let batches = c.args.batches.now in
    let at = c.loop-batch.batch-index in
    rw (p.1, p.2) (add_fails_among g.S.Shelf.held g.S.Shelf.read_faults g.S.Shelf.failed_name
    c.args.shelf.now c.loop-batch.shelf c.add_batch.new.shelf c.args.self.now c.loop-batch.self
    (batch_files (take at batches)) (JobFile.Batch c.as_slice.result.now ∷ [])
    (batch_files (drop (at + 1) batches)) (batch_files batches) c.in_err-add_batch.field-0.0
    (batches_around batches at c.batch-item.result c.loop-batch-test.true c.batch-item.is
    ∙ ap (λ (name : List ℕ). batch_files (take at batches) ++ (JobFile.Batch name ∷ batch_files (drop (at + 1) batches)))
    (sym c.as_slice.ensures)) c.loop-batch.invariant.held
    c.loop-batch.invariant.later c.loop-batch.invariant.grown c.in_err-add_batch.ensures.cause)

pub returns-in_err-add_batch-clause-fetched : goal.returns-in_err-add_batch-clause-fetched
returns-in_err-add_batch-clause-fetched g c =
    let batches = c.args.batches.now in
    let at = c.loop-batch.batch-index in
    let p = err_from_is_err_and c.from_residual.result c.from_residual.ensures.1 in
    rw p.1 (asked_part (g.S.Shelf.fetched c.args.shelf.now) (g.S.Shelf.fetched c.loop-batch.shelf)
    (g.S.Shelf.fetched c.add_batch.new.shelf) (batch_files (take at batches))
    (JobFile.Batch c.as_slice.result.now ∷ []) (batch_files (drop (at + 1) batches)) (batch_files batches)
    (batches_around batches at c.batch-item.result c.loop-batch-test.true c.batch-item.is
    ∙ ap (λ (name : List ℕ). batch_files (take at batches) ++ (JobFile.Batch name ∷ batch_files (drop (at + 1) batches)))
    (sym c.as_slice.ensures))
    c.loop-batch.invariant.fetched c.in_err-add_batch.ensures.fetched)
