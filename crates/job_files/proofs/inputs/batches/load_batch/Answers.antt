use Rattle.std.proofs.Common.{[], ◌∷◌}
use Rattle.std.proofs.lemmas.Result.{err_from_is_err_and}
use Rattle.job_files.proofs.Asking.{asked_all}
use Rattle.job_files.proofs.inputs.batches.load_batch.Goals as goal

pub returns-in_err-commands-clause-fetched : goal.returns-in_err-commands-clause-fetched
returns-in_err-commands-clause-fetched g c =
    let p = err_from_is_err_and c.from_residual-in_err-commands.result c.from_residual-in_err-commands.ensures.1 in
    rw p.1 (asked_all (g.S.Shelf.fetched c.args.shelf.now) (g.S.Shelf.fetched c.load.new.shelf)
    (c.args.name.now ∷ []) c.in_ok-bytes.ensures.fetched)
