use Rattle.std.proofs.Common.{[], ◌∷◌}
use Rattle.std.proofs.lemmas.Result.{err_from_is_err_and}
use Rattle.job_files.proofs.Asking.{asked_all}
use Rattle.job_files.proofs.job_file.load_job_file.Goals as goal

pub returns-clause-fetched : goal.returns-clause-fetched
returns-clause-fetched g c =
    asked_all (g.S.Shelf.fetched c.args.shelf.now) (g.S.Shelf.fetched c.load.new.shelf) (c.args.name.now ∷ [])
    c.in_ok-bytes.ensures.fetched

pub returns-in_err-name-in-Err-Form-clause-fetched : goal.returns-in_err-name-in-Err-Form-clause-fetched
returns-in_err-name-in-Err-Form-clause-fetched g c =
    let p = err_from_is_err_and c.from_residual-in_err-name-in-Err-Form.result c.from_residual-in_err-name-in-Err-Form.ensures.1 in
    rw p.1 (asked_all (g.S.Shelf.fetched c.args.shelf.now) (g.S.Shelf.fetched c.load.new.shelf) (c.args.name.now ∷ [])
    c.in_ok-bytes.ensures.fetched)
