use Rattle.std.proofs.Common.{[], ◌∷◌}
use Rattle.std.proofs.lemmas.Result.{IfErr-weaker, err_from_is_err_and}
use Rattle.job_files.proofs.Asking.{asked_all}
use Rattle.job_files.proofs.OfInputs.TooMany.{too_many_told}
use Rattle.job_files.proofs.inputs.captures.load_capture.Goals as goal

pub returns-in-Ok-clause-cause : goal.returns-in-Ok-clause-cause
returns-in-Ok-clause-cause g c =
    IfErr-weaker c.within_room.result _ _
    (too_many_told g.S.Shelf.held g.S.Shelf.read_faults g.S.Shelf.failed_name c.args.shelf.now
    c.load.new.shelf c.args.room c.args.name.now c.in_ok-bytes.bytes.items c.in-Ok.capture c.in_ok-bytes.ensures.bytes
    c.in-Ok.ensures.capture) c.within_room.ensures.many

pub returns-in_ok-name-in-Err-clause-fetched : goal.returns-in_ok-name-in-Err-clause-fetched
returns-in_ok-name-in-Err-clause-fetched g c =
    asked_all (g.S.Shelf.fetched c.args.shelf.now) (g.S.Shelf.fetched c.load.new.shelf) (c.args.name.now ∷ [])
    c.in_ok-bytes.ensures.fetched

pub returns-in_err-found-in-Err-clause-fetched : goal.returns-in_err-found-in-Err-clause-fetched
returns-in_err-found-in-Err-clause-fetched g c =
    let p = err_from_is_err_and c.from_residual-in_err-found-in-Err.result
    c.from_residual-in_err-found-in-Err.ensures.1 in
    rw p.1 (asked_all (g.S.Shelf.fetched c.args.shelf.now) (g.S.Shelf.fetched c.load.new.shelf)
    (c.args.name.now ∷ []) c.in_ok-bytes.ensures.fetched)

pub returns-in_err-name-in-Err-clause-fetched : goal.returns-in_err-name-in-Err-clause-fetched
returns-in_err-name-in-Err-clause-fetched g c =
    let p = err_from_is_err_and c.from_residual-in_err-name-in-Err.result
    c.from_residual-in_err-name-in-Err.ensures.1 in
    rw p.1 (asked_all (g.S.Shelf.fetched c.args.shelf.now) (g.S.Shelf.fetched c.load.new.shelf)
    (c.args.name.now ∷ []) c.in_ok-bytes.ensures.fetched)
