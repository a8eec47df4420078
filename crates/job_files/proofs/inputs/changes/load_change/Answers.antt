use Rattle.std.proofs.lemmas.Result.{err_from_is_err_and}
use Rattle.job_files.proofs.Asking.{one_of_three, two_of_three, three_asked, three_done}
use Rattle.job_files.proofs.inputs.changes.load_change.Goals as goal

pub returns-in_err-batch-clause-fetched : goal.returns-in_err-batch-clause-fetched
returns-in_err-batch-clause-fetched g c =
    let p = err_from_is_err_and c.from_residual.result c.from_residual.ensures.1 in
    let names = c.args.names.now in
    rw p.1 (one_of_three (g.S.Shelf.fetched c.args.shelf.now) (g.S.Shelf.fetched c.load_batch.new.shelf)
    names.batch.now names.change.now names.capture.now c.in_err-batch.ensures.fetched)

pub returns-in_err-change-clause-fetched : goal.returns-in_err-change-clause-fetched
returns-in_err-change-clause-fetched g c =
    let p = err_from_is_err_and c.from_residual-in_err-change.result c.from_residual-in_err-change.ensures.1 in
    let names = c.args.names.now in
    rw p.1 (two_of_three (g.S.Shelf.fetched c.args.shelf.now) (g.S.Shelf.fetched c.load_batch.new.shelf)
    (g.S.Shelf.fetched c.load_batch-2.new.shelf) names.batch.now names.change.now names.capture.now
    c.in_ok-batch.ensures.fetched c.in_err-change.ensures.fetched)

pub returns-in_err-capture-clause-fetched : goal.returns-in_err-capture-clause-fetched
returns-in_err-capture-clause-fetched g c =
    let p = err_from_is_err_and c.from_residual-in_err-capture.result c.from_residual-in_err-capture.ensures.1 in
    let names = c.args.names.now in
    rw p.1 (three_asked (g.S.Shelf.fetched c.args.shelf.now) (g.S.Shelf.fetched c.load_batch.new.shelf)
    (g.S.Shelf.fetched c.load_batch-2.new.shelf) (g.S.Shelf.fetched c.load_capture.new.shelf) names.batch.now
    names.change.now names.capture.now c.in_ok-batch.ensures.fetched c.in_ok-change.ensures.fetched
    c.in_err-capture.ensures.fetched)

pub returns-clause-fetched : goal.returns-clause-fetched
returns-clause-fetched g c =
    let names = c.args.names.now in
    three_done (g.S.Shelf.fetched c.args.shelf.now) (g.S.Shelf.fetched c.load_batch.new.shelf)
    (g.S.Shelf.fetched c.load_batch-2.new.shelf) (g.S.Shelf.fetched c.load_capture.new.shelf) names.batch.now
    names.change.now names.capture.now c.in_ok-batch.ensures.fetched c.in_ok-change.ensures.fetched
    c.in_ok-capture.ensures.fetched
