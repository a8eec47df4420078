use Rattle.std.proofs.Common.{◌+◌, drop, take}
use Rattle.std.proofs.lemmas.Result.{err_from_is_err_and}
use Rattle.job_files.specs.Named.{round_files, rounds_files}
use Rattle.job_files.proofs.Asking.{asked_part}
use Rattle.job_files.proofs.Adding.{add_fails_among}
use Rattle.job_files.proofs.Reached.{rounds_around, names_among}
use Rattle.job_files.proofs.files.LoadedFiles.add_rounds.Goals as goal

pub add_round-requires : goal.add_round-requires
add_round-requires g c =
    let rounds = c.args.rounds.now in
    let at = c.loop-round.round-index in
    names_among (rounds_files (take at rounds)) (round_files c.round-item.result)
    (rounds_files (drop (at + 1) rounds)) (rounds_files rounds)
    (rounds_around rounds at c.round-item.result c.loop-round-test.true c.round-item.is) c.requires

pub returns-in_err-add_round-clause-cause : goal.returns-in_err-add_round-clause-cause
returns-in_err-add_round-clause-cause g c =
    let p = err_from_is_err_and c.from_residual.result c.from_residual.ensures.1 in
    let rounds = c.args.rounds.now in
    let at = c.loop-round.round-index in
    rw (p.1, p.2) (add_fails_among g.S.Shelf.held g.S.Shelf.read_faults g.S.Shelf.failed_name
    c.args.shelf.now c.loop-round.shelf c.add_round.new.shelf c.args.self.now c.loop-round.self
    (rounds_files (take at rounds)) (round_files c.round-item.result)
    (rounds_files (drop (at + 1) rounds)) (rounds_files rounds) c.in_err-add_round.field-0.0
    (rounds_around rounds at c.round-item.result c.loop-round-test.true c.round-item.is)
    c.loop-round.invariant.held c.loop-round.invariant.later c.loop-round.invariant.grown
    c.in_err-add_round.ensures.cause)

pub returns-in_err-add_round-clause-fetched : goal.returns-in_err-add_round-clause-fetched
returns-in_err-add_round-clause-fetched g c =
    let rounds = c.args.rounds.now in
    let at = c.loop-round.round-index in
    let p = err_from_is_err_and c.from_residual.result c.from_residual.ensures.1 in
    rw p.1 (asked_part (g.S.Shelf.fetched c.args.shelf.now) (g.S.Shelf.fetched c.loop-round.shelf)
    (g.S.Shelf.fetched c.add_round.new.shelf) (rounds_files (take at rounds)) (round_files c.round-item.result)
    (rounds_files (drop (at + 1) rounds)) (rounds_files rounds)
    (rounds_around rounds at c.round-item.result c.loop-round-test.true c.round-item.is)
    c.loop-round.invariant.fetched c.in_err-add_round.ensures.fetched)
