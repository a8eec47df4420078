use Rattle.std.proofs.Common.{◌∙◌, ◌+◌, drop, refl, sym, subst, arith}
use Rattle.tool_run.specs.OfOutputs.Puts.{ArePut}
use Rattle.tc_base.proofs.Appends.{Appended-nil}
use Rattle.tool_run.proofs.Asking.{output_then, output_not_put, outputs_put}
use Rattle.tool_run.proofs.OfOutputs.Puts.{none_put}
use Rattle.tool_run.proofs.OfOutputs.Rounds.{IsNext, each_recorded, next_at, ready_now, ready_then, put_next, up_to_next, ends_next, none_left}
use Rattle.tool_run.proofs.outputs.putting.put_rounds.Given as given
use Rattle.tool_run.proofs.outputs.putting.put_rounds.Goals as goal
use Rattle.tool_run.proofs.outputs.putting.put_rounds.Goals.{After-index-records-index}

pub loop-index-init : goal.loop-index-init
loop-index-init g c = record {
  put = λ new put. put;
  up_to = λ new put. put;
  ready = c.requires;
  fetched = refl;
  put_names = Appended-nil (g.S.Shelf.put_names c.args.shelf.now);
  later = omega arith;
}

pub bounds-records-index : goal.bounds-records-index
bounds-records-index g c =
    let same = each_recorded c.args.rounds.now c.args.captures.now c.args.records.now c.requires in
    let within = c.loop-index-test.true in
    omega (arith, same, within)

-- the round is the first of those that are left
next : (g : given.Over) (c : After-index-records-index g)
    → IsNext (drop c.loop-index.index c.args.rounds.now) (drop (c.loop-index.index + 1) c.args.rounds.now)
    c.index-rounds-index.result (drop c.loop-index.index c.args.records.now)
    (drop (c.loop-index.index + 1) c.args.records.now) c.index-records-index.result
next g c =
    next_at c.args.rounds.now c.args.records.now c.args.captures.now c.loop-index.index
    c.index-rounds-index.result c.index-records-index.result c.requires c.loop-index-test.true
    (sym c.index-rounds-index.is) (sym c.index-records-index.is)

pub put_round-requires : goal.put_round-requires
put_round-requires g c =
    let at = goal.at.put_round-requires g c in
    ready_now _ _ c.index-rounds-index.result c.loop-index.left.now _ _ c.index-records-index.result
    (next g at.After-index-records-index) c.loop-index.invariant.ready

pub returns-in_err-left-clause-up_to : goal.returns-in_err-left-clause-up_to
returns-in_err-left-clause-up_to g c =
    let at = goal.at.returns-in_err-left-clause-up_to g c in
    c.loop-index.invariant.up_to _
    (ends_next _ _ c.index-rounds-index.result c.loop-index.left.now _ _ c.index-records-index.result _ _
    (next g at.After-index-records-index) c.put_round.ensures.up_to)

pub loop-index-preserved : goal.loop-index-preserved
loop-index-preserved g c =
    let at = goal.at.loop-index-preserved g c in
    let first = next g at.After-index-records-index in
    let round = c.index-rounds-index.result in
    let it = c.index-records-index.result in
    let before = c.loop-index.left.now in
    let ensured = c.in_ok-left.ensures in
    let since = c.put_round.ensures.later in
    let so_far = c.loop-index.invariant.later in
    record {
      put = λ new rest.
          c.loop-index.invariant.put new
          (put_next _ _ round before _ _ _ it _ _ new first ensured.left ensured.put rest);
      up_to = λ new rest.
          c.loop-index.invariant.up_to new
          (up_to_next _ _ round before _ _ _ it _ _ new first ensured.left ensured.put rest);
      fetched = c.put_round.ensures.fetched ∙ c.loop-index.invariant.fetched;
      put_names =
          output_then (g.S.Shelf.put_names c.args.shelf.now) (g.S.Shelf.put_names c.loop-index.shelf)
          (g.S.Shelf.put_names c.put_round.new.shelf) c.args.rounds.now c.loop-index.index round
          c.loop-index-test.true c.index-rounds-index.is c.loop-index.invariant.put_names ensured.put_names;
      ready = ready_then _ _ round before _ _ _ it first ensured.left c.loop-index.invariant.ready;
      later = omega (arith, since, so_far);
    }

pub returns-clause-put : goal.returns-clause-put
returns-clause-put g c =
    let held = g.S.Shelf.held c.loop-index.shelf in
    c.loop-index.invariant.put held
    (subst (ArePut held held)
    (none_left c.args.rounds.now c.loop-index.index c.loop-index.left.now
    (drop c.loop-index.index c.args.records.now) c.loop-index-test.false) refl)

pub returns-clause-up_to : goal.returns-clause-up_to
returns-clause-up_to g c = c.loop-index.invariant.up_to _ (none_put (g.S.Shelf.held c.loop-index.shelf) _)

pub returns-in_err-left-clause-put_names : goal.returns-in_err-left-clause-put_names
returns-in_err-left-clause-put_names g c =
    output_not_put (g.S.Shelf.put_names c.args.shelf.now) (g.S.Shelf.put_names c.loop-index.shelf)
    (g.S.Shelf.put_names c.put_round.new.shelf) c.args.rounds.now c.loop-index.index c.index-rounds-index.result
    c.loop-index-test.true c.index-rounds-index.is c.loop-index.invariant.put_names c.in_err-left.ensures.put_names

pub returns-clause-put_names : goal.returns-clause-put_names
returns-clause-put_names g c =
    outputs_put (g.S.Shelf.put_names c.args.shelf.now) (g.S.Shelf.put_names c.loop-index.shelf) c.args.rounds.now
    c.loop-index.index c.loop-index.invariant.put_names
