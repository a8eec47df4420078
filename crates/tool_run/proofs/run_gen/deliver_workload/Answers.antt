use Rattle.std.proofs.Common.{refl}
use Rattle.std.proofs.lemmas.Result.{err_from_is_err_and}
use Rattle.tool_words.specs.Command.{Gen}
use Rattle.tool_run.proofs.Generating.{made_all, made_so_far, nothing_made, gen_ends}
use Rattle.tool_run.proofs.Writing.{delivery_caused}
use Rattle.tool_run.proofs.run_gen.deliver_workload.Goals as goal

pub returns-in_err-made-clause-so_far : goal.returns-in_err-made-clause-so_far
returns-in_err-made-clause-so_far g c =
    nothing_made c.args.count c.args.front.now (g.S.Shelf.held c.args.shelf.now)
    (g.O.Sink.written c.args.out.now)

pub returns-in_err-deliver-clause-cause : goal.returns-in_err-deliver-clause-cause
returns-in_err-deliver-clause-cause g c =
    let made = c.in_ok-made.ensures in
    let p = err_from_is_err_and c.from_residual-in_err-deliver.result
    c.from_residual-in_err-deliver.ensures.1 in
    let ends = gen_ends (g.S.Shelf.held c.args.shelf.now) c.args.count c.args.front.now made.0 made.1 in
    rw (p.1, p.2) (delivery_caused g.S.Shelf.held g.S.Shelf.read_faults g.S.Shelf.failed_name
    g.S.Shelf.write_faults g.O.Sink.faults c.args.shelf.now c.args.shelf.now c.deliver.new.shelf
    c.args.out.now c.deliver.new.out
    (Gen c.args.count c.args.front.now) c.in_err-deliver.field-0.0 ends refl c.in_err-deliver.ensures.cause)

pub returns-in_err-deliver-clause-so_far : goal.returns-in_err-deliver-clause-so_far
returns-in_err-deliver-clause-so_far g c =
    let made = c.in_ok-made.ensures in
    made_so_far c.args.count c.args.front.now made.0 c.in_ok-made.made _ _ _ _ made.1 made.2
    c.deliver.ensures.up_to c.deliver.ensures.front

pub returns-clause-done : goal.returns-clause-done
returns-clause-done g c =
    let made = c.in_ok-made.ensures in
    made_all c.args.count c.args.front.now made.0 c.in_ok-made.made _ _ _ _ made.1 made.2
    c.in_ok-deliver.ensures.all c.in_ok-deliver.ensures.others c.in_ok-deliver.ensures.wrote

pub returns-clause-so_far : goal.returns-clause-so_far
returns-clause-so_far g c =
    let made = c.in_ok-made.ensures in
    made_so_far c.args.count c.args.front.now made.0 c.in_ok-made.made _ _ _ _ made.1 made.2
    c.deliver.ensures.up_to c.deliver.ensures.front
