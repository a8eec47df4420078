use Rattle.tool_run.proofs.Generating.{nothing_made}
use Rattle.rehearsal.proofs.gen_job.gen_counted.Goals as goal

pub returns-in_err-loaded-clause-so_far : goal.returns-in_err-loaded-clause-so_far
returns-in_err-loaded-clause-so_far g c =
    nothing_made c.args.count c.args.front.now (g.S.Shelf.held c.args.shelf.now) (g.O.Sink.written c.args.out.now)

pub returns-in_err-run-clause-so_far : goal.returns-in_err-run-clause-so_far
returns-in_err-run-clause-so_far g c =
    nothing_made c.args.count c.args.front.now (g.S.Shelf.held c.args.shelf.now) (g.O.Sink.written c.args.out.now)
