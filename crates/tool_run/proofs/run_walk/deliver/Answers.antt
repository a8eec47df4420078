use Rattle.tool_run.proofs.Asking.{one_done}
use Rattle.tool_run.proofs.run_walk.deliver.Goals as goal

pub returns-in_err-write_walk-clause-put_names : goal.returns-in_err-write_walk-clause-put_names
returns-in_err-write_walk-clause-put_names g c =
    one_done (g.S.Shelf.put_names c.args.shelf.now) (g.S.Shelf.put_names c.put_pieces.new.self) c.args.name.now c.in_ok-put_pieces.ensures.put_names

pub returns-clause-put_names : goal.returns-clause-put_names
returns-clause-put_names g c =
    one_done (g.S.Shelf.put_names c.args.shelf.now) (g.S.Shelf.put_names c.put_pieces.new.self) c.args.name.now c.in_ok-put_pieces.ensures.put_names
