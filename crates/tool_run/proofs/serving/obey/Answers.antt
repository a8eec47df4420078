use Rattle.tool_words.specs.Command.{texts, request_of}
use Rattle.tool_words.specs.Requests.{request}
use Rattle.tool_run.proofs.Exact.{exact, complete}
use Rattle.tool_run.proofs.serving.obey.Goals as goal

pub returns-in-Some-clause-exact : goal.returns-in-Some-clause-exact
returns-in-Some-clause-exact g c =
    exact g.S.Shelf.held g.S.Shelf.read_faults g.S.Shelf.failed_name g.S.Shelf.write_faults g.O.Sink.faults
    c.args.shelf.now c.serve.new.shelf c.args.out.now c.serve.new.out
    (request_of (texts c.args.words.now)) (request c.in-Some.command) c.serve.result c.in-Some.ensures.value
    c.serve.ensures.cause

pub returns-in-Some-clause-complete : goal.returns-in-Some-clause-complete
returns-in-Some-clause-complete g c =
    complete g.S.Shelf.held g.S.Shelf.read_faults g.S.Shelf.failed_name g.S.Shelf.write_faults g.O.Sink.faults
    c.args.shelf.now c.serve.new.shelf c.args.out.now c.serve.new.out
    (request_of (texts c.args.words.now)) (request c.in-Some.command) c.serve.result c.in-Some.ensures.value
    c.serve.ensures.cause
