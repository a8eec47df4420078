use Rattle.tool_words.specs.Requests.{files_seen}
use Rattle.tool_run.proofs.Foreseeing.{foreseen_caused, foreseen_leaves}
use Rattle.tool_run.proofs.serving.serve_foresee.Goals as goal

pub returns-in-Ok-clause-cause : goal.returns-in-Ok-clause-cause
returns-in-Ok-clause-cause g c =
    let ensured = c.in-Ok.ensures.done in
    rw c.foreseen_status.ensures (foreseen_caused g.S.Shelf.held g.S.Shelf.read_faults g.S.Shelf.failed_name
    g.S.Shelf.write_faults g.O.Sink.faults c.args.shelf.now c.run_foresee.new.shelf c.args.out.now
    c.run_foresee.new.out c.args.hook (files_seen c.args.names.now) c.args.force c.in-Ok.foreseen.refused
    c.in-Ok.foreseen.not_hitless (ensured.text, ensured.gives))

pub returns-in-Ok-clause-nothing : goal.returns-in-Ok-clause-nothing
returns-in-Ok-clause-nothing g c =
    rw c.foreseen_status.ensures (foreseen_leaves (g.S.Shelf.held c.args.shelf.now)
    (g.S.Shelf.held c.run_foresee.new.shelf) (g.O.Sink.written c.args.out.now)
    (g.O.Sink.written c.run_foresee.new.out) c.in-Ok.foreseen.refused c.in-Ok.foreseen.not_hitless)
