use Rattle.std.proofs.Common.{◌≡◌, ◌∙◌, Option, Some, sym, ap, subst}
use Rattle.tool_words.specs.declared.command.Command.{Command}
use Rattle.tool_words.specs.Command.{Request, Run, Gen, texts, request_of}
use Rattle.tool_words.specs.Requests.{request}
use Rattle.tool_run.specs.Asks.{FetchesIn, PutsIn}
use Rattle.tool_run.specs.Causes.{CausedIn}
use Rattle.tool_run.proofs.Exact.{exact, complete}
use Rattle.rehearsal.proofs.commands.tool.Given as given
use Rattle.rehearsal.proofs.commands.tool.Goals as goal
use Rattle.rehearsal.proofs.commands.tool.Goals.{In-Some-Run, In-Some-Gen}

-- the words ask for the run of this job
asked : (g : given.Over) (c : In-Some-Run g) → Some (Run c.in-Some-Run.job.now) ≡ request_of (texts c.args.words.now)
asked g c = sym (ap (λ (x : Command). Some (request x)) c.in-Some-Run.field-0-is) ∙ c.in-Some-Run.ensures.value

pub returns-in-Some-Run-clause-cause : goal.returns-in-Some-Run-clause-cause
returns-in-Some-Run-clause-cause g c =
    let at = goal.at.returns-in-Some-Run-clause-cause g c in
    subst (λ (it : Option Request). CausedIn g.S.Shelf.held g.S.Shelf.read_faults g.S.Shelf.failed_name
    g.S.Shelf.write_faults g.O.Sink.faults c.args.shelf.now c.serve_run.new.shelf c.args.out.now
    c.serve_run.new.out it c.serve_run.result) (asked g at.In-Some-Run) c.serve_run.ensures.cause

pub returns-in-Some-Run-clause-exact : goal.returns-in-Some-Run-clause-exact
returns-in-Some-Run-clause-exact g c =
    let at = goal.at.returns-in-Some-Run-clause-exact g c in
    exact g.S.Shelf.held g.S.Shelf.read_faults g.S.Shelf.failed_name g.S.Shelf.write_faults g.O.Sink.faults
    c.args.shelf.now c.serve_run.new.shelf c.args.out.now c.serve_run.new.out
    (request_of (texts c.args.words.now)) (Run c.in-Some-Run.job.now) c.serve_run.result
    (asked g at.In-Some-Run) c.serve_run.ensures.cause

pub returns-in-Some-Run-clause-complete : goal.returns-in-Some-Run-clause-complete
returns-in-Some-Run-clause-complete g c =
    let at = goal.at.returns-in-Some-Run-clause-complete g c in
    complete g.S.Shelf.held g.S.Shelf.read_faults g.S.Shelf.failed_name g.S.Shelf.write_faults g.O.Sink.faults
    c.args.shelf.now c.serve_run.new.shelf c.args.out.now c.serve_run.new.out
    (request_of (texts c.args.words.now)) (Run c.in-Some-Run.job.now) c.serve_run.result
    (asked g at.In-Some-Run) c.serve_run.ensures.cause

-- the words ask for a workload of so many filters
made : (g : given.Over) (c : In-Some-Gen g) → Some (Gen c.in-Some-Gen.count c.in-Some-Gen.front.now) ≡ request_of (texts c.args.words.now)
made g c = sym (ap (λ (x : Command). Some (request x)) c.in-Some-Gen.field-0-is) ∙ c.in-Some-Gen.ensures.value

pub returns-in-Some-Gen-clause-cause : goal.returns-in-Some-Gen-clause-cause
returns-in-Some-Gen-clause-cause g c =
    let at = goal.at.returns-in-Some-Gen-clause-cause g c in
    subst (λ (it : Option Request). CausedIn g.S.Shelf.held g.S.Shelf.read_faults g.S.Shelf.failed_name
    g.S.Shelf.write_faults g.O.Sink.faults c.args.shelf.now c.serve_gen.new.shelf c.args.out.now
    c.serve_gen.new.out it c.serve_gen.result) (made g at.In-Some-Gen) c.serve_gen.ensures.cause

pub returns-in-Some-Gen-clause-exact : goal.returns-in-Some-Gen-clause-exact
returns-in-Some-Gen-clause-exact g c =
    let at = goal.at.returns-in-Some-Gen-clause-exact g c in
    exact g.S.Shelf.held g.S.Shelf.read_faults g.S.Shelf.failed_name g.S.Shelf.write_faults g.O.Sink.faults
    c.args.shelf.now c.serve_gen.new.shelf c.args.out.now c.serve_gen.new.out
    (request_of (texts c.args.words.now)) (Gen c.in-Some-Gen.count c.in-Some-Gen.front.now) c.serve_gen.result
    (made g at.In-Some-Gen) c.serve_gen.ensures.cause

pub returns-in-Some-Gen-clause-complete : goal.returns-in-Some-Gen-clause-complete
returns-in-Some-Gen-clause-complete g c =
    let at = goal.at.returns-in-Some-Gen-clause-complete g c in
    complete g.S.Shelf.held g.S.Shelf.read_faults g.S.Shelf.failed_name g.S.Shelf.write_faults g.O.Sink.faults
    c.args.shelf.now c.serve_gen.new.shelf c.args.out.now c.serve_gen.new.out
    (request_of (texts c.args.words.now)) (Gen c.in-Some-Gen.count c.in-Some-Gen.front.now) c.serve_gen.result
    (made g at.In-Some-Gen) c.serve_gen.ensures.cause

pub returns-in-Some-Run-clause-fetched : goal.returns-in-Some-Run-clause-fetched
returns-in-Some-Run-clause-fetched g c =
    let at = goal.at.returns-in-Some-Run-clause-fetched g c in
    subst (λ (it : Option Request). FetchesIn (g.S.Shelf.held c.args.shelf.now) (g.S.Shelf.fetched c.args.shelf.now)
    (g.S.Shelf.fetched c.serve_run.new.shelf) it) (asked g at.In-Some-Run) c.serve_run.ensures.fetched

pub returns-in-Some-Run-clause-put_names : goal.returns-in-Some-Run-clause-put_names
returns-in-Some-Run-clause-put_names g c =
    let at = goal.at.returns-in-Some-Run-clause-put_names g c in
    subst (λ (it : Option Request). PutsIn (g.S.Shelf.held c.args.shelf.now) (g.S.Shelf.put_names c.args.shelf.now)
    (g.S.Shelf.put_names c.serve_run.new.shelf) it) (asked g at.In-Some-Run) c.serve_run.ensures.put_names

pub returns-in-Some-Gen-clause-fetched : goal.returns-in-Some-Gen-clause-fetched
returns-in-Some-Gen-clause-fetched g c =
    let at = goal.at.returns-in-Some-Gen-clause-fetched g c in
    subst (λ (it : Option Request). FetchesIn (g.S.Shelf.held c.args.shelf.now) (g.S.Shelf.fetched c.args.shelf.now)
    (g.S.Shelf.fetched c.serve_gen.new.shelf) it) (made g at.In-Some-Gen) c.serve_gen.ensures.fetched

pub returns-in-Some-Gen-clause-put_names : goal.returns-in-Some-Gen-clause-put_names
returns-in-Some-Gen-clause-put_names g c =
    let at = goal.at.returns-in-Some-Gen-clause-put_names g c in
    subst (λ (it : Option Request). PutsIn (g.S.Shelf.held c.args.shelf.now) (g.S.Shelf.put_names c.args.shelf.now)
    (g.S.Shelf.put_names c.serve_gen.new.shelf) it) (made g at.In-Some-Gen) c.serve_gen.ensures.put_names
