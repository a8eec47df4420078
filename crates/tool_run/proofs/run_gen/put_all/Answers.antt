use Rattle.std.proofs.Common.{[], ◌∷◌, ◌++◌}
use Rattle.std.specs.Prelude.{codes}
use Rattle.std.proofs.lemmas.Result.{on_ok_weaker}
use Rattle.tool_run.proofs.Asking.{asks_some, one_put, two_put, three_put, four_put}
use Rattle.tool_run.proofs.Making.{FilesPut, batch_put, capture_put, job_put, output_put, capture_not_put, job_not_put, output_not_put}
use Rattle.tool_run.proofs.run_gen.put_all.Given as given
use Rattle.tool_run.proofs.run_gen.put_all.Goals as goal
use Rattle.tool_run.proofs.run_gen.put_all.Goals.{In_ok-put_file, In_ok-put_file-2, In_ok-put_file-3}

-- the batch stands
batch : (g : given.Over) (c : In_ok-put_file g)
    → FilesPut 1 c.args.front.now c.args.made.now (g.S.Shelf.held c.args.shelf.now)
    (g.S.Shelf.held c.put_file.new.shelf)
batch g c =
    batch_put c.args.front.now c.args.made.now _ _ c.put_file.ensures.others
    (rw c.deref.ensures.value at c.in_ok-put_file.ensures.stands)

-- the batch and the capture stand
capture : (g : given.Over) (c : In_ok-put_file-2 g)
    → FilesPut 1 c.args.front.now c.args.made.now (g.S.Shelf.held c.args.shelf.now)
    (g.S.Shelf.held c.put_file.new.shelf)
    → FilesPut 2 c.args.front.now c.args.made.now (g.S.Shelf.held c.args.shelf.now)
    (g.S.Shelf.held c.put_file-2.new.shelf)
capture g c put =
    capture_put c.args.front.now c.args.made.now _ _ _ put c.put_file-2.ensures.others
    (rw c.deref-2.ensures.value at c.in_ok-put_file-2.ensures.stands)

-- all but the output stand
job : (g : given.Over) (c : In_ok-put_file-3 g)
    → FilesPut 2 c.args.front.now c.args.made.now (g.S.Shelf.held c.args.shelf.now)
    (g.S.Shelf.held c.put_file-2.new.shelf)
    → FilesPut 3 c.args.front.now c.args.made.now (g.S.Shelf.held c.args.shelf.now)
    (g.S.Shelf.held c.put_file-3.new.shelf)
job g c put =
    job_put c.args.front.now c.args.made.now _ _ _ put c.put_file-3.ensures.others
    (rw c.deref-3.ensures.value at c.in_ok-put_file-3.ensures.stands)

pub returns-in_err-put_file-2-clause-up_to : goal.returns-in_err-put_file-2-clause-up_to
returns-in_err-put_file-2-clause-up_to g c =
    let at = goal.at.returns-in_err-put_file-2-clause-up_to g c in
    capture_not_put c.args.front.now c.args.made.now _ _ _ (batch g at.In_ok-put_file)
    c.put_file-2.ensures.others

pub returns-in_err-put_file-3-clause-up_to : goal.returns-in_err-put_file-3-clause-up_to
returns-in_err-put_file-3-clause-up_to g c =
    let at = goal.at.returns-in_err-put_file-3-clause-up_to g c in
    job_not_put c.args.front.now c.args.made.now _ _ _
    (capture g at.In_ok-put_file-2 (batch g at.In_ok-put_file)) c.put_file-3.ensures.others

pub returns-clause-all : goal.returns-clause-all
returns-clause-all g c =
    let at = goal.at.returns-clause-all g c in
    let put = job g at.In_ok-put_file-3 (capture g at.In_ok-put_file-2 (batch g at.In_ok-put_file)) in
    on_ok_weaker c.put_file-4.result (λ stands.
    (output_put c.args.front.now c.args.made.now _ _ (g.S.Shelf.held c.put_file-4.new.shelf) put
    c.put_file-4.ensures.others (rw c.deref-4.ensures.value at stands)).stand) c.put_file-4.ensures.stands

pub returns-clause-up_to : goal.returns-clause-up_to
returns-clause-up_to g c =
    let at = goal.at.returns-clause-up_to g c in
    output_not_put c.args.front.now c.args.made.now _ _ _
    (job g at.In_ok-put_file-3 (capture g at.In_ok-put_file-2 (batch g at.In_ok-put_file)))
    c.put_file-4.ensures.others

pub returns-in_err-put_file-clause-put_names : goal.returns-in_err-put_file-clause-put_names
returns-in_err-put_file-clause-put_names g c =
    one_put (g.S.Shelf.put_names c.args.shelf.now) (g.S.Shelf.put_names c.put_file.new.shelf)
    (c.args.front.now ++ codes ".tc") (c.args.front.now ++ codes ".pcap")
    (c.args.front.now ++ codes ".job") (c.args.front.now ++ codes ".out.pcap") c.in_err-put_file.ensures.put_names

pub returns-in_err-put_file-2-clause-put_names : goal.returns-in_err-put_file-2-clause-put_names
returns-in_err-put_file-2-clause-put_names g c =
    two_put (g.S.Shelf.put_names c.args.shelf.now) (g.S.Shelf.put_names c.put_file.new.shelf) (g.S.Shelf.put_names c.put_file-2.new.shelf)
    (c.args.front.now ++ codes ".tc") (c.args.front.now ++ codes ".pcap")
    (c.args.front.now ++ codes ".job") (c.args.front.now ++ codes ".out.pcap")
    c.in_ok-put_file.ensures.put_names c.in_err-put_file-2.ensures.put_names

pub returns-in_err-put_file-3-clause-put_names : goal.returns-in_err-put_file-3-clause-put_names
returns-in_err-put_file-3-clause-put_names g c =
    three_put (g.S.Shelf.put_names c.args.shelf.now) (g.S.Shelf.put_names c.put_file.new.shelf) (g.S.Shelf.put_names c.put_file-2.new.shelf)
    (g.S.Shelf.put_names c.put_file-3.new.shelf)
    (c.args.front.now ++ codes ".tc") (c.args.front.now ++ codes ".pcap")
    (c.args.front.now ++ codes ".job") (c.args.front.now ++ codes ".out.pcap")
    c.in_ok-put_file.ensures.put_names c.in_ok-put_file-2.ensures.put_names c.in_err-put_file-3.ensures.put_names

pub returns-clause-put_names : goal.returns-clause-put_names
returns-clause-put_names g c =
    four_put (g.S.Shelf.put_names c.args.shelf.now) (g.S.Shelf.put_names c.put_file.new.shelf) (g.S.Shelf.put_names c.put_file-2.new.shelf)
    (g.S.Shelf.put_names c.put_file-3.new.shelf) (g.S.Shelf.put_names c.put_file-4.new.shelf)
    (c.args.front.now ++ codes ".tc") (c.args.front.now ++ codes ".pcap")
    (c.args.front.now ++ codes ".job") (c.args.front.now ++ codes ".out.pcap")
    c.in_ok-put_file.ensures.put_names c.in_ok-put_file-2.ensures.put_names c.in_ok-put_file-3.ensures.put_names
    (asks_some (g.S.Shelf.put_names c.put_file-3.new.shelf) (g.S.Shelf.put_names c.put_file-4.new.shelf) ((c.args.front.now ++ codes ".out.pcap") ∷ []) c.put_file-4.result c.put_file-4.ensures.put_names)
