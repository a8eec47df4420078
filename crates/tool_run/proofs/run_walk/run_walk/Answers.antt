use Rattle.std.proofs.Common.{◌∙◌, ℕ, List, [], ◌∷◌, Option, sym, ap, subst}
use Rattle.std.proofs.lemmas.Result.{err_from_is_err_and}
use Rattle.tc_base.specs.Outside.{Held, Asked, AppendsUpTo}
use Rattle.tc_base.specs.Pieces.{joined}
use Rattle.walk_ends.specs.declared.limits.TheConstants.{PACKETS_MAX}
use Rattle.batch_run.specs.Commands.{commands_in}
use Rattle.batch_walk.specs.Walked.{told_text}
use Rattle.tool_words.specs.Requests.{names_seen, walk_of}
use Rattle.tool_words.specs.Ends.{status_after}
use Rattle.job_files.specs.OfInputs.Holdings.{Holds, HasCapture}
use Rattle.tool_run.specs.Holdings.{Gives}
use Rattle.tool_run.proofs.Asking.{first_asked, first_done, second_asked, second_done}
use Rattle.tool_run.proofs.Walking.{walk_gives, walked_so_far}
use Rattle.tool_run.proofs.Writing.{walk_ends, delivery_caused}
use Rattle.tool_run.proofs.run_walk.run_walk.Given as given
use Rattle.tool_run.proofs.run_walk.run_walk.Goals as goal
use Rattle.tool_run.proofs.run_walk.run_walk.Goals.{In_ok-walk}

-- what is held gives what is to be put and written
gives : (g : given.Over) (c : In_ok-walk g)
    → Gives (g.S.Shelf.held c.args.shelf.now) c.args.hook (names_seen c.args.names.now)
    (joined c.in_ok-walk.walk.output.pieces) (told_text c.in_ok-walk.walk.text)
    (status_after c.in_ok-walk.walk.refused)
gives g c =
    let names = names_seen c.args.names.now in
    let told = g.S.Shelf.held c.args.shelf.now in
    let held = subst (λ (b : List ℕ). Holds told names.batch b) (sym c.deref.ensures.value)
    c.in_ok-bytes.ensures.bytes in
    let stands = subst (λ (o : Option Held). HasCapture o PACKETS_MAX names.capture c.in_ok-capture.capture)
    c.load.ensures.held c.in_ok-capture.ensures.capture in
    walk_gives told c.args.hook names c.deref.result.now (commands_in c.deref-2.result.now)
    c.in_ok-capture.capture c.in_ok-walk.walk (record { held = held; few = c.in_ok-texts.ensures.few })
    (ap commands_in c.deref-2.ensures.value ∙ c.in_ok-texts.ensures.commands) stands c.in_ok-walk.ensures

pub returns-in_err-deliver-clause-cause : goal.returns-in_err-deliver-clause-cause
returns-in_err-deliver-clause-cause g c =
    let at = goal.at.returns-in_err-deliver-clause-cause g c in
    let names = names_seen c.args.names.now in
    let p = err_from_is_err_and c.from_residual-in_err-deliver.result
    c.from_residual-in_err-deliver.ensures.1 in
    let ends = walk_ends (g.S.Shelf.held c.args.shelf.now) c.args.hook names _ _ _ (gives g at.In_ok-walk) in
    rw (p.1, p.2) (delivery_caused g.S.Shelf.held g.S.Shelf.read_faults g.S.Shelf.failed_name
    g.S.Shelf.write_faults g.O.Sink.faults c.args.shelf.now c.load_capture.new.shelf c.deliver.new.shelf
    c.args.out.now c.deliver.new.out
    (walk_of c.args.hook names) c.in_err-deliver.field-0.0 ends
    (c.load_capture.ensures.write_faults ∙ c.load.ensures.write_faults)
    c.in_err-deliver.ensures.cause)

pub returns-in_err-deliver-clause-so_far : goal.returns-in_err-deliver-clause-so_far
returns-in_err-deliver-clause-so_far g c =
    let at = goal.at.returns-in_err-deliver-clause-so_far g c in
    walked_so_far _ (g.S.Shelf.held c.load_capture.new.shelf) _ _ _ c.args.hook
    (names_seen c.args.names.now) _ _ _ (gives g at.In_ok-walk)
    (c.load_capture.ensures.held ∙ c.load.ensures.held) c.deliver.ensures.others c.deliver.ensures.front

pub returns-clause-so_far : goal.returns-clause-so_far
returns-clause-so_far g c =
    let at = goal.at.returns-clause-so_far g c in
    walked_so_far _ (g.S.Shelf.held c.load_capture.new.shelf) _ _ _ c.args.hook
    (names_seen c.args.names.now) _ _ _ (gives g at.In_ok-walk)
    (c.load_capture.ensures.held ∙ c.load.ensures.held) c.deliver.ensures.others c.deliver.ensures.front

pub returns-in_err-bytes-clause-fetched : goal.returns-in_err-bytes-clause-fetched
returns-in_err-bytes-clause-fetched g c =
    first_asked (g.S.Shelf.fetched c.args.shelf.now) (g.S.Shelf.fetched c.load.new.shelf) c.args.names.now.batch.now c.args.names.now.capture.now c.in_err-bytes.ensures.fetched

pub returns-in_err-texts-clause-fetched : goal.returns-in_err-texts-clause-fetched
returns-in_err-texts-clause-fetched g c =
    first_done (g.S.Shelf.fetched c.args.shelf.now) (g.S.Shelf.fetched c.load.new.shelf) c.args.names.now.batch.now c.args.names.now.capture.now c.in_ok-bytes.ensures.fetched

pub returns-in_err-capture-clause-fetched : goal.returns-in_err-capture-clause-fetched
returns-in_err-capture-clause-fetched g c =
    second_asked (g.S.Shelf.fetched c.args.shelf.now) (g.S.Shelf.fetched c.load.new.shelf) (g.S.Shelf.fetched c.load_capture.new.shelf) c.args.names.now.batch.now c.args.names.now.capture.now
    c.in_ok-bytes.ensures.fetched c.in_err-capture.ensures.fetched

pub returns-in_err-walk-clause-fetched : goal.returns-in_err-walk-clause-fetched
returns-in_err-walk-clause-fetched g c =
    second_done (g.S.Shelf.fetched c.args.shelf.now) (g.S.Shelf.fetched c.load.new.shelf) (g.S.Shelf.fetched c.load_capture.new.shelf) c.args.names.now.batch.now c.args.names.now.capture.now
    c.in_ok-bytes.ensures.fetched c.in_ok-capture.ensures.fetched

pub returns-in_err-deliver-clause-fetched : goal.returns-in_err-deliver-clause-fetched
returns-in_err-deliver-clause-fetched g c =
    subst (λ (new : Asked). AppendsUpTo (g.S.Shelf.fetched c.args.shelf.now) new
    (c.args.names.now.batch.now ∷ c.args.names.now.capture.now ∷ [])) (sym c.deliver.ensures.fetched)
    (second_done (g.S.Shelf.fetched c.args.shelf.now) (g.S.Shelf.fetched c.load.new.shelf) (g.S.Shelf.fetched c.load_capture.new.shelf) c.args.names.now.batch.now c.args.names.now.capture.now
    c.in_ok-bytes.ensures.fetched c.in_ok-capture.ensures.fetched)

pub returns-clause-fetched : goal.returns-clause-fetched
returns-clause-fetched g c =
    subst (λ (new : Asked). AppendsUpTo (g.S.Shelf.fetched c.args.shelf.now) new
    (c.args.names.now.batch.now ∷ c.args.names.now.capture.now ∷ [])) (sym c.deliver.ensures.fetched)
    (second_done (g.S.Shelf.fetched c.args.shelf.now) (g.S.Shelf.fetched c.load.new.shelf) (g.S.Shelf.fetched c.load_capture.new.shelf) c.args.names.now.batch.now c.args.names.now.capture.now
    c.in_ok-bytes.ensures.fetched c.in_ok-capture.ensures.fetched)
