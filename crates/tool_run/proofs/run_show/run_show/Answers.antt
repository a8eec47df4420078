use Rattle.std.proofs.Common.{◌∙◌, ℕ, List, Err, inr, sym, ap, subst}
use Rattle.std.proofs.lemmas.Result.{err_from_is_err_and}
use Rattle.tool_words.specs.Command.{Show}
use Rattle.job_files.specs.OfInputs.Holdings.{Holds}
use Rattle.tool_run.proofs.Asking.{one_done}
use Rattle.tool_run.proofs.Writing.{put_caused, show_ends}
use Rattle.tool_run.proofs.run_show.run_show.Goals as goal

pub returns-in_err-write_text-clause-cause : goal.returns-in_err-write_text-clause-cause
returns-in_err-write_text-clause-cause g c =
    let put = c.in_err-write_text.field-0.0 in
    let p = err_from_is_err_and c.from_residual-in_err-write_text.result
    c.from_residual-in_err-write_text.ensures.1 in
    let told = g.S.Shelf.held c.args.shelf.now in
    let ran = c.in_ok-shown.ensures.shown in
    let held : Holds told c.args.name.now c.deref.result.now =
    subst (λ (b : List ℕ). Holds told c.args.name.now b) (sym c.deref.ensures.value)
    c.in_ok-bytes.ensures.bytes in
    let ends = show_ends told c.args.name.now c.deref.result.now ran.0 held c.in_ok-shown.ensures.few ran.1 in
    rw (p.1, p.2) (put_caused g.S.Shelf.held g.S.Shelf.read_faults g.S.Shelf.failed_name
    g.S.Shelf.write_faults g.O.Sink.faults c.args.shelf.now c.load.new.shelf c.args.out.now
    c.write_text.new.out
    (Show c.args.name.now) put ends (λ failed. inr
    (c.write_text.ensures.cause (c.in_err-write_text.was ∙ ap Err failed))))

pub returns-in_err-shown-clause-fetched : goal.returns-in_err-shown-clause-fetched
returns-in_err-shown-clause-fetched g c =
    one_done (g.S.Shelf.fetched c.args.shelf.now) (g.S.Shelf.fetched c.load.new.shelf) c.args.name.now
    c.in_ok-bytes.ensures.fetched

pub returns-in_err-write_text-clause-fetched : goal.returns-in_err-write_text-clause-fetched
returns-in_err-write_text-clause-fetched g c =
    one_done (g.S.Shelf.fetched c.args.shelf.now) (g.S.Shelf.fetched c.load.new.shelf) c.args.name.now
    c.in_ok-bytes.ensures.fetched

pub returns-clause-fetched : goal.returns-clause-fetched
returns-clause-fetched g c =
    one_done (g.S.Shelf.fetched c.args.shelf.now) (g.S.Shelf.fetched c.load.new.shelf) c.args.name.now
    c.in_ok-bytes.ensures.fetched
