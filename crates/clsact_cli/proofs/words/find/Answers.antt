use Rattle.std.proofs.Common.{◌∙◌, ℕ, List, take, inr, ap, arith}
use Rattle.std.proofs.lemmas.Result.{err_from_is_err_and}
use Rattle.clsact_cli.proofs.AllWords.{written_back, no_text}
use Rattle.clsact_cli.proofs.words.find.Goals as goal

pub returns-in_err-text-in-Ok-clause-cause : goal.returns-in_err-text-in-Ok-clause-cause
returns-in_err-text-in-Ok-clause-cause g c =
    let p = err_from_is_err_and c.from_residual-in_err-text-in-Ok.result c.from_residual-in_err-text-in-Ok.ensures.1 in
    rw (p.1, p.2) (inr (
      c.in_err-text-in-Ok.ensures.cause,
      no_text (g.A.Arguments.told c.args.arguments.now) c.args.place c.in-Ok.length
          c.arg.new.room c.truncate.new.self.items c.in-Ok.ensures.answer
          (c.truncate.ensures.items ∙ ap (λ (bytes : List ℕ). take c.in-Ok.length bytes)
          (written_back c.in_ok-bytes.bytes.len c.arg.new.room c.in_ok-bytes.bytes.items (omega (arith, c.arg.auto.room, c.deref_mut.ensures.len))))
          c.in_err-text-in-Ok.ensures.none,
    ))
