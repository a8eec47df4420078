use Rattle.std.proofs.Common.{◌≡◌, ◌∙◌, ℕ, List, Bor, ap, subst}
use Rattle.std.specs.Prelude.{map}
use Rattle.std.proofs.lemmas.Result.{err_from_is_err_and}
use Rattle.batch_run.specs.Commands.{Command, commands_from, commands_in, commands_of}
use Rattle.tool_run.specs.Parts.{ApplyingFails}
use Rattle.tool_run.proofs.input.batch_lines.Goals as goal

pub returns-in_err-check_command_count-clause-cause : goal.returns-in_err-check_command_count-clause-cause
returns-in_err-check_command_count-clause-cause c =
    let e : commands_in c.deref.result.now ≡ commands_of c.args.bytes.now =
    ap (commands_from 1) (ap (map (λ (text : Bor (List ℕ)). text.now)) c.deref.ensures.value
    ∙ c.in_ok-texts.ensures) in
    let p = err_from_is_err_and c.from_residual-in_err-check_command_count.result
    c.from_residual-in_err-check_command_count.ensures.1 in
    rw (p.1, p.2) (subst (λ (l : List Command). ApplyingFails c.args.name.now l
    c.in_err-check_command_count.field-0.0) e c.in_err-check_command_count.ensures.many)
