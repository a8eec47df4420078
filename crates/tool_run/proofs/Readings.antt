-- What one name holds has one run.
use Rattle.std.proofs.Common.{◌≡◌, List, ℕ, Some, subst}
use Rattle.tc_base.specs.Outside.{Held}
use Rattle.filter_state.specs.States.{no_state}
use Rattle.batch_run.specs.Commands.{commands_of}
use Rattle.batch_run.specs.Runs.{Ran, IsRun}
use Rattle.batch_run.proofs.Outcomes.{one_ran}
use Rattle.job_files.proofs.OfInputs.Readings.{same_bytes}
use Rattle.tool_run.specs.Holdings.{HasRun}

pub same_run : (held : Held) (name : List ℕ) (a b : Ran) → HasRun (Some held) name a
    → HasRun (Some held) name b → a ≡ b
same_run held name a b h k =
    let e = same_bytes held name h.bytes k.bytes h.batch.held k.batch.held in
    one_ran no_state 0 (commands_of k.bytes) a b
    (subst (λ (x : List ℕ). IsRun no_state 0 (commands_of x) a) e h.runs) k.runs
