use Rattle.std.proofs.Common.{◌≡◌, ◌<◌, ℕ}
use Rattle.std.specs.Prelude.{Some}
use Rattle.std.specs.List.{slice_get}
use Rattle.job_lines.specs.declared.job.BatchName.{BatchName}
use Rattle.round_terms.proofs.batches.batch_of.Given as goal

-- none of those before is the control's
abbrev pub invariant-loop-at : goal.invariant-loop-at
invariant-loop-at l = (at : ℕ) (name : BatchName) → at < l.at → slice_get l.named at ≡ Some name → name.control ≡ l.control → ⊥
