use Rattle.std.proofs.Common.{ℕ, ◌<◌, ◌≤◌}
use Rattle.round_terms.specs.Files.{files_of}
use Rattle.round_terms.specs.Turns.{HasNoLine}
use Rattle.report_check.proofs.events.events.some_left.Given as goal

abbrev pub invariant-loop-control : goal.invariant-loop-control
invariant-loop-control l = (control : ℕ) → 1 ≤ control → control < l.control → HasNoLine (files_of l.job l.number) l.places control
