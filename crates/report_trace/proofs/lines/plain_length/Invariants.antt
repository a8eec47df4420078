use Rattle.std.proofs.Common.{◌≡◌, ◌-◌, ◌≤◌, ◌++◌, ◌∷◌, ℕ, List, length, false}
use Rattle.report_check.specs.Passed.{cut}
use Rattle.report_trace.specs.Writing.{is_plain, ArePlain}
use Rattle.report_trace.proofs.Plain.{LeftAt}
use Rattle.report_trace.proofs.lines.plain_length.Given as goal

abbrev pub invariant-loop-line : goal.invariant-loop-line
invariant-loop-line l = record {
  within : l.length ≤ length l.bytes;
  going : (plain : List (List ℕ)) (line : List ℕ) (lines : List (List ℕ)) → ArePlain plain → is_plain line ≡ false → cut l.bytes ≡ plain ++ (line ∷ lines) → LeftAt l.bytes l.length plain line lines;
}

abbrev pub decreases-loop-line : goal.decreases-loop-line
decreases-loop-line l = length l.bytes - l.length
