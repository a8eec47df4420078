use Rattle.std.proofs.Common.{◌≡◌, ℕ, length, Some}
use Rattle.std.specs.Prelude.{slice_get}
use Rattle.report_check.specs.declared.walker.Walker.{Walker}
use Rattle.report_check.proofs.Begun.{IsFresh}
use Rattle.report_check.proofs.walkers.Walkers.new.Given as goal

abbrev pub invariant-loop-number : goal.invariant-loop-number
invariant-loop-number l = record {
  many : length l.each.items ≡ l._number;
  fresh : (index : ℕ) (walker : Walker) → slice_get l.each.items index ≡ Some walker → IsFresh walker;
}
