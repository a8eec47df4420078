use Rattle.std.proofs.Common.{◌≡◌, ℕ, length, get_or, None}
use Rattle.mask_table.proofs.mirrors.mirror.empty_places.Given as goal

abbrev pub invariant-loop : goal.invariant-loop
invariant-loop g l = record {
  long : length l.places.items ≡ l.counter;
  empty : (place : ℕ) → get_or l.places.items place None ≡ None;
}
