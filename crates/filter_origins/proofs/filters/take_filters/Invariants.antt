use Rattle.std.proofs.Common.{◌≡◌, take}
use Rattle.filter_origins.specs.Noted.{all_taken}
use Rattle.filter_origins.proofs.filters.take_filters.Given as goal

abbrev pub invariant-loop-filter : goal.invariant-loop-filter
invariant-loop-filter l = l.brought ≡ all_taken l.edit l.slots (take l.filter-index l.going) l.fn.brought
