use Rattle.std.proofs.Common.{◌≡◌, ◌≤◌, ◌+◌, ◌++◌, length}
use Rattle.std.specs.Vec.Iter.{into_iter_items}
use Rattle.filter_index.specs.Listed.{those_there}
use Rattle.filter_index.proofs.filters.Filters.take_over.Given as goal

abbrev pub invariant-loop-slot : goal.invariant-loop-slot
invariant-loop-slot l =
    (l.self.filters ++ those_there (into_iter_items l.slot-iterator) ≡ l.fn.from.filters) × (l.fn.self.spare ≤ l.self.spare + length l.self.filters)
    × (goal.iterator-loop-slot).can_next l.slot-iterator × (goal.iterator-loop-slot).is_finite l.slot-iterator
