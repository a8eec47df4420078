use Rattle.std.proofs.Common.{◌≡◌, ◌++◌, map, length}
use Rattle.std.specs.Prelude.{All}
use Rattle.pin_store.specs.Calls.{number_of, IsNewReader}
use Rattle.shared_hook.specs.Views.{IsUnused}
use Rattle.shared_hook.proofs.making.readers_of.Given as goal

abbrev pub invariant-loop-reader : goal.invariant-loop-reader
invariant-loop-reader l = record {
  made : All (λ r. IsNewReader l.store r.place) l.left.items;
  rest : All (λ r. IsNewReader l.store r.place) l.readers.left.items;
  numbers : map (λ r. number_of r.place) l.left.items ++ map (λ r. number_of r.place) l.readers.left.items ≡ map (λ r. number_of r.place) l.fn.readers.left.items;
  unused : All IsUnused l.left.items;
}

abbrev pub decreases-loop-reader : goal.decreases-loop-reader
decreases-loop-reader l = length l.readers.left.items
