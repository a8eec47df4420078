use Rattle.std.proofs.Common.{◌≡◌, ◌-◌, length, []}
use Rattle.std.specs.Prelude.{All}
use Rattle.step_counts.specs.Seats.{new_seat}
use Rattle.step_counts.specs.Claims.{hand}
use Rattle.step_counts.proofs.claims.cut_seats.Given as goal

abbrev pub invariant-loop-made : goal.invariant-loop-made
invariant-loop-made l = record {
  table : l.origin.table_id ≡ l.fn.word.shared.table_id;
  view : l.origin.me ≡ (hand l.fn.seats (l.fn.seats - l._made) [], []);
  fresh : All (λ seat. seat ≡ new_seat (record { making = l.fn.word.shared.table_id; seats = l.fn.seats; left = 0 })) l.left.items;
  count : length l.left.items ≡ l._made;
}
