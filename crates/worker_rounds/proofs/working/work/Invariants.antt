use Rattle.std.proofs.Common.{◌-◌, ◌≡◌, ◌≤◌}
use Rattle.pin_store.specs.Calls.{IsOutside, IsSeatOf}
use Rattle.worker_rounds.specs.Worked.{arrivals_of, IsWorked}
use Rattle.worker_rounds.proofs.Further.{AreDrawn}
use Rattle.worker_rounds.proofs.working.work.Given as goal

abbrev pub invariant-loop-least : goal.invariant-loop-least
invariant-loop-least g l = record {
  number : l.worker.number ≡ l.initial.worker.number;
  store : IsSeatOf l.round.store.now l.worker.reader.place;
  outside : IsOutside l.worker.reader.place;
  worked : IsWorked l.initial.worker.number (arrivals_of l.round.hook l.round.packets.now) l.initial.worker.reader l.worker.reader l.log;
  drawn : AreDrawn l.count l.least l.log l.seat.deeds;
  making : l.seat.making ≡ l.round.claims.now;
  seat : l.seat ≡ record l.initial.seat { deeds = l.seat.deeds };
  low : l.least ≤ l.count;
}

abbrev pub decreases-loop-least : goal.decreases-loop-least
decreases-loop-least g l = l.count - l.least
