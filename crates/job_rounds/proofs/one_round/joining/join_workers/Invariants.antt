use Rattle.std.proofs.Common.{◌≡◌, List, length}
use Rattle.std.specs.List.{AllZip}
use Rattle.std.specs.Vec.Iter.{into_iter_items, into_iter_len}
use Rattle.tc_base.specs.declared.hook.Hook.{Hook}
use Rattle.pcap_io.specs.declared.capture.Packet.{Packet}
use Rattle.job_rounds.specs.OfRoundState.Rounds.{StoreName}
use Rattle.job_rounds.specs.declared.one_round.hands.Hand.{Hand}
use Rattle.job_rounds.specs.OfOneRound.Hands.{IsStartedFor}
use Rattle.job_rounds.proofs.OfOneRound.Joins.{AreJoining}
use Rattle.job_rounds.proofs.one_round.joining.join_workers.Given as goal

abbrev pub invariant-loop-started : goal.invariant-loop-started
invariant-loop-started g l = record {
  left : into_iter_len l.started-iterator ≡ length (into_iter_items l.started-iterator);
  going : (store : StoreName) (hook : Hook) (packets : List Packet) (hands : List Hand) → AllZip (IsStartedFor store hook packets) hands l.fn.all.items
      → AreJoining store hook packets hands (into_iter_items l.started-iterator) l.back;
}
