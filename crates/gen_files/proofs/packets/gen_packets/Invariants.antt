use Rattle.std.proofs.Common.{◌≡◌}
use Rattle.pcap_io.specs.Captures.{AreShort}
use Rattle.gen_files.specs.Generated.{first_packets}
use Rattle.gen_files.proofs.packets.gen_packets.Given as goal

abbrev pub invariant-loop-number : goal.invariant-loop-number
invariant-loop-number l = record {
  packets : l.packets ≡ first_packets l.filters l.number;
  short : AreShort l.packets;
}
