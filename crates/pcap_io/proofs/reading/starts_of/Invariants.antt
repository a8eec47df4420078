use Rattle.std.proofs.Common.{length, map, ◌-◌, ◌≤◌}
use Rattle.pcap_io.specs.Captures.{StandFrom}
use Rattle.pcap_io.specs.Places.{packet_in, ArePlaced}
use Rattle.pcap_io.proofs.reading.starts_of.Given as goal

abbrev pub invariant-loop-at : goal.invariant-loop-at
invariant-loop-at l = record {
  stand : StandFrom l.big l.bytes 24 (map (packet_in l.big l.bytes) l.starts.items) l.at;
  placed : ArePlaced l.big l.bytes l.starts.items l.captured;
  within : l.at ≤ length l.bytes;
  room : l.captured ≤ l.at;
}

abbrev pub decreases-loop-at : goal.decreases-loop-at
decreases-loop-at l = length l.bytes - l.at
