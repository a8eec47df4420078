use Rattle.std.proofs.Common.{◌≡◌, ◌++◌, length, take}
use Rattle.std.specs.List.{flat_map}
use Rattle.pcap_io.specs.Written.{header_bytes, packet_bytes}
use Rattle.pcap_io.specs.Captures.{StandFrom, IsHeader}
use Rattle.pcap_io.proofs.writing.write.Given as goal

abbrev pub invariant-loop-index : goal.invariant-loop-index
invariant-loop-index l = record {
  header : IsHeader l.out.items l.capture.big l.capture.nanos;
  stand : StandFrom l.capture.big l.out.items 24 (take l.index l.capture.packets) (length l.out.items);
  bytes : l.out.items ≡ header_bytes l.capture.big l.capture.nanos ++ flat_map (packet_bytes l.capture.big) (take l.index l.capture.packets);
}
