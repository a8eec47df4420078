use Rattle.std.proofs.Common.{arith}
use Rattle.pcap_io.proofs.Places.{sum_by-packets_in}
use Rattle.pcap_io.proofs.packets.Packets.byte_count.Goals as goal

pub returns : goal.returns
returns c =
    let total = c.self.invariant.total in
    let sums = sum_by-packets_in c.self.inside.big c.self.inside.content.items c.self.inside.starts.items c.self.invariant.within in
    rw (← c.self.view_is) (omega arith)
