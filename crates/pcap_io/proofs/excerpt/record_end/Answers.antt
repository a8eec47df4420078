use Rattle.pcap_io.proofs.Stretches.{packet_stretch}
use Rattle.pcap_io.proofs.excerpt.record_end.Goals as goal

pub returns-clause-bytes : goal.returns-clause-bytes
returns-clause-bytes c =
    packet_stretch c.args.big c.args.content.now c.args.start c.requires.within
    c.number_stands.ensures c.number_stands-2.ensures c.number_stands-3.ensures c.number_stands-4.ensures
