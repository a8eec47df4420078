use Rattle.std.proofs.Common.{◌≡◌, ◌++◌, ℕ, List, ap, ◌∙◌, arith}
use Rattle.pcap_io.specs.Places.{packet_of}
use Rattle.pcap_io.specs.Written.{packet_bytes}
use Rattle.pcap_io.proofs.Spelled.{packet_in-end, packet_bytes-from_record}
use Rattle.pcap_io.proofs.writing.put_packet.Goals as goal

pub returns-clause-within : goal.returns-clause-within
returns-clause-within c =
    let old = c.args.out.now.items in
    let packet = packet_of c.args.packet in
    let first = c.in_ok-extend_from_slice.ensures.items ∙ ap (λ (xs : List ℕ). xs ++ c.record_of-record.result) c.in_ok-reserve.ensures.items ∙ ap (λ (xs : List ℕ). old ++ xs) c.record_of-record.ensures in
    let all : c.extend_from_slice-2.new.self.items ≡ old ++ packet_bytes c.args.big packet =
    c.in_ok-extend_from_slice-2.ensures.items ∙ ap (λ (xs : List ℕ). xs ++ packet.bytes) first ∙ packet_bytes-from_record c.args.big old packet in
    rw all (packet_in-end c.args.big old packet c.requires (omega arith) (omega arith) (omega arith)).0

pub returns-clause-stands : goal.returns-clause-stands
returns-clause-stands c =
    let old = c.args.out.now.items in
    let packet = packet_of c.args.packet in
    let first = c.in_ok-extend_from_slice.ensures.items ∙ ap (λ (xs : List ℕ). xs ++ c.record_of-record.result) c.in_ok-reserve.ensures.items ∙ ap (λ (xs : List ℕ). old ++ xs) c.record_of-record.ensures in
    let all : c.extend_from_slice-2.new.self.items ≡ old ++ packet_bytes c.args.big packet =
    c.in_ok-extend_from_slice-2.ensures.items ∙ ap (λ (xs : List ℕ). xs ++ packet.bytes) first ∙ packet_bytes-from_record c.args.big old packet in
    rw all (packet_in-end c.args.big old packet c.requires (omega arith) (omega arith) (omega arith)).1
