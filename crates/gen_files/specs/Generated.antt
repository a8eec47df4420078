-- The files that the generator makes for a number of filters (this project's own).
use Rattle.std.specs.Prelude.{ℕ, ◌*◌, ◌/◌, ◌%◌, ◌==◌, List, [], ◌∷◌, ◌++◌, map, if◌then◌else◌, codes, decimal}
use Rattle.std.specs.List.{flat_map, range_with_len}
use Rattle.pcap_io.specs.declared.capture.Packet.{Packet}

-- ---- the batch: filter i drops where i has the remainder 3 by 4
abbrev pub address_text : ℕ → List ℕ
address_text i = codes "10.0." ++ decimal (i / 256) ++ codes "." ++ decimal (i % 256)

abbrev pub action_text : ℕ → List ℕ
action_text i = if i % 4 == 3 then codes " action drop index 1\n" else codes " action ok index 2\n"

abbrev pub filter_line : ℕ → List ℕ
filter_line i = codes "filter add dev eth0 ingress protocol ip pref 10 flower dst_ip " ++ address_text i
    ++ action_text i

abbrev pub filter_lines : ℕ → List (List ℕ)
filter_lines filters = map filter_line (range_with_len 0 filters)

abbrev pub batch_text : ℕ → List ℕ
batch_text filters =
    codes "qdisc add dev eth0 clsact\n" ++ flat_map (λ (line : List ℕ). line) (filter_lines filters)

-- ---- the capture: 24 packets a filter, to twice as many addresses, one after the other
-- the addresses, EtherType 0x0800, and an IPv4 header of a UDP packet up to its destination: from 10.0.0.254
abbrev pub frame_front : List ℕ
frame_front =
    2 ∷ 0 ∷ 0 ∷ 0 ∷ 0 ∷ 1 ∷ 2 ∷ 0 ∷ 0 ∷ 0 ∷ 0 ∷ 2 ∷ 8 ∷ 0 ∷ 0x45 ∷ 0 ∷ 0 ∷ 0x2e ∷ 0 ∷ 0 ∷ 0 ∷ 0 ∷ 0x40 ∷ 0x11
    ∷ 0 ∷ 0 ∷ 10 ∷ 0 ∷ 0 ∷ 0xfe ∷ []

-- from port 5000 to port 53, 18 bytes of payload, all 0
abbrev pub frame_back : List ℕ
frame_back = 0x13 ∷ 0x88 ∷ 0 ∷ 0x35 ∷ 0 ∷ 0x1a ∷ 0 ∷ 0 ∷ 0 ∷ 0 ∷ 0 ∷ 0 ∷ 0 ∷ 0 ∷ 0 ∷ 0 ∷ 0 ∷ 0 ∷ 0 ∷ 0 ∷ 0 ∷ 0
    ∷ 0 ∷ 0 ∷ 0 ∷ 0 ∷ []

-- the frame to 10.0.X.Y
abbrev pub frame_to : ℕ → List ℕ
frame_to i = frame_front ++ (10 ∷ 0 ∷ (i / 256) ∷ (i % 256) ∷ []) ++ frame_back

abbrev pub packet_of : ℕ → ℕ → Packet
packet_of filters j = record {
  seconds = j;
  fraction = 0;
  original = 60;
  bytes = frame_to (j % (2 * filters));
}

abbrev pub first_packets : ℕ → ℕ → List Packet
first_packets filters count = map (λ (j : ℕ). packet_of filters j) (range_with_len 0 count)

abbrev pub packets_of : ℕ → List Packet
packets_of filters = first_packets filters (24 * filters)

-- ---- the job: the batch in one round, and the capture in the next
abbrev pub job_text : List ℕ → List ℕ
job_text front =
    codes "clsact job 1\nworkers 4\ncontrols 1\nround\nbatch 1 " ++ front
    ++ codes ".tc\nround\ncapture ingress " ++ front ++ codes ".pcap "
    ++ front ++ codes ".out.pcap\nend\n"
