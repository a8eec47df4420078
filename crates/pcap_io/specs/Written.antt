-- The bytes that are written for a header and for a packet.
-- Source: pcap-savefile(5) of libpcap, version 2.4. That the two reserved words are 0 is there; that the
-- snap length is 262,144, libpcap's own most (MAXIMUM_SNAPLEN), is this project's choice.
use Rattle.pcap_io.specs.declared.layout.TheConstants.{SNAP_LENGTH}
use Rattle.std.specs.Prelude.{ℕ, Bool, true, false, List, ◌++◌, length}
use Rattle.std.specs.List.{flat_map}
use Rattle.pcap_io.specs.declared.capture.Packet.{Packet}
use Rattle.pcap_io.specs.declared.capture.Capture.{Capture}
use Rattle.pcap_io.specs.Layout.{bytes_in}

-- the magic word of files with microseconds or nanoseconds
abbrev pub magic_of : Bool → ℕ
magic_of true = 0xa1b23c4d
magic_of false = 0xa1b2c3d4

-- magic word, version 2 and 4, two reserved words, snap length, link type
abbrev pub header_bytes : Bool → Bool → List ℕ
header_bytes big nanos =
    bytes_in big 4 (magic_of nanos)
    ++ (bytes_in big 2 2
    ++ (bytes_in big 2 4
    ++ (bytes_in big 4 0 ++ (bytes_in big 4 0 ++ (bytes_in big 4 SNAP_LENGTH ++ bytes_in big 4 1)))))

-- the four numbers before a packet's bytes: seconds, fraction, captured length, original length
abbrev pub record_bytes : Bool → Packet → List ℕ
record_bytes big p =
    bytes_in big 4 p.seconds
    ++ (bytes_in big 4 p.fraction ++ (bytes_in big 4 (length p.bytes) ++ bytes_in big 4 p.original))

-- the four numbers, and then the bytes
abbrev pub packet_bytes : Bool → Packet → List ℕ
packet_bytes big p =
    bytes_in big 4 p.seconds
    ++ (bytes_in big 4 p.fraction
    ++ (bytes_in big 4 (length p.bytes) ++ (bytes_in big 4 p.original ++ p.bytes)))

-- the bytes that are written for a capture
abbrev pub capture_bytes : Capture → List ℕ
capture_bytes c = header_bytes c.big c.nanos ++ flat_map (packet_bytes c.big) c.packets
