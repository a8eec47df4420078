-- Which bytes are a capture, and where bytes first fail to be one.
-- Source: pcap-savefile(5) of libpcap, version 2.4 (tcpdump.org/manpages/pcap-savefile.5.html), and
-- LINKTYPE_ETHERNET = 1 of tcpdump.org/linktypes.html. The most bytes of a packet, 262,144, is libpcap's
-- own most (MAXIMUM_SNAPLEN). Which fault comes first is this project's own: from left to right, and in a
-- record its captured length before its bytes.
use Rattle.pcap_io.specs.declared.layout.TheConstants.{PACKET_MAX}
use Rattle.std.specs.Prelude.{◌≡◌, ◌≢◌, ◌⊎◌, ℕ, ◌+◌, ◌<◌, ◌≤◌, Bool, true, List, [], ◌∷◌, Some, None, length}
use Rattle.std.specs.Prelude.{take, drop, All}
use Rattle.pcap_io.specs.declared.capture.Packet.{Packet}
use Rattle.pcap_io.specs.declared.capture.Capture.{Capture}
use Rattle.pcap_io.specs.declared.fault.CaptureFault.{CaptureFault}
use Rattle.pcap_io.specs.declared.fault.CaptureFault.TheVariants as faults
use Rattle.pcap_io.specs.Layout.{number_in, Kind, kind_of}

-- a packet stands at this offset: seconds, fraction, captured length and original length in 4 bytes
-- each, and then the captured bytes
pub record IsPacketAt (big : Bool) (bytes : List ℕ) (at : ℕ) (packet : Packet) : Type 0 where
  pub whole : at + 16 + length packet.bytes ≤ length bytes
  pub within : length packet.bytes ≤ PACKET_MAX
  pub seconds : packet.seconds ≡ number_in big 4 (drop at bytes)
  pub fraction : packet.fraction ≡ number_in big 4 (drop (at + 4) bytes)
  pub captured : length packet.bytes ≡ number_in big 4 (drop (at + 8) bytes)
  pub original : packet.original ≡ number_in big 4 (drop (at + 12) bytes)
  pub content : packet.bytes ≡ take (length packet.bytes) (drop (at + 16) bytes)

-- these packets stand one after the other from one offset up to another
abbrev pub StandFrom : Bool → List ℕ → ℕ → List Packet → ℕ → Type 0
StandFrom big bytes at [] end = at ≡ end
StandFrom big bytes at (packet ∷ packets) end =
    IsPacketAt big bytes at packet × StandFrom big bytes (at + 16 + length packet.bytes) packets end

-- the first 24 bytes are a header of this kind: magic word, version 2 and 4, two reserved words and a snap
-- length that say nothing here, and link type 1
pub record IsHeader (bytes : List ℕ) (big nanos : Bool) : Type 0 where
  pub whole : 24 ≤ length bytes
  pub magic : kind_of (number_in true 4 bytes) ≡ Some (record { big = big; nanos = nanos })
  pub major : number_in big 2 (drop 4 bytes) ≡ 2
  pub minor : number_in big 2 (drop 6 bytes) ≡ 4
  pub link : number_in big 4 (drop 20 bytes) ≡ 1

-- all of the bytes are this capture
pub record IsCapture (bytes : List ℕ) (capture : Capture) : Type 0 where
  pub header : IsHeader bytes capture.big capture.nanos
  pub packets : StandFrom capture.big bytes 24 capture.packets (length bytes)

-- no packet stands at this offset, for this reason: fewer than 16 bytes are left, or the captured length
-- is above 262,144, or fewer bytes are left than it says
abbrev pub PacketFails : Bool → List ℕ → ℕ → CaptureFault → Type 0
PacketFails big bytes at (faults.CutRecord offset) = (offset ≡ at) × (at < length bytes)
    × ((length bytes < at + 16)
    ⊎ ((number_in big 4 (drop (at + 8) bytes) ≤ PACKET_MAX)
    × (length bytes < at + 16 + number_in big 4 (drop (at + 8) bytes))))
PacketFails big bytes at (faults.TooLong offset len) = (offset ≡ at) × (at + 16 ≤ length bytes)
    × (len ≡ number_in big 4 (drop (at + 8) bytes)) × (PACKET_MAX < len)
PacketFails big bytes at fault = ⊥

-- a packet fails behind packets that stand from the header on
pub record FailsBehind (big : Bool) (bytes : List ℕ) (fault : CaptureFault) : Type 0 where
  pub packets : List Packet
  pub at : ℕ
  pub stand : StandFrom big bytes 24 packets at
  pub fails : PacketFails big bytes at fault

-- the same for a fault that was answered, which may be want of memory
abbrev pub PacketFault : Bool → List ℕ → ℕ → CaptureFault → Type 0
PacketFault big bytes at (faults.NoMemory memory) = Unit {0}
PacketFault big bytes at fault = PacketFails big bytes at fault

abbrev pub FaultBehind : Bool → List ℕ → CaptureFault → Type 0
FaultBehind big bytes (faults.NoMemory memory) = Unit {0}
FaultBehind big bytes fault = FailsBehind big bytes fault

-- the first fault of the bytes
abbrev pub HasFault : List ℕ → CaptureFault → Type 0
HasFault bytes (faults.CutHeader offset) = (length bytes < 24) × (offset ≡ length bytes)
HasFault bytes faults.BadMagic = (24 ≤ length bytes) × (kind_of (number_in true 4 bytes) ≡ None)
HasFault bytes faults.BadVersion = (24 ≤ length bytes) × (kind : Kind)
    × (kind_of (number_in true 4 bytes) ≡ Some kind)
    × ((number_in kind.big 2 (drop 4 bytes) ≢ 2) ⊎ (number_in kind.big 2 (drop 6 bytes) ≢ 4))
HasFault bytes faults.NotEthernet = (24 ≤ length bytes) × (kind : Kind)
    × (kind_of (number_in true 4 bytes) ≡ Some kind)
    × (number_in kind.big 2 (drop 4 bytes) ≡ 2) × (number_in kind.big 2 (drop 6 bytes) ≡ 4)
    × (number_in kind.big 4 (drop 20 bytes) ≢ 1)
HasFault bytes (faults.NoMemory memory) = Unit {0}
HasFault bytes fault = (kind : Kind) × IsHeader bytes kind.big kind.nanos × FailsBehind kind.big bytes fault

-- each packet has at most 262,144 bytes
abbrev pub AreShort : List Packet → Type 0
AreShort packets = All (λ p. length p.bytes ≤ PACKET_MAX) packets

-- the same without want of memory
abbrev pub IsFault : List ℕ → CaptureFault → Type 0
IsFault bytes (faults.NoMemory memory) = ⊥
IsFault bytes fault = HasFault bytes fault
