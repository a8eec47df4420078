-- How packets lie in one buffer: each as its record and then its bytes, from a place of its own on. This
-- project's own.
use Rattle.std.specs.Prelude.{◌≡◌, ℕ, ◌+◌, ◌^◌, ◌<◌, ◌≤◌, Bool, List, length, take, drop, All, sum_by}
use Rattle.pcap_io.specs.declared.capture.Packet.{Packet}
use Rattle.pcap_io.specs.declared.capture.PacketView.{PacketView}
use Rattle.pcap_io.specs.Layout.{number_in}

-- the packet that a view lends
abbrev pub packet_of : PacketView → Packet
packet_of view =
    record {
      seconds = view.seconds;
      fraction = view.fraction;
      original = view.original;
      bytes = view.bytes.now;
    }

-- the captured length that the record at a place says
abbrev pub length_at : Bool → List ℕ → ℕ → ℕ
length_at big content start = number_in big 4 (drop (start + 8) content)

-- the packet whose record begins at a place
abbrev pub packet_in : Bool → List ℕ → ℕ → Packet
packet_in big content start =
    record {
      seconds = number_in big 4 (drop start content);
      fraction = number_in big 4 (drop (start + 4) content);
      original = number_in big 4 (drop (start + 12) content);
      bytes = take (length_at big content start) (drop (start + 16) content);
    }

-- the record lies within the buffer, and the bytes too whose number it says
abbrev pub IsWithin : Bool → List ℕ → ℕ → Type 0
IsWithin big content start = start + 16 + length_at big content start ≤ length content

-- all packets lie within a buffer whose places have 32 bits, and have so many bytes together
pub record ArePlaced (big : Bool) (content starts : List ℕ) (captured : ℕ) : Type 0 where
  pub within : All (IsWithin big content) starts
  pub total : captured ≡ sum_by (length_at big content) starts
  pub room : captured ≤ length content
  pub reached : length content < 2 ^ 32
