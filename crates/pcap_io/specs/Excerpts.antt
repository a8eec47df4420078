-- The bytes of a capture that is made of the packets of another (this project's own).
use Rattle.std.specs.Prelude.{◌≡◌, ℕ, ◌^◌, ◌<◌, Bool, List, length, All}
use Rattle.tc_base.specs.Pieces.{BytesInPieces}
use Rattle.pcap_io.specs.declared.capture.Capture.{Capture}
use Rattle.pcap_io.specs.Places.{IsWithin}

-- the capture whose packets can be kept, and the bytes so far
pub record Excerpted : Type 0 where
  pub of : Capture
  pub bytes : List ℕ

-- stretches of the buffer in which the packets lie are lent
pub record IsExcerpt (big : Bool) (content starts : List ℕ) (pieces : BytesInPieces) : Type 0 where
  pub lent : pieces.lent ≡ content
  pub within : All (IsWithin big content) starts
  pub reached : length content < 2 ^ 32
