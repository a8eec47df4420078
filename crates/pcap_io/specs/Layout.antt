-- Numbers in either order, and the magic words.
-- Source: pcap-savefile(5) of libpcap, version 2.4: "all fields .. are in the byte order of the host that
-- wrote the file", and its table of magic numbers (tcpdump.org/manpages/pcap-savefile.5.html).
use Rattle.std.specs.Prelude.{ℕ, Bool, true, false, List, Option, Some, None, if◌then◌else◌, ◌==◌}
use Rattle.byteorder.specs.Endian.{big_number, little_number, big_bytes, little_bytes}

-- the number in the first n bytes, with its highest byte first or its lowest
abbrev pub number_in : Bool → ℕ → List ℕ → ℕ
number_in true n bytes = big_number n bytes
number_in false n bytes = little_number n bytes

-- the n bytes of a number
abbrev pub bytes_in : Bool → ℕ → ℕ → List ℕ
bytes_in true n x = big_bytes n x
bytes_in false n x = little_bytes n x

-- a file's order of bytes, and whether its fractions are nanoseconds
pub record Kind : Type 0 where
  pub big : Bool
  pub nanos : Bool

-- the kind that a magic word says, where the word is read with its highest byte first: a1b2c3d4 for
-- microseconds and a1b23c4d for nanoseconds, each written in the file's own order
unfoldable pub kind_of : ℕ → Option Kind
kind_of magic =
    if magic == 0xa1b2c3d4 then Some (record { big = true; nanos = false })
    else if magic == 0xd4c3b2a1 then Some (record { big = false; nanos = false })
    else if magic == 0xa1b23c4d then Some (record { big = true; nanos = true })
    else if magic == 0x4d3cb2a1 then Some (record { big = false; nanos = true })
    else None
