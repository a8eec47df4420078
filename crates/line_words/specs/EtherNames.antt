-- The names of EtherTypes (IANA, IEEE 802 Numbers; IEEE 802.1Q, clause 9.5, table 9-1): the one table by which
-- lines are read and printed.
use Rattle.std.specs.Prelude.{ℕ, ◌==◌, Bool, false, List, codes, Option, Some, None, if◌then◌else◌}
use Rattle.std.specs.Str.{bytes_eq}

-- the name of an EtherType, where it has one
abbrev pub ether_name : ℕ → Option (List ℕ)
ether_name n =
    if n == 0x0800 then Some (codes "ip")
    else if n == 0x86DD then Some (codes "ipv6")
    else if n == 0x0806 then Some (codes "arp")
    else if n == 0x8100 then Some (codes "802.1Q")
    else if n == 0x88A8 then Some (codes "802.1ad")
    else None

-- the word is a name that is there
abbrev pub is_the_name : List ℕ → Option (List ℕ) → Bool
is_the_name word None = false
is_the_name word (Some name) = bytes_eq word name
