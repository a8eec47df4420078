-- VLAN tags in the bytes of an Ethernet frame, and what the actions of tc-vlan(8) make of them. Bytes are
-- counted from 0, and numbers are big-endian. How many bytes a frame must have for an action to change it is
-- this project's own.
use Rattle.std.specs.Prelude.{ℕ, ◌+◌, ◌*◌, ◌/◌, ◌%◌, ◌^◌, Bool, ◌&&◌, ◌||◌, ◌==◌, nat_le, if◌then◌else◌, List}
use Rattle.std.specs.Prelude.{◌++◌, length, take, drop, Option, unwrap_or}
use Rattle.byteorder.specs.Endian.{big_number, big_bytes}

-- the number in the two bytes from a place on
abbrev pub two_at : List ℕ → ℕ → ℕ
two_at bytes at = big_number 2 (drop at bytes)

-- IEEE 802.3, clause 3.2: two addresses of six bytes, and then the EtherType
abbrev pub has_ethernet : List ℕ → Bool
has_ethernet bytes = nat_le 14 (length bytes)

-- the EtherType behind the two addresses, or 0 where there is none
abbrev pub ether_type_of : List ℕ → ℕ
ether_type_of bytes = if has_ethernet bytes then two_at bytes 12 else 0

-- IEEE 802.1Q, clause 9: the EtherTypes of a customer tag and of a service tag
abbrev pub is_tag_type : ℕ → Bool
is_tag_type number = number == 0x8100 || number == 0x88a8

-- IEEE 802.1Q, clause 9: a tag is its own EtherType (TPID) and two bytes of control information (TCI) behind
-- the addresses. It counts as one only where the EtherType behind it is in the frame too.
abbrev pub is_tagged : List ℕ → Bool
is_tagged bytes = is_tag_type (two_at bytes 12) && nat_le 18 (length bytes)

-- IEEE 802.1Q, clause 9.6: the TCI has three bits of priority, the drop eligible bit (DEI), and twelve bits
-- of the VLAN's id
abbrev pub control_of : ℕ → ℕ → ℕ → ℕ
control_of priority drop_eligible id = priority * 2 ^ 13 + drop_eligible * 2 ^ 12 + id

abbrev pub priority_of : ℕ → ℕ
priority_of tci = tci / 2 ^ 13

abbrev pub drop_eligible_of : ℕ → ℕ
drop_eligible_of tci = tci / 2 ^ 12 % 2

-- a TCI with another id, and with another priority where one is given; the rest is kept
abbrev pub control_with : ℕ → ℕ → Option ℕ → ℕ
control_with tci id priority = control_of (unwrap_or priority (priority_of tci)) (drop_eligible_of tci) id

-- the four bytes of a tag
abbrev pub tag_bytes : ℕ → ℕ → List ℕ
tag_bytes tpid tci = big_bytes 2 tpid ++ big_bytes 2 tci

-- a tag more behind the addresses
abbrev pub with_tag : List ℕ → ℕ → ℕ → List ℕ
with_tag bytes tpid tci = take 12 bytes ++ (tag_bytes tpid tci ++ drop 12 bytes)

-- the tag behind the addresses less
abbrev pub without_tag : List ℕ → List ℕ
without_tag bytes = take 12 bytes ++ drop 16 bytes

-- another tag in place of the one behind the addresses
abbrev pub retagged : List ℕ → ℕ → ℕ → List ℕ
retagged bytes tpid tci = take 12 bytes ++ (tag_bytes tpid tci ++ drop 16 bytes)

-- push: a frame below 14 bytes stays as it is
abbrev pub pushed : List ℕ → ℕ → ℕ → List ℕ
pushed bytes tpid tci = if has_ethernet bytes then with_tag bytes tpid tci else bytes

-- pop: the outermost tag goes, and an untagged frame stays as it is
abbrev pub popped : List ℕ → List ℕ
popped bytes = if is_tagged bytes then without_tag bytes else bytes

-- modify: the outermost tag gets the TPID, the id and, where one is given, the priority; an untagged frame
-- stays as it is
abbrev pub modified : List ℕ → ℕ → Option ℕ → ℕ → List ℕ
modified bytes id priority tpid =
    if is_tagged bytes then retagged bytes tpid (control_with (two_at bytes 14) id priority) else bytes
