-- Which values and masks the fields of a filter can have, by what tc-flower(8) lets a line say. A field that
-- a line doesn't name has the mask 0.
use Rattle.std.specs.Prelude.{◌≡◌, ℕ, ◌+◌, ◌-◌, ◌*◌, ◌^◌, ◌<◌, ◌≤◌, ◌⊎◌, List, length, slice_index, bit_and}
use Rattle.flow_fields.specs.Values.{values_of, IsTidy}

-- all bits of a field of that width, or none
abbrev pub IsAllOrNone : ℕ → ℕ → Type 0
IsAllOrNone width mask = (mask ≡ 2 ^ width - 1) ⊎ (mask ≡ 0)

-- RFC 4632, section 3.1: the highest bits, as many as a length says
abbrev pub IsPrefix : ℕ → ℕ → Type 0
IsPrefix width mask = (bits : ℕ) × (bits ≤ width) × (mask ≡ 2 ^ width - 2 ^ (width - bits))

-- the two halves of an IPv6 address
abbrev pub joined : ℕ → ℕ → ℕ
joined high low = high * 2 ^ 64 + low

-- ports stand behind TCP (6) or UDP (17)
abbrev pub HasPorts : ℕ → Type 0
HasPorts protocol = (protocol ≡ 6) ⊎ (protocol ≡ 17)

-- The values of the fields under their masks, and the masks, both in the order of the table of fields.
-- Addresses of cards, TCP flags, the type of service and the time to live take any mask.
pub record AreFields (values masks : List ℕ) : Type 0 where
  pub under : (field : ℕ) → field < 20 → bit_and (slice_index values field) (slice_index masks field)
      ≡ slice_index values field
  pub vlan_id : IsAllOrNone 12 (slice_index masks 2)
  pub vlan_prio : IsAllOrNone 3 (slice_index masks 3)
  pub vlan_ethtype : IsAllOrNone 16 (slice_index masks 4)
  pub ip_proto : IsAllOrNone 8 (slice_index masks 5)
  pub src_ip : IsPrefix 32 (slice_index masks 6)
  pub dst_ip : IsPrefix 32 (slice_index masks 7)
  pub src_port : IsAllOrNone 16 (slice_index masks 8)
  pub dst_port : IsAllOrNone 16 (slice_index masks 9)
  pub ports : HasPorts (slice_index values 5) ⊎ ((slice_index masks 8 ≡ 0) × (slice_index masks 9 ≡ 0))
  pub tcp_flags : (slice_index values 5 ≡ 6) ⊎ (slice_index masks 10 ≡ 0)
  pub cvlan_id : IsAllOrNone 12 (slice_index masks 11)
  pub cvlan_prio : IsAllOrNone 3 (slice_index masks 12)
  pub cvlan_ethtype : IsAllOrNone 16 (slice_index masks 13)
  pub src_ip6 : IsPrefix 128 (joined (slice_index masks 16) (slice_index masks 17))
  pub dst_ip6 : IsPrefix 128 (joined (slice_index masks 18) (slice_index masks 19))
  pub one_source : (slice_index masks 6 ≡ 0) ⊎ (joined (slice_index masks 16) (slice_index masks 17) ≡ 0)
  pub one_destination : (slice_index masks 7 ≡ 0) ⊎ (joined (slice_index masks 18) (slice_index masks 19) ≡ 0)

-- The words of a filter's key and mask: fourteen each, fields as above, and no stray bit.
pub record AreKeys (key mask : List ℕ) : Type 0 where
  pub key_count : length key ≡ 14
  pub mask_count : length mask ≡ 14
  pub key_tidy : IsTidy key
  pub mask_tidy : IsTidy mask
  pub fields : AreFields (values_of key) (values_of mask)
