-- Addresses and prefixes are in their ranges.
use Rattle.std.proofs.Common.{◌≡◌, ◌∙◌, ℕ, ◌+◌, ◌-◌, ◌*◌, ◌^◌, ◌/◌, ◌%◌, ◌<◌, ◌≤◌, Bool, true, false, cond, List, [], ◌∷◌, length, refl, sym, ap, subst, arith, eqb, Option, Some, None}
use Rattle.std.specs.Prelude.{bit_and, nat_lt}
use Rattle.std.specs.List.{slice_split}
use Rattle.std.specs.Option.{option_map, option_or}
use Rattle.std.proofs.lemmas.Nat.{and_le_r, pow_pos}
use borrow.Author.Tests.{eqb-true}
use Rattle.tc_words.specs.Numbers.{decimal_of}
use Rattle.tc_words.specs.Hexadecimal.{hex_of}
use Rattle.tc_words.specs.Groups.{group_of, followed_by, groups_value, of_just}
use Rattle.tc_words.specs.MacAddresses.{mac_address_of, mac_length_mask, mac_mask_behind, masked_mac, mac_of_parts, mac_of}
use Rattle.tc_words.specs.Addresses.{address_of, prefix_mask, masked_prefix, prefix_of, ipv4_of}
use Rattle.tc_words.specs.Ipv6Addresses.{ipv6_address_of, ipv6_mask, ipv6_halves, ipv6_prefix, ipv6_length_behind, ipv6_of_parts, ipv6_of}
use Rattle.tc_words.specs.declared.ipv6_addresses.Ipv6Word.{Ipv6Word}
use Rattle.tc_words.proofs.MacParts.{masked_twice}
use Rattle.tc_words.proofs.GroupLists.{value_after, room}
use Rattle.line_words.proofs.Spelled.{hex_below, decimal_at_most}
use Rattle.line_words.proofs.Ranges.{masked_again}

-- a mask of some highest bits is below the power of all
mask_below : (all bits : ℕ) → 2 ^ all - 2 ^ (all - bits) < 2 ^ all
mask_below all bits = omega (arith, pow_pos all, pow_pos (all - bits))

-- a group is below the power of its digits
group_below : (b : Bool) (most n : ℕ) (text : List ℕ) → cond b None (hex_of text most) ≡ Some n → n < 16 ^ most
group_below true most n text e = cc
group_below false most n text e = hex_below text most n e

-- groups, read one by one behind a number of so many groups
followed_below : (most : ℕ) (number group : Option ℕ) (i n : ℕ) → ((value : ℕ) → number ≡ Some value → value < (16 ^ most) ^ i) → ((value : ℕ) → group ≡ Some value → value < 16 ^ most)
    → followed_by most number group ≡ Some n → n < (16 ^ most) ^ (i + 1)
followed_below most None group i n below small e = cc
followed_below most (Some number) None i n below small e = cc
followed_below most (Some number) (Some group) i n below small e =
    let same : number * 16 ^ most + group ≡ n = cc in
    omega (arith, room (16 ^ most) number i (below number refl), small group refl, same)

value_below : (least most : ℕ) (groups : List (List ℕ)) (number : Option ℕ) (i n : ℕ) → ((value : ℕ) → number ≡ Some value → value < (16 ^ most) ^ i) → value_after least most number groups ≡ Some n
    → n < (16 ^ most) ^ (i + length groups)
value_below least most [] number i n below e = subst (λ k. n < (16 ^ most) ^ k) (omega arith) (below n e)
value_below least most (group ∷ groups) number i n below e =
    let next = λ (value : ℕ) (found : followed_by most number (group_of least most group) ≡ Some value).
    followed_below most number (group_of least most group) i value below (λ one is. group_below (nat_lt (length group) least) most one group is) found in
    subst (λ k. n < (16 ^ most) ^ k) (omega arith) (value_below least most groups (followed_by most number (group_of least most group)) (i + 1) n next e)

-- what a number of just six groups says of them
just_count : (b : Bool) (number n count : ℕ) → eqb count 6 ≡ b → cond b (Some number) None ≡ Some n → (count ≡ 6) × (number ≡ n)
just_count true number n count test e = (eqb-true count 6 test, cc)
just_count false number n count test e = cc

just_six : (b : Bool) (number : Option ℕ) (count n : ℕ) → of_just 6 (cond b None (option_map (λ value. (count, value)) number)) ≡ Some n → (count ≡ 6) × (number ≡ Some n)
just_six true number count n e = cc
just_six false None count n e = cc
just_six false (Some number) count n e =
    let found = just_count (eqb count 6) number n count refl e in
    (found.0, ap Some found.1)

nothing_yet : (value : ℕ) → Some 0 ≡ Some value → value < (16 ^ 2) ^ 0
nothing_yet value e =
    let same : 0 ≡ value = cc in
    omega (arith, same)

pub mac_address_range : (text : List ℕ) (n : ℕ) → mac_address_of text ≡ Some n → n < 2 ^ 48
unfolding mac_address_of
mac_address_range text n e =
    let groups = slice_split (λ b. eqb b 58) text in
    let found = just_six (nat_lt 6 (length groups)) (groups_value 2 2 groups) (length groups) n e in
    let count : 0 + length groups ≡ 6 = omega (arith, found.0) in
    subst (λ k. n < (16 ^ 2) ^ k) count (value_below 2 2 groups (Some 0) 0 n nothing_yet found.1)

-- a mask, as an address or by its length
mac_mask_or : (address bits : Option ℕ) (n : ℕ) → ((value : ℕ) → address ≡ Some value → value < 2 ^ 48) → option_or address (option_map mac_length_mask bits) ≡ Some n → n < 2 ^ 48
mac_mask_or None None n below e = cc
mac_mask_or None (Some bits) n below e =
    let same : mac_length_mask bits ≡ n = cc in
    subst (λ k. k < 2 ^ 48) same (mask_below 48 bits)
mac_mask_or (Some address) bits n below e = below n e

mac_mask_range : (masks : List (List ℕ)) (n : ℕ) → mac_mask_behind masks ≡ Some n → n < 2 ^ 48
mac_mask_range [] n e =
    let same : 2 ^ 48 - 1 ≡ n = cc in
    omega (arith, same)
mac_mask_range (mask ∷ []) n e = mac_mask_or (mac_address_of mask) (decimal_of mask 48) n (λ value found. mac_address_range mask value found) e
mac_mask_range (mask ∷ next ∷ more) n e = cc

-- the address of a network card, under its mask
masked_mac_range : (address mask : Option ℕ) (v m : ℕ) → ((n : ℕ) → mask ≡ Some n → n < 2 ^ 48) → masked_mac address mask ≡ Some (v, m) → (v < 2 ^ 48) × (m < 2 ^ 48) × (bit_and v m ≡ v)
masked_mac_range None mask v m below e = cc
masked_mac_range (Some address) None v m below e = cc
masked_mac_range (Some address) (Some mask) v m below e =
    let again = masked_again address mask v m e in
    let small : m < 2 ^ 48 = omega (arith, below mask refl, again.0) in
    (omega (arith, small, again.1), small, again.2)

mac_parts_range : (parts : List (List ℕ)) (v m : ℕ) → mac_of_parts parts ≡ Some (v, m) → (v < 2 ^ 48) × (m < 2 ^ 48) × (bit_and v m ≡ v)
mac_parts_range [] v m e = cc
mac_parts_range (address ∷ masks) v m e = masked_mac_range (mac_address_of address) (mac_mask_behind masks) v m (λ n found. mac_mask_range masks n found) e

pub mac_range : (word : List ℕ) (v m : ℕ) → mac_of word ≡ Some (v, m) → (v < 2 ^ 48) × (m < 2 ^ 48) × (bit_and v m ≡ v)
unfolding mac_of
mac_range word v m e = mac_parts_range (slice_split (λ b. eqb b 47) word) v m e

-- an IPv4 address or prefix
masked_prefix_range : (address bits : Option ℕ) (v m : ℕ) → ((n : ℕ) → bits ≡ Some n → n ≤ 32) → masked_prefix address bits ≡ Some (v, m)
    → (v < 2 ^ 32) × (bit_and v m ≡ v) × ((n : ℕ) × (n ≤ 32) × (m ≡ prefix_mask n))
masked_prefix_range None bits v m short e = cc
masked_prefix_range (Some address) None v m short e = cc
masked_prefix_range (Some address) (Some bits) v m short e =
    let again = masked_again address (prefix_mask bits) v m e in
    (omega (arith, mask_below 32 bits, again.0, again.1), again.2, (bits, short bits refl, sym again.0))

all_bits : (all n : ℕ) → Some all ≡ Some n → n ≤ all
all_bits all n e =
    let same : all ≡ n = cc in
    omega (arith, same)

prefix_range : (parts : List (List ℕ)) (v m : ℕ) → prefix_of parts ≡ Some (v, m) → (v < 2 ^ 32) × (bit_and v m ≡ v) × ((n : ℕ) × (n ≤ 32) × (m ≡ prefix_mask n))
prefix_range [] v m e = cc
prefix_range (address ∷ []) v m e = masked_prefix_range (address_of address) (Some 32) v m (all_bits 32) e
prefix_range (address ∷ bits ∷ []) v m e = masked_prefix_range (address_of address) (decimal_of bits 32) v m (λ n found. decimal_at_most bits 32 n found) e
prefix_range (address ∷ bits ∷ part ∷ parts) v m e = cc

pub ipv4_range : (word : List ℕ) (v m : ℕ) → ipv4_of word ≡ Some (v, m) → (v < 2 ^ 32) × (bit_and v m ≡ v) × ((n : ℕ) × (n ≤ 32) × (m ≡ prefix_mask n))
unfolding ipv4_of
ipv4_range word v m e = prefix_range (slice_split (λ b. eqb b 47) word) v m e

-- an IPv6 address or prefix
abbrev IsPrefix : Ipv6Word → Type 0
IsPrefix w = (w.length ≤ 128) × (w.high < 2 ^ 64) × (w.low < 2 ^ 64) × (bit_and (w.high * 2 ^ 64 + w.low) (ipv6_mask w.length) ≡ w.high * 2 ^ 64 + w.low)

halves_whole : (number : ℕ) → number / 2 ^ 64 * 2 ^ 64 + number % 2 ^ 64 ≡ number
halves_whole number = omega arith

halves_range : (address bits : ℕ) → bits ≤ 128 → IsPrefix (ipv6_halves (bit_and address (ipv6_mask bits)) bits)
halves_range address bits short =
    let number = bit_and address (ipv6_mask bits) in
    let below : number < 2 ^ 128 = omega (arith, and_le_r address (ipv6_mask bits), mask_below 128 bits) in (
      short,
      omega (arith, below),
      omega arith,
      ap (λ n. bit_and n (ipv6_mask bits)) (halves_whole number) ∙ masked_twice address (ipv6_mask bits) ∙ sym (halves_whole number),
    )

ipv6_prefix_range : (address bits : Option ℕ) (w : Ipv6Word) → ((n : ℕ) → bits ≡ Some n → n ≤ 128) → ipv6_prefix address bits ≡ Some w → IsPrefix w
ipv6_prefix_range None bits w short e = cc
ipv6_prefix_range (Some address) None w short e = cc
ipv6_prefix_range (Some address) (Some bits) w short e =
    let same : ipv6_halves (bit_and address (ipv6_mask bits)) bits ≡ w = cc in
    subst IsPrefix same (halves_range address bits (short bits refl))

ipv6_length_range : (lengths : List (List ℕ)) (n : ℕ) → ipv6_length_behind lengths ≡ Some n → n ≤ 128
ipv6_length_range [] n e = all_bits 128 n e
ipv6_length_range (bits ∷ []) n e = decimal_at_most bits 128 n e
ipv6_length_range (bits ∷ next ∷ more) n e = cc

ipv6_parts_range : (parts : List (List ℕ)) (w : Ipv6Word) → ipv6_of_parts parts ≡ Some w → IsPrefix w
ipv6_parts_range [] w e = cc
ipv6_parts_range (address ∷ lengths) w e = ipv6_prefix_range (ipv6_address_of address) (ipv6_length_behind lengths) w (λ n found. ipv6_length_range lengths n found) e

pub ipv6_range : (word : List ℕ) (w : Ipv6Word) → ipv6_of word ≡ Some w
    → (w.length ≤ 128) × (w.high < 2 ^ 64) × (w.low < 2 ^ 64) × (bit_and (w.high * 2 ^ 64 + w.low) (ipv6_mask w.length) ≡ w.high * 2 ^ 64 + w.low)
unfolding ipv6_of
ipv6_range word w e = ipv6_parts_range (slice_split (λ b. eqb b 47) word) w e
