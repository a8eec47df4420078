-- Addresses of network cards, by their cuts at slashes.
use Rattle.std.proofs.Common.{◌≡◌, ◌∙◌, ℕ, ◌<◌, List, [], ◌∷◌, length, refl, ap, arith, eqb, Some, None}
use Rattle.std.specs.Prelude.{◌-◌, ◌^◌, bit_and}
use Rattle.std.specs.List.{slice_split}
use Rattle.std.specs.Int.Bits.{and_self}
use Rattle.std.proofs.lemmas.Nat.{and_assoc}
use Rattle.tc_words.specs.Lines.{cut_once}
use Rattle.tc_words.specs.MacAddresses.{mac_address_of, mac_mask_of, mac_mask_behind, masked_mac, mac_of, mac_of_parts}
use Rattle.tc_words.proofs.Parts.{parts_uncut_at, parts_cut_at, some_part}

-- a mask with a slash in it is none
more_masks : (mask : List ℕ) (parts : List (List ℕ)) → 0 < length parts → mac_mask_behind (mask ∷ parts) ≡ None
more_masks mask [] lt = absurd (omega arith)
more_masks mask (next ∷ more) lt = refl

pub slashed_mask : (text front back : List ℕ) → cut_once 47 text ≡ Some (front, back) → mac_mask_behind (slice_split (λ b. eqb b 47) text) ≡ None
slashed_mask text front back e =
    ap mac_mask_behind (parts_cut_at 47 text front back e).1 ∙ more_masks front (slice_split (λ b. eqb b 47) back) (some_part (λ b. eqb b 47) back)

pub whole_mask : (text : List ℕ) → cut_once 47 text ≡ None → mac_mask_behind (slice_split (λ b. eqb b 47) text) ≡ mac_mask_of text
whole_mask text e = ap mac_mask_behind (parts_uncut_at 47 text e)

-- the word without a slash, and with one
pub no_slash : (word : List ℕ) → cut_once 47 word ≡ None → mac_of word ≡ masked_mac (mac_address_of word) (Some (2 ^ 48 - 1))
unfolding mac_of
no_slash word e = ap mac_of_parts (parts_uncut_at 47 word e)

pub a_slash : (word address last : List ℕ) → cut_once 47 word ≡ Some (address, last) → mac_of word ≡ masked_mac (mac_address_of address) (mac_mask_behind (slice_split (λ b. eqb b 47) last))
unfolding mac_of
a_slash word address last e = ap mac_of_parts (parts_cut_at 47 word address last e).1

-- a value once masked stays so
pub masked_twice : (value mask : ℕ) → bit_and (bit_and value mask) mask ≡ bit_and value mask
masked_twice value mask = and_assoc mask value mask ∙ ap (bit_and value) (and_self mask)
