-- What the names, the values and the masks of a filter's fields are together, as plain lists, and each part
-- after a change.
use Rattle.std.proofs.Common.{◌≡◌, ◌∙◌, ℕ, ◌+◌, ◌<◌, Bool, true, false, List, [], ◌∷◌, length, get_or, refl, sym, subst, arith, inl, inr}
use Rattle.std.specs.Prelude.{◌⊎◌, bit_and, slice_set}
use Rattle.std.proofs.lemmas.Bool.{cases_eq}
use Rattle.std.proofs.lemmas.List.{get_or-set_same, get_or-set_other, length-set}
use Rattle.filter_state.specs.Fields.{IsAllOrNone, IsPrefix, joined, HasPorts}

-- what the mask of a field can be
pub data MaskKind : Type 0 where
  all_or_none : ℕ → MaskKind
  prefix : ℕ → MaskKind
  any : MaskKind

abbrev pub mask_kinds : List MaskKind
mask_kinds = any ∷ any ∷ all_or_none 12 ∷ all_or_none 3 ∷ all_or_none 16 ∷ all_or_none 8 ∷ prefix 32 ∷ prefix 32 ∷ all_or_none 16 ∷ all_or_none 16 ∷ any ∷ all_or_none 12 ∷ all_or_none 3 ∷ all_or_none 16 ∷ []

abbrev pub IsMaskOf : MaskKind → ℕ → Type 0
IsMaskOf (all_or_none width) mask = IsAllOrNone width mask
IsMaskOf (prefix width) mask = IsPrefix width mask
IsMaskOf any mask = Unit {0}

abbrev pub IsMaskAt : ℕ → ℕ → Type 0
IsMaskAt i mask = IsMaskOf (get_or mask_kinds i any) mask

abbrev pub IsUnder : ℕ → ℕ → Type 0
IsUnder value mask = bit_and value mask ≡ value

-- each value lies under its mask, and each mask is one of its field
pub record IsEach (values masks : List ℕ) : Type 0 where
  pub values_count : length values ≡ 20
  pub masks_count : length masks ≡ 20
  pub under : (i : ℕ) → IsUnder (get_or values i 0) (get_or masks i 0)
  pub kinds : (i : ℕ) → IsMaskAt i (get_or masks i 0)

-- the protocol over IP, by whether it was given, with the masks of two ports and of the flags
pub record HasHeaders (given : Bool) (protocol source target mask : ℕ) : Type 0 where
  pub unset : given ≡ false → protocol ≡ 0
  pub ports : HasPorts protocol ⊎ ((source ≡ 0) × (target ≡ 0))
  pub flags : (protocol ≡ 6) ⊎ (mask ≡ 0)

-- the masks of an IPv4 address and of the halves of an IPv6 one, by whether one of them was given
pub record HasAddress (given : Bool) (short high low : ℕ) : Type 0 where
  pub unset : given ≡ false → (short ≡ 0) × (high ≡ 0) × (low ≡ 0)
  pub long : IsPrefix 128 (joined high low)
  pub one : (short ≡ 0) ⊎ (joined high low ≡ 0)

abbrev pub HeadersIn : List Bool → List ℕ → List ℕ → Type 0
HeadersIn given values masks = HasHeaders (get_or given 5 false) (get_or values 5 0) (get_or masks 8 0) (get_or masks 9 0) (get_or masks 10 0)

abbrev pub AddressIn : ℕ → ℕ → List Bool → List ℕ → Type 0
AddressIn short high given masks = HasAddress (get_or given short false) (get_or masks short 0) (get_or masks high 0) (get_or masks (high + 1) 0)

-- one more value with its mask
under_set : (values masks : List ℕ) (i value mask : ℕ) → i < length values → i < length masks → ((k : ℕ) → IsUnder (get_or values k 0) (get_or masks k 0)) → IsUnder value mask
    → (k : ℕ) → IsUnder (get_or (slice_set values i value) k 0) (get_or (slice_set masks i mask) k 0)
under_set values masks i value mask here there each one k =
    elim (cases_eq k i) [
      | inl same ↦
          let P : ℕ → Type 0 = λ k. IsUnder (get_or (slice_set values i value) k 0) (get_or (slice_set masks i mask) k 0) in
          subst P (sym same) (rw (get_or-set_same values i value 0 here, get_or-set_same masks i mask 0 there) one)
      | inr other ↦ rw (get_or-set_other values i k value 0 other, get_or-set_other masks i k mask 0 other) (each k)
    ]

kinds_set : (masks : List ℕ) (i mask : ℕ) → i < length masks → ((k : ℕ) → IsMaskAt k (get_or masks k 0)) → IsMaskAt i mask → (k : ℕ) → IsMaskAt k (get_or (slice_set masks i mask) k 0)
kinds_set masks i mask here each one k =
    elim (cases_eq k i) [
      | inl same ↦
          let P : ℕ → Type 0 = λ k. IsMaskAt k (get_or (slice_set masks i mask) k 0) in
          subst P (sym same) (subst (λ m. IsMaskAt i m) (sym (get_or-set_same masks i mask 0 here)) one)
      | inr other ↦ subst (λ m. IsMaskAt k m) (sym (get_or-set_other masks i k mask 0 other)) (each k)
    ]

pub each_set : (values masks : List ℕ) (i value mask : ℕ) → i < 20 → IsUnder value mask → IsMaskAt i mask → IsEach values masks → IsEach (slice_set values i value) (slice_set masks i mask)
each_set values masks i value mask here one kind h =
    let values_count = h.values_count in
    let masks_count = h.masks_count in record {
      values_count = length-set values i value ∙ values_count;
      masks_count = length-set masks i mask ∙ masks_count;
      under = under_set values masks i value mask (omega arith) (omega arith) h.under one;
      kinds = kinds_set masks i mask (omega arith) h.kinds kind;
    }

-- the same of equal values
pub same_headers : (given given' : Bool) (protocol protocol' source source' target target' mask mask' : ℕ) → given ≡ given' → protocol ≡ protocol' → source ≡ source' → target ≡ target' → mask ≡ mask'
    → HasHeaders given protocol source target mask → HasHeaders given' protocol' source' target' mask'
same_headers given given' protocol protocol' source source' target target' mask mask' a b c d e h =
    subst (λ x. HasHeaders given' protocol' source' target' x) e
    (subst (λ x. HasHeaders given' protocol' source' x mask) d
    (subst (λ x. HasHeaders given' protocol' x target mask) c
    (subst (λ x. HasHeaders given' x source target mask) b (subst (λ (x : Bool). HasHeaders x protocol source target mask) a h))))

pub same_address : (given given' : Bool) (short short' high high' low low' : ℕ) → given ≡ given' → short ≡ short' → high ≡ high' → low ≡ low' → HasAddress given short high low → HasAddress given' short' high' low'
same_address given given' short short' high high' low low' a b c d h =
    subst (λ x. HasAddress given' short' high' x) d (subst (λ x. HasAddress given' short' x low) c (subst (λ x. HasAddress given' x high low) b (subst (λ (x : Bool). HasAddress x short high low) a h)))

-- what is given now
no_ports : HasPorts 0 → ⊥
no_ports (inl e) = omega (arith, e)
no_ports (inr e) = omega (arith, e)

pub protocol_given : (old new source target mask : ℕ) → HasHeaders false old source target mask → HasHeaders true new source target mask
protocol_given old new source target mask h =
    let zero : old ≡ 0 = h.unset refl in record {
      unset = λ e. absurd (cc e);
      ports = elim (h.ports) [ inl some ↦ absurd (no_ports (subst HasPorts zero some)) | inr none ↦ inr none ];
      flags = elim (h.flags) [ inl some ↦ absurd (omega (arith, some, zero)) | inr none ↦ inr none ];
    }

pub ports_given : (given : Bool) (protocol source target source' target' mask : ℕ) → HasPorts protocol → HasHeaders given protocol source target mask → HasHeaders given protocol source' target' mask
ports_given given protocol source target source' target' mask some h = record { unset = h.unset; ports = inl some; flags = h.flags }

pub flags_given : (given : Bool) (protocol source target mask mask' : ℕ) → protocol ≡ 6 → HasHeaders given protocol source target mask → HasHeaders given protocol source target mask'
flags_given given protocol source target mask mask' some h = record { unset = h.unset; ports = h.ports; flags = inl some }

no_bits : (high low : ℕ) → high ≡ 0 → low ≡ 0 → joined high low ≡ 0
no_bits high low h l = omega (arith, h, l)

pub short_given : (short high low mask : ℕ) → HasAddress false short high low → HasAddress true mask high low
short_given short high low mask h =
    let none = h.unset refl in record {
      unset = λ e. absurd (cc e);
      long = h.long;
      one = inr (no_bits high low none.1 none.2);
    }

pub long_given : (short high low high' low' : ℕ) → IsPrefix 128 (joined high' low') → HasAddress false short high low → HasAddress true short high' low'
long_given short high low high' low' is h = record { unset = λ e. absurd (cc e); long = is; one = inl (h.unset refl).0 }
