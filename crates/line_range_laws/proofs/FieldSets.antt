-- What is known of the fields stays true where one more of them is given.
use Rattle.std.proofs.Common.{◌≡◌, ◌≢◌, ◌∙◌, ℕ, ◌+◌, ◌<◌, Bool, true, false, List, length, get_or, refl, sym, arith}
use Rattle.std.specs.Prelude.{◌⊎◌, slice_set}
use Rattle.std.proofs.lemmas.List.{get_or-set_same, get_or-set_other, length-set}
use Rattle.filter_state.specs.Fields.{IsPrefix, joined, HasPorts}
use Rattle.line_range_laws.proofs.FieldLists.{IsMaskAt, IsUnder, IsEach, HeadersIn, AddressIn, each_set, same_headers, same_address, protocol_given, ports_given, flags_given, short_given, long_given}

-- the fields that stood so far, by the names that were given, the values and the masks
pub record AreSet (given : List Bool) (values masks : List ℕ) : Type 0 where
  pub names : length given ≡ 16
  pub each : IsEach values masks
  pub headers : HeadersIn given values masks
  pub sources : AddressIn 6 16 given masks
  pub destinations : AddressIn 7 18 given masks

-- a change at another place
headers_kept : (given : List Bool) (values masks : List ℕ) (name i value mask : ℕ) → 5 ≢ name → 5 ≢ i → 8 ≢ i → 9 ≢ i → 10 ≢ i → HeadersIn given values masks → HeadersIn (slice_set given name true) (slice_set values i value) (slice_set masks i mask)
headers_kept given values masks name i value mask n a b c d h =
    same_headers _ _ _ _ _ _ _ _ _ _ (sym (get_or-set_other given name 5 true false n)) (sym (get_or-set_other values i 5 value 0 a)) (sym (get_or-set_other masks i 8 mask 0 b))
    (sym (get_or-set_other masks i 9 mask 0 c)) (sym (get_or-set_other masks i 10 mask 0 d)) h

address_kept : (short high : ℕ) (given : List Bool) (masks : List ℕ) (name i mask : ℕ) → short ≢ name → short ≢ i → high ≢ i → high + 1 ≢ i → AddressIn short high given masks → AddressIn short high (slice_set given name true) (slice_set masks i mask)
address_kept short high given masks name i mask n a b c h =
    same_address _ _ _ _ _ _ _ _ (sym (get_or-set_other given name short true false n)) (sym (get_or-set_other masks i short mask 0 a)) (sym (get_or-set_other masks i high mask 0 b)) (sym (get_or-set_other masks i (high + 1) mask 0 c)) h

-- a change of a value or a mask alone, where the name was dealt with
address_kept_named : (short high : ℕ) (given : List Bool) (masks : List ℕ) (i mask : ℕ) → short ≢ i → high ≢ i → high + 1 ≢ i → AddressIn short high given masks → AddressIn short high given (slice_set masks i mask)
address_kept_named short high given masks i mask a b c h =
    same_address _ _ _ _ _ _ _ _ refl (sym (get_or-set_other masks i short mask 0 a)) (sym (get_or-set_other masks i high mask 0 b)) (sym (get_or-set_other masks i (high + 1) mask 0 c)) h

headers_kept_named : (given : List Bool) (values masks : List ℕ) (i value mask : ℕ) → 5 ≢ i → 8 ≢ i → 9 ≢ i → 10 ≢ i → HeadersIn given values masks → HeadersIn given (slice_set values i value) (slice_set masks i mask)
headers_kept_named given values masks i value mask a b c d h =
    same_headers _ _ _ _ _ _ _ _ _ _ refl (sym (get_or-set_other values i 5 value 0 a)) (sym (get_or-set_other masks i 8 mask 0 b)) (sym (get_or-set_other masks i 9 mask 0 c)) (sym (get_or-set_other masks i 10 mask 0 d)) h

names_set : (given : List Bool) (name : ℕ) → length given ≡ 16 → length (slice_set given name true) ≡ 16
names_set given name h = length-set given name true ∙ h

-- a field with no tie to another
pub set_plain : (given : List Bool) (values masks : List ℕ) (i value mask : ℕ) → (i < 5) ⊎ ((10 < i) × (i < 16)) → IsUnder value mask → IsMaskAt i mask → AreSet given values masks
    → AreSet (slice_set given i true) (slice_set values i value) (slice_set masks i mask)
set_plain given values masks i value mask place one kind h =
    record {
      names = names_set given i h.names;
      each = each_set values masks i value mask (omega arith) one kind h.each;
      headers = headers_kept given values masks i i value mask (omega arith) (omega arith) (omega arith) (omega arith) (omega arith) h.headers;
      sources = address_kept 6 16 given masks i i mask (omega arith) (omega arith) (omega arith) (omega arith) h.sources;
      destinations = address_kept 7 18 given masks i i mask (omega arith) (omega arith) (omega arith) (omega arith) h.destinations;
    }

-- the protocol, where it stands for the first time
headers_with_protocol : (given : List Bool) (values masks : List ℕ) (value mask : ℕ) → get_or given 5 false ≡ false → length given ≡ 16 → length values ≡ 20 → HeadersIn given values masks → HeadersIn (slice_set given 5 true) (slice_set values 5 value) (slice_set masks 5 mask)
headers_with_protocol given values masks value mask free names count h =
    let old = same_headers _ false _ _ _ _ _ _ _ _ free refl refl refl refl h in
    let new = protocol_given _ value _ _ _ old in
    same_headers _ _ _ _ _ _ _ _ _ _ (sym (get_or-set_same given 5 true false (omega arith))) (sym (get_or-set_same values 5 value 0 (omega arith)))
    (sym (get_or-set_other masks 5 8 mask 0 (omega arith))) (sym (get_or-set_other masks 5 9 mask 0 (omega arith))) (sym (get_or-set_other masks 5 10 mask 0 (omega arith))) new

pub set_protocol : (given : List Bool) (values masks : List ℕ) (value mask : ℕ) → get_or given 5 false ≡ false → IsUnder value mask → IsMaskAt 5 mask → AreSet given values masks → AreSet (slice_set given 5 true) (slice_set values 5 value) (slice_set masks 5 mask)
set_protocol given values masks value mask free one kind h =
    record {
      names = names_set given 5 h.names;
      each = each_set values masks 5 value mask (omega arith) one kind h.each;
      headers = headers_with_protocol given values masks value mask free h.names h.each.values_count h.headers;
      sources = address_kept 6 16 given masks 5 5 mask (omega arith) (omega arith) (omega arith) (omega arith) h.sources;
      destinations = address_kept 7 18 given masks 5 5 mask (omega arith) (omega arith) (omega arith) (omega arith) h.destinations;
    }

-- a port, behind a protocol that has some
headers_with_port : (given : List Bool) (values masks : List ℕ) (i value mask : ℕ) → 5 ≢ i → 10 ≢ i → HasPorts (get_or values 5 0) → HeadersIn given values masks → HeadersIn (slice_set given i true) (slice_set values i value) (slice_set masks i mask)
headers_with_port given values masks i value mask a b some h =
    same_headers _ _ _ _ _ _ _ _ _ _ (sym (get_or-set_other given i 5 true false a)) (sym (get_or-set_other values i 5 value 0 a)) refl refl (sym (get_or-set_other masks i 10 mask 0 b))
    (ports_given _ _ _ _ (get_or (slice_set masks i mask) 8 0) (get_or (slice_set masks i mask) 9 0) _ some h)

pub set_port : (given : List Bool) (values masks : List ℕ) (i value mask : ℕ) → 7 < i → i < 10 → HasPorts (get_or values 5 0) → IsUnder value mask → IsMaskAt i mask → AreSet given values masks
    → AreSet (slice_set given i true) (slice_set values i value) (slice_set masks i mask)
set_port given values masks i value mask low high some one kind h =
    record {
      names = names_set given i h.names;
      each = each_set values masks i value mask (omega arith) one kind h.each;
      headers = headers_with_port given values masks i value mask (omega arith) (omega arith) some h.headers;
      sources = address_kept 6 16 given masks i i mask (omega arith) (omega arith) (omega arith) (omega arith) h.sources;
      destinations = address_kept 7 18 given masks i i mask (omega arith) (omega arith) (omega arith) (omega arith) h.destinations;
    }

-- the flags, behind TCP
headers_with_flags : (given : List Bool) (values masks : List ℕ) (value mask : ℕ) → get_or values 5 0 ≡ 6 → HeadersIn given values masks → HeadersIn (slice_set given 10 true) (slice_set values 10 value) (slice_set masks 10 mask)
headers_with_flags given values masks value mask some h =
    same_headers _ _ _ _ _ _ _ _ _ _ (sym (get_or-set_other given 10 5 true false (omega arith))) (sym (get_or-set_other values 10 5 value 0 (omega arith)))
    (sym (get_or-set_other masks 10 8 mask 0 (omega arith))) (sym (get_or-set_other masks 10 9 mask 0 (omega arith))) refl
    (flags_given _ _ _ _ _ (get_or (slice_set masks 10 mask) 10 0) some h)

pub set_flags : (given : List Bool) (values masks : List ℕ) (value mask : ℕ) → get_or values 5 0 ≡ 6 → IsUnder value mask → IsMaskAt 10 mask → AreSet given values masks → AreSet (slice_set given 10 true) (slice_set values 10 value) (slice_set masks 10 mask)
set_flags given values masks value mask some one kind h =
    record {
      names = names_set given 10 h.names;
      each = each_set values masks 10 value mask (omega arith) one kind h.each;
      headers = headers_with_flags given values masks value mask some h.headers;
      sources = address_kept 6 16 given masks 10 10 mask (omega arith) (omega arith) (omega arith) (omega arith) h.sources;
      destinations = address_kept 7 18 given masks 10 10 mask (omega arith) (omega arith) (omega arith) (omega arith) h.destinations;
    }

-- an address, where none stood
address_with_short : (short high : ℕ) (given : List Bool) (masks : List ℕ) (mask : ℕ) → get_or given short false ≡ false → short < length given → short < length masks → high ≢ short → high + 1 ≢ short
    → AddressIn short high given masks → AddressIn short high (slice_set given short true) (slice_set masks short mask)
address_with_short short high given masks mask free here there a b h =
    let old = same_address _ false _ _ _ _ _ _ free refl refl refl h in
    same_address _ _ _ _ _ _ _ _ (sym (get_or-set_same given short true false here)) (sym (get_or-set_same masks short mask 0 there)) (sym (get_or-set_other masks short high mask 0 a))
    (sym (get_or-set_other masks short (high + 1) mask 0 b)) (short_given _ _ _ mask old)

address_with_long : (short high : ℕ) (given : List Bool) (masks : List ℕ) (upper lower : ℕ) → get_or given short false ≡ false → short < length given → high + 1 < length masks → short < high → IsPrefix 128 (joined upper lower)
    → AddressIn short high given masks → AddressIn short high (slice_set given short true) (slice_set (slice_set masks high upper) (high + 1) lower)
address_with_long short high given masks upper lower free here there below is h =
    let old = same_address _ false _ _ _ _ _ _ free refl refl refl h in
    let count = length-set masks high upper in
    let apart : short ≢ high + 1 = omega arith in
    let apart' : short ≢ high = omega arith in
    let next : high ≢ high + 1 = omega arith in
    same_address _ _ _ _ _ _ _ _ (sym (get_or-set_same given short true false here))
    (sym (get_or-set_other (slice_set masks high upper) (high + 1) short lower 0 apart ∙ get_or-set_other masks high short upper 0 apart'))
    (sym (get_or-set_other (slice_set masks high upper) (high + 1) high lower 0 next ∙ get_or-set_same masks high upper 0 (omega arith)))
    (sym (get_or-set_same (slice_set masks high upper) (high + 1) lower 0 (omega arith)))
    (long_given _ _ _ upper lower is old)

pub set_source : (given : List Bool) (values masks : List ℕ) (value mask : ℕ) → get_or given 6 false ≡ false → IsUnder value mask → IsMaskAt 6 mask → AreSet given values masks → AreSet (slice_set given 6 true) (slice_set values 6 value) (slice_set masks 6 mask)
set_source given values masks value mask free one kind h =
    let names = h.names in
    let count = h.each.masks_count in record {
      names = names_set given 6 h.names;
      each = each_set values masks 6 value mask (omega arith) one kind h.each;
      headers = headers_kept given values masks 6 6 value mask (omega arith) (omega arith) (omega arith) (omega arith) (omega arith) h.headers;
      sources = address_with_short 6 16 given masks mask free (omega arith) (omega arith) (omega arith) (omega arith) h.sources;
      destinations = address_kept 7 18 given masks 6 6 mask (omega arith) (omega arith) (omega arith) (omega arith) h.destinations;
    }

pub set_destination : (given : List Bool) (values masks : List ℕ) (value mask : ℕ) → get_or given 7 false ≡ false → IsUnder value mask → IsMaskAt 7 mask → AreSet given values masks → AreSet (slice_set given 7 true) (slice_set values 7 value) (slice_set masks 7 mask)
set_destination given values masks value mask free one kind h =
    let names = h.names in
    let count = h.each.masks_count in record {
      names = names_set given 7 h.names;
      each = each_set values masks 7 value mask (omega arith) one kind h.each;
      headers = headers_kept given values masks 7 7 value mask (omega arith) (omega arith) (omega arith) (omega arith) (omega arith) h.headers;
      sources = address_kept 6 16 given masks 7 7 mask (omega arith) (omega arith) (omega arith) (omega arith) h.sources;
      destinations = address_with_short 7 18 given masks mask free (omega arith) (omega arith) (omega arith) (omega arith) h.destinations;
    }

-- the two halves of an IPv6 address
two_set : (values masks : List ℕ) (high upper lower upper_mask lower_mask : ℕ) → 15 < high → high < 19 → IsUnder upper upper_mask → IsUnder lower lower_mask → IsMaskAt high upper_mask → IsMaskAt (high + 1) lower_mask → IsEach values masks
    → IsEach (slice_set (slice_set values high upper) (high + 1) lower) (slice_set (slice_set masks high upper_mask) (high + 1) lower_mask)
two_set values masks high upper lower upper_mask lower_mask low most one two first second h =
    each_set (slice_set values high upper) (slice_set masks high upper_mask) (high + 1) lower lower_mask (omega arith) two second (each_set values masks high upper upper_mask (omega arith) one first h)

pub set_long_source : (given : List Bool) (values masks : List ℕ) (upper lower upper_mask lower_mask : ℕ) → get_or given 6 false ≡ false → IsUnder upper upper_mask → IsUnder lower lower_mask → IsPrefix 128 (joined upper_mask lower_mask) → AreSet given values masks
    → AreSet (slice_set given 6 true) (slice_set (slice_set values 16 upper) 17 lower) (slice_set (slice_set masks 16 upper_mask) 17 lower_mask)
set_long_source given values masks upper lower upper_mask lower_mask free one two is h =
    let names = h.names in
    let count = h.each.masks_count in record {
      names = names_set given 6 h.names;
      each = two_set values masks 16 upper lower upper_mask lower_mask (omega arith) (omega arith) one two tt tt h.each;
      headers = headers_kept_named (slice_set given 6 true) (slice_set values 16 upper) (slice_set masks 16 upper_mask) 17 lower lower_mask (omega arith) (omega arith) (omega arith) (omega arith)
          (headers_kept given values masks 6 16 upper upper_mask (omega arith) (omega arith) (omega arith) (omega arith) (omega arith) h.headers);
      sources = address_with_long 6 16 given masks upper_mask lower_mask free (omega arith) (omega arith) (omega arith) is h.sources;
      destinations = address_kept_named 7 18 (slice_set given 6 true) (slice_set masks 16 upper_mask) 17 lower_mask (omega arith) (omega arith) (omega arith)
          (address_kept 7 18 given masks 6 16 upper_mask (omega arith) (omega arith) (omega arith) (omega arith) h.destinations);
    }

pub set_long_destination : (given : List Bool) (values masks : List ℕ) (upper lower upper_mask lower_mask : ℕ) → get_or given 7 false ≡ false → IsUnder upper upper_mask → IsUnder lower lower_mask → IsPrefix 128 (joined upper_mask lower_mask) → AreSet given values masks
    → AreSet (slice_set given 7 true) (slice_set (slice_set values 18 upper) 19 lower) (slice_set (slice_set masks 18 upper_mask) 19 lower_mask)
set_long_destination given values masks upper lower upper_mask lower_mask free one two is h =
    let names = h.names in
    let count = h.each.masks_count in record {
      names = names_set given 7 h.names;
      each = two_set values masks 18 upper lower upper_mask lower_mask (omega arith) (omega arith) one two tt tt h.each;
      headers = headers_kept_named (slice_set given 7 true) (slice_set values 18 upper) (slice_set masks 18 upper_mask) 19 lower lower_mask (omega arith) (omega arith) (omega arith) (omega arith)
          (headers_kept given values masks 7 18 upper upper_mask (omega arith) (omega arith) (omega arith) (omega arith) (omega arith) h.headers);
      sources = address_kept_named 6 16 (slice_set given 7 true) (slice_set masks 18 upper_mask) 19 lower_mask (omega arith) (omega arith) (omega arith)
          (address_kept 6 16 given masks 7 18 upper_mask (omega arith) (omega arith) (omega arith) (omega arith) h.sources);
      destinations = address_with_long 7 18 given masks upper_mask lower_mask free (omega arith) (omega arith) (omega arith) is h.destinations;
    }
