-- A printed value and its mask are read back as both.
use Rattle.std.proofs.Common.{◌≡◌, ◌∙◌, ℕ, zero, suc, ◌-◌, ◌^◌, ◌<◌, ◌≤◌, true, List, [], ◌∷◌, Option, Some, refl, ap, arith}
use Rattle.std.specs.Prelude.{◌==◌, bit_and}
use Rattle.std.specs.List.{list_all, slice_split, join_with_byte}
use Rattle.std.specs.Char.{is_ascii_hexdigit}
use Rattle.std.specs.Fmt.{decimal}
use Rattle.std.proofs.Math.Nat.{pow-le-pow_right}
use Rattle.tc_words.specs.Hexadecimal.{marked_hex_of}
use Rattle.tc_words.specs.Numbers.{number_of}
use Rattle.line_words.specs.Forms.{under_mask, masked_by, masked_hex_of, masked_octet_of}
use Rattle.line_texts.specs.Texts.{hex_text, marked, masked_hex_text, masked_octet_text}
use Rattle.line_texts.specs.CleanWords.{is_plain, is_clean}
use Rattle.line_texts.proofs.Joins.{avoids, avoids-byte, split-joined, all-wider, all-two}
use Rattle.line_texts.proofs.Clean.{hexdigit-plain, two-clean}
use Rattle.line_texts.proofs.Decimals.{decimal-avoids, decimal-plain, number-read}
use Rattle.line_texts.proofs.Hexadecimal.{Spells, hex_text-spells, marked-read}

-- a word of two parts with a slash between, by how its parts are read
pub two-read : (says : List ℕ → Option ℕ) (whole value mask : ℕ) (a b : List ℕ) → avoids (λ x. x == 47) a ≡ true → avoids (λ x. x == 47) b ≡ true → says a ≡ Some value → says b ≡ Some mask → bit_and value mask ≡ value
    → masked_by says whole (slice_split (λ x. x == 47) (join_with_byte 47 (a ∷ b ∷ []))) ≡ Some (value, mask)
two-read says whole value mask a b first second is_value is_mask under =
    ap (masked_by says whole) (split-joined (λ x. x == 47) 47 refl a (b ∷ []) (all-two (avoids (λ x. x == 47)) a b first second))
    ∙ ap (λ o. under_mask o (says b)) is_value ∙ ap (under_mask (Some value)) is_mask
    ∙ ap (λ (v : ℕ). Some (v, mask)) under

-- three digits or fewer
spelled : (digits n : ℕ) → 0 < digits → digits ≤ 3 → n < 16 ^ digits → Spells n digits (hex_text n)
spelled zero n some few lt = absurd (omega arith)
spelled (suc k) n some few lt = hex_text-spells k n lt (omega (arith, lt, pow-le-pow_right {n = 16} (omega arith) {i = suc k} {j = 3} few))

digits-avoid : (n most : ℕ) (ds : List ℕ) → Spells n most ds → avoids (λ x. x == 47) ds ≡ true
digits-avoid n most ds h = avoids-byte is_ascii_hexdigit 47 refl ds h.digits

digits-plain : (n most : ℕ) (ds : List ℕ) → Spells n most ds → list_all is_plain ds ≡ true
digits-plain n most ds h = all-wider is_ascii_hexdigit is_plain hexdigit-plain ds h.digits

pub masked_hex-read : (digits value mask : ℕ) → 0 < digits → digits ≤ 3 → value < 16 ^ digits → mask < 16 ^ digits → bit_and value mask ≡ value → masked_hex_of (masked_hex_text value mask) digits ≡ Some (value, mask)
unfolding masked_hex_of masked_hex_text
masked_hex-read digits value mask some few value_lt mask_lt under =
    let v = spelled digits value some few value_lt in
    let m = spelled digits mask some few mask_lt in
    two-read (λ part. marked_hex_of part digits) (16 ^ digits - 1) value mask (marked (hex_text value)) (marked (hex_text mask))
    (digits-avoid value digits (hex_text value) v) (digits-avoid mask digits (hex_text mask) m)
    (marked-read value digits (hex_text value) v) (marked-read mask digits (hex_text mask) m) under

pub masked_hex-clean : (digits value mask : ℕ) → 0 < digits → digits ≤ 3 → value < 16 ^ digits → mask < 16 ^ digits → is_clean (masked_hex_text value mask) ≡ true
unfolding masked_hex_text
masked_hex-clean digits value mask some few value_lt mask_lt =
    two-clean (marked (hex_text value)) (marked (hex_text mask))
    (digits-plain value digits (hex_text value) (spelled digits value some few value_lt)) (digits-plain mask digits (hex_text mask) (spelled digits mask some few mask_lt))

pub masked_octet-read : (value mask : ℕ) → value ≤ 255 → mask ≤ 255 → bit_and value mask ≡ value → masked_octet_of (masked_octet_text value mask) ≡ Some (value, mask)
unfolding masked_octet_of masked_octet_text
masked_octet-read value mask value_le mask_le under =
    two-read (λ part. number_of part 255) 255 value mask (decimal value) (decimal mask)
    (decimal-avoids 47 value refl (omega arith)) (decimal-avoids 47 mask refl (omega arith))
    (number-read 255 value (omega arith) value_le) (number-read 255 mask (omega arith) mask_le) under

pub masked_octet-clean : (value mask : ℕ) → value ≤ 255 → mask ≤ 255 → is_clean (masked_octet_text value mask) ≡ true
unfolding masked_octet_text
masked_octet-clean value mask value_le mask_le = two-clean (decimal value) (decimal mask) (decimal-plain value (omega arith)) (decimal-plain mask (omega arith))
