-- Classes and masked values, by their cuts.
use Rattle.std.proofs.Common.{◌≡◌, ◌∙◌, ℕ, ◌-◌, ◌^◌, ◌<◌, List, [], ◌∷◌, length, refl, sym, ap, arith, eqb, Option, Some, None}
use Rattle.std.specs.List.{slice_split}
use Rattle.tc_words.specs.Lines.{cut_once}
use Rattle.tc_words.specs.Hexadecimal.{hex_of, marked_hex_of}
use Rattle.tc_words.specs.Numbers.{number_of}
use Rattle.tc_words.proofs.Parts.{parts_uncut_at, parts_cut_at, some_part}
use Rattle.line_words.specs.Forms.{joined_class, class_of_parts, class_of, under_mask, masked_by, masked_hex_of, masked_octet_of}
use Rattle.line_words.proofs.Spelled.{not_hex, slashed_hex, slashed_number}

-- without a colon there is no class
pub no_colon : (word : List ℕ) → cut_once 58 word ≡ None → class_of word ≡ None
unfolding class_of
no_colon word e = ap class_of_parts (parts_uncut_at 58 word e)

-- without the second half there is none
joined_None : (major : Option ℕ) → joined_class major None ≡ None
joined_None None = refl
joined_None (Some major) = refl

-- nor with a third part
more_halves : (major minor : List ℕ) (parts : List (List ℕ)) → 0 < length parts → class_of_parts (major ∷ minor ∷ parts) ≡ None
more_halves major minor [] lt = absurd (omega arith)
more_halves major minor (part ∷ parts) lt = refl

-- what stands behind the first colon is the second half, or has a colon and spells no number
last_half : (o : Option (List ℕ × List ℕ)) (major last : List ℕ) → cut_once 58 last ≡ o → class_of_parts (major ∷ slice_split (λ b. eqb b 58) last) ≡ joined_class (hex_of major 4) (hex_of last 4)
last_half None major last e = ap (λ (parts : List (List ℕ)). class_of_parts (major ∷ parts)) (parts_uncut_at 58 last e)
last_half (Some (front, back)) major last e =
    ap (λ (parts : List (List ℕ)). class_of_parts (major ∷ parts)) (parts_cut_at 58 last front back e).1
    ∙ more_halves major front (slice_split (λ b. eqb b 58) back) (some_part (λ b. eqb b 58) back)
    ∙ sym (ap (joined_class (hex_of major 4)) (not_hex 58 4 last front back refl e) ∙ joined_None (hex_of major 4))

-- a colon parts the two halves
pub a_colon : (word major minor : List ℕ) → cut_once 58 word ≡ Some (major, minor) → class_of word ≡ joined_class (hex_of major 4) (hex_of minor 4)
unfolding class_of
a_colon word major minor e = ap class_of_parts (parts_cut_at 58 word major minor e).1 ∙ last_half (cut_once 58 minor) major minor refl

-- without a mask there is no masked value
under_None : (value : Option ℕ) → under_mask value None ≡ None
under_None None = refl
under_None (Some value) = refl

-- nor with a third part
more_masks : (says : List ℕ → Option ℕ) (whole : ℕ) (value mask : List ℕ) (parts : List (List ℕ)) → 0 < length parts → masked_by says whole (value ∷ mask ∷ parts) ≡ None
more_masks says whole value mask [] lt = absurd (omega arith)
more_masks says whole value mask (part ∷ parts) lt = refl

-- what stands behind the first slash is the mask, or has a slash and says nothing
last_mask : (o : Option (List ℕ × List ℕ)) (says : List ℕ → Option ℕ) (whole : ℕ) (value last : List ℕ) → cut_once 47 last ≡ o
    → ((front back : List ℕ) → cut_once 47 last ≡ Some (front, back) → says last ≡ None)
    → masked_by says whole (value ∷ slice_split (λ b. eqb b 47) last) ≡ under_mask (says value) (says last)
last_mask None says whole value last e nothing = ap (λ (parts : List (List ℕ)). masked_by says whole (value ∷ parts)) (parts_uncut_at 47 last e)
last_mask (Some (front, back)) says whole value last e nothing =
    ap (λ (parts : List (List ℕ)). masked_by says whole (value ∷ parts)) (parts_cut_at 47 last front back e).1
    ∙ more_masks says whole value front (slice_split (λ b. eqb b 47) back) (some_part (λ b. eqb b 47) back)
    ∙ sym (ap (under_mask (says value)) (nothing front back e) ∙ under_None (says value))

a_slash : (says : List ℕ → Option ℕ) (whole : ℕ) (word value mask : List ℕ) → ((front back : List ℕ) → cut_once 47 mask ≡ Some (front, back) → says mask ≡ None)
    → cut_once 47 word ≡ Some (value, mask) → masked_by says whole (slice_split (λ b. eqb b 47) word) ≡ under_mask (says value) (says mask)
a_slash says whole word value mask nothing e = ap (masked_by says whole) (parts_cut_at 47 word value mask e).1 ∙ last_mask (cut_once 47 mask) says whole value mask refl nothing

no_slash : (says : List ℕ → Option ℕ) (whole : ℕ) (word : List ℕ) → cut_once 47 word ≡ None → masked_by says whole (slice_split (λ b. eqb b 47) word) ≡ under_mask (says word) (Some whole)
no_slash says whole word e = ap (masked_by says whole) (parts_uncut_at 47 word e)

-- the word without a slash, and with one
pub hex_alone : (word : List ℕ) (digits : ℕ) → cut_once 47 word ≡ None → masked_hex_of word digits ≡ under_mask (marked_hex_of word digits) (Some (16 ^ digits - 1))
unfolding masked_hex_of
hex_alone word digits e = no_slash (λ part. marked_hex_of part digits) (16 ^ digits - 1) word e

pub hex_and_mask : (word value mask : List ℕ) (digits : ℕ) → cut_once 47 word ≡ Some (value, mask) → masked_hex_of word digits ≡ under_mask (marked_hex_of value digits) (marked_hex_of mask digits)
unfolding masked_hex_of
hex_and_mask word value mask digits e =
    a_slash (λ part. marked_hex_of part digits) (16 ^ digits - 1) word value mask (λ front back cut. slashed_hex mask front back digits cut) e

pub octet_alone : (word : List ℕ) → cut_once 47 word ≡ None → masked_octet_of word ≡ under_mask (number_of word 255) (Some 255)
unfolding masked_octet_of
octet_alone word e = no_slash (λ part. number_of part 255) 255 word e

pub octet_and_mask : (word value mask : List ℕ) → cut_once 47 word ≡ Some (value, mask) → masked_octet_of word ≡ under_mask (number_of value 255) (number_of mask 255)
unfolding masked_octet_of
octet_and_mask word value mask e = a_slash (λ part. number_of part 255) 255 word value mask (λ front back cut. slashed_number mask front back 255 cut) e
