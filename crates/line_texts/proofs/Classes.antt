-- A printed class is read back as its two halves.
use Rattle.std.proofs.Common.{◌≡◌, ◌∙◌, ℕ, ◌/◌, ◌%◌, ◌^◌, ◌<◌, true, false, [], ◌∷◌, Some, refl, ap, arith}
use Rattle.std.specs.Prelude.{◌==◌}
use Rattle.std.specs.List.{list_all, slice_split}
use Rattle.std.specs.Char.{is_ascii_hexdigit}
use Rattle.tc_words.specs.Hexadecimal.{hex_of}
use Rattle.line_words.specs.Forms.{joined_class, class_of_parts, class_of}
use Rattle.line_texts.specs.Texts.{hex_text, two_groups, class_text}
use Rattle.line_texts.specs.CleanWords.{is_plain, is_clean}
use Rattle.line_texts.proofs.Joins.{avoids, avoids-byte, split-joined, all-joined, all-wider, some-joined, all-two}
use Rattle.line_texts.proofs.Clean.{clean-from, hexdigit-plain}
use Rattle.line_texts.proofs.Hexadecimal.{Spells, hex_text-spells, spells-read}

pub group-spells : (n : ℕ) → n < 65536 → Spells n 4 (hex_text n)
group-spells n lt = hex_text-spells 3 n (omega arith) (omega arith)

-- digits hold no colon
pub group-avoids : (byte n : ℕ) → is_ascii_hexdigit byte ≡ false → n < 65536 → avoids (λ b. b == byte) (hex_text n) ≡ true
group-avoids byte n other lt = let h = group-spells n lt in avoids-byte is_ascii_hexdigit byte other (hex_text n) h.digits

pub group-plain : (n : ℕ) → n < 65536 → list_all is_plain (hex_text n) ≡ true
group-plain n lt = let h = group-spells n lt in all-wider is_ascii_hexdigit is_plain hexdigit-plain (hex_text n) h.digits

cut-class : (n : ℕ) → n < 2 ^ 32 → slice_split (λ b. b == 58) (two_groups n) ≡ hex_text (n / 65536) ∷ hex_text (n % 65536) ∷ []
cut-class n lt =
    split-joined (λ b. b == 58) 58 refl (hex_text (n / 65536)) (hex_text (n % 65536) ∷ [])
    (all-two (avoids (λ b. b == 58)) (hex_text (n / 65536)) (hex_text (n % 65536)) (group-avoids 58 (n / 65536) refl (omega arith)) (group-avoids 58 (n % 65536) refl (omega arith)))

pub class-read : (n : ℕ) → n < 2 ^ 32 → class_of (class_text n) ≡ Some n
unfolding class_of class_text
class-read n lt =
    let major : hex_of (hex_text (n / 65536)) 4 ≡ Some (n / 65536) = spells-read (n / 65536) 4 (hex_text (n / 65536)) (group-spells (n / 65536) (omega arith)) in
    let minor : hex_of (hex_text (n % 65536)) 4 ≡ Some (n % 65536) = spells-read (n % 65536) 4 (hex_text (n % 65536)) (group-spells (n % 65536) (omega arith)) in
    ap class_of_parts (cut-class n lt)
    ∙ ap (λ o. joined_class o (hex_of (hex_text (n % 65536)) 4)) major ∙ ap (joined_class (Some (n / 65536))) minor
    ∙ ap (λ (m : ℕ). Some m) (omega arith)

pub class-clean : (n : ℕ) → n < 2 ^ 32 → is_clean (class_text n) ≡ true
unfolding class_text
class-clean n lt =
    clean-from (two_groups n) (some-joined 58 (hex_text (n / 65536)) (hex_text (n % 65536)) [])
    (all-joined is_plain 58 refl (hex_text (n / 65536) ∷ hex_text (n % 65536) ∷ [])
    (all-two (list_all is_plain) (hex_text (n / 65536)) (hex_text (n % 65536)) (group-plain (n / 65536) (omega arith)) (group-plain (n % 65536) (omega arith))))
