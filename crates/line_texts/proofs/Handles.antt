-- A printed handle is read back as the handle.
use Rattle.std.proofs.Common.{◌≡◌, ◌∙◌, ℕ, ◌^◌, ◌<◌, ◌≤◌, Bool, true, false, List, length, Some, None, refl, ap, arith}
use Rattle.std.specs.Prelude.{◌&&◌, ◌==◌, nat_lt, nat_le, if◌then◌else◌}
use Rattle.std.proofs.lemmas.Bool.Decides.{nat_tests}
use Rattle.tc_words.specs.Hexadecimal.{hex_of}
use Rattle.tc_words.specs.Numbers.{up_to, decimal_of, number_of}
use Rattle.line_words.specs.Forms.{number_between}
use Rattle.line_texts.specs.Texts.{hex_text, marked, handle_text}
use Rattle.line_texts.specs.CleanWords.{is_clean}
use Rattle.line_texts.proofs.Hexadecimal.{Spells, hex_text-spells, spells-read, has-mark, marked-clean}
use Rattle.line_texts.proofs.Decimals.{number-in}

spelled : (n : ℕ) → n < 2 ^ 32 → Spells n 8 (hex_text n)
spelled n lt = hex_text-spells 7 n (omega arith) (omega arith)

marked-number : (n most : ℕ) (ds : List ℕ) → Spells n 8 ds → n ≤ most → number_of (marked ds) most ≡ Some n
unfolding number_of
marked-number n most ds h le =
    choice (nat_lt 1 (length (marked ds))) (has-mark ds) ∙ ap (up_to most) (spells-read n 8 ds h)
    ∙ ap (λ (b : Bool). if b then Some n else None) (let e : nat_le n most ≡ true = grind (arith, nat_tests, le) in e)
  where
    choice : (b : Bool) → b ≡ true → (if ((b && 48 == 0x30) && true) then up_to most (hex_of ds 8) else decimal_of (marked ds) most) ≡ up_to most (hex_of ds 8)
    choice true is = refl
    choice false is = absurd (cc is)

pub handle-read : (least most n : ℕ) → n < 2 ^ 32 → least ≤ n → n ≤ most → number_between least most (handle_text n) ≡ Some n
unfolding handle_text
handle-read least most n lt low high = number-in least most n (handle_text n) (marked-number n most (hex_text n) (spelled n lt) high) low

pub handle-clean : (n : ℕ) → n < 2 ^ 32 → is_clean (handle_text n) ≡ true
unfolding handle_text
handle-clean n lt = marked-clean n 8 (hex_text n) (spelled n lt)
