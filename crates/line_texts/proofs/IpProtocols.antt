-- A printed protocol over IP is read back as its number.
use Rattle.std.proofs.Common.{◌≡◌, ℕ, ◌<◌, Bool, true, false, List, codes, Some, refl, sym, subst}
use Rattle.std.specs.Prelude.{◌==◌, if◌then◌else◌}
use borrow.Author.Tests.{eqb-true}
use Rattle.line_words.specs.Forms.{ip_protocol_of}
use Rattle.line_texts.specs.Texts.{marked, two_digits, ip_protocol_text}
use Rattle.line_texts.specs.CleanWords.{is_clean}
use Rattle.line_texts.proofs.Hexadecimal.{two_digits-spells, marked-read, marked-clean}

-- what holds of each name and of each number behind its mark holds of each printed protocol
by-name : (P : ℕ → List ℕ → Type 0) → P 6 (codes "tcp") → P 17 (codes "udp") → (n : ℕ) → P n (marked (two_digits n)) → P n (ip_protocol_text n)
unfolding ip_protocol_text
by-name P tcp udp n other = choose (n == 6) (n == 17) refl refl
  where
    named : (m : ℕ) (name : List ℕ) → (n == m) ≡ true → P m name → P n name
    named m name is p = subst (λ k. P k name) (sym (eqb-true n m is)) p

    choose : (a b : Bool) → (n == 6) ≡ a → (n == 17) ≡ b → P n (if a then codes "tcp" else if b then codes "udp" else marked (two_digits n))
    choose true b p q = named 6 (codes "tcp") p tcp
    choose false true p q = named 17 (codes "udp") q udp
    choose false false p q = other

number-read : (n : ℕ) → n < 256 → ip_protocol_of (marked (two_digits n)) ≡ Some n
unfolding ip_protocol_of
number-read n lt = marked-read n 2 (two_digits n) (two_digits-spells n lt)

pub ip_protocol-read : (n : ℕ) → n < 256 → ip_protocol_of (ip_protocol_text n) ≡ Some n
unfolding ip_protocol_of
ip_protocol-read n lt = by-name (λ k text. ip_protocol_of text ≡ Some k) refl refl n (number-read n lt)

pub ip_protocol-clean : (n : ℕ) → n < 256 → is_clean (ip_protocol_text n) ≡ true
ip_protocol-clean n lt = by-name (λ k text. is_clean text ≡ true) refl refl n (marked-clean n 2 (two_digits n) (two_digits-spells n lt))
