-- The decimal digits of a number are read back as the number.
use Rattle.std.proofs.Common.{◌≡◌, ◌∙◌, ℕ, zero, suc, ◌+◌, ◌-◌, ◌*◌, ◌/◌, ◌%◌, ◌^◌, ◌<◌, ◌≤◌, Bool, true, false, List, [], ◌∷◌, ◌++◌, length, lit<, length-append, Option, Some, None, refl, ap, arith}
use Rattle.std.specs.Prelude.{◌&&◌, ◌||◌, ◌==◌, nat_lt, nat_le, slice_index, if◌then◌else◌}
use Rattle.std.specs.List.{list_all}
use Rattle.std.specs.Char.{is_ascii_digit, is_ascii_hexdigit}
use Rattle.std.specs.Fmt.{decimal}
use Rattle.std.proofs.lemmas.Bool.Decides.{nat_tests}
use Rattle.std.proofs.lemmas.Fmt.{decimal_by_steps, first_decimal, decimal_digit}
use Rattle.std.proofs.lemmas.List.Sums.{fold-append}
use Rattle.std.proofs.lemmas.List.Folds.{list_all-append}
use Rattle.tc_words.specs.Numbers.{digits_value, is_decimal, decimal_of, has_hex_mark, number_of}
use Rattle.line_words.specs.Forms.{at_least, number_between}
use Rattle.line_texts.specs.CleanWords.{is_plain, is_clean}
use Rattle.line_texts.proofs.Joins.{and-both, avoids, avoids-byte, all-wider, digit-hexdigit}
use Rattle.line_texts.proofs.Clean.{clean-from, hexdigit-plain}

-- what the digits of a number are
pub record Spells (n : ℕ) (ds : List ℕ) : Type 0 where
  pub value : digits_value ds ≡ n
  pub digits : list_all is_ascii_digit ds ≡ true
  pub some : 0 < length ds

digit-is : (d : ℕ) → d < 10 → is_ascii_digit (48 + d) ≡ true
digit-is d lt = grind (arith, nat_tests)

one-digit : (n : ℕ) → n < 10 → Spells n ((48 + n) ∷ [])
one-digit n lt = record {
  value = omega arith;
  digits = and-both (is_ascii_digit (48 + n)) true (digit-is n lt) refl;
  some = lit< tt;
}

more-digits : (n : ℕ) (ds : List ℕ) → 10 ≤ n → Spells (n / 10) ds → Spells n (ds ++ ((48 + n % 10) ∷ []))
more-digits n ds le h =
    let small : n % 10 < 10 = omega arith in
    record {
      value = let e = fold-append (λ (m : ℕ) (d : ℕ). 10 * m + (d - 48)) 0 ds ((48 + n % 10) ∷ []) in let v = h.value in omega arith;
      digits = list_all-append is_ascii_digit ds ((48 + n % 10) ∷ []) ∙ and-both (list_all is_ascii_digit ds) (is_ascii_digit (48 + n % 10) && true) h.digits (and-both (is_ascii_digit (48 + n % 10)) true (digit-is (n % 10) small) refl);
      some = simp length-append (omega arith);
    }

pub decimal-spells : (n : ℕ) → n < 2 ^ 64 → Spells n (decimal n)
decimal-spells n lt = decimal_by_steps Spells one-digit more-digits n lt

pub decimal-hexdigits : (n : ℕ) → n < 2 ^ 64 → list_all is_ascii_hexdigit (decimal n) ≡ true
decimal-hexdigits n lt = let h = decimal-spells n lt in all-wider is_ascii_digit is_ascii_hexdigit digit-hexdigit (decimal n) h.digits

-- no byte that is no digit stands in it
pub decimal-avoids : (byte n : ℕ) → is_ascii_hexdigit byte ≡ false → n < 2 ^ 64 → avoids (λ x. x == byte) (decimal n) ≡ true
decimal-avoids byte n other lt = avoids-byte is_ascii_hexdigit byte other (decimal n) (decimal-hexdigits n lt)

pub decimal-plain : (n : ℕ) → n < 2 ^ 64 → list_all is_plain (decimal n) ≡ true
decimal-plain n lt = all-wider is_ascii_hexdigit is_plain hexdigit-plain (decimal n) (decimal-hexdigits n lt)

pub decimal-clean : (n : ℕ) → n < 2 ^ 64 → is_clean (decimal n) ≡ true
decimal-clean n lt = let h = decimal-spells n lt in clean-from (decimal n) h.some (decimal-plain n lt)

-- no needless 0 stands in front
abbrev zero_first : List ℕ → Bool
zero_first ds = nat_lt 1 (length ds) && slice_index ds 0 == 48

first-digit : (n : ℕ) → n < 2 ^ 64 → zero_first (decimal n) ≡ false
first-digit zero lt = ap zero_first (decimal_digit 0 (lit< tt))
first-digit (suc n) lt = let first = first_decimal (suc n) (omega arith) lt in second-false (nat_lt 1 (length (decimal (suc n)))) (slice_index (decimal (suc n)) 0 == 48) (grind (arith, nat_tests, first))
  where
    second-false : (a b : Bool) → b ≡ false → (a && b) ≡ false
    second-false true b h = h
    second-false false b h = refl

decimal-form : (n : ℕ) (ds : List ℕ) → Spells n ds → zero_first ds ≡ false → is_decimal ds ≡ true
decimal-form n ds h first = choices (length ds == 0) (zero_first ds) (list_all is_ascii_digit ds) (let some = h.some in grind (arith, nat_tests, some)) first h.digits
  where
    choices : (a b c : Bool) → a ≡ false → b ≡ false → c ≡ true → (if a then false else if b then false else c) ≡ true
    choices false false c p q r = r
    choices false true c p q r = absurd (cc q)
    choices true b c p q r = absurd (cc p)

from-form : (most n : ℕ) (ds : List ℕ) → Spells n ds → is_decimal ds ≡ true → n ≤ most → decimal_of ds most ≡ Some n
unfolding decimal_of
from-form most n ds h form high =
    let v : digits_value ds ≡ n = h.value in
    let fits : (is_decimal ds && nat_le (digits_value ds) most) ≡ true = and-both (is_decimal ds) (nat_le (digits_value ds) most) form (grind (arith, nat_tests, v, high)) in
    ap (λ (b : Bool). if b then Some (digits_value ds) else None) fits ∙ ap (λ (m : ℕ). Some m) v

pub decimal-read : (most n : ℕ) → n < 2 ^ 64 → n ≤ most → decimal_of (decimal n) most ≡ Some n
decimal-read most n lt high = let h = decimal-spells n lt in from-form most n (decimal n) h (decimal-form n (decimal n) h (first-digit n lt)) high

-- what has no 0 in front has no `0x` there
unmarked : (a b : Bool) → a ≡ false → (a && b) ≡ false
unmarked true b h = absurd (cc h)
unmarked false b h = refl

pub number-read : (most n : ℕ) → n < 2 ^ 64 → n ≤ most → number_of (decimal n) most ≡ Some n
unfolding number_of
number-read most n lt high =
    let plain : has_hex_mark (decimal n) ≡ false = unmarked (zero_first (decimal n)) (slice_index (decimal n) 1 == 120 || slice_index (decimal n) 1 == 88) (first-digit n lt) in
    choice _ (has_hex_mark (decimal n)) plain ∙ decimal-read most n lt high
  where
    choice : (o : Option ℕ) (b : Bool) → b ≡ false → (if b then o else decimal_of (decimal n) most) ≡ decimal_of (decimal n) most
    choice o true is = absurd (cc is)
    choice o false is = refl

-- a number in its range
pub number-in : (least most n : ℕ) (word : List ℕ) → number_of word most ≡ Some n → least ≤ n → number_between least most word ≡ Some n
number-in least most n word is low = ap (at_least least) is ∙ ap (λ (b : Bool). if b then Some n else None) (let e : nat_le least n ≡ true = grind (arith, nat_tests, low) in e)

pub number-read_between : (least most n : ℕ) → n < 2 ^ 64 → least ≤ n → n ≤ most → number_between least most (decimal n) ≡ Some n
number-read_between least most n lt low high = number-in least most n (decimal n) (number-read most n lt high) low
