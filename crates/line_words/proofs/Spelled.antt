-- What texts that spell numbers have in them, and how great the numbers are.
use Rattle.std.proofs.Common.{◌≡◌, ◌∙◌, ℕ, zero, suc, ◌+◌, ◌*◌, ◌^◌, ◌<◌, ◌≤◌, Bool, true, false, cond, List, [], ◌∷◌, length, drop, take, get_or, refl, sym, ap, subst, arith, eqb, Option, Some, None, length-drop}
use Rattle.std.specs.Prelude.{nat_lt, nat_le, ◌&&◌, ◌||◌, position, fold}
use Rattle.std.specs.List.{list_all}
use Rattle.std.specs.Char.{is_ascii_hexdigit, digit_value}
use Rattle.std.proofs.lemmas.Bool.Decides.{nat_tests}
use Rattle.std.proofs.lemmas.List.{get_or-drop}
use Rattle.std.proofs.lemmas.List.Sums.{AllPass-from_list_all}
use Rattle.std.proofs.lemmas.List.Quantifiers.{position-Some}
use borrow.Author.Tests.{eqb-true}
use Rattle.tc_words.specs.Lines.{cut_once}
use Rattle.tc_words.specs.Hexadecimal.{hex_value, is_hex, hex_of, without_hex_mark, marked_hex_of}
use Rattle.tc_words.specs.Numbers.{has_hex_mark, up_to, digits_value, is_decimal, decimal_of, number_of}
use Rattle.tc_words.proofs.Parts.{from_mapped_Some}
use Rattle.tc_words.proofs.Dotted.{not_decimal}
use Rattle.tc_words.proofs.HexDigits.{below_more, below_power, length-is_hex}

-- a byte at which a text is cut stands in it
cut_place : (byte : ℕ) (text front back : List ℕ) → cut_once byte text ≡ Some (front, back) → (at : ℕ) × (at < length text) × (get_or text at 0 ≡ byte)
cut_place byte text front back e =
    let found = from_mapped_Some (λ at. (take at text, drop (at + 1) text)) (position (λ b. eqb b byte) text) (front, back) e in
    let there = position-Some (λ b. eqb b byte) text found.0 0 found.1 in
    (found.0, there.0, eqb-true (get_or text found.0 0) byte there.1)

-- hexadecimal digits are all digits
digits_of : (empty long form : Bool) → cond empty false (cond long false form) ≡ true → form ≡ true
digits_of true long form e = cc
digits_of false true form e = cc
digits_of false false form e = e

all_digits : (text : List ℕ) (most : ℕ) → is_hex text most ≡ true → list_all is_ascii_hexdigit text ≡ true
all_digits text most form = digits_of (eqb (length text) 0) (nat_lt most (length text)) (list_all is_ascii_hexdigit text) form

no_number : (b : Bool) (n : ℕ) → (b ≡ true → ⊥) → cond b (Some n) None ≡ None
no_number true n never = absurd (never refl)
no_number false n never = refl

no_hex_form : (text : List ℕ) (most at : ℕ) → at < length text → is_ascii_hexdigit (get_or text at 0) ≡ false → is_hex text most ≡ true → ⊥
no_hex_form text most at inside other form =
    let digit : is_ascii_hexdigit (get_or text at 0) ≡ true = AllPass-from_list_all is_ascii_hexdigit text (all_digits text most form) at 0 inside in
    cc

not_hex_at : (text : List ℕ) (most at : ℕ) → at < length text → is_ascii_hexdigit (get_or text at 0) ≡ false → hex_of text most ≡ None
unfolding hex_of
not_hex_at text most at inside other = no_number (is_hex text most) (hex_value text) (no_hex_form text most at inside other)

-- a text with a byte in it that is no digit spells no number
pub not_hex : (byte most : ℕ) (text front back : List ℕ) → is_ascii_hexdigit byte ≡ false → cut_once byte text ≡ Some (front, back) → hex_of text most ≡ None
not_hex byte most text front back other e =
    let place = cut_place byte text front back e in
    not_hex_at text most place.0 place.1 (ap is_ascii_hexdigit place.2 ∙ other)

-- the same behind a mark, which has no such byte either
not_behind : (byte most at : ℕ) (word : List ℕ) → is_ascii_hexdigit byte ≡ false → at < length word → get_or word at 0 ≡ byte
    → (get_or word 0 0 ≡ byte → ⊥) → (get_or word 1 0 ≡ byte → ⊥) → hex_of (drop 2 word) most ≡ None
not_behind byte most zero word other inside here first second = absurd (first here)
not_behind byte most (suc zero) word other inside here first second = absurd (second here)
not_behind byte most (suc (suc at)) word other inside here first second =
    let place : 2 + at ≡ suc (suc at) = omega arith in
    let moved : get_or (drop 2 word) at 0 ≡ byte = get_or-drop 2 word at 0 ∙ ap (λ n. get_or word n 0) place ∙ here in
    not_hex_at (drop 2 word) most at (omega (arith, inside, length-drop 2 word)) (ap is_ascii_hexdigit moved ∙ other)

-- what a mark says of the first two bytes
both : (a b : Bool) → (a && b) ≡ true → (a ≡ true) × (b ≡ true)
both true true e = (refl, refl)
both true false e = cc
both false b e = cc

slash_behind : (most at : ℕ) (word : List ℕ) (second : Bool) → at < length word → get_or word at 0 ≡ 47 → ((nat_lt 1 (length word) && eqb (get_or word 0 0) 48) && second) ≡ true
    → (get_or word 1 0 ≡ 47 → second ≡ false) → hex_of (drop 2 word) most ≡ None
slash_behind most at word second inside here mark other =
    let parts = both (nat_lt 1 (length word) && eqb (get_or word 0 0) 48) second mark in
    let first : get_or word 0 0 ≡ 48 = eqb-true (get_or word 0 0) 48 (both (nat_lt 1 (length word)) (eqb (get_or word 0 0) 48) parts.0).1 in
    not_behind 47 most at word refl inside here (λ e. absurd (omega (arith, e, first))) (λ e. absurd (let no : true ≡ false = sym parts.1 ∙ other e in cc))

marked_by : (b : Bool) (most at : ℕ) (word : List ℕ) → ((nat_lt 1 (length word) && eqb (get_or word 0 0) 48) && eqb (get_or word 1 0) 120) ≡ b → at < length word → get_or word at 0 ≡ 47
    → hex_of (cond b (drop 2 word) word) most ≡ None
marked_by true most at word mark inside here =
    slash_behind most at word (eqb (get_or word 1 0) 120) inside here mark (λ e. ap (λ b. eqb b 120) e)
marked_by false most at word mark inside here = not_hex_at word most at inside (ap is_ascii_hexdigit here)

-- a word with a slash in it spells no number
pub slashed_hex : (word front back : List ℕ) (most : ℕ) → cut_once 47 word ≡ Some (front, back) → marked_hex_of word most ≡ None
unfolding marked_hex_of
slashed_hex word front back most e =
    let place = cut_place 47 word front back e in
    marked_by ((nat_lt 1 (length word) && eqb (get_or word 0 0) 48) && eqb (get_or word 1 0) 120) most place.0 word refl place.1 place.2

number_by : (b : Bool) (word front back : List ℕ) (most : ℕ) → has_hex_mark word ≡ b → cut_once 47 word ≡ Some (front, back)
    → cond b (up_to most (hex_of (drop 2 word) 8)) (decimal_of word most) ≡ None
number_by true word front back most mark e =
    let place = cut_place 47 word front back e in
    let other : get_or word 1 0 ≡ 47 → (eqb (get_or word 1 0) 120 || eqb (get_or word 1 0) 88) ≡ false = λ here. ap (λ b. eqb b 120 || eqb b 88) here in
    ap (up_to most) (slash_behind 8 place.0 word (eqb (get_or word 1 0) 120 || eqb (get_or word 1 0) 88) place.1 place.2 mark other)
number_by false word front back most mark e = not_decimal 47 most word front back refl e

pub slashed_number : (word front back : List ℕ) (most : ℕ) → cut_once 47 word ≡ Some (front, back) → number_of word most ≡ None
unfolding number_of
slashed_number word front back most e = number_by (has_hex_mark word) word front back most refl e

-- what a choice of `Some` or `None` says of its test
from_Some : (b : Bool) (m n : ℕ) → cond b (Some m) None ≡ Some n → (b ≡ true) × (m ≡ n)
from_Some true m n e = (refl, cc)
from_Some false m n e = cc

-- hexadecimal digits, read behind a number of so many digits
digit_below : (digit : ℕ) → is_ascii_hexdigit digit ≡ true → digit_value digit < 16
digit_below digit form = grind (arith, nat_tests, form)

value_from : (digits : List ℕ) (value i : ℕ) → value < 16 ^ i → list_all is_ascii_hexdigit digits ≡ true → fold (λ n digit. 16 * n + digit_value digit) value digits < 16 ^ (i + length digits)
value_from [] value i below all = subst (λ n. value < 16 ^ n) (omega arith) below
value_from (digit ∷ digits) value i below all =
    let parts = both (is_ascii_hexdigit digit) (list_all is_ascii_hexdigit digits) all in
    let more = below_more value (digit_value digit) i below (digit_below digit parts.0) in
    let next : 16 * value + digit_value digit < 16 ^ (i + 1) = omega (arith, more) in
    subst (λ n. fold (λ n digit. 16 * n + digit_value digit) (16 * value + digit_value digit) digits < 16 ^ n) (omega arith) (value_from digits (16 * value + digit_value digit) (i + 1) next parts.1)

-- so many digits spell less than a power of 16
pub hex_below : (text : List ℕ) (most n : ℕ) → hex_of text most ≡ Some n → n < 16 ^ most
unfolding hex_of
hex_below text most n e =
    let found = from_Some (is_hex text most) (hex_value text) n e in
    let all = subst (λ i. hex_value text < 16 ^ i) (omega arith) (value_from text 0 0 (omega arith) (all_digits text most found.0)) in
    below_power n (length text) most (subst (λ value. value < 16 ^ length text) found.1 all) (length-is_hex text most found.0)

pub marked_hex_below : (word : List ℕ) (most n : ℕ) → marked_hex_of word most ≡ Some n → n < 16 ^ most
unfolding marked_hex_of
marked_hex_below word most n e = hex_below (without_hex_mark word) most n e

-- numbers up to a greatest one are so
pub decimal_at_most : (word : List ℕ) (most n : ℕ) → decimal_of word most ≡ Some n → n ≤ most
unfolding decimal_of
decimal_at_most word most n e =
    let found = from_Some (is_decimal word && nat_le (digits_value word) most) (digits_value word) n e in
    let test = (both (is_decimal word) (nat_le (digits_value word) most) found.0).1 in
    grind (arith, nat_tests, test, found.1)

up_to_at_most : (o : Option ℕ) (most n : ℕ) → up_to most o ≡ Some n → n ≤ most
up_to_at_most None most n e = cc
up_to_at_most (Some number) most n e =
    let found = from_Some (nat_le number most) number n e in
    grind (arith, nat_tests, found.0, found.1)

number_by_mark : (b : Bool) (word : List ℕ) (most n : ℕ) → cond b (up_to most (hex_of (drop 2 word) 8)) (decimal_of word most) ≡ Some n → n ≤ most
number_by_mark true word most n e = up_to_at_most (hex_of (drop 2 word) 8) most n e
number_by_mark false word most n e = decimal_at_most word most n e

pub number_at_most : (word : List ℕ) (most n : ℕ) → number_of word most ≡ Some n → n ≤ most
unfolding number_of
number_at_most word most n e = number_by_mark (has_hex_mark word) word most n e
