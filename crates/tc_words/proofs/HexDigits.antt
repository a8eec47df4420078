-- Hexadecimal digits, one after the other.
use Rattle.std.proofs.Common.{◌≡◌, ℕ, ◌+◌, ◌*◌, ◌^◌, ◌≤◌, ◌<◌, Bool, true, false, cond, eqb, refl, List, [], ◌∷◌, length, get_or, take, ap, ◌∙◌, arith, pow-add}
use Rattle.std.proofs.Math.Nat.{pow-le-pow_right}
use Rattle.std.proofs.lemmas.List.{take_more}
use Rattle.std.proofs.lemmas.List.Sums.{fold-append}
use Rattle.std.proofs.lemmas.Bool.Decides.{nat_tests}
use Rattle.std.specs.Prelude.{nat_lt}
use Rattle.std.specs.List.{list_all}
use Rattle.std.specs.Char.{digit_value, is_ascii_hexdigit}
use Rattle.tc_words.specs.Hexadecimal.{hex_value, is_hex}

-- one digit more
pub hex_value_more : (i : ℕ) (digits : List ℕ) → i < length digits → hex_value (take (i + 1) digits) ≡ 16 * hex_value (take i digits) + digit_value (get_or digits i 0)
hex_value_more i digits lt = ap hex_value (take_more digits i 0 lt) ∙ fold-append (λ n d. 16 * n + digit_value d) 0 (take i digits) (get_or digits i 0 ∷ [])

-- one digit more stays below the next power
pub below_more : (value digit i : ℕ) → value < 16 ^ i → digit < 16 → value * 16 + digit < 16 ^ (i + 1)
below_more value digit i below small = omega (arith, pow-add 16 i 1)

-- so many digits stay below a greater power
pub below_power : (value i most : ℕ) → value < 16 ^ i → i ≤ most → value < 16 ^ most
below_power value i most below le = omega (arith, below, pow-le-pow_right {n = 16} (omega arith) {i = i} {j = most} le)

-- what the form says of the length
not_long : (empty long form : Bool) → cond empty false (cond long false form) ≡ true → long ≡ false
not_long true long form e = cc
not_long false true form e = cc
not_long false false form e = refl

pub length-is_hex : (text : List ℕ) (most : ℕ) → is_hex text most ≡ true → length text ≤ most
length-is_hex text most e =
    let short = not_long (eqb (length text) 0) (nat_lt most (length text)) (list_all is_ascii_hexdigit text) e in
    grind (arith, nat_tests, short)
