-- The bytes of a number in digits, whatever the number.
use Rattle.std.proofs.Common.{◌≡◌, ℕ, zero, suc, ◌+◌, ◌<◌, ◌≤◌, ◌==◌, ◌/◌, ◌%◌, Bool, true, false, List, [], ◌∷◌, refl, arith}
use Rattle.std.specs.Prelude.{nat_lt, if◌then◌else◌}
use Rattle.std.specs.Fmt.{digit_glyph, digits_onto, digits, decimal}
use Rattle.std.proofs.lemmas.Bool.Decides.{nat_tests}
use Rattle.report_laws.specs.OfLineCuts.Cuts.{Inner}

abbrev pub High : List ℕ → Type 0
High [] = Unit {0}
High (byte ∷ bytes) = (48 ≤ byte) × High bytes

glyph_by : (b upper : Bool) (d : ℕ) → 48 ≤ (if b then 48 + d else (if upper then 55 + d else 87 + d))
glyph_by true upper d = omega arith
glyph_by false true d = omega arith
glyph_by false false d = omega arith

glyph_high : (upper : Bool) (d : ℕ) → 48 ≤ digit_glyph upper d
glyph_high upper d = glyph_by (nat_lt d 10) upper d

high_if : (b : Bool) (xs ys : List ℕ) → High xs → High ys → High (if b then xs else ys)
high_if true xs ys first second = first
high_if false xs ys first second = second

onto_high : (k base : ℕ) (upper : Bool) (n : ℕ) (acc : List ℕ) → High acc → High (digits_onto k base upper n acc)
onto_high zero base upper n acc high = high
onto_high (suc k) base upper n acc high =
    let more : High (digit_glyph upper (n % base) ∷ acc) = (glyph_high upper (n % base), high) in
    high_if (n / base == 0) (digit_glyph upper (n % base) ∷ acc) (digits_onto k base upper (n / base) (digit_glyph upper (n % base) ∷ acc)) more
    (onto_high k base upper (n / base) (digit_glyph upper (n % base) ∷ acc) more)

pub digits_high : (base : ℕ) (upper : Bool) (n : ℕ) → High (digits base upper n)
unfolding digits
digits_high base upper n = onto_high 64 base upper n [] tt

not_end : (byte : ℕ) → 48 ≤ byte → (byte == 10) ≡ false
not_end byte high = grind (arith, nat_tests, high)

pub high_inner : (bytes : List ℕ) → High bytes → Inner bytes
high_inner [] high = tt
high_inner (byte ∷ bytes) high = (not_end byte high.0, high_inner bytes high.1)

-- ---- in base ten they are digits alone
abbrev IsTens : List ℕ → Type 0
IsTens [] = Unit {0}
IsTens (byte ∷ bytes) = (byte ≤ 57) × IsTens bytes

abbrev pub Free : ℕ → List ℕ → Type 0
Free byte [] = Unit {0}
Free byte (b ∷ bytes) = (b ≡ byte → ⊥) × Free byte bytes

ten_by : (b : Bool) (d : ℕ) → nat_lt d 10 ≡ b → d < 10 → (if b then 48 + d else (if false then 55 + d else 87 + d)) ≤ 57
ten_by true d is less = omega (arith, less)
ten_by false d is less = absurd (grind (arith, nat_tests, is, less))

tens_if : (b : Bool) (xs ys : List ℕ) → IsTens xs → IsTens ys → IsTens (if b then xs else ys)
tens_if true xs ys first second = first
tens_if false xs ys first second = second

onto_tens : (k n : ℕ) (acc : List ℕ) → IsTens acc → IsTens (digits_onto k 10 false n acc)
onto_tens zero n acc are = are
onto_tens (suc k) n acc are =
    let small : n % 10 < 10 = omega arith in
    let more : IsTens (digit_glyph false (n % 10) ∷ acc) = (ten_by (nat_lt (n % 10) 10) (n % 10) refl small, are) in
    tens_if (n / 10 == 0) (digit_glyph false (n % 10) ∷ acc) (digits_onto k 10 false (n / 10) (digit_glyph false (n % 10) ∷ acc)) more
    (onto_tens k (n / 10) (digit_glyph false (n % 10) ∷ acc) more)

decimal_tens : (n : ℕ) → IsTens (decimal n)
unfolding digits
decimal_tens n = onto_tens 64 n [] tt

tens_free : (byte : ℕ) → 57 < byte → (bytes : List ℕ) → IsTens bytes → Free byte bytes
tens_free byte above [] are = tt
tens_free byte above (b ∷ bytes) are = ((λ same. let most = are.0 in omega (arith, above, most, same)), tens_free byte above bytes are.1)

pub digits_free : (byte n : ℕ) → 57 < byte → Free byte (decimal n)
digits_free byte n above = tens_free byte above (decimal n) (decimal_tens n)
