-- Numbers below ten: their words are one digit, and no other word spells them.
use Rattle.std.proofs.Common.{◌≡◌, ◌∙◌, ℕ, ◌+◌, ◌-◌, ◌*◌, ◌<◌, ◌≤◌, Bool, true, false, List, [], ◌∷◌, length, Some, refl, sym, ap, arith}
use Rattle.std.specs.Prelude.{◌&&◌, ◌==◌, nat_lt, nat_le, fold, if◌then◌else◌}
use Rattle.std.specs.List.{list_all}
use Rattle.std.specs.Char.{is_ascii_digit}
use Rattle.std.specs.Fmt.{decimal}
use Rattle.std.proofs.lemmas.Bool.Decides.{nat_tests}
use Rattle.std.proofs.lemmas.Fmt.{decimal_digit}
use Rattle.tc_words.specs.Numbers.{digits_value, is_decimal, decimal_of}
use Rattle.job_lines.proofs.Choices.{both, both_hold, let_through, was_let}

-- ---- one digit is read
digit-is : (d : ℕ) → d < 10 → is_ascii_digit (48 + d) ≡ true
digit-is d lt = grind (arith, nat_tests)

read_by : (most n : ℕ) (word : List ℕ) → digits_value word ≡ n → is_decimal word ≡ true → n ≤ most → decimal_of word most ≡ Some n
unfolding decimal_of
read_by most n word value form high =
    let fits : (is_decimal word && nat_le (digits_value word) most) ≡ true = both (is_decimal word) (nat_le (digits_value word) most) form (grind (arith, nat_tests, value, high)) in
    let_through (is_decimal word && nat_le (digits_value word) most) (Some (digits_value word)) fits ∙ ap (λ (m : ℕ). Some m) value

digit-read : (most n : ℕ) → n < 10 → n ≤ most → decimal_of ((48 + n) ∷ []) most ≡ Some n
digit-read most n lt high = read_by most n ((48 + n) ∷ []) (omega arith) (both (is_ascii_digit (48 + n)) true (digit-is n lt) refl) high

pub count-read : (most n : ℕ) → n < 10 → n ≤ most → decimal_of (decimal n) most ≡ Some n
count-read most n lt high = ap (λ (word : List ℕ). decimal_of word most) (decimal_digit n lt) ∙ digit-read most n lt high

-- ---- and no other word
digits-grow : (a : ℕ) (ds : List ℕ) → a ≤ fold (λ n digit. 10 * n + (digit - 48)) a ds
digits-grow a [] = omega arith
digits-grow a (d ∷ ds) = omega (arith, digits-grow (10 * a + (d - 48)) ds)

-- what the form of a decimal number says
formed : (a b c : Bool) → (if a then false else if b then false else c) ≡ true → (b ≡ false) × (c ≡ true)
formed false false c e = (refl, e)
formed false true c e = absurd (cc e)
formed true b c e = absurd (cc e)

one_digit : (word : List ℕ) → is_decimal word ≡ true → digits_value word < 10 → word ≡ (48 + digits_value word) ∷ []
one_digit [] form small = absurd (cc form)
one_digit (d ∷ []) form small =
    let digit : is_ascii_digit d ≡ true = (both_hold (is_ascii_digit d) true form).0 in
    let is : d ≡ 48 + (10 * 0 + (d - 48)) = grind (arith, nat_tests, digit) in
    ap (λ (x : ℕ). x ∷ []) is
one_digit (d ∷ e ∷ ds) form small =
    let parts : ((nat_lt 1 (length (d ∷ e ∷ ds)) && d == 48) ≡ false) × (list_all is_ascii_digit (d ∷ e ∷ ds) ≡ true) = formed (length (d ∷ e ∷ ds) == 0) (nat_lt 1 (length (d ∷ e ∷ ds)) && d == 48) (list_all is_ascii_digit (d ∷ e ∷ ds)) form in
    let digit : is_ascii_digit d ≡ true = (both_hold (is_ascii_digit d) (list_all is_ascii_digit (e ∷ ds)) parts.1).0 in
    let long : nat_lt 1 (length (d ∷ e ∷ ds)) ≡ true = grind (arith, nat_tests) in
    let some : (d == 48) ≡ false = ap (λ (b : Bool). b && d == 48) (sym long) ∙ parts.0 in
    let above : 49 ≤ d = grind (arith, nat_tests, digit, some) in
    let grown : 10 * (10 * 0 + (d - 48)) + (e - 48) ≤ digits_value (d ∷ e ∷ ds) = digits-grow (10 * (10 * 0 + (d - 48)) + (e - 48)) ds in
    absurd (omega arith)

pub count-spelled : (word : List ℕ) (most n : ℕ) → most < 10 → decimal_of word most ≡ Some n → (word ≡ decimal n) × (n ≤ most)
unfolding decimal_of
count-spelled word most n small e =
    let parts = was_let (is_decimal word && nat_le (digits_value word) most) (Some (digits_value word)) n e in
    let tests = both_hold (is_decimal word) (nat_le (digits_value word) most) parts.0 in
    let value : digits_value word ≡ n = cc (parts.1) in
    let high : n ≤ most = let t = tests.1 in grind (arith, nat_tests, t, value) in
    (one_digit word tests.0 (omega arith) ∙ ap (λ (v : ℕ). (48 + v) ∷ []) value ∙ sym (decimal_digit n (omega arith)), high)
