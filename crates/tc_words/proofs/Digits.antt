-- Decimal digits, one after the other.
use Rattle.std.proofs.Common.{◌≡◌, ℕ, ◌+◌, ◌-◌, ◌*◌, ◌≤◌, ◌<◌, ◌&&◌, Bool, true, false, cond, List, [], ◌∷◌, length, get_or, take, drop, Option, Some, None, refl, sym, ap, ◌∙◌, arith}
use Rattle.std.proofs.lemmas.List.{take-append-drop, take_more}
use Rattle.std.proofs.lemmas.List.Sums.{fold-append}
use Rattle.std.specs.Prelude.{fold}
use Rattle.tc_words.specs.Numbers.{digits_value}

-- more digits make no smaller number
more_digits : (n : ℕ) (digits : List ℕ) → n ≤ fold (λ m d. 10 * m + (d - 48)) n digits
more_digits n [] = omega arith
more_digits n (d ∷ digits) = let rest = more_digits (10 * n + (d - 48)) digits in omega arith

-- the first digits make no greater number than all
pub digits_value-take : (k : ℕ) (word : List ℕ) → digits_value (take k word) ≤ digits_value word
digits_value-take k word =
    let e : digits_value word ≡ fold (λ m d. 10 * m + (d - 48)) (digits_value (take k word)) (drop k word) =
    ap digits_value (sym (take-append-drop k word)) ∙ fold-append (λ m d. 10 * m + (d - 48)) 0 (take k word) (drop k word) in
    let le = more_digits (digits_value (take k word)) (drop k word) in
    rw e le

-- one digit more
pub digits_value_more : (i : ℕ) (word : List ℕ) → i < length word → digits_value (take (i + 1) word) ≡ 10 * digits_value (take i word) + (get_or word i 0 - 48)
digits_value_more i word lt = ap digits_value (take_more word i 0 lt) ∙ fold-append (λ m d. 10 * m + (d - 48)) 0 (take i word) (get_or word i 0 ∷ [])

-- ---- a word of digits alone
abbrev pub or_none : Bool → ℕ → Option ℕ
or_none b n = cond b (Some n) None

-- the front of a word
pub misbegun : (empty zero all le : Bool) (n : ℕ) → cond empty true zero ≡ true → None ≡ or_none (cond empty false (cond zero false all) && le) n
misbegun true zero all le n is = refl
misbegun false true all le n is = refl
misbegun false false all le n is = cc

pub well_begun : (empty zero all le : Bool) (n : ℕ) → cond empty true zero ≡ false → or_none (all && le) n ≡ or_none (cond empty false (cond zero false all) && le) n
well_begun true zero all le n is = cc
well_begun false true all le n is = cc
well_begun false false all le n is = refl
