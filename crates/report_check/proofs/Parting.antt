-- Where two texts part, one byte after the other.
use Rattle.std.proofs.Common.{◌≡◌, ◌∙◌, ℕ, suc, ◌+◌, ◌<◌, ◌≤◌, ◌==◌, Bool, true, false, List, [], ◌∷◌, length, drop, get_or, refl, ap, arith}
use Rattle.std.specs.Prelude.{if◌then◌else◌}
use Rattle.std.proofs.lemmas.List.{drop_more, drop_all}
use Rattle.report_check.specs.Reasons.{parting}

abbrev counted : Bool → ℕ
counted b = if b then 1 else 0

abbrev by_byte : Bool → Bool → ℕ → ℕ
by_byte same blank rest = if same then (if blank then suc rest else rest) else 0

one_more : (blank : Bool) (rest : ℕ) → by_byte true blank rest ≡ counted blank + rest
one_more true rest = omega arith
one_more false rest = omega arith

pub parts_at : (xs ys : List ℕ) (k : ℕ) → k < length xs → k < length ys
    → parting (drop k xs) (drop k ys) ≡ by_byte (get_or xs k 0 == get_or ys k 0) (get_or xs k 0 == 32) (parting (drop (k + 1) xs) (drop (k + 1) ys))
parts_at xs ys k first second =
    ap (λ (bs : List ℕ). parting bs (drop k ys)) (drop_more xs k 0 first) ∙ ap (λ (bs : List ℕ). parting (get_or xs k 0 ∷ drop (k + 1) xs) bs) (drop_more ys k 0 second)

pub parts_on : (xs ys : List ℕ) (k word : ℕ) → k < length xs → k < length ys → (get_or xs k 0 == get_or ys k 0) ≡ true → parting xs ys ≡ word + parting (drop k xs) (drop k ys)
    → parting xs ys ≡ (word + (if get_or xs k 0 == 32 then 1 else 0)) + parting (drop (k + 1) xs) (drop (k + 1) ys)
parts_on xs ys k word first second same so_far =
    let rest : ℕ = parting (drop (k + 1) xs) (drop (k + 1) ys) in
    let here = parts_at xs ys k first second ∙ ap (λ (b : Bool). by_byte b (get_or xs k 0 == 32) rest) same ∙ one_more (get_or xs k 0 == 32) rest in
    so_far ∙ ap (λ (n : ℕ). word + n) here ∙ (let grouped : word + (counted (get_or xs k 0 == 32) + rest) ≡ (word + counted (get_or xs k 0 == 32)) + rest = omega arith in grouped)

pub parts_here : (xs ys : List ℕ) (k word : ℕ) → k < length xs → k < length ys → (get_or xs k 0 == get_or ys k 0) ≡ false → parting xs ys ≡ word + parting (drop k xs) (drop k ys) → word ≡ parting xs ys
parts_here xs ys k word first second other so_far =
    let none = parts_at xs ys k first second ∙ ap (λ (b : Bool). by_byte b (get_or xs k 0 == 32) (parting (drop (k + 1) xs) (drop (k + 1) ys))) other in
    omega (arith, so_far, none)

none_left : (xs : List ℕ) → parting xs [] ≡ 0
none_left [] = refl
none_left (x ∷ xs) = refl

pub parts_end : (xs ys : List ℕ) (k word : ℕ) → parting xs ys ≡ word + parting (drop k xs) (drop k ys) → (length xs ≤ k → word ≡ parting xs ys) × (length ys ≤ k → word ≡ parting xs ys)
parts_end xs ys k word so_far = (
  (λ all. let none : parting (drop k xs) (drop k ys) ≡ 0 = ap (λ (bs : List ℕ). parting bs (drop k ys)) (drop_all k xs all) in omega (arith, so_far, none)),
  (λ all. let none : parting (drop k xs) (drop k ys) ≡ 0 = ap (parting (drop k xs)) (drop_all k ys all) ∙ none_left (drop k xs) in omega (arith, so_far, none)),
)
