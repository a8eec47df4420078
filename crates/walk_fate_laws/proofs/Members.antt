-- What is among the elements of lists.
use Rattle.std.proofs.Common.{◌≡◌, ℕ, zero, suc, ◌+◌, ◌<◌, ◌≤◌, List, [], ◌∷◌, ◌++◌, map}
use Rattle.std.proofs.Common.{◌⊎◌, inl, inr, refl, ap, subst, arith}
use Rattle.std.specs.List.{flat_map, range_with_len}
use Rattle.std.proofs.lemmas.Bool.{cases_lt}
use Rattle.walk_fate_laws.specs.Firsts.{IsAmong}
use Rattle.walk_fate_laws.specs.Order.{EachBefore}

pub in_front : {X : Type 0} (x : X) (xs ys : List X) → IsAmong x xs → IsAmong x (xs ++ ys)
in_front x [] ys there = absurd there
in_front x (y ∷ xs) ys there = elim there [
  | inl is ↦ inl is
  | inr rest ↦ inr (in_front x xs ys rest)
]

pub behind : {X : Type 0} (x : X) (xs ys : List X) → IsAmong x ys → IsAmong x (xs ++ ys)
behind x [] ys there = there
behind x (y ∷ xs) ys there = inr (behind x xs ys there)

pub in_either : {X : Type 0} (x : X) (xs ys : List X) → IsAmong x (xs ++ ys) → IsAmong x xs ⊎ IsAmong x ys
in_either x [] ys there = inr there
in_either x (y ∷ xs) ys there = elim there [
  | inl is ↦ inl (inl is)
  | inr rest ↦ elim (in_either x xs ys rest) [
    | inl one ↦ inl (inr one)
    | inr other ↦ inr other
  ]
]

pub in_map : {X Y : Type 0} (f : X → Y) (x : X) (xs : List X) → IsAmong x xs → IsAmong (f x) (map f xs)
in_map f x [] there = absurd there
in_map f x (y ∷ xs) there = elim there [
  | inl is ↦ inl (ap f is)
  | inr rest ↦ inr (in_map f x xs rest)
]

pub of_map : {X Y : Type 0} (f : X → Y) (y : Y) (xs : List X) → IsAmong y (map f xs)
    → (x : X) × IsAmong x xs × (y ≡ f x)
of_map f y [] there = absurd there
of_map f y (x ∷ xs) there = elim there [
  | inl is ↦ (x, inl refl, is)
  | inr rest ↦ (let more = of_map f y xs rest in (more.0, inr more.1, more.2))
]

pub in_flat : {X Y : Type 0} (f : X → List Y) (x : X) (y : Y) (xs : List X) → IsAmong x xs → IsAmong y (f x)
    → IsAmong y (flat_map f xs)
in_flat f x y [] there its = absurd there
in_flat f x y (z ∷ xs) there its = elim there [
  | inl is ↦ in_front y (f z) (flat_map f xs) (subst (λ (v : _). IsAmong y (f v)) is its)
  | inr rest ↦ behind y (f z) (flat_map f xs) (in_flat f x y xs rest its)
]

pub of_flat : {X Y : Type 0} (f : X → List Y) (y : Y) (xs : List X) → IsAmong y (flat_map f xs)
    → (x : X) × IsAmong x xs × IsAmong y (f x)
of_flat f y [] there = absurd there
of_flat f y (x ∷ xs) there = elim (in_either y (f x) (flat_map f xs) there) [
  | inl own ↦ (x, inl refl, own)
  | inr rest ↦ (let more = of_flat f y xs rest in (more.0, inr more.1, more.2))
]

-- ---- numbers in a row
pub in_row : (n from many : ℕ) → from ≤ n → n < from + many → IsAmong n (range_with_len from many)
in_row n from zero least less = absurd (omega (arith, least, less))
in_row n from (suc many) least less = elim (cases_lt from n) [
  | inl above ↦ inr (in_row n (from + 1) many (omega (arith, above)) (omega (arith, less)))
  | inr below ↦ inl (omega (arith, below, least))
]

pub of_row : (n from many : ℕ) → IsAmong n (range_with_len from many) → (from ≤ n) × (n < from + many)
of_row n from zero there = absurd there
of_row n from (suc many) there = elim there [
  | inl is ↦ (omega (arith, is), omega (arith, is))
  | inr rest ↦ (let more = of_row n (from + 1) many rest in
      let least = more.0 in let less = more.1 in (omega (arith, least), omega (arith, less)))
]

pub row_rises : (from many : ℕ) → EachBefore ◌<◌ (range_with_len from many)
row_rises from zero = tt
row_rises from (suc many) = (
  (λ n there. let least = (of_row n (from + 1) many there).0 in omega (arith, least)),
  row_rises (from + 1) many,
)
