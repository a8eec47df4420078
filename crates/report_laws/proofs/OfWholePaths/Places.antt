-- Places in lists that are put together.
use Rattle.std.proofs.Common.{◌≡◌, ℕ, zero, suc, List, [], ◌∷◌, ◌++◌, length, Some, None, refl, ap, arith}
use Rattle.std.specs.List.{slice_get}

-- what stands at the end of a front
pub record IsCutAt {X : Type 0} (xs : List X) (n : ℕ) (x : X) : Type 0 where
  pub front : List X
  pub back : List X
  pub whole : xs ≡ front ++ (x ∷ back)
  pub count : length front ≡ n

pub cut_at : {X : Type 0} (xs : List X) (n : ℕ) (x : X) → slice_get xs n ≡ Some x → IsCutAt xs n x
cut_at [] n x is = absurd (cc is)
cut_at (y ∷ xs) zero x is = record { front = []; back = xs; whole = let same : y ≡ x = cc is in ap (λ z. z ∷ xs) same; count = refl }
cut_at (y ∷ xs) (suc n) x is =
    let rest = cut_at xs n x is in
    record { front = y ∷ rest.front; back = rest.back; whole = ap (λ zs. y ∷ zs) rest.whole; count = ap suc rest.count }

pub next_of : {X : Type 0} (front back : List X) (n : ℕ) (x : X) → length front ≡ n → slice_get (front ++ back) n ≡ Some x → (rest : List X) × (back ≡ x ∷ rest)
next_of [] [] zero x count is = absurd (cc is)
next_of [] (y ∷ back) zero x count is = (back, let same : y ≡ x = cc is in ap (λ z. z ∷ back) same)
next_of [] back (suc n) x count is = absurd (omega (arith, count))
next_of (y ∷ front) back zero x count is = absurd (omega (arith, count))
next_of (y ∷ front) back (suc n) x count is = next_of front back n x (omega (arith, count)) is

pub none_left : {X : Type 0} (front back : List X) (n : ℕ) → length front ≡ n → slice_get (front ++ back) n ≡ None → back ≡ []
none_left [] [] n count is = refl
none_left [] (y ∷ back) zero count is = absurd (cc is)
none_left [] (y ∷ back) (suc n) count is = absurd (omega (arith, count))
none_left (y ∷ front) back zero count is = absurd (omega (arith, count))
none_left (y ∷ front) back (suc n) count is = none_left front back n (omega (arith, count)) is
