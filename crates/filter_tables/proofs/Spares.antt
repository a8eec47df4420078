-- For how much more there is room at a place.
use Rattle.std.proofs.Common.{◌≡◌, ℕ, zero, suc, ◌<◌, ◌≤◌, List, [], ◌∷◌, length, get_or, set, refl, sym, ap, arith}
use Rattle.std.specs.Prelude.{map, min}
use Rattle.filter_tables.specs.Room.{spare_at}

pub spare_read : {X : Type 0} (f : X → ℕ) (xs : List X) (at : ℕ) (was : X) → at < length xs → was ≡ get_or xs at was → spare_at (map f xs) at ≡ f was
spare_read f [] at was within read = absurd (omega arith)
spare_read f (x ∷ xs) zero was within read = ap f (sym read)
spare_read f (x ∷ xs) (suc at) was within read = spare_read f xs at was (omega arith) read

pub spare_set : {X : Type 0} (f : X → ℕ) (xs : List X) (at : ℕ) (now : X) → at < length xs → spare_at (map f (set xs at now)) at ≡ f now
spare_set f [] at now within = absurd (omega arith)
spare_set f (x ∷ xs) zero now within = refl
spare_set f (x ∷ xs) (suc at) now within = spare_set f xs at now (omega arith)

-- the room elsewhere stays
pub spare_more : {X : Type 0} (f : X → ℕ) (xs : List X) (at : ℕ) (was now : X) → was ≡ get_or xs at was → f was ≤ f now → (place : ℕ) →
    spare_at (map f xs) place ≤ spare_at (map f (set xs at now)) place
spare_more f [] at was now read more place = omega arith
spare_more f (x ∷ xs) zero was now read more zero = let e = ap f read in omega arith
spare_more f (x ∷ xs) zero was now read more (suc place) = omega arith
spare_more f (x ∷ xs) (suc at) was now read more zero = omega arith
spare_more f (x ∷ xs) (suc at) was now read more (suc place) = spare_more f xs at was now read more place

-- the room of a mask, beside what is shared by all
pub spare_min : {X : Type 0} (f : X → ℕ) (all : ℕ) (xs : List X) (at : ℕ) → 0 < spare_at (map (λ x. min (f x) all) xs) at →
    (0 < all) × (0 < spare_at (map f xs) at)
spare_min f all [] at some = absurd (omega arith)
spare_min f all (x ∷ xs) zero some = (omega arith, omega arith)
spare_min f all (x ∷ xs) (suc at) some = spare_min f all xs at some

pub min_spare : {X : Type 0} (f : X → ℕ) (all : ℕ) (xs : List X) (at : ℕ) → 0 < all → 0 < spare_at (map f xs) at →
    0 < spare_at (map (λ x. min (f x) all) xs) at
min_spare f all [] at shared some = absurd (omega arith)
min_spare f all (x ∷ xs) zero shared some = omega arith
min_spare f all (x ∷ xs) (suc at) shared some = min_spare f all xs at shared some
