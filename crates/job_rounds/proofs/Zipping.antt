-- Lists of workers, place by place.
use Rattle.std.proofs.Common.{◌≡◌, ◌∙◌, ℕ, suc, ◌<◌, List, [], ◌∷◌, ◌++◌, length, take, drop, get_or, refl, ap, arith}
use Rattle.std.specs.List.{AllZip}

-- what stands in relation at each place stands so all along
pub zipped : {X : Type 0} (R : X → X → Type 0) (xs ys : List X) → length ys ≡ length xs → ((at : ℕ) (d : X) → at < length xs → R (get_or xs at d) (get_or ys at d)) → AllZip R xs ys
zipped R [] [] many each = tt
zipped R [] (y ∷ ys) many each = absurd (omega (arith, many))
zipped R (x ∷ xs) [] many each = absurd (omega (arith, many))
zipped R (x ∷ xs) (y ∷ ys) many each = (each 0 x (omega arith), zipped R xs ys (omega (arith, many)) (λ at d less. each (suc at) d (omega (arith, less))))

-- a list that was lent as a slice and written back
take_front : {X : Type 0} (xs ys : List X) → take (length xs) (xs ++ ys) ≡ xs
take_front [] ys = refl
take_front (x ∷ xs) ys = ap (λ zs. x ∷ zs) (take_front xs ys)

pub written : {X : Type 0} (n : ℕ) (new old : List X) → n ≡ length new → take n (new ++ drop (length new) old) ≡ new
written n new old is = ap (λ k. take k (new ++ drop (length new) old)) is ∙ take_front new (drop (length new) old)
