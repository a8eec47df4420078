-- The first element that passes, in a list that a function was applied to.
use Rattle.std.proofs.Common.{◌≡◌, Bool, not, nat_lt, ◌+◌, List, [], ◌∷◌, length, map, position, Some, None, cond, refl, ap}
use Rattle.std.specs.List.{prefix_len}
use Rattle.std.proofs.lemmas.List.{length-map}

prefix_len-map : {X Y : Type 0} (f : X → Y) (test : Y → Bool) (xs : List X) → prefix_len test (map f xs) ≡ prefix_len (λ x. test (f x)) xs
prefix_len-map f test [] = refl
prefix_len-map f test (x ∷ xs) = ap (λ n. cond (test (f x)) (1 + n) 0) (prefix_len-map f test xs)

pub position-map : {X Y : Type 0} (f : X → Y) (test : Y → Bool) (xs : List X) → position test (map f xs) ≡ position (λ x. test (f x)) xs
position-map f test xs =
    rw (length-map xs f) (ap (λ n. cond (nat_lt n (length xs)) (Some n) None) (prefix_len-map f (λ y. not (test y)) xs))
