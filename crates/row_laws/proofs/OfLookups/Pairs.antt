-- What holds of each pair of elements, from inner lists to outer ones.
use Rattle.std.proofs.Common.{List, [], ◌∷◌, ◌++◌}
use Rattle.std.specs.List.{flat_map}
use Rattle.filter_state.specs.Sound.{Each, EachPair}
use Rattle.filter_tables.specs.Whole.{HasSome}
use Rattle.filter_state.proofs.Pairs.{each_both, each_front, each_back}

pub pairs_both : {X : Type 0} (P Q S : X → X → Type 0) → ((x y : X) → P x y → Q x y → S x y) → (xs : List X) → EachPair P xs → EachPair Q xs → EachPair S xs
pairs_both P Q S f [] pairs more = tt
pairs_both P Q S f (x ∷ xs) pairs more = (each_both (P x) (Q x) (S x) (f x) xs pairs.0 more.0, pairs_both P Q S f xs pairs.1 more.1)

-- ---- a relation of the elements of inner lists, each of which tells something of the list that it is in
one_of : {Y : Type 0} (R : Y → Y → Type 0) (P : Y → Type 0) (ys rest : List Y) → HasSome ys → Each P ys → EachPair R (ys ++ rest) → (y : Y) × P y × Each (R y) rest
one_of R P [] rest some all pairs = elim some [ ]
one_of R P (y ∷ ys) rest some all pairs = (y, all.0, each_back (R y) ys rest pairs.0)

with_one : {Y : Type 0} (P Q : Y → Type 0) (T : Type 0) → ((y : Y) → P y → Q y → T) → (ys : List Y) → HasSome ys → Each P ys → Each Q ys → T
with_one P Q T tell [] some all more = elim some [ ]
with_one P Q T tell (y ∷ ys) some all more = tell y all.0 more.0

with_each : {X Y : Type 0} (Q : X → Y → Type 0) (P : Y → Type 0) (S : X → Type 0) (f : X → List Y) → ((x : X) → Each (Q x) (f x)) →
    ((x : X) (y : Y) → Q x y → P y → S x) → (xs : List X) → Each (λ x. HasSome (f x)) xs → Each P (flat_map f xs) → Each S xs
with_each Q P S f all tell [] some more = tt
with_each Q P S f all tell (x ∷ xs) some more = (
  with_one (Q x) P (S x) (tell x) (f x) some.0 (all x) (each_front P (f x) (flat_map f xs) more),
  with_each Q P S f all tell xs some.1 (each_back P (f x) (flat_map f xs) more),
)

rest_pairs : {Y : Type 0} (R : Y → Y → Type 0) (ys rest : List Y) → EachPair R (ys ++ rest) → EachPair R rest
rest_pairs R [] rest pairs = pairs
rest_pairs R (y ∷ ys) rest pairs = rest_pairs R ys rest pairs.1

pub pairs_blocks : {X Y : Type 0} (R : Y → Y → Type 0) (Q : X → Y → Type 0) (S : X → X → Type 0) (f : X → List Y) → ((x : X) → Each (Q x) (f x)) →
    ((x z : X) (y w : Y) → Q x y → Q z w → R y w → S x z) → (xs : List X) → Each (λ x. HasSome (f x)) xs → EachPair R (flat_map f xs) → EachPair S xs
pairs_blocks R Q S f all tell [] some pairs = tt
pairs_blocks R Q S f all tell (x ∷ xs) some pairs =
    let one = one_of R (Q x) (f x) (flat_map f xs) some.0 (all x) pairs in (
      with_each Q (R one.0) (S x) f all (λ z w is meets. tell x z one.0 w one.1 is meets) xs some.1 one.2,
      pairs_blocks R Q S f all tell xs some.1 (rest_pairs R (f x) (flat_map f xs) pairs),
    )
