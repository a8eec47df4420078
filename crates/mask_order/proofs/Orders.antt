-- Numbers whose ages don't fall are in the one order in which ages rise.
use Rattle.std.proofs.Common.{◌≡◌, ◌∙◌, ◌⊎◌, inl, inr, ⊎_elim, ℕ, suc, ◌+◌, ◌<◌, ◌≤◌, Bool, true, false, cond, eqb, List, [], ◌∷◌, length, map, set, get_or, Option, refl, sym, ap, subst, arith, eqb-true, eq-eqb}
use Rattle.std.specs.List.{swap, sum_by, AllByRecursion}
use Rattle.std.specs.List.Sorted.{IsPermutation, IsNonDecreasingBy}
use Rattle.std.proofs.Math.Seq.{map-set}
use Rattle.std.proofs.Math.ListN.{get_or-map, length-map}
use Rattle.std.proofs.lemmas.List.Elements.{recursion_from_All}
use Rattle.std.proofs.lemmas.List.Sorted.{IsPermutation-refl, IsPermutation-swap, IsPermutation-trans, IsPermutation-keeps, sum_by-IsPermutation}
use Rattle.std.proofs.lemmas.List.Sums.{sum_by-cons}
use Rattle.mask_table.specs.declared.mirrors.mirror.Mirror.{Mirror}
use Rattle.mask_table.specs.OfMirrors.Lists.{Dated, Rises, kept_as, kept_in}

-- ---- what becomes another list by moves comes from a list that was moved so
module _ {X Y : Type 0} (f : X → Y) where
  map_swap : (xs : List X) (i j : ℕ) → map f (swap xs i j) ≡ swap (map f xs) i j
  map_swap [] i j = refl
  map_swap (x ∷ xs) i j = map-set f (set (x ∷ xs) i (get_or (x ∷ xs) j x)) j (get_or (x ∷ xs) i x)
      ∙ (λ t. set ((map-set f (x ∷ xs) i (get_or (x ∷ xs) j x) ∙ ap (set (map f (x ∷ xs)) i) (sym (get_or-map f (x ∷ xs) j x))) t) j (sym (get_or-map f (x ∷ xs) i x) t))

  abbrev MovedTo : List X → List Y → Type 0
  MovedTo xs zs = (ys : List X) × IsPermutation xs ys × (map f ys ≡ zs)

  moved_so : (xs : List X) (zs : List Y) → IsPermutation (map f xs) zs → MovedTo xs zs
  moved_so xs zs = IsPermutation-keeps (map f xs) (MovedTo xs) (xs, IsPermutation-refl xs, refl)
      (λ l i j low high (ys, moved, is). let long = ap length is in let same = length-map ys f in
      (swap ys i j, IsPermutation-trans xs ys (swap ys i j) moved (IsPermutation-swap ys (swap ys i j) i j (omega arith) (omega arith) refl), map_swap ys i j ∙ ap (λ (ws : List Y). swap ws i j) is)) zs

-- ---- one order
abbrev times : ℕ → ℕ → ℕ
times a z = cond (eqb z a) 1 0

-- what is in a list is as all in it are
counted : (a : ℕ) (P : ℕ → Type 0) (xs : List ℕ) → AllByRecursion P xs → 0 < sum_by (times a) xs → P a
counted a P [] all some = absurd (omega arith)
counted a P (x ∷ xs) all some = pick (eqb x a) refl (counted a P xs all.1)
  where
    pick : (t : Bool) → eqb x a ≡ t → (0 < sum_by (times a) xs → P a) → P a
    pick true e rest = subst P (eqb-true x a e) all.0
    pick false e rest = let none : times a x ≡ 0 = ap (λ (b : Bool). cond b 1 0) e in let more = sum_by-cons (times a) x xs in rest (omega arith)

-- numbers of which each has a greater age than the one before
abbrev Climbs : (ℕ → ℕ) → ℕ → List ℕ → Type 0
Climbs age low [] = Unit {0}
Climbs age low (y ∷ ys) = (low ≤ age y) × Climbs age (age y + 1) ys

one_order : (age : ℕ → ℕ) (low : ℕ) (xs ys : List ℕ) → ((f : ℕ → ℕ) → sum_by f xs ≡ sum_by f ys) → IsNonDecreasingBy age xs → Climbs age low ys → xs ≡ ys
one_order age low [] [] same sorted c = refl
one_order age low [] (y ∷ ys) same sorted c = let none = same (λ z. 1) in let more = sum_by-cons (λ z. 1) y ys in absurd (omega arith)
one_order age low (x ∷ xs) [] same sorted c = let none = same (λ z. 1) in let more = sum_by-cons (λ z. 1) x xs in absurd (omega arith)
one_order age low (x ∷ xs) (y ∷ ys) same sorted c = let first = here in
    let rest = one_order age (age y + 1) xs ys (λ f. let a = sum_by-cons f x xs in let b = sum_by-cons f y ys in let all = same f in let one = ap f first in omega arith)
    (λ i j d less low. sorted (suc i) (suc j) d (omega arith) (omega arith)) c.1 in
    λ t. first t ∷ rest t
  where
    own : (z : ℕ) → times z z ≡ 1
    own z = ap (λ (b : Bool). cond b 1 0) (eq-eqb z z refl)

    least : age x ≤ age y
    least = let all = same (times y) in let more = sum_by-cons (times y) y ys in let one = own y in
        counted y (λ z. age x ≤ age z) (x ∷ xs) (recursion_from_All (λ z. age x ≤ age z) (x ∷ xs) (λ k d less. sorted 0 k d (omega arith) less)) (omega arith)

    here : x ≡ y
    here = let all = same (times x) in let more = sum_by-cons (times x) x xs in let one = own x in
        let place : (x ≡ y) ⊎ (age y < age x) = counted x (λ z. (z ≡ y) ⊎ (age y < age z)) (y ∷ ys) (inl refl, later (age y + 1) ys (omega arith) c.1) (omega arith) in
        ⊎_elim (λ e. e) (λ less. absurd (let low = least in omega arith)) place
      where
        later : (from : ℕ) (zs : List ℕ) → age y < from → Climbs age from zs → AllByRecursion (λ z. (z ≡ y) ⊎ (age y < age z)) zs
        later from [] less c = tt
        later from (z ∷ zs) less c = let first = c.0 in (inr (omega arith), later (age z + 1) zs (omega arith) c.1)

-- ---- blocks, by the ages that are kept of them
abbrev pub age_in : Mirror → ℕ → ℕ
age_in mirror b = get_or mirror.ages.items b 0

climbing : (mirror : Mirror) (low high : ℕ) (bs : List ℕ) (ds : List Dated) → map (kept_in mirror) bs ≡ map kept_as ds → Rises low high ds → Climbs (age_in mirror) low bs
climbing mirror low high [] ds e r = tt
climbing mirror low high (b ∷ bs) [] e r = absurd (cc e)
climbing mirror low high (b ∷ bs) (d ∷ ds) e r = let one : kept_in mirror b ≡ kept_as d = cc e in let rest : map (kept_in mirror) bs ≡ map kept_as ds = cc e in
    let age : age_in mirror b ≡ d.age = ap (λ (p : ℕ × Option _). p.0) one in let first = r.0 in
    (omega arith, climbing mirror (age_in mirror b + 1) high bs ds rest (subst (λ (k : ℕ). Rises (k + 1) high ds) (sym age) r.1))

-- blocks of filters whose ages rise: sorted by age they are in the order of the filters
pub sorted_as : (mirror : Mirror) (low high : ℕ) (blocks sorted : List ℕ) (ds : List Dated) → IsPermutation (map (kept_in mirror) blocks) (map kept_as ds) → IsPermutation blocks sorted
    → IsNonDecreasingBy (age_in mirror) sorted → Rises low high ds → map (kept_in mirror) sorted ≡ map kept_as ds
sorted_as mirror low high blocks sorted ds each moved up r = let m = moved_so (kept_in mirror) blocks (map kept_as ds) each in
    let same : sorted ≡ m.0 = one_order (age_in mirror) low sorted m.0 (λ f. sum_by-IsPermutation f blocks sorted moved ∙ sym (sum_by-IsPermutation f blocks m.0 m.1)) up (climbing mirror low high m.0 ds m.2 r) in
    ap (map (kept_in mirror)) same ∙ m.2
