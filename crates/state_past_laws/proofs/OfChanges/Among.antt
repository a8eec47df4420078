-- What stands in lists that were joined, filtered or changed.
use Rattle.std.proofs.Common.{◌≡◌, ◌∙◌, ◌⊎◌, inl, inr, Bool, true, false, cond, List, [], ◌∷◌, ◌++◌, map, Option, Some, None, refl, sym, ap, subst}
use Rattle.std.specs.Prelude.{filter}
use Rattle.std.specs.List.{flat_map}
use Rattle.filter_state.specs.Tables.{first_where}
use Rattle.filter_state.specs.Sound.{Each, EachPair}
use Rattle.state_past_laws.specs.OfChanges.Among.{Has}

module _ {X : Type 0} where
  pub has_left : (x : X) (xs ys : List X) → Has x xs → Has x (xs ++ ys)
  has_left x [] ys has = absurd has
  has_left x (z ∷ xs) ys (inl is) = inl is
  has_left x (z ∷ xs) ys (inr has) = inr (has_left x xs ys has)

  pub has_right : (x : X) (xs ys : List X) → Has x ys → Has x (xs ++ ys)
  has_right x [] ys has = has
  has_right x (z ∷ xs) ys has = inr (has_right x xs ys has)

  later : (x z : X) (xs ys : List X) → Has x xs ⊎ Has x ys → Has x (z ∷ xs) ⊎ Has x ys
  later x z xs ys (inl has) = inl (inr has)
  later x z xs ys (inr has) = inr has

  pub has_append : (x : X) (xs ys : List X) → Has x (xs ++ ys) → Has x xs ⊎ Has x ys
  has_append x [] ys has = inr has
  has_append x (z ∷ xs) ys (inl is) = inl (inl is)
  has_append x (z ∷ xs) ys (inr has) = later x z xs ys (has_append x xs ys has)

  pub each_has : (P : X → Type 0) (xs : List X) (x : X) → Each P xs → Has x xs → P x
  each_has P [] x each has = absurd has
  each_has P (z ∷ xs) x each (inl is) = subst P is each.0
  each_has P (z ∷ xs) x each (inr has) = each_has P xs x each.1 has

  pub pair_has : (R : X → X → Type 0) (xs : List X) (x y : X) → EachPair R xs → Has x xs → Has y xs → (x ≡ y) ⊎ (R x y ⊎ R y x)
  pair_has R [] x y pairs one other = absurd one
  pair_has R (z ∷ xs) x y pairs (inl is) (inl same) = inl (sym is ∙ same)
  pair_has R (z ∷ xs) x y pairs (inl is) (inr other) = inr (inl (subst (λ (w : X). R w y) is (each_has (R z) xs y pairs.0 other)))
  pair_has R (z ∷ xs) x y pairs (inr one) (inl same) = inr (inr (subst (λ (w : X). R w x) same (each_has (R z) xs x pairs.0 one)))
  pair_has R (z ∷ xs) x y pairs (inr one) (inr other) = pair_has R xs x y pairs.1 one other

  -- ---- a test
  either_has : (b : Bool) (x z : X) (xs : List X) → Has x xs → Has x (cond b (z ∷ xs) xs)
  either_has true x z xs has = inr has
  either_has false x z xs has = has

  pub has_filter : (test : X → Bool) (xs : List X) (x : X) → test x ≡ true → Has x xs → Has x (filter test xs)
  has_filter test [] x passes has = absurd has
  has_filter test (z ∷ xs) x passes (inl is) =
      subst (λ (b : Bool). Has x (cond b (z ∷ filter test xs) (filter test xs))) (sym (ap test is ∙ passes)) (inl is)
  has_filter test (z ∷ xs) x passes (inr has) = either_has (test z) x z (filter test xs) (has_filter test xs x passes has)

  deeper : (test : X → Bool) (x z : X) (xs : List X) → Has x xs × (test x ≡ true) → Has x (z ∷ xs) × (test x ≡ true)
  deeper test x z xs has = (inr has.0, has.1)

  pub filter_has : (test : X → Bool) (xs : List X) (x : X) → Has x (filter test xs) → Has x xs × (test x ≡ true)
  filter_has test [] x has = absurd has
  filter_has test (z ∷ xs) x has = by_test (λ own. deeper test x z xs (filter_has test xs x own)) (test z) refl has
    where
      by_test : (Has x (filter test xs) → Has x (z ∷ xs) × (test x ≡ true)) → (b : Bool) → test z ≡ b → Has x (cond b (z ∷ filter test xs) (filter test xs)) → Has x (z ∷ xs) × (test x ≡ true)
      by_test rest true is (inl same) = (inl same, sym (ap test same) ∙ is)
      by_test rest true is (inr has) = rest has
      by_test rest false is has = rest has

  pub first_has : (test : X → Bool) (xs : List X) (x : X) → first_where test xs ≡ Some x → Has x xs × (test x ≡ true)
  first_has test [] x first = absurd (cc first)
  first_has test (z ∷ xs) x first = by_test (λ own. deeper test x z xs (first_has test xs x own)) (test z) refl first
    where
      by_test : (first_where test xs ≡ Some x → Has x (z ∷ xs) × (test x ≡ true)) → (b : Bool) → test z ≡ b → cond b (Some z) (first_where test xs) ≡ Some x → Has x (z ∷ xs) × (test x ≡ true)
      by_test more true is same = let own : z ≡ x = cc same in (inl own, sym (ap test own) ∙ is)
      by_test more false is rest = more rest

  pub has_first : (test : X → Bool) (xs : List X) (x : X) → test x ≡ true → Has x xs → (y : X) × (first_where test xs ≡ Some y)
  has_first test [] x passes has = absurd has
  has_first test (z ∷ xs) x passes has = by_test (λ own. has_first test xs x passes own) (test z) refl has
    where
      by_test : (Has x xs → (y : X) × (first_where test xs ≡ Some y)) → (b : Bool) → test z ≡ b → Has x (z ∷ xs) → (y : X) × (cond b (Some z) (first_where test xs) ≡ Some y)
      by_test more true is has = (z, refl)
      by_test more false is (inl same) = absurd (cc (sym (ap test same) ∙ is, passes))
      by_test more false is (inr has) = more has

  -- two lists have the same elements that pass, and what is seen of these is the same
  pub look_same : {W : Type 0} (see : Option X → W) (test : X → Bool) (xs ys : List X) → ((x : X) → test x ≡ true → Has x xs → Has x ys) → ((y : X) → test y ≡ true → Has y ys → Has y xs)
      → ((x y : X) → test x ≡ true → test y ≡ true → Has x xs → Has y xs → see (Some x) ≡ see (Some y)) → see (first_where test ys) ≡ see (first_where test xs)
  look_same see test xs ys there back alike = pick (first_where test xs) (first_where test ys) refl refl
    where
      pick : (o p : Option X) → first_where test xs ≡ o → first_where test ys ≡ p → see p ≡ see o
      pick None None one other = refl
      pick (Some x) (Some y) one other =
          let a = first_has test xs x one in let b = first_has test ys y other in alike y x b.1 a.1 (back y b.1 b.0) a.0
      pick (Some x) None one other =
          let a = first_has test xs x one in let f = has_first test ys x a.1 (there x a.1 a.0) in absurd (cc (other, f.1))
      pick None (Some y) one other =
          let b = first_has test ys y other in let f = has_first test xs y b.1 (back y b.1 b.0) in absurd (cc (one, f.1))

-- ---- changed elements
module _ {X Y : Type 0} where
  pub has_map : (f : X → Y) (xs : List X) (x : X) → Has x xs → Has (f x) (map f xs)
  has_map f [] x has = absurd has
  has_map f (z ∷ xs) x (inl is) = inl (ap f is)
  has_map f (z ∷ xs) x (inr has) = inr (has_map f xs x has)

  pub map_has : (f : X → Y) (xs : List X) (y : Y) → Has y (map f xs) → (x : X) × Has x xs × (f x ≡ y)
  map_has f [] y has = absurd has
  map_has f (z ∷ xs) y (inl is) = (z, inl refl, is)
  map_has f (z ∷ xs) y (inr has) = let rest = map_has f xs y has in (rest.0, inr rest.1, rest.2)

  pub has_flat_map : (f : X → List Y) (xs : List X) (x : X) (y : Y) → Has x xs → Has y (f x) → Has y (flat_map f xs)
  has_flat_map f [] x y has own = absurd has
  has_flat_map f (z ∷ xs) x y (inl is) own = has_left y (f z) (flat_map f xs) (subst (λ (w : X). Has y (f w)) (sym is) own)
  has_flat_map f (z ∷ xs) x y (inr has) own = has_right y (f z) (flat_map f xs) (has_flat_map f xs x y has own)

  more_of : (f : X → List Y) (z : X) (xs : List X) (y : Y) → (x : X) × Has x xs × Has y (f x) → (x : X) × Has x (z ∷ xs) × Has y (f x)
  more_of f z xs y at = (at.0, inr at.1, at.2)

  pub flat_map_has : (f : X → List Y) (xs : List X) (y : Y) → Has y (flat_map f xs) → (x : X) × Has x xs × Has y (f x)
  flat_map_has f [] y has = absurd has
  flat_map_has f (z ∷ xs) y has = pick (λ own. more_of f z xs y (flat_map_has f xs y own)) (has_append y (f z) (flat_map f xs) has)
    where
      pick : (Has y (flat_map f xs) → (x : X) × Has x (z ∷ xs) × Has y (f x)) → Has y (f z) ⊎ Has y (flat_map f xs) → (x : X) × Has x (z ∷ xs) × Has y (f x)
      pick more (inl own) = (z, inl refl, own)
      pick more (inr rest) = more rest
