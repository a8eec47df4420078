-- The first of each key in a list.
use Rattle.std.proofs.Common.{◌≡◌, ◌∙◌, Bool, true, false, ◌||◌, List, [], ◌∷◌, Option, Some, None, ◌⊎◌}
use Rattle.std.proofs.Common.{inl, inr, refl, sym, ap, subst}
use Rattle.std.specs.Prelude.{if◌then◌else◌}
use Rattle.std.specs.List.{list_any}
use Rattle.std.proofs.lemmas.Option.{none-some, same_Some}
use Rattle.walk_fate_laws.specs.Firsts.{IsAmong, First, first_by, firsts}
use Rattle.walk_fate_laws.specs.Order.{EachBefore}

either_way : (b : Bool) → (b || true) ≡ true
either_way true = refl
either_way false = refl

not_both : (t : Bool) → t ≡ true → t ≡ false → ⊥
not_both t one other = absurd (cc (one, other))

abbrev pub ItemsStand : {X K : Type 0} → (X → X → Type 0) → List (First X K) → Type 0
ItemsStand {X = X} {K = K} R list = EachBefore (λ (f g : First X K). R f.item g.item) list

module _ {K : Type 0} (same : K → K → Bool) where
  abbrev pub Exact : Type 0
  Exact = (one other : K) → same one other ≡ true → one ≡ other

  abbrev pub Itself : Type 0
  Itself = (one : K) → same one one ≡ true

  any_among : Exact → (k : K) (seen : List K) → list_any (same k) seen ≡ true → IsAmong k seen
  any_among exact k [] is = absurd (cc is)
  any_among exact k (x ∷ seen) is = by_test (same k x) refl is (λ rest. any_among exact k seen rest)
    where
      by_test : (b : Bool) → same k x ≡ b → list_any (same k) (x ∷ seen) ≡ true
          → (list_any (same k) seen ≡ true → IsAmong k seen) → IsAmong k (x ∷ seen)
      by_test true tests any rest = inl (exact k x tests)
      by_test false tests any rest = inr (rest (cc (tests, any)))

  any_has : Itself → (k : K) (seen : List K) → IsAmong k seen → list_any (same k) seen ≡ true
  any_has itself k [] there = absurd there
  any_has itself k (x ∷ seen) there = elim there [
    | inl is ↦ (let it : same k x ≡ true = subst (λ (v : K). same k v ≡ true) is (itself k) in
        ap (λ (t : Bool). t || list_any (same k) seen) it)
    | inr rest ↦ ap (λ (t : Bool). same k x || t) (any_has itself k seen rest) ∙ either_way (same k x)
  ]

  module _ {X : Type 0} (key_of : X → Option K) where
    -- where an element is put or left out
    abbrev Chosen : List K → X → List X → K → Bool → List (First X K)
    Chosen seen x xs k b = if b then firsts same key_of seen xs
        else record { item = x; key = k } ∷ firsts same key_of (k ∷ seen) xs

    -- ---- each is of the list, with its key
    pub record IsFirst (xs : List X) (f : First X K) : Type 0 where
      pub there : IsAmong f.item xs
      pub key : key_of f.item ≡ Some f.key

    one_later : (x : X) (xs : List X) (f : First X K) → IsFirst xs f → IsFirst (x ∷ xs) f
    one_later x xs f it = record { there = inr it.there; key = it.key }

    pub first_told : (seen : List K) (xs : List X) (f : First X K) → IsAmong f (firsts same key_of seen xs)
        → IsFirst xs f
    first_told seen [] f there = absurd there
    first_told seen (x ∷ xs) f there =
        by_key (key_of x) refl there (λ now rest. one_later x xs f (first_told now xs f rest))
      where
        by_test : (k : K) (t : Bool) → key_of x ≡ Some k → IsAmong f (Chosen seen x xs k t)
            → ((now : List K) → IsAmong f (firsts same key_of now xs) → IsFirst (x ∷ xs) f)
            → IsFirst (x ∷ xs) f
        by_test k true is there rest = rest seen there
        by_test k false is there rest = elim there [
          | inl first ↦ subst (IsFirst (x ∷ xs)) (sym first) (record { there = inl refl; key = is })
          | inr more ↦ rest (k ∷ seen) more
        ]

        by_key : (o : Option K) → key_of x ≡ o
            → IsAmong f (first_by same seen x o (λ now. firsts same key_of now xs))
            → ((now : List K) → IsAmong f (firsts same key_of now xs) → IsFirst (x ∷ xs) f)
            → IsFirst (x ∷ xs) f
        by_key None is there rest = rest seen there
        by_key (Some k) is there rest = by_test k (list_any (same k) seen) is there rest

    -- ---- each key is there, at an element that stands no later
    abbrev pub FoundIn : (X → X → Type 0) → List (First X K) → List K → X → K → Type 0
    FoundIn R list seen x k = IsAmong k seen
        ⊎ ((f : First X K) × IsAmong f list × (f.key ≡ k) × ((f.item ≡ x) ⊎ R f.item x))

    pub found : Exact → (R : X → X → Type 0) (seen : List K) (xs : List X) (y : X) (k : K) → EachBefore R xs
        → IsAmong y xs → key_of y ≡ Some k → FoundIn R (firsts same key_of seen xs) seen y k
    found exact R seen [] y k rise there is = absurd there
    found exact R seen (x ∷ xs) y k rise there is =
        by_key (key_of x) refl (λ now later. found exact R now xs y k rise.1 later is)
      where
        here : y ≡ x → key_of x ≡ Some k
        here same = ap key_of (sym same) ∙ is

        -- an element with a new key: it is that one, or one behind it
        by_new : (a : K) → key_of x ≡ Some a
            → ((now : List K) → IsAmong y xs → FoundIn R (firsts same key_of now xs) now y k)
            → FoundIn R (record { item = x; key = a } ∷ firsts same key_of (a ∷ seen) xs) seen y k
        by_new a at rest = elim there [
          | inl first ↦ inr (
            record { item = x; key = a },
            inl refl,
            same_Some a k (sym at ∙ here first),
            inl (sym first),
          )
          | inr later ↦ elim (rest (a ∷ seen) later) [
            | inl one ↦ elim one [
              | inl its ↦ inr (record { item = x; key = a }, inl refl, sym its, inr (rise.0 y later))
              | inr before ↦ inl before
            ]
            | inr more ↦ inr (more.0, inr more.1, more.2, more.3)
          ]
        ]

        by_test : (a : K) (t : Bool) → key_of x ≡ Some a → list_any (same a) seen ≡ t
            → ((now : List K) → IsAmong y xs → FoundIn R (firsts same key_of now xs) now y k)
            → FoundIn R (Chosen seen x xs a t) seen y k
        by_test a false at tests rest = by_new a at rest
        by_test a true at tests rest = elim there [
          | inl first ↦ inl (subst (λ (v : K). IsAmong v seen) (same_Some a k (sym at ∙ here first))
              (any_among exact a seen tests))
          | inr later ↦ rest seen later
        ]

        by_key : (o : Option K) → key_of x ≡ o
            → ((now : List K) → IsAmong y xs → FoundIn R (firsts same key_of now xs) now y k)
            → FoundIn R (first_by same seen x o (λ now. firsts same key_of now xs)) seen y k
        by_key None at rest = elim there [
          | inl first ↦ absurd (none-some k (sym at ∙ here first))
          | inr later ↦ rest seen later
        ]
        by_key (Some a) at rest = by_test a (list_any (same a) seen) at refl rest

    -- ---- no key is there twice
    pub first_new : Itself → (seen : List K) (xs : List X) (f : First X K)
        → IsAmong f (firsts same key_of seen xs)
        → IsAmong f.key seen → ⊥
    first_new itself seen [] f there old = absurd there
    first_new itself seen (x ∷ xs) f there old =
        by_key (key_of x) there (λ now rest before. first_new itself now xs f rest before)
      where
        by_test : (k : K) (t : Bool) → list_any (same k) seen ≡ t → IsAmong f (Chosen seen x xs k t)
            → ((now : List K) → IsAmong f (firsts same key_of now xs) → IsAmong f.key now → ⊥) → ⊥
        by_test k true tests there rest = rest seen there old
        by_test k false tests there rest = elim there [
          | inl first ↦ not_both (list_any (same k) seen)
              (any_has itself k seen (subst (λ (v : First X K). IsAmong v.key seen) first old)) tests
          | inr more ↦ rest (k ∷ seen) more (inr old)
        ]

        by_key : (o : Option K) → IsAmong f (first_by same seen x o (λ now. firsts same key_of now xs))
            → ((now : List K) → IsAmong f (firsts same key_of now xs) → IsAmong f.key now → ⊥) → ⊥
        by_key None there rest = rest seen there old
        by_key (Some k) there rest = by_test k (list_any (same k) seen) refl there rest

    abbrev AreOne : List X → First X K → First X K → Type 0
    AreOne xs f g =
        (now : List K) → IsAmong f (firsts same key_of now xs) → IsAmong g (firsts same key_of now xs) → f ≡ g

    pub one_first : Itself → (seen : List K) (xs : List X) (f g : First X K)
        → IsAmong f (firsts same key_of seen xs) → IsAmong g (firsts same key_of seen xs) → f.key ≡ g.key
        → f ≡ g
    one_first itself seen [] f g there also is = absurd there
    one_first itself seen (x ∷ xs) f g there also is =
        by_key (key_of x) there also (λ now one other. one_first itself now xs f g one other is)
      where
        by_test : (k : K) (t : Bool) → IsAmong f (Chosen seen x xs k t) → IsAmong g (Chosen seen x xs k t)
            → AreOne xs f g → f ≡ g
        by_test k true one other rest = rest seen one other
        by_test k false one other rest = elim one [
          | inl first ↦ elim other [
            | inl second ↦ first ∙ sym second
            | inr later ↦ absurd (first_new itself (k ∷ seen) xs g later
                (inl (sym is ∙ ap (λ (v : First X K). v.key) first)))
          ]
          | inr more ↦ elim other [
            | inl second ↦ absurd (first_new itself (k ∷ seen) xs f more
                (inl (is ∙ ap (λ (v : First X K). v.key) second)))
            | inr later ↦ rest (k ∷ seen) more later
          ]
        ]

        by_key : (o : Option K) → IsAmong f (first_by same seen x o (λ now. firsts same key_of now xs))
            → IsAmong g (first_by same seen x o (λ now. firsts same key_of now xs)) → AreOne xs f g → f ≡ g
        by_key None one other rest = rest seen one other
        by_key (Some k) one other rest = by_test k (list_any (same k) seen) one other rest

    -- ---- they stand in the list's order
    pub firsts_stand : (R : X → X → Type 0) (seen : List K) (xs : List X) → EachBefore R xs
        → ItemsStand R (firsts same key_of seen xs)
    firsts_stand R seen [] rise = tt
    firsts_stand R seen (x ∷ xs) rise = by_key (key_of x) (λ now. firsts_stand R now xs rise.1)
      where
        by_test : (k : K) (t : Bool) → ((now : List K) → ItemsStand R (firsts same key_of now xs))
            → ItemsStand R (Chosen seen x xs k t)
        by_test k true rest = rest seen
        by_test k false rest =
            ((λ g there. rise.0 g.item (first_told (k ∷ seen) xs g there).there), rest (k ∷ seen))

        by_key : (o : Option K) → ((now : List K) → ItemsStand R (firsts same key_of now xs))
            → ItemsStand R (first_by same seen x o (λ now. firsts same key_of now xs))
        by_key None rest = rest seen
        by_key (Some k) rest = by_test k (list_any (same k) seen) rest

    -- ---- and no two have one key
    abbrev pub KeysDiffer : List (First X K) → Type 0
    KeysDiffer list = EachBefore (λ (f g : First X K). f.key ≡ g.key → ⊥) list

    pub firsts_differ : Itself → (seen : List K) (xs : List X) → KeysDiffer (firsts same key_of seen xs)
    firsts_differ itself seen [] = tt
    firsts_differ itself seen (x ∷ xs) = by_key (key_of x) (λ now. firsts_differ itself now xs)
      where
        by_test : (k : K) (t : Bool) → ((now : List K) → KeysDiffer (firsts same key_of now xs))
            → KeysDiffer (Chosen seen x xs k t)
        by_test k true rest = rest seen
        by_test k false rest =
            ((λ g there is. first_new itself (k ∷ seen) xs g there (inl (sym is))), rest (k ∷ seen))

        by_key : (o : Option K) → ((now : List K) → KeysDiffer (firsts same key_of now xs))
            → KeysDiffer (first_by same seen x o (λ now. firsts same key_of now xs))
        by_key None rest = rest seen
        by_key (Some k) rest = by_test k (list_any (same k) seen) rest
