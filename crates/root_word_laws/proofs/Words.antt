-- Histories whose stamps rise.
use Rattle.std.proofs.Common.{◌≡◌, ◌≢◌, ◌∙◌, ◌⊎◌, inl, inr, ℕ, zero, suc, ◌+◌, ◌-◌, ◌<◌, ◌≤◌, List, [], ◌∷◌, ◌++◌, length, take, slice_get, Some, None, refl, sym, ap, subst, arith, le_refl}
use mathlib.Core.Logic.{dite}
use native.Mathlib.Decide.{ℕ_discrete}
use mathlib.Core.List.{IsPrefix}
use Rattle.std.proofs.lemmas.List.{take-append-le, take_all}
use Rattle.std.proofs.lemmas.Option.{slice_get_within}
use Rattle.store_history.specs.declared.history.Link.{Link}
use Rattle.store_history.specs.declared.history.Named.{Named}
use Rattle.store_history.specs.declared.history.Commit.{Commit}
use Rattle.store_history.specs.History.{root_of, first_block}
use Rattle.store_history.proofs.Lists.{take_next, get_some}
use Rattle.store_history.proofs.Histories.{root_own, root_other, prefix_take, prefix_length}
use Rattle.root_word_laws.specs.Words.{HaveOneWord, MayFollow, StampsRise}

-- ---- a root over more commits
-- it names the same, or has a later stamp, or no chain and no earlier stamp
abbrev Came : Named → Named → Type 0
Came before now = (before ≡ now) ⊎ MayFollow before now

came_on : (a z w : Named) → Came a z → MayFollow z w → Came a w
came_on a z w (inl same) follows = inr (subst (λ (x : Named). MayFollow x w) (sym same) follows)
came_on a z w (inr (inl less)) (inl more) = inr (inl (omega (arith, less, more)))
came_on a z w (inr (inl less)) (inr empty) = let low = empty.0 in inr (inl (omega (arith, less, low)))
came_on a z w (inr (inr none)) (inl more) = let low = none.0 in inr (inl (omega (arith, low, more)))
came_on a z w (inr (inr none)) (inr empty) = let one = none.0 in let two = empty.0 in inr (inr (omega (arith, one, two), empty.1))

no_block : (chain : List Link) → first_block chain ≡ None → chain ≡ []
no_block [] none = refl
no_block (l ∷ ls) none = absurd (cc none)

one_named : (a z : Named) → Came a z → HaveOneWord a z → a ≡ z
one_named a z (inl same) word = same
one_named a z (inr (inl less)) word = let stamp = word.stamp in absurd (omega (arith, less, stamp))
one_named a z (inr (inr none)) word =
    let empty : a.chain ≡ [] = no_block a.chain (word.first ∙ ap first_block none.1) in
    let chain : a.chain ≡ z.chain = empty ∙ sym none.1 in λ t. record { chain = chain t; stamp = word.stamp t }

-- with one stamp, and a block, it is the same
stamp_named : (a z : Named) (block : ℕ) → Came a z → a.stamp ≡ z.stamp → first_block z.chain ≡ Some block → a ≡ z
stamp_named a z block (inl same) stamp some = same
stamp_named a z block (inr (inl less)) stamp some = absurd (omega (arith, less, stamp))
stamp_named a z block (inr (inr none)) stamp some = let empty : None ≡ Some block = sym (ap first_block none.1) ∙ some in absurd (cc empty)

module _ {E : Type 0} where
  -- ---- one commit more
  pub none_rise : StampsRise {E = E} []
  none_rise n c at = absurd (cc at)

  last_is : (h : List (Commit E)) (c d : Commit E) (n : ℕ) → slice_get (h ++ c ∷ []) n ≡ Some d → ((n < length h) × (slice_get h n ≡ Some d)) ⊎ ((n ≡ length h) × (c ≡ d))
  last_is [] c d zero at = inr (refl, cc at)
  last_is [] c d (suc n) at = absurd (cc at)
  last_is (x ∷ h) c d zero at = inl (omega arith, at)
  last_is (x ∷ h) c d (suc n) at = on (last_is h c d n at)
    where
      on : ((n < length h) × (slice_get h n ≡ Some d)) ⊎ ((n ≡ length h) × (c ≡ d)) → ((suc n < length (x ∷ h)) × (slice_get h n ≡ Some d)) ⊎ ((suc n ≡ length (x ∷ h)) × (c ≡ d))
      on (inl i) = let low = i.0 in inl (omega (arith, low), i.1)
      on (inr i) = inr (ap suc i.0, i.1)

  pub more_rise : (h : List (Commit E)) (c : Commit E) → StampsRise h → MayFollow (root_of h c.root) c.named → StampsRise (h ++ c ∷ [])
  more_rise h c rise follows n d at = on (last_is h c d n at)
    where
      on : ((n < length h) × (slice_get h n ≡ Some d)) ⊎ ((n ≡ length h) × (c ≡ d)) → MayFollow (root_of (take n (h ++ c ∷ [])) d.root) d.named
      on (inl i) = let low = i.0 in subst (λ (g : List (Commit E)). MayFollow (root_of g d.root) d.named) (sym (take-append-le n h (c ∷ []) (omega (arith, low)))) (rise n d i.1)
      on (inr i) = subst (λ (k : ℕ). MayFollow (root_of (take k (h ++ c ∷ [])) d.root) d.named) (sym i.0)
          (subst (λ (g : List (Commit E)). MayFollow (root_of g d.root) d.named) (sym (take-append-le (length h) h (c ∷ []) (le_refl (length h)) ∙ take_all (length h) h (le_refl (length h))))
          (subst (λ (e : Commit E). MayFollow (root_of h e.root) e.named) i.1 follows))

  -- ---- a beginning
  front_at : (g rest : List (Commit E)) (n : ℕ) (c : Commit E) → slice_get g n ≡ Some c → slice_get (g ++ rest) n ≡ Some c
  front_at [] rest n c at = absurd (cc at)
  front_at (x ∷ g) rest zero c at = at
  front_at (x ∷ g) rest (suc n) c at = front_at g rest n c at

  pub beginning_rise : (g h : List (Commit E)) → IsPrefix g h → StampsRise h → StampsRise g
  beginning_rise g h prefix rise n c at = let within = slice_get_within g n c at in
      subst (λ (k : List (Commit E)). MayFollow (root_of k c.root) c.named) (prefix_take g h n prefix (omega (arith, within)))
      (rise n c (subst (λ (k : List (Commit E)). slice_get k n ≡ Some c) prefix.1 (front_at g prefix.0 n c at)))

  module _ (h : List (Commit E)) (r : ℕ) (rise : StampsRise h) where
    abbrev named_at : ℕ → Named
    named_at n = root_of (take n h) r

    one_on : (n m : ℕ) (c : Commit E) → slice_get h m ≡ Some c → Came (named_at n) (named_at m) → Came (named_at n) (named_at (suc m))
    one_on n m c at came = dite (ℕ_discrete c.root r)
        (λ (own : c.root ≡ r). let next : named_at (suc m) ≡ c.named = ap (λ (g : List (Commit E)). root_of g r) (take_next h m c at) ∙ (ap (root_of (take m h ++ c ∷ [])) (sym own) ∙ root_own (take m h) c) in
        subst (Came (named_at n)) (sym next) (came_on (named_at n) (named_at m) c.named came (subst (λ (k : ℕ). MayFollow (root_of (take m h) k) c.named) own (rise m c at))))
        (λ (other : c.root ≢ r). subst (Came (named_at n)) (sym (ap (λ (g : List (Commit E)). root_of g r) (take_next h m c at) ∙ root_other (take m h) c r other)) came)

    so_many_on : (d n : ℕ) → n + d ≤ length h → Came (named_at n) (named_at (n + d))
    so_many_on zero n within = inl (ap named_at (omega arith))
    so_many_on (suc d) n within = let c = get_some h (n + d) (omega arith) in
        let step = one_on n (n + d) c.0 c.1 (so_many_on d n (omega arith)) in
        let same : suc (n + d) ≡ n + suc d = omega arith in subst (λ (m : ℕ). Came (named_at n) (named_at m)) same step

  -- what a root named after the beginning, and what it names after all
  came_from : (g h : List (Commit E)) (r : ℕ) → IsPrefix g h → StampsRise h → Came (root_of g r) (root_of h r)
  came_from g h r prefix rise =
      let low = prefix_length g h prefix in
      let front : root_of (take (length g) h) r ≡ root_of g r = ap (λ (k : List (Commit E)). root_of k r) (prefix_take g h (length g) prefix (le_refl (length g)) ∙ take_all (length g) g (le_refl (length g))) in
      let whole : root_of (take (length h) h) r ≡ root_of h r = ap (λ (k : List (Commit E)). root_of k r) (take_all (length h) h (le_refl (length h))) in
      let there : length g + (length h - length g) ≡ length h = omega (arith, low) in
      let came : Came (root_of (take (length g) h) r) (root_of (take (length h) h) r) =
      subst (λ (m : ℕ). Came (root_of (take (length g) h) r) (root_of (take m h) r)) there (so_many_on h r rise (length h - length g) (length g) (omega (arith, low))) in
      subst (λ (x : Named). Came x (root_of h r)) front (subst (Came (root_of (take (length g) h) r)) whole came)

  pub one_word : (g h : List (Commit E)) (r : ℕ) → IsPrefix g h → StampsRise h → HaveOneWord (root_of g r) (root_of h r) → root_of g r ≡ root_of h r
  one_word g h r prefix rise word = one_named (root_of g r) (root_of h r) (came_from g h r prefix rise) word

  pub one_stamp : (g h : List (Commit E)) (r block : ℕ) → IsPrefix g h → StampsRise h → (root_of g r).stamp ≡ (root_of h r).stamp → first_block (root_of h r).chain ≡ Some block → root_of g r ≡ root_of h r
  one_stamp g h r block prefix rise same some = stamp_named (root_of g r) (root_of h r) block (came_from g h r prefix rise) same some
