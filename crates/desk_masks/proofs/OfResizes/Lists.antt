-- Lists of commits without a number, each to a root of its own.
use Rattle.std.proofs.Common.{◌≡◌, ◌≢◌, ◌∙◌, ◌⊎◌, inl, inr, ℕ, zero, suc, ◌<◌, ◌≤◌, Bool, true, false, cond, eqb, List, [], ◌∷◌, ◌++◌, length, take, slice_get, Some, refl, sym, ap, subst, arith, append_assoc}
use mathlib.Core.List.{append-nil}
use Rattle.store_history.specs.declared.history.Commit.{Commit}
use Rattle.store_history.specs.declared.history.Named.{Named}
use Rattle.store_history.specs.History.{root_of, named_after, empty_named}
use Rattle.store_history.proofs.Lists.{get_take}
use Rattle.store_history.proofs.Histories.{root_other, named_after-append}
use Rattle.root_word_laws.specs.Words.{StampsRise}
use Rattle.root_word_laws.proofs.Words.{more_rise}
use Rattle.hook_law.specs.Unnumbered.{HaveOwnRoots}

module _ {E : Type 0} where
  pub own_take : (n : ℕ) (cs : List (Commit E)) → HaveOwnRoots cs → HaveOwnRoots (take n cs)
  own_take n cs own i j c d e f same = own i j c d (get_take cs n i c e) (get_take cs n j d f) same

  -- each to a root with an earlier stamp
  pub list_rises : (cs h : List (Commit E)) → StampsRise h → HaveOwnRoots cs → ((j : ℕ) (c : Commit E) → slice_get cs j ≡ Some c → (root_of h c.root).stamp < c.named.stamp) → StampsRise (h ++ cs)
  list_rises [] h rise own less = subst (λ (z : List (Commit E)). StampsRise z) (sym (append-nil h)) rise
  list_rises (d ∷ ds) h rise own less = subst (λ (z : List (Commit E)). StampsRise z) (append_assoc h (d ∷ []) ds)
      (list_rises ds (h ++ d ∷ []) (more_rise h d rise (inl (less 0 d refl))) (λ i j c e at at2 same. let up = own (suc i) (suc j) c e at at2 same in omega (arith, up))
      (λ j c at. subst (λ (n : Named). n.stamp < c.named.stamp) (sym (root_other h d c.root (λ same. let up = own 0 (suc j) d c refl at same in omega (arith, up)))) (less (suc j) c at)))

  after_early : (cs : List (Commit E)) (r p : ℕ) (n : Named) → n.stamp ≤ p → ((j : ℕ) (c : Commit E) → slice_get cs j ≡ Some c → c.named.stamp ≤ p) → (named_after r n cs).stamp ≤ p
  after_early [] r p n low each = low
  after_early (c ∷ cs) r p n low each = after_early cs r p (cond (eqb c.root r) c.named n) (pick (eqb c.root r)) (λ j d at. each (suc j) d at)
    where
      pick : (t : Bool) → (cond t c.named n).stamp ≤ p
      pick true = each 0 c refl
      pick false = low

  pub list_early : (h cs : List (Commit E)) (r p : ℕ) → (root_of h r).stamp ≤ p → ((j : ℕ) (c : Commit E) → slice_get cs j ≡ Some c → c.named.stamp ≤ p) → (root_of (h ++ cs) r).stamp ≤ p
  list_early h cs r p low each = subst (λ (n : Named). n.stamp ≤ p) (sym (named_after-append r empty_named h cs)) (after_early cs r p (root_of h r) low each)

  -- one more at the end
  pub at_last : (cs : List (Commit E)) (d : Commit E) (j : ℕ) (c : Commit E) → slice_get (cs ++ d ∷ []) j ≡ Some c → (slice_get cs j ≡ Some c) ⊎ ((j ≡ length cs) × (d ≡ c))
  at_last [] d zero c e = let same : d ≡ c = cc e in inr (refl, same)
  at_last [] d (suc j) c e = absurd (cc e)
  at_last (x ∷ xs) d zero c e = inl e
  at_last (x ∷ xs) d (suc j) c e = more (at_last xs d j c e)
    where
      more : (slice_get xs j ≡ Some c) ⊎ ((j ≡ length xs) × (d ≡ c)) → (slice_get (x ∷ xs) (suc j) ≡ Some c) ⊎ ((suc j ≡ length (x ∷ xs)) × (d ≡ c))
      more (inl at) = inl at
      more (inr own) = let n = own.0 in inr (omega (arith, n), own.1)

  pub own_last : (cs : List (Commit E)) (d : Commit E) → HaveOwnRoots cs → ((j : ℕ) (c : Commit E) → slice_get cs j ≡ Some c → c.root ≢ d.root) → HaveOwnRoots (cs ++ d ∷ [])
  own_last cs d own away i j c e at at2 same = sort (at_last cs d i c at) (at_last cs d j e at2)
    where
      sort : (slice_get cs i ≡ Some c) ⊎ ((i ≡ length cs) × (d ≡ c)) → (slice_get cs j ≡ Some e) ⊎ ((j ≡ length cs) × (d ≡ e)) → i ≡ j
      sort (inl a) (inl b) = own i j c e a b same
      sort (inl a) (inr b) = absurd (away i c a (same ∙ ap (λ (z : Commit E). z.root) (sym b.1)))
      sort (inr a) (inl b) = absurd (away j e b (sym same ∙ ap (λ (z : Commit E). z.root) (sym a.1)))
      sort (inr a) (inr b) = a.0 ∙ sym b.0
