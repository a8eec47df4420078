-- Blocks under a commit.
use Rattle.std.proofs.Common.{◌≡◌, ◌≢◌, ◌∙◌, ◌⊎◌, inl, inr, ℕ, ◌≤◌, Bool, true, false, eqb, List, []}
use Rattle.std.proofs.Common.{◌∷◌, ◌++◌, length, take, slice_get, Some, refl, sym, ap, subst, arith, eqb-true}
use Rattle.std.proofs.lemmas.Bool.{eqb-false}
use Rattle.std.proofs.lemmas.List.{take_all}
use Rattle.store_history.specs.declared.history.Link.{Link}
use Rattle.store_history.specs.declared.history.Commit.{Commit}
use Rattle.store_history.specs.History.{root_of, IsNamed}
use Rattle.store_history.proofs.Histories.{root_own, root_other, named_push, named_at_end}
use Rattle.hook_law.specs.Standing.{IsIn}
use Rattle.root_pool_laws.specs.Blocks.{IsBlockOf, HasBlock, HaveOneRoot, IsLeft, Spends}

module _ {E : Type 0} where
  -- what has a block after a commit had it before, or is the commit's root
  pub has_push : (h : List (Commit E)) (c : Commit E) (r block : ℕ) → HasBlock (h ++ c ∷ []) r block
      → HasBlock h r block ⊎ ((c.root ≡ r) × IsBlockOf block c.named.chain)
  has_push h c r block has = pick (eqb c.root r) refl
    where
      pick : (t : Bool) → eqb c.root r ≡ t → HasBlock h r block
          ⊎ ((c.root ≡ r) × IsBlockOf block c.named.chain)
      pick true e = let is : c.root ≡ r = eqb-true c.root r e in
          inr (
            is,
            (
              has.0,
              has.1,
              ap (λ named. slice_get named.chain has.0)
                  (sym (root_own h c) ∙ ap (root_of (h ++ c ∷ [])) is) ∙ has.2,
              has.3,
            ),
          )
      pick false e = inl (
        has.0,
        has.1,
        ap (λ named. slice_get named.chain has.0)
            (sym (root_other h c r (eqb-false c.root r e))) ∙ has.2,
        has.3,
      )

  -- no root has a block that no chain has had since the base
  pub unnamed_end : (h : List (Commit E)) (base block : ℕ) → base ≤ length h
      → ((l : Link) → IsNamed base h l → l.block ≢ block) → (r : ℕ) → HasBlock h r block → ⊥
  unnamed_end h base block low free r has = free has.1
      (named_at_end base h r has.0 has.1 low has.2) has.3

  -- where the base is the end, a block that no root has is free
  pub none_unnamed : (h : List (Commit E)) (block : ℕ) → ((r : ℕ) → HasBlock h r block → ⊥)
      → (l : Link) → IsNamed (length h) h l → l.block ≢ block
  none_unnamed h block none l named same = let late = named.late in let made = named.made in
      let whole : take named.after h ≡ h = take_all named.after h (omega (arith, late, made)) in
      none named.root (
        named.place,
        l,
        sym (ap (λ (k : List (Commit E)). slice_get (root_of k named.root).chain
            named.place) whole) ∙ named.there,
        same,
      )

  module _ (h : List (Commit E)) (c : Commit E) (given : List ℕ) (spends : Spends h c given) where
    module _ (base : ℕ) (low : base ≤ length h) where
      -- a block that isn't given stays free
      pub free_stays : (block : ℕ) → (IsIn block given → ⊥)
          → ((l : Link) → IsNamed base h l → l.block ≢ block)
          → (l : Link) → IsNamed base (h ++ c ∷ []) l → l.block ≢ block
      free_stays block other free l named is = pick (named_push base h c l low named)
        where
          pick : IsNamed base h l ⊎ ((k : ℕ) × (slice_get c.named.chain k ≡ Some l)) → ⊥
          pick (inl before) = free l before is
          pick (inr at) = sort (spends at.0 l at.1)
            where
              sort : IsIn l.block given ⊎ HasBlock h c.root l.block → ⊥
              sort (inl g) = other (subst (λ (n : ℕ). IsIn n given) is g)
              sort (inr n) = unnamed_end h base block low free c.root (subst (HasBlock h c.root) is n)

      -- and no block comes to have two roots
      pub one_root_stays : HaveOneRoot h
          → ((block : ℕ) → IsIn block given → (l : Link) → IsNamed base h l → l.block ≢ block)
          → HaveOneRoot (h ++ c ∷ [])
      one_root_stays one free r s block x y = sort (has_push h c r block x) (has_push h c s block y)
        where
          Own : ℕ → Type 0
          Own q = (c.root ≡ q) × IsBlockOf block c.named.chain

          both : (q t : ℕ) → Own q → HasBlock h t block → q ≡ t
          both q t o n = pick (spends o.1.0 o.1.1 o.1.2)
            where
              pick : IsIn o.1.1.block given ⊎ HasBlock h c.root o.1.1.block → q ≡ t
              pick (inl g) = absurd (unnamed_end h base block low
                  (free block (subst (λ (n : ℕ). IsIn n given) o.1.3 g)) t n)
              pick (inr m) = sym o.0 ∙ one c.root t block (subst (HasBlock h c.root) o.1.3 m) n

          sort : HasBlock h r block ⊎ Own r → HasBlock h s block ⊎ Own s → r ≡ s
          sort (inl m) (inl n) = one r s block m n
          sort (inr o) (inl n) = both r s o n
          sort (inl m) (inr o) = sym (both s r o m)
          sort (inr o) (inr q) = sym o.0 ∙ q.0

    -- and what left stays so, where no more is taken from the roots that are gone
    pub left_stays : (gone more : List ℕ) → ((r : ℕ) → IsIn r gone → IsIn r more)
        → (block : ℕ) → (IsIn block given → ⊥) → IsLeft gone h block → IsLeft more (h ++ c ∷ []) block
    left_stays gone more still block other left r n = pick (has_push h c r block n)
      where
        pick : HasBlock h r block ⊎ ((c.root ≡ r) × IsBlockOf block c.named.chain) → IsIn r more
        pick (inl m) = still r (left r m)
        pick (inr o) = sort (spends o.1.0 o.1.1 o.1.2)
          where
            sort : IsIn o.1.1.block given ⊎ HasBlock h c.root o.1.1.block → IsIn r more
            sort (inl g) = absurd (other (subst (λ (k : ℕ). IsIn k given) o.1.3 g))
            sort (inr m) = still r (subst (λ (k : ℕ). IsIn k gone) o.0 (left c.root (subst (HasBlock h c.root) o.1.3 m)))
