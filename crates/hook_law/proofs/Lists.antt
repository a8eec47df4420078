-- What a root names after a list of commits that each have a root of their own.
use Rattle.std.proofs.Common.{◌≡◌, ◌≢◌, ℕ, zero, suc, Bool, true, false, cond, eqb, List, [], ◌∷◌, ◌++◌, slice_get, Some, refl, ap, ◌∙◌, arith}
use Rattle.store_history.specs.declared.history.Commit.{Commit}
use Rattle.store_history.specs.declared.history.Named.{Named}
use Rattle.store_history.specs.History.{root_of, named_after, empty_named}
use Rattle.store_history.proofs.Histories.{named_after-append}
use Rattle.hook_law.specs.Unnumbered.{HaveOwnRoots}

module _ {E : Type 0} where
  after_none : (r : ℕ) (n : Named) (cs : List (Commit E)) → ((j : ℕ) (c : Commit E) → slice_get cs j ≡ Some c → c.root ≢ r) → named_after r n cs ≡ n
  after_none r n [] none = refl
  after_none r n (c ∷ cs) none = pick (eqb c.root r) refl ∙ after_none r n cs (λ j d e. none (suc j) d e)
    where
      pick : (t : Bool) → eqb c.root r ≡ t → named_after r (cond t c.named n) cs ≡ named_after r n cs
      pick true e = absurd (none 0 c refl (grind (arith, e)))
      pick false e = refl

  after_one : (r : ℕ) (n : Named) (cs : List (Commit E)) (i : ℕ) (c : Commit E) → slice_get cs i ≡ Some c → c.root ≡ r
      → ((j : ℕ) (d : Commit E) → slice_get cs j ≡ Some d → d.root ≡ r → j ≡ i) → named_after r n cs ≡ c.named
  after_one r n [] i c at is one = absurd (cc at)
  after_one r n (d ∷ ds) zero c at is one = let same : d ≡ c = cc at in
      pick (eqb d.root r) refl (ap (λ (z : Commit E). z.root) same ∙ is) ∙ (after_none r d.named ds (λ j e f g. let bad = one (suc j) e f g in omega arith) ∙ ap (λ (z : Commit E). z.named) same)
    where
      pick : (t : Bool) → eqb d.root r ≡ t → d.root ≡ r → named_after r (cond t d.named n) ds ≡ named_after r d.named ds
      pick true e f = refl
      pick false e f = absurd (grind (arith, e, f))
  after_one r n (d ∷ ds) (suc i) c at is one = after_one r (cond (eqb d.root r) d.named n) ds i c at is (λ j e f g. let same = one (suc j) e f g in omega arith)

  -- a root that no commit of the list has names what it named
  pub root_of_none : (h cs : List (Commit E)) (r : ℕ) → ((j : ℕ) (c : Commit E) → slice_get cs j ≡ Some c → c.root ≢ r)
      → root_of (h ++ cs) r ≡ root_of h r
  root_of_none h cs r none = named_after-append r empty_named h cs ∙ after_none r (root_of h r) cs none

  -- the root of a commit of the list names what that commit says
  pub root_of_one : (h cs : List (Commit E)) (i : ℕ) (c : Commit E) → HaveOwnRoots cs → slice_get cs i ≡ Some c → root_of (h ++ cs) c.root ≡ c.named
  root_of_one h cs i c own at = named_after-append c.root empty_named h cs ∙ after_one c.root (root_of h c.root) cs i c at refl (λ j d there same. own j i d c there at same)

  -- where each commit of the list names no block, a root that names none goes on so
  still_empty : (r : ℕ) (n : Named) (cs : List (Commit E)) → ((j : ℕ) (d : Commit E) → slice_get cs j ≡ Some d → d.named.chain ≡ []) → n.chain ≡ []
      → (named_after r n cs).chain ≡ []
  still_empty r n [] empty e = e
  still_empty r n (d ∷ ds) empty e = still_empty r (cond (eqb d.root r) d.named n) ds (λ j c at. empty (suc j) c at) (pick (eqb d.root r))
    where
      pick : (t : Bool) → (cond t d.named n).chain ≡ []
      pick true = empty 0 d refl
      pick false = e

  after_empty : (r : ℕ) (n : Named) (cs : List (Commit E)) (i : ℕ) (c : Commit E)
      → ((j : ℕ) (d : Commit E) → slice_get cs j ≡ Some d → d.named.chain ≡ []) → slice_get cs i ≡ Some c → c.root ≡ r
      → (named_after r n cs).chain ≡ []
  after_empty r n [] i c empty at is = absurd (cc at)
  after_empty r n (d ∷ ds) (suc i) c empty at is = after_empty r (cond (eqb d.root r) d.named n) ds i c (λ j e there. empty (suc j) e there) at is
  after_empty r n (d ∷ ds) zero c empty at is = let same : d ≡ c = cc at in still_empty r (cond (eqb d.root r) d.named n) ds (λ j e there. empty (suc j) e there) (pick (eqb d.root r) refl (ap (λ (z : Commit E). z.root) same ∙ is))
    where
      pick : (t : Bool) → eqb d.root r ≡ t → d.root ≡ r → (cond t d.named n).chain ≡ []
      pick true e f = empty 0 d refl
      pick false e f = absurd (grind (arith, e, f))

  -- and the root of a commit of the list names none afterwards
  pub root_of_empty : (h cs : List (Commit E)) (i : ℕ) (c : Commit E) → ((j : ℕ) (d : Commit E) → slice_get cs j ≡ Some d → d.named.chain ≡ [])
      → slice_get cs i ≡ Some c → (root_of (h ++ cs) c.root).chain ≡ []
  root_of_empty h cs i c empty at = ap (λ (n : Named). n.chain) (named_after-append c.root empty_named h cs) ∙ after_empty c.root (root_of h c.root) cs i c empty at refl
