-- What a root tells, at more points.
use Rattle.std.proofs.Common.{◌≡◌, ℕ, ◌+◌, ◌-◌, ◌≤◌, List, [], ◌∷◌, ◌++◌, length, take, drop, Some, ap, sym, ◌∙◌, subst, arith, le_refl, length-append}
use mathlib.Core.Logic.{dite}
use native.Mathlib.Decide.{dec_le}
use Rattle.store_history.specs.declared.history.Link.{Link}
use Rattle.store_history.specs.declared.history.Commit.{Commit}
use Rattle.store_history.specs.declared.history.Named.{Named}
use Rattle.store_history.specs.History.{edits_of}
use Rattle.hook_law.specs.Records.{Codec}
use Rattle.hook_law.specs.Meaning.{Meaning, point_of, state_at, now_of, before_of, next_of}
use Rattle.hook_law.specs.Standing.{Role}
use Rattle.hook_law.specs.Telling.{Reads, Tells}
use Rattle.hook_law.proofs.Growing.{edits_more, edits_parts, state_stable, state_pushed}

module _ {E S N P : Type 0} (K : Meaning E S N P) (R : Codec N P) where
  pub reads_at : (x : Role) (chain : List Link) (a b c d : S) → a ≡ c → b ≡ d → Reads K R x chain a b → Reads K R x chain c d
  reads_at x chain a b c d p q t = subst (λ (z : S). Reads K R x chain z d) p (subst (λ (z : S). Reads K R x chain a z) q t)

  -- edits behind the point change nothing
  pub tells_longer : (edits more : List E) (x : Role) (n : Named) (point : ℕ) → point ≤ length edits → Tells K R edits x n point
      → Tells K R (edits ++ more) x n point
  tells_longer edits more x n point le t = record {
    early = t.early;
    reads = λ k low high. reads_at x n.chain _ _ _ _ (sym (state_stable K edits more (k - 1) (omega arith))) (sym (state_stable K edits more k (omega arith))) (t.reads k low high);
  }

  -- a root with the point as stamp tells that point alone
  pub tells_once : (edits : List E) (x : Role) (n : Named) (point : ℕ) → n.stamp ≡ point
      → Reads K R x n.chain (state_at K edits (point - 1)) (state_at K edits point) → Tells K R edits x n point
  tells_once edits x n point is t = record {
    early = omega arith;
    reads = λ k low high. let same : point ≡ k = omega arith in
        reads_at x n.chain _ _ _ _ (ap (λ (z : ℕ). state_at K edits (z - 1)) same) (ap (state_at K edits) same) t;
  }

  now_before : (edits : List E) (y : E) → state_at K edits (length edits) ≡ state_at K (edits ++ y ∷ []) (length edits + 1 - 1)
  now_before edits y = let one : length edits ≡ length edits + 1 - 1 = omega arith in
      sym (state_stable K edits (y ∷ []) (length edits) (le_refl (length edits))) ∙ ap (state_at K (edits ++ y ∷ [])) one

  -- where the next edit leaves the root's content, the root tells the next point too
  tells_next : (edits : List E) (y : E) (x : Role) (n : Named) → Tells K R edits x n (length edits)
      → (Reads K R x n.chain (state_at K edits (length edits - 1)) (state_at K edits (length edits)) → Reads K R x n.chain (state_at K edits (length edits)) (K.step (state_at K edits (length edits)) y))
      → Tells K R (edits ++ y ∷ []) x n (length edits + 1)
  tells_next edits y x n t more = let up = t.early in record {
    early = omega arith;
    reads = λ k low high. dite (dec_le k (length edits))
        (λ (le : k ≤ length edits). (tells_longer edits (y ∷ []) x n (length edits) (le_refl (length edits)) t).reads k low le)
        (λ (gt : k ≤ length edits → ⊥). let is : length edits + 1 ≡ k = omega arith in
        reads_at x n.chain _ _ _ _ (now_before edits y ∙ ap (λ (z : ℕ). state_at K (edits ++ y ∷ []) (z - 1)) is) (sym (state_pushed K edits y k (omega arith)))
        (more (t.reads (length edits) up (le_refl (length edits)))));
  }

  to_point : (h : List (Commit E)) (c : Commit E) (number : ℕ) (y : E) (x : Role) (n : Named) → c.edit ≡ Some (number, y)
      → Tells K R (edits_of h ++ y ∷ []) x n (point_of h + 1) → Tells K R (edits_of (h ++ c ∷ [])) x n (point_of (h ++ c ∷ []))
  to_point h c number y x n is t = subst (λ (z : List E). Tells K R z x n (length z)) (sym (edits_more h c number y is))
      (subst (λ (z : ℕ). Tells K R (edits_of h ++ y ∷ []) x n z) (sym (length-append (edits_of h) (y ∷ []))) t)

  -- the same, said of a history and its next commit
  pub tells_on : (h : List (Commit E)) (c : Commit E) (number : ℕ) (y : E) (x : Role) (n : Named) → c.edit ≡ Some (number, y)
      → Tells K R (edits_of h) x n (point_of h)
      → (Reads K R x n.chain (before_of K h) (now_of K h) → Reads K R x n.chain (now_of K h) (next_of K h y))
      → Tells K R (edits_of (h ++ c ∷ [])) x n (point_of (h ++ c ∷ []))
  tells_on h c number y x n is t more = to_point h c number y x n is (tells_next (edits_of h) y x n t more)

  -- a root that the next edit's number stamps tells the next point alone
  pub tells_new : (h : List (Commit E)) (c : Commit E) (number : ℕ) (y : E) (x : Role) (n : Named) → c.edit ≡ Some (number, y)
      → n.stamp ≡ point_of h + 1
      → Reads K R x n.chain (now_of K h) (next_of K h y) → Tells K R (edits_of (h ++ c ∷ [])) x n (point_of (h ++ c ∷ []))
  tells_new h c number y x n is stamp t = to_point h c number y x n is
      (tells_once (edits_of h ++ y ∷ []) x n (point_of h + 1) stamp
      (reads_at x n.chain _ _ _ _ (now_before (edits_of h) y) (sym (state_pushed K (edits_of h) y (point_of h + 1) (omega arith))) t))

  -- said in the states of the whole history
  pub tells_all : (h : List (Commit E)) (q : ℕ) (x : Role) (n : Named) → Tells K R (edits_of (take q h)) x n (point_of (take q h))
      → Tells K R (edits_of h) x n (point_of (take q h))
  tells_all h q x n t = subst (λ (z : List E). Tells K R z x n (point_of (take q h))) (sym (edits_parts q h))
      (tells_longer (edits_of (take q h)) (edits_of (drop q h)) x n (point_of (take q h)) (le_refl (point_of (take q h))) t)
