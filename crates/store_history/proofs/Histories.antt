-- What the roots name after the commits of a history, and after those of a longer one.
use Rattle.std.proofs.Common.{◌≡◌, ◌≢◌, ℕ, ◌≤◌, ◌⊎◌, inl, inr, Bool, true, false, cond, eqb, List, [], ◌∷◌, ◌++◌, length, take, slice_get, Some, refl, ap, sym, ◌∙◌, subst, arith, append_assoc, length-append, eq-eqb, ne_eqb, le_trans, le_refl, zero-le}
use mathlib.Core.List.{IsPrefix, append-nil}
use mathlib.Core.Logic.{dite}
use native.Mathlib.Decide.{dec_le}
use Rattle.std.proofs.lemmas.List.{take-append-le, take_all}
use Rattle.store_history.specs.declared.history.Link.{Link}
use Rattle.store_history.specs.declared.history.Commit.{Commit}
use Rattle.store_history.specs.declared.history.Named.{Named}
use Rattle.store_history.specs.History.{named_after, empty_named, root_of, first_block, IsNamed, IsLinked}

module _ {A : Type 0} where
  pub prefix_self : (xs : List A) → IsPrefix xs xs
  prefix_self xs = ([], append-nil xs)

  pub prefix_none : (xs : List A) → IsPrefix [] xs
  prefix_none xs = (xs, refl)

  pub prefix_trans : (xs ys zs : List A) → IsPrefix xs ys → IsPrefix ys zs → IsPrefix xs zs
  prefix_trans xs ys zs p q = (p.0 ++ q.0, sym (append_assoc xs p.0 q.0) ∙ (ap (λ w. w ++ q.0) p.1 ∙ q.1))

  pub prefix_push : (xs ys : List A) (a : A) → IsPrefix xs ys → IsPrefix xs (ys ++ a ∷ [])
  prefix_push xs ys a p = prefix_trans xs ys (ys ++ a ∷ []) p (a ∷ [], refl)

  pub prefix_length : (xs ys : List A) → IsPrefix xs ys → length xs ≤ length ys
  prefix_length xs ys p = omega (arith, sym (ap length p.1) ∙ length-append xs p.0)

  pub prefix_take : (xs ys : List A) (n : ℕ) → IsPrefix xs ys → n ≤ length xs → take n ys ≡ take n xs
  prefix_take xs ys n p h = ap (take n) (sym p.1) ∙ take-append-le n xs p.0 h

module _ {E : Type 0} where
  pub named_after-append : (r : ℕ) (n : Named) (xs ys : List (Commit E)) → named_after r n (xs ++ ys) ≡ named_after r (named_after r n xs) ys
  named_after-append r n [] ys = refl
  named_after-append r n (c ∷ cs) ys = named_after-append r (cond (eqb c.root r) c.named n) cs ys

  pub root_push : (h : List (Commit E)) (c : Commit E) (r : ℕ) → root_of (h ++ c ∷ []) r ≡ cond (eqb c.root r) c.named (root_of h r)
  root_push h c r = named_after-append r empty_named h (c ∷ [])

  -- what was named stays named after n commits
  pub named_longer : (b : ℕ) (h g : List (Commit E)) (l : Link) → IsPrefix h g → IsNamed b h l → IsNamed b g l
  named_longer b h g l p w = let long = prefix_length h g p in let m = w.made in record {
    after = w.after;
    root = w.root;
    place = w.place;
    late = w.late;
    made = omega arith;
    there = subst (λ (x : List (Commit E)). slice_get (root_of x w.root).chain w.place ≡ Some l) (sym (prefix_take h g w.after p w.made)) w.there;
  }

  -- what is named after one more commit was named before, or is in its chain
  pub named_push : (b : ℕ) (h : List (Commit E)) (c : Commit E) (l : Link) → b ≤ length h → IsNamed b (h ++ c ∷ []) l → IsNamed b h l ⊎ ((k : ℕ) × (slice_get c.named.chain k ≡ Some l))
  named_push b h c l low w = dite (dec_le w.after (length h))
      (λ (le : w.after ≤ length h). inl record {
        after = w.after;
        root = w.root;
        place = w.place;
        late = w.late;
        made = le;
        there = subst (λ (x : List (Commit E)). slice_get (root_of x w.root).chain w.place ≡ Some l) (take-append-le w.after h (c ∷ []) le) w.there;
      })
      (λ (gt : w.after ≤ length h → ⊥).
      let whole : take w.after (h ++ c ∷ []) ≡ h ++ c ∷ [] = take_all w.after (h ++ c ∷ []) (omega (arith, length-append h (c ∷ []))) in
      let there : slice_get (root_of (h ++ c ∷ []) w.root).chain w.place ≡ Some l = subst (λ (x : List (Commit E)). slice_get (root_of x w.root).chain w.place ≡ Some l) whole w.there in
      pick (eqb c.root w.root) (subst (λ (x : Named). slice_get x.chain w.place ≡ Some l) (root_push h c w.root) there))
    where
      pick : (t : Bool) → slice_get (cond t c.named (root_of h w.root)).chain w.place ≡ Some l → IsNamed b h l ⊎ ((k : ℕ) × (slice_get c.named.chain k ≡ Some l))
      pick true e = inr (w.place, e)
      pick false e = inl record {
        after = length h;
        root = w.root;
        place = w.place;
        late = low;
        made = omega arith;
        there = subst (λ (x : List (Commit E)). slice_get (root_of x w.root).chain w.place ≡ Some l) (sym (take_all (length h) h (omega arith))) e;
      }

  -- the chains are linked after one more commit with such a chain
  pub linked_push : (width : ℕ) (h : List (Commit E)) (c : Commit E) → ((n r : ℕ) → n ≤ length h → IsLinked width (root_of (take n h) r).chain) → IsLinked width c.named.chain
      → (n r : ℕ) → n ≤ length (h ++ c ∷ []) → IsLinked width (root_of (take n (h ++ c ∷ [])) r).chain
  linked_push width h c old new n r le = dite (dec_le n (length h))
      (λ (l : n ≤ length h). subst (λ (x : List (Commit E)). IsLinked width (root_of x r).chain) (sym (take-append-le n h (c ∷ []) l)) (old n r l))
      (λ (g : n ≤ length h → ⊥). subst (λ (x : List (Commit E)). IsLinked width (root_of x r).chain) (sym (take_all n (h ++ c ∷ []) (omega (arith, length-append h (c ∷ [])))))
      (subst (λ (x : Named). IsLinked width x.chain) (sym (root_push h c r)) (pick (eqb c.root r))))
    where
      pick : (t : Bool) → IsLinked width (cond t c.named (root_of h r)).chain
      pick true = new
      pick false = subst (λ (x : List (Commit E)). IsLinked width (root_of x r).chain) (take_all (length h) h (omega arith)) (old (length h) r (omega arith))

  -- a block that is named since c is named since b, where b is no later
  pub named_later : (b c : ℕ) (h : List (Commit E)) (l : Link) → b ≤ c → IsNamed c h l → IsNamed b h l
  named_later b c h l le n = record { after = n.after; root = n.root; place = n.place; late = le_trans le n.late; made = n.made; there = n.there }

  pub root_own : (h : List (Commit E)) (c : Commit E) → root_of (h ++ c ∷ []) c.root ≡ c.named
  root_own h c = root_push h c c.root ∙ ap (λ (b : Bool). cond b c.named (root_of h c.root)) (eq-eqb c.root c.root refl)

  pub root_other : (h : List (Commit E)) (c : Commit E) (r : ℕ) → c.root ≢ r → root_of (h ++ c ∷ []) r ≡ root_of h r
  root_other h c r ne = root_push h c r ∙ ap (λ (b : Bool). cond b c.named (root_of h r)) (ne_eqb c.root r ne)

  pub nothing_named : (b : ℕ) (l : Link) → IsNamed {E = E} b [] l → ⊥
  nothing_named b l n = let e : slice_get (root_of (take n.after []) n.root).chain n.place ≡ Some l = n.there in
      absurd (cc (subst (λ (h : List (Commit E)). slice_get (root_of h n.root).chain n.place ≡ Some l) (take_all n.after [] zero-le) e))

  -- what a root names at the end is named since any moment before
  pub named_at_end : (b : ℕ) (h : List (Commit E)) (r place : ℕ) (l : Link) → b ≤ length h → slice_get (root_of h r).chain place ≡ Some l → IsNamed b h l
  named_at_end b h r place l low e = record {
    after = length h;
    root = r;
    place = place;
    late = low;
    made = le_refl (length h);
    there = subst (λ (x : List (Commit E)). slice_get (root_of x r).chain place ≡ Some l) (sym (take_all (length h) h (le_refl (length h)))) e;
  }

-- the first block of a chain, by its number
pub first_link : (ls : List Link) (b : ℕ) → first_block ls ≡ Some b → (l : Link) × (slice_get ls 0 ≡ Some l) × (l.block ≡ b)
first_link [] b e = absurd (cc e)
first_link (l ∷ ls) b e = (l, refl, cc e)
