-- The laws of commits without a number to roots that stood for nothing.
use Rattle.std.proofs.Common.{◌≡◌, ◌≢◌, ℕ, suc, ◌+◌, ◌≤◌, ◌⊎◌, inl, inr, List, [], ◌∷◌, ◌++◌, length, take, Option, Some, None, refl, ap, sym, ◌∙◌, subst, arith, append_assoc, length-append}
use mathlib.Core.List.{append-nil}
use Rattle.store_history.specs.declared.history.Commit.{Commit}
use Rattle.store_history.specs.declared.history.Named.{Named}
use Rattle.store_history.specs.History.{root_of, edits_of}
use Rattle.store_history.proofs.Lists.{get_take}
use Rattle.store_history.proofs.Histories.{root_other}
use Rattle.hook_law.specs.Places.{head_root, mask_root}
use Rattle.hook_law.specs.Records.{Codec}
use Rattle.hook_law.specs.Chains.{read_all, read_first}
use Rattle.hook_law.specs.Meaning.{Meaning, point_of, now_of, IsLive}
use Rattle.hook_law.specs.Standing.{Role, Head, Mask, Bucket, PutsAction, IsSlotOf, Stands, IsUnused}
use Rattle.hook_law.specs.Telling.{Tells}
use Rattle.hook_law.specs.Keeping.{IsStamped, Present, Keeps}
use Rattle.hook_law.specs.Unnumbered.{Spares, SparesAll, EmptiesAll}
use Rattle.hook_law.proofs.Growing.{edits_still, now_still}
use Rattle.hook_law.proofs.Standing.{SameHeads, SameMasks, Follows, mask_back, slot_longer, slot_push, stands_back, present_end, unused_end, unused_push}
use Rattle.hook_law.proofs.Adding.{adds_keep}

module _ {E S N P : Type 0} (K : Meaning E S N P) (R : Codec N P) where
  -- the commit's root is no root at which something stands
  spare_unlike : (h : List (Commit E)) (b : ℕ) (c : Commit E) (r : ℕ) (x : Role) → b ≤ length h → Spares K R b h c → Stands K R h r x → c.root ≢ r
  spare_unlike h b c r x low w s is = unused_end K R h b c.root x low w.unused (subst (λ (z : ℕ). Stands K R h z x) (sym is) s)

  pub spare_heads : (h : List (Commit E)) (b : ℕ) (c : Commit E) → b ≤ length h → Spares K R b h c → SameHeads R h (h ++ c ∷ [])
  spare_heads h b c low w hook one = root_other h c (head_root hook) (spare_unlike h b c (head_root hook) (Head hook) low w (one, refl))

  pub spare_masks : (h : List (Commit E)) (b : ℕ) (c : Commit E) → b ≤ length h → Spares K R b h c → SameMasks R h (h ++ c ∷ [])
  spare_masks h b c low w m slot at = root_other h c (mask_root slot) (spare_unlike h b c (mask_root slot) (Mask m) low w (slot, at, refl))

  spare_follows : (h : List (Commit E)) (b : ℕ) (c : Commit E) → b ≤ length h → Keeps K R h b → Spares K R b h c → Follows K R h (h ++ c ∷ [])
  spare_follows h b c low k w = record {
    heads = spare_heads h b c low w;
    masks = spare_masks h b c low w;
    live = live;
    slots = λ a slot x l. known a slot (live a l) (slot_push R h c a slot x);
  }
    where
      live : (a : ℕ) → IsLive K (now_of K (h ++ c ∷ [])) a → IsLive K (now_of K h) a
      live a l = subst (λ (s : S). IsLive K s a) (now_still K h c w.plain) l

      known : (a slot : ℕ) → IsLive K (now_of K h) a → IsSlotOf R h a slot ⊎ PutsAction R c a slot → IsSlotOf R h a slot
      known a slot l (inl x) = x
      known a slot l (inr puts) = let o = (present_end K R h b low k).placed a l in absurd (w.first a slot o.0 puts o.1)

  -- nothing comes to stand
  pub spare_back : (h : List (Commit E)) (b : ℕ) (c : Commit E) → b ≤ length h → Keeps K R h b → Spares K R b h c → (r : ℕ) (x : Role)
      → Stands K R (h ++ c ∷ []) r x → Stands K R h r x
  spare_back h b c low k w r x s = stands_back K R h (h ++ c ∷ []) r x (spare_follows h b c low k w) s

  pub spare_keeps : (h : List (Commit E)) (b : ℕ) (c : Commit E) → b ≤ length h → Keeps K R h b → Spares K R b h c → Keeps K R (h ++ c ∷ []) b
  spare_keeps h b c low k w = adds_keep K R h b c low k record {
    lawful = subst K.Lawful (sym still) p.lawful;
    stamped = subst (λ (z : Option (ℕ × E)). IsStamped (point_of h) z c.named.stamp) (sym w.plain) w.stamp;
    comes = λ r x s. inl (back r x s);
    tells = λ r x s. let old = back r x s in subst (λ (z : List E). Tells K R z x (root_of (h ++ c ∷ []) r) (length z)) (sym still)
        (subst (λ (z : Named). Tells K R (edits_of h) x z (point_of h)) (sym (root_other h c r (spare_unlike h b c r x low w old))) (p.tells r x old));
    alone = λ n x lown le s. absurd (w.unused n x lown le s);
    new_apart = λ r x y u s t. absurd (unused_end K R h b r x low u (back r x s));
    slots = λ r q i fs f x s read inf inx. let old = back r (Bucket q i) s in
        slot_longer R h (c ∷ []) x.serial x.slot (p.slots r q i fs f x old (subst (λ (z : Named). read_all R.filter z.chain ≡ Some fs) (root_other h c r (spare_unlike h b c r (Bucket q i) low w old)) read) inf inx);
    one_slot = λ a s t x y. one a s t (slot_push R h c a s x) (slot_push R h c a t y);
    one_mask = λ m s t x y. p.one_mask m s t (mask_back R h (h ++ c ∷ []) m s heads x) (mask_back R h (h ++ c ∷ []) m t heads y);
    placed = λ a live. let o = p.placed a (subst (λ (s : S). IsLive K s a) (now_still K h c w.plain) live) in (o.0, slot_longer R h (c ∷ []) a o.0 o.1);
  }
    where
      p : Present K R h
      p = present_end K R h b low k

      still : edits_of (h ++ c ∷ []) ≡ edits_of h
      still = edits_still h c w.plain

      heads : SameHeads R h (h ++ c ∷ [])
      heads = spare_heads h b c low w

      back : (r : ℕ) (x : Role) → Stands K R (h ++ c ∷ []) r x → Stands K R h r x
      back r x s = spare_back h b c low k w r x s

      one : (a s t : ℕ) → IsSlotOf R h a s ⊎ PutsAction R c a s → IsSlotOf R h a t ⊎ PutsAction R c a t → s ≡ t
      one a s t (inl x) (inl y) = p.one_slot a s t x y
      one a s t (inl x) (inr y) = absurd (w.first a t s y x)
      one a s t (inr x) (inl y) = absurd (w.first a s t x y)
      one a s t (inr x) (inr y) = let p = x.root in let q = y.root in omega arith

  pub spare_unused : (h : List (Commit E)) (b : ℕ) (c : Commit E) (r : ℕ) → b ≤ length h → Keeps K R h b → Spares K R b h c → IsUnused K R b h r
      → IsUnused K R b (h ++ c ∷ []) r
  spare_unused h b c r low k w u = unused_push K R h b c r (λ x s. unused_end K R h b r x low u (spare_back h b c low k w r x s)) u

  -- a commit after h with no number and other actions is such a one after d too
  spare_next : (h : List (Commit E)) (b : ℕ) (d c : Commit E) → b ≤ length h → Keeps K R h b → Spares K R b h d → Spares K R b h c
      → ((a s t : ℕ) → PutsAction R d a s → PutsAction R c a t → ⊥) → Spares K R b (h ++ d ∷ []) c
  spare_next h b d c low k one w once = record {
    plain = w.plain;
    stamp = subst (λ (z : List E). (c.named.stamp ≡ length z) ⊎ (c.named.stamp ≡ length z + 1)) (sym (edits_still h d one.plain)) w.stamp;
    unused = spare_unused h b d c.root low k one w.unused;
    first = λ a slot before puts x. first a slot before puts (slot_push R h d a before x);
  }
    where
      first : (a slot before : ℕ) → PutsAction R c a slot → IsSlotOf R h a before ⊎ PutsAction R d a before → ⊥
      first a slot before puts (inl x) = w.first a slot before puts x
      first a slot before puts (inr x) = once a before slot x puts

  pub spares_next : (h : List (Commit E)) (b : ℕ) (d : Commit E) (ds : List (Commit E)) → b ≤ length h → Keeps K R h b → SparesAll K R b h (d ∷ ds)
      → SparesAll K R b (h ++ d ∷ []) ds
  spares_next h b d ds low k w = record {
    each = λ j c at. spare_next h b d c low k (w.each 0 d refl) (w.each (suc j) c at) (λ a s t x y. w.once 0 (suc j) d c a s t (omega arith) refl at x y);
    once = λ i j c e a s t less at at' x y. w.once (suc i) (suc j) c e a s t (omega arith) at at' x y;
  }

  -- what holds of a list of such commits
  pub record Spared (b : ℕ) (h cs : List (Commit E)) : Type 0 where
    pub keeps : Keeps K R (h ++ cs) b
    pub edits : edits_of (h ++ cs) ≡ edits_of h
    pub back : (r : ℕ) (x : Role) → Stands K R (h ++ cs) r x → Stands K R h r x
    pub unused : (r : ℕ) → IsUnused K R b h r → IsUnused K R b (h ++ cs) r

  spared_none : (h : List (Commit E)) (b : ℕ) → Keeps K R h b → Spared b h []
  spared_none h b k = let same : h ≡ h ++ [] = sym (append-nil h) in record {
    keeps = subst (λ (z : List (Commit E)). Keeps K R z b) same k;
    edits = ap edits_of (append-nil h);
    back = λ r x s. subst (λ (z : List (Commit E)). Stands K R z r x) (append-nil h) s;
    unused = λ r u. subst (λ (z : List (Commit E)). IsUnused K R b z r) same u;
  }

  spared_one : (h : List (Commit E)) (b : ℕ) (d : Commit E) (ds : List (Commit E)) → b ≤ length h → Keeps K R h b → Spares K R b h d
      → Spared b (h ++ d ∷ []) ds → Spared b h (d ∷ ds)
  spared_one h b d ds low k one rest = let same = append_assoc h (d ∷ []) ds in record {
    keeps = subst (λ (z : List (Commit E)). Keeps K R z b) same rest.keeps;
    edits = sym (ap edits_of same) ∙ (rest.edits ∙ edits_still h d one.plain);
    back = λ r x s. spare_back h b d low k one r x (rest.back r x (subst (λ (z : List (Commit E)). Stands K R z r x) (sym same) s));
    unused = λ r u. subst (λ (z : List (Commit E)). IsUnused K R b z r) same (rest.unused r (spare_unused h b d r low k one u));
  }

  pub spares_keep : (cs h : List (Commit E)) (b : ℕ) → b ≤ length h → Keeps K R h b → SparesAll K R b h cs → Spared b h cs
  spares_keep [] h b low k w = spared_none h b k
  spares_keep (d ∷ ds) h b low k w = let one = w.each 0 d refl in
      spared_one h b d ds low k one (spares_keep ds (h ++ d ∷ []) b (omega (arith, length-append h (d ∷ []))) (spare_keeps h b d low k one) (spares_next h b d ds low k w))

  -- the beginning of such a list is one
  pub spares_take : (h : List (Commit E)) (b : ℕ) (cs : List (Commit E)) (n : ℕ) → SparesAll K R b h cs → SparesAll K R b h (take n cs)
  spares_take h b cs n w = record {
    each = λ j c at. w.each j c (get_take cs n j c at);
    once = λ i j c d a s t less at at' x y. w.once i j c d a s t less (get_take cs n i c at) (get_take cs n j d at') x y;
  }

  -- an empty chain puts no action
  empty_puts : (c : Commit E) (a slot : ℕ) → c.named.chain ≡ [] → PutsAction R c a slot → ⊥
  empty_puts c a slot empty puts = let none : read_first R.action c.named.chain ≡ None = ap (read_first R.action) empty in let some = puts.read in cc (none, some)

  pub empties_spare : (h cs : List (Commit E)) (b : ℕ) → EmptiesAll K R b h cs → SparesAll K R b h cs
  empties_spare h cs b w = record {
    each = λ j c at. let e = w j c at in record { plain = e.plain; stamp = e.stamp; unused = e.unused; first = λ a slot before puts x. empty_puts c a slot e.chain puts };
    once = λ i j c d a s t less at at' x y. empty_puts c a s (w i c at).chain x;
  }
