-- What stands after more commits stood before, where the roots that it hangs on are the same.
use Rattle.std.proofs.Common.{◌≡◌, ℕ, suc, ◌<◌, ◌≤◌, ◌⊎◌, inl, inr, List, [], ◌∷◌, ◌++◌, length, take, slice_get, Some, sym, ◌∙◌, subst, arith, length-append, le_refl}
use mathlib.Core.Logic.{dite}
use native.Mathlib.Decide.{dec_le}
use Rattle.std.proofs.lemmas.List.{take-append-le, take_all}
use Rattle.std.proofs.lemmas.Option.{slice_get_within}
use Rattle.store_history.specs.declared.history.Commit.{Commit}
use Rattle.store_history.specs.declared.history.Named.{Named}
use Rattle.store_history.specs.History.{root_of}
use Rattle.hook_law.specs.Places.{hooks, marker_root, head_root, mask_root}
use Rattle.hook_law.specs.Records.{Codec}
use Rattle.hook_law.specs.Chains.{read_first}
use Rattle.hook_law.specs.Meaning.{Meaning, now_of, IsLive}
use Rattle.hook_law.specs.Standing.{Region, Role, Head, Mask, Bucket, Action, Names, IsMaskAt, IsRowAt, PutsAction, IsSlotOf, Stands, IsUnused}
use Rattle.hook_law.specs.Keeping.{Present, Keeps}
use Rattle.store_history.proofs.Lists.{get_before, get_last}

module _ {E N P : Type 0} (R : Codec N P) where
  -- the heads' roots, and those of the masks that stand after g, are after h as after g
  abbrev pub SameHeads : List (Commit E) → List (Commit E) → Type 0
  SameHeads g h = (hook : ℕ) → hook < hooks → root_of h (head_root hook) ≡ root_of g (head_root hook)

  abbrev pub SameMasks : List (Commit E) → List (Commit E) → Type 0
  SameMasks g h = (m slot : ℕ) → IsMaskAt R g m slot → root_of h (mask_root slot) ≡ root_of g (mask_root slot)

  pub mask_back : (g h : List (Commit E)) (m slot : ℕ) → SameHeads g h → IsMaskAt R h m slot → IsMaskAt R g m slot
  mask_back g h m slot same at = record {
    hook = at.hook;
    one = at.one;
    small = at.small;
    there = subst (λ (z : Named). Names R z.chain m slot) (same at.hook at.one) at.there;
  }

  pub row_back : (g h : List (Commit E)) (q : Region) (k row : ℕ) → IsMaskAt R g q.mask q.slot
      → root_of h (mask_root q.slot) ≡ root_of g (mask_root q.slot) → IsRowAt R h q k row → IsRowAt R g q k row
  row_back g h q k row low same at = record {
    mask = at.mask;
    at_mask = low;
    read = subst (λ (z : Named). read_first R.mask z.chain ≡ Some at.mask) same at.read;
    stamped = subst (λ (z : Named). z.stamp ≡ q.stamp) same at.stamped;
    sized = at.sized;
    inside = at.inside;
    there = at.there;
    small = at.small;
  }

  pub bucket_back : (g h : List (Commit E)) (q : Region) (k row : ℕ) → SameHeads g h → SameMasks g h → IsRowAt R h q k row → IsRowAt R g q k row
  bucket_back g h q k row heads masks at = let low = mask_back g h q.mask q.slot heads at.at_mask in row_back g h q k row low (masks q.mask q.slot low) at

  pub slot_longer : (h more : List (Commit E)) (a slot : ℕ) → IsSlotOf R h a slot → IsSlotOf R (h ++ more) a slot
  slot_longer h more a slot w = record {
    place = w.place;
    commit = w.commit;
    there = get_before h more w.place (slice_get_within h w.place w.commit w.there) ∙ w.there;
    puts = w.puts;
  }

  pub slot_here : (h : List (Commit E)) (c : Commit E) (a slot : ℕ) → PutsAction R c a slot → IsSlotOf R (h ++ c ∷ []) a slot
  slot_here h c a slot puts = record { place = length h; commit = c; there = get_last h c; puts = puts }

  -- a slot after one more commit was one before, or that commit gives it
  pub slot_push : (h : List (Commit E)) (c : Commit E) (a slot : ℕ) → IsSlotOf R (h ++ c ∷ []) a slot → IsSlotOf R h a slot ⊎ PutsAction R c a slot
  slot_push h c a slot w = dite (dec_le (suc w.place) (length h))
      (λ (le : suc w.place ≤ length h). inl record { place = w.place; commit = w.commit; there = sym (get_before h (c ∷ []) w.place le) ∙ w.there; puts = w.puts })
      (λ (gt : suc w.place ≤ length h → ⊥).
      let is : w.place ≡ length h = omega (arith, slice_get_within (h ++ c ∷ []) w.place w.commit w.there, length-append h (c ∷ [])) in
      let e = get_last h c in let f : slice_get (h ++ c ∷ []) (length h) ≡ Some w.commit = rw (← is) w.there in let same : w.commit ≡ c = cc (e, f) in
      inr (subst (λ (z : Commit E). PutsAction R z a slot) same w.puts))

module _ {E S N P : Type 0} (K : Meaning E S N P) (R : Codec N P) where
  -- what stands after h stood after g
  pub record Follows (g h : List (Commit E)) : Type 0 where
    pub heads : SameHeads R g h
    pub masks : SameMasks R g h
    pub live : (a : ℕ) → IsLive K (now_of K h) a → IsLive K (now_of K g) a
    pub slots : (a slot : ℕ) → IsSlotOf R h a slot → IsLive K (now_of K h) a → IsSlotOf R g a slot

  pub stands_back : (g h : List (Commit E)) (r : ℕ) (x : Role) → Follows g h → Stands K R h r x → Stands K R g r x
  stands_back g h r (Head hook) f s = s
  stands_back g h r (Mask m) f s = (s.0, mask_back R g h m s.0 f.heads s.1, s.2)
  stands_back g h r (Bucket q k) f s = (s.0, bucket_back R g h q k s.0 f.heads f.masks s.1, s.2)
  stands_back g h r (Action a) f s = (s.0, f.slots a s.0 s.1 s.3, s.2, f.live a s.3)

  pub at_end : (h : List (Commit E)) (r : ℕ) (x : Role) → Stands K R h r x → Stands K R (take (length h) h) r x
  at_end h r x s = subst (λ (z : List (Commit E)). Stands K R z r x) (sym (take_all (length h) h (le_refl (length h)))) s

  pub present_end : (h : List (Commit E)) (b : ℕ) → b ≤ length h → Keeps K R h b → Present K R h
  present_end h b low k = subst (Present K R) (take_all (length h) h (le_refl (length h))) (k.present (length h) low (le_refl (length h)))

  -- what stood at the root since b is what stands there now
  pub since_stood : (h : List (Commit E)) (b n r : ℕ) (x y : Role) → Keeps K R h b → b ≤ n → n ≤ length h → Stands K R (take n h) r x
      → Stands K R h r y → x ≡ y
  since_stood h b n r x y k low high s t = k.apart n (length h) r x y low high (le_refl (length h)) s (at_end h r y t)

  pub unused_end : (h : List (Commit E)) (b r : ℕ) (x : Role) → b ≤ length h → IsUnused K R b h r → Stands K R h r x → ⊥
  unused_end h b r x low u s = u (length h) x low (le_refl (length h)) (at_end h r x s)

  pub unused_rises : (h : List (Commit E)) (b c r : ℕ) → b ≤ c → IsUnused K R b h r → IsUnused K R c h r
  unused_rises h b c r le u n x low high s = u n x (omega arith) high s

  -- a root at which nothing stands is unused from there on
  pub gone_unused : (h : List (Commit E)) (r : ℕ) → ((x : Role) → Stands K R h r x → ⊥) → IsUnused K R (length h) h r
  gone_unused h r gone n x low high s = gone x (subst (λ (z : List (Commit E)). Stands K R z r x) (take_all n h low) s)

  pub unused_push : (h : List (Commit E)) (b : ℕ) (c : Commit E) (r : ℕ) → ((x : Role) → Stands K R (h ++ c ∷ []) r x → ⊥) → IsUnused K R b h r
      → IsUnused K R b (h ++ c ∷ []) r
  unused_push h b c r none u n x low le s = dite (dec_le n (length h))
      (λ (l : n ≤ length h). u n x low l (subst (λ (z : List (Commit E)). Stands K R z r x) (take-append-le n h (c ∷ []) l) s))
      (λ (g : n ≤ length h → ⊥). none x (subst (λ (z : List (Commit E)). Stands K R z r x) (take_all n (h ++ c ∷ []) (omega (arith, length-append h (c ∷ [])))) s))

  -- nothing ever stands at the marker root
  pub marker_free : (h : List (Commit E)) (x : Role) → Stands K R h marker_root x → ⊥
  marker_free h (Head i) s = let e = s.1 in absurd (omega arith)
  marker_free h (Mask m) s = let e = s.2 in absurd (omega arith)
  marker_free h (Bucket q k) s = let e = s.2 in absurd (omega arith)
  marker_free h (Action a) s = let e = s.2 in absurd (omega arith)
