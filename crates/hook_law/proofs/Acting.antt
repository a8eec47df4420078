-- The laws of commits to an action's root.
use Rattle.std.proofs.Common.{◌≡◌, ◌≢◌, ℕ, ◌+◌, ◌≤◌, ◌⊎◌, inl, inr, Bool, true, false, eqb, List, [], ◌∷◌, ◌++◌, length, refl, ap, sym, ◌∙◌, subst, arith}
use Rattle.store_history.specs.declared.history.Commit.{Commit}
use Rattle.store_history.specs.History.{root_of}
use Rattle.hook_law.specs.Places.{action_root}
use Rattle.hook_law.specs.Records.{ActionRecord, Codec}
use Rattle.hook_law.specs.Chains.{bucket_of}
use Rattle.hook_law.specs.Meaning.{Meaning, point_of, now_of, before_of, next_of, IsLive}
use Rattle.hook_law.specs.Standing.{Role, Head, Mask, Bucket, Action, PutsAction, IsSlotOf, Stands}
use Rattle.hook_law.specs.Telling.{Reads}
use Rattle.hook_law.specs.Keeping.{IsAtRest, Present, Keeps}
use Rattle.hook_law.specs.Changes.{TouchesAction}
use Rattle.hook_law.specs.Numbered.{MakesAction, ChangesAction}
use Rattle.hook_law.specs.Coming.{IsMade}
use Rattle.store_history.proofs.Lists.{some_is}
use Rattle.hook_law.proofs.Growing.{now_next}
use Rattle.hook_law.proofs.Standing.{slot_longer, slot_here, slot_push, present_end, unused_end}
use Rattle.hook_law.proofs.Writing.{put_live, Writes, HereOld, write_keeps, write_other, write_itself}
use Rattle.hook_law.proofs.Staying.{head_stays, mask_stays, bucket_stays}

module _ {E S N P : Type 0} (K : Meaning E S N P) (R : Codec N P) where
  -- what is no root of the action that the edit touches goes on telling
  touch_leaves : (h : List (Commit E)) (y : E) (a r : ℕ) (x : Role) → IsAtRest K R h → TouchesAction K (now_of K h) (next_of K h y) a → x ≢ Action a
      → Stands K R h r x
      → Reads K R x (root_of h r).chain (before_of K h) (now_of K h) → Reads K R x (root_of h r).chain (now_of K h) (next_of K h y)
  touch_leaves h y a r (Head i) rest w ne s t = head_stays K R i (root_of h r).chain (now_of K h) (next_of K h y) (w.heads i) t
  touch_leaves h y a r (Mask m) rest w ne s t = mask_stays K R h m s.0 r (before_of K h) (next_of K h y) rest s.1 s.2 (w.words m) t
  touch_leaves h y a r (Bucket q k) rest w ne s t = bucket_stays K R q.mask q.size k (root_of h r).chain (now_of K h) (next_of K h y) (ap (bucket_of K.hash q.size k) (w.filters q.mask)) t
  touch_leaves h y a r (Action other) rest w ne s t = record { action = t.action; read = t.read; serial = t.serial; are = w.params other (λ is. ne (ap Action is)) ∙ t.are }

  module _ (h : List (Commit E)) (b : ℕ) (c : Commit E) (y : E) (w : MakesAction K R b h c y) (p : Present K R h) where
    was_live : (a : ℕ) → a ≢ w.put.serial → IsLive K (next_of K h y) a → IsLive K (now_of K h) a
    was_live a ne live gone = live (w.touches.params a ne ∙ gone)

    is_new : (a s : ℕ) → IsSlotOf R h a s → a ≢ w.put.serial
    is_new a s x is = w.first s (subst (λ (z : ℕ). IsSlotOf R h z s) is x)

    serial_of : (a s : ℕ) → PutsAction R c a s → a ≡ w.put.serial
    serial_of a s puts = sym puts.serial ∙ ap (λ (v : ActionRecord P). v.serial) (some_is puts.put w.put (sym puts.read ∙ w.read))

    make_here : (x : Role) → b ≤ length h → Stands K R (h ++ c ∷ []) c.root x → x ≡ Action w.put.serial
    make_here (Head i) low s = let ro = w.root in let is = s.1 in let one = s.0 in absurd (omega arith)
    make_here (Mask m) low s = let ro = w.root in let is = s.2 in let small = s.1.small in absurd (omega arith)
    make_here (Bucket q i) low s = let ro = w.root in let small = w.small in let is = s.2 in absurd (omega arith)
    make_here (Action a) low s = pick (slot_push R h c a s.0 s.1)
      where
        live : IsLive K (next_of K h y) a
        live = subst (λ (z : S). IsLive K z a) (now_next K h c (point_of h + 1) y w.carries.number) s.3

        pick : IsSlotOf R h a s.0 ⊎ PutsAction R c a s.0 → Action a ≡ Action w.put.serial
        pick (inl x) = absurd (unused_end K R h b c.root (Action a) low w.unused (s.0, x, s.2, was_live a (is_new a s.0 x) live))
        pick (inr puts) = ap Action (serial_of a s.0 puts)

    make_placed : (a : ℕ) → IsLive K (next_of K h y) a → (t : Bool) → eqb a w.put.serial ≡ t → (s : ℕ) × IsSlotOf R (h ++ c ∷ []) a s
    make_placed a live true e = let same : w.put.serial ≡ a = grind (arith, e) in (w.slot, slot_here R h c a w.slot record { put = w.put; root = w.root; small = w.small; read = w.read; serial = same })
    make_placed a live false e = let o = p.placed a (was_live a (grind (arith, e)) live) in (o.0, slot_longer R h (c ∷ []) a o.0 o.1)

    make_writes : b ≤ length h → Writes K R b h c y
    make_writes low = record {
      carries = w.carries;
      high = λ r lo hi is. let ro = w.root in omega arith;
      here = inr record {
        unused = w.unused;
        one = λ x z s t. make_here x low s ∙ sym (make_here z low t);
        slot = λ a s t puts x. is_new a t x (serial_of a s puts);
      };
      own_reads = λ x s. subst (λ (z : Role). Reads K R z c.named.chain (now_of K h) (next_of K h y)) (sym (make_here x low s)) record { action = w.put; read = w.read; serial = refl; are = w.params };
      others = λ r x ne s s' t. others r x s t;
      made = λ a s live x. inl (was_live a (is_new a s x) live);
      placed = λ a live. make_placed a live (eqb a w.put.serial) refl;
      names = λ q i fs f x s read inf inx. let ro = w.root in let small = w.small in let is = s.2 in absurd (omega arith);
    }
      where
        others : (r : ℕ) (x : Role) → Stands K R h r x → Reads K R x (root_of h r).chain (before_of K h) (now_of K h)
            → Reads K R x (root_of h r).chain (now_of K h) (next_of K h y)
        others r x s t = touch_leaves h y w.put.serial r x w.rest w.touches (unlike x s) s t
          where
            unlike : (x : Role) → Stands K R h r x → x ≢ Action w.put.serial
            unlike (Head i) s is = cc is
            unlike (Mask m) s is = cc is
            unlike (Bucket q i) s is = cc is
            unlike (Action a) s is = is_new a s.0 s.1 (cc is)

  pub make_keeps : (h : List (Commit E)) (b : ℕ) (c : Commit E) (y : E) → b ≤ length h → Keeps K R h b → MakesAction K R b h c y
      → Keeps K R (h ++ c ∷ []) b
  make_keeps h b c y low k w = write_keeps K R h b c y low k (make_writes h b c y w (present_end K R h b low k) low)

  -- only the new action comes to stand, at its root
  pub make_comes : (h : List (Commit E)) (b : ℕ) (c : Commit E) (y : E) → b ≤ length h → Keeps K R h b → (w : MakesAction K R b h c y)
      → (r : ℕ) (x : Role) → Stands K R (h ++ c ∷ []) r x → Stands K R h r x ⊎ ((r ≡ c.root) × (x ≡ Action w.put.serial))
  make_comes h b c y low k w r x s = pick (eqb c.root r) refl
    where
      p : Present K R h
      p = present_end K R h b low k

      old : Stands K R h r x ⊎ IsMade K R b h y r x → Stands K R h r x ⊎ ((r ≡ c.root) × (x ≡ Action w.put.serial))
      old (inl o) = inl o
      old (inr m) = let live : IsLive K (next_of K h y) m.action = put_live K R h b y m.action m.put in
          inl (subst (Stands K R h r) (sym m.is) (m.put.slot, m.put.there, m.root, was_live h b c y w p m.action (is_new h b c y w p m.action m.put.slot m.put.there) live))

      pick : (t : Bool) → eqb c.root r ≡ t → Stands K R h r x ⊎ ((r ≡ c.root) × (x ≡ Action w.put.serial))
      pick true e = let is : c.root ≡ r = grind (arith, e) in inr (sym is, make_here h b c y w p x low (subst (λ (z : ℕ). Stands K R (h ++ c ∷ []) z x) (sym is) s))
      pick false e = old (write_other K R h b c y r x p (make_writes h b c y w p low) (grind (arith, e)) s)

  module _ (h : List (Commit E)) (c : Commit E) (y : E) (w : ChangesAction K R h c y) (p : Present K R h) where
    -- the same actions are live
    still_live : (a : ℕ) → IsLive K (next_of K h y) a → IsLive K (now_of K h) a
    still_live a live = pick (eqb a w.put.serial) refl
      where
        pick : (t : Bool) → eqb a w.put.serial ≡ t → IsLive K (now_of K h) a
        pick true e = let same : w.put.serial ≡ a = grind (arith, e) in subst (IsLive K (now_of K h)) same w.live
        pick false e = λ gone. let ne : a ≢ w.put.serial = grind (arith, e) in live (w.touches.params a ne ∙ gone)

    slot_again : (a s : ℕ) → PutsAction R c a s → IsSlotOf R h a s
    slot_again a s puts = let same : w.slot ≡ s = let ro = w.root in let is = puts.root in omega arith in
        let serial : w.put.serial ≡ a = ap (λ (v : ActionRecord P). v.serial) (some_is w.put puts.put (sym w.read ∙ puts.read)) ∙ puts.serial in
        subst (λ (z : ℕ). IsSlotOf R h z s) serial (subst (IsSlotOf R h w.put.serial) same w.at)

    change_here : HereOld K R h c
    change_here = record {
      role = Action w.put.serial;
      before = (w.slot, w.at, w.root, w.live);
      after = (
        w.slot,
        slot_longer R h (c ∷ []) w.put.serial w.slot w.at,
        w.root,
        subst (λ (z : S). IsLive K z w.put.serial) (sym (now_next K h c (point_of h + 1) y w.carries.number)) (λ gone. let some = w.params in cc (gone, some)),
      );
      slot = slot_again;
    }

    change_itself : (x : Role) → Stands K R (h ++ c ∷ []) c.root x → x ≡ Action w.put.serial
    change_itself (Head i) s = let ro = w.root in let is = s.1 in let one = s.0 in absurd (omega arith)
    change_itself (Mask m) s = let ro = w.root in let is = s.2 in let small = s.1.small in absurd (omega arith)
    change_itself (Bucket q i) s = let ro = w.root in let small = w.at.puts.small in let is = s.2 in absurd (omega arith)
    change_itself (Action a) s = pick (slot_push R h c a s.0 s.1)
      where
        live : IsLive K (now_of K h) a
        live = still_live a (subst (λ (z : S). IsLive K z a) (now_next K h c (point_of h + 1) y w.carries.number) s.3)

        known : IsSlotOf R h a s.0 → Action a ≡ Action w.put.serial
        known x = p.apart c.root (Action a) (Action w.put.serial) (s.0, x, s.2, live) (w.slot, w.at, w.root, w.live)

        pick : IsSlotOf R h a s.0 ⊎ PutsAction R c a s.0 → Action a ≡ Action w.put.serial
        pick (inl x) = known x
        pick (inr puts) = known (slot_again a s.0 puts)

    change_writes : (b : ℕ) → Writes K R b h c y
    change_writes b = record {
      carries = w.carries;
      high = λ r lo hi is. let ro = w.root in omega arith;
      here = inl change_here;
      own_reads = λ x s. subst (λ (z : Role). Reads K R z c.named.chain (now_of K h) (next_of K h y)) (sym (change_itself x s)) record { action = w.put; read = w.read; serial = refl; are = w.params };
      others = λ r x ne s s' t. touch_leaves h y w.put.serial r x w.rest w.touches (unlike r x ne s) s t;
      made = λ a s live x. inl (still_live a live);
      placed = λ a live. let o = p.placed a (still_live a live) in (o.0, slot_longer R h (c ∷ []) a o.0 o.1);
      names = λ q i fs f x s read inf inx. let ro = w.root in let small = w.at.puts.small in let is = s.2 in absurd (omega arith);
    }
      where
        unlike : (r : ℕ) (x : Role) → c.root ≢ r → Stands K R h r x → x ≢ Action w.put.serial
        unlike r (Head i) ne s is = cc is
        unlike r (Mask m) ne s is = cc is
        unlike r (Bucket q i) ne s is = cc is
        unlike r (Action a) ne s is = let same : a ≡ w.put.serial = cc is in
            ne (w.root ∙ (ap action_root (p.one_slot w.put.serial w.slot s.0 w.at (subst (λ (z : ℕ). IsSlotOf R h z s.0) same s.1)) ∙ sym s.2))

  pub change_keeps : (h : List (Commit E)) (b : ℕ) (c : Commit E) (y : E) → b ≤ length h → Keeps K R h b → ChangesAction K R h c y
      → Keeps K R (h ++ c ∷ []) b
  change_keeps h b c y low k w = write_keeps K R h b c y low k (change_writes h c y w (present_end K R h b low k) b)

  -- nothing comes to stand
  pub change_back : (h : List (Commit E)) (b : ℕ) (c : Commit E) (y : E) → b ≤ length h → Keeps K R h b → ChangesAction K R h c y
      → (r : ℕ) (x : Role) → Stands K R (h ++ c ∷ []) r x → Stands K R h r x
  change_back h b c y low k w r x s = pick (eqb c.root r) refl
    where
      p : Present K R h
      p = present_end K R h b low k

      old : Stands K R h r x ⊎ IsMade K R b h y r x → Stands K R h r x
      old (inl o) = o
      old (inr m) = let live : IsLive K (next_of K h y) m.action = put_live K R h b y m.action m.put in
          subst (Stands K R h r) (sym m.is) (m.put.slot, m.put.there, m.root, still_live h c y w p m.action live)

      pick : (t : Bool) → eqb c.root r ≡ t → Stands K R h r x
      pick true e = let is : c.root ≡ r = grind (arith, e) in
          subst (λ (z : ℕ). Stands K R h z x) is (write_itself K R h b c y x low p (change_writes h c y w p b) (change_here h c y w p) (subst (λ (z : ℕ). Stands K R (h ++ c ∷ []) z x) (sym is) s))
      pick false e = old (write_other K R h b c y r x p (change_writes h c y w p b) (grind (arith, e)) s)
