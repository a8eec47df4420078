-- The law of a numbered commit to a root that is neither a head's nor a mask's: the marker root, a bucket's
-- or an action's.
use Rattle.std.proofs.Common.{◌≡◌, ◌≢◌, ℕ, ◌+◌, ◌<◌, ◌≤◌, ◌⊎◌, inl, inr, Bool, true, false, eqb, List, [], ◌∷◌, ◌++◌, length, take, Option, Some, refl, ap, sym, ◌∙◌, subst, arith}
use Rattle.store_history.specs.declared.history.Commit.{Commit}
use Rattle.store_history.specs.declared.history.Named.{Named}
use Rattle.store_history.specs.History.{root_of, edits_of}
use Rattle.store_history.proofs.Lists.{some_is}
use Rattle.store_history.proofs.Histories.{root_other}
use Rattle.hook_law.specs.Places.{head_root, mask_root, action_root}
use Rattle.hook_law.specs.Records.{Slotted, FilterRecord, ActionRecord, Codec}
use Rattle.hook_law.specs.Chains.{read_all}
use Rattle.hook_law.specs.Meaning.{Meaning, point_of, now_of, before_of, next_of, IsLive}
use Rattle.hook_law.specs.Standing.{Region, Role, Head, Mask, Bucket, Action, IsIn, PutsAction, IsSlotOf, Stands, IsUnused}
use Rattle.hook_law.specs.Telling.{Reads, ReadsAction, Tells}
use Rattle.hook_law.specs.Keeping.{IsStamped, Present, Keeps}
use Rattle.hook_law.specs.Numbered.{Carries, IsPutAction}
use Rattle.hook_law.specs.Coming.{IsMade}
use Rattle.hook_law.proofs.Growing.{edits_more, now_next, root_same}
use Rattle.hook_law.proofs.Points.{tells_on, tells_new}
use Rattle.hook_law.proofs.Standing.{SameHeads, SameMasks, mask_back, bucket_back, slot_longer, slot_push, present_end, since_stood, unused_end}
use Rattle.hook_law.proofs.Adding.{adds_keep}

module _ {E S N P : Type 0} (K : Meaning E S N P) (R : Codec N P) where
  -- the commit's root stands for something, before and after, and an action that is put there had that slot
  pub record HereOld (h : List (Commit E)) (c : Commit E) : Type 0 where
    pub role : Role
    pub before : Stands K R h c.root role
    pub after : Stands K R (h ++ c ∷ []) c.root role
    pub slot : (a s : ℕ) → PutsAction R c a s → IsSlotOf R h a s

  -- it stood for nothing since b, and an action that is put there had no slot
  pub record HereNew (b : ℕ) (h : List (Commit E)) (c : Commit E) : Type 0 where
    pub unused : IsUnused K R b h c.root
    pub one : (x y : Role) → Stands K R (h ++ c ∷ []) c.root x → Stands K R (h ++ c ∷ []) c.root y → x ≡ y
    pub slot : (a s t : ℕ) → PutsAction R c a s → IsSlotOf R h a t → ⊥

  pub record Writes (b : ℕ) (h : List (Commit E)) (c : Commit E) (y : E) : Type 0 where
    pub carries : Carries K h c y
    pub high : (r : ℕ) → head_root 0 ≤ r → r < action_root 0 → c.root ≢ r
    pub here : HereOld h c ⊎ HereNew b h c
    pub own_reads : (x : Role) → Stands K R (h ++ c ∷ []) c.root x → Reads K R x c.named.chain (now_of K h) (next_of K h y)
    -- what the edit leaves elsewhere
    pub others : (r : ℕ) (x : Role) → c.root ≢ r → Stands K R h r x → Stands K R (h ++ c ∷ []) r x
        → Reads K R x (root_of h r).chain (before_of K h) (now_of K h) → Reads K R x (root_of h r).chain (now_of K h) (next_of K h y)
    -- an action that is live afterwards and had a slot was live, or was put for the edit
    pub made : (a s : ℕ) → IsLive K (next_of K h y) a → IsSlotOf R h a s → IsLive K (now_of K h) a ⊎ IsPutAction K R b h y a
    pub placed : (a : ℕ) → IsLive K (next_of K h y) a → (s : ℕ) × IsSlotOf R (h ++ c ∷ []) a s
    pub names : (q : Region) (k : ℕ) (fs : List FilterRecord) (f : FilterRecord) (x : Slotted) → Stands K R (h ++ c ∷ []) c.root (Bucket q k)
        → read_all R.filter c.named.chain ≡ Some fs → IsIn f fs → IsIn x f.actions → IsSlotOf R (h ++ c ∷ []) x.serial x.slot

  pub write_heads : (h : List (Commit E)) (b : ℕ) (c : Commit E) (y : E) → Writes b h c y → SameHeads R h (h ++ c ∷ [])
  write_heads h b c y w hook one = root_other h c (head_root hook) (w.high (head_root hook) (omega arith) (omega arith))

  pub write_masks : (h : List (Commit E)) (b : ℕ) (c : Commit E) (y : E) → Writes b h c y → SameMasks R h (h ++ c ∷ [])
  write_masks h b c y w m slot at = let small = at.small in root_other h c (mask_root slot) (w.high (mask_root slot) (omega arith) (omega arith))

  live_next : (h : List (Commit E)) (c : Commit E) (y : E) (a : ℕ) → Carries K h c y → IsLive K (now_of K (h ++ c ∷ [])) a
      → IsLive K (next_of K h y) a
  live_next h c y a w live = subst (λ (s : S). IsLive K s a) (now_next K h c (point_of h + 1) y w.number) live

  -- an action with a slot that is live afterwards stood at its root, or was put there for the edit
  known : (h : List (Commit E)) (b : ℕ) (c : Commit E) (y : E) (r a s : ℕ) → Present K R h → Writes b h c y → r ≡ action_root s
      → IsLive K (next_of K h y) a → IsSlotOf R h a s
      → Stands K R h r (Action a) ⊎ IsMade K R b h y r (Action a)
  known h b c y r a s p w is live x = pick (w.made a s live x)
    where
      pick : IsLive K (now_of K h) a ⊎ IsPutAction K R b h y a → Stands K R h r (Action a) ⊎ IsMade K R b h y r (Action a)
      pick (inl l) = inl (s, x, is, l)
      pick (inr put) = inr record { action = a; is = refl; put = put; root = is ∙ ap action_root (p.one_slot a s put.slot x put.there) }

  -- what stands afterwards at another root stood there, or is an action that was put for the edit
  pub write_other : (h : List (Commit E)) (b : ℕ) (c : Commit E) (y : E) (r : ℕ) (x : Role) → Present K R h → Writes b h c y → c.root ≢ r
      → Stands K R (h ++ c ∷ []) r x
      → Stands K R h r x ⊎ IsMade K R b h y r x
  write_other h b c y r (Head i) p w ne s = inl s
  write_other h b c y r (Mask m) p w ne s = inl (s.0, mask_back R h (h ++ c ∷ []) m s.0 (write_heads h b c y w) s.1, s.2)
  write_other h b c y r (Bucket q i) p w ne s = inl (s.0, bucket_back R h (h ++ c ∷ []) q i s.0 (write_heads h b c y w) (write_masks h b c y w) s.1, s.2)
  write_other h b c y r (Action a) p w ne s = pick (slot_push R h c a s.0 s.1)
    where
      pick : IsSlotOf R h a s.0 ⊎ PutsAction R c a s.0 → Stands K R h r (Action a) ⊎ IsMade K R b h y r (Action a)
      pick (inl x) = known h b c y r a s.0 p w s.2 (live_next h c y a w.carries s.3) x
      pick (inr puts) = absurd (ne (puts.root ∙ sym s.2))

  -- what stands afterwards at the commit's own root stood there, where anything did
  pub write_itself : (h : List (Commit E)) (b : ℕ) (c : Commit E) (y : E) (x : Role) → b ≤ length h → Present K R h → Writes b h c y → HereOld h c
      → Stands K R (h ++ c ∷ []) c.root x → Stands K R h c.root x
  write_itself h b c y (Head i) low p w o s = s
  write_itself h b c y (Mask m) low p w o s = (s.0, mask_back R h (h ++ c ∷ []) m s.0 (write_heads h b c y w) s.1, s.2)
  write_itself h b c y (Bucket q i) low p w o s = (s.0, bucket_back R h (h ++ c ∷ []) q i s.0 (write_heads h b c y w) (write_masks h b c y w) s.1, s.2)
  write_itself h b c y (Action a) low p w o s = only_old (known h b c y c.root a s.0 p w s.2 (live_next h c y a w.carries s.3) (mine (slot_push R h c a s.0 s.1)))
    where
      mine : IsSlotOf R h a s.0 ⊎ PutsAction R c a s.0 → IsSlotOf R h a s.0
      mine (inl x) = x
      mine (inr puts) = o.slot a s.0 puts

      only_old : Stands K R h c.root (Action a) ⊎ IsMade K R b h y c.root (Action a) → Stands K R h c.root (Action a)
      only_old (inl t) = t
      only_old (inr m) = absurd (unused_end K R h b c.root o.role low (subst (λ (z : ℕ). IsUnused K R b h z) (sym m.root) m.put.unused) o.before)

  pub put_live : (h : List (Commit E)) (b : ℕ) (y : E) (a : ℕ) → IsPutAction K R b h y a → IsLive K (next_of K h y) a
  put_live h b y a put none = let some = put.reads.are in cc (none, some)

  -- two actions that were put at one root are one
  pub made_once : (h : List (Commit E)) (b : ℕ) (y : E) (r : ℕ) (x z : Role) → IsMade K R b h y r x → IsMade K R b h y r z → x ≡ z
  made_once h b y r x z m n = let same : n.put.slot ≡ m.put.slot = let p = m.root in let q = n.root in omega arith in
      let there : ReadsAction K R n.action (root_of h (action_root m.put.slot)).chain (next_of K h y) = subst (λ (s : ℕ). ReadsAction K R n.action (root_of h (action_root s)).chain (next_of K h y)) same n.put.reads in
      let one = some_is m.put.reads.action there.action (sym m.put.reads.read ∙ there.read) in
      m.is ∙ (ap Action (sym m.put.reads.serial ∙ (ap (λ (v : ActionRecord P). v.serial) one ∙ there.serial)) ∙ sym n.is)

  -- an action that was put tells the point of the edit
  pub made_tells : (h : List (Commit E)) (b : ℕ) (c : Commit E) (y : E) (r : ℕ) (x : Role) → Carries K h c y → IsMade K R b h y r x
      → Tells K R (edits_of (h ++ c ∷ [])) x (root_of h r) (point_of (h ++ c ∷ []))
  made_tells h b c y r x w m = subst (λ (v : Role). Tells K R (edits_of (h ++ c ∷ [])) v (root_of h r) (point_of (h ++ c ∷ []))) (sym m.is)
      (subst (λ (v : ℕ). Tells K R (edits_of (h ++ c ∷ [])) (Action m.action) (root_of h v) (point_of (h ++ c ∷ []))) (sym m.root)
      (tells_new K R h c (point_of h + 1) y (Action m.action) (root_of h (action_root m.put.slot)) w.number m.put.stamp m.put.reads))

  pub write_keeps : (h : List (Commit E)) (b : ℕ) (c : Commit E) (y : E) → b ≤ length h → Keeps K R h b → Writes b h c y → Keeps K R (h ++ c ∷ []) b
  write_keeps h b c y low k w = adds_keep K R h b c low k record {
    lawful = subst K.Lawful (sym (edits_more h c (point_of h + 1) y w.carries.number)) w.carries.lawful;
    stamped = subst (λ (z : Option (ℕ × E)). IsStamped (point_of h) z c.named.stamp) (sym w.carries.number) (refl, w.carries.stamp);
    comes = λ r x s. come r x s (eqb c.root r) refl;
    tells = λ r x s. tell r x s (eqb c.root r) refl;
    alone = λ n x lown le s. stay n x lown le s w.here;
    new_apart = λ r x z u s t. apart r x z u s t (eqb c.root r) refl;
    slots = λ r q i fs f x s read inf inx. slots r q i fs f x s read inf inx (eqb c.root r) refl;
    one_slot = λ a s t x z. one a s t w.here (slot_push R h c a s x) (slot_push R h c a t z);
    one_mask = λ m s t x z. p.one_mask m s t (mask_back R h (h ++ c ∷ []) m s heads x) (mask_back R h (h ++ c ∷ []) m t heads z);
    placed = λ a live. w.placed a (live_next h c y a w.carries live);
  }
    where
      p : Present K R h
      p = present_end K R h b low k

      heads : SameHeads R h (h ++ c ∷ [])
      heads = write_heads h b c y w

      After : ℕ → Role → Type 0
      After r x = Stands K R (h ++ c ∷ []) r x

      own : (x : Role) → After c.root x → HereOld h c ⊎ HereNew b h c → Stands K R h c.root x ⊎ IsUnused K R b h c.root
      own x s (inl o) = inl (write_itself h b c y x low p w o s)
      own x s (inr o) = inr o.unused

      stay : (n : ℕ) (x : Role) → b ≤ n → n ≤ length h → Stands K R (take n h) c.root x → HereOld h c ⊎ HereNew b h c → After c.root x
      stay n x lown le s (inr o) = absurd (o.unused n x lown le s)
      stay n x lown le s (inl o) = subst (After c.root) (sym (since_stood K R h b n c.root x o.role k lown le s o.before)) o.after

      own_apart : (x z : Role) → IsUnused K R b h c.root → After c.root x → After c.root z → HereOld h c ⊎ HereNew b h c → x ≡ z
      own_apart x z u s t (inl o) = absurd (unused_end K R h b c.root o.role low u o.before)
      own_apart x z u s t (inr o) = o.one x z s t

      other_apart : (r : ℕ) (x z : Role) → IsUnused K R b h r → Stands K R h r x ⊎ IsMade K R b h y r x → Stands K R h r z ⊎ IsMade K R b h y r z
          → x ≡ z
      other_apart r x z u (inl o) q = absurd (unused_end K R h b r x low u o)
      other_apart r x z u (inr o) (inl q) = absurd (unused_end K R h b r z low u q)
      other_apart r x z u (inr o) (inr q) = made_once h b y r x z o q

      apart : (r : ℕ) (x z : Role) → IsUnused K R b h r → After r x → After r z → (t : Bool) → eqb c.root r ≡ t → x ≡ z
      apart r x z u s t true e = let is : c.root ≡ r = grind (arith, e) in
          own_apart x z (subst (λ (q : ℕ). IsUnused K R b h q) (sym is) u) (subst (λ (q : ℕ). After q x) (sym is) s) (subst (λ (q : ℕ). After q z) (sym is) t) w.here
      apart r x z u s t false e = let ne : c.root ≢ r = grind (arith, e) in other_apart r x z u (write_other h b c y r x p w ne s) (write_other h b c y r z p w ne t)

      one : (a s t : ℕ) → HereOld h c ⊎ HereNew b h c → IsSlotOf R h a s ⊎ PutsAction R c a s → IsSlotOf R h a t ⊎ PutsAction R c a t → s ≡ t
      one a s t o (inl x) (inl z) = p.one_slot a s t x z
      one a s t o (inr x) (inr z) = let p = x.root in let q = z.root in omega arith
      one a s t (inl o) (inl x) (inr z) = p.one_slot a s t x (o.slot a t z)
      one a s t (inr o) (inl x) (inr z) = absurd (o.slot a t s z x)
      one a s t (inl o) (inr x) (inl z) = p.one_slot a s t (o.slot a s x) z
      one a s t (inr o) (inr x) (inl z) = absurd (o.slot a s t x z)

      slots : (r : ℕ) (q : Region) (i : ℕ) (fs : List FilterRecord) (f : FilterRecord) (x : Slotted) → After r (Bucket q i)
          → read_all R.filter (root_of (h ++ c ∷ []) r).chain ≡ Some fs → IsIn f fs → IsIn x f.actions
          → (t : Bool) → eqb c.root r ≡ t → IsSlotOf R (h ++ c ∷ []) x.serial x.slot
      slots r q i fs f x s read inf inx true e = let is : c.root ≡ r = grind (arith, e) in
          w.names q i fs f x (subst (λ (z : ℕ). After z (Bucket q i)) (sym is) s) (subst (λ (z : Named). read_all R.filter z.chain ≡ Some fs) (root_same h c r is) read) inf inx
      slots r q i fs f x s read inf inx false e = let ne : c.root ≢ r = grind (arith, e) in slot_longer R h (c ∷ []) x.serial x.slot
          (p.slots r q i fs f x (s.0, bucket_back R h (h ++ c ∷ []) q i s.0 heads (write_masks h b c y w) s.1, s.2) (subst (λ (z : Named). read_all R.filter z.chain ≡ Some fs) (root_other h c r ne) read) inf inx)

      unused : (r : ℕ) (x : Role) → Stands K R h r x ⊎ IsMade K R b h y r x → Stands K R h r x ⊎ IsUnused K R b h r
      unused r x (inl o) = inl o
      unused r x (inr m) = inr (subst (λ (z : ℕ). IsUnused K R b h z) (sym m.root) m.put.unused)

      come : (r : ℕ) (x : Role) → After r x → (t : Bool) → eqb c.root r ≡ t → Stands K R h r x ⊎ IsUnused K R b h r
      come r x s true e = let is : c.root ≡ r = grind (arith, e) in
          subst (λ (z : ℕ). Stands K R h z x ⊎ IsUnused K R b h z) is (own x (subst (λ (z : ℕ). After z x) (sym is) s) w.here)
      come r x s false e = let ne : c.root ≢ r = grind (arith, e) in unused r x (write_other h b c y r x p w ne s)

      TellsAfter : Role → Named → Type 0
      TellsAfter x n = Tells K R (edits_of (h ++ c ∷ [])) x n (point_of (h ++ c ∷ []))

      other_tells : (r : ℕ) (x : Role) → c.root ≢ r → After r x → Stands K R h r x ⊎ IsMade K R b h y r x → TellsAfter x (root_of h r)
      other_tells r x ne s (inl o) = tells_on K R h c (point_of h + 1) y x (root_of h r) w.carries.number (p.tells r x o) (w.others r x ne o s)
      other_tells r x ne s (inr m) = made_tells h b c y r x w.carries m

      tell : (r : ℕ) (x : Role) → After r x → (t : Bool) → eqb c.root r ≡ t → TellsAfter x (root_of (h ++ c ∷ []) r)
      tell r x s true e = let is : c.root ≡ r = grind (arith, e) in subst (TellsAfter x) (sym (root_same h c r is))
          (tells_new K R h c (point_of h + 1) y x c.named w.carries.number w.carries.stamp (w.own_reads x (subst (λ (z : ℕ). After z x) (sym is) s)))
      tell r x s false e = let ne : c.root ≢ r = grind (arith, e) in subst (TellsAfter x) (sym (root_other h c r ne)) (other_tells r x ne s (write_other h b c y r x p w ne s))
