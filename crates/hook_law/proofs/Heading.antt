-- The law of a numbered commit to a head's root.
use Rattle.std.proofs.Common.{◌≡◌, ◌≢◌, ℕ, ◌+◌, ◌<◌, ◌≤◌, ◌⊎◌, inl, inr, Bool, true, false, eqb, List, [], ◌∷◌, ◌++◌, length, slice_get, Option, Some, refl, ap, sym, ◌∙◌, subst, arith}
use Rattle.store_history.specs.declared.history.Commit.{Commit}
use Rattle.store_history.specs.declared.history.Named.{Named}
use Rattle.store_history.specs.History.{root_of, edits_of}
use Rattle.store_history.proofs.Lists.{some_is}
use Rattle.store_history.proofs.Histories.{root_other}
use Rattle.hook_law.specs.Places.{head_root, mask_root, action_root, bucket_root, row_of, place_of}
use Rattle.hook_law.specs.Records.{Slotted, MaskRecord, FilterRecord, Codec}
use Rattle.hook_law.specs.Chains.{read_all, read_first, bucket_of}
use Rattle.hook_law.specs.Meaning.{Meaning, point_of, now_of, before_of, next_of, IsLive}
use Rattle.hook_law.specs.Standing.{Region, Role, Head, Mask, Bucket, Action, IsIn, Names, PutsAction, region_of, IsMaskAt, IsRowAt, IsSlotOf, Stands, IsUnused}
use Rattle.hook_law.specs.Telling.{Reads, Tells}
use Rattle.hook_law.specs.Keeping.{IsStamped, Present, Keeps}
use Rattle.hook_law.specs.Unnumbered.{IsFilled}
use Rattle.hook_law.specs.Numbered.{IsPutAction}
use Rattle.hook_law.specs.Heads.{IsPrepared, ChangesHead}
use Rattle.hook_law.specs.Coming.{IsBucketOf, IsMade, IsOfPrepared}
use Rattle.hook_law.proofs.Growing.{edits_more, now_next, root_same}
use Rattle.hook_law.proofs.Points.{tells_on, tells_new}
use Rattle.hook_law.proofs.Standing.{row_back, slot_longer, slot_push, present_end, since_stood, unused_end}
use Rattle.hook_law.proofs.Adding.{adds_keep}
use Rattle.hook_law.proofs.Writing.{made_once, made_tells}
use Rattle.hook_law.proofs.Staying.{head_stays, mask_stays, bucket_stays, action_stays}
use Rattle.hook_law.proofs.Bucketing.{put_placed}
use Rattle.hook_law.proofs.Resizing.{same_bucket}

module _ {E S N P : Type 0} (K : Meaning E S N P) (R : Codec N P) (h : List (Commit E)) (b : ℕ) (c : Commit E) (y : E) (w : ChangesHead K R b h c y) where
  abbrev hook : ℕ
  hook = w.hook

  -- a mask that the chain names, and that was prepared
  pub record Fresh (m slot : ℕ) : Type 0 where
    pub names : Names R c.named.chain m slot
    pub prepared : IsPrepared K R b h y m slot

  pub head_masks : (slot : ℕ) → root_of (h ++ c ∷ []) (mask_root slot) ≡ root_of h (mask_root slot)
  head_masks slot = let ro = w.root in let one = w.one in root_other h c (mask_root slot) (omega arith)

  head_slots : (a s : ℕ) → IsSlotOf R (h ++ c ∷ []) a s → IsSlotOf R h a s
  head_slots a s x = pick (slot_push R h c a s x)
    where
      pick : IsSlotOf R h a s ⊎ PutsAction R c a s → IsSlotOf R h a s
      pick (inl z) = z
      pick (inr puts) = let ro = w.root in let is = puts.root in let one = w.one in absurd (omega arith)

  head_live : (a : ℕ) → IsLive K (now_of K (h ++ c ∷ [])) a → IsLive K (next_of K h y) a
  head_live a live = subst (λ (s : S). IsLive K s a) (now_next K h c (point_of h + 1) y w.carries.number) live

  -- a mask that a head names afterwards is in the new chain, or in the other head's
  sort_head : (m slot : ℕ) (at : IsMaskAt R (h ++ c ∷ []) m slot) → (t : Bool) → eqb at.hook hook ≡ t
      → Names R c.named.chain m slot ⊎ ((at.hook ≢ hook) × Names R (root_of h (head_root at.hook)).chain m slot)
  sort_head m slot at true e = let ro = w.root in let same : at.hook ≡ hook = grind (arith, e) in let is : c.root ≡ head_root at.hook = omega arith in
      inl (subst (λ (z : Named). Names R z.chain m slot) (root_same h c (head_root at.hook) is) at.there)
  sort_head m slot at false e = let ro = w.root in let ne : at.hook ≢ hook = grind (arith, e) in let other : c.root ≢ head_root at.hook = omega arith in
      inr (ne, subst (λ (z : Named). Names R z.chain m slot) (root_other h c (head_root at.hook) other) at.there)

  -- it had that slot before, or was prepared there
  pub sort_mask : (m slot : ℕ) → IsMaskAt R (h ++ c ∷ []) m slot → IsMaskAt R h m slot ⊎ Fresh m slot
  sort_mask m slot at = pick (sort_head m slot at (eqb at.hook hook) refl)
    where
      fresh : Names R c.named.chain m slot → IsMaskAt R h m slot ⊎ IsPrepared K R b h y m slot → IsMaskAt R h m slot ⊎ Fresh m slot
      fresh names (inl o) = inl o
      fresh names (inr o) = inr record { names = names; prepared = o }

      pick : Names R c.named.chain m slot ⊎ ((at.hook ≢ hook) × Names R (root_of h (head_root at.hook)).chain m slot)
          → IsMaskAt R h m slot ⊎ Fresh m slot
      pick (inl names) = fresh names (w.masks m slot at.small names)
      pick (inr o) = inl record { hook = at.hook; one = at.one; small = at.small; there = o.1 }

  -- a row of such a mask
  fresh_row : (r : ℕ) (q : Region) (k row : ℕ) → r ≡ bucket_root row (place_of k) → IsRowAt R (h ++ c ∷ []) q k row → (f : Fresh q.mask q.slot)
      → IsOfPrepared K R b h c y r (Bucket q k)
  fresh_row r q k row is at f =
      let it : at.mask ≡ f.prepared.record_read = some_is at.mask f.prepared.record_read (sym (subst (λ (z : Named). read_first R.mask z.chain ≡ Some at.mask) (head_masks q.slot) at.read) ∙ f.prepared.read) in
      let stamp : q.stamp ≡ point_of h + 1 = sym at.stamped ∙ (ap (λ (z : Named). z.stamp) (head_masks q.slot) ∙ f.prepared.put.stamp) in
      let size : q.size ≡ f.prepared.record_read.size = sym at.sized ∙ ap (λ (z : MaskRecord). z.size) it in record {
        mask = q.mask;
        slot = q.slot;
        small = at.at_mask.small;
        names = f.names;
        prepared = f.prepared;
        part = inr record {
          k = k;
          row = row;
          is = λ t. Bucket (record { slot = q.slot; mask = q.mask; stamp = stamp t; size = size t }) k;
          inside = subst (λ (z : ℕ). k < z) size at.inside;
          there = subst (λ (z : MaskRecord). slice_get z.rows (row_of k) ≡ Some row) it at.there;
          small = at.small;
          root = is;
        };
      }

  abbrev Came : ℕ → Role → Type 0
  Came r x = IsOfPrepared K R b h c y r x ⊎ IsMade K R b h y r x

  -- what stands afterwards stood, or is of a mask that was prepared and that the chain names, or is an action
  -- that was put
  pub head_comes : (r : ℕ) (x : Role) → Present K R h → Stands K R (h ++ c ∷ []) r x
      → Stands K R h r x ⊎ (IsOfPrepared K R b h c y r x ⊎ IsMade K R b h y r x)
  head_comes r (Head i) p s = inl s
  head_comes r (Mask m) p s = pick (sort_mask m s.0 s.1)
    where
      pick : IsMaskAt R h m s.0 ⊎ Fresh m s.0 → Stands K R h r (Mask m) ⊎ Came r (Mask m)
      pick (inl o) = inl (s.0, o, s.2)
      pick (inr f) = inr (inl record { mask = m; slot = s.0; small = s.1.small; names = f.names; prepared = f.prepared; part = inl (refl, s.2) })
  head_comes r (Bucket q k) p s = pick (sort_mask q.mask q.slot s.1.at_mask)
    where
      pick : IsMaskAt R h q.mask q.slot ⊎ Fresh q.mask q.slot → Stands K R h r (Bucket q k) ⊎ Came r (Bucket q k)
      pick (inl o) = inl (s.0, row_back R h (h ++ c ∷ []) q k s.0 o (head_masks q.slot) s.1, s.2)
      pick (inr f) = inr (inl (fresh_row r q k s.0 s.2 s.1 f))
  head_comes r (Action a) p s = pick (w.made a (head_live a s.3))
    where
      there : IsSlotOf R h a s.0
      there = head_slots a s.0 s.1

      pick : IsLive K (now_of K h) a ⊎ IsPutAction K R b h y a → Stands K R h r (Action a) ⊎ Came r (Action a)
      pick (inl l) = inl (s.0, there, s.2, l)
      pick (inr put) = inr (inr record { action = a; is = refl; put = put; root = s.2 ∙ ap action_root (p.one_slot a s.0 put.slot there put.there) })

  bucket_filled : (r : ℕ) (x : Role) (o : IsOfPrepared K R b h c y r x) (n : IsBucketOf o.prepared.record_read (region_of o.slot o.mask (point_of h + 1) o.prepared.record_read) r x)
      → IsFilled K R b h r o.mask o.prepared.record_read.size n.k (point_of h + 1) (next_of K h y)
  bucket_filled r x o n = subst (λ (z : ℕ). IsFilled K R b h z o.mask o.prepared.record_read.size n.k (point_of h + 1) (next_of K h y)) (sym n.root) (o.prepared.filled n.k n.row n.inside n.there n.small)

  came_unused : (r : ℕ) (x : Role) → Came r x → IsUnused K R b h r
  came_unused r x (inr m) = subst (λ (z : ℕ). IsUnused K R b h z) (sym m.root) m.put.unused
  came_unused r x (inl o) = pick o.part
    where
      pick : ((x ≡ Mask o.mask) × (r ≡ mask_root o.slot)) ⊎ IsBucketOf o.prepared.record_read (region_of o.slot o.mask (point_of h + 1) o.prepared.record_read) r x → IsUnused K R b h r
      pick (inl s) = subst (λ (z : ℕ). IsUnused K R b h z) (sym s.1) o.prepared.put.unused
      pick (inr n) = (bucket_filled r x o n).unused

  abbrev TellsAfter : Role → Named → Type 0
  TellsAfter x n = Tells K R (edits_of (h ++ c ∷ [])) x n (point_of (h ++ c ∷ []))

  came_tells : (r : ℕ) (x : Role) → Came r x → TellsAfter x (root_of h r)
  came_tells r x (inr m) = made_tells K R h b c y r x w.carries m
  came_tells r x (inl o) = pick o.part
    where
      new : (z : Role) → (root_of h r).stamp ≡ point_of h + 1 → Reads K R z (root_of h r).chain (now_of K h) (next_of K h y) → x ≡ z
          → TellsAfter x (root_of h r)
      new z stamp t is = subst (λ (v : Role). TellsAfter v (root_of h r)) (sym is) (tells_new K R h c (point_of h + 1) y z (root_of h r) w.carries.number stamp t)

      pick : ((x ≡ Mask o.mask) × (r ≡ mask_root o.slot)) ⊎ IsBucketOf o.prepared.record_read (region_of o.slot o.mask (point_of h + 1) o.prepared.record_read) r x → TellsAfter x (root_of h r)
      pick (inl s) = new (Mask o.mask) (ap (λ (z : ℕ). (root_of h z).stamp) s.1 ∙ o.prepared.put.stamp)
          (subst (λ (z : ℕ). Reads K R (Mask o.mask) (root_of h z).chain (now_of K h) (next_of K h y)) (sym s.1) o.prepared.put.reads) s.0
      pick (inr n) = let f = bucket_filled r x o n in new (Bucket (region_of o.slot o.mask (point_of h + 1) o.prepared.record_read) n.k) f.fills.stamp f.fills.reads n.is

  -- masks that were prepared at one slot are one mask, and were put by one record
  one_prepared : (r u : ℕ) (x z : Role) (o : IsOfPrepared K R b h c y r x) (p : IsOfPrepared K R b h c y u z) → o.slot ≡ p.slot
      → (o.mask ≡ p.mask) × (o.prepared.record_read ≡ p.prepared.record_read)
  one_prepared r u x z o p same = (
    w.slots_apart o.mask p.mask p.slot (subst (Names R c.named.chain o.mask) same o.names) p.names (subst (IsPrepared K R b h y o.mask) same o.prepared) p.prepared,
    some_is o.prepared.record_read p.prepared.record_read (sym o.prepared.read ∙ (ap (λ (v : ℕ). read_first R.mask (root_of h (mask_root v)).chain) same ∙ p.prepared.read)),
  )

  abbrev Part : (r : ℕ) (x : Role) → IsOfPrepared K R b h c y r x → Type 0
  Part r x o = ((x ≡ Mask o.mask) × (r ≡ mask_root o.slot)) ⊎ IsBucketOf o.prepared.record_read (region_of o.slot o.mask (point_of h + 1) o.prepared.record_read) r x

  -- a root comes to stand for one thing
  parts_apart : (r : ℕ) (x z : Role) (o : IsOfPrepared K R b h c y r x) (p : IsOfPrepared K R b h c y r z) → Part r x o → Part r z p → x ≡ z
  parts_apart r x z o p (inl s) (inl t) = let e = s.1 in let f = t.1 in let same : o.slot ≡ p.slot = omega arith in s.0 ∙ (ap Mask (one_prepared r r x z o p same).0 ∙ sym t.0)
  parts_apart r x z o p (inl s) (inr n) = let e = s.1 in let f = n.root in let small = o.small in absurd (omega arith)
  parts_apart r x z o p (inr n) (inl t) = let e = t.1 in let f = n.root in let small = p.small in absurd (omega arith)
  parts_apart r x z o p (inr n) (inr l) = let e = n.root in let f = l.root in
      let rows_same : l.row ≡ n.row = omega arith in
      let same : o.slot ≡ p.slot = w.rows_apart o.mask p.mask o.slot p.slot (row_of n.k) (row_of l.k) n.row o.prepared p.prepared o.names p.names n.there (l.there ∙ ap Some rows_same) in
      let one = one_prepared r r x z o p same in
      let k_same : n.k ≡ l.k = same_bucket o.prepared.record_read n.k l.k n.row l.row o.prepared.distinct n.there (subst (λ (v : MaskRecord). slice_get v.rows (row_of l.k) ≡ Some l.row) (sym one.1) l.there) (sym e ∙ f) in
      n.is ∙ ((λ t. Bucket (record { slot = same t; mask = one.0 t; stamp = point_of h + 1; size = (one.1 t).size }) (k_same t)) ∙ sym l.is)

  part_action : (r : ℕ) (x z : Role) (o : IsOfPrepared K R b h c y r x) → Part r x o → IsMade K R b h y r z → ⊥
  part_action r x z o (inl s) m = let e = s.1 in let f = m.root in let small = o.small in omega arith
  part_action r x z o (inr n) m = let e = n.root in let f = m.root in let small = m.put.there.puts.small in omega arith

  came_apart : (r : ℕ) (x z : Role) → Came r x → Came r z → x ≡ z
  came_apart r x z (inl o) (inl p) = parts_apart r x z o p o.part p.part
  came_apart r x z (inl o) (inr m) = absurd (part_action r x z o o.part m)
  came_apart r x z (inr m) (inl p) = absurd (part_action r z x p p.part m)
  came_apart r x z (inr m) (inr n) = made_once K R h b y r x z m n

  -- a mask is named with one slot
  one_named : (m s t : ℕ) → Present K R h → IsMaskAt R (h ++ c ∷ []) m s → IsMaskAt R (h ++ c ∷ []) m t → s ≡ t
  one_named m s t p x z = pick (sort_head m s x (eqb x.hook hook) refl) (sort_head m t z (eqb z.hook hook) refl)
    where
      Sorted : (slot : ℕ) → IsMaskAt R (h ++ c ∷ []) m slot → Type 0
      Sorted slot at = Names R c.named.chain m slot ⊎ ((at.hook ≢ hook) × Names R (root_of h (head_root at.hook)).chain m slot)

      pick : Sorted s x → Sorted t z → s ≡ t
      pick (inl n) (inl o) = w.one_slot m s t n o
      pick (inl n) (inr o) = w.elsewhere m s t z.hook z.one o.0 n o.1
      pick (inr n) (inl o) = sym (w.elsewhere m t s x.hook x.one n.0 o n.1)
      pick (inr n) (inr o) = p.one_mask m s t record { hook = x.hook; one = x.one; small = x.small; there = n.1 } record { hook = z.hook; one = z.one; small = z.small; there = o.1 }

  -- at the head's root stands the head alone
  head_itself : (x : Role) → Stands K R (h ++ c ∷ []) c.root x → x ≡ Head hook
  head_itself (Head i) s = let ro = w.root in let is = s.1 in let same : i ≡ hook = omega arith in ap Head same
  head_itself (Mask m) s = let ro = w.root in let one = w.one in let is = s.2 in absurd (omega arith)
  head_itself (Bucket q i) s = let ro = w.root in let one = w.one in let is = s.2 in absurd (omega arith)
  head_itself (Action a) s = let ro = w.root in let one = w.one in let is = s.2 in absurd (omega arith)

  -- what stood and stands goes on telling
  head_others : (r : ℕ) (x : Role) → c.root ≢ r → Stands K R h r x → Stands K R (h ++ c ∷ []) r x
      → Reads K R x (root_of h r).chain (before_of K h) (now_of K h) → Reads K R x (root_of h r).chain (now_of K h) (next_of K h y)
  head_others r (Head i) ne s s' t = let other : i ≢ hook = (λ is. ne (w.root ∙ (ap head_root (sym is) ∙ sym s.1))) in head_stays K R i (root_of h r).chain (now_of K h) (next_of K h y) (w.other_heads i other) t
  head_others r (Mask m) ne s s' t = let e = s.2 in let f = s'.2 in let same : s'.0 ≡ s.0 = omega arith in
      mask_stays K R h m s.0 r (before_of K h) (next_of K h y) w.rest s.1 s.2 (w.stays m s.0 s.1 (subst (IsMaskAt R (h ++ c ∷ []) m) same s'.1)).0 t
  head_others r (Bucket q k) ne s s' t = bucket_stays K R q.mask q.size k (root_of h r).chain (now_of K h) (next_of K h y) (ap (bucket_of K.hash q.size k) (w.stays q.mask q.slot s.1.at_mask s'.1.at_mask).1) t
  head_others r (Action a) ne s s' t = action_stays K R a (root_of h r).chain (now_of K h) (next_of K h y) w.params (head_live a s'.3) t

  head_tells : (r : ℕ) (x : Role) → Present K R h → Stands K R (h ++ c ∷ []) r x → (t : Bool) → eqb c.root r ≡ t
      → TellsAfter x (root_of (h ++ c ∷ []) r)
  head_tells r x p s true e = let is : c.root ≡ r = grind (arith, e) in subst (TellsAfter x) (sym (root_same h c r is))
      (tells_new K R h c (point_of h + 1) y x c.named w.carries.number w.carries.stamp
      (subst (λ (z : Role). Reads K R z c.named.chain (now_of K h) (next_of K h y)) (sym (head_itself x (subst (λ (z : ℕ). Stands K R (h ++ c ∷ []) z x) (sym is) s))) w.reads))
  head_tells r x p s false e = let ne : c.root ≢ r = grind (arith, e) in subst (TellsAfter x) (sym (root_other h c r ne)) (pick ne (head_comes r x p s))
    where
      pick : c.root ≢ r → Stands K R h r x ⊎ Came r x → TellsAfter x (root_of h r)
      pick ne (inl o) = tells_on K R h c (point_of h + 1) y x (root_of h r) w.carries.number (p.tells r x o) (head_others r x ne o s)
      pick ne (inr m) = came_tells r x m

  head_names : (r : ℕ) (z : Role) (q : Region) (k : ℕ) (fs : List FilterRecord) (f : FilterRecord) (x : Slotted) → Present K R h → z ≡ Bucket q k
      → Stands K R h r z ⊎ Came r z → read_all R.filter (root_of h r).chain ≡ Some fs
      → IsIn f fs → IsIn x f.actions → IsSlotOf R h x.serial x.slot
  head_names r z q k fs f x p is (inl o) read inf inx = p.slots r q k fs f x (subst (Stands K R h r) is o) read inf inx
  head_names r z q k fs f x p is (inr (inr m)) read inf inx = absurd (cc (is, m.is))
  head_names r z q k fs f x p is (inr (inl o)) read inf inx = pick o.part
    where
      pick : Part r z o → IsSlotOf R h x.serial x.slot
      pick (inl s) = absurd (let e = s.0 in cc (is, e))
      pick (inr n) = (bucket_filled r z o n).fills.names fs f x read inf inx

  pub head_keeps : b ≤ length h → Keeps K R h b → Keeps K R (h ++ c ∷ []) b
  head_keeps low k = adds_keep K R h b c low k record {
    lawful = subst K.Lawful (sym (edits_more h c (point_of h + 1) y w.carries.number)) w.carries.lawful;
    stamped = subst (λ (z : Option (ℕ × E)). IsStamped (point_of h) z c.named.stamp) (sym w.carries.number) (refl, w.carries.stamp);
    comes = λ r x s. unused r x (head_comes r x p s);
    tells = λ r x s. head_tells r x p s (eqb c.root r) refl;
    alone = λ n x lown le s. subst (Stands K R (h ++ c ∷ []) c.root) (sym (since_stood K R h b n c.root x (Head hook) k lown le s (w.one, w.root))) (w.one, w.root);
    new_apart = λ r x z u s t. apart r x z u (head_comes r x p s) (head_comes r z p t);
    slots = λ r q i fs f x s read inf inx. let ro = w.root in let one = w.one in let is = s.2 in let ne : c.root ≢ r = omega arith in
        slot_longer R h (c ∷ []) x.serial x.slot (head_names r (Bucket q i) q i fs f x p refl (head_comes r (Bucket q i) p s) (subst (λ (z : Named). read_all R.filter z.chain ≡ Some fs) (root_other h c r ne) read) inf inx);
    one_slot = λ a s t x z. p.one_slot a s t (head_slots a s x) (head_slots a t z);
    one_mask = λ m s t x z. one_named m s t p x z;
    placed = λ a live. let o = put_placed K R h b y a p w.made (head_live a live) in (o.0, slot_longer R h (c ∷ []) a o.0 o.1);
  }
    where
      p : Present K R h
      p = present_end K R h b low k

      unused : (r : ℕ) (x : Role) → Stands K R h r x ⊎ Came r x → Stands K R h r x ⊎ IsUnused K R b h r
      unused r x (inl s) = inl s
      unused r x (inr m) = inr (came_unused r x m)

      apart : (r : ℕ) (x z : Role) → IsUnused K R b h r → Stands K R h r x ⊎ Came r x → Stands K R h r z ⊎ Came r z → x ≡ z
      apart r x z u (inl s) t = absurd (unused_end K R h b r x low u s)
      apart r x z u (inr m) (inl t) = absurd (unused_end K R h b r z low u t)
      apart r x z u (inr m) (inr n) = came_apart r x z m n
