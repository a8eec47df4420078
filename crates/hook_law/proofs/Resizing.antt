-- The law of a resize: the roots of the new rows are filled, and then the mask's root names them.
use Rattle.std.proofs.Common.{◌≡◌, ◌≢◌, ℕ, ◌<◌, ◌≤◌, ◌⊎◌, inl, inr, Bool, true, false, eqb, List, [], ◌∷◌, ◌++◌, length, slice_get, Option, Some, refl, ap, sym, ◌∙◌, subst, arith}
use Rattle.store_history.specs.declared.history.Commit.{Commit}
use Rattle.store_history.specs.declared.history.Named.{Named}
use Rattle.store_history.specs.History.{root_of, edits_of}
use Rattle.store_history.proofs.Lists.{some_is}
use Rattle.store_history.proofs.Histories.{root_other}
use Rattle.hook_law.specs.Places.{head_root, mask_root, bucket_root, row_of, place_of}
use Rattle.hook_law.specs.Records.{Slotted, MaskRecord, FilterRecord, Codec}
use Rattle.hook_law.specs.Chains.{read_all, read_first}
use Rattle.hook_law.specs.Meaning.{Meaning, point_of, now_of, IsLive}
use Rattle.hook_law.specs.Standing.{Region, Role, Head, Mask, Bucket, Action, IsIn, AreDistinct, PutsAction, region_of, IsRowAt, IsSlotOf, Stands, IsUnused}
use Rattle.hook_law.specs.Telling.{Tells}
use Rattle.hook_law.specs.Keeping.{IsStamped, Present, Keeps}
use Rattle.hook_law.specs.Unnumbered.{IsFilled, Resizes}
use Rattle.hook_law.specs.Coming.{IsBucketOf}
use Rattle.hook_law.proofs.Growing.{edits_still, now_still, root_same}
use Rattle.hook_law.proofs.Points.{tells_once}
use Rattle.hook_law.proofs.Standing.{SameHeads, mask_back, row_back, slot_longer, slot_push, present_end, since_stood, unused_end}
use Rattle.hook_law.proofs.Adding.{adds_keep}

-- buckets with one root are one bucket, where the rows are distinct
pub same_bucket : (mask : MaskRecord) (k i row line : ℕ) → AreDistinct mask.rows → slice_get mask.rows (row_of k) ≡ Some row
    → slice_get mask.rows (row_of i) ≡ Some line
    → bucket_root row (place_of k) ≡ bucket_root line (place_of i) → k ≡ i
same_bucket mask k i row line distinct there here same = let rows_same : row ≡ line = omega arith in
    let places : row_of k ≡ row_of i = distinct (row_of k) (row_of i) row there (here ∙ ap Some (sym rows_same)) in omega arith

module _ {E S N P : Type 0} (K : Meaning E S N P) (R : Codec N P) (h : List (Commit E)) (b : ℕ) (c : Commit E) (w : Resizes K R b h c) where
  abbrev m : ℕ
  m = w.serial

  abbrev slot : ℕ
  slot = w.slot

  abbrev mask : MaskRecord
  mask = w.mask

  -- a bucket of the new rows
  abbrev New : ℕ → Role → Type 0
  New r x = IsBucketOf mask (region_of slot m c.named.stamp mask) r x

  resize_still : edits_of (h ++ c ∷ []) ≡ edits_of h
  resize_still = edits_still h c w.plain

  pub resize_heads : SameHeads R h (h ++ c ∷ [])
  resize_heads hook one = let is = w.root in root_other h c (head_root hook) (omega arith)

  resize_slots : (a s : ℕ) → IsSlotOf R (h ++ c ∷ []) a s → IsSlotOf R h a s
  resize_slots a s x = pick (slot_push R h c a s x)
    where
      pick : IsSlotOf R h a s ⊎ PutsAction R c a s → IsSlotOf R h a s
      pick (inl y) = y
      pick (inr puts) = let is = w.root in let it = puts.root in let small = w.at.small in absurd (omega arith)

  -- a row of the mask after the commit is a new one, and a row of another mask stood
  resize_row : (r : ℕ) (i : Region) (j n : ℕ) → Present K R h → r ≡ bucket_root n (place_of j) → (at : IsRowAt R (h ++ c ∷ []) i j n) → (t : Bool)
      → eqb i.slot slot ≡ t → Stands K R h r (Bucket i j) ⊎ New r (Bucket i j)
  resize_row r i j n p is at false e = let ne : i.slot ≢ slot = grind (arith, e) in let ro = w.root in
      inl (n, row_back R h (h ++ c ∷ []) i j n (mask_back R h (h ++ c ∷ []) i.mask i.slot resize_heads at.at_mask) (root_other h c (mask_root i.slot) (omega arith)) at, is)
  resize_row r i j n p is at true e = let same : i.slot ≡ slot = grind (arith, e) in
      let stood = mask_back R h (h ++ c ∷ []) i.mask i.slot resize_heads at.at_mask in
      let root : root_of (h ++ c ∷ []) (mask_root i.slot) ≡ c.named = root_same h c (mask_root i.slot) (w.root ∙ ap mask_root (sym same)) in
      let it : at.mask ≡ mask = some_is at.mask mask (sym (subst (λ (z : Named). read_first R.mask z.chain ≡ Some at.mask) root at.read) ∙ w.read) in
      let one = p.apart (mask_root slot) (Mask i.mask) (Mask m) (i.slot, stood, ap mask_root (sym same)) (slot, w.at, refl) in
      let mask_is : i.mask ≡ m = cc one in
      let stamp_is : i.stamp ≡ c.named.stamp = sym at.stamped ∙ ap (λ (z : Named). z.stamp) root in
      let size_is : i.size ≡ mask.size = sym at.sized ∙ ap (λ (z : MaskRecord). z.size) it in
      inr record {
        k = j;
        row = n;
        is = λ t. Bucket (record { slot = same t; mask = mask_is t; stamp = stamp_is t; size = size_is t }) j;
        inside = subst (λ (z : ℕ). j < z) size_is at.inside;
        there = subst (λ (z : MaskRecord). slice_get z.rows (row_of j) ≡ Some n) it at.there;
        small = at.small;
        root = is;
      }

  -- what stands afterwards stood, or is a bucket of the new rows
  pub resize_comes : (r : ℕ) (x : Role) → Present K R h → Stands K R (h ++ c ∷ []) r x → Stands K R h r x ⊎ New r x
  resize_comes r (Head i) p s = inl s
  resize_comes r (Mask i) p s = inl (s.0, mask_back R h (h ++ c ∷ []) i s.0 resize_heads s.1, s.2)
  resize_comes r (Bucket i j) p s = resize_row r i j s.0 p s.2 s.1 (eqb i.slot slot) refl
  resize_comes r (Action a) p s = inl (s.0, resize_slots a s.0 s.1, s.2, subst (λ (z : S). IsLive K z a) (now_still K h c w.plain) s.3)

  new_filled : (r : ℕ) (x : Role) (n : New r x) → IsFilled K R b h r m mask.size n.k (point_of h) (now_of K h)
  new_filled r x n = subst (λ (z : ℕ). IsFilled K R b h z m mask.size n.k (point_of h) (now_of K h)) (sym n.root) (w.filled n.k n.row n.inside n.there n.small)

  new_other : (r : ℕ) (x : Role) → New r x → c.root ≢ r
  new_other r x n = let is = n.root in let ro = w.root in let small = w.at.small in omega arith

  old_tells : (r : ℕ) (x : Role) → Present K R h → Stands K R h r x → (t : Bool) → eqb c.root r ≡ t
      → Tells K R (edits_of h) x (root_of (h ++ c ∷ []) r) (point_of h)
  old_tells r x p s false e = let ne : c.root ≢ r = grind (arith, e) in subst (λ (z : Named). Tells K R (edits_of h) x z (point_of h)) (sym (root_other h c r ne)) (p.tells r x s)
  old_tells r x p s true e = let is : c.root ≡ r = grind (arith, e) in
      subst (λ (z : Role). Tells K R (edits_of h) z (root_of (h ++ c ∷ []) r) (point_of h)) (p.apart r (Mask m) x (slot, w.at, sym is ∙ w.root) s)
      (subst (λ (z : Named). Tells K R (edits_of h) (Mask m) z (point_of h)) (sym (root_same h c r is)) (tells_once K R (edits_of h) (Mask m) c.named (point_of h) w.stamp w.reads))

  resize_tells : (r : ℕ) (x : Role) → Present K R h → Stands K R h r x ⊎ New r x → Tells K R (edits_of h) x (root_of (h ++ c ∷ []) r) (point_of h)
  resize_tells r x p (inl s) = old_tells r x p s (eqb c.root r) refl
  resize_tells r x p (inr n) = let f = new_filled r x n in let q = region_of slot m c.named.stamp mask in
      subst (λ (z : Role). Tells K R (edits_of h) z (root_of (h ++ c ∷ []) r) (point_of h)) (sym n.is)
      (subst (λ (z : Named). Tells K R (edits_of h) (Bucket q n.k) z (point_of h)) (sym (root_other h c r (new_other r x n)))
      (tells_once K R (edits_of h) (Bucket q n.k) (root_of h r) (point_of h) f.fills.stamp f.fills.reads))

  resize_names : (r : ℕ) (z : Role) (i : Region) (j : ℕ) (fs : List FilterRecord) (f : FilterRecord) (x : Slotted) → Present K R h → z ≡ Bucket i j
      → Stands K R h r z ⊎ New r z → read_all R.filter (root_of (h ++ c ∷ []) r).chain ≡ Some fs
      → IsIn f fs → IsIn x f.actions → IsSlotOf R h x.serial x.slot
  resize_names r z i j fs f x p is (inl s) read inf inx = let at = subst (Stands K R h r) is s in
      let far = at.2 in let ro = w.root in let small = w.at.small in let ne : c.root ≢ r = omega arith in
      p.slots r i j fs f x at (subst (λ (v : Named). read_all R.filter v.chain ≡ Some fs) (root_other h c r ne) read) inf inx
  resize_names r z i j fs f x p is (inr n) read inf inx = (new_filled r z n).fills.names fs f x (subst (λ (v : Named). read_all R.filter v.chain ≡ Some fs) (root_other h c r (new_other r z n)) read) inf inx

  new_apart : (r : ℕ) (x y : Role) → New r x → New r y → x ≡ y
  new_apart r x y n o = n.is ∙ (ap (Bucket (region_of slot m c.named.stamp mask)) (same_bucket mask n.k o.k n.row o.row w.distinct n.there o.there (sym n.root ∙ o.root)) ∙ sym o.is)

  pub resize_keeps : b ≤ length h → Keeps K R h b → Keeps K R (h ++ c ∷ []) b
  resize_keeps low k = adds_keep K R h b c low k record {
    lawful = subst K.Lawful (sym resize_still) p.lawful;
    stamped = subst (λ (z : Option (ℕ × E)). IsStamped (point_of h) z c.named.stamp) (sym w.plain) (inl w.stamp);
    comes = λ r x s. unused r x (resize_comes r x p s);
    tells = λ r x s. subst (λ (z : List E). Tells K R z x (root_of (h ++ c ∷ []) r) (length z)) (sym resize_still) (resize_tells r x p (resize_comes r x p s));
    alone = λ n x lown le s. subst (Stands K R (h ++ c ∷ []) c.root) (sym (since_stood K R h b n c.root x (Mask m) k lown le s (slot, w.at, w.root)))
        (slot, mask_back R (h ++ c ∷ []) h m slot (λ hook one. sym (resize_heads hook one)) w.at, w.root);
    new_apart = λ r x y u s t. apart r x y u (resize_comes r x p s) (resize_comes r y p t);
    slots = λ r i j fs f x s read inf inx. slot_longer R h (c ∷ []) x.serial x.slot (resize_names r (Bucket i j) i j fs f x p refl (resize_comes r (Bucket i j) p s) read inf inx);
    one_slot = λ a s t x y. p.one_slot a s t (resize_slots a s x) (resize_slots a t y);
    one_mask = λ i s t x y. p.one_mask i s t (mask_back R h (h ++ c ∷ []) i s resize_heads x) (mask_back R h (h ++ c ∷ []) i t resize_heads y);
    placed = λ a live. let o = p.placed a (subst (λ (z : S). IsLive K z a) (now_still K h c w.plain) live) in (o.0, slot_longer R h (c ∷ []) a o.0 o.1);
  }
    where
      p : Present K R h
      p = present_end K R h b low k

      unused : (r : ℕ) (x : Role) → Stands K R h r x ⊎ New r x → Stands K R h r x ⊎ IsUnused K R b h r
      unused r x (inl s) = inl s
      unused r x (inr n) = inr (new_filled r x n).unused

      apart : (r : ℕ) (x y : Role) → IsUnused K R b h r → Stands K R h r x ⊎ New r x → Stands K R h r y ⊎ New r y → x ≡ y
      apart r x y u (inl s) t = absurd (unused_end K R h b r x low u s)
      apart r x y u (inr n) (inl t) = absurd (unused_end K R h b r y low u t)
      apart r x y u (inr n) (inr o) = new_apart r x y n o
