-- The laws of commits to a bucket's root.
use Rattle.std.proofs.Common.{◌≡◌, ◌≢◌, ℕ, ◌+◌, ◌≤◌, ◌⊎◌, inl, inr, Bool, true, false, eqb, List, [], ◌∷◌, ◌++◌, length, slice_get, Some, refl, ap, sym, ◌∙◌, subst, arith}
use Rattle.store_history.specs.declared.history.Commit.{Commit}
use Rattle.store_history.specs.History.{root_of}
use Rattle.store_history.proofs.Lists.{some_is}
use Rattle.store_history.proofs.Histories.{root_other}
use Rattle.hook_law.specs.Places.{head_root, mask_root, bucket_root, row_of, place_of}
use Rattle.hook_law.specs.Records.{MaskRecord, Codec}
use Rattle.hook_law.specs.Chains.{read_first, bucket_of}
use Rattle.hook_law.specs.Meaning.{Meaning, point_of, now_of, before_of, next_of, IsLive}
use Rattle.hook_law.specs.Standing.{Region, Role, Head, Mask, Bucket, Action, IsIn, IsMaskAt, IsRowAt, IsSlotOf, Stands}
use Rattle.hook_law.specs.Telling.{Reads}
use Rattle.hook_law.specs.Keeping.{Present, Keeps}
use Rattle.hook_law.specs.Numbered.{IsPutAction, PutsActions, RewritesBucket}
use Rattle.hook_law.specs.Coming.{IsMade}
use Rattle.hook_law.proofs.Growing.{now_next}
use Rattle.hook_law.proofs.Standing.{SameHeads, SameMasks, mask_back, bucket_back, slot_longer, present_end}
use Rattle.hook_law.proofs.Writing.{Writes, HereOld, write_keeps, write_other}
use Rattle.hook_law.proofs.Staying.{head_stays, mask_stays, bucket_stays, action_stays}

module _ {E S N P : Type 0} (K : Meaning E S N P) (R : Codec N P) where
  -- where the edit's actions were put, each live action has a slot
  pub put_placed : (h : List (Commit E)) (b : ℕ) (y : E) (a : ℕ) → Present K R h → PutsActions K R b h y → IsLive K (next_of K h y) a
      → (slot : ℕ) × IsSlotOf R h a slot
  put_placed h b y a p made live = pick (made a live)
    where
      pick : IsLive K (now_of K h) a ⊎ IsPutAction K R b h y a → (slot : ℕ) × IsSlotOf R h a slot
      pick (inl l) = p.placed a l
      pick (inr put) = (put.slot, put.there)

  -- a mask has one size, and one row for a bucket
  same_row : (h : List (Commit E)) (q : Region) (k row : ℕ) (z : Region) (i line : ℕ) → Present K R h → q.mask ≡ z.mask → IsRowAt R h q k row
      → IsRowAt R h z i line → (q.size ≡ z.size) × (k ≡ i → row ≡ line)
  same_row h q k row z i line p one a d =
      let slot = p.one_mask z.mask q.slot z.slot (subst (λ (v : ℕ). IsMaskAt R h v q.slot) one a.at_mask) d.at_mask in
      let read : read_first R.mask (root_of h (mask_root z.slot)).chain ≡ Some a.mask = subst (λ (v : ℕ). read_first R.mask (root_of h (mask_root v)).chain ≡ Some a.mask) slot a.read in
      let same : a.mask ≡ d.mask = some_is a.mask d.mask (sym read ∙ d.read) in (
        sym a.sized ∙ (ap (λ (v : MaskRecord). v.size) same ∙ d.sized),
        λ is. some_is row line (sym a.there ∙ (ap (λ (v : MaskRecord). slice_get v.rows (row_of k)) same ∙ (ap (λ (v : ℕ). slice_get d.mask.rows (row_of v)) is ∙ d.there))),
      )

  module _ (h : List (Commit E)) (b : ℕ) (c : Commit E) (y : E) (w : RewritesBucket K R b h c y) where
    abbrev q : Region
    q = w.region

    abbrev k : ℕ
    k = w.k

    abbrev row : ℕ
    row = w.row

    pub rewrite_heads : SameHeads R h (h ++ c ∷ [])
    rewrite_heads hook one = let ro = w.root in root_other h c (head_root hook) (omega arith)

    pub rewrite_masks : SameMasks R h (h ++ c ∷ [])
    rewrite_masks m slot at = let ro = w.root in let small = at.small in root_other h c (mask_root slot) (omega arith)

    -- the rewritten bucket's root stands for it before and after
    rewrite_here : HereOld K R h c
    rewrite_here = record {
      role = Bucket q k;
      before = (row, w.at, w.root);
      after = (row, bucket_back R (h ++ c ∷ []) h q k row (λ hook one. sym (rewrite_heads hook one)) (λ m slot at. sym (rewrite_masks m slot (mask_back R h (h ++ c ∷ []) m slot rewrite_heads at))) w.at, w.root);
      slot = λ a s puts. let ro = w.root in let is = puts.root in let small = puts.small in absurd (omega arith);
    }

    rewrite_itself : (x : Role) → Stands K R (h ++ c ∷ []) c.root x → Stands K R h c.root x
    rewrite_itself (Head i) s = s
    rewrite_itself (Mask n) s = (s.0, mask_back R h (h ++ c ∷ []) n s.0 rewrite_heads s.1, s.2)
    rewrite_itself (Bucket z i) s = (s.0, bucket_back R h (h ++ c ∷ []) z i s.0 rewrite_heads rewrite_masks s.1, s.2)
    rewrite_itself (Action a) s = let ro = w.root in let is = s.2 in let small = s.1.puts.small in absurd (omega arith)

    -- every other bucket has the filters that it had
    bucket_same : (r : ℕ) (z : Region) (i : ℕ) → Present K R h → c.root ≢ r → Stands K R h r (Bucket z i) → (t : Bool) → eqb z.mask q.mask ≡ t
        → bucket_of K.hash z.size i (K.filters (next_of K h y) z.mask) ≡ bucket_of K.hash z.size i (K.filters (now_of K h) z.mask)
    bucket_same r z i p ne s false e = let other : z.mask ≢ q.mask = grind (arith, e) in ap (bucket_of K.hash z.size i) (w.touches.others.filters z.mask other)
    bucket_same r z i p ne s true e = let same : z.mask ≡ q.mask = grind (arith, e) in
        let one = same_row h q k row z i s.0 p (sym same) w.at s.1 in
        let far : i ≢ k = λ is. ne (w.root ∙ (ap (λ (v : ℕ). bucket_root row (place_of v)) (sym is) ∙ (ap (λ (v : ℕ). bucket_root v (place_of i)) (one.1 (sym is)) ∙ sym s.2))) in
        moved z i same one.0 (w.touches.buckets i far)
      where
        moved : (z : Region) (i : ℕ) → z.mask ≡ q.mask → q.size ≡ z.size
            → bucket_of K.hash q.size i (K.filters (next_of K h y) q.mask) ≡ bucket_of K.hash q.size i (K.filters (now_of K h) q.mask)
            → bucket_of K.hash z.size i (K.filters (next_of K h y) z.mask) ≡ bucket_of K.hash z.size i (K.filters (now_of K h) z.mask)
        moved z i mask size e = subst (λ (v : ℕ). bucket_of K.hash v i (K.filters (next_of K h y) z.mask) ≡ bucket_of K.hash v i (K.filters (now_of K h) z.mask)) size
            (subst (λ (v : ℕ). bucket_of K.hash q.size i (K.filters (next_of K h y) v) ≡ bucket_of K.hash q.size i (K.filters (now_of K h) v)) (sym mask) e)

    rewrite_others : (r : ℕ) (x : Role) → Present K R h → c.root ≢ r → Stands K R h r x → Stands K R (h ++ c ∷ []) r x
        → Reads K R x (root_of h r).chain (before_of K h) (now_of K h) → Reads K R x (root_of h r).chain (now_of K h) (next_of K h y)
    rewrite_others r (Head i) p ne s s' t = head_stays K R i (root_of h r).chain (now_of K h) (next_of K h y) (w.touches.others.heads i) t
    rewrite_others r (Mask n) p ne s s' t = mask_stays K R h n s.0 r (before_of K h) (next_of K h y) w.rest s.1 s.2 (w.touches.others.words n) t
    rewrite_others r (Bucket z i) p ne s s' t = bucket_stays K R z.mask z.size i (root_of h r).chain (now_of K h) (next_of K h y) (bucket_same r z i p ne s (eqb z.mask q.mask) refl) t
    rewrite_others r (Action a) p ne s s' t = action_stays K R a (root_of h r).chain (now_of K h) (next_of K h y) w.touches.others.params
        (subst (λ (v : S). IsLive K v a) (now_next K h c (point_of h + 1) y w.carries.number) s'.3) t

    rewrite_writes : Present K R h → Writes K R b h c y
    rewrite_writes p = record {
      carries = w.carries;
      high = λ r lo hi is. let ro = w.root in omega arith;
      here = inl rewrite_here;
      own_reads = λ x s. subst (λ (z : Role). Reads K R z c.named.chain (now_of K h) (next_of K h y)) (p.apart c.root (Bucket q k) x (row, w.at, w.root) (rewrite_itself x s)) record { filters = w.filters; read = w.read; are = w.are };
      others = λ r x ne s s' t. rewrite_others r x p ne s s' t;
      made = λ a s live x. w.made a live;
      placed = λ a live. let o = put_placed h b y a p w.made live in (o.0, slot_longer R h (c ∷ []) a o.0 o.1);
      names = λ z i gs g x s read inf inx. slot_longer R h (c ∷ []) x.serial x.slot (w.names g x (subst (IsIn g) (some_is gs w.filters (sym read ∙ w.read)) inf) inx);
    }

    pub rewrite_keeps : b ≤ length h → Keeps K R h b → Keeps K R (h ++ c ∷ []) b
    rewrite_keeps low kept = write_keeps K R h b c y low kept (rewrite_writes (present_end K R h b low kept))

    -- nothing comes to stand but actions that were put
    pub rewrite_comes : b ≤ length h → Keeps K R h b → (r : ℕ) (x : Role) → Stands K R (h ++ c ∷ []) r x → Stands K R h r x ⊎ IsMade K R b h y r x
    rewrite_comes low kept r x s = pick (eqb c.root r) refl
      where
        p : Present K R h
        p = present_end K R h b low kept

        pick : (t : Bool) → eqb c.root r ≡ t → Stands K R h r x ⊎ IsMade K R b h y r x
        pick true e = let is : c.root ≡ r = grind (arith, e) in inl (subst (λ (z : ℕ). Stands K R h z x) is (rewrite_itself x (subst (λ (z : ℕ). Stands K R (h ++ c ∷ []) z x) (sym is) s)))
        pick false e = write_other K R h b c y r x p (rewrite_writes p) (grind (arith, e)) s
