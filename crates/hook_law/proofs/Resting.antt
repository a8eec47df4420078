-- Masks keep their sizes where their roots and their filters stay.
use Rattle.std.proofs.Common.{◌≡◌, ◌≢◌, ℕ, ◌+◌, ◌<◌, ◌≤◌, ◌⊎◌, inl, inr, Bool, true, false, eqb, List, [], ◌∷◌, ◌++◌, length, Some, refl, ap, sym, ◌∙◌, subst, arith, append_assoc, length-append}
use mathlib.Core.List.{append-nil}
use Rattle.store_history.specs.declared.history.Commit.{Commit}
use Rattle.store_history.specs.declared.history.Named.{Named}
use Rattle.store_history.specs.History.{root_of}
use Rattle.store_history.proofs.Lists.{some_is}
use Rattle.store_history.proofs.Histories.{root_other}
use Rattle.hook_law.specs.Places.{mask_root, action_root, head_root}
use Rattle.hook_law.specs.Records.{StatedFilter, MaskRecord, Codec}
use Rattle.hook_law.specs.Chains.{read_first}
use Rattle.hook_law.specs.Meaning.{Meaning, point_of, state_at, now_of, next_of}
use Rattle.hook_law.specs.Standing.{Region, Mask, Names, IsMaskAt}
use Rattle.hook_law.specs.Keeping.{Present, Keeps, HasItsSize, IsAtRest, IsAtRestBut}
use Rattle.hook_law.specs.Unnumbered.{Spares, SparesAll, Resizes, ResizesWhole}
use Rattle.hook_law.specs.Numbered.{Marks, RewritesBucket, MakesAction, ChangesAction}
use Rattle.hook_law.specs.Heads.{IsPrepared, ChangesHead}
use Rattle.hook_law.proofs.Growing.{now_still, now_next, root_same}
use Rattle.hook_law.proofs.Standing.{SameHeads, SameMasks, mask_back, present_end}
use Rattle.hook_law.proofs.Sparing.{spare_heads, spare_masks, spare_keeps, spares_next, spares_keep}
use Rattle.hook_law.proofs.Bucketing.{rewrite_heads, rewrite_masks}
use Rattle.hook_law.proofs.Resizing.{resize_heads}
use Rattle.hook_law.proofs.Whole.{whole_resizes}
use Rattle.hook_law.proofs.Heading.{Fresh, head_masks, sort_mask}

module _ {E S N P : Type 0} (K : Meaning E S N P) (R : Codec N P) where
  size_stays : (g h : List (Commit E)) (m : ℕ) → SameHeads R g h → SameMasks R g h → K.filters (now_of K h) m ≡ K.filters (now_of K g) m
      → HasItsSize K R g m → HasItsSize K R h m
  size_stays g h m heads masks filters has slot mask at read = let low = mask_back R g h m slot heads at in
      has slot mask low (subst (λ (z : Named). read_first R.mask z.chain ≡ Some mask) (masks m slot low) read) ∙ ap (λ (fs : List StatedFilter). K.size_for (length fs)) (sym filters)

  pub spare_rests : (h : List (Commit E)) (b : ℕ) (c : Commit E) → b ≤ length h → Spares K R b h c → (m : ℕ) → HasItsSize K R h m
      → HasItsSize K R (h ++ c ∷ []) m
  spare_rests h b c low w m has = size_stays h (h ++ c ∷ []) m (spare_heads K R h b c low w) (spare_masks K R h b c low w) (ap (λ (s : S). K.filters s m) (now_still K h c w.plain)) has

  pub spares_rest : (cs h : List (Commit E)) (b : ℕ) → b ≤ length h → Keeps K R h b → SparesAll K R b h cs → (m : ℕ) → HasItsSize K R h m
      → HasItsSize K R (h ++ cs) m
  spares_rest [] h b low k w m has = subst (λ (z : List (Commit E)). HasItsSize K R z m) (sym (append-nil h)) has
  spares_rest (d ∷ ds) h b low k w m has = let one = w.each 0 d refl in subst (λ (z : List (Commit E)). HasItsSize K R z m) (append_assoc h (d ∷ []) ds)
      (spares_rest ds (h ++ d ∷ []) b (omega (arith, length-append h (d ∷ []))) (spare_keeps K R h b d low k one) (spares_next K R h b d ds low k w) m (spare_rests h b d low one m has))

  -- the last commit of a resize brings the mask to rest, where its size is the one for its filters
  pub resize_rests : (h : List (Commit E)) (b : ℕ) (c : Commit E) → b ≤ length h → Keeps K R h b → (w : Resizes K R b h c)
      → w.mask.size ≡ K.size_for (length (K.filters (now_of K h) w.serial)) → IsAtRestBut K R h w.serial → IsAtRest K R (h ++ c ∷ [])
  resize_rests h b c low k w size rest n s other at read = pick (eqb n m) refl
    where
      m : ℕ
      m = w.serial

      slot : ℕ
      slot = w.slot

      mask : MaskRecord
      mask = w.mask

      p : Present K R h
      p = present_end K R h b low k

      stood : IsMaskAt R h n s
      stood = mask_back R h (h ++ c ∷ []) n s (resize_heads K R h b c w) at

      still : (i : ℕ) → K.filters (now_of K (h ++ c ∷ [])) i ≡ K.filters (now_of K h) i
      still i = ap (λ (z : S). K.filters z i) (now_still K h c w.plain)

      far : n ≢ m → c.root ≢ mask_root s
      far ne is = let ro = w.root in let same : slot ≡ s = omega arith in
          let one = p.apart (mask_root s) (Mask n) (Mask m) (s, stood, refl) (slot, w.at, ap mask_root (sym same)) in ne (cc one)

      pick : (t : Bool) → eqb n m ≡ t → other.size ≡ K.size_for (length (K.filters (now_of K (h ++ c ∷ [])) n))
      pick false e = let ne : n ≢ m = grind (arith, e) in
          rest n ne s other stood (subst (λ (z : Named). read_first R.mask z.chain ≡ Some other) (root_other h c (mask_root s) (far ne)) read) ∙ ap (λ (fs : List StatedFilter). K.size_for (length fs)) (sym (still n))
      pick true e = let is : n ≡ m = grind (arith, e) in
          let slots : slot ≡ s = p.one_mask m slot s w.at (subst (λ (z : ℕ). IsMaskAt R h z s) is stood) in
          let it : other ≡ mask = some_is other mask (sym (subst (λ (z : Named). read_first R.mask z.chain ≡ Some other) (root_same h c (mask_root s) (w.root ∙ ap mask_root slots)) read) ∙ w.read) in
          ap (λ (z : MaskRecord). z.size) it ∙ (size ∙ (ap (λ (z : ℕ). K.size_for (length (K.filters (now_of K h) z))) (sym is) ∙ ap (λ (fs : List StatedFilter). K.size_for (length fs)) (sym (still n))))

  pub whole_rests : (h cs : List (Commit E)) (b : ℕ) (c : Commit E) → b ≤ length h → Keeps K R h b → (w : ResizesWhole K R b h cs c)
      → w.mask.size ≡ K.size_for (length (K.filters (now_of K h) w.serial)) → IsAtRestBut K R h w.serial → IsAtRest K R ((h ++ cs) ++ c ∷ [])
  whole_rests h cs b c low k w size rest = let spared = spares_keep K R cs h b low k w.spare in
      resize_rests (h ++ cs) b c (omega (arith, length-append h cs)) spared.keeps (whole_resizes K R h cs b c w low k)
      (size ∙ ap (λ (edits : List E). K.size_for (length (K.filters (state_at K edits (length edits)) w.serial))) (sym spared.edits))
      (λ n ne. spares_rest cs h b low k w.spare n (rest n ne))

  -- numbered commits to roots that are neither a head's nor a mask's, for a mask whose filters stay
  write_rests : (h : List (Commit E)) (c : Commit E) (y : E) (m number : ℕ) → ((r : ℕ) → head_root 0 ≤ r → r < action_root 0 → c.root ≢ r)
      → c.edit ≡ Some (number, y)
      → K.filters (next_of K h y) m ≡ K.filters (now_of K h) m → HasItsSize K R h m → HasItsSize K R (h ++ c ∷ []) m
  write_rests h c y m number high carries same has = size_stays h (h ++ c ∷ []) m
      (λ hook one. root_other h c (head_root hook) (high (head_root hook) (omega arith) (omega arith)))
      (λ n slot at. let small = at.small in root_other h c (mask_root slot) (high (mask_root slot) (omega arith) (omega arith)))
      (ap (λ (s : S). K.filters s m) (now_next K h c number y carries) ∙ same) has

  pub mark_rests : (h : List (Commit E)) (c : Commit E) (y : E) → Marks K R h c y → IsAtRest K R (h ++ c ∷ [])
  mark_rests h c y w m = write_rests h c y m (point_of h + 1) (λ r low high is. let ro = w.root in omega arith) w.carries.number (w.leaves.filters m) (w.rest m)

  pub make_rests : (h : List (Commit E)) (b : ℕ) (c : Commit E) (y : E) → MakesAction K R b h c y → IsAtRest K R (h ++ c ∷ [])
  make_rests h b c y w m = write_rests h c y m (point_of h + 1) (λ r low high is. let ro = w.root in omega arith) w.carries.number (w.touches.filters m) (w.rest m)

  pub change_rests : (h : List (Commit E)) (c : Commit E) (y : E) → ChangesAction K R h c y → IsAtRest K R (h ++ c ∷ [])
  change_rests h c y w m = write_rests h c y m (point_of h + 1) (λ r low high is. let ro = w.root in omega arith) w.carries.number (w.touches.filters m) (w.rest m)

  -- an edit of a bucket leaves every other mask at rest, and its own where the size is still the one for the
  -- filters
  pub rewrite_rests_others : (h : List (Commit E)) (b : ℕ) (c : Commit E) (y : E) (w : RewritesBucket K R b h c y)
      → IsAtRestBut K R (h ++ c ∷ []) w.region.mask
  rewrite_rests_others h b c y w m ne = write_rests h c y m (point_of h + 1) (λ r low high is. let ro = w.root in omega arith) w.carries.number (w.touches.others.filters m ne) (w.rest m)

  pub rewrite_rests : (h : List (Commit E)) (b : ℕ) (c : Commit E) (y : E) → b ≤ length h → Keeps K R h b → (w : RewritesBucket K R b h c y)
      → w.region.size ≡ K.size_for (length (K.filters (next_of K h y) w.region.mask)) → IsAtRest K R (h ++ c ∷ [])
  rewrite_rests h b c y low kept w size m slot mask at read = pick (eqb m q.mask) refl
    where
      q : Region
      q = w.region

      stood : IsMaskAt R h m slot
      stood = mask_back R h (h ++ c ∷ []) m slot (rewrite_heads K R h b c y w) at

      read_before : read_first R.mask (root_of h (mask_root slot)).chain ≡ Some mask
      read_before = subst (λ (z : Named). read_first R.mask z.chain ≡ Some mask) (rewrite_masks K R h b c y w m slot stood) read

      pick : (t : Bool) → eqb m q.mask ≡ t → mask.size ≡ K.size_for (length (K.filters (now_of K (h ++ c ∷ [])) m))
      pick false e = rewrite_rests_others h b c y w m (grind (arith, e)) slot mask at read
      pick true e = let is : m ≡ q.mask = grind (arith, e) in
          let slots : slot ≡ q.slot = (present_end K R h b low kept).one_mask q.mask slot q.slot (subst (λ (z : ℕ). IsMaskAt R h z slot) is stood) w.at.at_mask in
          let it : mask ≡ w.at.mask = some_is mask w.at.mask (sym read_before ∙ (ap (λ (z : ℕ). read_first R.mask (root_of h (mask_root z)).chain) slots ∙ w.at.read)) in
          ap (λ (z : MaskRecord). z.size) it ∙ (w.at.sized ∙ (size ∙ (ap (λ (z : ℕ). K.size_for (length (K.filters (next_of K h y) z))) (sym is)
          ∙ ap (λ (s : S). K.size_for (length (K.filters s m))) (sym (now_next K h c (point_of h + 1) y w.carries.number)))))

  -- a head that names masks at rest, where those that were prepared have the sizes for their filters
  pub head_rests : (h : List (Commit E)) (b : ℕ) (c : Commit E) (y : E) (w : ChangesHead K R b h c y)
      → ((m slot : ℕ) (o : IsPrepared K R b h y m slot) → Names R c.named.chain m slot → o.record_read.size ≡ K.size_for (length (K.filters (next_of K h y) m))) → IsAtRest K R (h ++ c ∷ [])
  head_rests h b c y w sized m slot mask at read = pick (sort_mask K R h b c y w m slot at) ∙ ap (λ (s : S). K.size_for (length (K.filters s m))) (sym (now_next K h c (point_of h + 1) y w.carries.number))
    where
      read_before : read_first R.mask (root_of h (mask_root slot)).chain ≡ Some mask
      read_before = subst (λ (z : Named). read_first R.mask z.chain ≡ Some mask) (head_masks K R h b c y w slot) read

      pick : IsMaskAt R h m slot ⊎ Fresh K R h b c y w m slot → mask.size ≡ K.size_for (length (K.filters (next_of K h y) m))
      pick (inl o) = w.rest m slot mask o read_before ∙ ap (λ (fs : List StatedFilter). K.size_for (length fs)) (sym (w.stays m slot o at).1)
      pick (inr f) = ap (λ (z : MaskRecord). z.size) (some_is mask f.prepared.record_read (sym read_before ∙ f.prepared.read)) ∙ sized m slot f.prepared f.names
