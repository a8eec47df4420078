-- What a look-up of a mask is told.
use Rattle.std.proofs.Common.{◌≡◌, ℕ, ◌<◌, ◌≤◌, List, length, take, slice_get, Some, refl, subst, arith, ◌-◌, ap, sym, ◌∙◌, le_refl}
use Rattle.store_history.specs.declared.history.Commit.{Commit}
use Rattle.store_history.specs.declared.history.Named.{Named}
use Rattle.store_history.specs.History.{root_of, edits_of}
use Rattle.hook_law.specs.Places.{rows, head_root, hooks, mask_root, bucket_root, row_of, place_of}
use Rattle.hook_law.specs.Records.{MaskRecord, Codec}
use Rattle.hook_law.specs.Chains.{read_first}
use Rattle.hook_law.specs.Meaning.{Meaning, point_of, state_at}
use Rattle.hook_law.specs.Standing.{Region, Head, Mask, Bucket, region_of, IsMaskAt, IsRowAt}
use Rattle.hook_law.specs.Telling.{SizeFits, Tells}
use Rattle.hook_law.specs.Keeping.{Keeps}
use Rattle.hook_law.specs.Told.{ToldMask, ToldRow}
use Rattle.store_history.proofs.Lists.{some_is}
use Rattle.hook_law.proofs.Points.{tells_all}
use Rattle.hook_law.proofs.Pushing.{last_at_end, told}
use Rattle.hook_law.proofs.Standing.{present_end}

module _ {E S N P : Type 0} (K : Meaning E S N P) (R : Codec N P) where
  pub head_told : (h : List (Commit E)) (b hook : ℕ) → Keeps K R h b → b ≤ length h → hook < hooks
      → Tells K R (edits_of h) (Head hook) (root_of h (head_root hook)) (point_of h)
  head_told h b hook k low one = (present_end K R h b low k).tells (head_root hook) (Head hook) (one, refl)

  pub mask_stood : (h : List (Commit E)) (b n m slot : ℕ) → Keeps K R h b → b ≤ n → n ≤ length h → IsMaskAt R (take n h) m slot
      → ToldMask R h n m slot
  mask_stood h b n m slot k low high at = let o = last_at_end K R h b n (mask_root slot) (Mask m) k low high (slot, at, refl) in
      let s = o.3 in let e = s.2 in let same : s.0 ≡ slot = omega arith in record {
        at = o.0;
        late = o.1;
        made = o.2;
        stood = subst (IsMaskAt R (take o.0 h) m) same s.1;
        same = o.4;
      }

  pub mask_tells : (h : List (Commit E)) (b n m slot : ℕ) → Keeps K R h b → b ≤ n → n ≤ length h → IsMaskAt R (take n h) m slot
      → Tells K R (edits_of h) (Mask m) (root_of (take n h) (mask_root slot)) (point_of (take n h))
  mask_tells h b n m slot k low high at = tells_all K R h n (Mask m) (root_of (take n h) (mask_root slot)) ((k.present n low high).tells (mask_root slot) (Mask m) (slot, at, refl))

  pub row_tells : (h : List (Commit E)) (b n m slot i row : ℕ) (mask : MaskRecord) → Keeps K R h b → b ≤ n → n ≤ length h
      → IsMaskAt R (take n h) m slot
      → read_first R.mask (root_of (take n h) (mask_root slot)).chain ≡ Some mask → i < mask.size → slice_get mask.rows (row_of i) ≡ Some row
      → row < rows
      → ToldRow K R h n (region_of slot m (root_of (take n h) (mask_root slot)).stamp mask) i row
  row_tells h b n m slot i row mask k low high at read less there small =
      let q : Region = region_of slot m (root_of (take n h) (mask_root slot)).stamp mask in
      let o = told K R h b n (bucket_root row (place_of i)) (Bucket q i) k low high
      (row, record { mask = mask; at_mask = at; read = read; stamped = refl; sized = refl; inside = less; there = there; small = small }, refl) in
      let s = o.stood in let e = s.2 in let same : s.0 ≡ row = omega arith in
      record { at = o.at; late = o.late; made = o.made; stood = subst (IsRowAt R (take o.at h) q i) same s.1; same = o.same; tells = o.tells }

  -- the state at a point has the words of a record that tells it, and the record's size fits
  record_tells : (edits : List E) (m : ℕ) (named : Named) (point p : ℕ) (mask : MaskRecord) → Tells K R edits (Mask m) named point
      → read_first R.mask named.chain ≡ Some mask → named.stamp ≤ p → p ≤ point
      → (K.words (state_at K edits p) m ≡ mask.words) × SizeFits K mask.size m (state_at K edits (p - 1)) (state_at K edits p)
  record_tells edits m named point p mask t read low high = let o = t.reads p low high in let same : o.mask ≡ mask = some_is o.mask mask (sym o.read ∙ read) in
      (sym o.words ∙ ap (λ (z : MaskRecord). z.words) same, subst (λ (z : MaskRecord). SizeFits K z.size m (state_at K edits (p - 1)) (state_at K edits p)) same o.size)

  -- a record that was read at one time is right up to the point of a later one at which the root has its
  -- stamp and size
  pub record_holds : (h : List (Commit E)) (b n at m slot k row p : ℕ) (mask : MaskRecord) → Keeps K R h b → b ≤ n → n ≤ at → at ≤ length h
      → IsMaskAt R (take n h) m slot
      → read_first R.mask (root_of (take n h) (mask_root slot)).chain ≡ Some mask
      → IsRowAt R (take at h) (region_of slot m (root_of (take n h) (mask_root slot)).stamp mask) k row
      → (root_of (take n h) (mask_root slot)).stamp ≤ p → p ≤ point_of (take at h)
      → (K.words (state_at K (edits_of h) p) m ≡ mask.words) × SizeFits K mask.size m (state_at K (edits_of h) (p - 1)) (state_at K (edits_of h) p)
  record_holds h b n at m slot k row p mask kept low late made stood read row_at since until =
      let first = mask_tells h b n m slot kept low (omega arith) stood in
      let then = mask_tells h b at m slot kept (omega arith) made row_at.at_mask in
      let stamp = (root_of (take n h) (mask_root slot)).stamp in
      let early : (root_of (take at h) (mask_root slot)).stamp ≤ stamp = omega (arith, row_at.stamped) in
      let early_p : (root_of (take at h) (mask_root slot)).stamp ≤ p = omega (arith, row_at.stamped) in
      let once = record_tells (edits_of h) m (root_of (take n h) (mask_root slot)) (point_of (take n h)) stamp mask first read (le_refl stamp) first.early in
      let again = record_tells (edits_of h) m (root_of (take at h) (mask_root slot)) (point_of (take at h)) stamp row_at.mask then row_at.read early (omega arith) in
      let now = record_tells (edits_of h) m (root_of (take at h) (mask_root slot)) (point_of (take at h)) p row_at.mask then row_at.read early_p until in
      (now.0 ∙ (sym again.0 ∙ once.0), subst (λ (z : ℕ). SizeFits K z m (state_at K (edits_of h) (p - 1)) (state_at K (edits_of h) p)) row_at.sized now.1)
