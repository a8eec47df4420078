-- A whole resize, from its first commit to its last.
use Rattle.std.proofs.Common.{ℕ, ◌-◌, ◌≤◌, ◌⊎◌, inl, inr, List, [], ◌∷◌, ◌++◌, length, take, ap, sym, ◌∙◌, subst, arith, length-append}
use Rattle.store_history.specs.declared.history.Commit.{Commit}
use Rattle.store_history.specs.declared.history.Named.{Named}
use Rattle.hook_law.specs.Places.{bucket_root, place_of}
use Rattle.hook_law.specs.Records.{MaskRecord, Codec}
use Rattle.hook_law.specs.Meaning.{Meaning, point_of, state_at, now_of}
use Rattle.hook_law.specs.Standing.{Role, Names, region_of, Stands}
use Rattle.hook_law.specs.Telling.{ReadsMask}
use Rattle.hook_law.specs.Keeping.{Keeps}
use Rattle.hook_law.specs.Unnumbered.{HaveOwnRoots, SparesAll, IsFilled, IsFilledBy, Resizes, ResizesWhole}
use Rattle.hook_law.specs.Coming.{IsBucketOf}
use Rattle.hook_law.proofs.Standing.{present_end}
use Rattle.hook_law.proofs.Sparing.{Spared, spares_keep, spares_take}
use Rattle.hook_law.proofs.Preparing.{spares_heads, fills_longer, filled_after}
use Rattle.hook_law.proofs.Resizing.{resize_keeps, resize_comes}

module _ {E S N P : Type 0} (K : Meaning E S N P) (R : Codec N P) where
  -- what one of the rows' commits fills is filled after all of them
  pub row_filled : (h cs : List (Commit E)) (b r m size k : ℕ) → HaveOwnRoots cs → SparesAll K R b h cs → Spared K R b h cs
      → IsFilledBy K R h cs r m size k → IsFilled K R b (h ++ cs) r m size k (point_of (h ++ cs)) (now_of K (h ++ cs))
  row_filled h cs b r m size k own w spared o = subst (λ (z : ℕ). IsFilled K R b (h ++ cs) z m size k (point_of (h ++ cs)) (now_of K (h ++ cs))) o.root
      (subst (λ (edits : List E). IsFilled K R b (h ++ cs) o.commit.root m size k (length edits) (state_at K edits (length edits))) (sym spared.edits)
      (filled_after K R h cs b o.place o.commit w own spared o.there m size k (point_of h) (now_of K h) (fills_longer K R h cs o.commit.named m size k (point_of h) (now_of K h) o.fills)))

  module _ (h cs : List (Commit E)) (b : ℕ) (c : Commit E) (w : ResizesWhole K R b h cs c) where
    abbrev m : ℕ
    m = w.serial

    abbrev slot : ℕ
    slot = w.slot

    abbrev mask : MaskRecord
    mask = w.mask

    abbrev pub whole_resizes : b ≤ length h → Keeps K R h b → Resizes K R b (h ++ cs) c
    whole_resizes low k = let spared = spares_keep K R cs h b low k w.spare in record {
      serial = m;
      slot = slot;
      mask = mask;
      plain = w.plain;
      stamp = w.stamp ∙ ap length (sym spared.edits);
      root = w.root;
      at = record { hook = w.at.hook; one = w.at.one; small = w.at.small; there = subst (λ (z : Named). Names R z.chain m slot) (sym (spares_heads K R h cs b low w.spare w.at.hook w.at.one)) w.at.there };
      read = w.read;
      reads = subst (λ (z : List E). ReadsMask K R m c.named.chain (state_at K z (length z - 1)) (state_at K z (length z))) (sym spared.edits) w.reads;
      filled = λ i row less there small. row_filled h cs b (bucket_root row (place_of i)) m mask.size i w.own_roots w.spare spared (w.filled i row less there small);
      distinct = w.distinct;
    }

    pub whole_keeps : b ≤ length h → Keeps K R h b → Keeps K R ((h ++ cs) ++ c ∷ []) b
    whole_keeps low k = resize_keeps K R (h ++ cs) b c (whole_resizes low k) (omega (arith, length-append h cs)) (spares_keep K R cs h b low k w.spare).keeps

    -- each beginning of the rows' commits keeps the law too
    pub part_keeps : (n : ℕ) → b ≤ length h → Keeps K R h b → Keeps K R (h ++ take n cs) b
    part_keeps n low k = (spares_keep K R (take n cs) h b low k (spares_take K R h b cs n w.spare)).keeps

    -- what stands afterwards stood before, or is a bucket of the new rows
    pub whole_comes : b ≤ length h → Keeps K R h b → (r : ℕ) (x : Role) → Stands K R ((h ++ cs) ++ c ∷ []) r x
        → Stands K R h r x ⊎ IsBucketOf mask (region_of slot m c.named.stamp mask) r x
    whole_comes low k r x s = old (resize_comes K R (h ++ cs) b c (whole_resizes low k) r x (present_end K R (h ++ cs) b (omega (arith, length-append h cs)) spared.keeps) s)
      where
        spared : Spared K R b h cs
        spared = spares_keep K R cs h b low k w.spare

        old : Stands K R (h ++ cs) r x ⊎ IsBucketOf mask (region_of slot m c.named.stamp mask) r x
            → Stands K R h r x ⊎ IsBucketOf mask (region_of slot m c.named.stamp mask) r x
        old (inl t) = inl (spared.back r x t)
        old (inr n) = inr n
