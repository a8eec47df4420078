-- A mask that was prepared stays so under further commits to other roots.
use Rattle.std.proofs.Common.{◌≡◌, ◌≢◌, ◌∙◌, ℕ, ◌+◌, ◌<◌, ◌≤◌, List, ◌++◌, length, slice_get, Some, sym, ap, subst}
use Rattle.store_history.specs.declared.history.Commit.{Commit}
use Rattle.store_history.specs.declared.history.Named.{Named}
use Rattle.store_history.specs.History.{root_of}
use Rattle.filter_state.specs.declared.edit.Edit.{Edit}
use Rattle.hook_law.specs.Places.{rows, mask_root, bucket_root, row_of, place_of}
use Rattle.hook_law.specs.Chains.{read_first}
use Rattle.hook_law.specs.Meaning.{point_of, state_at, now_of, next_of}
use Rattle.hook_law.specs.Standing.{Mask}
use Rattle.hook_law.specs.Telling.{Reads}
use Rattle.hook_law.specs.Keeping.{Keeps}
use Rattle.hook_law.specs.Unnumbered.{SparesAll, FillsBucket, IsFilled}
use Rattle.hook_law.specs.Numbered.{IsPut}
use Rattle.hook_law.specs.Heads.{IsPrepared}
use Rattle.hook_law.proofs.Lists.{root_of_none}
use Rattle.hook_law.proofs.Sparing.{Spared, spares_keep}
use Rattle.hook_law.proofs.Preparing.{fills_longer}
use Rattle.hook_store_law.specs.Stated.{hook_meaning}
use Rattle.hook_store_law.specs.Blocks.{hook_codec}

module _ (g cs : List (Commit Edit)) (b : ℕ) (y : Edit) (m slot : ℕ) (low : b ≤ length g) (keeps : Keeps hook_meaning hook_codec g b) (spares : SparesAll hook_meaning hook_codec b g cs)
    (p : IsPrepared hook_meaning hook_codec b g y m slot) (at_slot : (j : ℕ) (c : Commit Edit) → slice_get cs j ≡ Some c → c.root ≢ mask_root slot)
    (at_rows : (j : ℕ) (c : Commit Edit) (k row : ℕ) → slice_get cs j ≡ Some c → k < p.record_read.size → slice_get p.record_read.rows (row_of k) ≡ Some row → c.root ≢ bucket_root row (place_of k)) where
  spared : Spared hook_meaning hook_codec b g cs
  spared = spares_keep hook_meaning hook_codec cs g b low keeps spares

  slot_same : root_of (g ++ cs) (mask_root slot) ≡ root_of g (mask_root slot)
  slot_same = root_of_none g cs (mask_root slot) at_slot

  -- what holds of the commits' edits and of what a root names, it holds afterwards
  put_stays : IsPut hook_meaning hook_codec b (g ++ cs) y (mask_root slot) (Mask m)
  put_stays = record {
    unused = spared.unused (mask_root slot) p.put.unused;
    stamp = ap (λ (n : Named). n.stamp) slot_same ∙ (p.put.stamp ∙ ap (λ (es : List Edit). length es + 1) (sym spared.edits));
    reads = subst (λ (n : Named). Reads hook_meaning hook_codec (Mask m) n.chain (now_of hook_meaning (g ++ cs)) (next_of hook_meaning (g ++ cs) y)) (sym slot_same)
        (subst (λ (es : List Edit). Reads hook_meaning hook_codec (Mask m) (root_of g (mask_root slot)).chain (state_at hook_meaning es (length es)) (hook_meaning.step (state_at hook_meaning es (length es)) y)) (sym spared.edits) p.put.reads);
  }

  filled_stays : (k row : ℕ) → k < p.record_read.size → slice_get p.record_read.rows (row_of k) ≡ Some row → row < rows
      → IsFilled hook_meaning hook_codec b (g ++ cs) (bucket_root row (place_of k)) m p.record_read.size k (point_of (g ++ cs) + 1) (next_of hook_meaning (g ++ cs) y)
  filled_stays k row less there small = let f = p.filled k row less there small in let r : ℕ = bucket_root row (place_of k) in
      let same : root_of (g ++ cs) r ≡ root_of g r = root_of_none g cs r (λ j c at. at_rows j c k row at less there) in record {
        unused = spared.unused r f.unused;
        fills = subst (λ (n : Named). FillsBucket hook_meaning hook_codec (g ++ cs) n m p.record_read.size k (point_of (g ++ cs) + 1) (next_of hook_meaning (g ++ cs) y)) (sym same)
            (subst (λ (es : List Edit). FillsBucket hook_meaning hook_codec (g ++ cs) (root_of g r) m p.record_read.size k (length es + 1) (hook_meaning.step (state_at hook_meaning es (length es)) y)) (sym spared.edits)
            (fills_longer hook_meaning hook_codec g cs (root_of g r) m p.record_read.size k (point_of g + 1) (next_of hook_meaning g y) f.fills));
      }

  pub prepared_stays : IsPrepared hook_meaning hook_codec b (g ++ cs) y m slot
  prepared_stays = record {
    put = put_stays;
    record_read = p.record_read;
    read = ap (λ (n : Named). read_first hook_codec.mask n.chain) slot_same ∙ p.read;
    filled = filled_stays;
    distinct = p.distinct;
  }
