-- What is known of masks and tables goes on, as long as the roots of heads, masks and buckets name what they
-- named.
use Rattle.std.proofs.Common.{◌≡◌, ◌≢◌, ◌∙◌, ◌⊎◌, inl, inr, ℕ, ◌/◌, ◌<◌, ◌≤◌, List, length, map, Some, refl, sym, ap, subst, arith}
use Rattle.std.specs.Prelude.{slice_index}
use Rattle.std.proofs.lemmas.Option.{slice_get-get_or}
use Rattle.tc_base.specs.declared.hook.Hook.{Hook}
use Rattle.tc_base.specs.declared.hook.Hook.TheVariants as hooks
use Rattle.store_history.specs.declared.history.Named.{Named}
use Rattle.store_history.specs.declared.history.Commit.{Commit}
use Rattle.store_history.specs.History.{root_of}
use Rattle.pin_store.specs.declared.shape.Shape.{Shape}
use Rattle.pin_store.specs.Layout.{block_words}
use Rattle.filter_state.specs.declared.edit.Edit.{Edit}
use Rattle.filter_state.specs.Sound.{Sound}
use Rattle.mask_table.specs.declared.mirrors.mirror.KeptMask.{KeptMask}
use Rattle.mask_table.specs.OfMirrors.Kept.{Names}
use Rattle.store_history.specs.Reads.{read_first}
use Rattle.store_history.specs.declared.places.TheConstants.{ACTION_ROOTS, BUCKET_ROOTS}
use Rattle.block_codec.specs.OfReadings.Read.{mask_of_words}
use Rattle.mask_table.specs.Buckets.{mask_root}
use Rattle.mask_table.proofs.Limits.{IsWithin, within}
use Rattle.mask_writer.specs.Masks.{Masks}
use Rattle.mask_writer.specs.Standing.{StandsAt, BucketOf, Holds}
use Rattle.mask_writer.proofs.Standing.{held_later, record_read}
use Rattle.miniq_pair.specs.Heads.{head_root}
use Rattle.desk_masks.specs.OfMaskResizes.Resized.{stored_now}
use Rattle.hook_law.specs.Places as places
use Rattle.hook_law.specs.Meaning.{point_of, now_of}
use Rattle.hook_law.specs.Standing.{Head, Mask, Bucket, IsSlotOf, Stands, region_of}
use Rattle.hook_law.specs.Keeping.{Keeps}
use Rattle.hook_law.proofs.Standing.{mask_back}
use Rattle.hook_store_law.specs.Stated.{hook_meaning, filters_at}
use Rattle.hook_store_law.specs.Blocks.{mask_record, hook_codec}
use Rattle.hook_store_law.specs.Told.{with_slots}
use Rattle.hook_store_law.proofs.Reading.{first_maps}
use Rattle.root_pool_laws.specs.Pools.{IsEmptyRoot}
use Rattle.desk_masks.specs.declared.hook_tables.HookTables.{HookTables}
use Rattle.desk_masks.specs.Masks.{HasMask, HasMasks}
use Rattle.desk_masks.specs.Tables.{HasTables}
use Rattle.desk_masks.proofs.Slotting.{stored_stay}
use Rattle.desk_masks.proofs.Staying.{named_stay}

-- ---- what stands at the root of a mask that the writer holds, and at those of its buckets
module _ (masks : Masks) (shape : Shape) (cells : List ℕ) (h : List (Commit Edit)) (has : HasMasks masks shape cells h) where
  pub mask_stands : (slot : ℕ) (kept : KeptMask) → StandsAt masks slot kept → Stands hook_meaning hook_codec h (mask_root slot) (Mask kept.mask.serial)
  mask_stands slot kept stands = (slot, has.only slot kept stands, refl)

  pub bucket_stands : (root : ℕ) (at : BucketOf masks root)
      → Stands hook_meaning hook_codec h root (Bucket (region_of at.slot at.kept.mask.serial (root_of h (mask_root at.slot)).stamp (mask_record at.kept.mask)) at.bucket)
  bucket_stands root at = (
    row,
    record {
      mask = mask_record at.kept.mask;
      at_mask = has.only at.slot at.kept at.stands;
      read = first_maps mask_record mask_of_words (root_of h (mask_root at.slot)).chain at.kept.mask reads;
      stamped = refl;
      sized = refl;
      inside = at.within;
      there = slice_get-get_or at.kept.mask.rows (at.bucket / 16) 0 inside;
      small = limits.small (at.bucket / 16) 0 inside;
    },
    at.same,
  )
    where
      row : ℕ
      row = slice_index at.kept.mask.rows (at.bucket / 16)

      reads : read_first mask_of_words (root_of h (mask_root at.slot)).chain ≡ Some at.kept.mask
      reads = record_read masks shape cells (root_of h) has.named at.slot at.kept at.stands

      limits : IsWithin at.kept.mask
      limits = within (root_of h (mask_root at.slot)).chain at.kept.mask reads

      inside : at.bucket / 16 < length at.kept.mask.rows
      inside = let rows = limits.rows in let less = at.within in omega (arith, rows, less)

-- ---- further commits
module _ (h h2 : List (Commit Edit)) (heads : (hook : ℕ) → hook < 2 → root_of h2 (places.head_root hook) ≡ root_of h (places.head_root hook)) where
  head_goes : (hook : Hook) → root_of h2 (head_root hook) ≡ root_of h (head_root hook)
  head_goes hooks.Ingress = heads 0 (omega arith)
  head_goes hooks.Egress = heads 1 (omega arith)

  pub tables_go : (hook : Hook) (kept : HookTables) → HasTables hook kept h → HasTables hook kept h2
  tables_go hook kept has = record {
    of_hook = has.of_hook;
    chain = ap (λ (n : Named). n.chain) (head_goes hook) ∙ has.chain;
    fit = has.fit;
    few = has.few;
  }

  module _ (b : ℕ) (low : b ≤ length h) (keeps : Keeps hook_meaning hook_codec h b) (low2 : b ≤ length h2) (keeps2 : Keeps hook_meaning hook_codec h2 b)
      (longer : (a s : ℕ) → IsSlotOf hook_codec h a s → IsSlotOf hook_codec h2 a s) (sound : Sound (now_of hook_meaning h))
      (filters : (m : ℕ) → filters_at (now_of hook_meaning h2) m ≡ filters_at (now_of hook_meaning h) m) (later : point_of h ≤ point_of h2)
      (masks : Masks) (shape : Shape) (cells cells2 : List ℕ) (has : HasMasks masks shape cells h)
      (same_masks : (slot : ℕ) (kept : KeptMask) → StandsAt masks slot kept → (root_of h2 (mask_root slot)).chain ≡ (root_of h (mask_root slot)).chain)
      (same_buckets : (root : ℕ) → BucketOf masks root → (root_of h2 root).chain ≡ (root_of h root).chain)
      (words : (root blk : ℕ) → Names (root_of h) root blk → block_words shape cells2 blk ≡ block_words shape cells blk) where
    pub stored_goes : (m : ℕ) → stored_now h2 m ≡ stored_now h m
    stored_goes m = ap (map (with_slots h2)) (filters m) ∙ stored_stay h h2 b low keeps low2 keeps2 longer m sound

    one_goes : (m slot : ℕ) → HasMask masks h m slot → HasMask masks h2 m slot
    one_goes m slot one = record {
      kept = one.kept;
      stands = one.stands;
      serial = one.serial;
      holds = subst (Holds masks slot (point_of h2)) (sym (stored_goes m)) (held_later masks slot (point_of h) (point_of h2) (stored_now h m) later one.holds);
    }

    pub masks_go : HasMasks masks shape cells2 h2
    masks_go = record {
      named = named_stay masks shape cells cells2 (root_of h) (root_of h2) has.named same_masks same_buckets words;
      has = λ m slot at. one_goes m slot (has.has m slot (mask_back hook_codec h h2 m slot heads at));
      only = λ slot kept stands. mask_back hook_codec h2 h kept.mask.serial slot (λ hook less. sym (heads hook less)) (has.only slot kept stands);
    }

-- ---- commits to roots of which each is empty, or the marker's or that of an action
abbrev pub IsAside : List (Commit Edit) → ℕ → Type 0
IsAside h root = (root < 1) ⊎ (((ACTION_ROOTS ≤ root) × (root < BUCKET_ROOTS)) ⊎ IsEmptyRoot hook_meaning hook_codec h root)

module _ (h : List (Commit Edit)) (root : ℕ) where
  pub aside_of_heads : IsAside h root → (hook : ℕ) → hook < 2 → root ≢ places.head_root hook
  aside_of_heads (inl low) hook less same = absurd (omega (arith, low, same))
  aside_of_heads (inr (inl high)) hook less same = let a = high.0 in absurd (omega (arith, a, less, same))
  aside_of_heads (inr (inr empty)) hook less same = empty (Head hook) (less, same)

  module _ (masks : Masks) (shape : Shape) (cells : List ℕ) (has : HasMasks masks shape cells h) where
    pub aside_of_masks : IsAside h root → (slot : ℕ) (kept : KeptMask) → StandsAt masks slot kept → root ≢ mask_root slot
    aside_of_masks (inl low) slot kept stands same = absurd (omega (arith, low, same))
    aside_of_masks (inr (inl high)) slot kept stands same = let a = high.0 in let small = (has.named.masks slot kept stands).small in absurd (omega (arith, a, small, same))
    aside_of_masks (inr (inr empty)) slot kept stands same =
        empty (Mask kept.mask.serial) (subst (λ (r : ℕ). Stands hook_meaning hook_codec h r (Mask kept.mask.serial)) (sym same) (mask_stands masks shape cells h has slot kept stands))

    pub aside_of_buckets : IsAside h root → (other : ℕ) → BucketOf masks other → root ≢ other
    aside_of_buckets (inl low) other at same = let is = at.same in absurd (omega (arith, low, same, is))
    aside_of_buckets (inr (inl high)) other at same = let a = high.1 in let is = at.same in absurd (omega (arith, a, same, is))
    aside_of_buckets (inr (inr empty)) other at same = let x = bucket_stands masks shape cells h has other at in
        empty (Bucket (region_of at.slot at.kept.mask.serial (root_of h (mask_root at.slot)).stamp (mask_record at.kept.mask)) at.bucket) (subst (λ (r : ℕ). Stands hook_meaning hook_codec h r (Bucket (region_of at.slot at.kept.mask.serial (root_of h (mask_root at.slot)).stamp (mask_record at.kept.mask)) at.bucket)) (sym same) x)
