-- The slot and the rows of a mask that stands.
use Rattle.std.proofs.Common.{◌≡◌, ◌≢◌, ◌∙◌, inl, inr, ℕ, ◌+◌, ◌*◌, ◌/◌, ◌≤◌, List, length, get_or, set, slice_get, Option, Some, None, refl, sym, ap, subst, arith}
use Rattle.std.proofs.lemmas.List.{get_or-set_other}
use Rattle.std.proofs.lemmas.Option.{slice_get_within, get_or_from_slice_get}
use Rattle.store_history.specs.declared.history.Commit.{Commit}
use Rattle.store_history.specs.History.{root_of}
use Rattle.store_history.specs.declared.places.TheConstants.{ROW_BUCKETS, MASK_ROOTS, BUCKET_ROOTS}
use Rattle.pin_store.specs.declared.shape.Shape.{Shape}
use Rattle.filter_state.specs.declared.edit.Edit.{Edit}
use Rattle.mask_table.specs.Buckets.{mask_root}
use Rattle.mask_table.specs.declared.mirrors.mirror.KeptMask.{KeptMask}
use Rattle.mask_writer.specs.Masks.{Masks}
use Rattle.mask_writer.specs.Standing.{masks_of, StandsAt, BucketOf, AreNamed}
use Rattle.mask_writer.proofs.Standing.{mask_storable}
use Rattle.hook_law.specs.Standing.{Role, Mask, Bucket, region_of, IsIn, IsMaskAt, Stands}
use Rattle.hook_law.proofs.Standing.{unused_end}
use Rattle.hook_store_law.specs.Stated.{hook_meaning}
use Rattle.hook_store_law.specs.Blocks.{mask_record, hook_codec}
use Rattle.desk_masks.specs.Masks.{HasMasks}
use Rattle.desk_masks.proofs.Going.{mask_stands, bucket_stands}
use Rattle.desk_pools.specs.declared.pools.Pools.{Pools}
use Rattle.desk_pools.specs.Pools.{ArePools}
use Rattle.desk_pools.specs.Steps.{IsInPool}
use Rattle.desk_heads.specs.Closes.{HoldsMasks, IsGone}

-- the first bucket of a row of a mask
first_bucket : (masks : Masks) (shape : Shape) (cells : List ℕ) (h : List (Commit Edit)) → AreNamed masks shape cells (root_of h) → (slot number i : ℕ) (kept : KeptMask) → StandsAt masks slot kept
    → slice_get kept.mask.rows i ≡ Some number → (at : BucketOf masks (BUCKET_ROOTS + ROW_BUCKETS * number)) × (at.slot ≡ slot)
first_bucket masks shape cells h named slot number i kept stands at =
    let count = (mask_storable masks shape cells (root_of h) named slot kept stands).rows in let inside = slice_get_within kept.mask.rows i number at in
    let place : 16 * i / 16 ≡ i = omega arith in
    let is : get_or kept.mask.rows (16 * i / 16) 0 ≡ number = ap (λ (n : ℕ). get_or kept.mask.rows n 0) place ∙ get_or_from_slice_get kept.mask.rows i number 0 at in
    (record { slot = slot; bucket = 16 * i; kept = kept; stands = stands; within = omega (arith, count, inside); same = omega (arith, is) }, refl)

pub rows_once : (masks : Masks) (shape : Shape) (cells : List ℕ) (h : List (Commit Edit)) (slot other row : ℕ) (kept more : KeptMask) → HoldsMasks masks shape cells h → StandsAt masks slot kept
    → StandsAt masks other more → IsIn row kept.mask.rows → IsIn row more.mask.rows → slot ≡ other
rows_once masks shape cells h slot other row kept more holds one two x z =
    let a = first_bucket masks shape cells h holds.named slot row x.0 kept one x.1 in let c = first_bucket masks shape cells h holds.named other row z.0 more two z.1 in
    sym a.1 ∙ ((holds.named.apart (BUCKET_ROOTS + ROW_BUCKETS * row) a.0 c.0).0 ∙ c.1)

module _ (masks : Masks) (shape : Shape) (cells : List ℕ) (h : List (Commit Edit)) (b : ℕ) (pools : Pools) (slot : ℕ) (kept : KeptMask) (has : HasMasks masks shape cells h) (low : b ≤ length h) (p : ArePools pools h b)
    (stands : StandsAt masks slot kept) where
  at_root : Stands hook_meaning hook_codec h (mask_root slot) (Mask kept.mask.serial)
  at_root = mask_stands masks shape cells h has slot kept stands

  slot_apart : IsInPool slot pools.masks → ⊥
  slot_apart (inl at) = unused_end hook_meaning hook_codec h b (MASK_ROOTS + 1 * slot + 0) (Mask kept.mask.serial) low (p.masks.may_be_given at.0 slot at.1 0 (omega arith)) (subst (λ (r : ℕ). Stands hook_meaning hook_codec h r (Mask kept.mask.serial)) (omega arith) at_root)
  slot_apart (inr at) = p.masks.have_left at.0 slot at.1 0 (omega arith) (Mask kept.mask.serial) (subst (λ (r : ℕ). Stands hook_meaning hook_codec h r (Mask kept.mask.serial)) (omega arith) at_root)

  row_apart : (row : ℕ) → IsIn row kept.mask.rows → IsInPool row pools.rows → ⊥
  row_apart row in_ pool = by pool
    where
      first : BucketOf masks (BUCKET_ROOTS + ROW_BUCKETS * row)
      first = (first_bucket masks shape cells h has.named slot row in_.0 kept stands in_.1).0

      role : Role
      role = Bucket (region_of first.slot first.kept.mask.serial (root_of h (mask_root first.slot)).stamp (mask_record first.kept.mask)) first.bucket

      there : Stands hook_meaning hook_codec h (BUCKET_ROOTS + ROW_BUCKETS * row + 0) role
      there = subst (λ (r : ℕ). Stands hook_meaning hook_codec h r role) (omega arith) (bucket_stands masks shape cells h has (BUCKET_ROOTS + ROW_BUCKETS * row) first)

      by : IsInPool row pools.rows → ⊥
      by (inl at) = unused_end hook_meaning hook_codec h b (BUCKET_ROOTS + ROW_BUCKETS * row + 0) role low (p.rows.may_be_given at.0 row at.1 0 (omega arith)) there
      by (inr at) = p.rows.have_left at.0 row at.1 0 (omega arith) role there

  pub held_apart : (IsInPool slot pools.masks → ⊥) × ((row : ℕ) → IsIn row kept.mask.rows → IsInPool row pools.rows → ⊥)
  held_apart = (slot_apart, row_apart)

pub held_whole : (masks : Masks) (shape : Shape) (cells : List ℕ) (h : List (Commit Edit)) → HoldsMasks masks shape cells h
    → ((slot : ℕ) (kept : KeptMask) → StandsAt masks slot kept → IsMaskAt hook_codec h kept.mask.serial slot) → HasMasks masks shape cells h
held_whole masks shape cells h holds only = record { named = holds.named; has = holds.has; only = only }

-- a mask that is gone is so still, where another one left the writer
pub gone_still : (masks masks2 : Masks) (h : List (Commit Edit)) (slot other : ℕ) → masks_of masks2 ≡ set (masks_of masks) slot None → other ≢ slot → IsGone masks h other → IsGone masks2 h other
gone_still masks masks2 h slot other set_is ne gone = record {
  at_slot = gone.at_slot;
  at_rows = λ kept bucket stands less. gone.at_rows kept bucket
      (sym (ap (λ (ks : List (Option KeptMask)). get_or ks other None) set_is ∙ get_or-set_other (masks_of masks) slot other None None ne) ∙ stands) less;
}
