-- One commit to a root where no head, mask or bucket stands, with an edit that touches no filter: what is known
-- of masks and tables goes on.
use Rattle.std.proofs.Common.{◌≡◌, ◌∙◌, ◌⊎◌, inl, inr, ℕ, ◌<◌, ◌≤◌, List, [], ◌∷◌, ◌++◌, length, Some, ap, arith, length-append}
use Rattle.tc_base.specs.declared.hook.Hook.{Hook}
use Rattle.store_history.specs.declared.history.Named.{Named}
use Rattle.store_history.specs.declared.history.Commit.{Commit}
use Rattle.store_history.specs.History.{root_of, edits_of}
use Rattle.store_history.proofs.Histories.{root_other}
use Rattle.store_history.specs.declared.places.TheConstants.{ACTION_ROOTS, BUCKET_ROOTS}
use Rattle.pin_store.specs.declared.shape.Shape.{Shape}
use Rattle.pin_store.specs.Layout.{block_words}
use Rattle.filter_state.specs.declared.edit.Edit.{Edit}
use Rattle.filter_state.specs.declared.refusal.Done.{Done}
use Rattle.filter_state.specs.States.{State}
use Rattle.mask_table.specs.OfMirrors.Kept.{Names}
use Rattle.mask_table.specs.Buckets.{mask_root}
use Rattle.mask_writer.specs.Masks.{Masks}
use Rattle.hook_law.specs.Places as places
use Rattle.hook_law.specs.Meaning.{point_of}
use Rattle.hook_law.specs.Keeping.{Keeps}
use Rattle.hook_law.proofs.Growing.{edits_more, now_next}
use Rattle.hook_law.proofs.Standing.{slot_longer}
use Rattle.hook_store_law.specs.Stated.{hook_meaning, filters_at}
use Rattle.hook_store_law.specs.Blocks.{hook_codec}
use Rattle.hook_store_law.specs.OfEdits.Premises.{now, IsAccepted, IsOfFilters}
use Rattle.hook_store_law.proofs.OfEdits.Accepted.{leads, sound}
use Rattle.hook_store_law.proofs.OfEdits.Stating.{rows_stay}
use Rattle.hook_store_law.proofs.OfEdits.Unfiltered.{same_rows}
use Rattle.desk_masks.specs.declared.hook_tables.HookTables.{HookTables}
use Rattle.desk_masks.specs.Masks.{HasMasks}
use Rattle.desk_masks.specs.Tables.{HasTables}
use Rattle.desk_masks.proofs.Going.{IsAside, tables_go, masks_go, aside_of_heads, aside_of_masks, aside_of_buckets}

-- the marker's root, or that of a slot of actions
abbrev pub IsAsideRoot : ℕ → Type 0
IsAsideRoot root = (root < 1) ⊎ ((ACTION_ROOTS ≤ root) × (root < BUCKET_ROOTS))

module _ (h : List (Commit Edit)) (b : ℕ) (c : Commit Edit) (y : Edit) (number : ℕ) (t : State) (done : Done) (a : IsAccepted h b y t done) (plain : IsOfFilters y → ⊥)
    (carries : c.edit ≡ Some (number, y)) (aside : IsAsideRoot c.root) where
  there : IsAside h c.root
  there = pick aside
    where
      pick : IsAsideRoot c.root → IsAside h c.root
      pick (inl low) = inl low
      pick (inr high) = inr (inl high)

  same_heads : (hook : ℕ) → hook < 2 → root_of (h ++ c ∷ []) (places.head_root hook) ≡ root_of h (places.head_root hook)
  same_heads hook less = root_other h c (places.head_root hook) (aside_of_heads h c.root there hook less)

  rows : (now (h ++ c ∷ [])).rows ≡ (now h).rows
  rows = ap (λ (s : State). s.rows) (now_next hook_meaning h c number y carries ∙ leads h b y t done a) ∙ same_rows (now h) t y done plain a.steps

  filters : (m : ℕ) → filters_at (now (h ++ c ∷ [])) m ≡ filters_at (now h) m
  filters m = let stay = rows_stay (now h) (now (h ++ c ∷ [])) rows in stay.filters m

  later : point_of h ≤ point_of (h ++ c ∷ [])
  later = let one = ap length (edits_more h c number y carries) in let two = length-append (edits_of h) (y ∷ []) in omega (arith, one, two)

  low : b ≤ length (h ++ c ∷ [])
  low = let first = a.low in let more = length-append h (c ∷ []) in omega (arith, first, more)

  pub aside_tables : (hook : Hook) (kept : HookTables) → HasTables hook kept h → HasTables hook kept (h ++ c ∷ [])
  aside_tables hook kept has = tables_go h (h ++ c ∷ []) same_heads hook kept has

  pub aside_masks : (masks : Masks) (shape : Shape) (cells cells2 : List ℕ) → Keeps hook_meaning hook_codec (h ++ c ∷ []) b → HasMasks masks shape cells h
      → ((root blk : ℕ) → Names (root_of h) root blk → block_words shape cells2 blk ≡ block_words shape cells blk) → HasMasks masks shape cells2 (h ++ c ∷ [])
  aside_masks masks shape cells cells2 keeps has words = masks_go h (h ++ c ∷ []) same_heads b a.low a.keeps low keeps (λ action slot w. slot_longer hook_codec h (c ∷ []) action slot w)
      (sound h b y t done a) filters later masks shape cells cells2 has
      (λ slot kept stands. ap (λ (n : Named). n.chain) (root_other h c (mask_root slot) (aside_of_masks h c.root masks shape cells has there slot kept stands)))
      (λ root at. ap (λ (n : Named). n.chain) (root_other h c root (aside_of_buckets h c.root masks shape cells has there root at)))
      words
