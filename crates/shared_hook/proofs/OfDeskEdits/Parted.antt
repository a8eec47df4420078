-- A mask that went leaves the writer, and what it had leaves the pools.
use Rattle.std.proofs.Common.{◌≡◌, ◌≢◌, ◌∙◌, ◌⊎◌, inl, inr, ℕ, zero, suc, ◌+◌, ◌<◌, ◌≤◌, false, List, [], ◌∷◌, ◌++◌, length, get_or, set, slice_get, Option, Some, None, refl, sym, ap, subst, arith, length-append}
use Rattle.std.specs.List.{IsDistinct}
use Rattle.std.proofs.lemmas.List.{get_or-set_other}
use Rattle.visit_room.specs.declared.names.MaskName.{MaskName}
use Rattle.mask_table.specs.declared.mirrors.mirror.KeptMask.{KeptMask}
use Rattle.mask_table.specs.OfMirrors.Forgetting.{bucket_blocks}
use Rattle.store_history.specs.declared.history.Commit.{Commit}
use Rattle.store_history.specs.History.{root_of}
use Rattle.store_history.specs.declared.places.TheConstants.{MASK_SLOTS, ROWS, ROW_BUCKETS, MASK_ROOTS, BUCKET_ROOTS, POOL_BLOCKS}
use Rattle.pin_store.specs.declared.shape.Shape.{Shape}
use Rattle.filter_state.specs.declared.edit.Edit.{Edit}
use Rattle.mask_writer.specs.Masks.{Masks}
use Rattle.mask_writer.specs.Standing.{masks_of, StandsAt}
use Rattle.hook_law.specs.Standing.{IsIn, IsMaskAt}
use Rattle.hook_store_law.specs.Blocks.{hook_codec}
use Rattle.desk_pools.specs.OfNumbers.Numbers.{PoolNumbers}
use Rattle.root_pool_laws.proofs.Apart.{in_append, in_right}
use Rattle.desk_pools.specs.declared.pools.Pools.{Pools}
use Rattle.root_pool_laws.specs.Blocks.{IsLeft}
use Rattle.desk_pools.specs.Pools.{gone_roots, IsLeftAt, ArePools}
use Rattle.desk_pools.specs.Steps.{IsInPool, MayLeave}
use Rattle.desk_pools.proofs.Several.{have_room}
use Rattle.desk_parts.specs.Desk.{AreSized}
use Rattle.desk_heads.specs.Closes.{HoldsMasks, IsGone}
use Rattle.desk_heads.specs.Leaving.{MayAllLeave}
use Rattle.desk_heads.proofs.Held.{rows_once}
use Rattle.shared_hook.specs.OfDeskEdits.Parting.{is_named, HaveLeft, IsToGo, IsParting, MayPart}

none_there : (xs : List (Option KeptMask)) (i : ℕ) → get_or (set xs i None) i None ≡ None
none_there [] i = refl
none_there (x ∷ xs) zero = refl
none_there (x ∷ xs) (suc i) = none_there xs i

only_one : (x y : ℕ) → IsIn {A = ℕ} x (y ∷ []) → x ≡ y
only_one x y at = go at.0 at.1
  where
    go : (place : ℕ) → slice_get {X = ℕ} (y ∷ []) place ≡ Some x → x ≡ y
    go zero e = let same : y ≡ x = cc e in sym same
    go (suc place) e = absurd (cc e)

module _ (masks : Masks) (pools : Pools) (slot : ℕ) (m : MayPart masks pools slot) where
  pub one : IsToGo masks pools m.h m.count m.name
  one = let p = m.parting in p.each 0 m.name refl m.gone

  pub small_one : slot < MASK_SLOTS
  small_one = let small = one.small in let is = m.slot_is in omega (arith, small, is)

  pub stands_one : StandsAt masks slot one.kept
  stands_one = subst (λ (s : ℕ). StandsAt masks s one.kept) m.slot_is one.stands

  pub gone_one : IsGone masks m.h slot
  gone_one = subst (IsGone masks m.h) m.slot_is one.gone

  pub slot_apart : IsInPool slot pools.masks → ⊥
  slot_apart in_ = one.slot_apart (subst (λ (s : ℕ). IsInPool s pools.masks) (sym m.slot_is) in_)

  -- all that it has may leave
  pub leaving : (rows0 blocks0 : List ℕ)
      → ((shape : Shape) (cells : List ℕ) (h : List (Commit Edit)) (b : ℕ) (q : Pools) → HoldsMasks masks shape cells h → IsGone masks h slot → b ≤ length h → ArePools q h b → (IsInPool slot q.masks → ⊥)
      → ((row : ℕ) → IsIn row rows0 → IsInPool row q.rows → ⊥) → MayAllLeave q h slot rows0 blocks0)
      → rows0 ≡ one.kept.mask.rows → (rows blocks : List ℕ) → rows ≡ rows0 → blocks ≡ blocks0 → MayAllLeave pools m.h slot rows blocks
  leaving rows0 blocks0 told own rows blocks rows_are blocks_are =
      subst (λ (rs : List ℕ). MayAllLeave pools m.h slot rs blocks) (sym rows_are) (subst (MayAllLeave pools m.h slot rows0) (sym blocks_are)
      (let p = m.parting in told m.shape m.cells m.h m.b pools p.holds gone_one p.low p.are slot_apart (subst (λ (rs : List ℕ). (row : ℕ) → IsIn row rs → IsInPool row pools.rows → ⊥) (sym own) one.rows_apart)))

  module _ (rows blocks : List ℕ) (leaves : MayAllLeave pools m.h slot rows blocks) where
    slot_leaves : MayLeave MASK_SLOTS (IsLeftAt m.h MASK_ROOTS 1) pools.masks (slot ∷ [])
    unfolding IsDistinct
    slot_leaves = record {
      different = (tt, tt);
      small = λ x at. subst (λ (n : ℕ). n < MASK_SLOTS) (sym (only_one x slot at)) small_one;
      left = λ x at. subst (IsLeftAt m.h MASK_ROOTS 1) (sym (only_one x slot at)) leaves.slot_left;
      apart = λ x at in_. slot_apart (subst (λ (n : ℕ). IsInPool n pools.masks) (only_one x slot at) in_);
    }

    pub room_slot : AreSized pools → length pools.masks.free + length pools.masks.left < pools.masks.size
    room_slot sized = let room = have_room MASK_SLOTS _ _ pools.masks (slot ∷ []) m.parting.are.masks slot_leaves in let size = sized.2 in omega (arith, room, size)

    -- ---- one pool after the other
    module _ (p1 : Pools) (e1 : p1 ≡ record pools { masks = p1.masks }) (free1 : p1.masks.free ≡ pools.masks.free) (left1 : p1.masks.left ≡ pools.masks.left ++ slot ∷ []) (size1 : p1.masks.size ≡ pools.masks.size)
        (go1 : ArePools pools m.h m.b → slot < MASK_SLOTS → IsLeftAt m.h MASK_ROOTS 1 slot → (IsInPool slot pools.masks → ⊥) → ArePools p1 m.h m.b) where
      pub are1 : ArePools p1 m.h m.b
      are1 = go1 m.parting.are small_one leaves.slot_left slot_apart

      rows1 : p1.rows ≡ pools.rows
      rows1 = ap (λ (q : Pools). q.rows) e1

      pub rows_leave : MayLeave ROWS (IsLeftAt m.h BUCKET_ROOTS ROW_BUCKETS) p1.rows rows
      rows_leave = subst (λ (q : PoolNumbers). MayLeave ROWS (IsLeftAt m.h BUCKET_ROOTS ROW_BUCKETS) q rows) (sym rows1) leaves.rows_leave

      pub room_rows : AreSized pools → length p1.rows.free + length p1.rows.left + length rows ≤ p1.rows.size
      room_rows sized = let room = have_room ROWS _ _ p1.rows rows are1.rows rows_leave in let size = sized.1 in let same = ap (λ (q : PoolNumbers). q.size) rows1 in omega (arith, room, size, same)

      module _ (p2 : Pools) (e2 : p2 ≡ record p1 { rows = p2.rows }) (free2 : p2.rows.free ≡ p1.rows.free) (left2 : p2.rows.left ≡ p1.rows.left ++ rows) (size2 : p2.rows.size ≡ p1.rows.size)
          (go2 : ArePools p1 m.h m.b → MayLeave ROWS (IsLeftAt m.h BUCKET_ROOTS ROW_BUCKETS) p1.rows rows → ArePools p2 m.h m.b) where
        pub are2 : ArePools p2 m.h m.b
        are2 = go2 are1 rows_leave

        blocks2 : p2.blocks ≡ pools.blocks
        blocks2 = ap (λ (q : Pools). q.blocks) e2 ∙ ap (λ (q : Pools). q.blocks) e1

        masks2_same : p2.masks ≡ p1.masks
        masks2_same = ap (λ (q : Pools). q.masks) e2

        slot_left : IsIn slot p2.masks.left
        slot_left = subst (IsIn slot) (sym (ap (λ (q : PoolNumbers). q.left) masks2_same ∙ left1)) (in_right pools.masks.left (slot ∷ []) slot (0, refl))

        rows_left : (row : ℕ) → IsIn row rows → IsIn row p2.rows.left
        rows_left row at = subst (IsIn row) (sym left2) (in_right p1.rows.left rows row at)

        pub blocks_leave : MayLeave POOL_BLOCKS (IsLeft (gone_roots p2) m.h) p2.blocks blocks
        blocks_leave = leaves.blocks_leave p2 blocks2 slot_left rows_left

        pub room_blocks : AreSized pools → length p2.blocks.free + length p2.blocks.left + length blocks ≤ p2.blocks.size
        room_blocks sized = let room = have_room POOL_BLOCKS _ _ p2.blocks blocks are2.blocks blocks_leave in let size = sized.0 in let same = ap (λ (q : PoolNumbers). q.size) blocks2 in omega (arith, room, size, same)

        -- ---- all have left
        module _ (p3 : Pools) (e3 : p3 ≡ record p2 { blocks = p3.blocks }) (free3 : p3.blocks.free ≡ p2.blocks.free) (left3 : p3.blocks.left ≡ p2.blocks.left ++ blocks) (size3 : p3.blocks.size ≡ p2.blocks.size)
            (are3 : ArePools p3 m.h m.b) (rows_are : rows ≡ one.kept.mask.rows) (blocks_are : blocks ≡ one.kept.block ∷ bucket_blocks (root_of m.h) one.kept.mask one.kept.mask.size) where
          masks3 : p3.masks ≡ p1.masks
          masks3 = ap (λ (q : Pools). q.masks) e3 ∙ masks2_same

          rows3 : p3.rows ≡ p2.rows
          rows3 = ap (λ (q : Pools). q.rows) e3

          pub one_left : HaveLeft m.count pools p3 (m.name.serial ∷ [])
          one_left = record {
            masks = record {
              free = (let a = ap (λ (q : PoolNumbers). length q.free) masks3 in let c = ap length free1 in omega (arith, a, c));
              left = (let a = ap (λ (q : PoolNumbers). length q.left) masks3 in let c = ap length left1 in let d = length-append pools.masks.left (slot ∷ []) in omega (arith, a, c, d));
              size = ap (λ (q : PoolNumbers). q.size) masks3 ∙ size1;
            };
            rows = record {
              free = (let a = ap (λ (q : PoolNumbers). length q.free) rows3 in let c = ap length free2 in let d = ap (λ (q : PoolNumbers). length q.free) rows1 in omega (arith, a, c, d));
              left = (let a = ap (λ (q : PoolNumbers). length q.left) rows3 in let c = ap length left2 in let d = length-append p1.rows.left rows in let f = ap (λ (q : PoolNumbers). length q.left) rows1 in
                  let n = ap length rows_are in let k = one.row_count in omega (arith, a, c, d, f, n, k));
              size = ap (λ (q : PoolNumbers). q.size) rows3 ∙ (size2 ∙ ap (λ (q : PoolNumbers). q.size) rows1);
            };
            blocks = record {
              free = (let c = ap length free3 in let d = ap (λ (q : PoolNumbers). length q.free) blocks2 in omega (arith, c, d));
              left = (let c = ap length left3 in let d = length-append p2.blocks.left blocks in let f = ap (λ (q : PoolNumbers). length q.left) blocks2 in
                  let n = ap length blocks_are in let k = one.block_count in omega (arith, c, d, f, n, k));
              size = size3 ∙ ap (λ (q : PoolNumbers). q.size) blocks2;
            };
            others = e3 ∙ (ap (λ (q : Pools). record q { blocks = p3.blocks }) e2 ∙ (ap (λ (q : Pools). record q { rows = p2.rows; blocks = p3.blocks }) e1
                ∙ λ t. record pools { masks = sym masks3 t; rows = sym rows3 t; blocks = p3.blocks }));
          }

          pub one_sized : AreSized pools → AreSized p3
          one_sized sized = (
            size3 ∙ (ap (λ (q : PoolNumbers). q.size) blocks2 ∙ sized.0),
            ap (λ (q : PoolNumbers). q.size) rows3 ∙ (size2 ∙ (ap (λ (q : PoolNumbers). q.size) rows1 ∙ sized.1)),
            ap (λ (q : PoolNumbers). q.size) masks3 ∙ (size1 ∙ sized.2),
            ap (λ (q : Pools). q.actions.size) e3 ∙ (ap (λ (q : Pools). q.actions.size) e2 ∙ (ap (λ (q : Pools). q.actions.size) e1 ∙ sized.3)),
          )

          -- ---- the others are as they were
          module _ (now : Masks) (set_is : masks_of now ≡ set (masks_of masks) slot None) (holds : HoldsMasks now m.shape m.cells m.h) (others : (other : ℕ) → other ≢ slot → IsGone masks m.h other → IsGone now m.h other) where
            other_same : (s : ℕ) → s ≢ slot → get_or (masks_of now) s None ≡ get_or (masks_of masks) s None
            other_same s ne = ap (λ (ks : List (Option KeptMask)). get_or ks s None) set_is ∙ get_or-set_other (masks_of masks) slot s None None ne

            none_at : (kept : KeptMask) → StandsAt now slot kept → ⊥
            none_at kept stands = let bad : Some kept ≡ None = sym stands ∙ (ap (λ (ks : List (Option KeptMask)). get_or ks slot None) set_is ∙ none_there (masks_of masks) slot) in cc bad

            other_slot : (place : ℕ) (name : MaskName) → slice_get m.rest place ≡ Some name → name.slot ≢ slot
            other_slot place name at same = let p = m.parting in let z = p.apart (suc place) 0 name m.name at refl (same ∙ sym m.slot_is) in absurd (omega (arith, z))

            still : (place : ℕ) (name : MaskName) → slice_get m.rest place ≡ Some name → IsToGo masks pools m.h m.count name → IsToGo now p3 m.h m.count name
            still place name at old = record {
              kept = old.kept;
              small = old.small;
              stands = other_same name.slot (other_slot place name at) ∙ old.stands;
              gone = others name.slot (other_slot place name at) old.gone;
              slot_apart = in_slots;
              rows_apart = in_rows;
              row_count = old.row_count;
              block_count = old.block_count;
            }
              where
                in_slots : IsInPool name.slot p3.masks → ⊥
                in_slots (inl f) = old.slot_apart (inl (subst (IsIn name.slot) (ap (λ (q : PoolNumbers). q.free) masks3 ∙ free1) f))
                in_slots (inr l) = pick (in_append pools.masks.left (slot ∷ []) name.slot (subst (IsIn name.slot) (ap (λ (q : PoolNumbers). q.left) masks3 ∙ left1) l))
                  where
                    pick : IsIn name.slot pools.masks.left ⊎ IsIn name.slot (slot ∷ []) → ⊥
                    pick (inl x) = old.slot_apart (inr x)
                    pick (inr x) = other_slot place name at (only_one name.slot slot x)

                in_rows : (row : ℕ) → IsIn row old.kept.mask.rows → IsInPool row p3.rows → ⊥
                in_rows row own (inl f) = old.rows_apart row own (inl (subst (IsIn row) (ap (λ (q : PoolNumbers). q.free) rows3 ∙ (free2 ∙ ap (λ (q : PoolNumbers). q.free) rows1)) f))
                in_rows row own (inr l) = pick (in_append p1.rows.left rows row (subst (IsIn row) (ap (λ (q : PoolNumbers). q.left) rows3 ∙ left2) l))
                  where
                    pick : IsIn row p1.rows.left ⊎ IsIn row rows → ⊥
                    pick (inl x) = old.rows_apart row own (inr (subst (IsIn row) (ap (λ (q : PoolNumbers). q.left) rows1) x))
                    pick (inr x) = other_slot place name at (rows_once masks m.shape m.cells m.h name.slot slot row old.kept one.kept m.parting.holds old.stands stands_one own (subst (IsIn row) rows_are x))

            pub one_parted : IsParting now p3 m.shape m.cells m.h m.b m.count m.tables m.rest
            one_parted = record {
              low = m.parting.low;
              holds = holds;
              are = are3;
              each = λ place name at gone. let p = m.parting in still place name at (p.each (suc place) name at gone);
              only = rest_only;
              apart = λ i j x z at also same. let p = m.parting in let up = p.apart (suc i) (suc j) x z at also same in omega (arith, up);
            }
              where
                Left : ℕ → KeptMask → Type 0
                Left s kept = IsMaskAt hook_codec m.h kept.mask.serial s ⊎ ((name : MaskName) × IsIn name m.rest × (name.slot ≡ s) × (is_named m.tables name.serial ≡ false))

                rest_only : (s : ℕ) (kept : KeptMask) → StandsAt now s kept → Left s kept
                rest_only s kept stands = pick (let p = m.parting in p.only s kept (sym (other_same s away) ∙ stands))
                  where
                    away : s ≢ slot
                    away same = none_at kept (subst (λ (n : ℕ). StandsAt now n kept) same stands)

                    walk : (name : MaskName) (place : ℕ) → slice_get (m.name ∷ m.rest) place ≡ Some name → name.slot ≡ s → is_named m.tables name.serial ≡ false → Left s kept
                    walk name zero e is gone = let same : m.name ≡ name = cc e in absurd (away (sym is ∙ (ap (λ (n : MaskName). n.slot) (sym same) ∙ m.slot_is)))
                    walk name (suc place) e is gone = inr (name, (place, e), is, gone)

                    pick : IsMaskAt hook_codec m.h kept.mask.serial s ⊎ ((name : MaskName) × IsIn name (m.name ∷ m.rest) × (name.slot ≡ s) × (is_named m.tables name.serial ≡ false)) → Left s kept
                    pick (inl at) = inl at
                    pick (inr n) = walk n.0 n.1.0 n.1.1 n.2 n.3
