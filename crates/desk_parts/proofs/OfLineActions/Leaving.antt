-- The loop that lets dead actions go, from its invariant to its invariant.
use Rattle.std.proofs.Common.{◌≡◌, ◌∙◌, ◌⊎◌, inl, inr, ℕ, ◌+◌, ◌<◌, ◌≤◌, List, [], ◌∷◌, ◌++◌, length, get_or, slice_get, Some, None, refl, sym, ap, subst, arith}
use Rattle.std.specs.Option.{option_map}
use Rattle.act_registry.specs.declared.limits.TheConstants.{MADE_MAX}
use Rattle.store_history.specs.declared.history.Commit.{Commit}
use Rattle.store_history.specs.declared.places.TheConstants.{ACTION_SLOTS, ACTION_ROOTS, POOL_BLOCKS}
use Rattle.filter_state.specs.declared.edit.Edit.{Edit}
use Rattle.filter_state.specs.States.{Action}
use Rattle.filter_state.specs.Actions.{has_serial}
use Rattle.filter_state.specs.Tables.{first_where}
use Rattle.hook_lists.specs.declared.kept.Kept.{Kept}
use Rattle.hook_lists.specs.States.{state_of}
use Rattle.hook_law.specs.Meaning.{IsLive}
use Rattle.hook_law.specs.Standing.{IsIn}
use Rattle.hook_store_law.specs.Stated.{hook_meaning, action_stated, action_at}
use Rattle.hook_store_law.specs.OfEdits.Premises.{now}
use Rattle.desk_pools.specs.OfNumbers.Numbers.{PoolNumbers}
use Rattle.root_pool_laws.specs.Blocks.{IsLeft}
use Rattle.root_pool_laws.proofs.Apart.{in_right}
use Rattle.desk_pools.specs.declared.pools.Pools.{Pools}
use Rattle.desk_pools.specs.Pools.{gone_roots, IsLeftAt, ArePools}
use Rattle.desk_pools.specs.Steps.{IsInPool}
use Rattle.desk_actions.specs.Places.{Placed, slot_of, block_of, cleared_at}
use Rattle.desk_parts.specs.OfLineActions.Dropped.{MayGo, AreDropped}
use Rattle.desk_parts.proofs.OfLineActions.Going.{DroppedUpTo, DropLoop, dropped_none, dropped_one, dropped_not, all_dropped, slot_small, old_block, slot_room, block_room, empty_slot, apart_slot, apart_block, left_block}

module _ (lists : Kept) (old : Pools) (placed : Placed) (serials : List ℕ) where
  pub drop_start : old.blocks.size ≡ POOL_BLOCKS → old.actions.size ≡ ACTION_SLOTS → DropLoop lists old placed serials old placed 0
  drop_start blocks actions = record { all = λ h b after m. dropped_none lists old placed h b after serials m; blocks = blocks; actions = actions }

  pub drop_end : (pools : Pools) (left : Placed) (upto : ℕ) → DropLoop lists old placed serials pools left upto → length serials ≤ upto → (h : List (Commit Edit)) (b after : ℕ) → MayGo lists old placed h b after serials
      → AreDropped old pools placed left h b serials
  drop_end pools left upto lp long h b after m = all_dropped lists old placed h b after serials m pools left upto (lp.all h b after m) long

  terms_there : (h : List (Commit Edit)) (b after : ℕ) → MayGo lists old placed h b after serials → (action : ℕ) → action_at (state_of lists) action ≡ action_at (now h) action
  terms_there h b after m action = let spells = m.spells in ap (λ (xs : List Action). option_map action_stated (first_where (has_serial action) xs)) spells.actions

  module _ (pools : Pools) (left : Placed) (upto : ℕ) (lp : DropLoop lists old placed serials pools left upto) (a : ℕ) (there : slice_get serials upto ≡ Some a)
      (slot block : ℕ) (slot_is : slot ≡ slot_of left a) (block_is : block ≡ block_of left slot) where
    at : IsIn a serials
    at = (upto, there)

    pub serial_low : (h : List (Commit Edit)) (b after : ℕ) → MayGo lists old placed h b after serials → a ≤ MADE_MAX
    serial_low h b after m = m.small a at

    module _ (h : List (Commit Edit)) (b after : ℕ) (m : MayGo lists old placed h b after serials) where
      abbrev d : DroppedUpTo lists old placed h b after serials m pools left upto
      d = lp.all h b after m

      its_slot : slot ≡ slot_of placed a
      its_slot = let same = lp.all h b after m in slot_is ∙ ap (λ (l : List ℕ). get_or l a 0) same.same

      its_block : block ≡ block_of left (slot_of placed a)
      its_block = block_is ∙ ap (block_of left) its_slot

    -- it is live, or has left already
    pub loop_kept : (action_at (state_of lists) a ≡ None → ⊥) ⊎ (block < POOL_BLOCKS → ⊥) → DropLoop lists old placed serials pools left (upto + 1)
    loop_kept why = record {
      all = λ h b after m. dropped_not lists old placed h b after serials m pools left upto (lp.all h b after m) a at there (sort h b after m why);
      blocks = lp.blocks;
      actions = lp.actions;
    }
      where
        sort : (h : List (Commit Edit)) (b after : ℕ) → (m : MayGo lists old placed h b after serials) → (action_at (state_of lists) a ≡ None → ⊥) ⊎ (block < POOL_BLOCKS → ⊥)
            → IsLive hook_meaning (now h) a ⊎ (block_of left (slot_of placed a) < POOL_BLOCKS → ⊥)
        sort h b after m (inl live) = inl (λ none. live (terms_there h b after m a ∙ none))
        sort h b after m (inr full) = inr (λ less. full (let is = its_block h b after m in omega (arith, is, less)))

    module _ (less : block < POOL_BLOCKS) (none : action_at (state_of lists) a ≡ None) where
      module _ (h : List (Commit Edit)) (b after : ℕ) (m : MayGo lists old placed h b after serials) where
        its_less : block_of left (slot_of placed a) < POOL_BLOCKS
        its_less = let is = its_block h b after m in omega (arith, is, less)

        its_dead : IsLive hook_meaning (now h) a → ⊥
        its_dead live = live (sym (terms_there h b after m a) ∙ none)

        pub room_slot : length pools.actions.free + length pools.actions.left < pools.actions.size
        room_slot = let room = slot_room lists old placed h b after serials m pools left upto (lp.all h b after m) a at its_less its_dead in let size = lp.actions in omega (arith, room, size)

        pub room_block : length pools.blocks.free + length pools.blocks.left < pools.blocks.size
        room_block = let room = block_room lists old placed h b after serials m pools left upto (lp.all h b after m) a at its_less its_dead in let size = lp.blocks in omega (arith, room, size)

        old_is : block ≡ block_of placed (slot_of placed a)
        old_is = its_block h b after m ∙ old_block lists old placed h b after serials m pools left upto (lp.all h b after m) a at its_less its_dead

      module _ (mid more : Pools) (moved : Placed)
          (goes : (h : List (Commit Edit)) (b : ℕ) → ArePools pools h b → slot < ACTION_SLOTS → IsLeftAt h ACTION_ROOTS 1 slot → (IsInPool slot pools.actions → ⊥) → ArePools mid h b)
          (slot_free : mid.actions.free ≡ pools.actions.free) (slot_left : mid.actions.left ≡ pools.actions.left ++ slot ∷ []) (slot_size : mid.actions.size ≡ pools.actions.size) (slot_others : mid ≡ record pools { actions = mid.actions })
          (follows : (h : List (Commit Edit)) (b : ℕ) → ArePools mid h b → block < POOL_BLOCKS → IsLeft (gone_roots mid) h block → (IsInPool block mid.blocks → ⊥) → ArePools more h b)
          (blk_free : more.blocks.free ≡ mid.blocks.free) (blk_left : more.blocks.left ≡ mid.blocks.left ++ block ∷ []) (blk_size : more.blocks.size ≡ mid.blocks.size) (blk_others : more ≡ record mid { blocks = more.blocks })
          (cleared : moved ≡ cleared_at left slot) where
        same_blocks : mid.blocks ≡ pools.blocks
        same_blocks = ap (λ (p : Pools). p.blocks) slot_others

        same_actions : more.actions ≡ mid.actions
        same_actions = ap (λ (p : Pools). p.actions) blk_others

        module _ (h : List (Commit Edit)) (b after : ℕ) (m : MayGo lists old placed h b after serials) where
          l : block_of left (slot_of placed a) < POOL_BLOCKS
          l = its_less h b after m

          e : IsLive hook_meaning (now h) a → ⊥
          e = its_dead h b after m

          dd : DroppedUpTo lists old placed h b after serials m pools left upto
          dd = lp.all h b after m

          s : slot ≡ slot_of placed a
          s = its_slot h b after m

          t : block ≡ block_of placed (slot_of placed a)
          t = old_is h b after m

          mid_pools : ArePools mid h b
          mid_pools = let q = lp.all h b after m in goes h b q.pools_are (subst (λ (n : ℕ). n < ACTION_SLOTS) (sym s) (slot_small lists old placed h b after serials m a at))
              (subst (IsLeftAt h ACTION_ROOTS 1) (sym s) (empty_slot lists old placed h b after serials m pools left upto (lp.all h b after m) a at l e))
              (subst (λ (n : ℕ). IsInPool n pools.actions → ⊥) (sym s) (apart_slot lists old placed h b after serials m pools left upto (lp.all h b after m) a at l e))

          more_pools : ArePools more h b
          more_pools = follows h b mid_pools less
              (subst (IsLeft (gone_roots mid) h) (sym t) (left_block lists old placed h b after serials m pools left upto (lp.all h b after m) a at l e mid
              (subst (IsIn (slot_of placed a)) (sym slot_left) (subst (λ (n : ℕ). IsIn n (pools.actions.left ++ slot ∷ [])) s (in_right pools.actions.left (slot ∷ []) slot (0, refl))))))
              (subst (λ (p : PoolNumbers). IsInPool block p → ⊥) (sym same_blocks) (subst (λ (n : ℕ). IsInPool n pools.blocks → ⊥) (sym t) (apart_block lists old placed h b after serials m pools left upto (lp.all h b after m) a at l e)))

          one : DroppedUpTo lists old placed h b after serials m more moved (upto + 1)
          one = dropped_one lists old placed h b after serials m pools left upto (lp.all h b after m) a at l e more moved more_pools
              (ap (λ (p : PoolNumbers). p.left) same_actions ∙ (slot_left ∙ ap (λ (n : ℕ). pools.actions.left ++ n ∷ []) s))
              (blk_left ∙ (ap (λ (p : PoolNumbers). p.left ++ block ∷ []) same_blocks ∙ ap (λ (n : ℕ). pools.blocks.left ++ n ∷ []) t))
              (ap (λ (p : PoolNumbers). p.free) same_actions ∙ slot_free)
              (blk_free ∙ ap (λ (p : PoolNumbers). p.free) same_blocks)
              (blk_others ∙ (ap (λ (p : Pools). record p { blocks = more.blocks }) slot_others ∙ ap (λ (p : PoolNumbers). record pools { blocks = more.blocks; actions = p }) (sym same_actions)))
              (cleared ∙ ap (cleared_at left) s) there

        pub loop_dropped : DropLoop lists old placed serials more moved (upto + 1)
        loop_dropped = record {
          all = λ h b after m. one h b after m;
          blocks = blk_size ∙ (ap (λ (p : PoolNumbers). p.size) same_blocks ∙ lp.blocks);
          actions = ap (λ (p : PoolNumbers). p.size) same_actions ∙ (slot_size ∙ lp.actions);
        }
