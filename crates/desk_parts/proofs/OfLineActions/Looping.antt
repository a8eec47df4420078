-- The loop that puts new actions, from its invariant to its invariant.
use Rattle.std.proofs.Common.{◌≡◌, ◌≢◌, ◌∙◌, ◌⊎◌, inl, inr, ℕ, ◌+◌, ◌-◌, ◌<◌, ◌≤◌, List, [], ◌∷◌, ◌++◌, length, Some, None, refl, sym, ap, subst, arith, length-append}
use Rattle.std.specs.Option.{option_map}
use Rattle.act_registry.specs.declared.limits.TheConstants.{MADE_MAX}
use Rattle.store_history.specs.declared.history.Commit.{Commit}
use Rattle.store_history.proofs.Histories.{named_longer, named_at_end}
use Rattle.store_history.specs.declared.places.TheConstants.{ACTION_SLOTS, ACTION_ROOTS, POOL_BLOCKS}
use Rattle.pin_store.specs.declared.shape.Shape.{Shape}
use Rattle.pin_store.specs.declared.view.Sheet.{Sheet}
use Rattle.pin_store.specs.Layout.{block_words}
use Rattle.pin_store.specs.Sheets.{IsSameButCells}
use Rattle.pin_store.specs.Calls.{IsUnnamed}
use Rattle.filter_state.specs.declared.edit.Edit.{Edit}
use Rattle.filter_state.specs.declared.refusal.Done.{Done}
use Rattle.filter_state.specs.States.{Action, State}
use Rattle.filter_state.specs.Actions.{has_serial}
use Rattle.filter_state.specs.Tables.{first_where}
use Rattle.block_codec.specs.declared.action.StoredAction.{StoredAction}
use Rattle.block_codec.specs.Actions.{IsStorableAction}
use Rattle.hook_lists.specs.declared.kept.Kept.{Kept}
use Rattle.hook_lists.specs.States.{state_of}
use Rattle.filter_lists.specs.Spells.{Spells}
use Rattle.hook_law.specs.Meaning.{state_at, IsLive}
use Rattle.hook_law.specs.Standing.{Action as ActionRole, IsIn}
use Rattle.hook_law.specs.Keeping.{IsAtRest}
use Rattle.hook_store_law.specs.Stated.{hook_meaning, action_stated, action_at}
use Rattle.hook_store_law.specs.Blocks.{hook_codec}
use Rattle.hook_store_law.specs.Kept.{KeepsHook, IsKeptAt}
use Rattle.hook_store_law.specs.OfEdits.Premises.{now, next, IsAccepted}
use Rattle.hook_store_law.proofs.OfEdits.Accepted.{sound, next_sound}
use Rattle.hook_store_law.proofs.OfEdits.OfFilters.{new_ones_come}
use Rattle.desk_pools.specs.OfNumbers.Numbers.{PoolNumbers}
use Rattle.root_pool_laws.proofs.Apart.{in_left, in_right}
use Rattle.desk_actions.specs.OfRoots.Records.{action_commit}
use Rattle.desk_pools.specs.declared.pools.Pools.{Pools}
use Rattle.desk_pools.specs.Pools.{IsFreeAt, ArePools}
use Rattle.desk_pools.specs.Steps.{IsInPool, IsTaken}
use Rattle.desk_actions.specs.Places.{Placed, slot_of, AreHere, put_at}
use Rattle.desk_actions.specs.Effects.{IsCounted}
use Rattle.desk_actions.proofs.Made.{CanStore, stored_as}
use Rattle.desk_actions.proofs.Counted.{took, counted_then}
use Rattle.desk_actions.proofs.Turning.{standing_slot}
use Rattle.desk_parts.specs.OfLineActions.Put.{IsOfLine, IsPlaced}
use Rattle.desk_parts.proofs.OfLineActions.Living.{new_live}
use Rattle.desk_parts.proofs.OfLineActions.Steps.{PutUpTo, put_none, stores, put_lawful, put_next}
use Rattle.desk_parts.proofs.OfLineActions.Finished.{PutLoop, of_filters}

same_sheet : (s : Sheet) → IsSameButCells s s
same_sheet s = record { epoch = refl; starts = refl; quiet = refl; notes = refl; made = refl }

sheet_then : (one two three : Sheet) → IsSameButCells one two → IsSameButCells two three → IsSameButCells one three
sheet_then one two three a b = record { epoch = b.epoch ∙ a.epoch; starts = b.starts ∙ a.starts; quiet = b.quiet ∙ a.quiet; notes = b.notes ∙ a.notes; made = b.made ∙ a.made }

none_counted : (numbers : PoolNumbers) (made taken : ℕ) → taken + made ≡ made → IsCounted numbers numbers taken 0
none_counted numbers made taken is = let none : taken ≡ 0 = omega (arith, is) in subst (λ (n : ℕ). IsCounted numbers numbers n 0) (sym none) (record { free = omega arith; left = omega arith; size = refl })

one_counted : (old before pools : PoolNumbers) (made upto taken : ℕ) → made ≤ upto → ((n : ℕ) → n + made ≡ upto → IsCounted old before n 0) → IsCounted before pools 1 0 → taken + made ≡ upto + 1 → IsCounted old pools taken 0
one_counted old before pools made upto taken low all one is = let earlier : (upto - made) + made ≡ upto = omega (arith, low) in let same : (upto - made) + 1 ≡ taken = omega (arith, is, low) in
    subst (λ (n : ℕ). IsCounted old pools n 0) same (counted_then old before pools (upto - made) 0 1 0 (all (upto - made) earlier) one)

module _ (h : List (Commit Edit)) (b point made : ℕ) (y : Edit) (done : Done) (kept : IsKeptAt h b point) (a : IsAccepted h b y (next h y) done) (is : IsOfLine y) (made_is : made ≡ (now h).actions_made)
    (lists : Kept) (spells : Spells lists (next h y)) (shape : Shape) (first : Sheet) (old : Pools) where
  pub loop_start : (placed : Placed) → IsAtRest hook_meaning hook_codec h → ArePools old h b → AreHere placed h → PutLoop h b point made y shape first old h first old placed made
  loop_start placed rest p here = record {
    up = put_none h b point made y kept old placed rest p here made_is;
    same = same_sheet first;
    words = λ root block has less. refl;
    blocks = λ taken none. none_counted old.blocks made taken none;
    actions = λ taken none. none_counted old.actions made taken none;
    others = refl;
    low = omega arith;
  }

  terms_there : (action : ℕ) → action_at (state_of lists) action ≡ action_at (next h y) action
  terms_there action = ap (λ (xs : List Action). option_map action_stated (first_where (has_serial action) xs)) spells.actions

  module _ (k : List (Commit Edit)) (sheet : Sheet) (before : Pools) (placed : Placed) (upto : ℕ) (lp : PutLoop h b point made y shape first old k sheet before placed upto) (more : upto < lists.actions.made) where
    above : (now h).actions_made ≤ upto
    above = let low = lp.low in omega (arith, low, made_is)

    -- the next serial is that of a live action
    pub live_next : action_at (state_of lists) (upto + 1) ≡ None → ⊥
    live_next none = let given = spells.actions_made in
        new_live (now h) (next h y) y done (sound h b y (next h y) done a) is a.steps (upto + 1) (let low = above in omega (arith, low)) (omega (arith, more, given)) (sym (terms_there (upto + 1)) ∙ none)

    pub room_for : (pool was : PoolNumbers) → ((taken : ℕ) → taken + made ≡ upto → IsCounted was pool taken 0) → lists.actions.made ≤ made + length was.free → 0 < length pool.free
    room_for pool was counted enough = let low = lp.low in let free = (counted (upto - made) (omega (arith, low))).free in omega (arith, low, free, enough, more)

    module _ (x : StoredAction) (x_serial : x.serial ≡ upto + 1) (x_terms : action_at (state_of lists) (upto + 1) ≡ Some (record { index = x.index; params = x.params })) where
      terms_next : action_at (next h y) (upto + 1) ≡ Some (record { index = x.index; params = x.params })
      terms_next = sym (terms_there (upto + 1)) ∙ x_terms

      it_is : ◌≡◌ {A = StoredAction} (stored_as (upto + 1) x.index x.params) x
      it_is = λ t. record { serial = sym x_serial t; index = x.index; params = x.params }

      can : CanStore (next h y) (upto + 1) x.index x.params
      can = stores h b point made y kept (next_sound h b y (next h y) done a) k before placed upto lp.up above lp.low x.index x.params terms_next

      pub storable_next : IsStorableAction x
      storable_next = subst IsStorableAction it_is can.storable

      pub serial_next : x.serial ≤ MADE_MAX
      serial_next = subst (λ (n : ℕ). n ≤ POOL_BLOCKS) (sym x_serial) can.most

      module _ (mid pools : Pools) (slot blk : ℕ) (slot_free : before.actions.free ≡ mid.actions.free ++ slot ∷ []) (slot_left : mid.actions.left ≡ before.actions.left) (slot_size : mid.actions.size ≡ before.actions.size)
          (slot_others : mid ≡ record before { actions = mid.actions }) (blk_free : mid.blocks.free ≡ pools.blocks.free ++ blk ∷ []) (blk_left : pools.blocks.left ≡ mid.blocks.left) (blk_size : pools.blocks.size ≡ mid.blocks.size)
          (blk_others : pools ≡ record mid { blocks = pools.blocks }) (q : ArePools pools k b) (slot_taken : IsTaken ACTION_SLOTS (IsFreeAt k b ACTION_ROOTS 1) mid.actions slot) (blk_taken : IsTaken POOL_BLOCKS (IsUnnamed b k) pools.blocks blk) where
        same_actions : pools.actions ≡ mid.actions
        same_actions = ap (λ (p : Pools). p.actions) blk_others

        same_blocks : mid.blocks ≡ before.blocks
        same_blocks = ap (λ (p : Pools). p.blocks) slot_others

        taken : IsTaken ACTION_SLOTS (IsFreeAt k b ACTION_ROOTS 1) pools.actions slot
        taken = subst (λ (p : PoolNumbers). IsTaken ACTION_SLOTS (IsFreeAt k b ACTION_ROOTS 1) p slot) (sym same_actions) slot_taken

        was : IsInPool slot before.actions
        was = inl (subst (λ (l : List ℕ). IsIn slot l) (sym slot_free) (in_right mid.actions.free (slot ∷ []) slot (0, refl)))

        fewer : (s : ℕ) → IsInPool s pools.actions → IsInPool s before.actions
        fewer s in_ = sort (subst (λ (p : PoolNumbers). IsInPool s p) same_actions in_)
          where
            sort : IsInPool s mid.actions → IsInPool s before.actions
            sort (inl at) = inl (subst (λ (l : List ℕ). IsIn s l) (sym slot_free) (in_left mid.actions.free (slot ∷ []) s at))
            sort (inr at) = inr (subst (λ (l : List ℕ). IsIn s l) slot_left at)

        abbrev pub commit : StoredAction → Commit Edit
        commit action = action_commit slot blk action (point + 1) None y

        pub lawful_next : KeepsHook (k ++ commit x ∷ []) b
        lawful_next = subst (λ (z : StoredAction). KeepsHook (k ++ commit z ∷ []) b) it_is
            (put_lawful h b point made y kept (next_sound h b y (next h y) done a) k before placed upto lp.up above lp.low x.index x.params terms_next pools slot blk q taken blk_taken was fewer)

        pub loop_next : (wrote : Sheet) → IsSameButCells sheet wrote → ((other : ℕ) → other ≢ blk → other < shape.blocks → block_words shape wrote.cells other ≡ block_words shape sheet.cells other)
            → PutLoop h b point made y shape first old (k ++ commit x ∷ []) wrote pools (put_at placed x.serial slot blk) (upto + 1)
        loop_next wrote same others_stay = record {
          up = subst (λ (n : ℕ). PutUpTo h b point made y (k ++ commit x ∷ []) pools (put_at placed n slot blk) (upto + 1)) (sym x_serial)
              (subst (λ (z : StoredAction). PutUpTo h b point made y (k ++ commit z ∷ []) pools (put_at placed (upto + 1) slot blk) (upto + 1)) it_is
              (put_next h b point made y kept (next_sound h b y (next h y) done a) k before placed upto lp.up above lp.low x.index x.params terms_next pools slot blk q taken blk_taken was fewer));
          same = sheet_then first sheet wrote lp.same same;
          words = λ root block has less. others_stay block (λ e. blk_taken.free has.1 (named_longer b h k has.1 (lp.up.more, sym lp.up.seen) (named_at_end b h root has.0 has.1 kept.low has.2)) (has.3 ∙ e)) less ∙ lp.words root block has less;
          blocks = λ n e. one_counted old.blocks before.blocks pools.blocks made upto n lp.low lp.blocks (subst (λ (p : PoolNumbers). IsCounted p pools.blocks 1 0) same_blocks (took mid.blocks pools.blocks blk blk_free blk_left blk_size)) e;
          actions = λ n e. one_counted old.actions before.actions pools.actions made upto n lp.low lp.actions (subst (λ (p : PoolNumbers). IsCounted before.actions p 1 0) (sym same_actions) (took before.actions mid.actions slot slot_free slot_left slot_size)) e;
          others = blk_others ∙ (ap (λ (p : Pools). record p { blocks = pools.blocks }) slot_others ∙ (ap (λ (p : PoolNumbers). record before { blocks = pools.blocks; actions = p }) (sym same_actions)
              ∙ ap (λ (p : Pools). record p { blocks = pools.blocks; actions = pools.actions }) lp.others));
          low = (let low = lp.low in omega (arith, low));
        }

  -- behind the loop
  module _ (k : List (Commit Edit)) (sheet : Sheet) (pools : Pools) (placed : Placed) (upto : ℕ) (lp : PutLoop h b point made y shape first old k sheet pools placed upto) where
    pub put_count : length k + made ≡ length h + upto
    put_count = let n = lp.up.count in let l = ap length lp.up.seen ∙ length-append h lp.up.more in omega (arith, n, l)

    pub earlier_there : (action : ℕ) → IsLive hook_meaning (now h) action → IsPlaced placed k action × (IsInPool (slot_of placed action) pools.actions → ⊥)
    earlier_there action live = let at = lp.up.old action live in let now_here = ap (λ (edits : List Edit). state_at hook_meaning edits (length edits)) lp.up.journal in
        (at, standing_slot pools k b (slot_of placed action) (ActionRole action) low lp.up.pools_are (slot_of placed action, at.slot, refl, subst (λ (s : State). IsLive hook_meaning s action) (sym now_here) live))
      where
        low : b ≤ length k
        low = let l = ap length lp.up.seen ∙ length-append h lp.up.more in let first_low = kept.low in omega (arith, l, first_low)

    -- nor is the slot of any other that is live afterwards in a pool, once all are put
    pub all_apart : (next h y).actions_made ≤ upto → (action : ℕ) → IsLive hook_meaning (next h y) action → IsInPool (slot_of placed action) pools.actions → ⊥
    all_apart all action live = pick (new_ones_come h b y (next h y) done a (of_filters y is) action live)
      where
        pick : IsLive hook_meaning (now h) action ⊎ (((now h).actions_made < action) × (action ≤ (next h y).actions_made)) → IsInPool (slot_of placed action) pools.actions → ⊥
        pick (inl before) = (earlier_there action before).1
        pick (inr given) = let up = given.0 in let most = given.1 in let w = lp.up.new action (omega (arith, up, made_is)) (omega (arith, most, all)) in w.apart
