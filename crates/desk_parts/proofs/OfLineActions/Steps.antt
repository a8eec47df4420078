-- The new actions of an edit, put one after the other.
use Rattle.std.proofs.Common.{◌≡◌, ◌≢◌, ◌∙◌, ◌⊎◌, inl, inr, ℕ, zero, suc, ◌+◌, ◌<◌, ◌≤◌, Bool, true, false, eqb, eqb-true, List, [], ◌∷◌, ◌++◌, length, slice_get, Some, None, refl, sym, ap, subst, arith, append_assoc, length-append}
use mathlib.Core.List.{append-nil}
use Rattle.std.specs.Option.{option_map}
use Rattle.std.proofs.lemmas.Bool.{eqb-false}
use Rattle.std.proofs.lemmas.List.{get_or-set_same, get_or-set_other, length-set}
use Rattle.store_history.specs.declared.history.Named.{Named}
use Rattle.store_history.specs.declared.history.Commit.{Commit}
use Rattle.store_history.specs.History.{root_of, edits_of}
use Rattle.store_history.proofs.Lists.{some_is, get_parts}
use Rattle.store_history.proofs.Histories.{root_own, root_other}
use Rattle.store_history.specs.declared.places.TheConstants.{ACTION_SLOTS, ACTION_ROOTS, POOL_BLOCKS}
use Rattle.pin_store.specs.Calls.{IsUnnamed}
use Rattle.act_kinds.specs.declared.params.Params.{Params}
use Rattle.filter_state.specs.declared.edit.Edit.{Edit}
use Rattle.filter_state.specs.States.{State}
use Rattle.filter_state.specs.Sound.{Sound}
use Rattle.block_codec.specs.OfReadings.Read.{action_of_words}
use Rattle.root_word_laws.specs.Words.{StampsRise}
use Rattle.root_word_laws.proofs.Words.{more_rise}
use Rattle.hook_law.specs.Places.{action_root}
use Rattle.hook_law.specs.Records.{ActionRecord}
use Rattle.hook_law.specs.Meaning.{point_of, state_at, IsLive}
use Rattle.hook_law.specs.Standing.{Action as ActionRole, PutsAction, IsSlotOf, IsUnused}
use Rattle.hook_law.specs.Telling.{ReadsAction}
use Rattle.hook_law.specs.Keeping.{Keeps, IsAtRest}
use Rattle.hook_law.specs.Unnumbered.{Spares}
use Rattle.hook_law.specs.Numbered.{IsPutAction}
use Rattle.hook_law.proofs.Growing.{edits_still, now_still}
use Rattle.hook_law.proofs.Standing.{slot_longer, slot_here, slot_push, unused_end}
use Rattle.hook_law.proofs.Sparing.{spare_back, spare_keeps, spare_unused}
use Rattle.hook_law.proofs.Resting.{spare_rests}
use Rattle.hook_store_law.specs.Stated.{ActionTerms, hook_meaning, action_at}
use Rattle.hook_store_law.specs.Blocks.{action_record, hook_codec}
use Rattle.hook_store_law.specs.Kept.{KeepsHook, IsKeptAt}
use Rattle.hook_store_law.specs.OfEdits.Premises.{now, next}
use Rattle.desk_actions.specs.OfRoots.Records.{action_block, action_commit}
use Rattle.desk_actions.proofs.OfRoots.Storing.{action_reads}
use Rattle.desk_pools.specs.declared.pools.Pools.{Pools}
use Rattle.desk_pools.specs.Pools.{IsFreeAt, ArePools}
use Rattle.desk_pools.specs.Steps.{IsInPool, IsTaken}
use Rattle.desk_pools.proofs.Steps.{pools_commit}
use Rattle.desk_actions.specs.Places.{Placed, slot_of, block_of, IsAlone, AreHere, put_at}
use Rattle.desk_actions.proofs.Made.{CanStore, stored_as, can_store}
use Rattle.desk_actions.proofs.Stepping.{slot_unused, slot_leaves}
use Rattle.desk_parts.specs.OfLineActions.Put.{IsPut, IsNoSlot, IsPlaced}

-- what is put for an edit has its slot as the law asks, where the places say, and the slot is in no pool
pub record IsPutThere (b : ℕ) (k : List (Commit Edit)) (y : Edit) (pools : Pools) (placed : Placed) (action : ℕ) : Type 0 where
  pub put : IsPutAction hook_meaning hook_codec b k y action
  pub same : put.slot ≡ slot_of placed action
  pub placed_ : IsPlaced placed k action
  pub apart : IsInPool (slot_of placed action) pools.actions → ⊥

-- So many serials were given, and those up to here are put. `h` is the commits before, and k those now.
pub record PutUpTo (h : List (Commit Edit)) (b point made : ℕ) (y : Edit) (k : List (Commit Edit)) (pools : Pools) (placed : Placed) (upto : ℕ) : Type 0 where
  pub more : List (Commit Edit)
  pub seen : k ≡ h ++ more
  pub each : (place : ℕ) (c : Commit Edit) → slice_get more place ≡ Some c → IsPut point c
  pub count : length more + made ≡ upto
  pub keeps : KeepsHook k b
  pub rest : IsAtRest hook_meaning hook_codec k
  pub journal : edits_of k ≡ edits_of h
  pub roots : (root : ℕ) → IsNoSlot root → root_of k root ≡ root_of h root
  pub early : (root : ℕ) → (root_of k root).stamp ≤ point + 1
  pub pools_are : ArePools pools k b
  pub free : (slot : ℕ) → IsInPool slot pools.actions → root_of k (action_root slot) ≡ root_of h (action_root slot)
  pub long : length placed.slots ≡ 16385
  pub wide : length placed.blocks ≡ ACTION_SLOTS
  pub old : (action : ℕ) → IsLive hook_meaning (now h) action → IsPlaced placed k action
  pub new : (action : ℕ) → made < action → action ≤ upto → IsPutThere b k y pools placed action
  pub given : (action slot : ℕ) → IsSlotOf hook_codec k action slot → action ≤ upto

module _ (h : List (Commit Edit)) (b point made : ℕ) (y : Edit) (kept : IsKeptAt h b point) where
  -- before the first one
  pub put_none : (pools : Pools) (placed : Placed) → IsAtRest hook_meaning hook_codec h → ArePools pools h b → AreHere placed h → made ≡ (now h).actions_made
      → PutUpTo h b point made y h pools placed made
  put_none pools placed rest p here made_is = record {
    more = [];
    seen = sym (append-nil h);
    each = λ place c at. absurd (cc at);
    count = omega arith;
    keeps = kept.keeps;
    rest = rest;
    journal = refl;
    roots = λ root none. refl;
    early = λ root. let low = kept.early root in omega (arith, low);
    pools_are = p;
    free = λ slot in_. refl;
    long = here.long;
    wide = here.wide;
    old = λ action live. record { slot = here.slots action live; block = here.blocks action live };
    new = λ action above most. absurd (omega (arith, above, most));
    given = λ action slot at. subst (λ (n : ℕ). action ≤ n) (sym made_is) (here.made action slot at);
  }

  module _ (t_sound : Sound (next h y)) (k : List (Commit Edit)) (before : Pools) (placed : Placed) (upto : ℕ) (p : PutUpTo h b point made y k before placed upto)
      (above : (now h).actions_made ≤ upto) (made_low : made ≤ upto) (index : ℕ) (given : Params) (is : action_at (next h y) (upto + 1) ≡ Some (record { index = index; params = given })) where
    abbrev serial : ℕ
    serial = upto + 1

    pub stores : CanStore (next h y) serial index given
    stores = can_store (next h y) serial index given t_sound is

    reads : action_of_words (action_block (stored_as serial index given)) ≡ Some (stored_as serial index given)
    reads = action_reads (stored_as serial index given) stores.storable stores.fit

    low : b ≤ length k
    low = let more = ap length p.seen ∙ length-append h p.more in let first = kept.low in omega (arith, more, first)

    module _ (pools : Pools) (slot blk : ℕ) (q : ArePools pools k b) (taken : IsTaken ACTION_SLOTS (IsFreeAt k b ACTION_ROOTS 1) pools.actions slot) (block : IsTaken POOL_BLOCKS (IsUnnamed b k) pools.blocks blk)
        (was : IsInPool slot before.actions) (fewer : (x : ℕ) → IsInPool x pools.actions → IsInPool x before.actions) where
      abbrev pub c : Commit Edit
      c = action_commit slot blk (stored_as serial index given) (point + 1) None y

      small : slot < ACTION_SLOTS
      small = taken.small

      unused : IsUnused hook_meaning hook_codec b k (action_root slot)
      unused = slot_unused k b slot taken.free

      own_read : ReadsAction hook_meaning hook_codec serial c.named.chain (next h y)
      own_read = record { action = action_record (stored_as serial index given); read = ap (option_map action_record) reads; serial = refl; are = is }

      own_put : PutsAction hook_codec c serial slot
      own_put = record { put = action_record (stored_as serial index given); root = refl; small = small; read = ap (option_map action_record) reads; serial = refl }

      puts_own : (action s : ℕ) → PutsAction hook_codec c action s → action ≡ serial
      puts_own action s w = let put = some_is w.put (action_record (stored_as serial index given)) (sym w.read ∙ ap (option_map action_record) reads) in
          sym w.serial ∙ ap (λ (r : ActionRecord ActionTerms). r.serial) put

      point_here : point_of k ≡ point
      point_here = ap length p.journal ∙ sym kept.point_is

      spares : Spares hook_meaning hook_codec b k c
      spares = record {
        plain = refl;
        stamp = inr (ap (λ (n : ℕ). n + 1) (sym point_here));
        unused = unused;
        first = λ action s other w at. let same = puts_own action s w in let most = p.given action other at in omega (arith, same, most);
      }

      law : Keeps hook_meaning hook_codec (k ++ c ∷ []) b
      law = spare_keeps hook_meaning hook_codec k b c low p.keeps.law spares

      rises : StampsRise (k ++ c ∷ [])
      rises = more_rise k c p.keeps.stamps (inl (let first = kept.early (action_root slot) in let same = ap (λ (n : Named). n.stamp) (p.free slot was) in omega (arith, first, same)))

      pub put_lawful : KeepsHook (k ++ c ∷ []) b
      put_lawful = record { law = law; stamps = rises }

      -- another slot's root
      other_root : (r : ℕ) → r ≢ action_root slot → root_of (k ++ c ∷ []) r ≡ root_of k r
      other_root r away = root_other k c r (λ e. away (sym e))

      now_here : now k ≡ now h
      now_here = ap (λ (edits : List Edit). state_at hook_meaning edits (length edits)) p.journal

      next_here : next k y ≡ next h y
      next_here = ap (λ (s : State). hook_meaning.step s y) now_here

      next_still : next (k ++ c ∷ []) y ≡ next h y
      next_still = ap (λ (s : State). hook_meaning.step s y) (now_still hook_meaning k c refl ∙ now_here)

      abbrev after : Placed
      after = put_at placed serial slot blk

      own_slot : slot_of after serial ≡ slot
      own_slot = get_or-set_same placed.slots serial slot 0 (let most = stores.most in let long = p.long in omega (arith, most, long))

      own_block : block_of after slot ≡ blk
      own_block = get_or-set_same placed.blocks slot blk 0 (let wide = p.wide in omega (arith, small, wide))

      same_slot : (action : ℕ) → action ≢ serial → slot_of after action ≡ slot_of placed action
      same_slot action away = get_or-set_other placed.slots serial action slot 0 away

      same_block : (other : ℕ) → other ≢ slot → block_of after other ≡ block_of placed other
      same_block other away = get_or-set_other placed.blocks slot other blk 0 away

      -- an action that had a place keeps it
      moved : (action : ℕ) → action ≢ serial → slot_of placed action ≢ slot → IsPlaced placed k action → IsPlaced after (k ++ c ∷ []) action
      moved action away apart at = record {
        slot = subst (IsSlotOf hook_codec (k ++ c ∷ []) action) (sym (same_slot action away)) (slot_longer hook_codec k (c ∷ []) action (slot_of placed action) at.slot);
        block = subst (λ (s : ℕ). IsAlone (k ++ c ∷ []) s (block_of after s)) (sym (same_slot action away))
            (subst (IsAlone (k ++ c ∷ []) (slot_of placed action)) (sym (same_block (slot_of placed action) apart))
            (at.block.0, at.block.1, ap (λ (n : Named). n.chain) (other_root (action_root (slot_of placed action)) (λ e. apart (omega (arith, e)))) ∙ at.block.2));
      }

      own_placed : IsPlaced after (k ++ c ∷ []) serial
      own_placed = record {
        slot = subst (IsSlotOf hook_codec (k ++ c ∷ []) serial) (sym own_slot) (slot_here hook_codec k c serial slot own_put);
        block = subst (λ (s : ℕ). IsAlone (k ++ c ∷ []) s (block_of after s)) (sym own_slot) (
          subst (λ (n : ℕ). n < POOL_BLOCKS) (sym own_block) block.small,
          action_block (stored_as serial index given),
          ap (λ (n : Named). n.chain) (root_own k c)
              ∙ ap (λ (n : ℕ). record { block = n; words = action_block (stored_as serial index given) } ∷ []) (sym own_block),
        );
      }

      own_there : IsPutThere b (k ++ c ∷ []) y pools after serial
      own_there = record {
        put = record {
          slot = slot;
          there = slot_here hook_codec k c serial slot own_put;
          unused = spare_unused hook_meaning hook_codec k b c (action_root slot) low p.keeps.law spares unused;
          stamp = ap (λ (n : Named). n.stamp) (root_own k c) ∙ ap (λ (n : ℕ). n + 1) (kept.point_is ∙ sym (ap length (edits_still k c refl ∙ p.journal)));
          reads = subst (λ (n : Named). ReadsAction hook_meaning hook_codec serial n.chain (next (k ++ c ∷ []) y)) (sym (root_own k c)) (subst (ReadsAction hook_meaning hook_codec serial c.named.chain) (sym next_still) own_read);
        };
        same = sym own_slot;
        placed_ = own_placed;
        apart = λ in_. taken.apart (subst (λ (s : ℕ). IsInPool s pools.actions) own_slot in_);
      }

      -- what was put stays so
      still_there : (action : ℕ) → action ≢ serial → IsPutThere b k y before placed action → IsPutThere b (k ++ c ∷ []) y pools after action
      still_there action away w = let apart : slot_of placed action ≢ slot = λ e. w.apart (subst (λ (s : ℕ). IsInPool s before.actions) (sym e) was) in
          let other : root_of (k ++ c ∷ []) (action_root w.put.slot) ≡ root_of k (action_root w.put.slot) = other_root (action_root w.put.slot) (λ e. apart (sym w.same ∙ omega (arith, e))) in record {
            put = record {
              slot = w.put.slot;
              there = slot_longer hook_codec k (c ∷ []) action w.put.slot w.put.there;
              unused = spare_unused hook_meaning hook_codec k b c (action_root w.put.slot) low p.keeps.law spares w.put.unused;
              stamp = ap (λ (n : Named). n.stamp) other ∙ (w.put.stamp ∙ ap (λ (n : ℕ). n + 1) (sym (ap length (edits_still k c refl))));
              reads = subst (λ (n : Named). ReadsAction hook_meaning hook_codec action n.chain (next (k ++ c ∷ []) y)) (sym other)
                  (subst (ReadsAction hook_meaning hook_codec action (root_of k (action_root w.put.slot)).chain) (next_here ∙ sym next_still) w.put.reads);
            };
            same = w.same ∙ sym (same_slot action away);
            placed_ = moved action away apart w.placed_;
            apart = λ in_. w.apart (fewer (slot_of placed action) (subst (λ (s : ℕ). IsInPool s pools.actions) (same_slot action away) in_));
          }

      -- an action that was live before has a slot of its own
      old_apart : (action : ℕ) → IsLive hook_meaning (now h) action → slot_of placed action ≢ slot
      old_apart action live e = unused_end hook_meaning hook_codec k b (action_root slot) (ActionRole action) low unused
          (slot_of placed action, (p.old action live).slot, ap action_root (sym e), subst (λ (s : State). IsLive hook_meaning s action) (sym now_here) live)

      old_serial : (action : ℕ) → IsLive hook_meaning (now h) action → action ≢ serial
      old_serial action live e = let most = p.given action (slot_of placed action) (p.old action live).slot in omega (arith, most, e)

      put_pools : ArePools pools (k ++ c ∷ []) b
      put_pools = pools_commit pools k b c (blk ∷ []) low q
          (slot_leaves pools k b c slot blk (action_block (stored_as serial index given)) q block small taken.apart refl (λ r away x s. spare_back hook_meaning hook_codec k b c low p.keeps.law spares r x s))

      pub put_next : PutUpTo h b point made y (k ++ c ∷ []) pools after (upto + 1)
      put_next = record {
        more = p.more ++ c ∷ [];
        seen = ap (λ (z : List (Commit Edit)). z ++ c ∷ []) p.seen ∙ append_assoc h p.more (c ∷ []);
        each = λ place d at. get_parts p.more (c ∷ []) place d at (λ i e. p.each i d e) (λ i e. own_each i d e);
        count = let n = p.count in let l = length-append p.more (c ∷ []) in omega (arith, n, l);
        keeps = put_lawful;
        rest = λ m. spare_rests hook_meaning hook_codec k b c low spares m (p.rest m);
        journal = edits_still k c refl ∙ p.journal;
        roots = λ root none. other_root root (none slot small) ∙ p.roots root none;
        early = λ root. early_each root (eqb (action_root slot) root) refl;
        pools_are = put_pools;
        free = λ s in_. other_root (action_root s) (λ e. taken.apart (subst (λ (x : ℕ). IsInPool x pools.actions) (omega (arith, e)) in_)) ∙ p.free s (fewer s in_);
        long = length-set placed.slots serial slot ∙ p.long;
        wide = length-set placed.blocks slot blk ∙ p.wide;
        old = λ action live. moved action (old_serial action live) (old_apart action live) (p.old action live);
        new = λ action up most. new_each action up most (eqb action serial) refl;
        given = λ action s w. given_each action s (slot_push hook_codec k c action s w);
      }
        where
          own_each : (i : ℕ) (d : Commit Edit) → slice_get (c ∷ []) i ≡ Some d → IsPut point d
          own_each zero d e = let same : c ≡ d = cc e in subst (IsPut point) same (record { plain = refl; slot = slot; small = small; root = refl; stamp = refl })
          own_each (suc i) d e = absurd (cc e)

          early_each : (root : ℕ) (x : Bool) → eqb (action_root slot) root ≡ x → (root_of (k ++ c ∷ []) root).stamp ≤ point + 1
          early_each root true e = let own = ap (λ (n : Named). n.stamp) (sym (ap (root_of (k ++ c ∷ [])) (eqb-true (action_root slot) root e)) ∙ root_own k c) in omega (arith, own)
          early_each root false e = let same = ap (λ (n : Named). n.stamp) (root_other k c root (eqb-false (action_root slot) root e)) in let first = p.early root in omega (arith, same, first)

          new_each : (action : ℕ) → made < action → action ≤ upto + 1 → (x : Bool) → eqb action serial ≡ x → IsPutThere b (k ++ c ∷ []) y pools after action
          new_each action up most true e = subst (IsPutThere b (k ++ c ∷ []) y pools after) (sym (eqb-true action serial e)) own_there
          new_each action up most false e = let away = eqb-false action serial e in still_there action away (p.new action up (omega (arith, most, away)))

          given_each : (action s : ℕ) → IsSlotOf hook_codec k action s ⊎ PutsAction hook_codec c action s → action ≤ upto + 1
          given_each action s (inl w) = let first = p.given action s w in omega (arith, first)
          given_each action s (inr w) = let same = puts_own action s w in omega (arith, same)
