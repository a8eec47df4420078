-- What stays as it was when roots are emptied at which nothing stands.
use Rattle.std.proofs.Common.{◌≡◌, ◌≢◌, ◌∙◌, ◌⊎◌, inl, inr, ℕ, suc, ◌+◌, ◌<◌, ◌≤◌, List, [], ◌∷◌, ◌++◌, length, map, slice_get, Option, Some, None, refl, sym, ap, subst, arith, append_assoc, append-nil, length-append, le_refl}
use Rattle.store_history.specs.declared.history.Named.{Named}
use Rattle.store_history.specs.declared.history.Commit.{Commit}
use Rattle.store_history.specs.History.{root_of, edits_of}
use Rattle.filter_state.specs.declared.edit.Edit.{Edit}
use Rattle.filter_state.specs.States.{State}
use Rattle.filter_state.specs.Sound.{Sound}
use Rattle.pin_store.specs.declared.shape.Shape.{Shape}
use Rattle.pin_store.specs.Layout.{block_words}
use Rattle.mask_table.specs.declared.mirrors.mirror.KeptMask.{KeptMask}
use Rattle.mask_table.specs.Buckets.{mask_root}
use Rattle.mask_writer.specs.Masks.{Masks}
use Rattle.mask_writer.specs.Standing.{StandsAt, BucketOf}
use Rattle.hook_lists.specs.declared.kept.Kept.{Kept}
use Rattle.filter_lists.specs.Spells.{Spells}
use Rattle.tc_base.specs.declared.hook.Hook.{Hook}
use Rattle.hook_law.specs.Places as places
use Rattle.hook_law.specs.Meaning.{point_of, now_of, state_at, IsLive}
use Rattle.hook_law.specs.Standing.{Role, Action, PutsAction, IsSlotOf, IsUnused, Stands}
use Rattle.hook_law.specs.Keeping.{Keeps, IsAtRest}
use Rattle.hook_law.specs.Unnumbered.{Empties as EmptiesRoot, EmptiesAll, SparesAll}
use Rattle.hook_law.proofs.Pushing.{keeps_rises}
use Rattle.hook_law.proofs.Sparing.{Spared, spares_keep, empties_spare}
use Rattle.hook_law.proofs.Resting.{spares_rest}
use Rattle.hook_law.proofs.Lists.{root_of_none}
use Rattle.hook_law.proofs.Standing.{slot_longer, slot_push, unused_end}
use Rattle.hook_store_law.specs.Stated.{hook_meaning, filters_at}
use Rattle.hook_store_law.specs.Blocks.{hook_codec}
use Rattle.hook_store_law.proofs.States.{state_is, sound_after}
use Rattle.hook_store_law.specs.Kept.{IsKeptAt}
use Rattle.desk_pools.specs.declared.pools.Pools.{Pools}
use Rattle.desk_pools.specs.OfTidying.Tidied.{empty_at, emptying, Empties}
use Rattle.desk_pools.proofs.OfTidying.Emptied.{mapped_at}
use Rattle.desk_actions.specs.OfLedgers.Ledger.{IsLedger}
use Rattle.desk_actions.specs.Places.{Placed, slot_of, block_of, IsAlone, AreHere}
use Rattle.desk_masks.specs.declared.hook_tables.HookTables.{HookTables}
use Rattle.desk_masks.specs.Masks.{HasMasks}
use Rattle.desk_masks.specs.Tables.{HasTables}
use Rattle.desk_masks.proofs.Going.{tables_go, masks_go, aside_of_heads, aside_of_masks, aside_of_buckets}

-- commits that empty roots put no action
no_more_slots : (cs h : List (Commit Edit)) (a s : ℕ) → ((j : ℕ) (c : Commit Edit) → slice_get cs j ≡ Some c → c.named.chain ≡ []) → IsSlotOf hook_codec (h ++ cs) a s → IsSlotOf hook_codec h a s
no_more_slots [] h a s none w = subst (λ (k : List (Commit Edit)). IsSlotOf hook_codec k a s) (append-nil h) w
no_more_slots (c ∷ cs) h a s none w = sort (slot_push hook_codec h c a s
    (no_more_slots cs (h ++ c ∷ []) a s (λ j d e. none (suc j) d e) (subst (λ (k : List (Commit Edit)). IsSlotOf hook_codec k a s) (sym (append_assoc h (c ∷ []) cs)) w)))
  where
    puts_none : PutsAction hook_codec c a s → ⊥
    puts_none p = let read = p.read in let empty = none 0 c refl in absurd (cc (read, empty))

    sort : IsSlotOf hook_codec h a s ⊎ PutsAction hook_codec c a s → IsSlotOf hook_codec h a s
    sort (inl before) = before
    sort (inr p) = absurd (puts_none p)

module _ (h : List (Commit Edit)) (b : ℕ) (lists : Kept) (point : ℕ) (l : IsLedger h b lists point) (old : Pools) (k : List (Commit Edit)) (e : Empties old h point k) where
  abbrev cs : List (Commit Edit)
  cs = emptying point e.roots

  top : Keeps hook_meaning hook_codec h (length h)
  top = keeps_rises hook_meaning hook_codec h b (length h) l.kept.low l.kept.keeps.law

  one : (j : ℕ) (c : Commit Edit) → slice_get cs j ≡ Some c → (root : ℕ) × (slice_get e.roots j ≡ Some root) × (c ≡ empty_at point root)
  one j c at = mapped_at (empty_at point) e.roots j c at

  no_chain : (j : ℕ) (c : Commit Edit) → slice_get cs j ≡ Some c → c.named.chain ≡ []
  no_chain j c at = let m = one j c at in ap (λ (d : Commit Edit). d.named.chain) m.2

  unused : (j : ℕ) (c : Commit Edit) → slice_get cs j ≡ Some c → IsUnused hook_meaning hook_codec (length h) h c.root
  unused j c at = let m = one j c at in subst (λ (d : Commit Edit). IsUnused hook_meaning hook_codec (length h) h d.root) (sym m.2) (e.unused j m.0 m.1)

  empties : EmptiesAll hook_meaning hook_codec (length h) h cs
  empties j c at = let m = one j c at in record {
    plain = ap (λ (d : Commit Edit). d.edit) m.2;
    stamp = inl (ap (λ (d : Commit Edit). d.named.stamp) m.2 ∙ l.kept.point_is);
    unused = unused j c at;
    chain = no_chain j c at;
  }

  spares : SparesAll hook_meaning hook_codec (length h) h cs
  spares = empties_spare hook_meaning hook_codec h cs (length h) empties

  spared : Spared hook_meaning hook_codec (length h) h cs
  spared = spares_keep hook_meaning hook_codec cs h (length h) (le_refl (length h)) top spares

  -- no commit goes to the root of what stands
  away : (r : ℕ) (x : Role) → Stands hook_meaning hook_codec h r x → (j : ℕ) (c : Commit Edit) → slice_get cs j ≡ Some c → c.root ≢ r
  away r x stands j c at same = unused_end hook_meaning hook_codec h (length h) c.root x (le_refl (length h)) (unused j c at)
      (subst (λ (q : ℕ). Stands hook_meaning hook_codec h q x) (sym same) stands)

  root_stays : (r : ℕ) (x : Role) → Stands hook_meaning hook_codec h r x → root_of (h ++ cs) r ≡ root_of h r
  root_stays r x stands = root_of_none h cs r (away r x stands)

  empty_root : (j : ℕ) (c : Commit Edit) → slice_get cs j ≡ Some c → (x : Role) → Stands hook_meaning hook_codec h c.root x → ⊥
  empty_root j c at x stands = unused_end hook_meaning hook_codec h (length h) c.root x (le_refl (length h)) (unused j c at) stands

  same_heads : (hook : ℕ) → hook < 2 → root_of (h ++ cs) (places.head_root hook) ≡ root_of h (places.head_root hook)
  same_heads hook less = root_of_none h cs (places.head_root hook) (λ j c at. aside_of_heads h c.root (inr (inr (empty_root j c at))) hook less)

  now_same : now_of hook_meaning (h ++ cs) ≡ now_of hook_meaning h
  now_same = ap (λ (ys : List Edit). state_at hook_meaning ys (length ys)) spared.edits

  sound : Sound (now_of hook_meaning h)
  sound = subst Sound (sym (state_is (edits_of h) (point_of h))) (sound_after h b (point_of h) l.kept.keeps.law l.kept.low)

  low_all : length h ≤ length (h ++ cs)
  low_all = let more = length-append h cs in omega (arith, more)

  pub tidied_journal : edits_of k ≡ edits_of h
  tidied_journal = ap edits_of e.seen ∙ spared.edits

  -- ---- the lists
  tidied_rest : IsAtRest hook_meaning hook_codec k
  tidied_rest = subst (IsAtRest hook_meaning hook_codec) (sym e.seen) (λ m. spares_rest hook_meaning hook_codec cs h (length h) (le_refl (length h)) top spares m (l.rest m))

  pub tidied_whole : (base point2 : ℕ) (lists2 : Kept) → IsKeptAt k base point2 → lists2 ≡ lists → IsLedger k base lists2 point2
  tidied_whole base point2 lists2 kept same = record {
    kept = kept;
    rest = tidied_rest;
    spells = subst (λ (ls : Kept). Spells ls (now_of hook_meaning k)) (sym same)
        (subst (Spells lists) (sym (ap (now_of hook_meaning) e.seen ∙ now_same)) l.spells);
  }

  -- ---- actions
  was_live : (action : ℕ) → IsLive hook_meaning (now_of hook_meaning (h ++ cs)) action → IsLive hook_meaning (now_of hook_meaning h) action
  was_live action live = subst (λ (s : State). IsLive hook_meaning s action) now_same live

  alone_stays : (placed : Placed) → AreHere placed h → (action : ℕ) → IsLive hook_meaning (now_of hook_meaning h) action → IsAlone (h ++ cs) (slot_of placed action) (block_of placed (slot_of placed action))
  alone_stays placed here action live = let alone = here.blocks action live in let slot = here.slots action live in
      (alone.0, alone.1, ap (λ (n : Named). n.chain) (root_stays (places.action_root (slot_of placed action)) (Action action) (slot_of placed action, slot, refl, live)) ∙ alone.2)

  pub tidied_actions : (placed : Placed) → AreHere placed h → AreHere placed k
  tidied_actions placed here = subst (AreHere placed) (sym e.seen) (record {
    long = here.long;
    wide = here.wide;
    slots = λ action live. slot_longer hook_codec h cs action (slot_of placed action) (here.slots action (was_live action live));
    blocks = λ action live. alone_stays placed here action (was_live action live);
    made = λ action slot w. subst (λ (s : State). action ≤ s.actions_made) (sym now_same) (here.made action slot (no_more_slots cs h action slot no_chain w));
  })

  -- ---- masks and tables
  pub tidied_tables : (hook : Hook) (kept : HookTables) → HasTables hook kept h → HasTables hook kept k
  tidied_tables hook kept has = subst (HasTables hook kept) (sym e.seen) (tables_go h (h ++ cs) same_heads hook kept has)

  pub tidied_masks : (masks : Masks) (shape : Shape) (cells cells2 : List ℕ) → HasMasks masks shape cells h → cells2 ≡ cells → HasMasks masks shape cells2 k
  tidied_masks masks shape cells cells2 has same = subst (HasMasks masks shape cells2) (sym e.seen)
      (masks_go h (h ++ cs) same_heads (length h) (le_refl (length h)) top low_all spared.keeps (λ a s w. slot_longer hook_codec h cs a s w) sound
      (λ m. ap (λ (s : State). filters_at s m) now_same) (let same_edits = ap length spared.edits in omega (arith, same_edits)) masks shape cells cells2 has
      (λ slot kept stands. ap (λ (n : Named). n.chain) (root_of_none h cs (mask_root slot) (λ j c at. aside_of_masks h c.root masks shape cells has (inr (inr (empty_root j c at))) slot kept stands)))
      (λ root at. ap (λ (n : Named). n.chain) (root_of_none h cs root (λ j c in_. aside_of_buckets h c.root masks shape cells has (inr (inr (empty_root j c in_))) root at)))
      (λ root blk named. ap (λ (ws : List ℕ). block_words shape ws blk) same))
