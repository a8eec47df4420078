-- A whole desk, once the mask of an edit was laid anew.
use Rattle.std.proofs.Common.{◌≡◌, ◌∙◌, ◌⊎◌, inl, inr, ℕ, ◌+◌, ◌*◌, ◌<◌, ◌≤◌, List, ◌++◌, length, sym, ap, subst, arith}
use Rattle.std.specs.Prelude.{IsTrue}
use Rattle.tc_base.specs.declared.hook.Hook.{Hook}
use Rattle.tc_base.specs.declared.hook.Hook.TheVariants.{Ingress, Egress}
use Rattle.store_history.specs.declared.history.Commit.{Commit}
use Rattle.store_history.specs.History.{root_of, edits_of}
use Rattle.store_history.specs.declared.places.TheConstants.{MASK_SLOTS, ACTION_SLOTS, ROWS, ROW_BUCKETS, MASK_ROOTS, ACTION_ROOTS, BUCKET_ROOTS, POOL_BLOCKS}
use Rattle.pin_store.specs.Calls.{IsUnnamed}
use Rattle.filter_state.specs.declared.edit.Edit.{Edit}
use Rattle.filter_state.specs.States.{State}
use Rattle.filter_lists.specs.Spells.{Spells}
use Rattle.flow_mask.specs.Sizes.{is_size, size_of}
use Rattle.mask_writer.specs.Masks.{Masks}
use Rattle.hook_law.specs.Places as places
use Rattle.hook_law.specs.Meaning.{state_at}
use Rattle.root_pool_laws.proofs.Apart.{in_right}
use Rattle.hook_law.specs.Standing.{IsIn}
use Rattle.hook_law.specs.Keeping.{IsAtRest}
use Rattle.hook_law.proofs.Lists.{root_of_none}
use Rattle.hook_store_law.specs.Stated.{hook_meaning}
use Rattle.hook_store_law.specs.Blocks.{hook_codec}
use Rattle.hook_store_law.specs.Kept.{IsKeptAt}
use Rattle.hook_store_law.specs.OfEdits.Premises.{now}
use Rattle.desk_pools.specs.declared.pools.IdlePlace.{IdlePlace}
use Rattle.desk_pools.specs.declared.pools.Pools.{Pools}
use Rattle.desk_pools.specs.Pools.{IsFreeAt, ArePools}
use Rattle.desk_pools.specs.Steps.{AreTaken}
use Rattle.desk_actions.specs.declared.ledgers.ledger.Ledger.{Ledger}
use Rattle.desk_actions.specs.OfLedgers.Kept.{commits, base}
use Rattle.desk_actions.specs.Places.{AreHere, AreHereFor}
use Rattle.desk_parts.specs.OfLineActions.Put.{HaveNoSlots}
use Rattle.desk_parts.proofs.OfLineActions.Lasting.{here_goes}
use Rattle.desk_masks.specs.declared.hook_tables.HookTables.{HookTables}
use Rattle.desk_masks.specs.Masks.{HasMasks}
use Rattle.desk_masks.specs.Tables.{HasTables}
use Rattle.desk_masks.proofs.Going.{tables_go}
use Rattle.desk_parts.specs.declared.parts.Parts.{Parts}
use Rattle.desk_parts.specs.Desk.{shape_of, hook_shape, cells, AreSized, IsDesk}
use Rattle.desk_masks.specs.OfResizes.Refit.{count_now, IsOfRefit, GoesOn, MayRefit, AreOutOf}
use Rattle.shared_hook.specs.OfDeskEdits.Ahead.{IsUnsettled, GoesOnAside}

-- ---- before
module _ (parts : Parts) (mask slot : ℕ) (u : IsUnsettled parts mask slot) (pools : Pools) (others : pools ≡ record parts.pools { blocks = pools.blocks; rows = pools.rows }) (size : ℕ) (blocks rows : List ℕ)
    (proper : IsTrue (is_size size)) (fits : size ≡ size_of (count_now (commits parts.ledger) mask)) (many_rows : size ≡ 16 * length rows) (many_blocks : length blocks ≡ count_now (commits parts.ledger) mask + 1)
    (taken_blocks : AreTaken POOL_BLOCKS (IsUnnamed (base parts.ledger) (commits parts.ledger)) pools.blocks blocks)
    (taken_rows : AreTaken ROWS (IsFreeAt (commits parts.ledger) (base parts.ledger) BUCKET_ROOTS ROW_BUCKETS) pools.rows rows)
    (rows_were : parts.pools.rows.free ≡ pools.rows.free ++ rows) where
  abbrev h : List (Commit Edit)
  h = commits parts.ledger

  pub may_refit : MayRefit parts.masks hook_shape (cells parts.ledger) h (base parts.ledger) parts.ledger.point slot size blocks rows
  may_refit = let it = u.has.masks.has mask slot u.at in record {
    kept = it.kept;
    kept_at = record { low = u.has.kept.low; keeps = u.has.kept.keeps; point_is = u.has.kept.point_is; early = u.early };
    has = u.has.masks;
    stands = it.stands;
    rest = λ m other. u.rest m (λ same. other (same ∙ sym it.serial));
    proper = proper;
    fits = subst (λ (m : ℕ). size ≡ size_of (count_now h m)) (sym it.serial) fits;
    rows_are = record {
      different = taken_rows.different;
      small = λ row at. (taken_rows.each row at).small;
      free = λ row at. (taken_rows.each row at).free;
      older = λ row place at less. u.older_rows row place (inl (subst (IsIn row) (sym rows_were) (in_right pools.rows.free rows row at))) less;
    };
    many_rows = many_rows;
    blocks_are = record {
      different = taken_blocks.different;
      pool = λ place x e. (taken_blocks.each x (place, e)).small;
      free = λ place x e. (taken_blocks.each x (place, e)).free;
    };
    many_blocks = subst (λ (m : ℕ). length blocks ≡ count_now h m + 1) (sym it.serial) many_blocks;
    older = u.older;
  }

  pub are_out : AreOutOf pools blocks rows
  are_out = record { rows_out = λ row at. (taken_rows.each row at).apart; blocks_out = λ block at. (taken_blocks.each block at).apart }

-- ---- after
pub record IsRefitted (old : Parts) (ledger : Ledger) (pools : Pools) (masks : Masks) (slot : ℕ) (rows : List ℕ) : Type 0 where
  pub small : slot < MASK_SLOTS
  pub goes_on : GoesOn (commits old.ledger) (commits ledger) slot rows
  pub kept : IsKeptAt (commits ledger) (base ledger) ledger.point
  pub rest : IsAtRest hook_meaning hook_codec (commits ledger)
  pub journal : edits_of (commits ledger) ≡ edits_of (commits old.ledger)
  pub lists : ledger.lists ≡ old.ledger.lists
  pub shaped : shape_of ledger.writer.place ≡ hook_shape
  pub pools_are : ArePools pools (commits ledger) (base ledger)
  pub sized : AreSized pools
  pub ingress : pools.ingress ≡ old.pools.ingress
  pub egress : pools.egress ≡ old.pools.egress
  pub masks_are : HasMasks masks hook_shape (cells ledger) (commits ledger)

-- the roots of a mask laid anew
refit_high : (slot : ℕ) (rows : List ℕ) (root : ℕ) → slot < MASK_SLOTS → IsOfRefit slot rows root → (MASK_ROOTS ≤ root) × ((root < ACTION_ROOTS) ⊎ (BUCKET_ROOTS ≤ root))
refit_high slot rows root small (inl own) = (omega (arith, own), inl (omega (arith, own, small)))
refit_high slot rows root small (inr own) = let is = own.4 in (omega (arith, is), inr (omega (arith, is)))

module _ (h k : List (Commit Edit)) (slot : ℕ) (rows : List ℕ) (small : slot < MASK_SLOTS) (g : GoesOn h k slot rows) where
  no_slot : (root : ℕ) → (MASK_ROOTS ≤ root) × ((root < ACTION_ROOTS) ⊎ (BUCKET_ROOTS ≤ root)) → (s : ℕ) → s < ACTION_SLOTS → root ≡ places.action_root s → ⊥
  no_slot root (above, inl low) s less same = absurd (omega (arith, low, same))
  no_slot root (above, inr high) s less same = absurd (omega (arith, high, same, less))

  no_slots : HaveNoSlots g.more
  no_slots place c e s less same = no_slot c.root (refit_high slot rows c.root small (g.each place c e).1) s less same

  pub refit_aside : GoesOnAside h k
  refit_aside = record { more = g.more; seen = g.seen; aside = no_slots }

  heads : (hook : ℕ) → hook < 2 → root_of k (places.head_root hook) ≡ root_of h (places.head_root hook)
  heads hook less = subst (λ (l : List (Commit Edit)). root_of l (places.head_root hook) ≡ root_of h (places.head_root hook)) (sym g.seen)
      (root_of_none h g.more (places.head_root hook) (λ j c e same. let above = (refit_high slot rows c.root small (g.each j c e).1).0 in absurd (omega (arith, above, same, less))))

module _ (old : Parts) (ledger : Ledger) (pools : Pools) (masks : Masks) (mask slot : ℕ) (rows : List ℕ) (u : IsUnsettled old mask slot) (w : IsRefitted old ledger pools masks slot rows) where
  now_same : now (commits ledger) ≡ now (commits old.ledger)
  now_same = ap (λ (edits : List Edit). state_at hook_meaning edits (length edits)) w.journal

  tables : (hook : Hook) (kept : HookTables) → HasTables hook kept (commits old.ledger) → HasTables hook kept (commits ledger)
  tables hook kept has = tables_go (commits old.ledger) (commits ledger) (heads (commits old.ledger) (commits ledger) slot rows w.small w.goes_on) hook kept has

  here : AreHere old.actions (commits ledger)
  here = subst (λ (s : State). AreHereFor old.actions (commits ledger) s) (sym now_same)
      (subst (λ (l : List (Commit Edit)). AreHereFor old.actions l (now (commits old.ledger))) (sym w.goes_on.seen)
      (here_goes old.actions (commits old.ledger) w.goes_on.more (no_slots (commits old.ledger) (commits ledger) slot rows w.small w.goes_on) (now (commits old.ledger)) u.actions))

  pub desk_refitted : IsDesk (record old { ledger = ledger; pools = pools; masks = masks })
  desk_refitted = record {
    shaped = w.shaped;
    whole = record {
      kept = w.kept;
      rest = w.rest;
      spells = subst (λ (s : State). Spells ledger.lists s) (sym now_same) (subst (λ l. Spells l (now (commits old.ledger))) (sym w.lists) u.spells);
    };
    pools = w.pools_are;
    sized = w.sized;
    actions = here;
    masks = w.masks_are;
    ingress = tables Ingress old.ingress u.has.ingress;
    egress = tables Egress old.egress u.has.egress;
    idle_ingress = ap (λ (p : IdlePlace). p.place) w.ingress ∙ u.has.idle_ingress;
    idle_egress = ap (λ (p : IdlePlace). p.place) w.egress ∙ u.has.idle_egress;
  }
