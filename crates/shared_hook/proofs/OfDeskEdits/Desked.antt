-- A whole desk, once a hook has its tables anew.
use Rattle.std.proofs.Common.{◌≡◌, ◌≢◌, ◌∙◌, inr, ℕ, true, List, [], ◌∷◌, ◌++◌, length, Some, None, refl, sym, ap, subst, arith, length-append}
use Rattle.tc_base.specs.declared.hook.Hook.{Hook}
use Rattle.tc_base.specs.declared.hook.Hook.TheVariants.{Ingress, Egress}
use Rattle.store_history.specs.declared.history.Commit.{Commit}
use Rattle.store_history.specs.History.{edits_of}
use Rattle.filter_state.specs.declared.edit.Edit.{Edit}
use Rattle.filter_state.specs.declared.refusal.Done.{Done}
use Rattle.hook_lists.specs.declared.kept.Kept.{Kept}
use Rattle.filter_lists.specs.Spells.{Spells}
use Rattle.block_codec.specs.declared.table.StoredTable.{StoredTable}
use Rattle.mask_writer.specs.Masks.{Masks}
use Rattle.miniq_pair.specs.Pairs.{other_place}
use Rattle.hook_law.specs.Meaning.{state_at, IsLive}
use Rattle.hook_law.proofs.Growing.{state_pushed}
use Rattle.hook_law.proofs.Standing.{present_end}
use Rattle.hook_store_law.specs.Stated.{hook_meaning}
use Rattle.hook_store_law.specs.Blocks.{hook_codec}
use Rattle.hook_store_law.specs.OfEdits.Premises.{now, next, IsAccepted}
use Rattle.desk_pools.specs.declared.pools.Pools.{Pools}
use Rattle.desk_pools.specs.declared.pools.IdlePlace.{IdlePlace}
use Rattle.desk_pools.specs.Pools.{ArePools}
use Rattle.desk_pools.specs.Steps.{IsInPool, turned}
use Rattle.desk_pools.specs.OfNumbers.Numbers.{PoolNumbers}
use Rattle.desk_actions.specs.declared.ledgers.ledger.Ledger.{Ledger}
use Rattle.desk_actions.specs.OfLedgers.Kept.{commits, base, IsWhole}
use Rattle.desk_actions.specs.Places.{slot_of, AreHere, AreHereFor}
use Rattle.desk_parts.proofs.OfLineActions.Lasting.{here_goes}
use Rattle.desk_masks.specs.declared.hook_tables.HookTables.{HookTables}
use Rattle.desk_masks.specs.Masks.{HasMasks}
use Rattle.desk_parts.specs.declared.parts.Parts.{Parts}
use Rattle.desk_parts.specs.Desk.{hook_shape, cells, AreSized, IsDesk}
use Rattle.shared_hook.specs.OfDeskEdits.Ahead.{IsAhead}
use Rattle.desk_heads.specs.Handed.{idle_of, AreActionsHanded}
use Rattle.shared_hook.specs.OfDeskEdits.Swaps.{tables_of, with_tables, MaySwap, IsSwapped}

-- ---- while the lists are ahead
module _ (parts : Parts) (y : Edit) (done : Done) (ahead : IsAhead parts y done) where
  abbrev h : List (Commit Edit)
  h = commits parts.ledger

  pub accepted : IsAccepted h (base parts.ledger) y (next h y) done
  accepted = record { keeps = ahead.has.kept.keeps.law; low = ahead.has.kept.low; line = ahead.line; steps = ahead.steps }

  -- slots of actions that were put for the edit are in no pool
  pub actions_handed : AreActionsHanded parts.pools h (base parts.ledger) y
  actions_handed action put in_pool =
      let read = put.reads in
      let live : IsLive hook_meaning (next h y) action = λ none. let bad : Some read.action.params ≡ None = sym read.are ∙ none in cc bad in
      let present = present_end hook_meaning hook_codec h (base parts.ledger) ahead.has.kept.low ahead.has.kept.keeps.law in
      let same = present.one_slot action put.slot (slot_of parts.actions action) put.there (ahead.actions.slots action live) in
      ahead.apart action (inr live) (subst (λ (s : ℕ). IsInPool s parts.pools.actions) same in_pool)

  -- the hook may be given its tables, with what was taken out of other pools
  module _ (pools : Pools) (same_actions : pools.actions ≡ parts.pools.actions) (same_ingress : pools.ingress ≡ parts.pools.ingress) (same_egress : pools.egress ≡ parts.pools.egress) (are : ArePools pools h (base parts.ledger)) where
    handed : AreActionsHanded pools h (base parts.ledger) y
    handed action put in_pool = actions_handed action put (subst (λ (q : PoolNumbers). IsInPool put.slot q) same_actions in_pool)

    pub may_swap : (hook : Hook) → (idle_of hook parts.pools).is_free ≡ true → MaySwap hook y parts.ledger pools (tables_of hook (record parts { pools = pools }))
    may_swap Ingress free = record {
      shaped = ahead.has.shaped;
      kept = ahead.has.kept;
      recent = ahead.recent;
      pools_are = are;
      tables = ahead.has.ingress;
      spells = ahead.spells;
      idle = ap (λ (i : IdlePlace). i.place) same_ingress ∙ ahead.has.idle_ingress;
      free = ap (λ (i : IdlePlace). i.is_free) same_ingress ∙ free;
      actions = handed;
    }
    may_swap Egress free = record {
      shaped = ahead.has.shaped;
      kept = ahead.has.kept;
      recent = ahead.recent;
      pools_are = are;
      tables = ahead.has.egress;
      spells = ahead.spells;
      idle = ap (λ (i : IdlePlace). i.place) same_egress ∙ ahead.has.idle_egress;
      free = ap (λ (i : IdlePlace). i.is_free) same_egress ∙ free;
      actions = handed;
    }

-- ---- afterwards
pub now_is_next : (h k : List (Commit Edit)) (y : Edit) → edits_of k ≡ edits_of h ++ y ∷ [] → now k ≡ next h y
now_is_next h k y journal = ap (λ (edits : List Edit). state_at hook_meaning edits (length edits)) journal
    ∙ state_pushed hook_meaning (edits_of h) y (length (edits_of h ++ y ∷ [])) (omega (arith, length-append (edits_of h) (y ∷ [])))

-- one edit more, in the words of a whole desk: `pools` are those before the tables were given
module _ (old : Parts) (y : Edit) (done : Done) (ahead : IsAhead old y done) (hook : Hook) (ledger : Ledger) (pools left after : Pools) (masks : Masks) (heads : HookTables) (room : List StoredTable)
    (sized : AreSized after) (are : ArePools after (commits ledger) (base ledger)) (after_ingress : after.ingress ≡ left.ingress) (after_egress : after.egress ≡ left.egress) (same_ingress : pools.ingress ≡ old.pools.ingress) (same_egress : pools.egress ≡ old.pools.egress)
    (s : IsSwapped hook y old.ledger ledger pools left (tables_of hook old) heads) (held : HasMasks masks hook_shape (cells ledger) (commits ledger)) where
  now_is : now (commits ledger) ≡ next (commits old.ledger) y
  now_is = now_is_next (commits old.ledger) (commits ledger) y s.journal

  whole : IsWhole ledger
  whole = record {
    kept = s.kept;
    rest = s.rest;
    spells = subst (Spells ledger.lists) (sym now_is) (subst (λ (l : Kept). Spells l (next (commits old.ledger) y)) (sym s.lists) ahead.spells);
  }

  actions : AreHere old.actions (commits ledger)
  actions = subst (AreHereFor old.actions (commits ledger)) (sym now_is)
      (subst (λ (k : List (Commit Edit)). AreHereFor old.actions k (next (commits old.ledger) y)) (sym s.aside.seen)
      (here_goes old.actions (commits old.ledger) s.aside.more s.aside.aside (next (commits old.ledger) y) ahead.actions))

  desk_swapped : IsDesk (with_tables hook heads (record old { ledger = ledger; pools = after; masks = masks; room = room }))
  desk_swapped = by hook s
    where
      by : (which : Hook) → IsSwapped which y old.ledger ledger pools left (tables_of which old) heads → IsDesk (with_tables which heads (record old { ledger = ledger; pools = after; masks = masks; room = room }))
      by Ingress t = record {
        shaped = t.shaped;
        whole = whole;
        pools = are;
        sized = sized;
        actions = actions;
        masks = held;
        ingress = t.tables;
        egress = t.others Egress old.egress (λ same. cc same) ahead.has.egress;
        idle_ingress = ap (λ (i : IdlePlace). i.place) after_ingress ∙ ap (λ (q : Pools). q.ingress.place) t.turns
            ∙ ap other_place (ap (λ (i : IdlePlace). i.place) same_ingress ∙ (ahead.has.idle_ingress ∙ sym t.active));
        idle_egress = ap (λ (i : IdlePlace). i.place) after_egress ∙ ap (λ (q : Pools). q.egress.place) t.turns ∙ (ap (λ (i : IdlePlace). i.place) same_egress ∙ ahead.has.idle_egress);
      }
      by Egress t = record {
        shaped = t.shaped;
        whole = whole;
        pools = are;
        sized = sized;
        actions = actions;
        masks = held;
        ingress = t.others Ingress old.ingress (λ same. cc same) ahead.has.ingress;
        egress = t.tables;
        idle_ingress = ap (λ (i : IdlePlace). i.place) after_ingress ∙ ap (λ (q : Pools). q.ingress.place) t.turns ∙ (ap (λ (i : IdlePlace). i.place) same_ingress ∙ ahead.has.idle_ingress);
        idle_egress = ap (λ (i : IdlePlace). i.place) after_egress ∙ ap (λ (q : Pools). q.egress.place) t.turns
            ∙ ap other_place (ap (λ (i : IdlePlace). i.place) same_egress ∙ (ahead.has.idle_egress ∙ sym t.active));
      }

-- what was taken and given leaves the rest of the desk as it was
abbrev pub IsRest : Hook → Parts → Parts → Type 0
IsRest hook old new = new ≡ with_tables hook (tables_of hook new) (record old { ledger = new.ledger; pools = new.pools; masks = new.masks; room = new.room })

same_tables : (hook : Hook) (parts : Parts) (pools : Pools) → tables_of hook (record parts { pools = pools }) ≡ tables_of hook parts
same_tables Ingress parts pools = refl
same_tables Egress parts pools = refl

-- `left` is what the pools were as the tables were given; what masks had may have left since
pub desk_done : (old : Parts) (y : Edit) (done : Done) → IsAhead old y done → (hook : Hook) (pools left : Pools) → pools.ingress ≡ old.pools.ingress → pools.egress ≡ old.pools.egress → (new : Parts)
    → IsSwapped hook y old.ledger new.ledger pools left (tables_of hook (record old { pools = pools })) (tables_of hook new) → HasMasks new.masks hook_shape (cells new.ledger) (commits new.ledger)
    → AreSized new.pools → ArePools new.pools (commits new.ledger) (base new.ledger) → new.pools.ingress ≡ left.ingress → new.pools.egress ≡ left.egress → IsRest hook old new → IsDesk new
desk_done old y done ahead hook pools left ingress egress new s held sized are after_ingress after_egress rest = subst IsDesk (sym rest)
    (desk_swapped old y done ahead hook new.ledger pools left new.pools new.masks (tables_of hook new) new.room sized are after_ingress after_egress ingress egress
    (subst (λ (t : HookTables). IsSwapped hook y old.ledger new.ledger pools left t (tables_of hook new)) (same_tables hook old pools) s) held)

pub other_tables : (hook other : Hook) (old new : Parts) → hook ≢ other → IsRest hook old new → tables_of other new ≡ tables_of other old
other_tables Ingress Ingress old new ne rest = absurd (ne refl)
other_tables Ingress Egress old new ne rest = ap (λ (p : Parts). p.egress) rest
other_tables Egress Ingress old new ne rest = ap (λ (p : Parts). p.ingress) rest
other_tables Egress Egress old new ne rest = absurd (ne refl)

-- pools that have one place turned
pub turned_blocks : (hook : Hook) (pools left : Pools) → left ≡ turned hook pools → left.blocks ≡ pools.blocks
turned_blocks Ingress pools left is = ap (λ (q : Pools). q.blocks) is
turned_blocks Egress pools left is = ap (λ (q : Pools). q.blocks) is

pub turned_rows : (hook : Hook) (pools left : Pools) → left ≡ turned hook pools → left.rows ≡ pools.rows
turned_rows Ingress pools left is = ap (λ (q : Pools). q.rows) is
turned_rows Egress pools left is = ap (λ (q : Pools). q.rows) is

pub turned_masks : (hook : Hook) (pools left : Pools) → left ≡ turned hook pools → left.masks ≡ pools.masks
turned_masks Ingress pools left is = ap (λ (q : Pools). q.masks) is
turned_masks Egress pools left is = ap (λ (q : Pools). q.masks) is

pub turned_sized : (hook : Hook) (pools left : Pools) → left ≡ turned hook pools → AreSized pools → AreSized left
turned_sized Ingress pools left is sized = subst AreSized (sym is) sized
turned_sized Egress pools left is sized = subst AreSized (sym is) sized
