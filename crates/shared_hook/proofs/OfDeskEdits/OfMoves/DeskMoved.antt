-- A whole desk, once the edit that moves a filter is made.
use Rattle.std.proofs.Common.{◌≡◌, ◌∙◌, ◌+◌, true, List, [], ◌∷◌, ◌++◌, sym, ap, subst}
use Rattle.tc_base.specs.declared.hook.Hook.{Hook}
use Rattle.tc_base.specs.declared.hook.Hook.TheVariants.{Ingress, Egress}
use Rattle.visit_room.specs.declared.names.MaskName.{MaskName}
use Rattle.pin_store.specs.Calls.{sheet_of}
use Rattle.filter_state.specs.declared.edit.Edit.{Edit}
use Rattle.filter_state.specs.declared.refusal.Done.{Done}
use Rattle.miniq_pair.specs.Pairs.{other_place}
use Rattle.miniq_pair.proofs.Placing.{same_cells}
use Rattle.desk_pools.specs.declared.pools.Pools.{Pools}
use Rattle.desk_pools.specs.Pools.{ArePools}
use Rattle.desk_pools.specs.Steps.{turned}
use Rattle.desk_actions.specs.OfLedgers.Kept.{commits, base}
use Rattle.desk_masks.specs.declared.hook_tables.HookTables.{HookTables}
use Rattle.desk_masks.specs.Masks.{HasMasks}
use Rattle.desk_masks.specs.Tables.{HasTables}
use Rattle.desk_parts.specs.declared.parts.Parts.{Parts}
use Rattle.desk_parts.specs.Desk.{hook_shape, cells, AreSized}
use Rattle.desk_heads.specs.Handed.{idle_of}
use Rattle.shared_hook.specs.OfDeskEdits.Ahead.{IsAhead}
use Rattle.shared_hook.specs.OfDeskEdits.Swaps.{tables_of, with_tables, MaySwap, IsSwapped}
use Rattle.shared_hook.proofs.OfDeskEdits.AsideThen.{aside_then}
use Rattle.shared_hook.proofs.OfDeskEdits.Desked.{IsRest, desk_done}
use Rattle.shared_hook.proofs.OfDeskEdits.Kept.{actions_left}
use Rattle.shared_hook.specs.OfDeskEdits.OfMoves.Raises.{IsRaising}
use Rattle.shared_hook.specs.OfDeskEdits.OfMoves.Moves.{IsMovedOn}

-- the rest of a desk in other words
rest_of : (hook : Hook) (old new : Parts) → IsRest hook old new
    → new ≡ record old { ledger = new.ledger; pools = new.pools; masks = new.masks; ingress = new.ingress; egress = new.egress; room = new.room }
rest_of Ingress old new rest = rest ∙ λ t. record old { ledger = new.ledger; pools = new.pools; masks = new.masks; ingress = new.ingress; egress = sym (ap (λ (p : Parts). p.egress) rest) t; room = new.room }
rest_of Egress old new rest = rest ∙ λ t. record old { ledger = new.ledger; pools = new.pools; masks = new.masks; ingress = sym (ap (λ (p : Parts). p.ingress) rest) t; egress = new.egress; room = new.room }

tables_stay : (hook : Hook) (old : Parts) (pools : Pools) (new : Parts) → new.ingress ≡ old.ingress → new.egress ≡ old.egress → tables_of hook new ≡ tables_of hook (record old { pools = pools })
tables_stay Ingress old pools new one two = one
tables_stay Egress old pools new one two = two

module _ (start parts : Parts) (y : Edit) (done : Done) (ahead : IsAhead start y done) (built : List MaskName) (r : IsRaising start parts y built) (hook : Hook) where
  -- the hook may be given its tables
  pub may_move : (idle_of hook parts.pools).is_free ≡ true → MaySwap hook y parts.ledger parts.pools (tables_of hook parts)
  may_move free = by hook free
    where
      by : (which : Hook) → (idle_of which parts.pools).is_free ≡ true → MaySwap which y parts.ledger parts.pools (tables_of which parts)
      by Ingress free_ = record {
        shaped = r.shaped;
        kept = record { low = r.ready.accepted.low; keeps = r.lawful; point_is = r.point_is };
        recent = r.recent;
        pools_are = r.pools;
        tables = subst (λ (t : HookTables). HasTables Ingress t (commits parts.ledger)) (sym (ap (λ (p : Parts). p.ingress) r.stays)) (r.tables Ingress start.ingress ahead.has.ingress);
        spells = r.spells;
        idle = ap (λ (p : Parts). p.pools.ingress.place) r.stays ∙ (ahead.has.idle_ingress ∙ sym (ap (λ (p : Parts). other_place p.ingress.pair.active) r.stays));
        free = free_;
        actions = r.actions;
      }
      by Egress free_ = record {
        shaped = r.shaped;
        kept = record { low = r.ready.accepted.low; keeps = r.lawful; point_is = r.point_is };
        recent = r.recent;
        pools_are = r.pools;
        tables = subst (λ (t : HookTables). HasTables Egress t (commits parts.ledger)) (sym (ap (λ (p : Parts). p.egress) r.stays)) (r.tables Egress start.egress ahead.has.egress);
        spells = r.spells;
        idle = ap (λ (p : Parts). p.pools.egress.place) r.stays ∙ (ahead.has.idle_egress ∙ sym (ap (λ (p : Parts). other_place p.egress.pair.active) r.stays));
        free = free_;
        actions = r.actions;
      }

  module _ (new : Parts) (s : IsSwapped hook y parts.ledger new.ledger parts.pools (turned hook parts.pools) (tables_of hook parts) (tables_of hook new)) (masks : HasMasks new.masks hook_shape (cells new.ledger) (commits new.ledger))
      (are : ArePools new.pools (commits new.ledger) (base new.ledger)) (sized : AreSized new.pools) (others : new.pools ≡ record (turned hook parts.pools) { blocks = new.pools.blocks; rows = new.pools.rows; masks = new.pools.masks })
      (rest : IsRest hook parts new) where
    -- since the lists went ahead
    since : IsSwapped hook y start.ledger new.ledger parts.pools (turned hook parts.pools) (tables_of hook (record start { pools = parts.pools })) (tables_of hook new)
    since = subst (λ (t : HookTables). IsSwapped hook y start.ledger new.ledger parts.pools (turned hook parts.pools) t (tables_of hook new))
        (tables_stay hook start parts.pools parts (ap (λ (p : Parts). p.ingress) r.stays) (ap (λ (p : Parts). p.egress) r.stays)) (record {
          shaped = s.shaped;
          aside = aside_then (commits start.ledger) (commits parts.ledger) (commits new.ledger) r.aside s.aside;
          journal = s.journal ∙ ap (λ (l : List Edit). l ++ y ∷ []) r.journal;
          kept = s.kept;
          rest = s.rest;
          lists = s.lists ∙ ap (λ (p : Parts). p.ledger.lists) r.stays;
          point = s.point ∙ ap (λ (p : Parts). p.ledger.point + 1) r.stays;
          sheet = same_cells (sheet_of start.ledger.writer.place) (sheet_of parts.ledger.writer.place) (sheet_of new.ledger.writer.place) r.sheet s.sheet;
          turns = s.turns;
          pools_are = s.pools_are;
          tables = s.tables;
          active = s.active;
          others = λ other kept ne has. s.others other kept ne (r.tables other kept has);
        })

    rest_since : IsRest hook start new
    rest_since = rest ∙ ap (λ (p : Parts). with_tables hook (tables_of hook new) (record p { ledger = new.ledger; pools = new.pools; masks = new.masks; room = new.room })) r.stays

    pub moved_on : IsMovedOn parts new y hook
    moved_on = record {
      desk = desk_done start y done ahead hook parts.pools (turned hook parts.pools) (ap (λ (p : Parts). p.pools.ingress) r.stays) (ap (λ (p : Parts). p.pools.egress) r.stays) new since masks sized are
          (ap (λ (q : Pools). q.ingress) others) (ap (λ (q : Pools). q.egress) others) rest_since;
      point = s.point;
      journal = s.journal;
      aside = s.aside;
      sheet = s.sheet;
      ingress = ap (λ (q : Pools). q.ingress) others;
      egress = ap (λ (q : Pools). q.egress) others;
      slots = actions_left hook parts.pools new.pools others;
      rest = rest_of hook parts new rest;
    }
