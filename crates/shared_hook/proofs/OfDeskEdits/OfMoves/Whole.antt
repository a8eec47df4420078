-- A whole edit: what leads up to the head's commit and what follows it, put together.
use Rattle.std.proofs.Common.{◌≡◌, ◌∙◌, ℕ, ◌+◌, List, [], ◌∷◌, ◌++◌, length, sym, ap, subst}
use Rattle.tc_base.specs.declared.hook.Hook.{Hook}
use Rattle.tc_base.specs.declared.hook.Hook.TheVariants.{Ingress, Egress}
use Rattle.visit_room.specs.declared.names.MaskName.{MaskName}
use Rattle.store_history.specs.History.{edits_of}
use Rattle.pin_store.specs.Sheets.{IsSameButCells}
use Rattle.pin_store.specs.Calls.{sheet_of}
use Rattle.filter_state.specs.declared.edit.Edit.{Edit}
use Rattle.filter_state.specs.declared.refusal.Done.{Done}
use Rattle.mask_table.proofs.OfMirrors.Keeping.{same_base}
use Rattle.miniq_pair.proofs.Placing.{same_cells}
use Rattle.hook_store_law.specs.OfEdits.Premises.{now}
use Rattle.desk_pools.specs.OfNumbers.Numbers.{PoolNumbers}
use Rattle.desk_needs.specs.declared.needs.Needs.{Needs}
use Rattle.desk_pools.specs.declared.pools.Pools.{Pools}
use Rattle.desk_pools.specs.Steps.{turned}
use Rattle.desk_actions.specs.declared.ledgers.ledger.Ledger.{Ledger}
use Rattle.desk_actions.specs.OfLedgers.Kept.{commits, base}
use Rattle.desk_actions.specs.Effects.{IsCounted}
use Rattle.desk_parts.specs.OfLineActions.Dropped.{MayGo, AreDropped}
use Rattle.desk_parts.specs.OfLineActions.Gone.{serials_gone, NamesGone}
use Rattle.desk_parts.specs.declared.parts.Parts.{Parts}
use Rattle.desk_parts.specs.Desk.{IsDesk}
use Rattle.shared_hook.specs.OfDeskEdits.Ahead.{IsAhead, GoesOnStill}
use Rattle.shared_hook.specs.OfDeskEdits.Spent.{LeftWithActions}
use Rattle.shared_hook.proofs.OfDeskEdits.AsideThen.{aside_then}
use Rattle.shared_hook.proofs.OfDeskEdits.Behind.{fewer_may_go}
use Rattle.shared_hook.proofs.OfDeskEdits.Gone.{left_with}
use Rattle.shared_hook.proofs.OfDeskEdits.Kept.{places_closed, ledger_let}
use Rattle.shared_hook.proofs.OfDeskEdits.Passing.{may_go}
use Rattle.shared_hook.specs.OfDeskEdits.OfMoves.Raises.{IsRaising}
use Rattle.shared_hook.specs.OfDeskEdits.OfMoves.Moves.{IsMovedOn}

-- places of tables that turn alike
turned_ingress : (hook : Hook) (one two : Pools) → one.ingress ≡ two.ingress → (turned hook one).ingress ≡ (turned hook two).ingress
turned_ingress Ingress one two same = ap (λ i. (turned Ingress (record one { ingress = i })).ingress) same
turned_ingress Egress one two same = same

turned_egress : (hook : Hook) (one two : Pools) → one.egress ≡ two.egress → (turned hook one).egress ≡ (turned hook two).egress
turned_egress Ingress one two same = same
turned_egress Egress one two same = ap (λ i. (turned Egress (record one { egress = i })).egress) same

-- what holds of the edit's commit, since the lists went ahead
pub moved_since : (start raised after : Parts) (y : Edit) (built : List MaskName) (hook : Hook) → IsRaising start raised y built → IsMovedOn raised after y hook → IsMovedOn start after y hook
moved_since start raised after y built hook r m = record {
  desk = m.desk;
  point = m.point ∙ ap (λ (p : Parts). p.ledger.point + 1) r.stays;
  journal = m.journal ∙ ap (λ (l : List Edit). l ++ y ∷ []) r.journal;
  aside = aside_then (commits start.ledger) (commits raised.ledger) (commits after.ledger) r.aside m.aside;
  sheet = same_cells (sheet_of start.ledger.writer.place) (sheet_of raised.ledger.writer.place) (sheet_of after.ledger.writer.place) r.sheet m.sheet;
  ingress = m.ingress ∙ turned_ingress hook raised.pools start.pools (ap (λ (p : Parts). p.pools.ingress) r.stays);
  egress = m.egress ∙ turned_egress hook raised.pools start.pools (ap (λ (p : Parts). p.pools.egress) r.stays);
  slots = m.slots ∙ ap (λ (p : Parts). p.pools.actions) r.stays;
  rest = m.rest ∙ ap (λ (p : Parts). record p { ledger = after.ledger; pools = after.pools; masks = after.masks; ingress = after.ingress; egress = after.egress; room = after.room }) r.stays;
}

-- what was laid leaves the rest of the pools and the point
pub raised_pools : (start one two : Parts) (y : Edit) (built more : List MaskName) → IsRaising start one y built → IsRaising start two y more → two.pools ≡ record one.pools { blocks = two.pools.blocks; rows = two.pools.rows; masks = two.pools.masks }
raised_pools start one two y built more r1 r2 = ap (λ (p : Parts). p.pools) r2.stays ∙ sym (ap (λ (p : Parts). record p.pools { blocks = two.pools.blocks; rows = two.pools.rows; masks = two.pools.masks }) r1.stays)

pub raised_point : (start one two : Parts) (y : Edit) (built more : List MaskName) → IsRaising start one y built → IsRaising start two y more → two.ledger.point ≡ one.ledger.point
raised_point start one two y built more r1 r2 = ap (λ (p : Parts). p.ledger.point) r2.stays ∙ sym (ap (λ (p : Parts). p.ledger.point) r1.stays)

module _ (was ahead after : Parts) (y : Edit) (done : Done) (hook : Hook) (d : IsDesk was) (a : IsAhead ahead y done) (still : GoesOnStill (commits was.ledger) (commits ahead.ledger))
    (sheet : IsSameButCells (sheet_of was.ledger.writer.place) (sheet_of ahead.ledger.writer.place)) (m : IsMovedOn ahead after y hook) where
  bases : base after.ledger ≡ base was.ledger
  bases = same_base (sheet_of ahead.ledger.writer.place) (sheet_of after.ledger.writer.place) m.sheet ∙ same_base (sheet_of was.ledger.writer.place) (sheet_of ahead.ledger.writer.place) sheet

  -- actions of the old filter may go
  pub some_may_go : (gone : List ℕ) → NamesGone (now (commits was.ledger)) y gone → MayGo after.ledger.lists after.pools after.actions (commits after.ledger) (base after.ledger) (length (commits was.ledger)) gone
  some_may_go gone names = fewer_may_go after.ledger.lists after.pools after.actions (commits after.ledger) (base after.ledger) (length (commits was.ledger)) (serials_gone (now (commits was.ledger)) y) gone
      (may_go was ahead after y done d a still m.aside m.desk bases (places_closed ahead after m.rest) m.slots) names.each

  module _ (point : ahead.ledger.point ≡ was.ledger.point) (others : ahead.pools ≡ record was.pools { blocks = ahead.pools.blocks; actions = ahead.pools.actions })
      (rest : ahead ≡ record was { ledger = ahead.ledger; pools = ahead.pools; actions = ahead.actions }) (last : Parts) (gone : List ℕ)
      (dropped : AreDropped after.pools last.pools after.actions last.actions (commits after.ledger) (base after.ledger) gone) (let_go : last ≡ record after { pools = last.pools; actions = last.actions }) (desk : IsDesk last) where
    same_ledger : last.ledger ≡ after.ledger
    same_ledger = ledger_let after last let_go

    pub whole_point : last.ledger.point ≡ was.ledger.point + 1
    whole_point = ap (λ (l : Ledger). l.point) same_ledger ∙ (m.point ∙ ap (λ (n : ℕ). n + 1) point)

    pub whole_journal : edits_of (commits last.ledger) ≡ edits_of (commits was.ledger) ++ y ∷ []
    whole_journal = ap (λ (l : Ledger). edits_of (commits l)) same_ledger ∙ (m.journal ∙ ap (λ (l : List Edit). l ++ y ∷ []) still.journal)

    pub whole_sheet : IsSameButCells (sheet_of was.ledger.writer.place) (sheet_of last.ledger.writer.place)
    whole_sheet = subst (λ (l : Ledger). IsSameButCells (sheet_of was.ledger.writer.place) (sheet_of l.writer.place)) (sym same_ledger)
        (same_cells (sheet_of was.ledger.writer.place) (sheet_of ahead.ledger.writer.place) (sheet_of after.ledger.writer.place) sheet m.sheet)

    pub whole_places : (last.pools.ingress ≡ (turned hook was.pools).ingress) × (last.pools.egress ≡ (turned hook was.pools).egress)
    whole_places = (
      ap (λ (q : Pools). q.ingress) dropped.rest ∙ (m.ingress ∙ turned_ingress hook ahead.pools was.pools (ap (λ (q : Pools). q.ingress) others)),
      ap (λ (q : Pools). q.egress) dropped.rest ∙ (m.egress ∙ turned_egress hook ahead.pools was.pools (ap (λ (q : Pools). q.egress) others)),
    )

    pub whole_rest : last ≡ record was {
      ledger = last.ledger;
      pools = last.pools;
      actions = last.actions;
      masks = last.masks;
      ingress = last.ingress;
      egress = last.egress;
      room = last.room;
    }
    whole_rest = let_go ∙ (ap (λ (p : Parts). record p { pools = last.pools; actions = last.actions }) m.rest
        ∙ (ap (λ (p : Parts). record p { ledger = after.ledger; pools = last.pools; actions = last.actions; masks = after.masks; ingress = after.ingress; egress = after.egress; room = after.room }) rest
        ∙ λ t. record was {
          ledger = sym same_ledger t;
          pools = last.pools;
          actions = last.actions;
          masks = sym (ap (λ (p : Parts). p.masks) let_go) t;
          ingress = sym (ap (λ (p : Parts). p.ingress) let_go) t;
          egress = sym (ap (λ (p : Parts). p.egress) let_go) t;
          room = sym (ap (λ (p : Parts). p.room) let_go) t;
        }))

    -- what was taken and what left
    pub whole_left : (needs : Needs) (leaving : ℕ) → IsCounted was.pools.blocks after.pools.blocks needs.blocks leaving → IsCounted was.pools.actions ahead.pools.actions needs.actions 0
        → LeftWithActions was.pools last.pools (commits last.ledger) gone needs leaving
    whole_left needs leaving blocks actions = subst (λ (l : Ledger). LeftWithActions was.pools last.pools (commits l) gone needs leaving) (sym same_ledger)
        (left_with was.pools after.pools last.pools after.actions last.actions (commits after.ledger) (base after.ledger) gone needs leaving dropped blocks
        (subst (λ (q : PoolNumbers). IsCounted was.pools.actions q needs.actions 0) (sym m.slots) actions) (desk.sized.0 ∙ sym d.sized.0) (desk.sized.3 ∙ sym d.sized.3))

    pub rows_let : last.pools.rows ≡ after.pools.rows
    rows_let = ap (λ (q : Pools). q.rows) dropped.rest

    pub masks_let : last.pools.masks ≡ after.pools.masks
    masks_let = ap (λ (q : Pools). q.masks) dropped.rest
