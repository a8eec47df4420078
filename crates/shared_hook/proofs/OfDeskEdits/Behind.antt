-- Actions that are live no more have left, and the rest of a desk is as it was.
use Rattle.std.proofs.Common.{◌≡◌, ◌∙◌, ℕ, List, ap}
use Rattle.store_history.specs.declared.history.Commit.{Commit}
use Rattle.store_history.specs.declared.places.TheConstants.{ACTION_SLOTS, POOL_BLOCKS}
use Rattle.filter_state.specs.declared.edit.Edit.{Edit}
use Rattle.hook_lists.specs.declared.kept.Kept.{Kept}
use Rattle.hook_law.specs.Standing.{IsIn}
use Rattle.desk_pools.specs.declared.pools.Pools.{Pools}
use Rattle.desk_actions.specs.OfLedgers.Kept.{commits, base}
use Rattle.desk_actions.specs.Places.{Placed}
use Rattle.desk_parts.specs.OfLineActions.Dropped.{MayGo, AreDropped}
use Rattle.desk_parts.specs.declared.parts.Parts.{Parts}
use Rattle.desk_parts.specs.Desk.{IsDesk}

pub desk_dropped : (old : Parts) (pools : Pools) (placed : Placed) (serials : List ℕ) → IsDesk old
    → AreDropped old.pools pools old.actions placed (commits old.ledger) (base old.ledger) serials
    → pools.blocks.size ≡ POOL_BLOCKS → pools.actions.size ≡ ACTION_SLOTS → IsDesk (record old { pools = pools; actions = placed })
desk_dropped old pools placed serials d a blocks actions = record {
  shaped = d.shaped;
  whole = d.whole;
  pools = a.pools_are;
  sized = (blocks, ap (λ (p : Pools). p.rows.size) a.rest ∙ d.sized.1, ap (λ (p : Pools). p.masks.size) a.rest ∙ d.sized.2, actions);
  actions = a.here;
  masks = d.masks;
  ingress = d.ingress;
  egress = d.egress;
  idle_ingress = ap (λ (p : Pools). p.ingress.place) a.rest ∙ d.idle_ingress;
  idle_egress = ap (λ (p : Pools). p.egress.place) a.rest ∙ d.idle_egress;
}

-- what may go may go in any order, and some of it alone
pub fewer_may_go : (lists : Kept) (pools : Pools) (placed : Placed) (h : List (Commit Edit)) (b after : ℕ) (serials others : List ℕ)
    → MayGo lists pools placed h b after serials → ((action : ℕ) → IsIn action others → IsIn action serials) → MayGo lists pools placed h b after others
fewer_may_go lists pools placed h b after serials others m each = record {
  keeps = m.keeps;
  spells = m.spells;
  pools_are = m.pools_are;
  here = m.here;
  late = m.late;
  made = m.made;
  small = λ action i. m.small action (each action i);
  live = λ action i. m.live action (each action i);
  there = λ action i. m.there action (each action i);
  apart = λ action i. m.apart action (each action i);
}
