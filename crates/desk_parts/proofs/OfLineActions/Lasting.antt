-- Places of actions with commits to other roots.
use Rattle.std.proofs.Common.{◌≡◌, ◌∙◌, ℕ, ◌<◌, ◌≤◌, List, ◌++◌, length, refl, ap}
use Rattle.store_history.specs.declared.history.Commit.{Commit}
use Rattle.store_history.specs.declared.history.Named.{Named}
use Rattle.store_history.specs.History.{root_of}
use Rattle.store_history.proofs.Lists.{get_parts}
use Rattle.store_history.specs.declared.places.TheConstants.{ACTION_SLOTS}
use Rattle.filter_state.specs.declared.edit.Edit.{Edit}
use Rattle.filter_state.specs.States.{State}
use Rattle.hook_law.specs.Places.{action_root}
use Rattle.hook_law.specs.Meaning.{IsLive}
use Rattle.hook_law.specs.Standing.{Action as ActionRole, IsSlotOf}
use Rattle.hook_law.specs.Keeping.{Keeps}
use Rattle.hook_law.proofs.Lists.{root_of_none}
use Rattle.hook_law.proofs.Standing.{slot_longer}
use Rattle.hook_store_law.specs.Stated.{hook_meaning}
use Rattle.hook_store_law.specs.Blocks.{hook_codec}
use Rattle.hook_store_law.specs.OfEdits.Premises.{now}
use Rattle.desk_pools.specs.declared.pools.Pools.{Pools}
use Rattle.desk_pools.specs.Pools.{ArePools}
use Rattle.desk_pools.specs.Steps.{IsInPool}
use Rattle.desk_actions.specs.Places.{Placed, slot_of, AreHere, AreHereFor}
use Rattle.desk_actions.proofs.Turning.{standing_slot}
use Rattle.desk_parts.specs.OfLineActions.Put.{IsPlaced, HaveNoSlots}

module _ (placed : Placed) (h more : List (Commit Edit)) (none : HaveNoSlots more) where
  same_root : (slot : ℕ) → slot < ACTION_SLOTS → root_of (h ++ more) (action_root slot) ≡ root_of h (action_root slot)
  same_root slot small = root_of_none h more (action_root slot) (λ j c at is. none j c at slot small is)

  slot_before : (action slot : ℕ) → IsSlotOf hook_codec (h ++ more) action slot → IsSlotOf hook_codec h action slot
  slot_before action slot w = get_parts h more w.place w.commit w.there
      (λ i at. record { place = i; commit = w.commit; there = at; puts = w.puts })
      (λ i at. absurd (none i w.commit at slot w.puts.small w.puts.root))

  pub place_goes : (action : ℕ) → IsPlaced placed h action → IsPlaced placed (h ++ more) action
  place_goes action at = record {
    slot = slot_longer hook_codec h more action (slot_of placed action) at.slot;
    block = (at.block.0, at.block.1, ap (λ (n : Named). n.chain) (same_root (slot_of placed action) at.slot.puts.small) ∙ at.block.2);
  }

  pub here_goes : (s : State) → AreHereFor placed h s → AreHereFor placed (h ++ more) s
  here_goes s here = record {
    long = here.long;
    wide = here.wide;
    slots = λ action live. (place_goes action (record { slot = here.slots action live; block = here.blocks action live })).slot;
    blocks = λ action live. (place_goes action (record { slot = here.slots action live; block = here.blocks action live })).block;
    made = λ action slot w. here.made action slot (slot_before action slot w);
  }

pub live_place : (pools : Pools) (placed : Placed) (h : List (Commit Edit)) (b action : ℕ) → b ≤ length h → Keeps hook_meaning hook_codec h b → ArePools pools h b → AreHere placed h
    → IsLive hook_meaning (now h) action → IsPlaced placed h action × (IsInPool (slot_of placed action) pools.actions → ⊥)
live_place pools placed h b action low keeps p here live = (
  record { slot = here.slots action live; block = here.blocks action live },
  standing_slot pools h b (slot_of placed action) (ActionRole action) low p (slot_of placed action, here.slots action live, refl, live),
)
