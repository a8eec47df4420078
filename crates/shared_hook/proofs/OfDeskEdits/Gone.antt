-- What left with the actions that an edit lets go of.
use Rattle.std.proofs.Common.{◌≡◌, ℕ, ◌+◌, List, ◌++◌, length, map, ap, subst, arith, length-append}
use Rattle.std.proofs.lemmas.List.{length-map}
use Rattle.store_history.specs.declared.history.Commit.{Commit}
use Rattle.filter_state.specs.declared.edit.Edit.{Edit}
use Rattle.desk_pools.specs.OfNumbers.Numbers.{PoolNumbers}
use Rattle.desk_needs.specs.declared.needs.Needs.{Needs}
use Rattle.desk_pools.specs.declared.pools.Pools.{Pools}
use Rattle.desk_actions.specs.Effects.{IsCounted}
use Rattle.desk_actions.specs.Places.{Placed, slot_of, block_of}
use Rattle.desk_parts.specs.OfLineActions.Dropped.{AreDropped}
use Rattle.shared_hook.specs.OfDeskEdits.Spent.{LeftWithActions}

-- numbers that left last, one for each action
left_more : (p q r : PoolNumbers) (taken leaving : ℕ) (number : ℕ → ℕ) (gone : List ℕ) → IsCounted p q taken leaving → r.free ≡ q.free → r.left ≡ q.left ++ map number gone → r.size ≡ p.size
    → IsCounted p r taken (leaving + length gone)
left_more p q r taken leaving number gone counted free left size = record {
  free = let one = counted.free in let same = ap length free in omega (arith, one, same);
  left = let one = counted.left in let all = ap length left in let both = length-append q.left (map number gone) in let each = length-map gone number in omega (arith, one, all, both, each);
  size = size;
}

none_more : (n : ℕ) → 0 + n ≡ n
none_more n = omega arith

pub left_with : (old mid new : Pools) (placed left : Placed) (h : List (Commit Edit)) (b : ℕ) (serials : List ℕ) (needs : Needs) (leaving : ℕ) → AreDropped mid new placed left h b serials
    → IsCounted old.blocks mid.blocks needs.blocks leaving → IsCounted old.actions mid.actions needs.actions 0 → new.blocks.size ≡ old.blocks.size → new.actions.size ≡ old.actions.size
    → LeftWithActions old new h serials needs leaving
left_with old mid new placed left h b serials needs leaving dropped blocks actions block_size slot_size = record {
  gone = dropped.gone;
  are_gone = record { once = dropped.once; dead = dropped.dead; all = dropped.all };
  blocks = left_more old.blocks mid.blocks new.blocks needs.blocks leaving (λ action. block_of placed (slot_of placed action)) dropped.gone blocks dropped.free_blocks dropped.blocks block_size;
  actions = subst (IsCounted old.actions new.actions needs.actions) (none_more (length dropped.gone))
      (left_more old.actions mid.actions new.actions needs.actions 0 (slot_of placed) dropped.gone actions dropped.free_slots dropped.slots slot_size);
}
