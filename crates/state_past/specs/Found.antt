-- What a past finds under a mask (this project's own).
use Rattle.std.specs.Prelude.{ℕ, List, [], ◌∷◌, Option, Some, None}
use Rattle.flow_mask.specs.Masks.{each_and}
use Rattle.slot_pasts.specs.Pasts.{value_at, stood}
use Rattle.slot_pasts.specs.Names.{past_of}
use Rattle.slot_pasts.specs.Serials.{past_at}
use Rattle.state_past.specs.declared.past.StatePast.{StatePast}
use Rattle.state_past.specs.Told.{words_told, named_slot}

-- what stood in the slot of a key under the words of its mask; nothing is found where there are no words
abbrev pub found_under : StatePast → ℕ → List ℕ → ℕ → List ℕ → Option (Option (List ℕ))
found_under past mask key point [] = None
found_under past mask key point (word ∷ words) =
    Some (stood (value_at point (past_of past.slots (named_slot mask (each_and key (word ∷ words))))))

-- the same, with the words that the mask had at that point
abbrev pub found_at : StatePast → ℕ → List ℕ → ℕ → Option (Option (List ℕ))
found_at past mask key point =
    found_under past mask key point (words_told (value_at point (past_at past.masks mask)))
