-- How long a past finds the same under a mask.
use Rattle.std.proofs.Common.{◌≡◌, ◌∙◌, ℕ, List, [], ◌∷◌, Option, Some, refl, sym, ap}
use Rattle.flow_mask.specs.Masks.{each_and}
use Rattle.slot_pasts.specs.Pasts.{value_at, stood}
use Rattle.slot_pasts.specs.Names.{past_of}
use Rattle.slot_pasts.specs.Serials.{past_at}
use Rattle.state_past.specs.declared.past.StatePast.{StatePast}
use Rattle.state_past.specs.Told.{words_told, named_slot}
use Rattle.state_past.specs.Found.{found_under, found_at}

module _ (past : StatePast) (mask : ℕ) (key : List ℕ) (point later : ℕ) where
  -- what stood in the slot of the key under words
  abbrev slot_at : ℕ → List ℕ → Option (Option (List ℕ))
  slot_at at words = value_at at (past_of past.slots (named_slot mask (each_and key words)))

  under : (words : List ℕ) → slot_at later words ≡ slot_at point words
      → found_under past mask key later words ≡ found_under past mask key point words
  under [] same = refl
  under (word ∷ words) same = ap (λ (o : Option (Option (List ℕ))). Some (stood o)) same

  -- while the mask and the slot of the key have nothing new
  pub found_steady : (words : List ℕ) → words_told (value_at point (past_at past.masks mask)) ≡ words
      → value_at later (past_at past.masks mask) ≡ value_at point (past_at past.masks mask)
      → slot_at later words ≡ slot_at point words
      → found_at past mask key later ≡ found_at past mask key point
  found_steady words are masks slot =
      ap (found_under past mask key later) (ap words_told masks ∙ are) ∙ under words slot
      ∙ sym (ap (found_under past mask key point) are)
