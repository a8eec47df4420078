-- What a reader that is inside has.
use Rattle.std.proofs.Common.{◌≡◌, ℕ, List, Option, Some, None, IsSome, refl, ap, subst}
use Rattle.store_history.specs.declared.history.Link.{Link}
use Rattle.store_history.specs.declared.history.Commit.{Commit}
use Rattle.store_history.specs.History.{IsNamed}
use Rattle.pin_store.specs.declared.view.Floor.{Floor}
use Rattle.pin_store.specs.Calls.{start_in}

pub floor_there : (o : Option Floor) → IsSome o → (f : Floor) × (o ≡ Some f)
floor_there None some = absurd (cc some)
floor_there (Some f) some = (f, refl)

-- what is named since the start of a floor, where the floor is known
pub named_since : {E : Type 0} (h : List (Commit E)) (l : Link) (o : Option Floor) (f : Floor) → o ≡ Some f → IsNamed (start_in o) h l → IsNamed f.start h l
named_since h l o f is named = subst (λ (z : ℕ). IsNamed z h l) (ap start_in is) named
