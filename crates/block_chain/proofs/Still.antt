-- A reader that has loaded words, and is as it was but for their number.
use Rattle.std.proofs.Common.{◌∙◌, List, Option, sym, subst}
use Rattle.atomic_table.specs.declared.shared.Seat.{Seat}
use Rattle.store_history.specs.declared.history.Link.{Link}
use Rattle.store_history.specs.declared.history.Commit.{Commit}
use Rattle.store_history.specs.History.{IsNamed}
use Rattle.pin_store.specs.declared.view.View.{View}
use Rattle.pin_store.specs.declared.view.Floor.{Floor}
use Rattle.pin_store.specs.Calls.{seen_by, floor_start, start_in, IsSameButLoads}

module _ {E : Type 0} {p q : Seat (Unit {0}) (View E)} where
  -- it stays so over further loads
  pub still : {r : Seat (Unit {0}) (View E)} → IsSameButLoads p q → IsSameButLoads q r → IsSameButLoads p r
  still a b = record { seen = b.seen ∙ a.seen; number = b.number ∙ a.number; pin = b.pin ∙ a.pin; floor = b.floor ∙ a.floor }

  -- what was named before still is
  pub still_named : IsSameButLoads p q → (l : Link) → IsNamed (floor_start p) (seen_by p) l → IsNamed (floor_start q) (seen_by q) l
  still_named a l named = subst (λ (h : List (Commit E)). IsNamed (floor_start q) h l) (sym a.seen) (subst (λ (f : Option Floor). IsNamed (start_in f) (seen_by p) l) (sym a.floor) named)
