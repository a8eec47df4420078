-- The visits of one walk, and what a reader keeps of them (this project's own).
use Rattle.std.specs.Prelude.{◌≡◌, ◌≢◌, ℕ, suc, ◌≤◌, true, List, [], take, max, slice_get, slice_index, Some}
use Rattle.std.specs.Prelude.{None}
use Rattle.tc_base.specs.declared.hook.Hook.{Hook}
use Rattle.store_history.specs.History.{root_of}
use Rattle.pin_store.specs.Calls.{seen_by, floor_start}
use Rattle.walk_rules.specs.Questions.{heads_of, filter_of, params_of}
use Rattle.walk_rules.specs.OfPoints.Points.{Visit}
use Rattle.hook_law.specs.Places.{action_root}
use Rattle.hook_store_law.specs.Told.{stands_at}
use Rattle.hook_store_law.specs.OfVisits.Known.{ActionLived}
use Rattle.hook_reader.specs.Seats.{FirstHead, HookSeat}
use Rattle.hook_reader.specs.Told.{head_point}

-- no visit but the first asked for tables
abbrev pub HaveOneHead : List Visit → Type 0
HaveOneHead visits = (place : ℕ) (v : Visit) (hook : Hook) → slice_get visits (suc place) ≡ Some v
    → v.question ≢ heads_of hook

-- The reader has made these visits since it went inside: a head's first, if any. No point is above the
-- greatest, nor below the first head's; the points of a mask are within that of its slot, if there was one
-- head; those of an action are within its root's stamp or the head's point.
pub record HasVisited (r : HookSeat) (visits : List Visit) : Type 0 where
  pub none : r.head ≡ None → visits ≡ []
  pub some : visits ≡ [] → r.head ≡ None
  pub first : (v : Visit) → slice_get visits 0 ≡ Some v → v.point ≡ head_point r.head
  pub latest : (place : ℕ) (v : Visit) → slice_get visits place ≡ Some v → v.point ≤ r.latest
  pub one : HaveOneHead visits → (first : FirstHead) → r.head ≡ Some first → first.alone ≡ true
  pub masks : (place : ℕ) (v : Visit) (first : FirstHead) (table mask : ℕ) (values : List ℕ)
      → slice_get visits place ≡ Some v → v.question ≡ filter_of table mask values → r.head ≡ Some first
      → first.alone ≡ true
      → (slot : ℕ) × stands_at (take first.made (seen_by r.place)) slot mask
      × (v.point ≤ slice_index r.points slot)
  pub actions : (place : ℕ) (v : Visit) (serial : ℕ) → slice_get visits place ≡ Some v
      → v.question ≡ params_of serial
      → (slot : ℕ) × ActionLived (seen_by r.place) (floor_start r.place) 0 slot serial
      × (v.point ≤ max (root_of (seen_by r.place) (action_root slot)).stamp (head_point r.head))
