-- What a visit tells (this project's own).
use Rattle.std.specs.Prelude.{◌≡◌, ℕ, ◌+◌, ◌≤◌, Bool, true, false, List, length, max, min, slice_index}
use Rattle.std.specs.Prelude.{slice_set, Option, Some, None}
use mathlib.Core.List.{IsPrefix}
use Rattle.store_history.specs.History.{root_of}
use Rattle.pin_store.specs.Calls.{seen_by, floor_start, IsSameReader}
use Rattle.flow_fields.specs.Values.{values_of}
use Rattle.walk_rules.specs.Questions.{Question, heads_of, filter_of, params_of, Answer}
use Rattle.walk_rules.specs.Answers.{answer_of}
use Rattle.mask_table.specs.Told.{IsLoadedPoint}
use Rattle.miniq_pair.specs.Heads.{head_root}
use Rattle.hook_law.specs.Places.{action_root}
use Rattle.hook_law.specs.Meaning.{point_of}
use Rattle.hook_law.specs.Keeping.{Keeps}
use Rattle.hook_store_law.specs.Stated.{hook_meaning}
use Rattle.hook_store_law.specs.Blocks.{hook_codec}
use Rattle.hook_store_law.specs.Told.{state_after_edits}
use Rattle.hook_reader.specs.Seats.{FirstHead, HookSeat, IsReading}
use Rattle.hook_reader.specs.Known.{KnowsMask, KnowsAction}

-- a count stands still at its type's end
abbrev pub one_visit_more : ℕ → ℕ
one_visit_more visits = min (visits + 1) 18446744073709551615

abbrev pub head_point : Option FirstHead → ℕ
head_point None = 0
head_point (Some first) = first.point

-- the first head of a walk that visits this one
abbrev pub first_of : Option FirstHead → FirstHead → Option FirstHead
first_of None head = Some head
first_of (Some first) head = Some (record first { alone = false })

-- ---- the points
-- A head's is the greatest of its root's stamp and of all points and receipts before.
pub record IsHeadPoint (old : HookSeat) (root point : ℕ) (new : HookSeat) : Type 0 where
  pub is : point ≡ max (root_of (seen_by new.place) root).stamp old.latest
  pub head : new.head
      ≡ first_of old.head (record { point = point; made = length (seen_by new.place); alone = true })
  pub points : new.points ≡ old.points

-- A look-up's is the greatest of the stamps that were loaded, the head's point, and the point of the last
-- look-up at the slot.
pub record IsMaskPoint (old : HookSeat) (mask : ℕ) (values : List ℕ) (point : ℕ)
    (new : HookSeat) : Type 0 where
  pub slot : ℕ
  pub known : KnowsMask old (record { serial = mask; slot = slot })
  pub key : List ℕ
  pub values_are : values_of key ≡ values
  pub found : Bool
  pub loaded : ℕ
  pub stamps : IsLoadedPoint (seen_by old.place) (seen_by new.place) slot key found loaded
  pub is : point ≡ max loaded (max (head_point old.head) (slice_index old.points slot))
  pub head : new.head ≡ old.head
  pub points : new.points ≡ slice_set old.points slot point

-- An action's is the greater of its root's stamp and the head's point.
pub record IsActionPoint (old : HookSeat) (serial point : ℕ) (new : HookSeat) : Type 0 where
  pub slot : ℕ
  pub known : KnowsAction old (record { serial = serial; slot = slot })
  pub is : point ≡ max (root_of (seen_by new.place) (action_root slot)).stamp (head_point old.head)
  pub head : new.head ≡ old.head
  pub points : new.points ≡ old.points

abbrev pub IsVisitPoint : HookSeat → Question → ℕ → HookSeat → Type 0
IsVisitPoint old (heads_of hook) point new = IsHeadPoint old (head_root hook) point new
IsVisitPoint old (filter_of table mask values) point new = IsMaskPoint old mask values point new
IsVisitPoint old (params_of serial) point new = IsActionPoint old serial point new

-- WHAT A VISIT TELLS: the answer is that of the state after so many of the edits that the reader has seen as
-- the point says; what it has seen has only grown, and keeps the law since it went inside
pub record WalkTold (old : HookSeat) (question : Question) (answer : Answer) (point : ℕ)
    (new : HookSeat) : Type 0 where
  pub longer : IsPrefix (seen_by old.place) (seen_by new.place)
  pub lawful : Keeps hook_meaning hook_codec (seen_by new.place) (floor_start new.place)
  pub same : IsSameReader old.place new.place
  pub answers : answer_of (state_after_edits (seen_by new.place) point) question ≡ Some answer
  pub reached : point ≤ point_of (seen_by new.place)
  pub counted : new.visits ≡ one_visit_more old.visits
  pub latest : new.latest ≡ max old.latest point
  pub pointed : IsVisitPoint old question point new
  pub before : IsReading old
  pub after : IsReading new
