-- What the contracts say of a store and of the seats of its writer, its readers and its receipts (this
-- project's own).
use Rattle.std.specs.Prelude.{◌≡◌, ◌≢◌, ℕ, ◌%◌, List, [], Option, Some, None}
use Rattle.atomic_table.specs.declared.shared.Seat.{Seat}
use Rattle.atomic_table.specs.Seated.{TableId}
use Rattle.store_history.specs.declared.history.Link.{Link}
use Rattle.store_history.specs.declared.history.Commit.{Commit}
use Rattle.store_history.specs.History.{IsNamed}
use Rattle.pin_store.specs.declared.shape.Shape.{Shape}
use Rattle.pin_store.specs.declared.store.Store.{Store}
use Rattle.pin_store.specs.declared.view.View.{View}
use Rattle.pin_store.specs.declared.view.Floor.{Floor}
use Rattle.pin_store.specs.declared.view.Sheet.{Sheet}

-- the start of a floor, or 0 where there is none
abbrev pub start_in : Option Floor → ℕ
start_in None = 0
start_in (Some f) = f.start

module _ {E : Type 0} where
  -- the commits that a seat has seen
  abbrev pub seen_by : Seat (Unit {0}) (View E) → List (Commit E)
  seen_by p = p.me.0.seen

  abbrev pub sheet_of : Seat (Unit {0}) (View E) → Sheet
  sheet_of p = p.me.0.sheet

  abbrev pub number_of : Seat (Unit {0}) (View E) → ℕ
  number_of p = p.me.0.number

  abbrev pub pin_of : Seat (Unit {0}) (View E) → ℕ
  pin_of p = p.me.0.pin

  abbrev pub floor_of : Seat (Unit {0}) (View E) → Option Floor
  floor_of p = p.me.0.floor

  -- from how many commits on, what a reader inside has seen named still stands
  abbrev pub floor_start : Seat (Unit {0}) (View E) → ℕ
  floor_start p = start_in p.me.0.floor

  -- how many words of roots and of blocks a reader has loaded so far
  abbrev pub loads_of : Seat (Unit {0}) (View E) → ℕ
  loads_of p = p.me.0.loads

  abbrev pub IsOutside : Seat (Unit {0}) (View E) → Type 0
  IsOutside p = p.me.0.pin % 2 ≡ 0

  abbrev pub IsInside : Seat (Unit {0}) (View E) → Type 0
  IsInside p = p.me.0.pin % 2 ≡ 1

  -- a reader but for what it has seen
  pub record IsSameReader (old new : Seat (Unit {0}) (View E)) : Type 0 where
    pub number : number_of new ≡ number_of old
    pub pin : pin_of new ≡ pin_of old
    pub floor : floor_of new ≡ floor_of old

  -- a reader but for the number of its loads
  pub record IsSameButLoads (old new : Seat (Unit {0}) (View E)) : Type 0 where
    pub seen : seen_by new ≡ seen_by old
    pub number : number_of new ≡ number_of old
    pub pin : pin_of new ≡ pin_of old
    pub floor : floor_of new ≡ floor_of old

  -- no chain that was named after b commits or more has the block
  abbrev pub IsUnnamed : ℕ → List (Commit E) → ℕ → Type 0
  IsUnnamed b h block = (l : Link) → IsNamed b h l → l.block ≢ block

  -- the seat is one of the table with this identity, in a store of this shape
  pub record IsSeatAt (id : TableId) (shape : Shape) (p : Seat (Unit {0}) (View E)) : Type 0 where
    pub table : p.table_id ≡ id
    pub shaped : p.me.0.shape ≡ shape
    pub free : p.me.1 ≡ []

  -- it is that of a reader that was never inside, has seen no commit, and has loaded nothing
  pub record IsNewAt (id : TableId) (shape : Shape) (p : Seat (Unit {0}) (View E)) : Type 0 where
    pub seat : IsSeatAt id shape p
    pub pin : pin_of p ≡ 0
    pub floor : floor_of p ≡ None
    pub seen : seen_by p ≡ []
    pub loads : loads_of p ≡ 0

-- the seat is one of this store
abbrev pub IsSeatOf : {L E : Type 0} → Store L E → Seat (Unit {0}) (View E) → Type 0
IsSeatOf store p = IsSeatAt store.words.shared.table_id store.shape p

-- the seat is that of a new reader of this store
abbrev pub IsNewReader : {L E : Type 0} → Store L E → Seat (Unit {0}) (View E) → Type 0
IsNewReader store p = IsNewAt store.words.shared.table_id store.shape p
