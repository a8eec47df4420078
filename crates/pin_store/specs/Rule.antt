-- The store rule: what holds of the shared words and of what all seats know, between any two steps (this
-- project's own).
use Rattle.std.specs.Prelude.{◌≡◌, ℕ, ◌+◌, ◌*◌, ◌^◌, ◌<◌, ◌≤◌, ◌%◌, List, [], length, take, slice_index}
use Rattle.std.specs.Prelude.{Option, Some, None, true, All}
use mathlib.Core.Option.{some}
use mathlib.Core.List.{IsPrefix}
use lib.ListN.{get_elem?}
use Rattle.atomic_table.specs.Table.{State}
use Rattle.store_history.specs.declared.history.Link.{Link}
use Rattle.store_history.specs.declared.history.Commit.{Commit}
use Rattle.store_history.specs.History.{root_of, word_of, IsNamed, IsLinked}
use Rattle.pin_store.specs.declared.shape.Shape.{Shape}
use Rattle.pin_store.specs.declared.view.View.{View}
use Rattle.pin_store.specs.declared.view.Floor.{Floor}
use Rattle.pin_store.specs.declared.view.Sheet.{Sheet}
use Rattle.pin_store.specs.Layout.{cell_count, epoch_at, pin_at, word_count}
use Rattle.pin_store.specs.Notes.{IsSoundNote}
use Rattle.pin_store.specs.Sheets.{start_of, base_of, note_at, opening_sheet, IsSoundSheet}

-- the block stands in the store, word for word
pub record Stands (shape : Shape) (words : List ℕ) (l : Link) : Type 0 where
  pub inside : l.block < shape.blocks
  pub long : length l.words ≡ shape.words
  pub same : (i : ℕ) → i < shape.words → slice_index words (l.block * shape.words + i) ≡ slice_index l.words i

-- a floor is an epoch from the quiet one to the present one, with its start
pub record IsSoundFloor (sheet : Sheet) (f : Floor) : Type 0 where
  pub late : sheet.quiet ≤ f.epoch
  pub begun : f.epoch ≤ sheet.epoch
  pub start_is : f.start ≡ start_of sheet f.epoch

-- pin, floor and note of the reader with the number i + 1; a reader that is not made yet is outside
pub record IsSoundReader (shape : Shape) (words : List ℕ) (sheet : Sheet) (i pin : ℕ)
    (floor : Option Floor) : Type 0 where
  pub word : slice_index words (pin_at shape i) ≡ pin
  pub even : pin % 2 ≡ 0 → floor ≡ None
  pub floored : (f : Floor) → floor ≡ Some f → IsSoundFloor sheet f
  pub note : IsSoundNote sheet.epoch pin floor (note_at sheet i)
  pub unmade : sheet.made ≤ i → (pin ≡ 0) × (floor ≡ None)

module _ {E : Type 0} where
  -- what one seat knows is so: it has seen a beginning of the commits, the writer has seen all and knows the
  -- sheet, and a reader knows its own pin and floor
  pub record Knows (h : List (Commit E)) (writer : ℕ) (sheet : Sheet) (pin : ℕ → ℕ) (floor : ℕ → Option Floor)
      (owner : ℕ → ℕ)
      (readers seat : ℕ) (v : View E) : Type 0 where
    pub sees : IsPrefix v.seen h
    pub keeps : All (λ seen. IsPrefix seen h) v.kept
    pub writes : v.writes ≡ true → (seat ≡ writer) × (v.seen ≡ h) × (v.sheet ≡ sheet)
    pub outside : v.number ≡ 0 → v.floor ≡ None
    pub reads : (i : ℕ) → v.number ≡ i + 1
        → (i < sheet.made) × (i < readers) × (owner i ≡ seat) × (v.pin ≡ pin i) × (v.floor ≡ floor i)

  -- what holds of the words, the commits and the sheet, whatever the seats know: roots and epoch are as the
  -- commits and the sheet say, and what is named since the base stands
  pub record IsLaidOut (keeps : List (Commit E) → ℕ → Type 0) (shape : Shape) (words : List ℕ)
      (h : List (Commit E)) (sheet : Sheet) : Type 0 where
    pub few : shape.blocks < 2 ^ 31
    pub wide : length words ≡ word_count shape
    pub cells : sheet.cells ≡ take (cell_count shape) words
    pub roots : (r : ℕ) → r < shape.roots → slice_index words (cell_count shape + r) ≡ word_of (root_of h r)
    pub epoch_is : slice_index words (epoch_at shape) ≡ sheet.epoch
    pub chains : (l : Link) → IsNamed (base_of sheet) h l → Stands shape words l
    pub linked : (n r : ℕ) → n ≤ length h → IsLinked shape.words (root_of (take n h) r).chain
    pub lawful : keeps h (base_of sheet)
    pub sound : IsSoundSheet shape sheet (length h)

  -- the store rule: there are a history, a sheet of the writer's, and a pin and a floor of each reader with
  -- all of the above
  pub record IsKept (keeps : List (Commit E) → ℕ → Type 0) (shape : Shape)
      (s : State (Unit {0}) (View E)) : Type 0 where
    pub history : List (Commit E)
    pub writer : ℕ
    pub sheet : Sheet
    pub pin : ℕ → ℕ
    pub floor : ℕ → Option Floor
    pub owner : ℕ → ℕ
    pub laid : IsLaidOut keeps shape s.words history sheet
    pub each_reader : (i : ℕ) → i < shape.readers → IsSoundReader shape s.words sheet i (pin i) (floor i)
    pub each_seat : (seat : ℕ) (v : View E) → get_elem? s.views seat ≡ some v
        → Knows history writer sheet pin floor owner shape.readers seat v

  -- the view of the writer of a new store, of which this many readers were made
  abbrev pub made_view : Shape → ℕ → View E
  made_view shape made = record {
    shape = shape;
    seen = [];
    kept = [];
    number = 0;
    pin = 0;
    floor = None;
    loads = 0;
    writes = true;
    sheet = record (opening_sheet shape) { made = made };
  }

  -- the first view of a new store, the writer's
  abbrev pub opening_view : Shape → View E
  opening_view shape = made_view shape 0
