-- The kinds of atomic step: what each changes in the view of the seat that makes it, and what it tells (this
-- project's own). A kind takes the step, the seat before it, the word found, and the seat after it.
use Rattle.std.specs.Prelude.{◌≡◌, ℕ, ◌+◌, ◌*◌, ◌^◌, ◌<◌, ◌≤◌, ◌/◌, ◌%◌, List, [], ◌∷◌, ◌++◌, length}
use Rattle.std.specs.Prelude.{slice_index, slice_set, Some, None, true, false, All}
use mathlib.Core.Option.{none}
use mathlib.Core.List.{IsPrefix}
use Rattle.atomic_table.specs.Table.{Me, Step, step, Allows}
use Rattle.store_history.specs.declared.history.Link.{Link}
use Rattle.store_history.specs.declared.history.Commit.{Commit}
use Rattle.store_history.specs.History.{root_of, first_number, IsNamed, IsLinked}
use Rattle.pin_store.specs.declared.shape.Shape.{Shape}
use Rattle.pin_store.specs.declared.view.View.{View}
use Rattle.pin_store.specs.declared.view.Floor.{Floor}
use Rattle.pin_store.specs.Layout.{cell_count, pin_at, IsInShape}
use Rattle.pin_store.specs.Sheets.{scanned, bumped, opening_sheet}
use Rattle.pin_store.specs.Rule.{IsKept}

abbrev Sat : Type 0 → Type 0
Sat E = Me (Unit {0}) (View E)

abbrev At : Type 0
At = Step (Unit {0})

module _ {E : Type 0} where
  -- the writer writes a word of a block
  abbrev pub Fills : At → Sat E → ℕ → Sat E → Type 0
  Fills st before found after =
      after ≡ (
        record before.0 {
          sheet = record before.0.sheet {
            cells = slice_set before.0.sheet.cells
                st.word st.first;
          };
        },
        before.1,
      )

  -- the writer makes a commit
  abbrev pub Commits : Commit E → At → Sat E → ℕ → Sat E → Type 0
  Commits c st before found after = after ≡ (record before.0 { seen = before.0.seen ++ c ∷ [] }, before.1)

  -- a reader loads the word of a root: it has then seen all commits, is told what the root names after them,
  -- and counts one load
  pub record LoadsRoot (keeps : List (Commit E) → ℕ → Type 0) (st : At) (before : Sat E) (found : ℕ)
      (after : Sat E) : Type 0 where
    pub longer : IsPrefix before.0.seen after.0.seen
    pub rest : after ≡ (record before.0 { seen = after.0.seen; loads = before.0.loads + 1 }, before.1)
    pub lawful : (f : Floor) → before.0.floor ≡ Some f → keeps after.0.seen f.start
    pub since : (f : Floor) → before.0.floor ≡ Some f → f.start ≤ length after.0.seen
    pub first : (r : ℕ) → st.word ≡ cell_count before.0.shape + r
        → found % 2 ^ 32 ≡ first_number (root_of after.0.seen r).chain
    pub stamp : (r : ℕ) → st.word ≡ cell_count before.0.shape + r
        → found / 2 ^ 32 ≡ (root_of after.0.seen r).stamp
    pub linked : (r : ℕ) → IsLinked before.0.shape.words (root_of after.0.seen r).chain
    pub sized : (f : Floor) (l : Link) → before.0.floor ≡ Some f → IsNamed f.start after.0.seen l
        → IsInShape before.0.shape l

  -- a reader loads a word of a block: it is the word of each block of that number that was named since the
  -- reader's floor, and it counts one load
  pub record LoadsWord (st : At) (before : Sat E) (found : ℕ) (after : Sat E) : Type 0 where
    pub rest : after ≡ (record before.0 { loads = before.0.loads + 1 }, before.1)
    pub told : (f : Floor) (l : Link) (i : ℕ) → before.0.floor ≡ Some f → IsNamed f.start before.0.seen l
        → i < before.0.shape.words → st.word ≡ l.block * before.0.shape.words + i
        → found ≡ slice_index l.words i

  -- a reader raises its pin, and has no floor
  abbrev pub Raises : At → Sat E → ℕ → Sat E → Type 0
  Raises st before found after = after ≡ (record before.0 { pin = st.first; floor = None }, before.1)

  -- a reader loads the epoch: it has then seen all commits, and the epoch is its floor
  pub record LoadsEpoch (st : At) (before : Sat E) (found : ℕ) (after : Sat E) : Type 0 where
    pub floor : Floor
    pub longer : IsPrefix before.0.seen after.0.seen
    pub rest : after ≡ (record before.0 { seen = after.0.seen; floor = Some floor }, before.1)
    pub epoch_is : floor.epoch ≡ found
    pub since : floor.start ≤ length after.0.seen

  -- the writer begins an epoch
  abbrev pub Bumps : At → Sat E → ℕ → Sat E → Type 0
  Bumps st before found after =
      after ≡ (record before.0 { sheet = bumped before.0.sheet (length before.0.seen) }, before.1)

  -- the writer loads the pin of a reader
  abbrev pub LoadsPin : At → Sat E → ℕ → Sat E → Type 0
  LoadsPin st before found after =
      (i : ℕ) → st.word ≡ pin_at before.0.shape i
      → after ≡ (record before.0 { sheet = scanned before.0.sheet i found }, before.1)

  -- any seat loads a word: it has then seen all commits, and each list that it remembered is a beginning of
  -- them
  pub record Meets (st : At) (before : Sat E) (found : ℕ) (after : Sat E) : Type 0 where
    pub longer : IsPrefix before.0.seen after.0.seen
    pub rest : after ≡ (record before.0 { seen = after.0.seen; kept = [] }, before.1)
    pub begins : All (λ seen. IsPrefix seen after.0.seen) before.0.kept
    pub writers : before.0.writes ≡ true → after.0.seen ≡ before.0.seen

  -- the view of a receipt that is cut from a seat: it has seen as much, and is neither the writer's nor a
  -- reader's
  abbrev pub receipt_view : View E → View E
  receipt_view v = record v { kept = []; number = 0; pin = 0; floor = None; loads = 0; writes = false }

  -- the view of the next reader, cut from the writer's
  abbrev pub reader_view : View E → View E
  reader_view v = record v {
    kept = [];
    number = v.sheet.made + 1;
    pin = 0;
    floor = None;
    loads = 0;
    writes = false;
  }

  -- the writer's view, which counts one more reader
  abbrev pub counted_view : View E → View E
  counted_view v = record v { sheet = record v.sheet { made = v.sheet.made + 1 } }

  -- the view v, which remembers what w has seen
  abbrev pub joined_view : View E → View E → View E
  joined_view v w = record v { kept = w.seen ∷ v.kept }

  -- the view of a seat that another took in
  abbrev pub spent_view : View E
  spent_view = let none : Shape = record { blocks = 0; words = 0; roots = 0; readers = 0 } in
      record {
        shape = none;
        seen = [];
        kept = [];
        number = 0;
        pin = 0;
        floor = None;
        loads = 0;
        writes = false;
        sheet = opening_sheet none;
      }

  -- whatever the store is as the seat stores x in the word, the rule holds afterwards, and the step is of
  -- this kind
  abbrev pub KeepsAtStore : (List (Commit E) → ℕ → Type 0) → Shape → (At → Sat E → ℕ → Sat E → Type 0) → ℕ → ℕ
      → Sat E → ℕ → ℕ → Type 0
  KeepsAtStore keeps shape kind slots seat me word x =
      Allows (IsKept keeps shape) slots seat me word (λ _. x) (λ _. kind (step slots word x 0 none) me x)

  -- whatever the store is as the seat loads the word, the rule holds afterwards, and the step is of this kind
  abbrev pub KeepsAtLoad : (List (Commit E) → ℕ → Type 0) → Shape → (At → Sat E → ℕ → Sat E → Type 0) → ℕ → ℕ
      → Sat E → ℕ → Type 0
  KeepsAtLoad keeps shape kind slots seat me word =
      Allows (IsKept keeps shape) slots seat me word (λ n. n) (kind (step slots word 0 0 none) me)
