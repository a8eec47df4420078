-- What contracts say of a ledger (this project's own).
use Rattle.std.specs.Prelude.{ℕ, List}
use Rattle.store_history.specs.declared.history.Commit.{Commit}
use Rattle.pin_store.specs.Sheets.{base_of}
use Rattle.pin_store.specs.Calls.{seen_by, sheet_of}
use Rattle.filter_state.specs.declared.edit.Edit.{Edit}
use Rattle.desk_actions.specs.declared.ledgers.ledger.Ledger.{Ledger}
use Rattle.desk_actions.specs.OfLedgers.Ledger.{IsLedger}

-- all commits so far
abbrev pub commits : Ledger → List (Commit Edit)
commits l = seen_by l.writer.place

-- since how many commits what is named still stands
abbrev pub base : Ledger → ℕ
base l = base_of (sheet_of l.writer.place)

-- its lists are the state of its journal
abbrev pub IsWhole : Ledger → Type 0
IsWhole l = IsLedger (commits l) (base l) l.lists l.point
