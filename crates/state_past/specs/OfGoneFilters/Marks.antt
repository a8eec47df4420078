-- What is copied of a filter that may go (this project's own).
use Rattle.std.specs.Prelude.{◌≡◌, ℕ, List, [], ◌∷◌, map, Option, Some, None}
use Rattle.tc_base.specs.declared.hook.Hook.{Hook}
use Rattle.filter_state.specs.States.{Row}
use Rattle.filter_index.specs.declared.filter.Filter.{Filter}
use Rattle.filter_tables.specs.Plain.{PlainMask, PlainTable}
use Rattle.filter_tables.specs.Rows.{row_of, rows_of_mask, rows_of_table}
use Rattle.state_past.specs.declared.gone_filters.going.GoingFilter.{GoingFilter}

pub record Mark : Type 0 where
  pub hook : Hook
  pub chain : ℕ
  pub pref : ℕ
  pub mask : ℕ
  pub words : List ℕ
  pub key : List ℕ
  pub actions : List ℕ

-- of a row
abbrev pub mark_of : Row → Mark
mark_of row = record {
  hook = row.hook;
  chain = row.chain;
  pref = row.pref;
  mask = row.mask_serial;
  words = row.mask;
  key = row.key;
  actions = row.actions;
}

-- of a copy
abbrev pub marked : GoingFilter → Mark
marked going = record {
  hook = going.hook;
  chain = going.chain;
  pref = going.pref;
  mask = going.mask;
  words = going.words.words;
  key = going.key.words;
  actions = going.actions;
}

-- ---- of a slot, of a mask and of a table in the lists
abbrev pub marks_at : Hook → PlainTable → PlainMask → Option Filter → List Mark
marks_at hook table mask None = []
marks_at hook table mask (Some f) = mark_of (row_of hook table mask f) ∷ []

abbrev pub marks_in : Hook → PlainTable → PlainMask → List Mark
marks_in hook table mask = map mark_of (rows_of_mask hook table mask)

abbrev pub marks_of : Hook → PlainTable → List Mark
marks_of hook table = map mark_of (rows_of_table hook table)

-- ---- found by name
-- the row of a mask that is there, and the mask's serial
abbrev pub IsMaskRow : ℕ → Option Row → Type 0
IsMaskRow serial None = ⊥
IsMaskRow serial (Some row) = row.mask_serial ≡ serial
