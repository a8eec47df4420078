-- The tables of a hook in a plain state (this project's own).
use Rattle.std.specs.Prelude.{ℕ, ◌==◌, List, [], ◌∷◌, filter, if◌then◌else◌}
use Rattle.tc_base.specs.declared.hook.Hook.{Hook}
use Rattle.filter_state.specs.States.{Row, State}
use Rattle.filter_state.specs.Tables.{in_hook}
use Rattle.row_laws.specs.OfOrder.Sorted.{sorted}
use Rattle.row_laws.specs.OfOrder.Rows.{row_before}
use Rattle.walk_rules.specs.Questions.{Head}

-- the table of one row, with that row's mask
abbrev pub head_with : Row → List ℕ → Head
head_with row masks = record {
  serial = row.table;
  chain = row.chain;
  pref = row.pref;
  protocol = row.protocol;
  masks = masks;
}

-- a mask in front of others, unless it is the first of them
abbrev pub in_front : ℕ → List ℕ → List ℕ
in_front mask [] = mask ∷ []
in_front mask (first ∷ masks) = if first == mask then first ∷ masks else mask ∷ first ∷ masks

-- a row in front of the rows of some tables: of the first table, or of one more
abbrev pub with_row : Row → List Head → List Head
with_row row [] = head_with row (row.mask_serial ∷ []) ∷ []
with_row row (head ∷ heads) =
    if head.serial == row.table then head_with row (in_front row.mask_serial head.masks) ∷ heads
    else head_with row (row.mask_serial ∷ []) ∷ head ∷ heads

-- the tables of some rows, where rows of one table are neighbours, and in a table those of one mask
abbrev pub heads_in : List Row → List Head
heads_in [] = []
heads_in (row ∷ rows) = with_row row (heads_in rows)

-- THE TABLES OF A HOOK, by chain and then pref, each with its masks by serial, so that the oldest is tried
-- first
abbrev pub heads_on : Hook → State → List Head
heads_on hook s = heads_in (sorted row_before (filter (in_hook hook) s.rows))
