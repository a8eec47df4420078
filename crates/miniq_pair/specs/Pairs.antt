-- The two places of a hook's tables (this project's own).
use Rattle.block_codec.specs.declared.places.TheConstants.{TABLES, HEAD_BLOCKS}
use Rattle.std.specs.Prelude.{ℕ, ◌+◌, ◌-◌, ◌*◌, ◌==◌, List, [], ◌∷◌, Option, Some, None, if◌then◌else◌}
use Rattle.tc_base.specs.declared.hook.Hook.{Hook}
use Rattle.store_history.specs.declared.history.Link.{Link}
use Rattle.store_history.specs.declared.history.Commit.{Commit}
use Rattle.block_codec.specs.declared.table.StoredTable.{StoredTable}
use Rattle.block_codec.specs.Blocks.{block}
use Rattle.block_codec.specs.Tables.{table_words}
use Rattle.miniq_pair.specs.Heads.{hook_number, head_root}

-- the first of the 256 blocks of a place of a hook
abbrev pub first_block_of : Hook → ℕ → ℕ
first_block_of hook place = HEAD_BLOCKS + TABLES * (2 * hook_number hook + place)

-- the place that isn't this one
abbrev pub other_place : ℕ → ℕ
other_place place = 1 - place

-- tables one behind the other, from a block on, each linked to the next
abbrev pub table_links : ℕ → List StoredTable → List Link
table_links first [] = []
table_links first (table ∷ []) = record { block = first; words = block (table_words table) None } ∷ []
table_links first (table ∷ next ∷ tables) = record {
  block = first;
  words = block (table_words table) (Some (first + 1));
} ∷ table_links (first + 1) (next ∷ tables)

-- THE ONE COMMIT OF A SWAP: the hook's root names the tables at that place, with the number of the edit as
-- stamp, and carries the edit
abbrev pub swap_commit : {E : Type 0} → Hook → ℕ → List StoredTable → ℕ → E → Commit E
swap_commit hook place tables number edit = record {
  root = head_root hook;
  named = record { chain = table_links (first_block_of hook place) tables; stamp = number };
  edit = Some (number, edit);
}

-- what the table at a place among so many is linked to
abbrev pub link_at : ℕ → ℕ → ℕ → Option ℕ
link_at first place count = if place + 1 == count then None else Some (first + place + 1)
