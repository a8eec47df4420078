-- The tables of a hook in a shared store (this project's own).
use Rattle.std.specs.Prelude.{◌≡◌, ℕ, ◌+◌, ◌≤◌, List, length, map, Some}
use Rattle.tc_base.specs.declared.hook.Hook.{Hook}
use Rattle.tc_base.specs.declared.hook.Hook.TheVariants as hooks
use Rattle.tc_base.specs.declared.hook.Proto.{Proto}
use Rattle.visit_room.specs.declared.names.MaskName.{MaskName}
use Rattle.visit_room.specs.declared.table_head.TableHead.{TableHead}
use Rattle.store_history.specs.declared.history.Commit.{Commit}
use Rattle.store_history.specs.declared.history.Named.{Named}
use Rattle.store_history.specs.History.{root_of, edits_of}
use Rattle.store_history.specs.Reads.{read_all}
use Rattle.store_history.specs.declared.places.TheConstants.{HEAD_ROOTS}
use Rattle.block_codec.specs.declared.table.StoredTable.{StoredTable}
use Rattle.block_codec.specs.OfReadings.Read.{table_in}

-- ---- tables
-- a table with the serials of its masks, as a state has it: no slots
pub record PlainTable : Type 0 where
  pub serial : ℕ
  pub chain : ℕ
  pub pref : ℕ
  pub protocol : Proto
  pub masks : List ℕ

abbrev pub plain : StoredTable → PlainTable
plain table = record {
  serial = table.serial;
  chain = table.chain;
  pref = table.pref;
  protocol = table.protocol;
  masks = map (λ (mask : MaskName). mask.serial) table.masks;
}

-- a table as a walk is told it
abbrev pub told_of : StoredTable → TableHead
told_of table = record {
  serial = table.serial;
  chain = table.chain;
  pref = table.pref;
  protocol = table.protocol;
  masks = table.masks;
}

-- ---- roots
abbrev pub hook_number : Hook → ℕ
hook_number hooks.Ingress = 0
hook_number hooks.Egress = 1

-- the root of a hook's tables
abbrev pub head_root : Hook → ℕ
head_root hook = HEAD_ROOTS + hook_number hook

-- ---- what a law of heads says
-- the tables that a hook's root names are right after each number of edits from its stamp up to e
pub record TellsHead (heads : ℕ → List PlainTable) (named : Named) (e : ℕ) : Type 0 where
  pub tables : List StoredTable
  pub read : read_all table_in named.chain ≡ Some tables
  pub early : named.stamp ≤ e
  pub are : (k : ℕ) → named.stamp ≤ k → k ≤ e → map plain tables ≡ heads k

-- WHAT A VISIT OF A HEAD TELLS: the tables that the root names at the end of these commits, with the slots of
-- their masks, and they are the hook's after each number of edits from the point up to all that these commits
-- carry
pub record HeadTold {E : Type 0} (heads : ℕ → List PlainTable) (h : List (Commit E)) (hook : Hook)
    (told : List TableHead) (point : ℕ) : Type 0 where
  pub tables : List StoredTable
  pub read : read_all table_in (root_of h (head_root hook)).chain ≡ Some tables
  pub told_are : told ≡ map told_of tables
  pub early : point ≤ length (edits_of h)
  pub are : (k : ℕ) → point ≤ k → k ≤ length (edits_of h) → map plain tables ≡ heads k
