-- A head that was read before (this project's own).
use Rattle.std.specs.Prelude.{◌≡◌, ℕ, List, map, Some}
use mathlib.Core.List.{IsPrefix}
use Rattle.store_history.specs.declared.history.Commit.{Commit}
use Rattle.store_history.specs.History.{root_of}
use Rattle.store_history.specs.Reads.{read_all}
use Rattle.visit_room.specs.declared.table_head.TableHead.{TableHead}
use Rattle.filter_state.specs.declared.edit.Edit.{Edit}
use Rattle.block_codec.specs.declared.table.StoredTable.{StoredTable}
use Rattle.block_codec.specs.OfReadings.Read.{table_in}
use Rattle.tc_base.specs.declared.hook.Hook.TheVariants as hooks
use Rattle.miniq_pair.specs.Heads.{told_of, head_root}

-- the tables, and the stamp that the root had
pub record Kept : Type 0 where
  pub stamp : ℕ
  pub tables : List TableHead

-- they were what the root named after some of the commits
pub record IsKept (h : List (Commit Edit)) (root : ℕ) (kept : Kept) : Type 0 where
  pub then : List (Commit Edit)
  pub seen : IsPrefix then h
  pub stamp : kept.stamp ≡ (root_of then root).stamp
  pub stored : List StoredTable
  pub read : read_all table_in (root_of then root).chain ≡ Some stored
  pub told : kept.tables ≡ map told_of stored

-- those of both hooks are
abbrev pub KeepsHeads : List (Commit Edit) → Kept → Kept → Type 0
KeepsHeads h ingress egress = IsKept h (head_root hooks.Ingress) ingress
    × IsKept h (head_root hooks.Egress) egress
