-- The tables that are kept, after commits to other roots and after a swap.
use Rattle.std.proofs.Common.{◌≡◌, ◌≢◌, ◌∙◌, ℕ, ◌≤◌, List, [], ◌∷◌, ◌++◌, length, refl, sym, ap, subst, arith}
use Rattle.std.specs.Prelude.{All}
use Rattle.tc_base.specs.declared.hook.Hook.{Hook}
use Rattle.tc_base.specs.declared.hook.Hook.TheVariants.{Ingress, Egress}
use Rattle.store_history.specs.declared.history.Commit.{Commit}
use Rattle.store_history.specs.declared.history.Named.{Named}
use Rattle.store_history.specs.History.{root_of}
use Rattle.store_history.proofs.Histories.{root_own, root_other}
use Rattle.filter_state.specs.declared.edit.Edit.{Edit}
use Rattle.block_codec.specs.declared.table.StoredTable.{StoredTable}
use Rattle.miniq_pair.specs.Heads.{hook_number, head_root}
use Rattle.miniq_pair.specs.Pairs.{first_block_of, table_links, swap_commit}
use Rattle.desk_masks.specs.OfHeadChains.Chains.{FitsTable}
use Rattle.desk_masks.specs.declared.hook_tables.HookTables.{HookTables}
use Rattle.desk_masks.specs.Tables.{HasTables}

number_apart : (hook other : Hook) → hook ≢ other → hook_number hook ≢ hook_number other
number_apart Ingress Ingress ne = absurd (ne refl)
number_apart Egress Egress ne = absurd (ne refl)
number_apart Ingress Egress ne = λ same. absurd (omega (arith, same))
number_apart Egress Ingress ne = λ same. absurd (omega (arith, same))

pub tables_same : (hook : Hook) (kept : HookTables) (h g : List (Commit Edit)) → (root_of g (head_root hook)).chain ≡ (root_of h (head_root hook)).chain → HasTables hook kept h → HasTables hook kept g
tables_same hook kept h g same t = record { of_hook = t.of_hook; chain = same ∙ t.chain; fit = t.fit; few = t.few }

-- the other hook's stay
pub tables_other : (hook other : Hook) (kept : HookTables) (h : List (Commit Edit)) (place : ℕ) (tables : List StoredTable) (number : ℕ) (y : Edit) → hook ≢ other → HasTables other kept h
    → HasTables other kept (h ++ swap_commit hook place tables number y ∷ [])
tables_other hook other kept h place tables number y ne t = tables_same other kept h (h ++ swap_commit hook place tables number y ∷ [])
    (ap (λ (n : Named). n.chain) (root_other h (swap_commit hook place tables number y) (head_root other) (λ same. number_apart hook other ne (omega (arith, same))))) t

-- and the hook's own are the new ones
pub tables_swapped : (hook : Hook) (kept : HookTables) (h : List (Commit Edit)) (place : ℕ) (tables : List StoredTable) (number : ℕ) (y : Edit) → kept.pair.hook ≡ hook → kept.pair.active ≡ place → kept.tables ≡ tables
    → All FitsTable tables → length tables ≤ 256 → HasTables hook kept (h ++ swap_commit hook place tables number y ∷ [])
tables_swapped hook kept h place tables number y of_hook active are fit few = record {
  of_hook = of_hook;
  chain = ap (λ (n : Named). n.chain) (root_own h (swap_commit hook place tables number y)) ∙ (λ t. table_links (first_block_of hook (sym active t)) (sym are t));
  fit = subst (All FitsTable) (sym are) fit;
  few = subst (λ (ts : List StoredTable). length ts ≤ 256) (sym are) few;
}
