-- The parts of a new desk.
use Rattle.std.proofs.Common.{◌≡◌, ◌∙◌, ℕ, ◌-◌, ◌≤◌, List, [], length, Option, Some, None, refl, sym, ap, subst, arith}
use Rattle.std.specs.Prelude.{All, slice_index_or}
use Rattle.std.proofs.lemmas.List.Elements.{All-nil}
use Rattle.tc_base.specs.declared.hook.Hook.{Hook}
use Rattle.tc_base.specs.declared.hook.Hook.TheVariants.{Ingress, Egress}
use Rattle.store_history.specs.declared.history.Named.{Named}
use Rattle.store_history.specs.declared.history.Commit.{Commit}
use Rattle.store_history.specs.History.{root_of}
use Rattle.pin_store.specs.declared.shape.Shape.{Shape}
use Rattle.filter_state.specs.declared.edit.Edit.{Edit}
use Rattle.filter_state.specs.States.{no_state}
use Rattle.block_codec.specs.declared.table.StoredTable.{StoredTable}
use Rattle.miniq_pair.specs.Heads.{head_root}
use Rattle.miniq_pair.specs.Pairs.{first_block_of, table_links}
use Rattle.mask_table.specs.declared.mirrors.mirror.KeptMask.{KeptMask}
use Rattle.mask_writer.specs.Masks.{Masks}
use Rattle.mask_writer.specs.Standing.{masks_of, StandsAt, IsEmptyAt, AreNamed}
use Rattle.desk_masks.specs.OfHeadChains.Chains.{FitsTable}
use Rattle.hook_lists.specs.declared.kept.Kept.{Kept}
use Rattle.filter_lists.specs.Spells.{Spells}
use Rattle.hook_law.specs.Standing.{IsMaskAt}
use Rattle.hook_law.proofs.Opening.{no_mask}
use Rattle.hook_store_law.specs.Stated.{hook_meaning}
use Rattle.hook_store_law.specs.Blocks.{hook_codec}
use Rattle.hook_store_law.proofs.Opening.{hook_opens}
use Rattle.root_word_laws.proofs.Words.{none_rise}
use Rattle.desk_actions.specs.OfLedgers.Ledger.{IsLedger}
use Rattle.desk_masks.specs.declared.hook_tables.HookTables.{HookTables}
use Rattle.desk_masks.specs.Masks.{HasMasks}
use Rattle.desk_masks.specs.Tables.{HasTables}

-- the lists without a qdisc are the state of no commits
ledger_opens : (lists : Kept) → Spells lists no_state → IsLedger [] 0 lists 0
ledger_opens lists spells = record {
  kept = record {
    low = omega arith;
    keeps = record { law = hook_opens; stamps = none_rise };
    point_is = refl;
    early = λ r. omega arith;
  };
  rest = λ m slot mask at read. absurd (no_mask hook_meaning hook_codec m slot at);
  spells = spells;
}

pub whole_opens : (h : List (Commit Edit)) (b point : ℕ) (lists : Kept) → h ≡ [] → b ≡ 0 → point ≡ 0 → Spells lists no_state → IsLedger h b lists point
whole_opens h b point lists none first start spells =
    subst (λ (k : List (Commit Edit)). IsLedger k b lists point) (sym none)
    (subst (λ (n : ℕ). IsLedger [] n lists point) (sym first) (subst (IsLedger [] 0 lists) (sym start) (ledger_opens lists spells)))

-- no mask is held, and none stands
pub masks_open : (masks : Masks) (shape : Shape) (cells : List ℕ) (h : List (Commit Edit)) → h ≡ [] → ((slot : ℕ) → IsEmptyAt masks slot)
    → ((shape : Shape) (cells : List ℕ) (roots : ℕ → Named) → AreNamed masks shape cells roots) → HasMasks masks shape cells h
masks_open masks shape cells h none empty named = record {
  named = named shape cells (root_of h);
  has = λ mask slot at. absurd (no_mask hook_meaning hook_codec mask slot (subst (λ (k : List (Commit Edit)). IsMaskAt hook_codec k mask slot) none at));
  only = λ slot kept stands. let nothing = empty slot in absurd (cc (sym nothing ∙ stands));
}

-- no hook has a table
pub tables_open : (hook : Hook) (kept : HookTables) (h : List (Commit Edit)) → h ≡ [] → kept.pair.hook ≡ hook → kept.tables ≡ [] → HasTables hook kept h
tables_open hook kept h none own empty = record {
  of_hook = own;
  chain = ap (λ (k : List (Commit Edit)). (root_of k (head_root hook)).chain) none
      ∙ sym (ap (table_links (first_block_of hook kept.pair.active)) empty);
  fit = subst (All FitsTable) (sym empty) (All-nil FitsTable);
  few = let long = ap length empty in omega (arith, long);
}
