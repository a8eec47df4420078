-- What the call with which masks go tells, from the commits before to those after.
use Rattle.std.proofs.Common.{◌≡◌, ◌≢◌, ◌∙◌, ℕ, ◌+◌, ◌<◌, ◌≤◌, List, [], ◌∷◌, ◌++◌, sym, ap, subst}
use Rattle.tc_base.specs.declared.hook.Hook.{Hook}
use Rattle.visit_room.specs.declared.names.MaskName.{MaskName}
use Rattle.store_history.specs.declared.history.Commit.{Commit}
use Rattle.store_history.specs.History.{edits_of}
use Rattle.pin_store.specs.declared.shape.Shape.{Shape}
use Rattle.pin_store.specs.Calls.{IsUnnamed}
use Rattle.filter_state.specs.declared.edit.Edit.{Edit}
use Rattle.block_codec.specs.declared.table.StoredTable.{StoredTable}
use Rattle.hook_store_law.specs.OfEffects.Parts.{Stands}
use Rattle.mask_writer.specs.Masks.{Masks}
use Rattle.miniq_pair.specs.Pairs.{first_block_of, swap_commit}
use Rattle.hook_law.specs.Meaning.{point_of}
use Rattle.hook_law.specs.Standing.{IsMaskAt}
use Rattle.hook_law.specs.Keeping.{IsAtRest}
use Rattle.hook_store_law.specs.Stated.{hook_meaning}
use Rattle.hook_store_law.specs.Blocks.{hook_codec}
use Rattle.hook_store_law.specs.Kept.{KeepsHook}
use Rattle.hook_store_law.specs.OfEdits.Premises.{next}
use Rattle.desk_heads.specs.OfHeadCommits.Built.{IsBuilt, IsConcerned, IsGiven}
use Rattle.desk_heads.proofs.OfHeadCommits.Giving.{head_lawful, head_rest}
use Rattle.desk_pools.specs.declared.pools.Pools.{Pools}
use Rattle.desk_pools.specs.Pools.{ArePools}
use Rattle.desk_pools.specs.Steps.{turned}
use Rattle.desk_masks.specs.declared.hook_tables.HookTables.{HookTables}
use Rattle.desk_masks.specs.Masks.{HasMasks}
use Rattle.desk_masks.specs.Tables.{HasTables}
use Rattle.desk_heads.specs.Gives.{GivesTables}
use Rattle.desk_heads.specs.Closes.{ClosesMasks, HoldsMasks, IsGone}
use Rattle.desk_heads.specs.Handed.{idle_of, AreActionsHanded}
use Rattle.desk_heads.proofs.Holding.{SamePool}
use Rattle.desk_heads.proofs.Tables.{tables_other}
use Rattle.desk_heads.proofs.Closed.{close_gives, close_stays, close_only, close_edits, close_holds, close_gone, close_pools}

pub lent_gives : (h : List (Commit Edit)) (b : ℕ) (y : Edit) (hook : Hook) (lent : List MaskName) → KeepsHook h b → ClosesMasks h b y hook → lent ≡ [] → GivesTables h b y hook lent
lent_gives h b y hook lent keeps o same = subst (GivesTables h b y hook) (sym same) (close_gives h b y hook keeps o)

module _ (h : List (Commit Edit)) (b : ℕ) (y : Edit) (hook : Hook) (keeps : KeepsHook h b) (o : ClosesMasks h b y hook) (point : ℕ) (at : point ≡ point_of h) (place : ℕ) (tables : List StoredTable) (within : place ≤ 1)
    (lent : List MaskName) (lent_is : lent ≡ []) (told : IsGiven h b y hook lent tables) (g2 : List (Commit Edit)) (b2 : ℕ) (seen2 : g2 ≡ h ++ swap_commit hook place tables (point + 1) y ∷ []) (base2 : b2 ≡ b) where
  g : IsGiven h b y hook [] tables
  g = subst (λ (l : List MaskName). IsGiven h b y hook l tables) lent_is told

  abbrev c : Commit Edit
  c = swap_commit hook place tables (point_of h + 1) y

  is_end : g2 ≡ h ++ c ∷ []
  is_end = seen2 ∙ ap (λ (n : ℕ). h ++ swap_commit hook place tables (n + 1) y ∷ []) at

  end : (P : List (Commit Edit) → ℕ → Type 0) → P (h ++ c ∷ []) b → P g2 b2
  end P x = subst (P g2) (sym base2) (subst (λ (k : List (Commit Edit)). P k b) (sym is_end) x)

  pub gone_lawful : KeepsHook g2 b2
  gone_lawful = end KeepsHook (head_lawful h b y hook (IsConcerned h y []) (IsBuilt []) place tables keeps o.ready within g)

  pub gone_rests : IsAtRest hook_meaning hook_codec g2
  gone_rests = end (λ k d. IsAtRest hook_meaning hook_codec k) (head_rest h b y hook (IsConcerned h y []) (IsBuilt []) place tables keeps o.ready within g)

  pub gone_journal : edits_of g2 ≡ edits_of h ++ y ∷ []
  gone_journal = ap edits_of is_end ∙ close_edits h b y hook keeps o place tables within g

  pub gone_others : (other : Hook) (kept : HookTables) → hook ≢ other → HasTables other kept h → HasTables other kept g2
  gone_others other kept ne has = end (λ k d. HasTables other kept k) (tables_other hook other kept h place tables (point_of h + 1) y ne has)

  pub gone_stays : (m s : ℕ) → IsMaskAt hook_codec h m s → Stands (next h y) m → IsMaskAt hook_codec g2 m s
  gone_stays m s x stands = end (λ k d. IsMaskAt hook_codec k m s) (close_stays h b y hook keeps o place tables within g m s x stands)

  pub gone_only : (m s : ℕ) → IsMaskAt hook_codec g2 m s → IsMaskAt hook_codec h m s × Stands (next h y) m
  gone_only m s x = close_only h b y hook keeps o place tables within g m s (subst (λ (k : List (Commit Edit)). IsMaskAt hook_codec k m s) is_end x)

  pub gone_holds : (shape : Shape) (cells cells2 : List ℕ) → SamePool shape cells cells2 → (masks : Masks) → HasMasks masks shape cells h → HoldsMasks masks shape cells2 g2
  gone_holds shape cells cells2 pool masks has = end (λ k d. HoldsMasks masks shape cells2 k) (close_holds h b y hook keeps o place tables within g masks shape cells has cells2 pool)

  pub gone_gone : (shape : Shape) (cells : List ℕ) (masks : Masks) (m s : ℕ) → HasMasks masks shape cells h → IsMaskAt hook_codec h m s → (Stands (next h y) m → ⊥) → IsGone masks g2 s
  gone_gone shape cells masks m s has x gone = end (λ k d. IsGone masks k s) (close_gone h b y hook keeps o place tables within g masks shape cells has m s x gone)

  pub gone_pools : ((k : ℕ) → k < 256 → IsUnnamed b h (first_block_of hook place + k)) → (pools : Pools) → ArePools pools h b → AreActionsHanded pools h b y → (idle_of hook pools).place ≡ place → ArePools (turned hook pools) g2 b2
  gone_pools free pools p actions is = end (λ k d. ArePools (turned hook pools) k d) (close_pools h b y hook keeps o place tables within g free pools p actions is)
