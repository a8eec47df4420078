-- What the head's commit with masks that were built tells, from the commits before to those after.
use Rattle.std.proofs.Common.{◌≡◌, ◌≢◌, ◌∙◌, ◌⊎◌, ℕ, ◌+◌, ◌<◌, ◌≤◌, List, [], ◌∷◌, ◌++◌, sym, ap, subst}
use Rattle.tc_base.specs.declared.hook.Hook.{Hook}
use Rattle.visit_room.specs.declared.names.MaskName.{MaskName}
use Rattle.store_history.specs.declared.history.Commit.{Commit}
use Rattle.store_history.specs.History.{edits_of}
use Rattle.pin_store.specs.declared.shape.Shape.{Shape}
use Rattle.pin_store.specs.Calls.{IsUnnamed}
use Rattle.filter_state.specs.declared.edit.Edit.{Edit}
use Rattle.block_codec.specs.declared.table.StoredTable.{StoredTable}
use Rattle.mask_writer.specs.Masks.{Masks}
use Rattle.miniq_pair.specs.Pairs.{first_block_of, swap_commit}
use Rattle.hook_law.specs.Meaning.{point_of}
use Rattle.hook_law.specs.Standing.{IsMaskAt}
use Rattle.hook_law.specs.Keeping.{IsAtRest}
use Rattle.hook_store_law.specs.Stated.{hook_meaning}
use Rattle.hook_store_law.specs.Blocks.{hook_codec}
use Rattle.hook_store_law.specs.Kept.{KeepsHook}
use Rattle.desk_heads.specs.OfHeadCommits.Built.{IsBuilt, IsConcerned, IsGiven}
use Rattle.desk_pools.specs.declared.pools.Pools.{Pools}
use Rattle.desk_pools.specs.Pools.{ArePools}
use Rattle.desk_pools.specs.Steps.{turned}
use Rattle.desk_masks.specs.declared.hook_tables.HookTables.{HookTables}
use Rattle.desk_masks.specs.Tables.{HasTables}
use Rattle.desk_heads.specs.Gives.{GivesTables}
use Rattle.desk_heads.specs.Closes.{HoldsMasks, IsGone}
use Rattle.desk_heads.specs.Handed.{idle_of, AreActionsHanded}
use Rattle.desk_heads.proofs.Holding.{SamePool}
use Rattle.desk_heads.proofs.Tables.{tables_other}
use Rattle.desk_heads.specs.OfMoves.Builds.{HoldsBuilt, AreBuiltHanded}
use Rattle.desk_heads.proofs.OfMoves.Moved.{move_lawful, move_rests, move_edits, move_stays, move_only, move_holds, move_gone, move_pools}

module _ (h : List (Commit Edit)) (b : ℕ) (y : Edit) (hook : Hook) (built : List MaskName) (keeps : KeepsHook h b) (o : GivesTables h b y hook built) (point : ℕ) (at : point ≡ point_of h) (place : ℕ) (tables : List StoredTable)
    (within : place ≤ 1) (g : IsGiven h b y hook built tables) (g2 : List (Commit Edit)) (b2 : ℕ) (seen2 : g2 ≡ h ++ swap_commit hook place tables (point + 1) y ∷ []) (base2 : b2 ≡ b) where
  abbrev c : Commit Edit
  c = swap_commit hook place tables (point_of h + 1) y

  is_end : g2 ≡ h ++ c ∷ []
  is_end = seen2 ∙ ap (λ (n : ℕ). h ++ swap_commit hook place tables (n + 1) y ∷ []) at

  end : (P : List (Commit Edit) → ℕ → Type 0) → P (h ++ c ∷ []) b → P g2 b2
  end P x = subst (P g2) (sym base2) (subst (λ (k : List (Commit Edit)). P k b) (sym is_end) x)

  pub moved_lawful : KeepsHook g2 b2
  moved_lawful = end KeepsHook (move_lawful h b y hook built keeps o place tables within g)

  pub moved_rests : IsAtRest hook_meaning hook_codec g2
  moved_rests = end (λ k d. IsAtRest hook_meaning hook_codec k) (move_rests h b y hook built keeps o place tables within g)

  pub moved_journal : edits_of g2 ≡ edits_of h ++ y ∷ []
  moved_journal = ap edits_of is_end ∙ move_edits h b y hook built keeps o place tables within g

  pub moved_others : (other : Hook) (kept : HookTables) → hook ≢ other → HasTables other kept h → HasTables other kept g2
  moved_others other kept ne has = end (λ k d. HasTables other kept k) (tables_other hook other kept h place tables (point_of h + 1) y ne has)

  pub moved_stays : (m s : ℕ) → IsMaskAt hook_codec h m s → (IsConcerned h y built m → ⊥) → IsMaskAt hook_codec g2 m s
  moved_stays m s x none = end (λ k d. IsMaskAt hook_codec k m s) (move_stays h b y hook built keeps o place tables within g m s x none)

  pub moved_only : (m s : ℕ) → IsMaskAt hook_codec g2 m s → (IsMaskAt hook_codec h m s × (IsConcerned h y built m → ⊥)) ⊎ IsBuilt built m s
  moved_only m s x = move_only h b y hook built keeps o place tables within g m s (subst (λ (k : List (Commit Edit)). IsMaskAt hook_codec k m s) is_end x)

  pub moved_holds : (shape : Shape) (cells cells2 : List ℕ) → SamePool shape cells cells2 → (masks : Masks) → HoldsBuilt masks shape cells h b y built → HoldsMasks masks shape cells2 g2
  moved_holds shape cells cells2 pool masks has = end (λ k d. HoldsMasks masks shape cells2 k) (move_holds h b y hook built keeps o place tables within g masks shape cells has cells2 pool)

  pub moved_gone : (shape : Shape) (cells : List ℕ) (masks : Masks) (m s : ℕ) → HoldsBuilt masks shape cells h b y built → IsMaskAt hook_codec h m s → IsConcerned h y built m → IsGone masks g2 s
  moved_gone shape cells masks m s has x con = end (λ k d. IsGone masks k s) (move_gone h b y hook built keeps o place tables within g masks shape cells has m s x con)

  pub moved_pools : ((k : ℕ) → k < 256 → IsUnnamed b h (first_block_of hook place + k)) → (shape : Shape) (cells : List ℕ) (masks : Masks) (pools : Pools) → HoldsBuilt masks shape cells h b y built → ArePools pools h b
      → AreBuiltHanded pools masks built → AreActionsHanded pools h b y → (idle_of hook pools).place ≡ place → ArePools (turned hook pools) g2 b2
  moved_pools free shape cells masks pools has p handed actions is = end (λ k d. ArePools (turned hook pools) k d)
      (move_pools h b y hook built keeps o place tables within g masks shape cells has pools p handed actions free is)
