-- What the calls that open a mask ask and tell, from the commits before to those after.
use Rattle.std.proofs.Common.{◌≡◌, ◌≢◌, ◌∙◌, ℕ, ◌+◌, ◌<◌, ◌≤◌, List, [], ◌∷◌, ◌++◌, length, take, get_or, set, Some, sym, ap, subst, arith}
use Rattle.tc_base.specs.declared.hook.Hook.{Hook}
use Rattle.visit_room.specs.declared.names.MaskName.{MaskName}
use Rattle.store_history.specs.declared.history.Commit.{Commit}
use Rattle.store_history.specs.History.{root_of, edits_of}
use Rattle.pin_store.specs.declared.shape.Shape.{Shape}
use Rattle.pin_store.specs.Calls.{IsUnnamed}
use Rattle.filter_state.specs.declared.edit.Edit.{Edit}
use Rattle.hook_lists.specs.declared.kept.Kept.{Kept}
use Rattle.filter_lists.specs.Spells.{Spells}
use Rattle.block_codec.specs.declared.filter.StoredFilter.{StoredFilter}
use Rattle.block_codec.specs.declared.mask.StoredMask.{StoredMask}
use Rattle.block_codec.specs.declared.table.StoredTable.{StoredTable}
use Rattle.mask_table.specs.OfMirrors.Given.{AreGiven}
use Rattle.mask_table.specs.OfMirrors.Linked.{placed, raise_commits}
use Rattle.mask_writer.specs.Masks.{Masks}
use Rattle.mask_writer.specs.Standing.{masks_of, Holds, AreNamed}
use Rattle.miniq_pair.specs.Pairs.{first_block_of, swap_commit}
use Rattle.hook_law.specs.Meaning.{point_of}
use Rattle.hook_law.specs.Keeping.{IsAtRest}
use Rattle.hook_store_law.specs.Stated.{hook_meaning}
use Rattle.hook_store_law.specs.Blocks.{hook_codec}
use Rattle.hook_store_law.specs.Kept.{KeepsHook}
use Rattle.hook_store_law.specs.OfEdits.Premises.{next}
use Rattle.desk_heads.specs.OfHeadCommits.Built.{IsBuilt, IsConcerned, IsGiven}
use Rattle.desk_heads.proofs.OfHeadCommits.Raising.{raise_heads}
use Rattle.desk_heads.proofs.OfHeadCommits.Giving.{head_lawful, head_rest}
use Rattle.desk_pools.specs.declared.pools.Pools.{Pools}
use Rattle.desk_pools.specs.Pools.{ArePools}
use Rattle.desk_pools.specs.Steps.{turned}
use Rattle.desk_masks.specs.declared.hook_tables.HookTables.{HookTables}
use Rattle.desk_masks.specs.Masks.{HasMasks}
use Rattle.desk_masks.specs.Tables.{HasTables}
use Rattle.desk_masks.proofs.Going.{tables_go}
use Rattle.desk_heads.specs.Gives.{GivesTables}
use Rattle.desk_heads.specs.Opens.{OpensMask}
use Rattle.desk_heads.specs.Handed.{idle_of, AreHanded, AreActionsHanded}
use Rattle.desk_heads.proofs.Holding.{SamePool}
use Rattle.desk_heads.proofs.Tables.{tables_other}
use Rattle.desk_heads.proofs.Opened.{blk, same_commits, open_lawful, after, after_keeps, after_ready, after_next, after_edits, built, open_gives}
use Rattle.desk_heads.proofs.OpenMasks.{edits_are, open_masks}
use Rattle.desk_heads.proofs.OpenPools.{idle_after, open_pools}

module _ (h : List (Commit Edit)) (b : ℕ) (y : Edit) (hook : Hook) (slot : ℕ) (mask : StoredMask) (filter : StoredFilter) (given : List ℕ) (keeps : KeepsHook h b) (o : OpensMask h b y hook slot mask filter given)
    (two : length given ≡ 2) (are : AreGiven b h given) (point : ℕ) (at : point ≡ point_of h) where
  abbrev commits : ℕ → List (Commit Edit)
  commits number = raise_commits slot mask (get_or given 1 0) (placed given (filter ∷ [])) number

  pub step_lawful : (n : ℕ) → KeepsHook (h ++ take n (commits (point + 1))) b
  step_lawful n = subst (λ (k : ℕ). KeepsHook (h ++ take n (commits (k + 1))) b) (sym at) (open_lawful h b y hook slot mask filter given keeps o n)

  module _ (g1 : List (Commit Edit)) (b1 : ℕ) (seen1 : g1 ≡ h ++ commits (point + 1)) (base1 : b1 ≡ b) where
    abbrev h1 : List (Commit Edit)
    h1 = after h b y hook slot mask filter given keeps o

    abbrev made : List MaskName
    made = built h b y hook slot mask filter given keeps o

    is_after : g1 ≡ h1
    is_after = seen1 ∙ (ap (λ (k : ℕ). h ++ commits (k + 1)) at ∙ ap (λ (cs : List (Commit Edit)). h ++ cs) (sym (same_commits h b y hook slot mask filter given keeps o)))

    on : (P : List (Commit Edit) → ℕ → Type 0) → P h1 b → P g1 b1
    on P x = subst (P g1) (sym base1) (subst (λ (g : List (Commit Edit)). P g b) (sym is_after) x)

    back : (P : List (Commit Edit) → ℕ → Type 0) → P g1 b1 → P h1 b
    back P x = subst (P h1) base1 (subst (λ (g : List (Commit Edit)). P g b1) is_after x)

    pub first_lawful : KeepsHook g1 b1
    first_lawful = on KeepsHook (after_keeps h b y hook slot mask filter given keeps o)

    point_same : point_of h1 ≡ point_of h
    point_same = ap length (after_edits h b y hook slot mask filter given keeps o)

    pub first_number : point + 1 ≡ point_of g1 + 1
    first_number = let same = point_same in let is = ap point_of is_after in omega (arith, at, same, is)

    pub first_gives : (lent : List MaskName) → lent ≡ made → GivesTables g1 b1 y hook lent
    first_gives lent same = subst (GivesTables g1 b1 y hook) (sym same) (on (λ g c. GivesTables g c y hook made) (open_gives h b y hook slot mask filter given keeps o))

    pub first_lists : (lists : Kept) → Spells lists (next h y) → Spells lists (next g1 y)
    first_lists lists spells = on (λ g c. Spells lists (next g y)) (subst (Spells lists) (sym (after_next h b y hook slot mask filter given keeps o)) spells)

    go : (other : Hook) (kept : HookTables) → HasTables other kept h → HasTables other kept h1
    go other kept has = tables_go h h1 (raise_heads h b y slot mask given (blk h b y hook slot mask filter given keeps o) keeps o.ready o.can) other kept has

    pub first_tables : (other : Hook) (kept : HookTables) → HasTables other kept h → HasTables other kept g1
    first_tables other kept has = on (λ g c. HasTables other kept g) (go other kept has)

    pub first_idle : (place : ℕ) → place ≤ 1 → ((k : ℕ) → k < 256 → IsUnnamed b h (first_block_of hook place + k)) → (k : ℕ) → k < 256 → IsUnnamed b1 g1 (first_block_of hook place + k)
    first_idle place within free k less = on (λ g c. IsUnnamed c g (first_block_of hook place + k)) (idle_after h b y hook slot mask filter given keeps o two are place k within less (free k less))

    -- ---- after the head's commit
    module _ (place : ℕ) (tables : List StoredTable) (within : place ≤ 1) (lent : List MaskName) (lent_is : lent ≡ made) (told : IsGiven g1 b1 y hook lent tables) (g2 : List (Commit Edit)) (b2 : ℕ)
        (seen2 : g2 ≡ g1 ++ swap_commit hook place tables (point + 1) y ∷ []) (base2 : b2 ≡ b1) where
      g : IsGiven h1 b y hook made tables
      g = subst (λ (l : List MaskName). IsGiven h1 b y hook l tables) lent_is (back (λ k c. IsGiven k c y hook lent tables) told)

      abbrev c : Commit Edit
      c = swap_commit hook place tables (point_of h1 + 1) y

      is_end : g2 ≡ h1 ++ c ∷ []
      is_end = seen2 ∙ (λ t. is_after t ++ swap_commit hook place tables (number t) y ∷ [])
        where
          number : point + 1 ≡ point_of h1 + 1
          number = let same = point_same in omega (arith, at, same)

      end : (P : List (Commit Edit) → ℕ → Type 0) → P (h1 ++ c ∷ []) b → P g2 b2
      end P x = subst (P g2) (sym (base2 ∙ base1)) (subst (λ (k : List (Commit Edit)). P k b) (sym is_end) x)

      pub last_lawful : KeepsHook g2 b2
      last_lawful = end KeepsHook (head_lawful h1 b y hook (IsConcerned h1 y made) (IsBuilt made) place tables (after_keeps h b y hook slot mask filter given keeps o) (after_ready h b y hook slot mask filter given keeps o) within g)

      pub last_rests : IsAtRest hook_meaning hook_codec g2
      last_rests = end (λ k d. IsAtRest hook_meaning hook_codec k)
          (head_rest h1 b y hook (IsConcerned h1 y made) (IsBuilt made) place tables (after_keeps h b y hook slot mask filter given keeps o) (after_ready h b y hook slot mask filter given keeps o) within g)

      pub last_others : (other : Hook) (kept : HookTables) → hook ≢ other → HasTables other kept h → HasTables other kept g2
      last_others other kept ne has = end (λ k d. HasTables other kept k) (tables_other hook other kept h1 place tables (point_of h1 + 1) y ne (go other kept has))

      pub last_pools : ((k : ℕ) → k < 256 → IsUnnamed b h (first_block_of hook place + k)) → (pools : Pools) → ArePools pools h b → AreHanded pools given mask.rows slot → AreActionsHanded pools h b y
          → (idle_of hook pools).place ≡ place → ArePools (turned hook pools) g2 b2
      last_pools free pools p handed actions is = end (λ k d. ArePools (turned hook pools) k d) (open_pools h b y hook slot mask filter given keeps o two are place tables within g pools p handed actions free is)

      module _ (masks : Masks) (shape : Shape) (cells : List ℕ) (has : HasMasks masks shape cells h) where
        pub last_journal : edits_of g2 ≡ edits_of h ++ y ∷ []
        last_journal = ap edits_of is_end ∙ edits_are h b y hook slot mask filter given keeps o masks shape cells has place tables within g

        pub last_masks : (masks2 : Masks) (cells1 cells2 : List ℕ) → AreNamed masks2 shape cells1 (root_of g1) → masks_of masks2 ≡ set (masks_of masks) slot (Some (record { block = get_or given 1 0; mask = mask }))
            → Holds masks2 slot (point + 1) (filter ∷ []) → ((other last : ℕ) (fs : List StoredFilter) → other ≢ slot → Holds masks other last fs → Holds masks2 other last fs) → SamePool shape cells1 cells2
            → HasMasks masks2 shape cells2 g2
        last_masks masks2 cells1 cells2 named set_is list lists pool = end (λ k d. HasMasks masks2 shape cells2 k)
            (open_masks h b y hook slot mask filter given keeps o masks shape cells has place tables within g masks2 cells1 cells2 (subst (λ (k : List (Commit Edit)). AreNamed masks2 shape cells1 (root_of k)) is_after named)
            set_is (subst (λ (k : ℕ). Holds masks2 slot (k + 1) (filter ∷ [])) at list) lists pool)
