-- The tables that are stored stand as the lists' do, mask by mask.
use Rattle.std.proofs.Common.{◌≡◌, ◌∙◌, ℕ, zero, suc, ◌+◌, ◌<◌, ◌≤◌, ◌^◌, List, [], ◌∷◌, length, map, slice_get, Some, refl, sym, ap, subst, arith, le_refl}
use Rattle.std.specs.Prelude.{All}
use Rattle.std.proofs.lemmas.Option.{get_or_from_slice_get, slice_get_within}
use Rattle.store_history.proofs.Lists.{some_is}
use Rattle.block_codec.specs.Names.{IsMaskName}
use Rattle.tc_base.specs.declared.hook.Hook.{Hook}
use Rattle.tc_base.specs.declared.hook.Hook.TheVariants as hooks
use Rattle.store_history.specs.declared.history.Named.{Named}
use Rattle.store_history.specs.declared.history.Link.{Link}
use Rattle.store_history.specs.declared.history.Commit.{Commit}
use Rattle.store_history.specs.History.{root_of, edits_of}
use Rattle.filter_state.specs.declared.edit.Edit.{Edit}
use Rattle.filter_state.specs.States.{State}
use Rattle.visit_room.specs.declared.names.MaskName.{MaskName}
use Rattle.block_codec.specs.declared.table.StoredTable.{StoredTable}
use Rattle.filter_tables.specs.Plain.{PlainMask, PlainTable}
use Rattle.filter_tables.specs.Places.{item_at}
use Rattle.filter_tables.specs.Rows.{tables_on}
use Rattle.hook_lists.specs.declared.kept.Kept.{Kept}
use Rattle.hook_lists.specs.States.{both_of, AreKept}
use Rattle.filter_lists.specs.Spells.{Spells}
use Rattle.walk_rules.specs.Questions.{Head}
use Rattle.walk_rules.specs.Heads.{heads_on}
use Rattle.head_laws.specs.Heads.{head_of}
use Rattle.head_laws.proofs.ListedHeads.{heads_listed}
use Rattle.miniq_pair.specs.Heads.{hook_number}
use Rattle.miniq_pair.specs.Pairs.{first_block_of, table_links}
use Rattle.desk_masks.specs.OfHeadChains.Chains.{stated_of, FitsTable, IsNamedIn}
use Rattle.desk_masks.proofs.OfHeadChains.HeadChains.{codec_reads, twice, small_first, in_names}
use Rattle.hook_law.specs.Places as places
use Rattle.hook_law.specs.Records.{Slotted, TableRecord, StatedTable, stated_table}
use Rattle.hook_law.specs.Chains.{read_all}
use Rattle.hook_law.specs.Meaning.{point_of, state_at}
use Rattle.hook_law.specs.Standing.{IsMaskAt, Names}
use Rattle.hook_law.specs.Telling.{ReadsHead}
use Rattle.hook_law.specs.Keeping.{Keeps}
use Rattle.hook_law.proofs.Looking.{head_told}
use Rattle.hook_store_law.specs.Stated.{TableNames, hook_meaning, table_stated, tables_at}
use Rattle.hook_store_law.specs.Blocks.{mask_slotted, table_record, hook_codec}
use Rattle.hook_store_law.specs.OfEdits.Premises.{now}
use Rattle.desk_masks.specs.declared.hook_tables.HookTables.{HookTables}
use Rattle.desk_masks.specs.Tables.{HasTables}

-- ---- two lists that are told as one
-- what stands at a place of the one stands at that place of the other
pub both_at : {A B C : Type 0} (f : A → C) (g : B → C) (xs : List A) (ys : List B) (place : ℕ) (y : B) → map f xs ≡ map g ys → item_at ys place ≡ Some y
    → (x : A) × (slice_get xs place ≡ Some x) × (f x ≡ g y)
both_at f g xs [] place y same at = absurd (cc at)
both_at f g [] (z ∷ ys) place y same at = absurd (cc same)
both_at f g (x ∷ xs) (z ∷ ys) zero y same at = let is : z ≡ y = cc at in let first : f x ≡ g z = cc same in (x, refl, first ∙ ap g is)
both_at f g (x ∷ xs) (z ∷ ys) (suc place) y same at = let rest : map f xs ≡ map g ys = cc same in both_at f g xs ys place y rest at

mapped_twice : {A B C : Type 0} (f : A → B) (g : B → C) (xs : List A) → map g (map f xs) ≡ map (λ x. g (f x)) xs
mapped_twice f g [] = refl
mapped_twice f g (x ∷ xs) = let rest = mapped_twice f g xs in λ t. g (f x) ∷ rest t

all_at : {A : Type 0} (P : A → Type 0) (xs : List A) (place : ℕ) (x : A) → All P xs → slice_get xs place ≡ Some x → P x
all_at P xs place x all e = subst P (get_or_from_slice_get xs place x x e) (all place x (slice_get_within xs place x e))

number_low : (hook : Hook) → hook_number hook < 2
number_low hooks.Ingress = omega arith
number_low hooks.Egress = omega arith

stated_heads : (hook : Hook) (s : State) → tables_at s (hook_number hook) ≡ map table_stated (heads_on hook s)
stated_heads hooks.Ingress s = refl
stated_heads hooks.Egress s = refl

module _ (h : List (Commit Edit)) (b : ℕ) (low : b ≤ length h) (keeps : Keeps hook_meaning hook_codec h b) (hook : Hook) (tables : HookTables) (has : HasTables hook tables h) where
  small : first_block_of hook tables.pair.active + length tables.tables < 4294967296
  small = small_first hook tables.pair.active (length tables.tables) tables.pair.two has.few

  told : ReadsHead hook_meaning hook_codec (hook_number hook) (root_of h (places.head_root (hook_number hook))).chain (now h)
  told = let tells = head_told hook_meaning hook_codec h b (hook_number hook) keeps low (number_low hook) in tells.reads (point_of h) tells.early (le_refl (point_of h))

  -- the stored tables are the state's
  pub stored_stated : map stated_of tables.tables ≡ tables_at (now h) (hook_number hook)
  stored_stated =
      let read : Some (map table_record tables.tables) ≡ Some told.tables = sym (codec_reads (first_block_of hook tables.pair.active) tables.tables has.fit small)
      ∙ (ap (read_all hook_codec.table) (sym has.chain) ∙ told.read) in
      let same : map table_record tables.tables ≡ told.tables = cc read in
      sym (twice tables.tables) ∙ (ap (map stated_table) same ∙ told.are)

  module _ (kept : Kept) (are : AreKept kept) (spells : Spells kept (now h)) where
    -- and the lists'
    pub stored_listed : map stated_of tables.tables ≡ map (λ (t : PlainTable). table_stated (head_of t)) (tables_on hook (both_of kept))
    stored_listed = stored_stated ∙ (stated_heads hook (now h)
        ∙ (ap (map table_stated) (sym (heads_listed kept (now h) hook are spells)) ∙ mapped_twice head_of table_stated (tables_on hook (both_of kept))))

    module _ (table mask : ℕ) (t : PlainTable) (m : PlainMask) (there : item_at (tables_on hook (both_of kept)) table ≡ Some t) (within : item_at t.masks mask ≡ Some m) where
      pub stored_there : (st : StoredTable) × (slice_get tables.tables table ≡ Some st) × (stated_of st ≡ table_stated (head_of t))
      stored_there = both_at stated_of (λ (u : PlainTable). table_stated (head_of u)) tables.tables (tables_on hook (both_of kept)) table t stored_listed there

      pub name_there : (name : MaskName) × (slice_get stored_there.0.masks mask ≡ Some name) × (name.serial ≡ m.serial)
      name_there = both_at (λ (n : MaskName). n.serial) (λ (p : PlainMask). p.serial) stored_there.0.masks t.masks mask m
          (sym (mapped_twice mask_slotted (λ (x : Slotted). x.serial) stored_there.0.masks) ∙ ap (λ (s : StatedTable TableNames). s.masks) stored_there.2) within

      pub within_tables : table < length tables.tables
      within_tables = slice_get_within tables.tables table stored_there.0 stored_there.1

      -- what stands there in the store
      module _ (st : StoredTable) (stored : slice_get tables.tables table ≡ Some st) where
        table_is : stored_there.0 ≡ st
        table_is = some_is stored_there.0 st (sym stored_there.1 ∙ stored)

        name_at : slice_get st.masks mask ≡ Some name_there.0
        name_at = subst (λ (u : StoredTable). slice_get u.masks mask ≡ Some name_there.0) table_is name_there.1

        pub within_masks : mask < length st.masks
        within_masks = slice_get_within st.masks mask name_there.0 name_at

        pub stands_there : (name : MaskName) → slice_get st.masks mask ≡ Some name → IsMaskAt hook_codec h m.serial name.slot
        stands_there name at = record {
          hook = hook_number hook;
          one = number_low hook;
          small = (all_at IsMaskName st.masks mask name (all_at FitsTable tables.tables table st has.fit stored).storable.masks at).slot;
          there = subst (λ (ls : List Link). Names hook_codec ls m.serial name.slot) (sym has.chain)
              (in_names (first_block_of hook tables.pair.active) tables.tables m.serial name.slot has.fit small (record {
                place = table;
                among = mask;
                table = st;
                name = name;
                there = stored;
                has = at;
                serial_is = ap (λ (n : MaskName). n.serial) (some_is name name_there.0 (sym at ∙ name_at)) ∙ name_there.2;
                slot_is = refl;
              }));
        }
