-- What a head's root tells a reader of its tables, and how many there are.
use Rattle.std.proofs.Common.{◌≡◌, ℕ, ◌<◌, ◌≤◌, List, [], ◌∷◌, length, map, take, refl, ap, sym, ◌∙◌, subst, arith, le_refl}
use Rattle.std.proofs.lemmas.List.{length-map}
use Rattle.tc_base.specs.declared.hook.Hook.{Hook}
use Rattle.tc_base.specs.declared.hook.Hook.TheVariants as hooks
use Rattle.visit_room.specs.declared.names.MaskName.{MaskName}
use Rattle.store_history.specs.declared.history.Commit.{Commit}
use Rattle.store_history.specs.History.{root_of, edits_of}
use Rattle.filter_state.specs.declared.edit.Edit.{Edit}
use Rattle.filter_state.specs.States.{State}
use Rattle.walk_rules.specs.Questions as walk
use Rattle.walk_rules.specs.Heads.{heads_on}
use Rattle.block_codec.specs.declared.table.StoredTable.{StoredTable}
use Rattle.block_codec.specs.OfReadings.Read.{table_in}
use Rattle.hook_law.specs.Places as places
use Rattle.hook_law.specs.Records.{StatedTable, serials_of, stated_table}
use Rattle.hook_law.specs.Standing.{Head}
use Rattle.hook_law.specs.Keeping.{Keeps}
use Rattle.store_history.proofs.Lists.{some_is}
use Rattle.hook_law.proofs.Points.{tells_all}
use Rattle.miniq_pair.specs.Heads.{PlainTable, plain, hook_number, head_root, TellsHead}
use Rattle.hook_meaning.specs.Stated.{TableNames, table_stated, tables_at, hook_meaning}
use Rattle.hook_meaning.specs.Blocks.{mask_slotted, table_record, hook_codec}
use Rattle.hook_meaning.specs.Told.{plain_table, state_after_edits, heads_after}
use Rattle.hook_meaning.proofs.Reading.{all_mapped}
use Rattle.hook_meaning.proofs.States.{state_is, sound_after}
use Rattle.hook_meaning.proofs.Counting.{few_heads}

hook_there : (hook : Hook) → hook_number hook < places.hooks
hook_there hooks.Ingress = omega arith
hook_there hooks.Egress = omega arith

tables_of_hook : (hook : Hook) (s : State) → tables_at s (hook_number hook) ≡ map table_stated (heads_on hook s)
tables_of_hook hooks.Ingress s = refl
tables_of_hook hooks.Egress s = refl

-- ---- a table by the law's record of it
abbrev plain_of : StatedTable TableNames → PlainTable
plain_of t = record { serial = t.serial; chain = t.names.chain; pref = t.names.pref; protocol = t.names.protocol; masks = t.masks }

serials_are : (masks : List MaskName) → serials_of (map mask_slotted masks) ≡ map (λ (mask : MaskName). mask.serial) masks
serials_are [] = refl
serials_are (mask ∷ masks) = ap (λ (z : List ℕ). mask.serial ∷ z) (serials_are masks)

stored_plain : (tables : List StoredTable) → map plain_of (map stated_table (map table_record tables)) ≡ map plain tables
stored_plain [] = refl
stored_plain (t ∷ ts) = let masks = serials_are t.masks in let rest = stored_plain ts in
    λ i. record { serial = t.serial; chain = t.chain; pref = t.pref; protocol = t.protocol; masks = masks i } ∷ rest i

heads_plain : (heads : List walk.Head) → map plain_of (map table_stated heads) ≡ map plain_table heads
heads_plain [] = refl
heads_plain (head ∷ heads) = ap (λ (z : List PlainTable). plain_table head ∷ z) (heads_plain heads)

plain_are : (hook : Hook) (s : State) (tables : List StoredTable) → map stated_table (map table_record tables) ≡ tables_at s (hook_number hook)
    → map plain tables ≡ map plain_table (heads_on hook s)
plain_are hook s tables e = sym (stored_plain tables) ∙ (ap (map plain_of) (e ∙ tables_of_hook hook s) ∙ heads_plain (heads_on hook s))

pub heads_told : (h : List (Commit Edit)) (b n : ℕ) (hook : Hook) → Keeps hook_meaning hook_codec h b → b ≤ n → n ≤ length h
    → TellsHead (λ k. heads_after h k hook) (root_of (take n h) (head_root hook)) (length (edits_of (take n h)))
heads_told h b n hook kept low high =
    let named = root_of (take n h) (head_root hook) in
    let t = tells_all hook_meaning hook_codec h n (Head (hook_number hook)) named ((kept.present n low high).tells (head_root hook) (Head (hook_number hook)) (hook_there hook, refl)) in
    let first = t.reads named.stamp (le_refl named.stamp) t.early in
    let tables = all_mapped table_record table_in named.chain first.tables first.read in record {
      tables = tables.0;
      read = tables.1;
      early = t.early;
      are = λ k since until. let now = t.reads k since until in let same : now.tables ≡ first.tables = some_is now.tables first.tables (sym now.read ∙ first.read) in
          plain_are hook (state_after_edits h k) tables.0
          (ap (map stated_table) (tables.2 ∙ sym same) ∙ (now.are ∙ ap (λ (s : State). tables_at s (hook_number hook)) (state_is (edits_of h) k)));
    }

pub heads_most : (h : List (Commit Edit)) (b k : ℕ) (hook : Hook) → Keeps hook_meaning hook_codec h b → b ≤ length h → length (heads_after h k hook) ≤ 256
heads_most h b k hook kept low = let s = state_after_edits h k in
    subst (λ n. n ≤ 256) (sym (length-map (heads_on hook s) plain_table)) (few_heads hook s (sound_after h b k kept low))
