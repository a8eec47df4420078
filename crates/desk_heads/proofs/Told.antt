-- Tables are told one after the other, with the slots of their masks.
use Rattle.std.proofs.Common.{◌≡◌, ◌∙◌, ◌⊎◌, inl, inr, ℕ, zero, suc, ◌+◌, ◌≤◌, List, [], ◌∷◌, ◌++◌, length, map, take, slice_get, Some, refl, sym, ap, subst, arith}
use Rattle.std.specs.Prelude.{All}
use Rattle.std.proofs.lemmas.List.{length-map, map-append, length-take-le}
use Rattle.std.proofs.lemmas.Option.{same_Some}
use Rattle.tc_base.specs.declared.hook.Hook.{Hook}
use Rattle.visit_room.specs.declared.names.MaskName.{MaskName}
use Rattle.filter_tables.specs.declared.filter_table.FilterTable.{FilterTable}
use Rattle.filter_tables.specs.declared.mask_list.MaskList.{MaskList}
use Rattle.filter_tables.specs.Plain.{PlainMask, PlainTable}
use Rattle.filter_tables.specs.Places.{item_at}
use Rattle.filter_tables.specs.Rows.{tables_on}
use Rattle.filter_tables.specs.Seen.{plain_table}
use Rattle.filter_tables.specs.SeenMask.{plain_mask}
use Rattle.hook_lists.specs.declared.kept.Kept.{Kept}
use Rattle.hook_lists.specs.States.{both_of, AreKept}
use Rattle.row_laws.proofs.OfLookups.Tables.{count_found}
use Rattle.row_laws.proofs.OfLookups.Masks.{masks_counted}
use Rattle.block_codec.specs.declared.table.StoredTable.{StoredTable}
use Rattle.head_laws.specs.Heads.{head_of, serials_of}
use Rattle.hook_law.specs.Records.{Slotted, StatedTable}
use Rattle.hook_store_law.specs.Blocks.{mask_slotted}
use Rattle.hook_store_law.specs.Stated.{TableNames, table_stated}
use Rattle.desk_masks.specs.OfHeadChains.Chains.{stated_of, IsNamedIn}
use Rattle.desk_heads.specs.OfHeadCommits.Built.{IsBuilt}
use Rattle.desk_heads.specs.OfHeadCommits.Listed.{HasSerial}
use Rattle.desk_heads.proofs.OfHeadCommits.Places.{map_at}
use Rattle.desk_heads.specs.Slots.{HasSlotIn, AreInSlots}

-- ---- one more at the end
pub all_more : {X : Type 0} (P : X → Type 0) (xs : List X) (x : X) → All P xs → P x → All P (xs ++ x ∷ [])
all_more P [] x all p zero d less = p
all_more P [] x all p (suc k) d less = absurd (omega (arith, less))
all_more P (z ∷ zs) x all p zero d less = all 0 d (omega arith)
all_more P (z ∷ zs) x all p (suc k) d less = all_more P zs x (λ j e l. all (suc j) e (omega (arith, l))) p k d (omega (arith, less))

last_or : {A : Type 0} (xs : List A) (x : A) (j : ℕ) (c : A) → slice_get (xs ++ x ∷ []) j ≡ Some c → (slice_get xs j ≡ Some c) ⊎ (x ≡ c)
last_or [] x zero c e = inr (same_Some x c e)
last_or [] x (suc j) c e = absurd (cc e)
last_or (z ∷ zs) x zero c e = inl e
last_or (z ∷ zs) x (suc j) c e = last_or zs x j c e

pub slots_more : (old : List StoredTable) (built names : List MaskName) (name : MaskName) → AreInSlots old built names → HasSlotIn old built name.serial name.slot → AreInSlots old built (names ++ name ∷ [])
slots_more old built names name all own place n e = pick (last_or names name place n e)
  where
    pick : (slice_get names place ≡ Some n) ⊎ (name ≡ n) → HasSlotIn old built n.serial n.slot
    pick (inl at) = all place n at
    pick (inr same) = subst (λ (z : MaskName). HasSlotIn old built z.serial z.slot) same own

-- a mask that wasn't built has the slot of the old tables
pub old_there : (old : List StoredTable) (built : List MaskName) (m : ℕ) → ((slot : ℕ) × HasSlotIn old built m slot) → ((slot : ℕ) → IsBuilt built m slot → ⊥) → (slot : ℕ) × IsNamedIn old m slot
old_there old built m known none = pick known.0 known.1
  where
    pick : (slot : ℕ) → HasSlotIn old built m slot → (at : ℕ) × IsNamedIn old m at
    pick slot (inl x) = absurd (none slot x)
    pick slot (inr x) = (slot, x.0)

-- ---- the masks of a table
abbrev pub serial_in : MaskName → ℕ
serial_in name = name.serial

pub serials_more : (masks : List MaskList) (n : ℕ) (m : MaskList) (names : List MaskName) (name : MaskName) → take (n + 1) masks ≡ take n masks ++ m ∷ [] → name.serial ≡ m.serial
    → map serial_in names ≡ serials_of (map plain_mask (take n masks)) → map serial_in (names ++ name ∷ []) ≡ serials_of (map plain_mask (take (n + 1) masks))
serials_more masks n m names name more same so_far =
    map-append serial_in names (name ∷ [])
    ∙ ((λ t. so_far t ++ same t ∷ [])
    ∙ sym (ap (λ (ms : List MaskList). serials_of (map plain_mask ms)) more ∙ (ap serials_of (map-append plain_mask (take n masks) (m ∷ [])) ∙ map-append (λ (mask : PlainMask). mask.serial) (map plain_mask (take n masks)) (plain_mask m ∷ []))))

pub names_count : (masks : List MaskList) (n : ℕ) (names : List MaskName) → n ≤ length masks → map serial_in names ≡ serials_of (map plain_mask (take n masks)) → length names ≡ n
names_count masks n names within so_far = sym (length-map names serial_in) ∙ (ap length so_far ∙ (length-map (map plain_mask (take n masks)) (λ (mask : PlainMask). mask.serial) ∙ (length-map (take n masks) plain_mask ∙ length-take-le n masks within)))

pub serials_slotted : (names : List MaskName) → map (λ (x : Slotted). x.serial) (map mask_slotted names) ≡ map serial_in names
serials_slotted [] = refl
serials_slotted (n ∷ ns) = ap (λ (l : List ℕ). n.serial ∷ l) (serials_slotted ns)

pub mask_serial_at : (masks : List MaskList) (n : ℕ) (m : MaskList) → slice_get masks n ≡ Some m → slice_get (serials_of (map plain_mask masks)) n ≡ Some m.serial
mask_serial_at masks n m at = map_at (λ (mask : PlainMask). mask.serial) (map plain_mask masks) n (plain_mask m) (map_at plain_mask masks n m at)

-- ---- how many there are
few_tables : (kept : Kept) (hook : Hook) → AreKept kept → length (tables_on hook (both_of kept)) ≤ 256
few_tables kept hook is = let sound = is.sound in subst (λ n. n ≤ 256) (count_found (both_of kept) hook is.whole sound.together) (sound.tables hook)

few_masks : (kept : Kept) (hook : Hook) (place : ℕ) (t : PlainTable) → AreKept kept → item_at (tables_on hook (both_of kept)) place ≡ Some t → length t.masks ≤ 16
few_masks kept hook place t is there = let sound = is.sound in subst (λ n. n ≤ 16) (masks_counted (both_of kept) hook place t is.whole there) (sound.masks hook t.chain t.pref)

item_seen : (tables : List FilterTable) (place : ℕ) (t : FilterTable) → slice_get tables place ≡ Some t → item_at (map plain_table tables) place ≡ Some (plain_table t)
item_seen [] place t at = absurd (cc at)
item_seen (x ∷ xs) zero t at = ap (λ (z : FilterTable). Some (plain_table z)) (same_Some x t at)
item_seen (x ∷ xs) (suc place) t at = item_seen xs place t at

pub tables_fit : (kept : Kept) (hook : Hook) (tables : List FilterTable) → AreKept kept → map plain_table tables ≡ tables_on hook (both_of kept) → length tables ≤ 256
tables_fit kept hook tables is seen = let few = few_tables kept hook is in let count = length-map tables plain_table in let same = ap length seen in omega (arith, few, count, same)

pub masks_fit : (kept : Kept) (hook : Hook) (tables : List FilterTable) (place : ℕ) (t : FilterTable) → AreKept kept → map plain_table tables ≡ tables_on hook (both_of kept)
    → slice_get tables place ≡ Some t → length t.masks.masks ≤ 16
masks_fit kept hook tables place t is seen at = few_masks kept hook place (plain_table t) is (ap (λ (ts : List PlainTable). item_at ts place) (sym seen) ∙ item_seen tables place t at)

-- ---- the tables of a hook
abbrev pub told : List FilterTable → List (StatedTable TableNames)
told tables = map table_stated (map head_of (map plain_table tables))

told_append : (xs ys : List FilterTable) → told (xs ++ ys) ≡ told xs ++ told ys
told_append xs ys = ap (λ (ps : List PlainTable). map table_stated (map head_of ps)) (map-append plain_table xs ys)
    ∙ (ap (map table_stated) (map-append head_of (map plain_table xs) (map plain_table ys)) ∙ map-append table_stated (map head_of (map plain_table xs)) (map head_of (map plain_table ys)))

pub told_more : (tables : List FilterTable) (n : ℕ) (t : FilterTable) (into : List StoredTable) (s : StoredTable) → take (n + 1) tables ≡ take n tables ++ t ∷ [] → stated_of s ≡ table_stated (head_of (plain_table t))
    → map stated_of into ≡ told (take n tables) → map stated_of (into ++ s ∷ []) ≡ told (take (n + 1) tables)
told_more tables n t into s more same so_far = map-append stated_of into (s ∷ []) ∙ ((λ i. so_far i ++ same i ∷ []) ∙ sym (ap told more ∙ told_append (take n tables) (t ∷ [])))

pub told_count : (tables : List FilterTable) (n : ℕ) (into : List StoredTable) → n ≤ length tables → map stated_of into ≡ told (take n tables) → length into ≡ n
told_count tables n into within so_far = sym (length-map into stated_of) ∙ (ap length so_far ∙ (length-map (map head_of (map plain_table (take n tables))) table_stated
    ∙ (length-map (map plain_table (take n tables)) head_of ∙ (length-map (take n tables) plain_table ∙ length-take-le n tables within))))

-- a mask of a table of the lists is among the tables that are told
pub mask_told : (kept : Kept) (hook : Hook) (tables : List FilterTable) (place among serial : ℕ) (t : FilterTable) → map plain_table tables ≡ tables_on hook (both_of kept) → slice_get tables place ≡ Some t
    → slice_get (serials_of t.masks.masks) among ≡ Some serial → HasSerial (map table_stated (map head_of (tables_on hook (both_of kept)))) serial
mask_told kept hook tables place among serial t seen at has = subst (λ (ps : List PlainTable). HasSerial (map table_stated (map head_of ps)) serial) seen (record {
  place = place;
  among = among;
  table = table_stated (head_of (plain_table t));
  there = map_at table_stated (map head_of (map plain_table tables)) place (head_of (plain_table t)) (map_at head_of (map plain_table tables) place (plain_table t) (map_at plain_table tables place t at));
  has = has;
})
