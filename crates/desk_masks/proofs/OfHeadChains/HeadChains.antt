-- The chain of a hook's tables in the law's terms.
use Rattle.std.proofs.Common.{◌≡◌, ◌∙◌, ◌⊎◌, inl, inr, ℕ, zero, suc, ◌+◌, ◌*◌, ◌<◌, ◌≤◌, ◌^◌, List, [], ◌∷◌, ◌++◌, length, map, get_or, slice_get, Option, Some, None, refl, sym, ap, subst, arith}
use Rattle.std.specs.Prelude.{All}
use Rattle.std.specs.Option.{option_map}
use Rattle.std.proofs.lemmas.List.{length-map}
use Rattle.tc_base.specs.declared.hook.Hook.{Hook}
use Rattle.tc_base.specs.declared.hook.Hook.TheVariants as hooks
use Rattle.store_history.specs.declared.history.Link.{Link}
use Rattle.store_history.specs.Reads.{in_front, read_all}
use Rattle.visit_room.specs.declared.names.MaskName.{MaskName}
use Rattle.filter_state.specs.States.{State}
use Rattle.block_codec.specs.declared.table.StoredTable.{StoredTable}
use Rattle.block_codec.specs.Blocks.{block, IsLink}
use Rattle.block_codec.specs.Names.{mask_word}
use Rattle.block_codec.specs.Tables.{table_words, IsTableBlock}
use Rattle.block_codec.proofs.Standing.{length_block}
use Rattle.block_codec.specs.OfReadings.Read.{table_in, link_in}
use Rattle.block_codec.proofs.OfReadings.Only.{table_only}
use Rattle.miniq_pair.specs.Heads.{hook_number}
use Rattle.miniq_pair.specs.Pairs.{first_block_of, table_links}
use Rattle.hook_law.specs.Records.{Slotted, TableRecord}
use Rattle.hook_law.specs.Chains.{masks_in, masks_read}
use Rattle.hook_law.specs.Standing.{IsIn, Names}
use Rattle.hook_law.specs.Telling.{ReadsHead}
use Rattle.hook_store_law.specs.Stated.{TableNames, hook_meaning, tables_at}
use Rattle.hook_store_law.specs.Blocks.{hook_codec, mask_slotted, table_record}
use Rattle.root_pool_laws.proofs.Apart.{in_append, in_left, in_right}
use Rattle.desk_masks.specs.OfHeadChains.Chains.{stated_of, FitsTable, IsNamedIn}

-- ---- one block
few_words : (table : StoredTable) → length table.masks ≤ 16 → length (table_words table) ≤ 39
few_words table few = let n = length-map table.masks mask_word in omega arith

abbrev pair : Option ℕ → StoredTable → StoredTable × Option ℕ
pair l it = (it, l)

only_one : (l : Option ℕ) (o : Option StoredTable) (table : StoredTable) (link : Option ℕ) → option_map (pair l) o ≡ Some (pair link table) → o ≡ Some table
only_one l None table link e = absurd (cc e)
only_one l (Some x) table link e = let whole : pair l x ≡ pair link table = cc e in ap (λ (z : StoredTable × Option ℕ). Some z.0) whole

own_table_reads : (table : StoredTable) (link : Option ℕ) → FitsTable table → IsLink link → table_in (block (table_words table) link) ≡ Some table
own_table_reads table link fits is = let words = block (table_words table) link in only_one (link_in words) (table_in words) table link
    ((table_only words (length_block (table_words table) link (few_words table fits.few))).only (table, link)
    (record { storable = fits.storable; serial = fits.serial; protocol = fits.protocol; few = fits.few; link = is; words_are = refl }))

-- ---- all of them
first_fits : (table : StoredTable) (tables : List StoredTable) → All FitsTable (table ∷ tables) → FitsTable table
first_fits table tables all = all 0 table (omega arith)

rest_fits : (table : StoredTable) (tables : List StoredTable) → All FitsTable (table ∷ tables) → All FitsTable tables
rest_fits table tables all = λ k d less. all (suc k) d (omega (arith, less))

links_read : (first : ℕ) (tables : List StoredTable) → All FitsTable tables → first + length tables < 4294967296 → read_all table_in (table_links first tables) ≡ Some tables
links_read first [] all small = refl
links_read first (table ∷ []) all small = ap (λ (o : Option StoredTable). in_front o (Some [])) (own_table_reads table None (first_fits table [] all) tt)
links_read first (table ∷ next ∷ tables) all small =
    ap (λ (o : Option StoredTable). in_front o (read_all table_in (table_links (first + 1) (next ∷ tables)))) (own_table_reads table (Some (first + 1)) (first_fits table (next ∷ tables) all) (omega (arith, small)))
    ∙ ap (in_front (Some table)) (links_read (first + 1) (next ∷ tables) (rest_fits table (next ∷ tables) all) (omega (arith, small)))

-- in the codec's records
module _ {A B : Type 0} (f : A → B) (read : List ℕ → Option A) where
  front_maps : (one : Option A) (rest : Option (List A)) (rest2 : Option (List B)) (xs : List A) → in_front one rest ≡ Some xs → ((zs : List A) → rest ≡ Some zs → rest2 ≡ Some (map f zs)) → in_front (option_map f one) rest2 ≡ Some (map f xs)
  front_maps (Some x) (Some zs) rest2 xs e more = let same : x ∷ zs ≡ xs = cc e in ap (in_front (Some (f x))) (more zs refl) ∙ ap (λ (ws : List A). Some (map f ws)) same
  front_maps (Some x) None rest2 xs e more = absurd (cc e)
  front_maps None rest rest2 xs e more = absurd (cc e)

  all_maps : (chain : List Link) (xs : List A) → read_all read chain ≡ Some xs → read_all (λ (words : List ℕ). option_map f (read words)) chain ≡ Some (map f xs)
  all_maps [] xs e = let none : [] ≡ xs = cc e in ap (λ (zs : List A). Some (map f zs)) none
  all_maps (l ∷ ls) xs e = front_maps (read l.words) (read_all read ls) (read_all (λ (words : List ℕ). option_map f (read words)) ls) xs e (all_maps ls)

pub codec_reads : (first : ℕ) (tables : List StoredTable) → All FitsTable tables → first + length tables < 4294967296 → read_all hook_codec.table (table_links first tables) ≡ Some (map table_record tables)
codec_reads first tables all small = all_maps table_record table_in (table_links first tables) tables (links_read first tables all small)

pub twice : (tables : List StoredTable) → map (λ (t : TableRecord TableNames). record { serial = t.serial; names = t.names; masks = map (λ (x : Slotted). x.serial) t.masks }) (map table_record tables) ≡ map stated_of tables
twice [] = refl
twice (table ∷ tables) = let rest = twice tables in λ t. stated_of table ∷ rest t

pub small_first : (hook : Hook) (place count : ℕ) → place ≤ 1 → count ≤ 256 → first_block_of hook place + count < 4294967296
small_first hooks.Ingress place count p c = omega (arith, p, c)
small_first hooks.Egress place count p c = omega (arith, p, c)

pub head_reads : (hook : Hook) (place : ℕ) (tables : List StoredTable) (s : State) → place ≤ 1 → All FitsTable tables → length tables ≤ 256 → map stated_of tables ≡ tables_at s (hook_number hook)
    → ReadsHead hook_meaning hook_codec (hook_number hook) (table_links (first_block_of hook place) tables) s
head_reads hook place tables s p all few are = record {
  tables = map table_record tables;
  read = codec_reads (first_block_of hook place) tables all (small_first hook place (length tables) p few);
  are = twice tables ∙ are;
}

-- ---- the masks that it names
mapped_at : {A B : Type 0} (f : A → B) (xs : List A) (j : ℕ) (c : B) → slice_get (map f xs) j ≡ Some c → (x : A) × (slice_get xs j ≡ Some x) × (c ≡ f x)
mapped_at f [] j c e = absurd (cc e)
mapped_at f (x ∷ xs) zero c e = let same : f x ≡ c = cc e in (x, refl, sym same)
mapped_at f (x ∷ xs) (suc j) c e = mapped_at f xs j c e

map_at : {A B : Type 0} (f : A → B) (xs : List A) (j : ℕ) (x : A) → slice_get xs j ≡ Some x → slice_get (map f xs) j ≡ Some (f x)
map_at f [] j x e = absurd (cc e)
map_at f (y ∷ xs) zero x e = let same : y ≡ x = cc e in ap (λ z. Some (f z)) same
map_at f (y ∷ xs) (suc j) x e = map_at f xs j x e

abbrev slotted : ℕ → ℕ → Slotted
slotted m slot = record { serial = m; slot = slot }

named_in : (tables : List StoredTable) (m slot : ℕ) → IsIn (slotted m slot) (masks_in (map table_record tables)) → IsNamedIn tables m slot
named_in [] m slot i = let e = i.1 in absurd (cc e)
named_in (table ∷ tables) m slot i = on (in_append (map mask_slotted table.masks) (masks_in (map table_record tables)) (slotted m slot) i) (named_in tables m slot)
  where
    on : IsIn (slotted m slot) (map mask_slotted table.masks) ⊎ IsIn (slotted m slot) (masks_in (map table_record tables)) → (IsIn (slotted m slot) (masks_in (map table_record tables)) → IsNamedIn tables m slot)
        → IsNamedIn (table ∷ tables) m slot
    on (inl h) more = let x = mapped_at mask_slotted table.masks h.0 (slotted m slot) h.1 in record {
      place = 0;
      among = h.0;
      table = table;
      name = x.0;
      there = refl;
      has = x.1;
      serial_is = sym (ap (λ (z : Slotted). z.serial) x.2);
      slot_is = sym (ap (λ (z : Slotted). z.slot) x.2);
    }
    on (inr h) more = let r = more h in record { place = suc r.place; among = r.among; table = r.table; name = r.name; there = r.there; has = r.has; serial_is = r.serial_is; slot_is = r.slot_is }

masks_have : (tables : List StoredTable) (place among : ℕ) (table : StoredTable) (name : MaskName) → slice_get tables place ≡ Some table → slice_get table.masks among ≡ Some name → IsIn (mask_slotted name) (masks_in (map table_record tables))
masks_have [] place among table name e f = absurd (cc e)
masks_have (t ∷ tables) zero among table name e f = let same : t ≡ table = cc e in
    in_left (map mask_slotted t.masks) (masks_in (map table_record tables)) (mask_slotted name) (among, map_at mask_slotted t.masks among name (subst (λ (z : StoredTable). slice_get z.masks among ≡ Some name) (sym same) f))
masks_have (t ∷ tables) (suc place) among table name e f = in_right (map mask_slotted t.masks) (masks_in (map table_record tables)) (mask_slotted name) (masks_have tables place among table name e f)

pub names_in : (first : ℕ) (tables : List StoredTable) (m slot : ℕ) → All FitsTable tables → first + length tables < 4294967296 → Names hook_codec (table_links first tables) m slot → IsNamedIn tables m slot
names_in first tables m slot all small names = named_in tables m slot (subst (λ (o : Option (List (TableRecord TableNames))). IsIn (slotted m slot) (masks_read o)) (codec_reads first tables all small) names)

pub in_names : (first : ℕ) (tables : List StoredTable) (m slot : ℕ) → All FitsTable tables → first + length tables < 4294967296 → IsNamedIn tables m slot → Names hook_codec (table_links first tables) m slot
in_names first tables m slot all small n = subst (λ (o : Option (List (TableRecord TableNames))). IsIn (slotted m slot) (masks_read o)) (sym (codec_reads first tables all small))
    (subst (λ (x : Slotted). IsIn x (masks_in (map table_record tables))) (λ t. record { serial = n.serial_is t; slot = n.slot_is t }) (masks_have tables n.place n.among n.table n.name n.there n.has))
