-- From the tables that a head names to the answer of the state of the visit's point.
use Rattle.std.proofs.Common.{◌≡◌, ◌∙◌, ℕ, zero, suc, ◌+◌, ◌<◌, ◌≤◌, Bool, true, false, List, [], ◌∷◌, ◌++◌, map, slice_get, slice_index, Option, Some, None, refl, sym, ap, subst, arith}
use Rattle.std.specs.Prelude.{All, slice_range}
use Rattle.std.proofs.Common.{cond}
use Rattle.std.specs.Option.{option_map}
use Rattle.tc_base.specs.declared.hook.Hook.{Hook}
use Rattle.tc_base.specs.declared.hook.Hook.TheVariants as hooks
use Rattle.store_history.specs.declared.history.Link.{Link}
use Rattle.store_history.specs.declared.history.Commit.{Commit}
use Rattle.store_history.specs.History.{root_of, edits_of}
use Rattle.store_history.specs.Reads.{in_front, read_all}
use Rattle.visit_room.specs.declared.names.MaskName.{MaskName}
use Rattle.visit_room.specs.declared.table_head.TableHead.{TableHead}
use Rattle.filter_state.specs.declared.edit.Edit.{Edit}
use Rattle.filter_state.specs.Sound.{Each}
use Rattle.walk_rules.specs.Questions.{Head, heads_of, told_heads}
use Rattle.walk_rules.specs.Heads.{heads_on}
use Rattle.walk_rules.specs.Answers.{answer_of}
use Rattle.walk_steps.specs.Told.{heads_told, MasksKnown}
use Rattle.block_codec.specs.declared.table.StoredTable.{StoredTable}
use Rattle.block_codec.specs.Names.{mask_in, IsMaskName}
use Rattle.block_codec.specs.Reading.{table_read}
use Rattle.block_codec.specs.OfReadings.Read.{is_table, table_in}
use Rattle.block_codec.proofs.OfReadings.Testing.{table_has}
use Rattle.miniq_pair.specs.Heads.{PlainTable, plain, told_of, hook_number, head_root, HeadTold, TellsHead}
use Rattle.hook_law.specs.Places as places
use Rattle.hook_law.specs.Records.{Slotted}
use Rattle.hook_law.specs.Chains.{masks_in, masks_read}
use Rattle.hook_law.specs.Chains as chains
use Rattle.hook_law.specs.Meaning.{point_of}
use Rattle.hook_law.specs.Standing.{IsIn}
use Rattle.hook_law.specs.Keeping.{Keeps}
use Rattle.hook_meaning.specs.Stated.{hook_meaning}
use Rattle.hook_meaning.proofs.Heading.{heads_told as heads_told_at}
use Rattle.store_history.proofs.Lists.{some_is}
use Rattle.store_history.specs.declared.places.TheConstants.{MASK_SLOTS}
use Rattle.std.proofs.lemmas.List.{take_all}
use Rattle.std.proofs.Common.{le_refl, length}
use Rattle.hook_meaning.specs.Blocks.{mask_slotted, table_record, hook_codec}
use Rattle.hook_meaning.specs.Told.{plain_table, state_after_edits, heads_after, stands_at}

-- ---- the answer
abbrev head_of : PlainTable → Head
head_of t = record { serial = t.serial; chain = t.chain; pref = t.pref; protocol = t.protocol; masks = t.masks }

told_plain : (tables : List StoredTable) → map head_of (map plain tables) ≡ heads_told (map told_of tables)
told_plain [] = refl
told_plain (t ∷ ts) = ap (λ (z : List Head). head_of (plain t) ∷ z) (told_plain ts)

heads_plain : (heads : List Head) → map head_of (map plain_table heads) ≡ heads
heads_plain [] = refl
heads_plain (head ∷ heads) = ap (λ (z : List Head). head ∷ z) (heads_plain heads)

module _ (h : List (Commit Edit)) (hook : Hook) (told : List TableHead) (stamp : ℕ) (t : HeadTold (λ k. heads_after h k hook) h hook told stamp) where
  pub head_answered : (point : ℕ) → stamp ≤ point → point ≤ point_of h → answer_of (state_after_edits h point) (heads_of hook) ≡ Some (told_heads (heads_told told))
  head_answered point low high = ap (λ (z : List Head). Some (told_heads z))
      (sym (heads_plain (heads_on hook (state_after_edits h point))) ∙ (sym (ap (map head_of) (t.are point low high)) ∙ (told_plain t.tables ∙ sym (ap heads_told t.told_are))))

-- ---- the masks
hook_small : (hook : Hook) → hook_number hook < places.hooks
hook_small hooks.Ingress = omega arith
hook_small hooks.Egress = omega arith

-- the slots of the tables that are read are within the store
abbrev SmallSlot : MaskName → Type 0
SmallSlot m = m.slot < MASK_SLOTS

abbrev SmallSlots : StoredTable → Type 0
SmallSlots table = Each SmallSlot table.masks

words_small : (words : List ℕ) → All (λ word. IsMaskName (mask_in word)) words → Each SmallSlot (map mask_in words)
words_small [] all = tt
words_small (w ∷ ws) all = (let is = all 0 w (omega arith) in is.slot, words_small ws (λ k d less. all (suc k) d (omega (arith, less))))

table_small : (words : List ℕ) (table : StoredTable) → table_in words ≡ Some table → SmallSlots table
table_small words table e = pick (is_table words) refl e
  where
    pick : (t : Bool) → is_table words ≡ t → cond t (Some (table_read words)) None ≡ Some table → SmallSlots table
    pick true is e = let same : table_read words ≡ table = cc e in let has = table_has words is in
        subst SmallSlots same (words_small (slice_range words 4 (4 + slice_index words 3)) has.masks)
    pick false is e = absurd (cc e)

tables_small : (chain : List Link) (tables : List StoredTable) → read_all table_in chain ≡ Some tables → Each SmallSlots tables
tables_small [] tables e = let none : [] ≡ tables = cc e in subst (Each SmallSlots) none tt
tables_small (l ∷ ls) tables e = pick (table_in l.words) (read_all table_in ls) refl (tables_small ls) e
  where
    pick : (o : Option StoredTable) (os : Option (List StoredTable)) → table_in l.words ≡ o → ((xs : List StoredTable) → os ≡ Some xs → Each SmallSlots xs) → in_front o os ≡ Some tables → Each SmallSlots tables
    pick (Some x) (Some xs) one rest e = let same : x ∷ xs ≡ tables = cc e in subst (Each SmallSlots) same (table_small l.words x one, rest xs refl)
    pick (Some x) None one rest e = absurd (cc e)
    pick None os one rest e = absurd (cc e)

-- what blocks read as, in the records of the law
codec_front : (o : Option StoredTable) (os : Option (List StoredTable)) → in_front (option_map table_record o) (option_map (map table_record) os) ≡ option_map (map table_record) (in_front o os)
codec_front (Some x) (Some xs) = refl
codec_front (Some x) None = refl
codec_front None os = refl

codec_reads : (chain : List Link) → read_all hook_codec.table chain ≡ option_map (map table_record) (read_all table_in chain)
codec_reads [] = refl
codec_reads (l ∷ ls) = ap (in_front (option_map table_record (table_in l.words))) (codec_reads ls) ∙ codec_front (table_in l.words) (read_all table_in ls)

-- places of lists put together
in_front_part : (xs ys : List Slotted) (x : Slotted) → IsIn x xs → IsIn x (xs ++ ys)
in_front_part xs ys x i = (i.0, at xs i.0 i.1)
  where
    at : (zs : List Slotted) (place : ℕ) → slice_get zs place ≡ Some x → slice_get (zs ++ ys) place ≡ Some x
    at [] place e = absurd (cc e)
    at (z ∷ zs) zero e = e
    at (z ∷ zs) (suc place) e = at zs place e

in_back_part : (xs ys : List Slotted) (x : Slotted) → IsIn x ys → IsIn x (xs ++ ys)
in_back_part [] ys x i = i
in_back_part (z ∷ xs) ys x i = let r = in_back_part xs ys x i in (suc r.0, r.1)

module _ (h : List (Commit Edit)) (hook : Hook) (named : List Slotted) (is : chains.masks_of hook_codec (root_of h (head_root hook)).chain ≡ named) where
  abbrev Stands : ℕ → MaskName → Type 0
  Stands table mask = stands_at h mask.slot mask.serial

  masks_stand : (table : ℕ) (masks : List MaskName) → ((x : Slotted) → IsIn x (map mask_slotted masks) → IsIn x named) → Each SmallSlot masks → Each (Stands table) masks
  masks_stand table [] within small = tt
  masks_stand table (m ∷ ms) within small = (
    record {
      hook = hook_number hook;
      one = hook_small hook;
      small = small.0;
      there = subst (IsIn (mask_slotted m)) (sym is) (within (mask_slotted m) (0, refl));
    },
    masks_stand table ms (λ x i. within x (suc i.0, i.1)) small.1,
  )

  tables_stand : (tables : List StoredTable) → ((x : Slotted) → IsIn x (masks_in (map table_record tables)) → IsIn x named) → Each SmallSlots tables → MasksKnown Stands (map told_of tables)
  tables_stand [] within small = tt
  tables_stand (t ∷ ts) within small = (
    masks_stand t.serial t.masks (λ x i. within x (in_front_part (map mask_slotted t.masks) (masks_in (map table_record ts)) x i)) small.0,
    tables_stand ts (λ x i. within x (in_back_part (map mask_slotted t.masks) (masks_in (map table_record ts)) x i)) small.1,
  )

pub head_masks : (h : List (Commit Edit)) (hook : Hook) (told : List TableHead) (stamp : ℕ) → HeadTold (λ k. heads_after h k hook) h hook told stamp
    → MasksKnown (λ table mask. stands_at h mask.slot mask.serial) told
head_masks h hook told stamp t =
    let chain = (root_of h (head_root hook)).chain in
    let read : chains.masks_of hook_codec chain ≡ masks_in (map table_record t.tables) =
    ap masks_read (codec_reads chain ∙ ap (option_map (map table_record)) t.read) in
    subst (MasksKnown (λ table mask. stands_at h mask.slot mask.serial)) (sym t.told_are)
    (tables_stand h hook (masks_in (map table_record t.tables)) read t.tables (λ x i. i) (tables_small chain t.tables t.read))

-- ---- tables that were read before
pub kept_told : (h : List (Commit Edit)) (b : ℕ) (hook : Hook) (tables : List StoredTable) → Keeps hook_meaning hook_codec h b → b ≤ length h → read_all table_in (root_of h (head_root hook)).chain ≡ Some tables
    → HeadTold (λ k. heads_after h k hook) h hook (map told_of tables) (root_of h (head_root hook)).stamp
kept_told h b hook tables keeps low read =
    let whole = take_all (length h) h (le_refl (length h)) in
    let t : TellsHead (λ k. heads_after h k hook) (root_of h (head_root hook)) (length (edits_of h)) =
    subst (λ (g : List (Commit Edit)). TellsHead (λ k. heads_after h k hook) (root_of g (head_root hook)) (length (edits_of g))) whole (heads_told_at h b (length h) hook keeps low (le_refl (length h))) in
    let same : t.tables ≡ tables = some_is t.tables tables (sym t.read ∙ read) in record {
      tables = tables;
      read = read;
      told_are = refl;
      early = t.early;
      are = λ k since until. ap (map plain) (sym same) ∙ t.are k since until;
    }
