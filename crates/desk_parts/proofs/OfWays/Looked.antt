-- What is looked up of a desk is the state's: counts, masks, and filters behind another.
use Rattle.std.proofs.Common.{◌≡◌, ◌≢◌, not, ℕ, ◌≤◌, ◌%◌, ◌==◌, ◌&&◌, Bool, true, false, List, [], ◌∷◌, map, length, Option, Some, None, refl, sym, ◌∙◌, ap, subst, arith, length-append, eqb-true}
use Rattle.std.specs.Prelude.{if◌then◌else◌, IfSome, IsSome}
use Rattle.std.specs.Option.{unwrap_or}
use Rattle.std.specs.Str.{bytes_eq}
use Rattle.std.proofs.lemmas.Bool.{and_parts, false≢true}
use Rattle.std.proofs.lemmas.List.{length-map, map-append}
use Rattle.tc_base.specs.declared.hook.Hook.{Hook}
use Rattle.store_history.specs.declared.history.Commit.{Commit}
use Rattle.store_history.specs.History.{root_of, edits_of}
use Rattle.pin_store.specs.declared.shape.Shape.{Shape}
use Rattle.flow_mask.specs.Hashes.{hash_of}
use Rattle.flow_mask.specs.Sizes.{size_of}
use Rattle.filter_state.specs.declared.edit.Edit.{Edit}
use Rattle.filter_state.specs.declared.edit.FilterLine.{FilterLine}
use Rattle.filter_state.specs.States.{Row, State}
use Rattle.filter_state.specs.Sound.{Sound, IsRow}
use Rattle.filter_state.specs.Tables.{filter_row, in_table, has_handle}
use Rattle.filter_state.specs.Order.{of_mask}
use Rattle.filter_state.proofs.Free.{length_filter_le}
use Rattle.filter_state.proofs.Pairs.{found}
use Rattle.state_laws.proofs.Tests.{row_in_table, bytes_eq_from}
use Rattle.hook_store_law.specs.OfEffects.Parts.{Filter, filter_of, filters_of}
use Rattle.mask_table.specs.declared.mirrors.mirror.KeptMask.{KeptMask}
use Rattle.store_history.specs.Reads.{read_first}
use Rattle.block_codec.specs.OfReadings.Read.{mask_of_words}
use Rattle.mask_table.specs.Buckets.{mask_root}
use Rattle.mask_writer.specs.Masks.{Masks}
use Rattle.mask_writer.specs.Standing.{StandsAt}
use Rattle.mask_writer.proofs.Standing as writer
use Rattle.hook_law.specs.Chains.{bucket_of}
use Rattle.hook_law.specs.Meaning.{point_of}
use Rattle.hook_law.specs.Records.{StatedFilter}
use Rattle.hook_law.specs.Standing.{IsMaskAt}
use Rattle.hook_law.specs.Keeping.{IsAtRest}
use Rattle.hook_store_law.specs.Stated.{hook_meaning, filter_stated, filters_at}
use Rattle.hook_store_law.specs.Blocks.{mask_record, hook_codec}
use Rattle.hook_store_law.proofs.Reading.{first_maps}
use Rattle.hook_store_law.proofs.States.{state_is, sound_after}
use Rattle.hook_store_law.specs.OfEdits.Premises.{now, named_row}
use Rattle.hook_store_law.proofs.OfEdits.OneHandle.{only_filter, around}
use Rattle.desk_masks.specs.OfFilterCommits.Edits.{HasLater}
use Rattle.desk_masks.proofs.OfFilterCommits.Locating.{at_slot}
use Rattle.desk_needs.specs.Live.{count_of}
use Rattle.desk_needs.proofs.OfEditNeeds.Counted.{counted}
use Rattle.desk_actions.specs.OfLedgers.Kept.{commits, base}
use Rattle.desk_masks.specs.Masks.{HasMasks}
use Rattle.desk_parts.specs.declared.finding.masks.FoundMask.{FoundMask}
use Rattle.desk_parts.specs.OfFinding.Found.{IsStanding, IsMaskOf}
use Rattle.desk_parts.specs.declared.parts.Parts.{Parts}
use Rattle.desk_parts.specs.Desk.{hook_shape, cells, IsDesk}
use Rattle.desk_parts.specs.OfWays.Ways.{IsMaskWith, HasBehind, IsThere}

-- the filter that a line names, where it has pref and handle
pub named_from : (s : State) (line : FilterLine) (pref handle : ℕ) → line.pref ≡ Some pref → line.handle ≡ Some handle → named_row s line ≡ filter_row line.hook line.chain pref handle s.rows
named_from s line pref handle p h = ap (λ o. filter_row line.hook line.chain (unwrap_or o 0) (unwrap_or line.handle 0) s.rows) p ∙ ap (λ o. filter_row line.hook line.chain pref (unwrap_or o 0) s.rows) h

pub at_pref : (s : State) (hook : Hook) (chain pref handle : ℕ) (row : Row) → Sound s → filter_row hook chain pref handle s.rows ≡ Some row → row.pref ≡ pref
at_pref s hook chain pref handle row sound is =
    let test = (found (IsRow s) (λ x. in_table hook chain pref x && has_handle handle x) s.rows row sound.rows is).1 in
    (row_in_table hook chain pref row (and_parts (in_table hook chain pref row) (has_handle handle row) test).0).2

-- a filter is between those before it and those behind it in its mask
has_later : (s : State) (row : Row) (hook : Hook) (chain pref handle size : ℕ) → Sound s → filter_row hook chain pref handle s.rows ≡ Some row → (count : ℕ) × HasLater size row.handle (filters_at s row.mask_serial) count
has_later s row hook chain pref handle size sound is =
    let f : Filter = filter_of row in
    let a = around row.handle [] (filters_of s row.mask_serial) f (only_filter s _ row sound is) in (
      _,
      record {
        earlier = map filter_stated a.earlier;
        filter = filter_stated f;
        later = map filter_stated a.later;
        whole = ap (map filter_stated) a.whole ∙ map-append filter_stated a.earlier (f ∷ a.later);
        named = refl;
        count_is = refl;
      },
    )

-- a mask that is kept at a slot has the size for its filters
module _ (h : List (Commit Edit)) (masks : Masks) (shape : Shape) (cells : List ℕ) (has : HasMasks masks shape cells h) (slot : ℕ) (kept : KeptMask) (stands : StandsAt masks slot kept) where
  reads : read_first mask_of_words (root_of h (mask_root slot)).chain ≡ Some kept.mask
  reads = writer.record_read masks shape cells (root_of h) has.named slot kept stands

  kept_size : IsAtRest hook_meaning hook_codec h → kept.mask.size ≡ size_of (length (filters_at (now h) kept.mask.serial))
  kept_size rest = rest kept.mask.serial slot (mask_record kept.mask) (at_slot h masks shape cells has slot kept stands) (first_maps mask_record mask_of_words (root_of h (mask_root slot)).chain kept.mask reads)

bucket_less : (size k : ℕ) (fs : List StatedFilter) → length (bucket_of hash_of size k fs) ≤ length fs
bucket_less size k [] = omega arith
bucket_less size k (f ∷ fs) =
    let rest = bucket_less size k fs in
    let long = length-append (bucket_of hash_of size k fs) (if hash_of f.key % size == k then f ∷ [] else []) in
    let one = one_at_most (hash_of f.key % size == k) in
    omega (arith, rest, long, one)
  where
    one_at_most : (b : Bool) → length {A = StatedFilter} (if b then f ∷ [] else []) ≤ 1
    one_at_most true = omega arith
    one_at_most false = omega arith

module _ (parts : Parts) (d : IsDesk parts) where
  abbrev h : List (Commit Edit)
  h = commits parts.ledger

  abbrev s : State
  s = now h

  pub sound : Sound s
  sound = subst Sound (sym (state_is (edits_of h) (point_of h))) (sound_after h (base parts.ledger) (point_of h) d.whole.kept.keeps.law d.whole.kept.low)

  counts : (mask : ℕ) → length (filters_at s mask) ≡ count_of s mask
  counts mask = length-map (filters_of s mask) filter_stated ∙ sym (counted s mask)

  pub count_few : (mask : ℕ) → count_of s mask ≤ 4096
  count_few mask = let most = sound.filters in let less = length_filter_le (of_mask mask) s.rows in omega (arith, most, less)

  pub mask_with : (serial : ℕ) (mask : FoundMask) → IsStanding h serial mask → IsMaskWith h serial mask.slot mask.count
  mask_with serial mask is = record { at = is.at; counted = is.count ∙ counts serial }

  pub mask_few : (serial : ℕ) (mask : FoundMask) → IsStanding h serial mask → mask.count ≤ 4096
  mask_few serial mask is = let same = is.count ∙ counts serial in let few = count_few serial in omega (arith, same, few)

  pub named : (row : Row) (handle : ℕ) → IsThere h row handle → row.handle ≡ handle
  named row handle is =
      let test = (found (IsRow s) (λ x. in_table is.hook is.chain is.pref x && has_handle handle x) s.rows row (let all = sound in all.rows) is.found).1 in
      eqb-true row.handle handle (and_parts (in_table is.hook is.chain is.pref row) (has_handle handle row) test).1

  -- a mask that has a filter has one at least
  pub has_one : (row : Row) (hook : Hook) (chain pref handle : ℕ) → filter_row hook chain pref handle s.rows ≡ Some row → 1 ≤ count_of s row.mask_serial
  has_one row hook chain pref handle is =
      let l = (has_later s row hook chain pref handle 16 sound is).1 in
      let long = sym (counts row.mask_serial) ∙ ap length l.whole ∙ length-append l.earlier (l.filter ∷ l.later) in omega (arith, long)

  -- the mask that is kept at a slot has the size for its filters
  module _ (slot serial : ℕ) (at : IsMaskAt hook_codec h serial slot) where
    abbrev pub kept : KeptMask
    kept = (d.masks.has serial slot at).kept

    abbrev pub stands : StandsAt parts.masks slot kept
    stands = (d.masks.has serial slot at).stands

    own : kept.mask.serial ≡ serial
    own = (d.masks.has serial slot at).serial

    pub fits : kept.mask.size ≡ size_of (count_of s serial)
    fits = kept_size h parts.masks hook_shape (cells parts.ledger) d.masks slot kept stands d.whole.rest ∙ ap size_of (ap (λ m. length (filters_at s m)) own ∙ counts serial)

    pub there : (row : Row) (handle : ℕ) → IsThere h row handle → row.mask_serial ≡ serial → (count : ℕ) × HasLater kept.mask.size handle (filters_at s kept.mask.serial) count
    there row handle is same =
        let l = has_later s row is.hook is.chain is.pref handle kept.mask.size sound is.found in
        (l.0, subst (λ m. HasLater kept.mask.size handle (filters_at s m) l.0) (same ∙ sym own) (subst (λ n. HasLater kept.mask.size n (filters_at s row.mask_serial) l.0) (named row handle is) l.1))

    pub behind : (row : Row) (handle count : ℕ) → IsThere h row handle → row.mask_serial ≡ serial → HasLater kept.mask.size handle (filters_at s kept.mask.serial) count → HasBehind h row count
    behind row handle count is same l =
        subst (λ m. HasLater (size_of (count_of s m)) row.handle (filters_at s m) count) (sym same)
        (subst (λ n. HasLater (size_of (count_of s serial)) n (filters_at s serial) count) (sym (named row handle is))
        (subst (λ m. HasLater (size_of (count_of s serial)) handle (filters_at s m) count) own (subst (λ n. HasLater n handle (filters_at s kept.mask.serial) count) fits l)))

    -- a bucket has no more filters than its mask
    pub few : (handle count : ℕ) → HasLater kept.mask.size handle (filters_at s kept.mask.serial) count → count ≤ 4096
    few handle count l =
        let some = l.count_is in
        let less = bucket_less kept.mask.size (hash_of l.filter.key % kept.mask.size) l.later in
        let long = ap length l.whole ∙ length-append l.earlier (l.filter ∷ l.later) in
        let all = counts kept.mask.serial in
        let most = count_few kept.mask.serial in
        omega (arith, some, less, long, all, most)

  pub few_of : (hook : Hook) (chain pref : ℕ) (words : List ℕ) (o : Option FoundMask) → IfSome o (IsMaskOf h hook chain pref words) → IfSome o (λ mask. mask.count ≤ 4096)
  few_of hook chain pref words None is = tt
  few_of hook chain pref words (Some mask) is = mask_few is.row.mask_serial mask is.stands

-- ---- tests
pub is_not : (b : Bool) → not b ≡ false → b ≡ true
is_not true e = refl
is_not false e = absurd (cc e)

pub is_so : (b : Bool) → not b ≡ true → b ≡ false
is_so true e = absurd (cc e)
is_so false e = refl

pub differ : (a b : List ℕ) → bytes_eq a b ≡ false → a ≢ b
differ a b e same = false≢true (sym e ∙ bytes_eq_from a b same)

pub no_some : (o : Option ℕ) → o ≡ None → IsSome o → ⊥
no_some None e some = absurd (false≢true some)
no_some (Some n) e some = cc e
