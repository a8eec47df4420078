-- A filter that an edit adds to a mask that stands.
use Rattle.std.proofs.Common.{◌≡◌, ◌≢◌, ◌∙◌, inl, inr, ℕ, zero, suc, ◌+◌, ◌<◌, ◌≤◌, List, [], ◌∷◌, ◌++◌, length, map, Some, refl, sym, ap, subst, arith}
use Rattle.std.specs.Option.{option_map}
use Rattle.std.proofs.lemmas.List.{map-append}
use Rattle.store_history.specs.declared.history.Commit.{Commit}
use Rattle.store_history.specs.declared.history.Link.{Link}
use Rattle.store_history.specs.History.{root_of, first_block}
use Rattle.pin_store.specs.declared.shape.Shape.{Shape}
use Rattle.filter_state.specs.declared.edit.Edit.{Edit}
use Rattle.filter_state.specs.declared.refusal.Done.TheVariants as dones
use Rattle.filter_state.specs.States.{State}
use Rattle.filter_state.specs.Sound.{Sound}
use Rattle.block_codec.specs.declared.filter.StoredFilter.{StoredFilter}
use Rattle.block_codec.specs.Blocks.{block}
use Rattle.block_codec.specs.Filters.{filter_words}
use Rattle.mask_table.specs.Buckets.{bucket_for}
use Rattle.mask_table.specs.declared.mirrors.mirror.KeptMask.{KeptMask}
use Rattle.mask_table.specs.OfMirrors.Changing.{root_for, insert_at}
use Rattle.mask_order.proofs.ChainsRead.{own_block_reads}
use Rattle.mask_writer.specs.Masks.{Masks}
use Rattle.mask_writer.specs.Standing.{masks_of, StandsAt, Holds, AreNamed}
use Rattle.hook_law.specs.Records.{stated_filter}
use Rattle.hook_law.specs.Meaning.{point_of}
use Rattle.hook_law.specs.Standing.{Region}
use Rattle.hook_law.specs.Changes.{GainsFilter}
use Rattle.hook_law.specs.Numbered.{RewritesBucket, AddsToBucket}
use Rattle.hook_law.proofs.Splicing.{added_rewrites}
use Rattle.hook_store_law.specs.Stated.{hook_meaning, filters_at}
use Rattle.hook_store_law.specs.Blocks.{filter_record, hook_codec}
use Rattle.hook_store_law.specs.Told.{with_slots}
use Rattle.hook_store_law.specs.Kept.{KeepsHook}
use Rattle.hook_store_law.specs.OfEdits.Premises.{now, next}
use Rattle.hook_store_law.proofs.OfEdits.Accepted.{lawful, sound}
use Rattle.hook_store_law.proofs.OfEdits.OneMask.{gains_after}
use Rattle.root_pool_laws.specs.Blocks.{Spends}
use Rattle.desk_masks.specs.OfMaskResizes.Resized.{stored_now}
use Rattle.desk_masks.specs.Masks.{HasMasks}
use Rattle.desk_masks.specs.OfFilterCommits.Edits.{AddsFilter}
use Rattle.desk_masks.proofs.OfFilterCommits.Slotting.{stored_same, stored_new}
use Rattle.desk_masks.proofs.OfFilterCommits.Locating.{own_serial, holds, home_less, region, row, row_at, link_at}
use Rattle.desk_masks.proofs.OfFilterCommits.Rewriting.{rewrite_law, low_more, now_more, rewrite_masks}

module _ (h : List (Commit Edit)) (b : ℕ) (y : Edit) (slot : ℕ) (filter : StoredFilter) (a : AddsFilter h b y slot filter) (keeps : KeepsHook h b)
    (masks : Masks) (shape : Shape) (cells : List ℕ) (has : HasMasks masks shape cells h) (kept : KeptMask) (stands : StandsAt masks slot kept) (blk number : ℕ) (is : number ≡ point_of h + 1) where
  abbrev serial : ℕ
  serial = kept.mask.serial

  abbrev c : Commit Edit
  c = insert_at h (root_for kept.mask filter) blk filter number y

  abbrev k : ℕ
  k = bucket_for kept.mask.size filter.key.words

  own : serial ≡ a.row.mask_serial
  own = own_serial h masks shape cells has slot kept stands a.row.mask_serial a.at

  low : b ≤ length h
  low = a.accepted.low

  gained : GainsFilter hook_meaning (now h) (next h y) serial (stated_filter (filter_record filter))
  gained = subst (λ (m : ℕ). GainsFilter hook_meaning (now h) (next h y) m (stated_filter (filter_record filter))) (sym own)
      (subst (GainsFilter hook_meaning (now h) (next h y) a.row.mask_serial) (sym a.stored.is) (gains_after h b y a.state a.line a.pref a.handle a.serials a.accepted a.add a.row a.there))

  adds : AddsToBucket hook_meaning hook_codec b h c y
  adds = record {
    region = region h masks shape cells has slot kept stands;
    k = k;
    row = row h masks shape cells has slot kept stands k;
    link = record { block = blk; words = block (filter_words filter) (first_block (root_of h (root_for kept.mask filter)).chain) };
    filter = filter_record filter;
    rest = a.rest;
    at = row_at h masks shape cells has slot kept stands k (home_less h masks shape cells has slot kept stands filter.key.words);
    root = refl;
    carries = record { number = ap (λ (n : ℕ). Some (n, y)) is; stamp = is; lawful = lawful h b y a.state (dones.Filter a.pref a.handle a.serials) a.accepted };
    chain = refl;
    read = ap (option_map filter_record) (own_block_reads filter (first_block (root_of h (root_for kept.mask filter)).chain) a.stored.fit
        (link_at h masks shape cells has slot kept stands k 0 (home_less h masks shape cells has slot kept stands filter.key.words)));
    bucket = refl;
    gains = gained;
    names = a.stored.names;
    made = a.made;
  }

  both : (v : RewritesBucket hook_meaning hook_codec b h c y) × (v.region ≡ region h masks shape cells has slot kept stands)
  unfolding adds
  both = added_rewrites hook_meaning hook_codec h b c y low keeps.law adds

  pub add_rewrites : RewritesBucket hook_meaning hook_codec b h c y
  add_rewrites = both.0

  pub add_region : add_rewrites.region ≡ region h masks shape cells has slot kept stands
  unfolding add_rewrites
  add_region = both.1

  pub add_sound : Sound (now h)
  add_sound = sound h b y a.state (dones.Filter a.pref a.handle a.serials) a.accepted

  -- the filters of the mask afterwards
  pub add_stored : stored_now (h ++ c ∷ []) serial ≡ stored_now h serial ++ filter ∷ []
  add_stored = let more = low_more h b c y low keeps add_rewrites in let law = rewrite_law h b c y low keeps add_rewrites in
      ap (λ (s : State). map (with_slots (h ++ c ∷ [])) (filters_at s serial)) (now_more h b c y low keeps add_rewrites)
      ∙ (ap (map (with_slots (h ++ c ∷ []))) gained.filters
      ∙ (map-append (with_slots (h ++ c ∷ [])) (filters_at (now h) serial) (stated_filter (filter_record filter) ∷ [])
      ∙ (λ t. stored_same h c b low keeps.law more law serial add_sound t ++ stored_new h c b low keeps.law more law filter a.stored.names t ∷ [])))

  -- what is known of masks, from what the writer's call ensures
  pub add_masks : (masks2 : Masks) (cells2 : List ℕ) → AreNamed masks2 shape cells2 (root_of (h ++ c ∷ [])) → masks_of masks2 ≡ masks_of masks
      → ((last : ℕ) (fs : List StoredFilter) → Holds masks slot last fs → last < number → Holds masks2 slot number (fs ++ filter ∷ []))
      → ((other last : ℕ) (fs : List StoredFilter) → other ≢ slot → Holds masks other last fs → Holds masks2 other last fs)
      → HasMasks masks2 shape cells2 (h ++ c ∷ [])
  add_masks masks2 cells2 named same list lists = rewrite_masks h b c y low keeps add_rewrites masks masks2 shape cells cells2 has slot kept stands
      (sym (ap (λ (q : Region). q.mask) add_region)) add_sound named same
      (subst (λ (n : ℕ). Holds masks2 slot n (stored_now (h ++ c ∷ []) serial)) is
      (subst (Holds masks2 slot number) (sym add_stored) (list (point_of h) (stored_now h serial) (holds h masks shape cells has slot kept stands) (omega (arith, is)))))
      lists

  pub add_spends : Spends h c (blk ∷ [])
  add_spends zero l e = let first : Link = record { block = blk; words = block (filter_words filter) (first_block (root_of h (root_for kept.mask filter)).chain) } in
      let same : first ≡ l = cc e in inl (0, ap (λ (x : Link). Some x.block) same)
  add_spends (suc place) l e = inr (place, l, e, refl)
