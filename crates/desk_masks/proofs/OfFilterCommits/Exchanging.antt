-- A filter that an edit puts in the place of another with its mask and key.
use Rattle.std.proofs.Common.{◌≡◌, ◌≢◌, ◌∙◌, ℕ, ◌+◌, ◌%◌, ◌<◌, ◌≤◌, List, [], ◌∷◌, ◌++◌, length, map, take, drop, get_or, Some, refl, sym, ap, subst, arith}
use Rattle.std.specs.Prelude.{eqb}
use Rattle.std.specs.List.{AllByRecursion, IsDistinct}
use Rattle.std.specs.Option.{option_map}
use Rattle.std.proofs.lemmas.List.{map-append}
use Rattle.std.proofs.lemmas.List.Elements.{recursion_from_All}
use Rattle.std.proofs.lemmas.Option.{slice_get-get_or}
use Rattle.store_history.specs.declared.history.Commit.{Commit}
use Rattle.store_history.specs.declared.history.Link.{Link}
use Rattle.store_history.specs.History.{root_of, first_block}
use Rattle.store_history.specs.Reads.{read_all}
use Rattle.store_history.specs.declared.places.TheConstants.{POOL_BLOCKS}
use Rattle.pin_store.specs.declared.shape.Shape.{Shape}
use Rattle.flow_mask.specs.Hashes.{hash_of}
use Rattle.filter_state.specs.declared.edit.Edit.{Edit}
use Rattle.filter_state.specs.declared.edit.Edit.TheVariants as edits
use Rattle.filter_state.specs.declared.refusal.Done.TheVariants as dones
use Rattle.filter_state.specs.States.{State}
use Rattle.filter_state.specs.Sound.{Sound}
use Rattle.block_codec.specs.declared.filter.StoredFilter.{StoredFilter}
use Rattle.block_codec.specs.Blocks.{block, IsLink}
use Rattle.block_codec.specs.Filters.{filter_words}
use Rattle.block_codec.specs.OfReadings.Read.{filter_in}
use Rattle.mask_table.specs.Buckets.{bucket_root, bucket_for}
use Rattle.mask_table.specs.declared.mirrors.mirror.KeptMask.{KeptMask}
use Rattle.mask_table.specs.OfMirrors.Given.{AreGiven}
use Rattle.mask_table.specs.OfMirrors.Changing.{FilterAt, root_for, replace_at, HasNone}
use Rattle.mask_table.specs.OfMirrors.Linked.{Placed, placed, linked}
use Rattle.mask_order.specs.Fitting.{FitsBlock}
use Rattle.mask_order.proofs.ChainsRead.{Fits, own_block_reads}
use Rattle.mask_writer.specs.Masks.{Masks}
use Rattle.mask_writer.specs.Standing.{masks_of, StandsAt, Holds, AreNamed}
use Rattle.mask_writer.proofs.Standing.{held_later}
use Rattle.hook_law.specs.Records.{StatedFilter, stated_filter}
use Rattle.hook_law.specs.Meaning.{point_of}
use Rattle.hook_law.specs.Standing.{Region, Bucket, IsIn}
use Rattle.hook_law.specs.Numbered.{RewritesBucket, ReplacesInBucket}
use Rattle.hook_law.proofs.Splicing.{replaced_rewrites}
use Rattle.hook_store_law.specs.Stated.{hook_meaning, filters_at}
use Rattle.hook_store_law.specs.Blocks.{filter_record, hook_codec}
use Rattle.hook_store_law.specs.Told.{with_slots}
use Rattle.hook_store_law.specs.Kept.{KeepsHook}
use Rattle.hook_store_law.specs.OfEdits.Premises.{now, next, IsAccepted, filter_of_line, Swaps}
use Rattle.hook_store_law.proofs.OfEdits.Accepted.{lawful, sound}
use Rattle.hook_store_law.proofs.OfEdits.OneMask.{swaps_after}
use Rattle.root_pool_laws.specs.Blocks.{HaveOneRoot, Spends}
use Rattle.desk_masks.specs.OfMaskResizes.Resized.{stored_now}
use Rattle.desk_masks.specs.Masks.{HasMasks}
use Rattle.desk_pools.specs.declared.pools.Pools.{Pools}
use Rattle.desk_pools.specs.Pools.{ArePools}
use Rattle.desk_pools.specs.Steps.{IsInPool}
use Rattle.desk_pools.proofs.Steps.{standing_block}
use Rattle.desk_masks.specs.OfFilterCommits.Edits.{ExchangesFilter, HasLater}
use Rattle.desk_masks.specs.OfFilterCommits.Blocks.{AreOut}
use Rattle.desk_masks.proofs.OfFilterCommits.Slotting.{stored_around, stored_new}
use Rattle.desk_masks.proofs.OfFilterCommits.Splitting.{none_both, others_stored}
use Rattle.desk_masks.proofs.OfFilterCommits.Spending.{chain_blocks, IsCopied, copied, placed_given, placed_count, placed_last, linked_last, laid_spends, laid_out, out_had}
use Rattle.desk_masks.proofs.OfFilterCommits.Locating.{own_serial, holds, this_one, in_front_of, later_there, region, row, row_at, all_fit, placed_filters, same_records, found_home, found_count, front_fits, link_behind, different_at, small_at}
use Rattle.desk_masks.proofs.OfFilterCommits.Rewriting.{it_stands, rewrite_law, low_more, now_more, rewrite_masks}

module _ (h : List (Commit Edit)) (b : ℕ) (y : Edit) (slot : ℕ) (filter : StoredFilter) (x : ExchangesFilter h b y slot filter) where
  abbrev put : Edit
  put = edits.FilterReplace x.line

  abbrev new : StatedFilter
  new = stated_filter (filter_record filter)

  accepted : IsAccepted h b put x.state (dones.Filter x.pref x.handle x.serials)
  accepted = subst (λ (z : Edit). IsAccepted h b z x.state (dones.Filter x.pref x.handle x.serials)) x.is x.accepted

  -- in the mask of the edit the filter takes the other's place
  pub its_swap : Swaps x.row.mask_serial new (now h) (next h y)
  its_swap = subst (λ (f : StatedFilter). Swaps x.row.mask_serial f (now h) (next h y)) (sym x.stored.is)
      (subst (λ (z : Edit). Swaps x.row.mask_serial (filter_of_line x.line x.handle x.serials) (now h) (next h z)) (sym x.is)
      (swaps_after h b x.state x.line x.pref x.handle x.serials x.row accepted x.there x.same_mask x.same_key))

  pub exchange_sound : Sound (now h)
  exchange_sound = sound h b y x.state (dones.Filter x.pref x.handle x.serials) x.accepted

  module _ (keeps : KeepsHook h b) (masks : Masks) (shape : Shape) (cells : List ℕ) (has : HasMasks masks shape cells h) (kept : KeptMask) (stands : StandsAt masks slot kept) where
    abbrev serial : ℕ
    serial = kept.mask.serial

    own : serial ≡ x.row.mask_serial
    own = own_serial h masks shape cells has slot kept stands x.row.mask_serial x.at

    pub swapped : Swaps serial new (now h) (next h y)
    swapped = subst (λ (m : ℕ). Swaps m new (now h) (next h y)) (sym own) its_swap

    -- the other one is found in the bucket of the filter's key
    pub exchange_there : (later : ℕ) → HasLater kept.mask.size filter.handle (filters_at (now h) serial) later
        → (it : KeptMask) × (front : List StoredFilter) × (old : StoredFilter) × StandsAt masks slot it × FilterAt (root_of h) it.mask filter.handle (root_for it.mask filter) front old
    exchange_there later l = (
      kept,
      in_front_of h masks shape cells has slot kept stands filter.handle later l,
      with_slots h l.filter,
      stands,
      subst (λ (n : ℕ). FilterAt (root_of h) kept.mask filter.handle n (in_front_of h masks shape cells has slot kept stands filter.handle later l) (with_slots h l.filter)) same_root
          (later_there h masks shape cells has slot kept stands filter.handle later l),
    )
      where
        same_key : l.filter.key ≡ filter.key.words
        same_key = let s = this_one h masks shape cells has slot kept stands filter.handle swapped.earlier swapped.old swapped.later swapped.swaps.before swapped.front swapped.back
            (map (with_slots h) l.earlier) (with_slots h l.filter) (map (with_slots h) l.later) (ap (map (with_slots h)) l.whole ∙ map-append (with_slots h) l.earlier (l.filter ∷ l.later)) l.named in
            sym (ap (λ (f : StoredFilter). f.key.words) s.1) ∙ swapped.key

        same_root : bucket_root kept.mask (bucket_for kept.mask.size l.filter.key) ≡ root_for kept.mask filter
        same_root = ap (λ (key : List ℕ). bucket_root kept.mask (bucket_for kept.mask.size key)) same_key

    module _ (root : ℕ) (front : List StoredFilter) (old : StoredFilter) (at : FilterAt (root_of h) kept.mask filter.handle root front old) (given : List ℕ) (count : length given ≡ length front + 1) (are : AreGiven b h given) (number : ℕ) (is : number ≡ point_of h + 1) where
      abbrev c : Commit Edit
      c = replace_at h root given front filter number y

      abbrev chain : List Link
      chain = (root_of h root).chain

      abbrev behind : List Link
      behind = drop (length front + 1) chain

      -- the block of the new filter
      abbrev blk : ℕ
      blk = get_or given (length front) 0

      abbrev link : Link
      link = record { block = blk; words = block (filter_words filter) (first_block behind) }

      abbrev ps : List Placed
      ps = placed given front

      low : b ≤ length h
      low = x.accepted.low

      enough : length front ≤ length given
      enough = omega (arith, count)

      within : length front < length given
      within = omega (arith, count)

      fits : AllByRecursion Fits ps
      fits = all_fit given front (recursion_from_All FitsBlock front (front_fits h masks shape cells has slot kept stands filter.handle swapped.earlier swapped.old swapped.later swapped.swaps.before swapped.front swapped.back root front old at))
          (λ place n e. let small = are.pool place n e in omega (arith, small))

      linked_behind : IsLink (first_block behind)
      linked_behind = link_behind h masks shape cells has slot kept stands filter.handle swapped.earlier swapped.old swapped.later swapped.swaps.before swapped.front swapped.back root front old at

      copies : IsCopied ps (link ∷ behind)
      copies = copied ps (link ∷ behind) fits (let small = are.pool (length front) blk (slice_get-get_or given (length front) 0 within) in omega (arith, small))

      long : length copies.copies ≡ length front
      long = copies.long ∙ placed_count given front enough

      laid : linked (placed given (front ++ filter ∷ [])) behind ≡ copies.copies ++ link ∷ behind
      laid = ap (λ (qs : List Placed). linked qs behind) (placed_last given front filter within) ∙ (linked_last ps (record { block = blk; filter = filter }) behind ∙ copies.whole)

      home : hash_of swapped.old.key % kept.mask.size ≡ at.bucket
      home = found_home h masks shape cells has slot kept stands filter.handle swapped.earlier swapped.old swapped.later swapped.swaps.before swapped.front swapped.back root front old at

      replaces : ReplacesInBucket hook_meaning hook_codec b h c y
      replaces = record {
        region = region h masks shape cells has slot kept stands;
        k = at.bucket;
        row = row h masks shape cells has slot kept stands at.bucket;
        earlier = swapped.earlier;
        old = swapped.old;
        later = swapped.later;
        copies = copies.copies;
        link = link;
        filter = filter_record filter;
        rest = x.rest;
        at = row_at h masks shape cells has slot kept stands at.bucket at.within;
        root = at.is_root;
        carries = record { number = ap (λ (n : ℕ). Some (n, y)) is; stamp = is; lawful = lawful h b y x.state (dones.Filter x.pref x.handle x.serials) x.accepted };
        chain = laid ∙ ap (λ (n : ℕ). copies.copies ++ link ∷ drop (n + 1) chain) (sym long);
        copied = same_records copies.copies (take (length copies.copies) chain) front (copies.read ∙ ap Some (placed_filters given front enough))
            (ap (λ (n : ℕ). read_all filter_in (take n chain)) long ∙ at.before);
        count = long ∙ found_count h masks shape cells has slot kept stands filter.handle swapped.earlier swapped.old swapped.later swapped.swaps.before swapped.front swapped.back root front old at;
        read = ap (option_map filter_record) (own_block_reads filter (first_block behind) x.stored.fit linked_behind);
        old_bucket = home;
        new_bucket = ap (λ (key : List ℕ). hash_of key % kept.mask.size) (sym swapped.key) ∙ home;
        swaps = swapped.swaps;
        names = x.stored.names;
        made = x.made;
      }

      both : (v : RewritesBucket hook_meaning hook_codec b h c y) × (v.region ≡ region h masks shape cells has slot kept stands)
      unfolding replaces
      both = replaced_rewrites hook_meaning hook_codec h b c y low keeps.law replaces

      pub exchange_rewrites : RewritesBucket hook_meaning hook_codec b h c y
      exchange_rewrites = both.0

      pub exchange_region : exchange_rewrites.region ≡ region h masks shape cells has slot kept stands
      unfolding exchange_rewrites
      exchange_region = both.1

      -- the filters of the mask afterwards
      exchange_stored : stored_now (h ++ c ∷ []) serial ≡ map (with_slots h) swapped.earlier ++ filter ∷ map (with_slots h) swapped.later
      exchange_stored = let more = low_more h b c y low keeps exchange_rewrites in let law = rewrite_law h b c y low keeps exchange_rewrites in
          let around = stored_around h c b low keeps.law more law serial swapped.earlier swapped.old swapped.later exchange_sound swapped.swaps.before in
          ap (λ (s : State). map (with_slots (h ++ c ∷ [])) (filters_at s serial)) (now_more h b c y low keeps exchange_rewrites)
          ∙ (ap (map (with_slots (h ++ c ∷ []))) swapped.swaps.after
          ∙ (map-append (with_slots (h ++ c ∷ [])) swapped.earlier (new ∷ swapped.later)
          ∙ (λ t. around.0 t ++ stored_new h c b low keeps.law more law filter x.stored.names t ∷ around.1 t)))

      -- what is known of masks, from what the writer's call ensures
      pub exchange_masks : (masks2 : Masks) (cells2 : List ℕ) → AreNamed masks2 shape cells2 (root_of (h ++ c ∷ [])) → masks_of masks2 ≡ masks_of masks
          → ((last : ℕ) (earlier : List StoredFilter) (one : StoredFilter) (later : List StoredFilter) → Holds masks slot last (earlier ++ one ∷ later) → one.handle ≡ filter.handle
          → one.key.words ≡ filter.key.words → HasNone filter.handle (earlier ++ later) → Holds masks2 slot last (earlier ++ filter ∷ later))
          → ((other last : ℕ) (fs : List StoredFilter) → other ≢ slot → Holds masks other last fs → Holds masks2 other last fs)
          → HasMasks masks2 shape cells2 (h ++ c ∷ [])
      exchange_masks masks2 cells2 named same list lists = rewrite_masks h b c y low keeps exchange_rewrites masks masks2 shape cells cells2 has slot kept stands
          (sym (ap (λ (q : Region). q.mask) exchange_region)) exchange_sound named same
          (subst (Holds masks2 slot (point_of h + 1)) (sym exchange_stored)
          (held_later masks2 slot (point_of h) (point_of h + 1) (map (with_slots h) swapped.earlier ++ filter ∷ map (with_slots h) swapped.later) (omega arith)
          (list (point_of h) (map (with_slots h) swapped.earlier) (with_slots h swapped.old) (map (with_slots h) swapped.later) held swapped.handle swapped.key
          (none_both filter.handle (map (with_slots h) swapped.earlier) (map (with_slots h) swapped.later) (others_stored h filter.handle swapped.earlier swapped.front) (others_stored h filter.handle swapped.later swapped.back)))))
          lists
        where
          held : Holds masks slot (point_of h) (map (with_slots h) swapped.earlier ++ with_slots h swapped.old ∷ map (with_slots h) swapped.later)
          held = subst (Holds masks slot (point_of h)) (ap (map (with_slots h)) swapped.swaps.before ∙ map-append (with_slots h) swapped.earlier (swapped.old ∷ swapped.later)) (holds h masks shape cells has slot kept stands)

      -- ---- blocks
      pub exchange_spends : Spends h c given
      exchange_spends = laid_spends h c given (placed given (front ++ filter ∷ [])) (length front + 1) refl (placed_given given (front ++ filter ∷ []))

      different : IsDistinct eqb (chain_blocks chain)
      different = subst (λ (n : ℕ). IsDistinct eqb (chain_blocks (root_of h n).chain)) (sym at.is_root) (different_at h masks shape cells has slot kept stands at.bucket at.within)

      small : (z : ℕ) → IsIn z (chain_blocks chain) → z < POOL_BLOCKS
      small = subst (λ (n : ℕ). (z : ℕ) → IsIn z (chain_blocks (root_of h n).chain) → z < POOL_BLOCKS) (sym at.is_root) (small_at h masks shape cells has slot kept stands at.bucket at.within)

      -- those of the filters in front, and the old filter's own, are out
      pub exchange_out : HaveOneRoot h → AreOut (h ++ c ∷ []) (chain_blocks (take (length front + 1) chain))
      exchange_out = laid_out h c given (placed given (front ++ filter ∷ [])) (length front + 1) refl (placed_given given (front ++ filter ∷ [])) b low (λ z in_. are.free in_.0 z in_.1) different small

      pub exchange_apart : (pools : Pools) → ArePools pools h b → (z : ℕ) → IsIn z (chain_blocks (take (length front + 1) chain)) → IsInPool z pools.blocks → ⊥
      exchange_apart pools p z in_ = standing_block pools h b root z (Bucket exchange_rewrites.region exchange_rewrites.k) low p
          (out_had h c given (placed given (front ++ filter ∷ [])) (length front + 1) refl (placed_given given (front ++ filter ∷ [])) b low (λ u at_. are.free at_.0 u at_.1) different z in_)
          (it_stands h b c y low keeps exchange_rewrites)
