-- A filter that an edit takes out of a mask, which has others.
use Rattle.std.proofs.Common.{◌≡◌, ◌≢◌, ◌∙◌, ◌⊎◌, inl, inr, ℕ, ◌+◌, ◌<◌, ◌≤◌, List, [], ◌∷◌, ◌++◌, length, map, take, drop, Some, refl, sym, ap, subst, arith}
use Rattle.std.specs.List.{AllByRecursion, IsDistinct}
use Rattle.std.specs.Prelude.{eqb}
use Rattle.std.proofs.lemmas.List.{map-append}
use Rattle.std.proofs.lemmas.List.Elements.{recursion_from_All}
use Rattle.store_history.specs.declared.history.Commit.{Commit}
use Rattle.store_history.specs.declared.history.Link.{Link}
use Rattle.store_history.specs.History.{root_of}
use Rattle.store_history.specs.Reads.{read_all}
use Rattle.store_history.specs.declared.places.TheConstants.{POOL_BLOCKS}
use Rattle.pin_store.specs.declared.shape.Shape.{Shape}
use Rattle.filter_state.specs.declared.edit.Edit.{Edit}
use Rattle.filter_state.specs.declared.edit.Edit.TheVariants as edits
use Rattle.filter_state.specs.States.{State}
use Rattle.filter_state.specs.Sound.{Sound}
use Rattle.block_codec.specs.declared.filter.StoredFilter.{StoredFilter}
use Rattle.block_codec.specs.OfReadings.Read.{filter_in}
use Rattle.mask_table.specs.declared.mirrors.mirror.KeptMask.{KeptMask}
use Rattle.mask_table.specs.OfMirrors.Given.{AreGiven}
use Rattle.mask_table.specs.OfMirrors.Changing.{FilterAt, remove_at, HasNone}
use Rattle.mask_table.specs.OfMirrors.Linked.{Placed, placed}
use Rattle.mask_order.specs.Fitting.{FitsBlock}
use Rattle.mask_order.proofs.ChainsRead.{Fits}
use Rattle.mask_writer.specs.Masks.{Masks}
use Rattle.mask_writer.specs.Standing.{masks_of, StandsAt, Holds, AreNamed}
use Rattle.mask_writer.proofs.Standing.{held_later}
use Rattle.hook_law.specs.Meaning.{point_of}
use Rattle.hook_law.specs.Standing.{Region, Role, Bucket, IsIn, Stands}
use Rattle.hook_law.specs.Numbered.{PutsActions, RewritesBucket, RemovesFromBucket}
use Rattle.hook_law.specs.Coming.{IsMade}
use Rattle.hook_law.proofs.Splicing.{removed_rewrites}
use Rattle.hook_store_law.specs.Stated.{hook_meaning, filters_at}
use Rattle.hook_store_law.specs.Blocks.{hook_codec}
use Rattle.hook_store_law.specs.Told.{with_slots}
use Rattle.hook_store_law.specs.Kept.{KeepsHook}
use Rattle.hook_store_law.specs.OfEdits.Premises.{now, next, IsAccepted, NoneComes, Loses}
use Rattle.hook_store_law.proofs.OfEdits.Accepted.{lawful, sound}
use Rattle.hook_store_law.proofs.OfEdits.OfFilters.{deletion_makes_none}
use Rattle.hook_store_law.proofs.OfEdits.OneMask.{loses_after}
use Rattle.root_pool_laws.specs.Blocks.{HaveOneRoot, Spends}
use Rattle.desk_masks.specs.OfMaskResizes.Resized.{stored_now}
use Rattle.desk_masks.specs.Masks.{HasMasks}
use Rattle.desk_pools.specs.declared.pools.Pools.{Pools}
use Rattle.desk_pools.specs.Pools.{ArePools}
use Rattle.desk_pools.specs.Steps.{IsInPool}
use Rattle.desk_pools.proofs.Steps.{standing_block}
use Rattle.desk_masks.specs.OfFilterCommits.Edits.{RemovesFilter}
use Rattle.desk_masks.specs.OfFilterCommits.Blocks.{AreOut}
use Rattle.desk_masks.proofs.OfFilterCommits.Slotting.{stored_around}
use Rattle.desk_masks.proofs.OfFilterCommits.Splitting.{none_both, others_stored}
use Rattle.desk_masks.proofs.OfFilterCommits.Spending.{chain_blocks, IsCopied, copied, placed_given, placed_count, laid_spends, laid_out, out_had}
use Rattle.desk_masks.proofs.OfFilterCommits.Locating.{own_serial, holds, region, row, row_at, all_fit, placed_filters, same_records, found_home, found_count, front_fits, link_behind, different_at, small_at}
use Rattle.desk_masks.proofs.OfFilterCommits.Rewriting.{it_stands, made_comes, made_live, rewrite_law, low_more, now_more, rewrite_masks}

module _ (h : List (Commit Edit)) (b : ℕ) (y : Edit) (slot handle : ℕ) (r : RemovesFilter h b y slot handle) where
  abbrev del : Edit
  del = edits.FilterDel r.hook r.protocol r.chain r.pref (Some handle)

  accepted : IsAccepted h b del r.state r.done
  accepted = subst (λ (z : Edit). IsAccepted h b z r.state r.done) r.is r.accepted

  -- the mask of the edit loses the filter
  pub its_loss : Loses r.row.mask_serial handle (now h) (next h y)
  its_loss = subst (λ (z : Edit). Loses r.row.mask_serial handle (now h) (next h z)) (sym r.is) (loses_after h b r.hook r.protocol r.chain r.pref handle r.state r.done r.row accepted r.there r.stays)

  none_comes : NoneComes (now h) (next h y)
  none_comes = subst (λ (z : Edit). NoneComes (now h) (next h z)) (sym r.is) (deletion_makes_none h b r.hook r.protocol r.chain r.pref (Some handle) r.state r.done accepted)

  pub none_made : PutsActions hook_meaning hook_codec b h y
  none_made action live = inl (none_comes action live)

  pub remove_sound : Sound (now h)
  remove_sound = sound h b y r.state r.done r.accepted

  module _ (keeps : KeepsHook h b) (masks : Masks) (shape : Shape) (cells : List ℕ) (has : HasMasks masks shape cells h) (kept : KeptMask) (stands : StandsAt masks slot kept) where
    abbrev serial : ℕ
    serial = kept.mask.serial

    own : serial ≡ r.row.mask_serial
    own = own_serial h masks shape cells has slot kept stands r.row.mask_serial r.at

    pub lost : Loses serial handle (now h) (next h y)
    lost = subst (λ (m : ℕ). Loses m handle (now h) (next h y)) (sym own) its_loss

    module _ (root : ℕ) (front : List StoredFilter) (old : StoredFilter) (at : FilterAt (root_of h) kept.mask handle root front old) (given : List ℕ) (count : length given ≡ length front) (are : AreGiven b h given) (number : ℕ) (is : number ≡ point_of h + 1) where
      abbrev c : Commit Edit
      c = remove_at h root given front number y

      abbrev chain : List Link
      chain = (root_of h root).chain

      abbrev ps : List Placed
      ps = placed given front

      low : b ≤ length h
      low = r.accepted.low

      enough : length front ≤ length given
      enough = omega (arith, count)

      fits : AllByRecursion Fits ps
      fits = all_fit given front (recursion_from_All FitsBlock front (front_fits h masks shape cells has slot kept stands handle lost.earlier lost.old lost.later lost.loses.before lost.front lost.back root front old at))
          (λ place n e. let small = are.pool place n e in omega (arith, small))

      copies : IsCopied ps (drop (length front + 1) chain)
      copies = copied ps (drop (length front + 1) chain) fits (link_behind h masks shape cells has slot kept stands handle lost.earlier lost.old lost.later lost.loses.before lost.front lost.back root front old at)

      long : length copies.copies ≡ length front
      long = copies.long ∙ placed_count given front enough

      removes : RemovesFromBucket hook_meaning hook_codec b h c y
      removes = record {
        region = region h masks shape cells has slot kept stands;
        k = at.bucket;
        row = row h masks shape cells has slot kept stands at.bucket;
        earlier = lost.earlier;
        old = lost.old;
        later = lost.later;
        copies = copies.copies;
        rest = r.rest;
        at = row_at h masks shape cells has slot kept stands at.bucket at.within;
        root = at.is_root;
        carries = record { number = ap (λ (n : ℕ). Some (n, y)) is; stamp = is; lawful = lawful h b y r.state r.done r.accepted };
        chain = copies.whole ∙ ap (λ (n : ℕ). copies.copies ++ drop (n + 1) chain) (sym long);
        copied = same_records copies.copies (take (length copies.copies) chain) front (copies.read ∙ ap Some (placed_filters given front enough))
            (ap (λ (n : ℕ). read_all filter_in (take n chain)) long ∙ at.before);
        count = long ∙ found_count h masks shape cells has slot kept stands handle lost.earlier lost.old lost.later lost.loses.before lost.front lost.back root front old at;
        old_bucket = found_home h masks shape cells has slot kept stands handle lost.earlier lost.old lost.later lost.loses.before lost.front lost.back root front old at;
        loses = lost.loses;
        made = none_made;
      }

      both : (v : RewritesBucket hook_meaning hook_codec b h c y) × (v.region ≡ region h masks shape cells has slot kept stands)
      unfolding removes
      both = removed_rewrites hook_meaning hook_codec h b c y low keeps.law removes

      pub remove_rewrites : RewritesBucket hook_meaning hook_codec b h c y
      remove_rewrites = both.0

      pub remove_region : remove_rewrites.region ≡ region h masks shape cells has slot kept stands
      unfolding remove_rewrites
      remove_region = both.1

      -- the filters of the mask afterwards
      remove_stored : stored_now (h ++ c ∷ []) serial ≡ map (with_slots h) lost.earlier ++ map (with_slots h) lost.later
      remove_stored = let more = low_more h b c y low keeps remove_rewrites in let law = rewrite_law h b c y low keeps remove_rewrites in
          let around = stored_around h c b low keeps.law more law serial lost.earlier lost.old lost.later remove_sound lost.loses.before in
          ap (λ (s : State). map (with_slots (h ++ c ∷ [])) (filters_at s serial)) (now_more h b c y low keeps remove_rewrites)
          ∙ (ap (map (with_slots (h ++ c ∷ []))) lost.loses.after
          ∙ (map-append (with_slots (h ++ c ∷ [])) lost.earlier lost.later
          ∙ (λ t. around.0 t ++ around.1 t)))

      -- what is known of masks, from what the writer's call ensures
      pub remove_masks : (masks2 : Masks) (cells2 : List ℕ) → AreNamed masks2 shape cells2 (root_of (h ++ c ∷ [])) → masks_of masks2 ≡ masks_of masks
          → ((last : ℕ) (earlier : List StoredFilter) (filter : StoredFilter) (later : List StoredFilter) → Holds masks slot last (earlier ++ filter ∷ later) → filter.handle ≡ handle
          → HasNone handle (earlier ++ later) → Holds masks2 slot last (earlier ++ later))
          → ((other last : ℕ) (fs : List StoredFilter) → other ≢ slot → Holds masks other last fs → Holds masks2 other last fs)
          → HasMasks masks2 shape cells2 (h ++ c ∷ [])
      remove_masks masks2 cells2 named same list lists = rewrite_masks h b c y low keeps remove_rewrites masks masks2 shape cells cells2 has slot kept stands
          (sym (ap (λ (q : Region). q.mask) remove_region)) remove_sound named same
          (subst (Holds masks2 slot (point_of h + 1)) (sym remove_stored)
          (held_on (list (point_of h) (map (with_slots h) lost.earlier) (with_slots h lost.old) (map (with_slots h) lost.later) held lost.handle_is
          (none_both handle (map (with_slots h) lost.earlier) (map (with_slots h) lost.later) (others_stored h handle lost.earlier lost.front) (others_stored h handle lost.later lost.back)))))
          lists
        where
          held : Holds masks slot (point_of h) (map (with_slots h) lost.earlier ++ with_slots h lost.old ∷ map (with_slots h) lost.later)
          held = subst (Holds masks slot (point_of h)) (ap (map (with_slots h)) lost.loses.before ∙ map-append (with_slots h) lost.earlier (lost.old ∷ lost.later)) (holds h masks shape cells has slot kept stands)

          held_on : Holds masks2 slot (point_of h) (map (with_slots h) lost.earlier ++ map (with_slots h) lost.later) → Holds masks2 slot (point_of h + 1) (map (with_slots h) lost.earlier ++ map (with_slots h) lost.later)
          held_on it = held_later masks2 slot (point_of h) (point_of h + 1) (map (with_slots h) lost.earlier ++ map (with_slots h) lost.later) (omega arith) it

      -- nothing comes to stand
      pub remove_comes : (x : ℕ) (role : Role) → Stands hook_meaning hook_codec (h ++ c ∷ []) x role → Stands hook_meaning hook_codec h x role
      remove_comes x role stands_ = pick (made_comes h b c y low keeps remove_rewrites x role stands_)
        where
          pick : Stands hook_meaning hook_codec h x role ⊎ IsMade hook_meaning hook_codec b h y x role → Stands hook_meaning hook_codec h x role
          pick (inl was) = was
          pick (inr m) = let l = made_live h b c y low keeps remove_rewrites x role m stands_ in absurd (l.1 (none_comes m.action l.0))

      -- ---- blocks
      pub remove_spends : Spends h c given
      remove_spends = laid_spends h c given ps (length front + 1) refl (placed_given given front)

      different : IsDistinct eqb (chain_blocks chain)
      different = subst (λ (n : ℕ). IsDistinct eqb (chain_blocks (root_of h n).chain)) (sym at.is_root) (different_at h masks shape cells has slot kept stands at.bucket at.within)

      small : (x : ℕ) → IsIn x (chain_blocks chain) → x < POOL_BLOCKS
      small = subst (λ (n : ℕ). (x : ℕ) → IsIn x (chain_blocks (root_of h n).chain) → x < POOL_BLOCKS) (sym at.is_root) (small_at h masks shape cells has slot kept stands at.bucket at.within)

      -- those of the filters in front, and the filter's own, are out
      pub remove_out : HaveOneRoot h → AreOut (h ++ c ∷ []) (chain_blocks (take (length front + 1) chain))
      remove_out = laid_out h c given ps (length front + 1) refl (placed_given given front) b low (λ x in_. are.free in_.0 x in_.1) different small

      pub remove_apart : (pools : Pools) → ArePools pools h b → (x : ℕ) → IsIn x (chain_blocks (take (length front + 1) chain)) → IsInPool x pools.blocks → ⊥
      remove_apart pools p x in_ = standing_block pools h b root x (Bucket remove_rewrites.region remove_rewrites.k) low p
          (out_had h c given ps (length front + 1) refl (placed_given given front) b low (λ z at_. are.free at_.0 z at_.1) different x in_) (it_stands h b c y low keeps remove_rewrites)
