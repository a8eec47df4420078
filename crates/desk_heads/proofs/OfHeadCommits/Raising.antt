-- The commits of a whole mask that an edit makes keep the law of the hook, and prepare the mask.
use Rattle.std.proofs.Common.{◌≡◌, ◌≢◌, ◌∙◌, ◌⊎◌, inl, inr, ℕ, zero, suc, ◌+◌, ◌*◌, ◌/◌, ◌%◌, ◌<◌, ◌≤◌, List, [], ◌∷◌, ◌++◌, length, map, take, slice_get, Some, None, refl, sym, ap, subst, arith, append_assoc, length-append}
use Rattle.std.specs.List.{range_with_len}
use Rattle.std.specs.Option.{option_map}
use Rattle.std.proofs.lemmas.List.{append-nil}
use Rattle.std.proofs.lemmas.List.FromFn.{length-map-range_with_len}
use Rattle.std.proofs.lemmas.Option.{get_or_from_slice_get}
use Rattle.store_history.specs.declared.history.Commit.{Commit}
use Rattle.store_history.specs.declared.history.Named.{Named}
use Rattle.store_history.specs.History.{root_of, edits_of}
use Rattle.store_history.specs.Reads.{read_all, read_first}
use Rattle.store_history.proofs.Lists.{get_take, get_behind}
use Rattle.store_history.proofs.Histories.{root_other}
use Rattle.store_history.specs.declared.places.TheConstants.{ACTION_SLOTS, ROW_BUCKETS, BUCKET_ROOTS}
use Rattle.root_word_laws.specs.Words.{StampsRise}
use Rattle.root_word_laws.proofs.Words.{more_rise}
use Rattle.flow_mask.specs.Hashes.{hash_of}
use Rattle.filter_state.specs.declared.edit.Edit.{Edit}
use Rattle.filter_state.specs.States.{State}
use Rattle.filter_state.specs.Sound.{Each}
use Rattle.filter_state.specs.Steps.{step}
use Rattle.block_codec.specs.declared.filter.StoredFilter.{StoredFilter}
use Rattle.block_codec.specs.declared.mask.StoredMask.{StoredMask}
use Rattle.block_codec.specs.OfReadings.Read.{filter_in}
use Rattle.block_codec.proofs.OfReadings.MaskReads.{mask_block_reads}
use Rattle.mask_table.specs.Buckets.{bucket_root, bucket_of}
use Rattle.mask_table.specs.OfMirrors.Linked.{Placed, placed, placed_in, linked, bucket_commit, mask_commit, bucket_commits, raise_commits}
use Rattle.mask_order.proofs.Placing.{placed_chain_reads}
use Rattle.hook_law.specs.Places as places
use Rattle.hook_law.specs.Records.{FilterRecord, StatedFilter}
use Rattle.hook_law.specs.Chains as chains
use Rattle.hook_law.specs.Meaning.{point_of, state_at, IsLive}
use Rattle.hook_law.specs.Standing.{Mask, IsIn, Names, IsMaskAt, PutsAction, IsSlotOf}
use Rattle.hook_law.specs.Telling.{ReadsAction}
use Rattle.hook_law.specs.Keeping.{IsAtRest}
use Rattle.hook_law.specs.Slots.{slot_of}
use Rattle.hook_law.specs.Unnumbered.{HaveOwnRoots, SparesAll, FillsBucket, IsFilled}
use Rattle.hook_law.specs.Numbered.{IsPutAction}
use Rattle.hook_law.specs.Heads.{IsPrepared}
use Rattle.hook_law.proofs.Lists.{root_of_one, root_of_none}
use Rattle.hook_law.proofs.Standing.{present_end, mask_back, slot_longer}
use Rattle.hook_law.proofs.Slots.{slot_is}
use Rattle.hook_law.proofs.Sparing.{Spared, spares_keep, spares_take}
use Rattle.hook_law.proofs.Preparing.{spares_heads, fills_longer, filled_after, put_after}
use Rattle.hook_law.proofs.Resting.{spares_rest}
use Rattle.hook_store_law.specs.Stated.{hook_meaning, filters_at}
use Rattle.hook_store_law.specs.Blocks.{mask_record, filter_record, hook_codec}
use Rattle.hook_store_law.specs.Told.{with_slots}
use Rattle.hook_store_law.specs.Kept.{KeepsHook}
use Rattle.hook_store_law.specs.OfEdits.Premises.{now, next}
use Rattle.hook_store_law.proofs.OfEdits.Accepted.{next_sound}
use Rattle.desk_masks.proofs.OfMaskResizes.Apart.{buckets_apart}
use Rattle.desk_masks.proofs.OfMaskResizes.Living.{all_live}
use Rattle.desk_masks.proofs.OfMaskResizes.Resizing.{mapped_at, range_at, range_has, all_maps, stated_back, in_bucket, each_bucket, each_as, filters_good, rows_distinct}
use Rattle.desk_heads.specs.OfHeadCommits.Raised.{stored_next, IsReady, IsSpareRoot, CanRaise}

-- ---- stamps over several commits
module _ {E : Type 0} where
  -- commits to roots of their own, each later than what its root names
  pub spares_rise : (cs h : List (Commit E)) → StampsRise h → HaveOwnRoots cs → ((j : ℕ) (c : Commit E) → slice_get cs j ≡ Some c → (root_of h c.root).stamp < c.named.stamp) → StampsRise (h ++ cs)
  spares_rise [] h rise own later = subst StampsRise (sym (append-nil h)) rise
  spares_rise (d ∷ ds) h rise own later = subst StampsRise (append_assoc h (d ∷ []) ds)
      (spares_rise ds (h ++ d ∷ []) (more_rise h d rise (inl (later 0 d refl)))
      (λ i j c e at there same. let one = own (suc i) (suc j) c e at there same in omega (arith, one))
      (λ j c at. subst (λ (n : Named). n.stamp < c.named.stamp) (sym (root_other h d c.root (λ same. let one = own 0 (suc j) d c refl at same in absurd (omega (arith, one))))) (later (suc j) c at)))

  pub own_take : (n : ℕ) (cs : List (Commit E)) → HaveOwnRoots cs → HaveOwnRoots (take n cs)
  own_take n cs own i j c d at there same = own i j c d (get_take cs n i c at) (get_take cs n j d there) same

-- an element of a list with one more
last_or : {A : Type 0} (xs : List A) (x : A) (j : ℕ) (c : A) → slice_get (xs ++ x ∷ []) j ≡ Some c → (slice_get xs j ≡ Some c) ⊎ ((j ≡ length xs) × (c ≡ x))
last_or [] x zero c e = let same : x ≡ c = cc e in inr (refl, sym same)
last_or [] x (suc j) c e = absurd (cc e)
last_or (y ∷ ys) x zero c e = inl e
last_or (y ∷ ys) x (suc j) c e = pick (last_or ys x j c e)
  where
    pick : (slice_get ys j ≡ Some c) ⊎ ((j ≡ length ys) × (c ≡ x)) → (slice_get ys j ≡ Some c) ⊎ ((suc j ≡ length (y ∷ ys)) × (c ≡ x))
    pick (inl l) = inl l
    pick (inr r) = inr (ap suc r.0, r.1)

-- an action that lives after the edit has its slot by commits
pub next_slot : (h : List (Commit Edit)) (b : ℕ) (y : Edit) → IsReady h b y → (a : ℕ) → IsLive hook_meaning (next h y) a → IsSlotOf hook_codec h a (slot_of hook_codec h a)
next_slot h b y ready a live = pick (ready.made a live)
  where
    own : (slot : ℕ) → IsSlotOf hook_codec h a slot → IsSlotOf hook_codec h a (slot_of hook_codec h a)
    own slot at = subst (IsSlotOf hook_codec h a) (slot_is hook_meaning hook_codec h b a slot ready.accepted.low ready.accepted.keeps at) at

    pick : IsLive hook_meaning (now h) a ⊎ IsPutAction hook_meaning hook_codec b h y a → IsSlotOf hook_codec h a (slot_of hook_codec h a)
    pick (inl before) = let p = (present_end hook_meaning hook_codec h b ready.accepted.low ready.accepted.keeps).placed a before in own p.0 p.1
    pick (inr put) = own put.slot put.there

-- ---- a whole mask
module _ (h : List (Commit Edit)) (b : ℕ) (y : Edit) (slot : ℕ) (mask : StoredMask) (given : List ℕ) (blk : ℕ) (keeps : KeepsHook h b) (ready : IsReady h b y) (can : CanRaise h b y slot mask given) where
  low : b ≤ length h
  low = ready.accepted.low

  abbrev pub fs : List StatedFilter
  fs = filters_at (next h y) mask.serial

  abbrev pub ps : List Placed
  ps = placed given (stored_next h y mask.serial)

  abbrev pub stamp : ℕ
  stamp = point_of h + 1

  abbrev pub commit : ℕ → Commit Edit
  commit = bucket_commit mask ps stamp

  abbrev pub rows : List (Commit Edit)
  rows = bucket_commits mask ps stamp mask.size

  abbrev pub last : Commit Edit
  last = mask_commit slot mask blk stamp

  abbrev pub cs : List (Commit Edit)
  cs = raise_commits slot mask blk ps stamp

  -- each of the commits is one to a bucket's root, or the one to the slot's
  abbrev pub IsOne : ℕ → Commit Edit → Type 0
  IsOne j c = ((j < mask.size) × (c ≡ commit j)) ⊎ ((j ≡ mask.size) × (c ≡ last))

  rows_count : length rows ≡ mask.size
  rows_count = length-map-range_with_len commit 0 mask.size

  pub commit_at : (j : ℕ) (c : Commit Edit) → slice_get cs j ≡ Some c → IsOne j c
  commit_at j c e = pick (last_or rows last j c e)
    where
      pick : (slice_get rows j ≡ Some c) ⊎ ((j ≡ length rows) × (c ≡ last)) → IsOne j c
      pick (inl at) = let m = mapped_at commit (range_with_len 0 mask.size) j c at in let r = range_at 0 mask.size j m.0 m.1 in let off = r.0 in let same : m.0 ≡ j = omega (arith, off) in inl (r.1, m.2 ∙ ap commit same)
      pick (inr at) = inr (at.0 ∙ rows_count, at.1)

  stamp_is : (j : ℕ) (c : Commit Edit) → IsOne j c → c.named.stamp ≡ stamp
  stamp_is j c (inl o) = ap (λ (z : Commit Edit). z.named.stamp) o.1
  stamp_is j c (inr o) = ap (λ (z : Commit Edit). z.named.stamp) o.1

  spare_root : (j : ℕ) (c : Commit Edit) → IsOne j c → IsSpareRoot h b c.root
  spare_root j c (inl o) = subst (λ (z : Commit Edit). IsSpareRoot h b z.root) (sym o.1) (can.at_rows j o.0)
  spare_root j c (inr o) = subst (λ (z : Commit Edit). IsSpareRoot h b z.root) (sym o.1) can.at_slot

  no_action : (j : ℕ) (c : Commit Edit) → IsOne j c → (a s : ℕ) → PutsAction hook_codec c a s → ⊥
  no_action j c (inl o) a s puts = let root = sym (ap (λ (z : Commit Edit). z.root) o.1) ∙ puts.root in let small = puts.small in absurd (omega (arith, root, small))
  no_action j c (inr o) a s puts = let root = sym (ap (λ (z : Commit Edit). z.root) o.1) ∙ puts.root in let small = can.small in absurd (omega (arith, root, small))

  no_edit : (j : ℕ) (c : Commit Edit) → IsOne j c → c.edit ≡ None
  no_edit j c (inl o) = ap (λ (z : Commit Edit). z.edit) o.1
  no_edit j c (inr o) = ap (λ (z : Commit Edit). z.edit) o.1

  pub raise_spares : SparesAll hook_meaning hook_codec b h cs
  raise_spares = record {
    each = λ j c e. let o = commit_at j c e in record {
      plain = no_edit j c o;
      stamp = inr (stamp_is j c o);
      unused = (spare_root j c o).unused;
      first = λ a s before puts w. no_action j c o a s puts;
    };
    once = λ i j c d a s t less e f puts more. no_action i c (commit_at i c e) a s puts;
  }

  pub raise_own : HaveOwnRoots cs
  raise_own i j c d e f same = pick (commit_at i c e) (commit_at j d f)
    where
      roots : (x z : Commit Edit) → c ≡ x → d ≡ z → x.root ≡ z.root
      roots x z is also = sym (ap (λ (v : Commit Edit). v.root) is) ∙ (same ∙ ap (λ (v : Commit Edit). v.root) also)

      pick : IsOne i c → IsOne j d → i ≡ j
      pick (inl o) (inl q) = buckets_apart mask can.storable can.distinct i j o.0 q.0 (roots (commit i) (commit j) o.1 q.1)
      pick (inl o) (inr q) = let e = roots (commit i) last o.1 q.1 in let small = can.small in absurd (omega (arith, e, small))
      pick (inr o) (inl q) = let e = roots last (commit j) o.1 q.1 in let small = can.small in absurd (omega (arith, e, small))
      pick (inr o) (inr q) = o.0 ∙ sym q.0

  pub raise_spared : Spared hook_meaning hook_codec b h cs
  raise_spared = spares_keep hook_meaning hook_codec cs h b low keeps.law raise_spares

  -- each first part of the commits keeps the law
  pub raise_lawful : (n : ℕ) → KeepsHook (h ++ take n cs) b
  raise_lawful n = record {
    law = (spares_keep hook_meaning hook_codec (take n cs) h b low keeps.law (spares_take hook_meaning hook_codec h b cs n raise_spares)).keeps;
    stamps = spares_rise (take n cs) h keeps.stamps (own_take n cs raise_own)
        (λ j c e. let o = commit_at j c (get_take cs n j c e) in let early = (spare_root j c o).early in let is = stamp_is j c o in omega (arith, early, is));
  }

  pub raise_keeps : KeepsHook (h ++ cs) b
  raise_keeps = record {
    law = raise_spared.keeps;
    stamps = spares_rise cs h keeps.stamps raise_own (λ j c e. let o = commit_at j c e in let early = (spare_root j c o).early in let is = stamp_is j c o in omega (arith, early, is));
  }

  -- ---- what they name
  fills : (k : ℕ) → FillsBucket hook_meaning hook_codec h (commit k).named mask.serial mask.size k stamp (next h y)
  fills k = record {
    stamp = refl;
    reads = record {
      filters = map filter_record (map (with_slots h) (chains.bucket_of hash_of mask.size k fs));
      read = read_is;
      are = stated_back h (chains.bucket_of hash_of mask.size k fs);
    };
    names = λ gs g x read inf inx. filters_good h (IsSlotOf hook_codec h) (chains.bucket_of hash_of mask.size k fs)
        (each_bucket (λ (f : StatedFilter). Each (λ (a : ℕ). IsSlotOf hook_codec h a (slot_of hook_codec h a)) f.actions) mask.size k fs
        (each_as (λ (f : StatedFilter). Each (λ (a : ℕ). IsLive hook_meaning (next h y) a) f.actions) (λ (f : StatedFilter). Each (λ (a : ℕ). IsSlotOf hook_codec h a (slot_of hook_codec h a)) f.actions)
        (λ f live. each_as (λ (a : ℕ). IsLive hook_meaning (next h y) a) (λ (a : ℕ). IsSlotOf hook_codec h a (slot_of hook_codec h a)) (next_slot h b y ready) f.actions live) fs
        (all_live (next h y) mask.serial (next_sound h b y ready.state ready.done ready.accepted))))
        g x (subst (IsIn g) (same_list gs (map filter_record (map (with_slots h) (chains.bucket_of hash_of mask.size k fs))) (sym read ∙ read_is)) inf) inx;
  }
    where
      read_is : read_all hook_codec.filter (linked (placed_in mask.size k ps) []) ≡ Some (map filter_record (map (with_slots h) (chains.bucket_of hash_of mask.size k fs)))
      read_is = all_maps filter_record filter_in (linked (placed_in mask.size k ps) []) (bucket_of mask.size k (stored_next h y mask.serial)) (placed_chain_reads mask.size k given (stored_next h y mask.serial) can.fit)
          ∙ ap (λ (xs : List StoredFilter). Some (map filter_record xs)) (in_bucket h mask.size k fs)

      same_list : (xs zs : List FilterRecord) → Some xs ≡ Some zs → xs ≡ zs
      same_list xs zs e = cc e

  record_reads : read_first hook_codec.mask last.named.chain ≡ Some (mask_record mask)
  record_reads = ap (option_map mask_record) (mask_block_reads mask can.storable can.serial can.key)

  row_at : (k : ℕ) → k < mask.size → slice_get cs k ≡ Some (commit k)
  row_at k less = front rows (last ∷ []) k (commit k) (range_has commit 0 mask.size k less ∙ ap (λ (n : ℕ). Some (commit n)) (omega arith))
    where
      front : (xs zs : List (Commit Edit)) (n : ℕ) (c : Commit Edit) → slice_get xs n ≡ Some c → slice_get (xs ++ zs) n ≡ Some c
      front [] zs n c e = absurd (cc e)
      front (x ∷ xs) zs zero c e = e
      front (x ∷ xs) zs (suc n) c e = front xs zs n c e

  last_at : slice_get cs mask.size ≡ Some last
  last_at = subst (λ (n : ℕ). slice_get cs n ≡ Some last) (omega (arith, rows_count)) (get_behind rows (last ∷ []) 0)

  abbrev pub after : List (Commit Edit)
  after = h ++ cs

  -- the slot's root names the record afterwards
  pub raise_named : root_of after (places.mask_root slot) ≡ last.named
  raise_named = root_of_one h cs mask.size last raise_own last_at

  filled : (k at_row : ℕ) → k < mask.size → slice_get mask.rows (places.row_of k) ≡ Some at_row
      → IsFilled hook_meaning hook_codec b after (places.bucket_root at_row (places.place_of k)) mask.serial mask.size k (point_of after + 1) (next after y)
  filled k at_row less there =
      subst (λ (r : ℕ). IsFilled hook_meaning hook_codec b after r mask.serial mask.size k (point_of after + 1) (next after y)) (ap (λ (r : ℕ). BUCKET_ROOTS + ROW_BUCKETS * r + k % 16) (get_or_from_slice_get mask.rows (k / 16) at_row 0 there))
      (subst (λ (es : List Edit). IsFilled hook_meaning hook_codec b after (bucket_root mask k) mask.serial mask.size k (length es + 1) (hook_meaning.step (state_at hook_meaning es (length es)) y)) (sym raise_spared.edits)
      (filled_after hook_meaning hook_codec h cs b k (commit k) raise_spares raise_own raise_spared (row_at k less) mask.serial mask.size k stamp (next h y)
      (fills_longer hook_meaning hook_codec h cs (commit k).named mask.serial mask.size k stamp (next h y) (fills k))))

  -- THE MASK IS PREPARED
  pub raise_prepares : IsPrepared hook_meaning hook_codec b after y mask.serial slot
  raise_prepares = record {
    put = put_after hook_meaning hook_codec h cs b mask.size last raise_spares raise_own raise_spared last_at y (Mask mask.serial) refl
        (record { mask = mask_record mask; read = record_reads; serial = refl; words = can.words; size = inl can.size; rows = let r = can.storable.rows in omega (arith, r) });
    record_read = mask_record mask;
    read = ap (λ (n : Named). read_first hook_codec.mask n.chain) raise_named ∙ record_reads;
    filled = λ k at_row less there small. filled k at_row less there;
    distinct = rows_distinct mask.rows can.distinct;
  }

  -- with this record
  pub raise_record : raise_prepares.record_read ≡ mask_record mask
  unfolding raise_prepares
  raise_record = refl

  -- ---- what stands goes on
  pub raise_edits : edits_of after ≡ edits_of h
  raise_edits = raise_spared.edits

  pub raise_now : now after ≡ now h
  raise_now = ap (λ (es : List Edit). state_at hook_meaning es (length es)) raise_spared.edits

  pub raise_next : next after y ≡ next h y
  raise_next = ap (λ (s : State). hook_meaning.step s y) raise_now

  pub raise_heads : (hook : ℕ) → hook < 2 → root_of after (places.head_root hook) ≡ root_of h (places.head_root hook)
  raise_heads = spares_heads hook_meaning hook_codec h cs b low raise_spares

  pub raise_mask : (m at : ℕ) → IsMaskAt hook_codec h m at → IsMaskAt hook_codec after m at
  raise_mask m at x = record { hook = x.hook; one = x.one; small = x.small; there = subst (λ (n : Named). Names hook_codec n.chain m at) (sym (raise_heads x.hook x.one)) x.there }

  pub raise_back : (m at : ℕ) → IsMaskAt hook_codec after m at → IsMaskAt hook_codec h m at
  raise_back m at x = mask_back hook_codec h after m at raise_heads x

  pub raise_rest : IsAtRest hook_meaning hook_codec h → IsAtRest hook_meaning hook_codec after
  raise_rest rest m = spares_rest hook_meaning hook_codec cs h b low keeps.law raise_spares m (rest m)

  -- a root that is none of the mask's names what it named
  pub raise_other : (r : ℕ) → r ≢ places.mask_root slot → ((k : ℕ) → k < mask.size → r ≢ bucket_root mask k) → root_of after r ≡ root_of h r
  raise_other r apart away = root_of_none h cs r (λ j c e same. not_it j c (commit_at j c e) same)
    where
      not_it : (j : ℕ) (c : Commit Edit) → IsOne j c → c.root ≡ r → ⊥
      not_it j c (inl o) same = away j o.0 (sym same ∙ ap (λ (z : Commit Edit). z.root) o.1)
      not_it j c (inr o) same = apart (sym same ∙ ap (λ (z : Commit Edit). z.root) o.1)

  action_same : (s : ℕ) → s < ACTION_SLOTS → root_of after (places.action_root s) ≡ root_of h (places.action_root s)
  action_same s less = raise_other (places.action_root s) (λ same. let small = can.small in absurd (omega (arith, same, small, less))) (λ k inside same. absurd (omega (arith, same, less)))

  put_on : (a : ℕ) → IsPutAction hook_meaning hook_codec b h y a → IsPutAction hook_meaning hook_codec b after y a
  put_on a put = let same = action_same put.slot put.there.puts.small in record {
    slot = put.slot;
    there = slot_longer hook_codec h cs a put.slot put.there;
    unused = raise_spared.unused (places.action_root put.slot) put.unused;
    stamp = ap (λ (n : Named). n.stamp) same ∙ (put.stamp ∙ ap (λ (es : List Edit). length es + 1) (sym raise_spared.edits));
    reads = subst (λ (n : Named). ReadsAction hook_meaning hook_codec a n.chain (next after y)) (sym same)
        (subst (λ (s : State). ReadsAction hook_meaning hook_codec a (root_of h (places.action_root put.slot)).chain s) (sym raise_next) put.reads);
  }

  -- the edit is as ready after them
  pub raise_ready : IsReady after b y
  raise_ready = record {
    state = ready.state;
    done = ready.done;
    accepted = record {
      keeps = raise_spared.keeps;
      low = omega (arith, low, length-append h cs);
      line = ready.accepted.line;
      steps = ap (λ (s : State). step s y) raise_now ∙ ready.accepted.steps;
    };
    made = λ a live. pick a (ready.made a (subst (λ (s : State). IsLive hook_meaning s a) raise_next live));
  }
    where
      pick : (a : ℕ) → IsLive hook_meaning (now h) a ⊎ IsPutAction hook_meaning hook_codec b h y a → IsLive hook_meaning (now after) a ⊎ IsPutAction hook_meaning hook_codec b after y a
      pick a (inl before) = inl (subst (λ (s : State). IsLive hook_meaning s a) (sym raise_now) before)
      pick a (inr put) = inr (put_on a put)
