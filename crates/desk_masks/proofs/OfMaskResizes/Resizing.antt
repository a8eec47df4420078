-- The commits of a whole mask keep the law of the hook, where they give a standing mask another number of buckets.
use Rattle.std.proofs.Common.{◌≡◌, ◌≢◌, ◌∙◌, ◌⊎◌, inl, inr, ℕ, zero, suc, ◌+◌, ◌*◌, ◌/◌, ◌%◌, ◌==◌, ◌<◌, ◌≤◌, Bool, true, false, cond, eqb, List, [], ◌∷◌, ◌++◌, length, map, take, get_or, slice_get, Option, Some, None, refl, sym, ap, subst, arith, append_assoc, length-append}
use Rattle.std.specs.List.{range_with_len, IsDistinct}
use Rattle.std.proofs.lemmas.Bool.{eqb-false}
use Rattle.std.specs.Option.{option_map}
use Rattle.std.specs.Prelude.{slice_index, if◌then◌else◌}
use mathlib.Core.Logic.{dite}
use native.Mathlib.Decide.{dec_le, dec_lt}
use Rattle.std.proofs.lemmas.List.{map-append, take-append-le, take_all}
use Rattle.std.proofs.lemmas.List.FromFn.{length-map-range_with_len}
use Rattle.std.proofs.lemmas.Map.Keys.{apart_from_distinct}
use Rattle.std.proofs.lemmas.Option.{get_or_from_slice_get, slice_get_within}
use Rattle.store_history.specs.declared.history.Commit.{Commit}
use Rattle.store_history.specs.declared.history.Link.{Link}
use Rattle.store_history.specs.Reads.{in_front, read_all, read_first}
use Rattle.store_history.specs.declared.places.TheConstants.{ROW_BUCKETS, BUCKET_ROOTS}
use Rattle.visit_room.specs.declared.names.ActionName.{ActionName}
use Rattle.flow_mask.specs.Hashes.{hash_of}
use Rattle.filter_state.specs.declared.edit.Edit.{Edit}
use Rattle.filter_state.specs.States.{State}
use Rattle.filter_state.specs.Sound.{Each, Sound}
use Rattle.filter_state.proofs.Pairs.{each_append}
use Rattle.block_codec.specs.declared.filter.StoredFilter.{StoredFilter}
use Rattle.block_codec.specs.declared.mask.StoredMask.{StoredMask}
use Rattle.block_codec.specs.OfReadings.Read.{filter_in, mask_of_words}
use Rattle.mask_table.specs.Buckets.{bucket_root, bucket_of}
use Rattle.mask_table.specs.OfMirrors.Linked.{Placed, placed, placed_in, linked, bucket_commit, mask_commit, bucket_commits, raise_commits}
use Rattle.mask_order.proofs.Placing.{placed_chain_reads}
use Rattle.block_codec.proofs.OfReadings.MaskReads.{mask_block_reads}
use Rattle.desk_masks.proofs.OfMaskResizes.Apart.{buckets_apart}
use Rattle.hook_law.specs.Places as places
use Rattle.hook_law.specs.Records.{Slotted, FilterRecord, StatedFilter, stated_filter, serials_of}
use Rattle.hook_law.specs.Chains as chains
use Rattle.hook_law.specs.Meaning.{point_of, now_of, before_of, IsLive}
use Rattle.hook_law.specs.Standing.{IsIn, AreDistinct, PutsAction, IsSlotOf, IsUnused}
use Rattle.hook_law.specs.Telling.{ReadsMask, ReadsBucket}
use Rattle.hook_law.specs.Keeping.{Keeps}
use Rattle.hook_law.specs.Slots.{slot_of}
use Rattle.hook_law.specs.Unnumbered.{HaveOwnRoots, Spares, SparesAll, FillsBucket, IsFilledBy, ResizesWhole}
use Rattle.hook_law.proofs.Standing.{present_end}
use Rattle.hook_law.proofs.Slots.{slot_is}
use Rattle.hook_law.proofs.Whole.{whole_keeps, part_keeps}
use Rattle.hook_store_law.specs.Stated.{hook_meaning, filters_at}
use Rattle.hook_store_law.specs.Blocks.{action_slotted, mask_record, filter_record, hook_codec}
use Rattle.hook_store_law.specs.Told.{action_name, with_slots}
use Rattle.hook_store_law.proofs.States.{state_is, sound_after}
use Rattle.desk_masks.proofs.OfMaskResizes.Living.{all_live}
use Rattle.desk_masks.specs.OfMaskResizes.Resized.{stored_now, CanResize}

-- ---- lists
pub mapped_at : {A B : Type 0} (f : A → B) (xs : List A) (j : ℕ) (c : B) → slice_get (map f xs) j ≡ Some c → (x : A) × (slice_get xs j ≡ Some x) × (c ≡ f x)
mapped_at f [] j c e = absurd (cc e)
mapped_at f (x ∷ xs) zero c e = let same : f x ≡ c = cc e in (x, refl, sym same)
mapped_at f (x ∷ xs) (suc j) c e = mapped_at f xs j c e

pub range_at : (first count place k : ℕ) → slice_get (range_with_len first count) place ≡ Some k → (k ≡ first + place) × (place < count)
range_at first zero place k e = absurd (cc e)
range_at first (suc count) zero k e = let same : first ≡ k = cc e in (omega (arith, same), omega arith)
range_at first (suc count) (suc place) k e = let r = range_at (first + 1) count place k e in let a = r.0 in let b = r.1 in (omega arith, omega arith)

pub range_has : {B : Type 0} (f : ℕ → B) (first count j : ℕ) → j < count → slice_get (map f (range_with_len first count)) j ≡ Some (f (first + j))
range_has f first zero j less = absurd (omega (arith, less))
range_has f first (suc count) zero less = ap (λ (n : ℕ). Some (f n)) (omega arith)
range_has f first (suc count) (suc j) less = range_has f (first + 1) count j (omega (arith, less)) ∙ ap (λ (n : ℕ). Some (f n)) (omega arith)

-- ---- chains of filters
module _ {A B : Type 0} (f : A → B) (read : List ℕ → Option A) where
  abbrev mapped : List ℕ → Option B
  mapped words = option_map f (read words)

  front_maps : (one : Option A) (rest : Option (List A)) (rest2 : Option (List B)) (xs : List A) → in_front one rest ≡ Some xs → ((zs : List A) → rest ≡ Some zs → rest2 ≡ Some (map f zs)) → in_front (option_map f one) rest2 ≡ Some (map f xs)
  front_maps (Some x) (Some zs) rest2 xs e more = let same : x ∷ zs ≡ xs = cc e in ap (in_front (Some (f x))) (more zs refl) ∙ ap (λ (ws : List A). Some (map f ws)) same
  front_maps (Some x) None rest2 xs e more = absurd (cc e)
  front_maps None rest rest2 xs e more = absurd (cc e)

  pub all_maps : (chain : List Link) (xs : List A) → read_all read chain ≡ Some xs → read_all mapped chain ≡ Some (map f xs)
  all_maps [] xs e = let none : [] ≡ xs = cc e in ap (λ (zs : List A). Some (map f zs)) none
  all_maps (l ∷ ls) xs e = front_maps (read l.words) (read_all read ls) (read_all mapped ls) xs e (all_maps ls)

-- a stored filter as the state has it
serials_back : (h : List (Commit Edit)) (serials : List ℕ) → serials_of (map action_slotted (map action_name (map (λ (a : ℕ). record { serial = a; slot = slot_of hook_codec h a }) serials))) ≡ serials
serials_back h [] = refl
serials_back h (a ∷ rest) = ap (λ (l : List ℕ). a ∷ l) (serials_back h rest)

pub stated_back : (h : List (Commit Edit)) (fs : List StatedFilter) → map stated_filter (map filter_record (map (with_slots h) fs)) ≡ fs
stated_back h [] = refl
stated_back h (f ∷ fs) = let one = serials_back h f.actions in let rest = stated_back h fs in λ t. record { handle = f.handle; key = f.key; actions = one t } ∷ rest t

pub in_bucket : (h : List (Commit Edit)) (size bucket : ℕ) (fs : List StatedFilter) → bucket_of size bucket (map (with_slots h) fs) ≡ map (with_slots h) (chains.bucket_of hash_of size bucket fs)
in_bucket h size bucket [] = refl
in_bucket h size bucket (f ∷ fs) = at (hash_of f.key % size == bucket) (in_bucket h size bucket fs)
  where
    at : (b : Bool) → bucket_of size bucket (map (with_slots h) fs) ≡ map (with_slots h) (chains.bucket_of hash_of size bucket fs)
        → bucket_of size bucket (map (with_slots h) fs) ++ (if b then with_slots h f ∷ [] else []) ≡ map (with_slots h) (chains.bucket_of hash_of size bucket fs ++ (if b then f ∷ [] else []))
    at true e = ap (λ z. z ++ with_slots h f ∷ []) e ∙ sym (map-append (with_slots h) (chains.bucket_of hash_of size bucket fs) (f ∷ []))
    at false e = ap (λ z. z ++ []) e ∙ sym (map-append (with_slots h) (chains.bucket_of hash_of size bucket fs) [])

-- those of a bucket are among all
pub each_bucket : (P : StatedFilter → Type 0) (size bucket : ℕ) (fs : List StatedFilter) → Each P fs → Each P (chains.bucket_of hash_of size bucket fs)
each_bucket P size bucket [] all = tt
each_bucket P size bucket (f ∷ fs) all = add (chains.bucket_of hash_of size bucket fs) (hash_of f.key % size == bucket) (each_bucket P size bucket fs all.1)
  where
    add : (xs : List StatedFilter) (t : Bool) → Each P xs → Each P (xs ++ (if t then f ∷ [] else []))
    add xs true rest = each_append P xs (f ∷ []) rest (all.0, tt)
    add xs false rest = each_append P xs [] rest tt

-- names in stored filters have their actions' slots
names_good : (h : List (Commit Edit)) (Q : ℕ → ℕ → Type 0) (actions : List ℕ) → Each (λ (a : ℕ). Q a (slot_of hook_codec h a)) actions → (x : Slotted)
    → IsIn x (map action_slotted (map action_name (map (λ (a : ℕ). record { serial = a; slot = slot_of hook_codec h a }) actions))) → Q x.serial x.slot
names_good h Q [] all x at = let e = at.1 in absurd (cc e)
names_good h Q (a ∷ rest) all x at = walk at.0 at.1 (λ m. names_good h Q rest all.1 x m)
  where
    walk : (place : ℕ) → slice_get (record { serial = a; slot = slot_of hook_codec h a } ∷ map action_slotted (map action_name (map (λ (c : ℕ). record { serial = c; slot = slot_of hook_codec h c }) rest))) place ≡ Some x
        → (IsIn x (map action_slotted (map action_name (map (λ (c : ℕ). record { serial = c; slot = slot_of hook_codec h c }) rest))) → Q x.serial x.slot) → Q x.serial x.slot
    walk zero e more = let same : record { serial = a; slot = slot_of hook_codec h a } ≡ x = cc e in subst (λ (z : Slotted). Q z.serial z.slot) same all.0
    walk (suc place) e more = more (place, e)

pub filters_good : (h : List (Commit Edit)) (Q : ℕ → ℕ → Type 0) (fs : List StatedFilter) → Each (λ (f : StatedFilter). Each (λ (a : ℕ). Q a (slot_of hook_codec h a)) f.actions) fs → (g : FilterRecord) (x : Slotted)
    → IsIn g (map filter_record (map (with_slots h) fs)) → IsIn x g.actions → Q x.serial x.slot
filters_good h Q [] all g x at inx = let e = at.1 in absurd (cc e)
filters_good h Q (f ∷ fs) all g x at inx = walk at.0 at.1 (λ m. filters_good h Q fs all.1 g x m inx)
  where
    walk : (place : ℕ) → slice_get (filter_record (with_slots h f) ∷ map filter_record (map (with_slots h) fs)) place ≡ Some g → (IsIn g (map filter_record (map (with_slots h) fs)) → Q x.serial x.slot) → Q x.serial x.slot
    walk zero e more = let same : filter_record (with_slots h f) ≡ g = cc e in names_good h Q f.actions all.0 x (subst (λ (z : FilterRecord). IsIn x z.actions) (sym same) inx)
    walk (suc place) e more = more (place, e)

pub each_as : {X : Type 0} (P Q : X → Type 0) → ((x : X) → P x → Q x) → (xs : List X) → Each P xs → Each Q xs
each_as P Q f [] all = tt
each_as P Q f (x ∷ xs) all = (f x all.0, each_as P Q f xs all.1)

-- rows that are distinct by their test
clash : (x y z : ℕ) → eqb x y ≡ false → x ≡ z → y ≡ z → ⊥
clash x y z f a c = eqb-false x y f (a ∙ sym c)

never : (rows : List ℕ) → IsDistinct eqb rows → (k l x : ℕ) → k < l → slice_get rows k ≡ Some x → slice_get rows l ≡ Some x → ⊥
never rows different k l x less a c = clash (get_or rows k 0) (get_or rows l 0) x (apart_from_distinct eqb rows k l 0 different less (slice_get_within rows l x c)) (get_or_from_slice_get rows k x 0 a) (get_or_from_slice_get rows l x 0 c)

pub rows_distinct : (rows : List ℕ) → IsDistinct eqb rows → AreDistinct rows
rows_distinct rows different i j x a c = dite (dec_lt i j) (λ (less : i < j). absurd (never rows different i j x less a c))
    (λ (no : i < j → ⊥). dite (dec_lt j i) (λ (more : j < i). absurd (never rows different j i x more c a)) (λ (none : j < i → ⊥). omega arith))

-- ---- a resize
module _ (h : List (Commit Edit)) (b slot : ℕ) (mask : StoredMask) (given : List ℕ) (blk : ℕ) (low : b ≤ length h) (keeps : Keeps hook_meaning hook_codec h b) (can : CanResize h b slot mask given) where
  abbrev fs : List StatedFilter
  fs = filters_at (now_of hook_meaning h) mask.serial

  abbrev ps : List Placed
  ps = placed given (stored_now h mask.serial)

  abbrev pub commit : ℕ → Commit Edit
  commit = bucket_commit mask ps (point_of h)

  abbrev pub cs : List (Commit Edit)
  cs = bucket_commits mask ps (point_of h) mask.size

  abbrev pub last : Commit Edit
  last = mask_commit slot mask blk (point_of h)

  commit_at : (j : ℕ) (c : Commit Edit) → slice_get cs j ≡ Some c → (j < mask.size) × (c ≡ commit j)
  commit_at j c e = let m = mapped_at commit (range_with_len 0 mask.size) j c e in let r = range_at 0 mask.size j m.0 m.1 in let off = r.0 in let same : m.0 ≡ j = omega (arith, off) in (r.1, m.2 ∙ ap commit same)

  no_action : (j a s : ℕ) → PutsAction hook_codec (commit j) a s → ⊥
  no_action j a s puts = let root = puts.root in let small = puts.small in absurd (omega (arith, root, small))

  spares : SparesAll hook_meaning hook_codec b h cs
  spares = record {
    each = λ j c e. let m = commit_at j c e in subst (Spares hook_meaning hook_codec b h) (sym m.1) (record {
      plain = refl;
      stamp = inl refl;
      unused = can.unused j m.0;
      first = λ a s before puts w. no_action j a s puts;
    });
    once = λ i j c d a s t less e e' puts puts'. let m = commit_at i c e in no_action i a s (subst (λ (z : Commit Edit). PutsAction hook_codec z a s) m.1 puts);
  }

  own : HaveOwnRoots cs
  own i j c d e e' same = let m = commit_at i c e in let n = commit_at j d e' in
      buckets_apart mask can.storable can.rows i j m.0 n.0 (sym (ap (λ (z : Commit Edit). z.root) m.1) ∙ (same ∙ ap (λ (z : Commit Edit). z.root) n.1))

  sound_now : Sound (now_of hook_meaning h)
  sound_now = subst Sound (sym (state_is _ (point_of h))) (sound_after h b (point_of h) keeps low)

  live_slot : (a : ℕ) → IsLive hook_meaning (now_of hook_meaning h) a → IsSlotOf hook_codec h a (slot_of hook_codec h a)
  live_slot a live = let p = (present_end hook_meaning hook_codec h b low keeps).placed a live in subst (IsSlotOf hook_codec h a) (slot_is hook_meaning hook_codec h b a p.0 low keeps p.1) p.1

  fills : (k : ℕ) → FillsBucket hook_meaning hook_codec h (commit k).named mask.serial mask.size k (point_of h) (now_of hook_meaning h)
  fills k = record {
    stamp = refl;
    reads = record {
      filters = map filter_record (map (with_slots h) (chains.bucket_of hash_of mask.size k fs));
      read = read_is;
      are = stated_back h (chains.bucket_of hash_of mask.size k fs);
    };
    names = λ gs g x read inf inx. filters_good h (IsSlotOf hook_codec h) (chains.bucket_of hash_of mask.size k fs)
        (each_bucket (λ (f : StatedFilter). Each (λ (a : ℕ). IsSlotOf hook_codec h a (slot_of hook_codec h a)) f.actions) mask.size k fs
        (each_as (λ (f : StatedFilter). Each (λ (a : ℕ). IsLive hook_meaning (now_of hook_meaning h) a) f.actions) (λ (f : StatedFilter). Each (λ (a : ℕ). IsSlotOf hook_codec h a (slot_of hook_codec h a)) f.actions)
        (λ f live. each_as (λ (a : ℕ). IsLive hook_meaning (now_of hook_meaning h) a) (λ (a : ℕ). IsSlotOf hook_codec h a (slot_of hook_codec h a)) live_slot f.actions live) fs (all_live (now_of hook_meaning h) mask.serial sound_now)))
        g x (subst (IsIn g) (same_list gs (map filter_record (map (with_slots h) (chains.bucket_of hash_of mask.size k fs))) (sym read ∙ read_is)) inf) inx;
  }
    where
      read_is : read_all hook_codec.filter (linked (placed_in mask.size k ps) []) ≡ Some (map filter_record (map (with_slots h) (chains.bucket_of hash_of mask.size k fs)))
      read_is = all_maps filter_record filter_in (linked (placed_in mask.size k ps) []) (bucket_of mask.size k (stored_now h mask.serial)) (placed_chain_reads mask.size k given (stored_now h mask.serial) can.fit)
          ∙ ap (λ (xs : List StoredFilter). Some (map filter_record xs)) (in_bucket h mask.size k fs)

      same_list : (xs ys : List FilterRecord) → Some xs ≡ Some ys → xs ≡ ys
      same_list xs ys e = cc e

  record_reads : read_first hook_codec.mask last.named.chain ≡ Some (mask_record mask)
  record_reads = ap (option_map mask_record) (mask_block_reads mask can.storable can.serial can.key)

  distinct : AreDistinct mask.rows
  distinct = rows_distinct mask.rows can.rows

  pub resizes : ResizesWhole hook_meaning hook_codec b h cs last
  resizes = record {
    serial = mask.serial;
    slot = slot;
    mask = mask_record mask;
    spare = spares;
    own_roots = own;
    plain = refl;
    stamp = refl;
    root = refl;
    at = can.at;
    read = record_reads;
    reads = record { mask = mask_record mask; read = record_reads; serial = refl; words = can.words; size = inl can.size; rows = let r = can.storable.rows in omega (arith, r) };
    filled = λ k group less there small. record {
      place = k;
      commit = commit k;
      there = range_has commit 0 mask.size k less ∙ ap (λ (n : ℕ). Some (commit n)) (omega arith);
      root = ap (λ (r : ℕ). BUCKET_ROOTS + ROW_BUCKETS * r + k % 16) (get_or_from_slice_get mask.rows (k / 16) group 0 there);
      fills = fills k;
    };
    distinct = distinct;
  }

  -- each first part of the commits keeps the law
  pub resize_lawful : (n : ℕ) → Keeps hook_meaning hook_codec (h ++ take n (raise_commits slot mask blk ps (point_of h))) b
  resize_lawful n = dite (dec_le n (length cs))
      (λ (le : n ≤ length cs). subst (λ (l : List (Commit Edit)). Keeps hook_meaning hook_codec (h ++ l) b) (sym (take-append-le n cs (last ∷ []) le)) (part_keeps hook_meaning hook_codec h cs b last resizes n low keeps))
      (λ (more : n ≤ length cs → ⊥). subst (λ (l : List (Commit Edit)). Keeps hook_meaning hook_codec (h ++ l) b) (sym (take_all n (cs ++ last ∷ []) (omega (arith, more, length-append cs (last ∷ [])))))
      (subst (λ (l : List (Commit Edit)). Keeps hook_meaning hook_codec l b) (append_assoc h cs (last ∷ [])) (whole_keeps hook_meaning hook_codec h cs b last resizes low keeps)))
