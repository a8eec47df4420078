-- One more mask is built: those that were built before stay prepared.
use Rattle.std.proofs.Common.{◌≡◌, ◌≢◌, ◌∙◌, ◌⊎◌, inl, inr, ℕ, zero, suc, ◌+◌, ◌*◌, ◌/◌, ◌<◌, ◌≤◌, List, [], ◌∷◌, ◌++◌, length, get_or, slice_get, Some, refl, sym, ap, subst, arith}
use mathlib.Core.Logic.{dite}
use native.Mathlib.Decide.{dec_lt}
use Rattle.std.proofs.lemmas.Option.{same_Some, slice_get_within, get_or_from_slice_get}
use Rattle.visit_room.specs.declared.names.MaskName.{MaskName}
use Rattle.store_history.specs.declared.history.Commit.{Commit}
use Rattle.store_history.specs.declared.history.Named.{Named}
use Rattle.store_history.specs.History.{root_of}
use Rattle.store_history.specs.Reads.{read_first}
use Rattle.store_history.proofs.Lists.{some_is}
use Rattle.store_history.specs.declared.places.TheConstants.{ROWS, ROOTS}
use Rattle.flow_mask.specs.Sizes.{size_of}
use Rattle.filter_state.specs.declared.edit.Edit.{Edit}
use Rattle.filter_state.specs.States.{State}
use Rattle.block_codec.specs.declared.mask.StoredMask.{StoredMask}
use Rattle.mask_table.specs.Buckets.{bucket_root}
use Rattle.mask_table.specs.OfMirrors.Linked.{placed, raise_commits}
use Rattle.hook_law.specs.Places as places
use Rattle.hook_law.specs.Records.{MaskRecord}
use Rattle.hook_law.specs.Meaning.{point_of}
use Rattle.hook_law.specs.Heads.{IsPrepared}
use Rattle.hook_law.proofs.Lists.{root_of_none}
use Rattle.hook_store_law.specs.Stated.{hook_meaning, filters_at}
use Rattle.hook_store_law.specs.Blocks.{mask_record, hook_codec}
use Rattle.hook_store_law.specs.Kept.{KeepsHook}
use Rattle.hook_store_law.specs.OfEdits.Premises.{next}
use Rattle.desk_heads.specs.OfHeadCommits.Raised.{stored_next, IsReady, CanRaise}
use Rattle.desk_heads.specs.OfHeadCommits.Given.{AreFresh}
use Rattle.desk_heads.specs.OfHeadCommits.Built.{IsBuilt}
use Rattle.desk_heads.proofs.OfHeadCommits.Raising.{IsOne, commit_at, raise_spares, raise_prepares, raise_record, raise_next}
use Rattle.desk_heads.proofs.OfHeadCommits.Prepared.{prepared_stays}

-- ---- the list of those that were built
last_or : {A : Type 0} (xs : List A) (x : A) (j : ℕ) (c : A) → slice_get (xs ++ x ∷ []) j ≡ Some c → (slice_get xs j ≡ Some c) ⊎ (x ≡ c)
last_or [] x zero c e = inr (same_Some x c e)
last_or [] x (suc j) c e = absurd (cc e)
last_or (z ∷ zs) x zero c e = inl e
last_or (z ∷ zs) x (suc j) c e = last_or zs x j c e

front_get : {A : Type 0} (xs zs : List A) (n : ℕ) (c : A) → slice_get xs n ≡ Some c → slice_get (xs ++ zs) n ≡ Some c
front_get [] zs n c e = absurd (cc e)
front_get (x ∷ xs) zs zero c e = e
front_get (x ∷ xs) zs (suc n) c e = front_get xs zs n c e

last_get : {A : Type 0} (xs : List A) (x : A) → slice_get (xs ++ x ∷ []) (length xs) ≡ Some x
last_get [] x = refl
last_get (z ∷ zs) x = last_get zs x

pub built_sort : (built : List MaskName) (name : MaskName) (m s : ℕ) → IsBuilt (built ++ name ∷ []) m s → IsBuilt built m s ⊎ ((name.serial ≡ m) × (name.slot ≡ s))
built_sort built name m s x = pick (last_or built name x.place x.name x.there)
  where
    pick : (slice_get built x.place ≡ Some x.name) ⊎ (name ≡ x.name) → IsBuilt built m s ⊎ ((name.serial ≡ m) × (name.slot ≡ s))
    pick (inl at) = inl record { place = x.place; name = x.name; there = at; serial_is = x.serial_is; slot_is = x.slot_is }
    pick (inr same) = inr (ap (λ (n : MaskName). n.serial) same ∙ x.serial_is, ap (λ (n : MaskName). n.slot) same ∙ x.slot_is)

pub built_more : (built : List MaskName) (name : MaskName) (m s : ℕ) → IsBuilt built m s → IsBuilt (built ++ name ∷ []) m s
built_more built name m s x = record { place = x.place; name = x.name; there = front_get built (name ∷ []) x.place x.name x.there; serial_is = x.serial_is; slot_is = x.slot_is }

pub built_last : (built : List MaskName) (name : MaskName) → IsBuilt (built ++ name ∷ []) name.serial name.slot
built_last built name = record { place = length built; name = name; there = last_get built name; serial_is = refl; slot_is = refl }

module _ (h : List (Commit Edit)) (b : ℕ) (y : Edit) (slot : ℕ) (mask : StoredMask) (given : List ℕ) (blk : ℕ) (keeps : KeepsHook h b) (ready : IsReady h b y) (can : CanRaise h b y slot mask given) where
  abbrev pub cs : List (Commit Edit)
  cs = raise_commits slot mask blk (placed given (stored_next h y mask.serial)) (point_of h + 1)

  abbrev pub after : List (Commit Edit)
  after = h ++ cs

  abbrev pub name : MaskName
  name = record { serial = mask.serial; slot = slot }

  -- each commit is to a root that was stamped earlier, within the roots of slots and rows
  spare_at : (j : ℕ) (c : Commit Edit) → slice_get cs j ≡ Some c → ((root_of h c.root).stamp ≤ point_of h) × (c.root < ROOTS)
  spare_at j c e = sort (commit_at h b y slot mask given blk keeps ready can j c e)
    where
      sort : IsOne h b y slot mask given blk keeps ready can j c → ((root_of h c.root).stamp ≤ point_of h) × (c.root < ROOTS)
      sort (inl o) = let less = o.0 in let count = can.storable.rows in let inside : j / 16 < length mask.rows = omega (arith, less, count) in let at_row = can.storable.each_row (j / 16) 0 inside in
          (subst (λ (z : Commit Edit). (root_of h z.root).stamp ≤ point_of h) (sym o.1) (can.at_rows j o.0).early, subst (λ (z : Commit Edit). z.root < ROOTS) (sym o.1) (omega (arith, at_row)))
      sort (inr o) = let small = can.small in
          (subst (λ (z : Commit Edit). (root_of h z.root).stamp ≤ point_of h) (sym o.1) can.at_slot.early, subst (λ (z : Commit Edit). z.root < ROOTS) (sym o.1) (omega (arith, small)))

  -- ---- a mask that was prepared before
  module _ (m s : ℕ) (p : IsPrepared hook_meaning hook_codec b h y m s) where
    late_slot : (root_of h (places.mask_root s)).stamp ≡ point_of h + 1
    late_slot = p.put.stamp

    late_row : (k at_row : ℕ) → k < p.record_read.size → slice_get p.record_read.rows (places.row_of k) ≡ Some at_row → at_row < ROWS → (root_of h (places.bucket_root at_row (places.place_of k))).stamp ≡ point_of h + 1
    late_row k at_row less there small = (p.filled k at_row less there small).fills.stamp

    -- no commit is to a root of it
    pub other_slot : (j : ℕ) (c : Commit Edit) → slice_get cs j ≡ Some c → c.root ≢ places.mask_root s
    other_slot j c e same = let early = (spare_at j c e).0 in let late = late_slot in let is = ap (λ (r : ℕ). (root_of h r).stamp) same in absurd (omega (arith, early, late, is))

    pub other_row : (j : ℕ) (c : Commit Edit) (k at_row : ℕ) → slice_get cs j ≡ Some c → k < p.record_read.size → slice_get p.record_read.rows (places.row_of k) ≡ Some at_row → c.root ≢ places.bucket_root at_row (places.place_of k)
    other_row j c k at_row e less there same = dite (dec_lt at_row ROWS)
        (λ (small : at_row < ROWS). let early = (spare_at j c e).0 in let late = late_row k at_row less there small in let is = ap (λ (r : ℕ). (root_of h r).stamp) same in absurd (omega (arith, early, late, is)))
        (λ (large : at_row < ROWS → ⊥). let high = (spare_at j c e).1 in absurd (omega (arith, large, high, same)))

    pub still : IsPrepared hook_meaning hook_codec b after y m s
    still = prepared_stays h cs b y m s ready.accepted.low keeps.law (raise_spares h b y slot mask given blk keeps ready can) p other_slot other_row

    -- what is read at the slot afterwards is the same record
    pub still_record : (it : IsPrepared hook_meaning hook_codec b after y m s) → it.record_read ≡ p.record_read
    still_record it = some_is it.record_read p.record_read (sym it.read ∙ (ap (λ (n : Named). read_first hook_codec.mask n.chain) (root_of_none h cs (places.mask_root s) other_slot) ∙ p.read))

    pub apart_slot : s ≢ slot
    apart_slot same = let late = late_slot in let early = can.at_slot.early in let is = ap (λ (n : ℕ). (root_of h (places.mask_root n)).stamp) same in absurd (omega (arith, late, early, is))

    -- it has no row of the new mask
    pub apart_row : (i j at_row : ℕ) → slice_get p.record_read.rows i ≡ Some at_row → slice_get mask.rows j ≡ Some at_row → ⊥
    apart_row i j at_row e f =
        let inside = slice_get_within p.record_read.rows i at_row e in let own = slice_get_within mask.rows j at_row f in let count = can.storable.rows in
        let whole : length p.put.reads.mask.rows * 16 ≡ p.put.reads.mask.size = p.put.reads.rows in
        let one : p.put.reads.mask ≡ p.record_read = some_is p.put.reads.mask p.record_read (sym p.put.reads.read ∙ p.read) in
        let size : length p.record_read.rows * 16 ≡ p.record_read.size = subst (λ (r : MaskRecord). length r.rows * 16 ≡ r.size) one whole in
        let small : at_row < ROWS = subst (λ (n : ℕ). n < ROWS) (get_or_from_slice_get mask.rows j at_row 0 f) (can.storable.each_row j 0 own) in
        let place : i ≡ 16 * i / 16 = omega arith in let place2 : j ≡ 16 * j / 16 = omega arith in
        let late = late_row (16 * i) at_row (omega (arith, size, inside)) (subst (λ (n : ℕ). slice_get p.record_read.rows n ≡ Some at_row) place e) small in
        let early = (can.at_rows (16 * j) (omega (arith, count, own))).early in
        let row_is : get_or mask.rows (16 * j / 16) 0 ≡ at_row = ap (λ (n : ℕ). get_or mask.rows n 0) (sym place2) ∙ get_or_from_slice_get mask.rows j at_row 0 f in
        let same : bucket_root mask (16 * j) ≡ places.bucket_root at_row (places.place_of (16 * i)) = omega (arith, row_is) in
        let is = ap (λ (r : ℕ). (root_of h r).stamp) same in absurd (omega (arith, late, early, is))

  own : IsPrepared hook_meaning hook_codec b after y mask.serial slot
  own = raise_prepares h b y slot mask given blk keeps ready can

  own_record : (m s : ℕ) → slot ≡ s → (it : IsPrepared hook_meaning hook_codec b after y m s) → it.record_read ≡ mask_record mask
  unfolding own
  own_record m s same it = some_is it.record_read own.record_read (sym it.read ∙ (ap (λ (n : ℕ). read_first hook_codec.mask (root_of after (places.mask_root n)).chain) (sym same) ∙ own.read))
      ∙ raise_record h b y slot mask given blk keeps ready can

  -- ---- all that were built
  pub fresh_after : (built : List MaskName) → AreFresh h b y (IsBuilt built) → AreFresh after b y (IsBuilt (built ++ name ∷ []))
  fresh_after built fresh = record {
    prepared = λ m s x. prepared m s (built_sort built name m s x);
    sized = λ m s x it. sized m s it (built_sort built name m s x);
    apart = λ m n s t i j at_row x z it also e f. apart m n s t i j at_row it also e f (built_sort built name m s x) (built_sort built name n t z);
  }
    where
      Sorted : ℕ → ℕ → Type 0
      Sorted m s = IsBuilt built m s ⊎ ((mask.serial ≡ m) × (slot ≡ s))

      prepared : (m s : ℕ) → IsBuilt built m s ⊎ ((mask.serial ≡ m) × (slot ≡ s)) → IsPrepared hook_meaning hook_codec b after y m s
      prepared m s (inl x) = still m s (fresh.prepared m s x)
      prepared m s (inr is) = subst (λ (n : ℕ). IsPrepared hook_meaning hook_codec b after y n s) is.0 (subst (λ (n : ℕ). IsPrepared hook_meaning hook_codec b after y mask.serial n) is.1 own)

      sized : (m s : ℕ) (it : IsPrepared hook_meaning hook_codec b after y m s) → IsBuilt built m s ⊎ ((mask.serial ≡ m) × (slot ≡ s)) → it.record_read.size ≡ size_of (length (filters_at (next after y) m))
      sized m s it (inl x) = ap (λ (r : MaskRecord). r.size) (still_record m s (fresh.prepared m s x) it)
          ∙ (fresh.sized m s x (fresh.prepared m s x) ∙ ap (λ (t : State). size_of (length (filters_at t m))) (sym (raise_next h b y slot mask given blk keeps ready can)))
      sized m s it (inr is) = ap (λ (r : MaskRecord). r.size) (own_record m s is.1 it)
          ∙ (can.size ∙ (ap (λ (n : ℕ). size_of (length (filters_at (next h y) n))) is.0 ∙ ap (λ (t : State). size_of (length (filters_at t m))) (sym (raise_next h b y slot mask given blk keeps ready can))))

      apart : (m n s t i j at_row : ℕ) (it : IsPrepared hook_meaning hook_codec b after y m s) (also : IsPrepared hook_meaning hook_codec b after y n t) → slice_get it.record_read.rows i ≡ Some at_row
          → slice_get also.record_read.rows j ≡ Some at_row → IsBuilt built m s ⊎ ((mask.serial ≡ m) × (slot ≡ s)) → IsBuilt built n t ⊎ ((mask.serial ≡ n) × (slot ≡ t)) → s ≡ t
      apart m n s t i j at_row it also e f (inl x) (inl z) = fresh.apart m n s t i j at_row x z (fresh.prepared m s x) (fresh.prepared n t z)
          (subst (λ (r : MaskRecord). slice_get r.rows i ≡ Some at_row) (still_record m s (fresh.prepared m s x) it) e)
          (subst (λ (r : MaskRecord). slice_get r.rows j ≡ Some at_row) (still_record n t (fresh.prepared n t z) also) f)
      apart m n s t i j at_row it also e f (inl x) (inr is) = absurd (apart_row m s (fresh.prepared m s x) i j at_row
          (subst (λ (r : MaskRecord). slice_get r.rows i ≡ Some at_row) (still_record m s (fresh.prepared m s x) it) e) (subst (λ (r : MaskRecord). slice_get r.rows j ≡ Some at_row) (own_record n t is.1 also) f))
      apart m n s t i j at_row it also e f (inr is) (inl z) = absurd (apart_row n t (fresh.prepared n t z) j i at_row
          (subst (λ (r : MaskRecord). slice_get r.rows j ≡ Some at_row) (still_record n t (fresh.prepared n t z) also) f) (subst (λ (r : MaskRecord). slice_get r.rows i ≡ Some at_row) (own_record m s is.1 it) e))
      apart m n s t i j at_row it also e f (inr is) (inr also_is) = sym is.1 ∙ also_is.1
