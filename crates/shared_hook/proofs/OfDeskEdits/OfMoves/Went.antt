-- The head's commit of a filter that moves: what it asks, and which masks are gone behind it.
use Rattle.std.proofs.Common.{◌≡◌, ◌≢◌, ◌∙◌, ◌⊎◌, inl, inr, ℕ, zero, suc, ◌+◌, ◌*◌, ◌/◌, ◌<◌, ◌≤◌, Bool, true, false, List, [], ◌∷◌, ◌++◌, length, map, slice_get, Option, Some, None, refl, sym, ap, subst, arith}
use mathlib.Core.Logic.{dite}
use native.Mathlib.Decide.{ℕ_discrete}
use Rattle.std.specs.List.{range_with_len, list_any}
use Rattle.std.proofs.lemmas.Option.{slice_get_within, get_or_from_slice_get}
use Rattle.std.specs.Prelude.{All}
use Rattle.tc_base.specs.declared.hook.Hook.{Hook}
use Rattle.tc_base.specs.declared.hook.Hook.TheVariants as hooks
use Rattle.visit_room.specs.declared.names.MaskName.{MaskName}
use Rattle.store_history.specs.declared.history.Commit.{Commit}
use Rattle.store_history.specs.declared.history.Link.{Link}
use Rattle.store_history.specs.History.{root_of}
use Rattle.store_history.proofs.Histories.{root_other}
use Rattle.store_history.specs.declared.places.TheConstants.{MASK_SLOTS, ROW_BUCKETS, MASK_ROOTS, BUCKET_ROOTS}
use Rattle.pin_store.specs.declared.shape.Shape.{Shape}
use Rattle.flow_mask.specs.Sizes.{size_of}
use Rattle.filter_state.specs.declared.edit.Edit.{Edit}
use Rattle.filter_state.specs.Order.{of_mask}
use Rattle.filter_state.specs.States.{State}
use Rattle.filter_state.specs.Sound.{Sound}
use Rattle.block_codec.specs.declared.mask.StoredMask.{StoredMask}
use Rattle.block_codec.specs.declared.table.StoredTable.{StoredTable}
use Rattle.block_codec.specs.Names.{IsMaskName}
use Rattle.block_codec.specs.OfReadings.Read.{mask_of_words}
use Rattle.hook_store_law.specs.OfEffects.Parts.{Stands}
use Rattle.mask_table.specs.Buckets.{bucket_root}
use Rattle.mask_table.specs.declared.mirrors.mirror.KeptMask.{KeptMask}
use Rattle.mask_table.specs.OfMirrors.Forgetting.{blocks_of, bucket_blocks}
use Rattle.mask_writer.specs.Masks.{Masks}
use Rattle.mask_writer.specs.Standing.{StandsAt}
use Rattle.mask_writer.proofs.Standing.{record_read, mask_storable}
use Rattle.miniq_pair.specs.Heads.{hook_number, head_root}
use Rattle.miniq_pair.specs.Pairs.{first_block_of, swap_commit}
use Rattle.hook_law.specs.Places as places
use Rattle.hook_law.specs.Records.{StatedTable}
use Rattle.hook_law.specs.Standing.{Role, Mask, Bucket, region_of, IsIn, IsMaskAt, Names, Stands as StandsRoot}
use Rattle.hook_law.specs.Keeping.{Keeps, IsAtRest, Present}
use Rattle.hook_law.proofs.Standing.{present_end, unused_end}
use Rattle.hook_store_law.specs.Stated.{TableNames, hook_meaning, tables_at}
use Rattle.hook_store_law.specs.Blocks.{mask_record, hook_codec}
use Rattle.hook_store_law.proofs.Reading.{first_maps}
use Rattle.hook_store_law.specs.Kept.{KeepsHook}
use Rattle.hook_store_law.specs.OfEdits.Premises.{now, next}
use Rattle.hook_store_law.proofs.OfEdits.Accepted.{sound}
use Rattle.desk_masks.specs.OfHeadChains.Chains.{stated_of, FitsTable, IsNamedIn}
use Rattle.desk_masks.proofs.OfHeadChains.HeadChains.{small_first, in_names}
use Rattle.desk_heads.specs.OfHeadCommits.Listed.{HasSerial}
use Rattle.desk_heads.specs.OfHeadCommits.Raised.{IsReady}
use Rattle.desk_heads.specs.OfHeadCommits.Built.{IsBuilt, IsConcerned}
use Rattle.desk_heads.proofs.OfHeadCommits.Places.{root_has, has_named}
use Rattle.desk_heads.proofs.OfHeadCommits.Standing.{standing, stands_on}
use Rattle.desk_pools.specs.OfNumbers.Numbers.{PoolNumbers}
use Rattle.desk_pools.specs.declared.pools.Pools.{Pools}
use Rattle.desk_pools.specs.Pools.{ArePools}
use Rattle.desk_pools.specs.Steps.{IsInPool, turned}
use Rattle.desk_masks.specs.declared.hook_tables.HookTables.{HookTables}
use Rattle.desk_masks.specs.Masks.{HasMask, HasMasks}
use Rattle.desk_masks.specs.Tables.{HasTables}
use Rattle.desk_parts.proofs.OfFinding.Standing.{stored_stated}
use Rattle.desk_needs.specs.Live.{count_of}
use Rattle.desk_heads.specs.Closes.{HoldsMasks, IsGone}
use Rattle.desk_heads.specs.Gives.{GivesTables}
use Rattle.desk_heads.proofs.Held.{held_whole}
use Rattle.desk_heads.specs.OfMoves.Builds.{HoldsBuilt}
use Rattle.desk_heads.proofs.OfMoves.BuiltMasks.{bucket_stood}
use Rattle.shared_hook.specs.OfDeskEdits.Parting.{IsToGo, IsParting, HaveLeft}
use Rattle.shared_hook.proofs.OfDeskEdits.Begun.{counted}
use Rattle.shared_hook.specs.OfDeskEdits.OfMoves.Raises.{HaveTheirBlocks}
use Rattle.shared_hook.specs.OfDeskEdits.OfMoves.Moves.{IsAtOld, old_slots, old_masks, IsToMove, MayPartAll}

-- ---- the masks at their old slots, by name
abbrev pub other_names : ℕ → Option ℕ → List MaskName
other_names to None = []
other_names to (Some other) = record { serial = to; slot = other } ∷ []

abbrev pub old_names : ℕ → ℕ → ℕ → Option ℕ → List MaskName
old_names to from slot into = record { serial = from; slot = slot } ∷ other_names to into

pub old_slots_are : (to from slot : ℕ) (into : Option ℕ) → map (λ (name : MaskName). name.slot) (old_names to from slot into) ≡ old_slots slot into
old_slots_are to from slot None = refl
old_slots_are to from slot (Some other) = refl

pub old_serials_are : (to from slot : ℕ) (into : Option ℕ) → map (λ (name : MaskName). name.serial) (old_names to from slot into) ≡ old_masks to from into
old_serials_are to from slot None = refl
old_serials_are to from slot (Some other) = refl

-- a mask stands or doesn't
stands_or : (s : State) (m : ℕ) → Stands s m ⊎ (Stands s m → ⊥)
stands_or s m = pick (list_any (of_mask m) s.rows) refl
  where
    pick : (t : Bool) → list_any (of_mask m) s.rows ≡ t → Stands s m ⊎ (Stands s m → ⊥)
    pick true is = inl is
    pick false is = inr (λ stands. let bad : true ≡ false = sym stands ∙ is in cc bad)

hook_of : (n : ℕ) → n < 2 → (hook : Hook) × (hook_number hook ≡ n)
hook_of zero less = (hooks.Ingress, refl)
hook_of (suc zero) less = (hooks.Egress, refl)
hook_of (suc (suc n)) less = absurd (omega (arith, less))

number_low : (hook : Hook) → hook_number hook < 2
number_low hooks.Ingress = omega arith
number_low hooks.Egress = omega arith

head_low : (hook : Hook) → head_root hook < MASK_ROOTS
head_low hooks.Ingress = omega arith
head_low hooks.Egress = omega arith

all_at : {A : Type 0} (P : A → Type 0) (xs : List A) (place : ℕ) (x : A) → All P xs → slice_get xs place ≡ Some x → P x
all_at P xs place x all e = subst P (get_or_from_slice_get xs place x x e) (all place x (slice_get_within xs place x e))

bucket_same : (h : List (Commit Edit)) (c : Commit Edit) → c.root < MASK_ROOTS → (mask : StoredMask) (ks : List ℕ) → blocks_of (root_of (h ++ c ∷ [])) (map (bucket_root mask) ks) ≡ blocks_of (root_of h) (map (bucket_root mask) ks)
bucket_same h c low mask [] = refl
bucket_same h c low mask (k ∷ ks) = let rest = bucket_same h c low mask ks in let one = root_other h c (bucket_root mask k) (λ same. omega (arith, low, same)) in
    λ t. map (λ (l : Link). l.block) (one t).chain ++ rest t

-- a mask that a head names stands in the state
pub stands_at : (h : List (Commit Edit)) (b : ℕ) → b ≤ length h → Keeps hook_meaning hook_codec h b → Sound (now h) → (m s : ℕ) → IsMaskAt hook_codec h m s → Stands (now h) m
stands_at h b low keeps is_sound m s at = let k = hook_of at.hook at.one in standing (now h) k.0 m is_sound
    (subst (λ (n : ℕ). HasSerial (tables_at (now h) n) m) (sym k.1) (root_has h m s at.hook (present_end hook_meaning hook_codec h b low keeps) at.one at.there))

-- a mask that kept tables name stands
named_at : (h : List (Commit Edit)) (hook : Hook) (kept : HookTables) → HasTables hook kept h → (m s : ℕ) → IsNamedIn kept.tables m s → IsMaskAt hook_codec h m s
named_at h hook kept has m s n = record {
  hook = hook_number hook;
  one = number_low hook;
  small = let fit = all_at FitsTable kept.tables n.place n.table has.fit n.there in subst (λ (k : ℕ). k < MASK_SLOTS) n.slot_is (all_at IsMaskName n.table.masks n.among n.name fit.storable.masks n.has).slot;
  there = subst (λ (ls : List Link). Names hook_codec ls m s) (sym has.chain)
      (in_names (first_block_of hook kept.pair.active) kept.tables m s has.fit (small_first hook kept.pair.active (length kept.tables) kept.pair.two has.few) n);
}

module _ (h : List (Commit Edit)) (b : ℕ) (y : Edit) (hook : Hook) (built : List MaskName) (slot : ℕ) (into : Option ℕ) (to from : ℕ) (keeps : KeepsHook h b) (ready : IsReady h b y) (rest : IsAtRest hook_meaning hook_codec h)
    (o : IsToMove h y hook built slot into to from) where
  abbrev C : ℕ → Type 0
  C = IsConcerned h y built

  low : b ≤ length h
  low = ready.accepted.low

  p : Present hook_meaning hook_codec h
  p = present_end hook_meaning hook_codec h b low keeps.law

  s_sound : Sound (now h)
  s_sound = sound h b y ready.state ready.done ready.accepted

  -- ---- which masks the edit concerns
  is_concerned : (m : ℕ) → (m ≡ to) ⊎ (m ≡ from) → C m
  is_concerned m (inl is) = subst C (sym is) (inl o.built_for.to_built)
  is_concerned m (inr is) = subst C (sym is) (pick (stands_or (next h y) from))
    where
      pick : Stands (next h y) from ⊎ (Stands (next h y) from → ⊥) → C from
      pick (inl stands) = inl (o.built_for.from_built stands)
      pick (inr none) = inr none

  pub gives : (masks : Masks) (shape : Shape) (cells : List ℕ) → HoldsBuilt masks shape cells h b y built → GivesTables h b y hook built
  gives masks shape cells holds = let l = o.leaves in record {
    ready = ready;
    rest = rest;
    leaves = record {
      heads = l.heads;
      words = λ m none. l.words m (λ is. none (is_concerned m is));
      filters = λ m none. l.filters m (λ is. none (is_concerned m is));
      params = l.params;
    };
    fresh = holds.fresh;
    here = o.built_for.here;
    small = λ m s x. let held = holds.has_built m s x in (holds.named.masks s held.kept held.stands).small;
  }

  stood : (m s : ℕ) → IsMaskAt hook_codec h m s → Stands (now h) m
  stood = stands_at h b low keeps.law s_sound

  not_concerned : (m s : ℕ) → IsMaskAt hook_codec h m s → m ≢ to → m ≢ from → C m → ⊥
  not_concerned m s at first second (inl x) = pick (o.built_for.each m x.0 x.1)
    where
      pick : (m ≡ to) ⊎ (m ≡ from) → ⊥
      pick (inl is) = first is
      pick (inr is) = second is
  not_concerned m s at first second (inr gone) = let l = o.leaves in gone (stands_on (now h) (next h y) m (l.filters m none) (stood m s at))
    where
      none : (m ≡ to) ⊎ (m ≡ from) → ⊥
      none (inl is) = first is
      none (inr is) = second is

  -- ---- the old slots
  from_at : IsMaskAt hook_codec h from slot
  from_at = by into o.at
    where
      by : (other : Option ℕ) → IsAtOld h to from slot other → IsMaskAt hook_codec h from slot
      by None at = at.0
      by (Some other) at = at.0

  abbrev In : ℕ → List MaskName → Type 0
  In s names = (name : MaskName) × IsIn name names × (name.slot ≡ s)

  -- the mask to which the filter comes is at one of them, where it stood
  to_in : (s : ℕ) → IsMaskAt hook_codec h to s → In s (old_names to from slot into)
  to_in s at = by into o.at
    where
      by : (other : Option ℕ) → IsAtOld h to from slot other → In s (old_names to from slot other)
      by None old = (record { serial = from; slot = slot }, (0, refl), sym (old.1 s at))
      by (Some other) old = (record { serial = to; slot = other }, (1, refl), p.one_mask to other s old.1 at)

  from_in : (s : ℕ) → IsMaskAt hook_codec h from s → In s (old_names to from slot into)
  from_in s at = (record { serial = from; slot = slot }, (0, refl), p.one_mask from slot s from_at at)

  each_old : (place : ℕ) (name : MaskName) → slice_get (old_names to from slot into) place ≡ Some name → IsMaskAt hook_codec h name.serial name.slot × C name.serial
  each_old place name e = by into o.at place e
    where
      Old : MaskName → Type 0
      Old n = IsMaskAt hook_codec h n.serial n.slot × C n.serial

      second : (other : ℕ) → IsMaskAt hook_codec h to other → (n : ℕ) → slice_get {X = MaskName} (record { serial = to; slot = other } ∷ []) n ≡ Some name → Old name
      second other at zero f = let same : record { serial = to; slot = other } ≡ name = cc f in subst Old same (at, is_concerned to (inl refl))
      second other at (suc n) f = absurd (cc f)

      by : (other : Option ℕ) → IsAtOld h to from slot other → (n : ℕ) → slice_get (old_names to from slot other) n ≡ Some name → Old name
      by other at zero f = let same : record { serial = from; slot = slot } ≡ name = cc f in subst Old same (from_at, is_concerned from (inr refl))
      by None at (suc n) f = absurd (cc f)
      by (Some other) at (suc n) f = second other at.1 n f

  apart_old : (i j : ℕ) (one other : MaskName) → slice_get (old_names to from slot into) i ≡ Some one → slice_get (old_names to from slot into) j ≡ Some other → one.slot ≡ other.slot → i ≡ j
  apart_old i j one other e f same = by into o.at i j e f
    where
      by : (more : Option ℕ) → IsAtOld h to from slot more → (n k : ℕ) → slice_get (old_names to from slot more) n ≡ Some one → slice_get (old_names to from slot more) k ≡ Some other → n ≡ k
      by more at zero zero a c = refl
      by None at zero (suc k) a c = absurd (cc c)
      by None at (suc n) k a c = absurd (cc a)
      by (Some more) at zero (suc zero) a c = let x : record { serial = from; slot = slot } ≡ one = cc a in let z : record { serial = to; slot = more } ≡ other = cc c in
          absurd (at.2 (ap (λ (n : MaskName). n.slot) z ∙ (sym same ∙ sym (ap (λ (n : MaskName). n.slot) x))))
      by (Some more) at (suc zero) zero a c = let x : record { serial = to; slot = more } ≡ one = cc a in let z : record { serial = from; slot = slot } ≡ other = cc c in
          absurd (at.2 (ap (λ (n : MaskName). n.slot) x ∙ (same ∙ sym (ap (λ (n : MaskName). n.slot) z))))
      by (Some more) at (suc zero) (suc zero) a c = refl
      by (Some more) at zero (suc (suc k)) a c = absurd (cc c)
      by (Some more) at (suc zero) (suc (suc k)) a c = absurd (cc c)
      by (Some more) at (suc (suc n)) k a c = absurd (cc a)

  -- ---- the masks that are held
  module _ (masks : Masks) (shape : Shape) (cells : List ℕ) (has : HoldsBuilt masks shape cells h b y built) (their : HaveTheirBlocks masks h) (pools : Pools) (are : ArePools pools h b) where
    module _ (m s : ℕ) (at : IsMaskAt hook_codec h m s) where
      it : HasMask masks h m s
      it = has.has m s at

      at_root : StandsRoot hook_meaning hook_codec h (places.mask_root s) (Mask m)
      at_root = (s, at, refl)

      slot_apart : IsInPool s pools.masks → ⊥
      slot_apart (inl in_) = unused_end hook_meaning hook_codec h b (MASK_ROOTS + 1 * s + 0) (Mask m) low (are.masks.may_be_given in_.0 s in_.1 0 (omega arith)) (subst (λ (r : ℕ). StandsRoot hook_meaning hook_codec h r (Mask m)) (omega arith) at_root)
      slot_apart (inr in_) = are.masks.have_left in_.0 s in_.1 0 (omega arith) (Mask m) (subst (λ (r : ℕ). StandsRoot hook_meaning hook_codec h r (Mask m)) (omega arith) at_root)

      row_apart : (at_row : ℕ) → IsIn at_row it.kept.mask.rows → IsInPool at_row pools.rows → ⊥
      row_apart at_row own in_ = by in_
        where
          its_rows : it.kept.mask.size ≡ 16 * length it.kept.mask.rows
          its_rows = (mask_storable masks shape cells (root_of h) has.named s it.kept it.stands).rows

          here : IsMaskAt hook_codec h it.kept.mask.serial s
          here = subst (λ (n : ℕ). IsMaskAt hook_codec h n s) (sym it.serial) at

          role : Role
          role = Bucket (region_of s it.kept.mask.serial (root_of h (places.mask_root s)).stamp (mask_record it.kept.mask)) (16 * own.0)

          is_row : bucket_root it.kept.mask (16 * own.0) ≡ BUCKET_ROOTS + ROW_BUCKETS * at_row + 0
          is_row = let place : own.0 ≡ 16 * own.0 / 16 = omega arith in let same = get_or_from_slice_get it.kept.mask.rows (16 * own.0 / 16) at_row 0 (subst (λ (n : ℕ). slice_get it.kept.mask.rows n ≡ Some at_row) place own.1) in omega (arith, same)

          there : StandsRoot hook_meaning hook_codec h (BUCKET_ROOTS + ROW_BUCKETS * at_row + 0) role
          there = subst (λ (r : ℕ). StandsRoot hook_meaning hook_codec h r role) is_row
              (bucket_stood masks shape cells h has.named s (16 * own.0) it.kept it.stands here (let inside = slice_get_within it.kept.mask.rows own.0 at_row own.1 in let count = its_rows in omega (arith, inside, count)))

          by : IsInPool at_row pools.rows → ⊥
          by (inl x) = unused_end hook_meaning hook_codec h b (BUCKET_ROOTS + ROW_BUCKETS * at_row + 0) role low (are.rows.may_be_given x.0 at_row x.1 0 (omega arith)) there
          by (inr x) = are.rows.have_left x.0 at_row x.1 0 (omega arith) role there

      its_size : it.kept.mask.size ≡ size_of (count_of (now h) m)
      its_size = rest m s (mask_record it.kept.mask) at
          (first_maps mask_record mask_of_words (root_of h (places.mask_root s)).chain it.kept.mask (record_read masks shape cells (root_of h) has.named s it.kept it.stands)) ∙ ap size_of (counted (now h) m)

    same_masks : (which : Hook) → (turned which pools).masks ≡ pools.masks
    same_masks hooks.Ingress = refl
    same_masks hooks.Egress = refl

    same_rows : (which : Hook) → (turned which pools).rows ≡ pools.rows
    same_rows hooks.Ingress = refl
    same_rows hooks.Egress = refl

    -- ---- behind the commit
    module _ (k : List (Commit Edit)) (c : ℕ) (low2 : c ≤ length k) (keeps2 : KeepsHook k c) (given : HookTables) (new : HasTables hook given k) (now_is : now k ≡ next h y) (cells2 : List ℕ) (holds : HoldsMasks masks shape cells2 k)
        (are2 : ArePools (turned hook pools) k c) (stays : (m s : ℕ) → IsMaskAt hook_codec h m s → (C m → ⊥) → IsMaskAt hook_codec k m s)
        (only : (m s : ℕ) → IsMaskAt hook_codec k m s → (IsMaskAt hook_codec h m s × (C m → ⊥)) ⊎ IsBuilt built m s)
        (goes : (m s : ℕ) → IsMaskAt hook_codec h m s → C m → IsGone masks k s) (place : ℕ) (tables : List StoredTable) (number : ℕ) (seen : k ≡ h ++ swap_commit hook place tables number y ∷ []) where
      to_go : (name : MaskName) → IsMaskAt hook_codec h name.serial name.slot → C name.serial → IsToGo masks (turned hook pools) k (count_of (now h)) name
      to_go name at con = record {
        kept = (it name.serial name.slot at).kept;
        small = at.small;
        stands = (it name.serial name.slot at).stands;
        gone = goes name.serial name.slot at con;
        slot_apart = λ in_. slot_apart name.serial name.slot at (subst (λ (q : PoolNumbers). IsInPool name.slot q) (same_masks hook) in_);
        rows_apart = λ at_row own in_. row_apart name.serial name.slot at at_row own (subst (λ (q : PoolNumbers). IsInPool at_row q) (same_rows hook) in_);
        row_count = (let size = its_size name.serial name.slot at in let mine = it name.serial name.slot at in let rows = (mask_storable masks shape cells (root_of h) has.named name.slot mine.kept mine.stands).rows in omega (arith, size, rows));
        block_count = (let mine = it name.serial name.slot at in
            ap (λ (l : List (Commit Edit)). length (bucket_blocks (root_of l) mine.kept.mask mine.kept.mask.size)) seen
            ∙ (ap length (bucket_same h (swap_commit hook place tables number y) (head_low hook) mine.kept.mask (range_with_len 0 mine.kept.mask.size)) ∙ their name.serial name.slot mine.kept at mine.stands));
      }

      -- a mask that was built stands there
      built_at : (m s : ℕ) → IsBuilt built m s → IsMaskAt hook_codec k m s
      built_at m s x = pick (only m n.0 at)
        where
          stated : map stated_of given.tables ≡ tables_at (next h y) (hook_number hook)
          stated = stored_stated k c low2 keeps2.law hook given new ∙ ap (λ (t : State). tables_at t (hook_number hook)) now_is

          n : (other : ℕ) × IsNamedIn given.tables m other
          n = has_named given.tables m (subst (λ (ts : List (StatedTable TableNames)). HasSerial ts m) (sym stated) (o.built_for.here m s x))

          at : IsMaskAt hook_codec k m n.0
          at = named_at k hook given new m n.0 n.1

          pick : (IsMaskAt hook_codec h m n.0 × (C m → ⊥)) ⊎ IsBuilt built m n.0 → IsMaskAt hook_codec k m s
          pick (inl old) = absurd (old.1 (inl (s, x)))
          pick (inr own) = subst (IsMaskAt hook_codec k m) (o.built_for.once m n.0 s own x) at

      abbrev Held : ℕ → KeptMask → Type 0
      Held s kept = IsMaskAt hook_codec k kept.mask.serial s ⊎ ((name : MaskName) × IsIn name (old_names to from slot into) × (name.slot ≡ s) × (false ≡ false))

      as_held : (s : ℕ) (kept : KeptMask) → In s (old_names to from slot into) → Held s kept
      as_held s kept n = inr (n.0, n.1, n.2, refl)

      only_held : (s : ℕ) (kept : KeptMask) → StandsAt masks s kept → Held s kept
      only_held s kept stands = sort (has.only s kept stands)
        where
          m : ℕ
          m = kept.mask.serial

          sort : IsMaskAt hook_codec h m s ⊎ IsBuilt built m s → Held s kept
          sort (inr x) = inl (built_at m s x)
          sort (inl at) = dite (ℕ_discrete m to)
              (λ (is : m ≡ to). as_held s kept (to_in s (subst (λ (n : ℕ). IsMaskAt hook_codec h n s) is at)))
              (λ (first : m ≢ to). dite (ℕ_discrete m from)
              (λ (is : m ≡ from). as_held s kept (from_in s (subst (λ (n : ℕ). IsMaskAt hook_codec h n s) is at)))
              (λ (second : m ≢ from). inl (stays m s at (not_concerned m s at first second))))

      pub parting : IsParting masks (turned hook pools) shape cells2 k c (count_of (now h)) [] (old_names to from slot into)
      parting = record {
        low = low2;
        holds = holds;
        are = are2;
        each = λ at name e none. let old = each_old at name e in to_go name old.0 old.1;
        only = only_held;
        apart = apart_old;
      }

      module _ (q : Pools) (q_is : q ≡ turned hook pools) where
        abbrev pub may_all : MayPartAll masks q (old_slots slot into)
        may_all = record {
          shape = shape;
          cells = cells2;
          h = k;
          b = c;
          count = count_of (now h);
          names = old_names to from slot into;
          slots_are = old_slots_are to from slot into;
          parting = subst (λ (z : Pools). IsParting masks z shape cells2 k c (count_of (now h)) [] (old_names to from slot into)) (sym q_is) parting;
        }

        -- ---- once they have left
        module _ (masks2 : Masks) (pools2 : Pools) (parted : (at : MayPartAll masks q (old_slots slot into)) → IsParting masks2 pools2 at.shape at.cells at.h at.b at.count [] [])
            (left : (at : MayPartAll masks q (old_slots slot into)) → HaveLeft at.count q pools2 (map (λ (name : MaskName). name.serial) at.names)) where
          end : IsParting masks2 pools2 shape cells2 k c (count_of (now h)) [] []
          end = parted may_all

          pub moved_pools : ArePools pools2 k c
          moved_pools = end.are

          pub moved_masks : HasMasks masks2 shape cells2 k
          moved_masks = held_whole masks2 shape cells2 k end.holds (λ s kept stands. pick s kept (end.only s kept stands))
            where
              pick : (s : ℕ) (kept : KeptMask) → IsMaskAt hook_codec k kept.mask.serial s ⊎ ((name : MaskName) × IsIn {A = MaskName} name [] × (name.slot ≡ s) × (false ≡ false)) → IsMaskAt hook_codec k kept.mask.serial s
              pick s kept (inl at) = at
              pick s kept (inr n) = let e = n.1.1 in absurd (cc e)

          pub moved_left : HaveLeft (count_of (now h)) (turned hook pools) pools2 (old_masks to from into)
          moved_left = subst (λ (z : Pools). HaveLeft (count_of (now h)) z pools2 (old_masks to from into)) q_is
              (subst (HaveLeft (count_of (now h)) q pools2) (old_serials_are to from slot into) (left may_all))
