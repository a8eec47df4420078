-- Once a hook has its new tables: the masks that went are those that the old tables name and the new ones
-- don't, and each may be parted with.
use Rattle.std.proofs.Common.{◌≡◌, ◌≢◌, ◌∙◌, ◌⊎◌, inl, inr, ℕ, zero, suc, ◌<◌, ◌≤◌, Bool, true, false, List, [], ◌∷◌, ◌++◌, length, map, slice_get, Some, refl, sym, ap, subst, arith, filter}
use mathlib.Core.Logic.{dite}
use native.Mathlib.Decide.{ℕ_discrete}
use Rattle.std.specs.List.{range_with_len}
use Rattle.tc_base.specs.declared.hook.Hook.{Hook}
use Rattle.tc_base.specs.declared.hook.Hook.TheVariants as hooks
use Rattle.visit_room.specs.declared.names.MaskName.{MaskName}
use Rattle.store_history.specs.declared.history.Link.{Link}
use Rattle.store_history.specs.declared.history.Commit.{Commit}
use Rattle.store_history.specs.History.{root_of}
use Rattle.store_history.proofs.Histories.{root_other}
use Rattle.store_history.specs.declared.places.TheConstants.{MASK_ROOTS}
use Rattle.pin_store.specs.declared.shape.Shape.{Shape}
use Rattle.flow_mask.specs.Sizes.{size_of}
use Rattle.filter_state.specs.declared.edit.Edit.{Edit}
use Rattle.filter_state.specs.States.{State}
use Rattle.filter_state.specs.Sound.{Sound}
use Rattle.block_codec.specs.declared.mask.StoredMask.{StoredMask}
use Rattle.block_codec.specs.declared.table.StoredTable.{StoredTable}
use Rattle.block_codec.specs.OfReadings.Read.{mask_of_words}
use Rattle.filter_state.specs.Order.{of_mask}
use Rattle.hook_store_law.specs.OfEffects.Parts.{Stands, filter_of}
use Rattle.std.proofs.lemmas.List.{length-map}
use Rattle.mask_table.specs.Buckets.{bucket_root}
use Rattle.mask_table.specs.declared.mirrors.mirror.KeptMask.{KeptMask}
use Rattle.mask_table.specs.OfMirrors.Forgetting.{blocks_of, bucket_blocks}
use Rattle.mask_writer.specs.Masks.{Masks}
use Rattle.mask_writer.specs.Standing.{StandsAt}
use Rattle.mask_writer.proofs.Standing.{record_read, mask_storable}
use Rattle.miniq_pair.specs.Heads.{hook_number, head_root}
use Rattle.miniq_pair.specs.Pairs.{first_block_of, swap_commit}
use Rattle.hook_law.specs.Places as places
use Rattle.hook_law.specs.Standing.{IsIn, IsMaskAt, Names}
use Rattle.hook_law.specs.Keeping.{Present}
use Rattle.hook_law.proofs.Standing.{present_end}
use Rattle.hook_store_law.specs.Stated.{hook_meaning, tables_at, filters_at, filter_stated}
use Rattle.hook_store_law.specs.Blocks.{mask_record, hook_codec}
use Rattle.hook_store_law.proofs.Reading.{first_maps}
use Rattle.hook_store_law.specs.Kept.{KeepsHook}
use Rattle.hook_store_law.specs.OfEdits.Premises.{now, next}
use Rattle.hook_store_law.proofs.OfEdits.Accepted.{sound, next_sound}
use Rattle.desk_masks.specs.OfHeadChains.Chains.{stated_of, IsNamedIn}
use Rattle.desk_masks.proofs.OfHeadChains.HeadChains.{small_first, names_in as names_of_chain}
use Rattle.desk_heads.specs.OfHeadCommits.Listed.{HasSerial}
use Rattle.desk_heads.proofs.OfHeadCommits.Places.{one_place, root_has, state_has, has_named}
use Rattle.desk_heads.proofs.OfHeadCommits.Standing.{listed, standing}
use Rattle.desk_pools.specs.OfNumbers.Numbers.{PoolNumbers}
use Rattle.desk_pools.specs.declared.pools.Pools.{Pools}
use Rattle.desk_pools.specs.Pools.{ArePools}
use Rattle.desk_pools.specs.Steps.{IsInPool, turned}
use Rattle.desk_masks.specs.declared.hook_tables.HookTables.{HookTables}
use Rattle.desk_masks.specs.Masks.{HasMasks, HasMask}
use Rattle.desk_masks.specs.Tables.{HasTables}
use Rattle.desk_parts.proofs.OfFinding.Standing.{stored_stated}
use Rattle.desk_masks.proofs.OfFilterCommits.Locating.{own_serial}
use Rattle.desk_masks.proofs.OfResizes.Counting.{count_blocks}
use Rattle.desk_heads.specs.Closes.{ClosesMasks, HoldsMasks, IsGone}
use Rattle.desk_heads.proofs.Closed.{close_gives}
use Rattle.desk_heads.proofs.TablesGiven.{old_at}
use Rattle.desk_heads.proofs.Held.{held_apart}
use Rattle.desk_needs.specs.Live.{count_of}
use Rattle.shared_hook.specs.OfDeskEdits.Parting.{is_named, names_in, gone_of, IsToGo, IsParting}
use Rattle.shared_hook.specs.OfDeskEdits.Goes.{AreGone}
use Rattle.shared_hook.proofs.OfDeskEdits.Named.{named_true, true_named, located, same_place, in_flat, out_of, in_gone, gone_different}

-- ---- how many filters a mask has
pub counted : (s : State) (m : ℕ) → length (filters_at s m) ≡ count_of s m
counted s m = length-map (map filter_of (filter (of_mask m) s.rows)) filter_stated ∙ length-map (filter (of_mask m) s.rows) filter_of

-- ---- a hook by its number
hook_of : (n : ℕ) → n < 2 → (hook : Hook) × (hook_number hook ≡ n)
hook_of zero less = (hooks.Ingress, refl)
hook_of (suc zero) less = (hooks.Egress, refl)
hook_of (suc (suc n)) less = absurd (omega (arith, less))

-- ---- roots of buckets with a head's commit
head_low : (hook : Hook) → head_root hook < MASK_ROOTS
head_low hooks.Ingress = omega arith
head_low hooks.Egress = omega arith

bucket_same : (h : List (Commit Edit)) (c : Commit Edit) → c.root < MASK_ROOTS → (mask : StoredMask) (ks : List ℕ) → blocks_of (root_of (h ++ c ∷ [])) (map (bucket_root mask) ks) ≡ blocks_of (root_of h) (map (bucket_root mask) ks)
bucket_same h c low mask [] = refl
bucket_same h c low mask (k ∷ ks) = let rest = bucket_same h c low mask ks in let one = root_other h c (bucket_root mask k) (λ same. omega (arith, low, same)) in
    λ t. map (λ (l : Link). l.block) (one t).chain ++ rest t

module _ (h : List (Commit Edit)) (b : ℕ) (y : Edit) (hook : Hook) (keeps : KeepsHook h b) (o : ClosesMasks h b y hook) (was : HookTables) (old : HasTables hook was h) where
  low : b ≤ length h
  low = o.ready.accepted.low

  p : Present hook_meaning hook_codec h
  p = present_end hook_meaning hook_codec h b low keeps.law

  s_sound : Sound (now h)
  s_sound = sound h b y o.ready.state o.ready.done o.ready.accepted

  t_sound : Sound (next h y)
  t_sound = next_sound h b y o.ready.state o.ready.done o.ready.accepted

  old_stated : map stated_of was.tables ≡ tables_at (now h) (hook_number hook)
  old_stated = stored_stated h b low keeps.law hook was old

  old_has : (m slot : ℕ) → IsNamedIn was.tables m slot → HasSerial (tables_at (now h) (hook_number hook)) m
  old_has m slot n = state_has (now h) hook was.tables old_stated m slot n

  old_mask : (m slot : ℕ) → IsNamedIn was.tables m slot → IsMaskAt hook_codec h m slot
  old_mask m slot n = old_at h b y hook [] was was.pair.two keeps (close_gives h b y hook keeps o) old m slot n

  old_named : (m slot : ℕ) → Names hook_codec (root_of h (places.head_root (hook_number hook))).chain m slot → IsNamedIn was.tables m slot
  old_named m slot n = names_of_chain (first_block_of hook was.pair.active) was.tables m slot old.fit (small_first hook was.pair.active (length was.tables) was.pair.two old.few)
      (subst (λ (ls : List Link). Names hook_codec ls m slot) old.chain n)

  -- names with one serial are at one place
  serials_apart : (i j : ℕ) (one other : MaskName) → slice_get (names_in was.tables) i ≡ Some one → slice_get (names_in was.tables) j ≡ Some other → one.serial ≡ other.serial → i ≡ j
  unfolding old_has
  serials_apart i j one other e f same =
      let x = located was.tables i one e in let z = located was.tables j other f in
      let at = by one.serial other.serial same (old_has one.serial one.slot x.named) (old_has other.serial other.slot z.named) in same_place was.tables i j one other x z at.0 at.1
    where
      by : (m n : ℕ) → m ≡ n → (x : HasSerial (tables_at (now h) (hook_number hook)) m) (z : HasSerial (tables_at (now h) (hook_number hook)) n) → (x.place ≡ z.place) × (x.among ≡ z.among)
      by m n is x z = let it = one_place (now h) s_sound hook hook n (record { place = x.place; among = x.among; table = x.table; there = x.there; has = x.has ∙ ap Some is }) z in (it.1, it.2)

  -- a mask of another hook stands on
  other_stands : (other : Hook) (m : ℕ) → hook_number other ≢ hook_number hook → HasSerial (tables_at (now h) (hook_number other)) m → Stands (next h y) m
  other_stands other m ne has = standing (next h y) other m t_sound (subst (λ ts. HasSerial ts m) (sym (o.leaves.heads (hook_number other) ne)) has)

  module _ (k : List (Commit Edit)) (c : ℕ) (low2 : c ≤ length k) (keeps2 : KeepsHook k c) (given : HookTables) (new : HasTables hook given k) (now_is : now k ≡ next h y) where
    new_stated : map stated_of given.tables ≡ tables_at (next h y) (hook_number hook)
    new_stated = stored_stated k c low2 keeps2.law hook given new ∙ ap (λ (s : State). tables_at s (hook_number hook)) now_is

    named_stands : (m : ℕ) → is_named given.tables m ≡ true → Stands (next h y) m
    named_stands m is = let n = true_named given.tables m is in standing (next h y) hook m t_sound (state_has (next h y) hook given.tables new_stated m n.0 n.1)

    stands_named : (m : ℕ) → HasSerial (tables_at (now h) (hook_number hook)) m → Stands (next h y) m → is_named given.tables m ≡ true
    stands_named m has stands = let f = listed (next h y) m stands in dite (ℕ_discrete (hook_number f.0) (hook_number hook))
        (λ (same : hook_number f.0 ≡ hook_number hook).
        let n = has_named given.tables m (subst (λ ts. HasSerial ts m) (sym new_stated) (subst (λ (i : ℕ). HasSerial (tables_at (next h y) i) m) same f.1)) in named_true given.tables m n.0 n.1)
        (λ (ne : hook_number f.0 ≢ hook_number hook).
        absurd (ne (ap hook_number (one_place (now h) s_sound f.0 hook m (subst (λ ts. HasSerial ts m) (o.leaves.heads (hook_number f.0) ne) f.1) has).0)))

    -- those that aren't named don't stand
    not_named : (m slot : ℕ) → IsNamedIn was.tables m slot → is_named given.tables m ≡ false → Stands (next h y) m → ⊥
    not_named m slot n none stands = let bad : true ≡ false = sym (stands_named m (old_has m slot n) stands) ∙ none in cc bad

    -- ---- which masks go
    abbrev pub gone : List ℕ
    gone = gone_of given.tables (names_in was.tables)

    gone_each : (m : ℕ) → IsIn m gone → Stands (now h) m × (Stands (next h y) m → ⊥)
    gone_each m at = let x = out_of given.tables (names_in was.tables) m at in let l = located was.tables x.0 x.1 x.2 in (
      subst (Stands (now h)) x.3 (standing (now h) hook x.1.serial s_sound (old_has x.1.serial x.1.slot l.named)),
      λ stands. not_named x.1.serial x.1.slot l.named x.4 (subst (Stands (next h y)) (sym x.3) stands),
    )

    gone_all : (m : ℕ) → Stands (now h) m → (Stands (next h y) m → ⊥) → IsIn m gone
    gone_all m stands none = let f = listed (now h) m stands in dite (ℕ_discrete (hook_number f.0) (hook_number hook))
        (λ (same : hook_number f.0 ≡ hook_number hook). here (subst (λ (i : ℕ). HasSerial (tables_at (now h) i) m) same f.1))
        (λ (ne : hook_number f.0 ≢ hook_number hook). absurd (none (other_stands f.0 m ne f.1)))
      where
        dead : (t : Bool) → is_named given.tables m ≡ t → is_named given.tables m ≡ false
        dead true is = absurd (none (named_stands m is))
        dead false is = is

        here : HasSerial (tables_at (now h) (hook_number hook)) m → IsIn m gone
        here has = let n = has_named was.tables m (subst (λ ts. HasSerial ts m) (sym old_stated) has) in let at = in_flat was.tables m n.0 n.1 in let is = n.1.serial_is in
            subst (λ (i : ℕ). IsIn i gone) is (in_gone given.tables (names_in was.tables) at.0 n.1.name at.1 (ap (is_named given.tables) is ∙ dead (is_named given.tables m) refl))

    pub are_gone : AreGone (now h) (next h y) gone
    are_gone = record { different = gone_different given.tables (names_in was.tables) serials_apart; each = gone_each; all = gone_all }

    -- ---- they may be parted with
    module _ (masks : Masks) (shape : Shape) (cells cells2 : List ℕ) (has : HasMasks masks shape cells h) (pools : Pools) (are : ArePools pools h b) (are2 : ArePools (turned hook pools) k c) (holds : HoldsMasks masks shape cells2 k)
        (stays : (m s : ℕ) → IsMaskAt hook_codec h m s → Stands (next h y) m → IsMaskAt hook_codec k m s)
        (goes : (m s : ℕ) → IsMaskAt hook_codec h m s → (Stands (next h y) m → ⊥) → IsGone masks k s) (place : ℕ) (tables : List StoredTable) (number : ℕ) (seen : k ≡ h ++ swap_commit hook place tables number y ∷ []) where
      same_masks : (which : Hook) → (turned which pools).masks ≡ pools.masks
      same_masks hooks.Ingress = refl
      same_masks hooks.Egress = refl

      same_rows : (which : Hook) → (turned which pools).rows ≡ pools.rows
      same_rows hooks.Ingress = refl
      same_rows hooks.Egress = refl

      module _ (name : MaskName) (n : IsNamedIn was.tables name.serial name.slot) where
        at : IsMaskAt hook_codec h name.serial name.slot
        at = old_mask name.serial name.slot n

        it : HasMask masks h name.serial name.slot
        it = has.has name.serial name.slot at

        apart : (IsInPool name.slot pools.masks → ⊥) × ((row : ℕ) → IsIn row it.kept.mask.rows → IsInPool row pools.rows → ⊥)
        apart = held_apart masks shape cells h b pools name.slot it.kept has low are it.stands

        its_size : it.kept.mask.size ≡ size_of (count_of (now h) name.serial)
        its_size = o.rest name.serial name.slot (mask_record it.kept.mask) at
            (first_maps mask_record mask_of_words (root_of h (places.mask_root name.slot)).chain it.kept.mask (record_read masks shape cells (root_of h) has.named name.slot it.kept it.stands)) ∙ ap size_of (counted (now h) name.serial)

        to_go : is_named given.tables name.serial ≡ false → IsToGo masks (turned hook pools) k (count_of (now h)) name
        to_go none = record {
          kept = it.kept;
          small = at.small;
          stands = it.stands;
          gone = goes name.serial name.slot at (not_named name.serial name.slot n none);
          slot_apart = λ in_. apart.0 (subst (λ (q : PoolNumbers). IsInPool name.slot q) (same_masks hook) in_);
          rows_apart = λ row own in_. apart.1 row own (subst (λ (q : PoolNumbers). IsInPool row q) (same_rows hook) in_);
          row_count = (let size = its_size in let rows = (mask_storable masks shape cells (root_of h) has.named name.slot it.kept it.stands).rows in omega (arith, size, rows));
          block_count = ap (λ (l : List (Commit Edit)). length (bucket_blocks (root_of l) it.kept.mask it.kept.mask.size)) seen
              ∙ (ap length (bucket_same h (swap_commit hook place tables number y) (head_low hook) it.kept.mask (range_with_len 0 it.kept.mask.size))
              ∙ (count_blocks h masks shape cells has name.slot it.kept it.stands ∙ (counted (now h) it.kept.mask.serial ∙ ap (count_of (now h)) it.serial)));
        }

      slots_apart : (i j : ℕ) (one other : MaskName) → slice_get (names_in was.tables) i ≡ Some one → slice_get (names_in was.tables) j ≡ Some other → one.slot ≡ other.slot → i ≡ j
      slots_apart i j one other e f same =
          let x = located was.tables i one e in let z = located was.tables j other f in
          let mine = has.has one.serial one.slot (old_mask one.serial one.slot x.named) in
          let a = own_serial h masks shape cells has one.slot mine.kept mine.stands one.serial (old_mask one.serial one.slot x.named) in
          let d = own_serial h masks shape cells has one.slot mine.kept mine.stands other.serial (subst (IsMaskAt hook_codec h other.serial) (sym same) (old_mask other.serial other.slot z.named)) in
          serials_apart i j one other e f (sym a ∙ d)

      abbrev Held : ℕ → KeptMask → Type 0
      Held s kept = IsMaskAt hook_codec k kept.mask.serial s ⊎ ((name : MaskName) × IsIn name (names_in was.tables) × (name.slot ≡ s) × (is_named given.tables name.serial ≡ false))

      held_only : (s : ℕ) (kept : KeptMask) → StandsAt masks s kept → Held s kept
      held_only s kept stands = pick (is_named given.tables kept.mask.serial) refl
        where
          m : ℕ
          m = kept.mask.serial

          there : IsMaskAt hook_codec h m s
          there = has.only s kept stands

          pick : (t : Bool) → is_named given.tables m ≡ t → Held s kept
          pick true is = inl (stays m s there (named_stands m is))
          pick false is = dite (ℕ_discrete there.hook (hook_number hook))
              (λ (same : there.hook ≡ hook_number hook). let n = old_named m s (subst (λ (i : ℕ). Names hook_codec (root_of h (places.head_root i)).chain m s) same there.there) in
              inr (n.name, in_flat was.tables m s n, n.slot_is, ap (is_named given.tables) n.serial_is ∙ is))
              (λ (ne : there.hook ≢ hook_number hook). let other = hook_of there.hook there.one in
              inl (stays m s there (other_stands other.0 m (λ same. ne (sym other.1 ∙ same)) (subst (λ (i : ℕ). HasSerial (tables_at (now h) i) m) (sym other.1) (root_has h m s there.hook p there.one there.there)))))

      pub begun : IsParting masks (turned hook pools) shape cells2 k c (count_of (now h)) given.tables (names_in was.tables)
      begun = record {
        low = low2;
        holds = holds;
        are = are2;
        each = λ i name e none. let l = located was.tables i name e in to_go name l.named none;
        only = held_only;
        apart = slots_apart;
      }
