-- The tables that are told from the lists after an edit are those that the hook may be given.
use Rattle.std.proofs.Common.{◌≡◌, ◌≢◌, ◌∙◌, ◌⊎◌, inl, inr, ℕ, zero, suc, ◌+◌, ◌<◌, ◌≤◌, List, [], ◌∷◌, ◌++◌, length, map, get_or, slice_get, Some, refl, sym, ap, subst, arith}
use Rattle.std.specs.Prelude.{All}
use mathlib.Core.Logic.{dite}
use native.Mathlib.Decide.{ℕ_discrete}
use Rattle.std.proofs.lemmas.List.{length-map}
use Rattle.std.proofs.lemmas.Option.{slice_get_within, get_or_from_slice_get, slice_get-get_or}
use Rattle.tc_base.specs.declared.hook.Hook.{Hook}
use Rattle.tc_base.specs.declared.hook.Proto.{Proto}
use Rattle.tc_base.specs.declared.hook.Proto.TheVariants as protocols
use Rattle.tc_base.specs.declared.hook.Hook.TheVariants as hooks
use Rattle.visit_room.specs.declared.names.MaskName.{MaskName}
use Rattle.store_history.specs.declared.history.Commit.{Commit}
use Rattle.store_history.specs.declared.history.Link.{Link}
use Rattle.store_history.specs.History.{root_of}
use Rattle.store_history.specs.declared.places.TheConstants.{MASK_SLOTS}
use Rattle.filter_state.specs.declared.edit.Edit.{Edit}
use Rattle.filter_state.specs.Lines.{IsProtocol}
use Rattle.filter_state.specs.States.{State}
use Rattle.filter_state.specs.Sound.{Sound}
use Rattle.filter_tables.specs.Rows.{tables_on}
use Rattle.hook_lists.specs.declared.kept.Kept.{Kept}
use Rattle.hook_lists.specs.States.{both_of, AreKept}
use Rattle.filter_lists.specs.Spells.{Spells}
use Rattle.block_codec.specs.declared.table.StoredTable.{StoredTable}
use Rattle.block_codec.specs.Names.{IsMaskName}
use Rattle.block_codec.specs.Tables.{FitsProtocol}
use Rattle.walk_rules.specs.Heads.{heads_on}
use Rattle.head_laws.specs.Heads.{head_of}
use Rattle.head_laws.proofs.ListedHeads.{heads_listed}
use Rattle.miniq_pair.specs.Heads.{hook_number}
use Rattle.miniq_pair.specs.Pairs.{first_block_of, other_place, swap_commit}
use Rattle.hook_law.specs.Places.{head_root}
use Rattle.hook_law.specs.Meaning.{point_of}
use Rattle.hook_law.specs.Records.{StatedTable}
use Rattle.hook_law.specs.Standing.{Names, IsMaskAt}
use Rattle.hook_law.specs.Keeping.{Present}
use Rattle.hook_law.proofs.Standing.{present_end}
use Rattle.hook_store_law.specs.Stated.{TableNames, hook_meaning, table_stated, tables_at}
use Rattle.hook_store_law.specs.Blocks.{hook_codec}
use Rattle.hook_store_law.proofs.Counting.{few_heads}
use Rattle.hook_store_law.specs.Kept.{KeepsHook}
use Rattle.hook_store_law.specs.OfEdits.Premises.{now, next}
use Rattle.hook_store_law.proofs.OfEdits.Accepted.{next_sound}
use Rattle.desk_masks.specs.OfHeadChains.Chains.{stated_of, FitsTable, IsNamedIn}
use Rattle.desk_masks.proofs.OfHeadChains.HeadChains.{names_in, in_names}
use Rattle.desk_heads.specs.OfHeadCommits.Listed.{HasSerial}
use Rattle.desk_heads.proofs.OfHeadCommits.Places.{of_hook, map_at, one_place, root_has, has_root, state_has}
use Rattle.desk_heads.proofs.OfHeadCommits.Giving.{head_lawful}
use Rattle.desk_heads.proofs.OfHeadCommits.Standing.{listed, standing, stands_on}
use Rattle.desk_masks.specs.declared.hook_tables.HookTables.{HookTables}
use Rattle.desk_masks.specs.Tables.{HasTables}
use Rattle.desk_heads.specs.Slots.{HasSlotIn, AreInSlots, FitsNumbers}
use Rattle.desk_heads.specs.OfHeadCommits.Built.{IsBuilt}
use Rattle.desk_heads.specs.Gives.{GivesTables}
use Rattle.desk_heads.specs.OfHeadCommits.Built.{IsConcerned, IsGiven}
use Rattle.desk_heads.proofs.Ranges.{AreInRange, table_range}

-- ---- lists
at_place : {A : Type 0} (P : A → Type 0) (xs : List A) (n : ℕ) (x : A) → All P xs → slice_get xs n ≡ Some x → P x
at_place P xs n x all at = subst P (get_or_from_slice_get xs n x x at) (all n x (slice_get_within xs n x at))

-- a list has the mask, or it doesn't
pub built_or : (built : List MaskName) (m : ℕ) → ((slot : ℕ) × IsBuilt built m slot) ⊎ ((slot : ℕ) → IsBuilt built m slot → ⊥)
built_or [] m = inr (λ slot x. let e = x.there in cc e)
built_or (n ∷ ns) m = dite (ℕ_discrete n.serial m)
    (λ (same : n.serial ≡ m). inl (n.slot, record { place = 0; name = n; there = refl; serial_is = same; slot_is = refl }))
    (λ (ne : n.serial ≢ m). pick ne (built_or ns m))
  where
    none : n.serial ≢ m → ((slot : ℕ) → IsBuilt ns m slot → ⊥) → (slot place : ℕ) (name : MaskName) → slice_get (n ∷ ns) place ≡ Some name → name.serial ≡ m → name.slot ≡ slot → ⊥
    none ne rest slot zero name e serial at = let same : n ≡ name = cc e in ne (ap (λ (z : MaskName). z.serial) same ∙ serial)
    none ne rest slot (suc place) name e serial at = rest slot (record { place = place; name = name; there = e; serial_is = serial; slot_is = at })

    pick : n.serial ≢ m → ((slot : ℕ) × IsBuilt ns m slot) ⊎ ((slot : ℕ) → IsBuilt ns m slot → ⊥) → ((slot : ℕ) × IsBuilt (n ∷ ns) m slot) ⊎ ((slot : ℕ) → IsBuilt (n ∷ ns) m slot → ⊥)
    pick ne (inl x) = let r = x.1 in inl (x.0, record { place = suc r.place; name = r.name; there = r.there; serial_is = r.serial_is; slot_is = r.slot_is })
    pick ne (inr rest) = inr (λ slot x. none ne rest slot x.place x.name x.there x.serial_is x.slot_is)

-- the tables of lists are those of the state that they spell
pub lists_are : (lists : Kept) (s : State) (hook : Hook) → AreKept lists → Spells lists s → map table_stated (map head_of (tables_on hook (both_of lists))) ≡ tables_at s (hook_number hook)
lists_are lists s hook kept spells = ap (map table_stated) (heads_listed lists s hook kept spells) ∙ sym (of_hook s hook)

one_hook : (hook : Hook) → hook_number hook < 2
one_hook hooks.Ingress = omega arith
one_hook hooks.Egress = omega arith

small_first : (hook : Hook) (place count : ℕ) → place ≤ 1 → count ≤ 256 → first_block_of hook place + count < 4294967296
small_first hooks.Ingress place count p c = omega (arith, p, c)
small_first hooks.Egress place count p c = omega (arith, p, c)

fits_protocol : (p : Proto) → IsProtocol p → FitsProtocol p
fits_protocol protocols.All is = tt
fits_protocol (protocols.Ether number) is = is

module _ (h : List (Commit Edit)) (b : ℕ) (y : Edit) (hook : Hook) (built : List MaskName) (kept : HookTables) (active : kept.pair.active ≤ 1) (keeps : KeepsHook h b) (g : GivesTables h b y hook built)
    (old : HasTables hook kept h) where
  low : b ≤ length h
  low = g.ready.accepted.low

  p : Present hook_meaning hook_codec h
  p = present_end hook_meaning hook_codec h b low keeps.law

  sound_next : Sound (next h y)
  sound_next = next_sound h b y g.ready.state g.ready.done g.ready.accepted

  small : first_block_of hook kept.pair.active + length kept.tables < 4294967296
  small = small_first hook kept.pair.active (length kept.tables) active old.few

  -- ---- the old tables
  old_named : (m slot : ℕ) → Names hook_codec (root_of h (head_root (hook_number hook))).chain m slot → IsNamedIn kept.tables m slot
  old_named m slot n = names_in (first_block_of hook kept.pair.active) kept.tables m slot old.fit small (subst (λ (ls : List Link). Names hook_codec ls m slot) old.chain n)

  old_slot : (m slot : ℕ) → IsNamedIn kept.tables m slot → slot < MASK_SLOTS
  old_slot m slot n = let fit = at_place FitsTable kept.tables n.place n.table old.fit n.there in
      subst (λ (k : ℕ). k < MASK_SLOTS) n.slot_is (at_place IsMaskName n.table.masks n.among n.name fit.storable.masks n.has).slot

  pub old_at : (m slot : ℕ) → IsNamedIn kept.tables m slot → IsMaskAt hook_codec h m slot
  old_at m slot n = record {
    hook = hook_number hook;
    one = one_hook hook;
    small = old_slot m slot n;
    there = subst (λ (ls : List Link). Names hook_codec ls m slot) (sym old.chain) (in_names (first_block_of hook kept.pair.active) kept.tables m slot old.fit small n);
  }

  -- ---- each mask of the hook afterwards has a slot
  unconcerned : (m : ℕ) → ((slot : ℕ) → IsBuilt built m slot → ⊥) → HasSerial (tables_at (next h y) (hook_number hook)) m → IsConcerned h y built m → ⊥
  unconcerned m none has (inl x) = none x.0 x.1
  unconcerned m none has (inr gone) = gone (standing (next h y) hook m sound_next has)

  pub slot_known : (m : ℕ) → HasSerial (tables_at (next h y) (hook_number hook)) m → (slot : ℕ) × HasSlotIn kept.tables built m slot
  slot_known m has = pick (built_or built m)
    where
      before : ((slot : ℕ) → IsBuilt built m slot → ⊥) → (k : Hook) × HasSerial (tables_at (now h) (hook_number k)) m
      before none = listed (now h) m (stands_on (next h y) (now h) m (sym (g.leaves.filters m (unconcerned m none has))) (standing (next h y) hook m sound_next has))

      here : (k : Hook) × HasSerial (tables_at (now h) (hook_number k)) m → HasSerial (tables_at (now h) (hook_number hook)) m
      here f = dite (ℕ_discrete (hook_number f.0) (hook_number hook))
          (λ (same : hook_number f.0 ≡ hook_number hook). subst (λ (n : ℕ). HasSerial (tables_at (now h) n) m) same f.1)
          (λ (ne : hook_number f.0 ≢ hook_number hook). let one = one_place (next h y) sound_next f.0 hook m (subst (λ (ts : List (StatedTable TableNames)). HasSerial ts m) (sym (g.leaves.heads (hook_number f.0) ne)) f.1) has in
          absurd (ne (ap hook_number one.0)))

      pick : ((slot : ℕ) × IsBuilt built m slot) ⊎ ((slot : ℕ) → IsBuilt built m slot → ⊥) → (slot : ℕ) × HasSlotIn kept.tables built m slot
      pick (inl x) = (x.0, inl x.1)
      pick (inr none) = let n = has_root h m (hook_number hook) p (one_hook hook) (here (before none)) in (n.0, inr (old_named m n.0 n.1, none))

  -- ---- the new tables
  module _ (tables : List StoredTable) (are : map stated_of tables ≡ tables_at (next h y) (hook_number hook)) (slots : All (λ (t : StoredTable). AreInSlots kept.tables built t.masks) tables)
      (numbers : All FitsNumbers tables) where
    named_slot : (m slot : ℕ) → IsNamedIn tables m slot → HasSlotIn kept.tables built m slot
    named_slot m slot n = let at = at_place (λ (t : StoredTable). AreInSlots kept.tables built t.masks) tables n.place n.table slots n.there n.among n.name n.has in
        subst (λ (k : ℕ). HasSlotIn kept.tables built k slot) n.serial_is (subst (λ (k : ℕ). HasSlotIn kept.tables built n.name.serial k) n.slot_is at)

    slot_low : (m slot : ℕ) → HasSlotIn kept.tables built m slot → slot < MASK_SLOTS
    slot_low m slot (inl x) = g.small m slot x
    slot_low m slot (inr x) = old_slot m slot x.0

    fits_at : (n : ℕ) (t : StoredTable) → slice_get tables n ≡ Some t → FitsTable t
    fits_at n t at =
        let number = at_place FitsNumbers tables n t numbers at in
        let range : AreInRange t.chain t.pref t.protocol = table_range (next h y) hook n (stated_of t) sound_next (subst (λ (ts : List (StatedTable TableNames)). slice_get ts n ≡ Some (stated_of t)) are (map_at stated_of tables n t at)) in record {
          storable = record {
            chain = range.0;
            pref = range.1;
            masks = λ k d less. record {
              serial = number.masks k d less;
              slot = slot_low (get_or t.masks k d).serial (get_or t.masks k d).slot (at_place (λ (u : StoredTable). AreInSlots kept.tables built u.masks) tables n t slots at k (get_or t.masks k d) (slice_get-get_or t.masks k d less));
            };
          };
          serial = number.serial;
          protocol = fits_protocol t.protocol range.2;
          few = number.few;
        }

    fit : All FitsTable tables
    fit n d less = fits_at n (get_or tables n d) (slice_get-get_or tables n d less)

    few : length tables ≤ 256
    few = let count = sym (length-map tables stated_of) ∙ (ap length are ∙ (ap length (of_hook (next h y) hook) ∙ length-map (heads_on hook (next h y)) table_stated)) in
        let most = few_heads hook (next h y) sound_next in omega (arith, count, most)

    elsewhere : (m slot other : ℕ) → IsConcerned h y built m → other < 2 → other ≢ hook_number hook → Names hook_codec (root_of h (head_root other)).chain m slot → ⊥
    elsewhere m slot other con one ne names = sort con
      where
        there : HasSerial (tables_at (next h y) other) m
        there = subst (λ (ts : List (StatedTable TableNames)). HasSerial ts m) (sym (g.leaves.heads other ne)) (root_has h m slot other p one names)

        hook_of : (n : ℕ) → n < 2 → (k : Hook) × (hook_number k ≡ n)
        hook_of zero less = (hooks.Ingress, refl)
        hook_of (suc zero) less = (hooks.Egress, refl)
        hook_of (suc (suc n)) less = absurd (omega arith)

        on : (k : Hook) → hook_number k ≡ other → HasSerial (tables_at (next h y) (hook_number k)) m
        on k same = subst (λ (n : ℕ). HasSerial (tables_at (next h y) n) m) (sym same) there

        sort : IsConcerned h y built m → ⊥
        sort (inl x) = let k = hook_of other one in let same = one_place (next h y) sound_next hook k.0 m (g.here m x.0 x.1) (on k.0 k.1) in ne (sym k.1 ∙ ap hook_number (sym same.0))
        sort (inr gone) = let k = hook_of other one in gone (standing (next h y) k.0 m sound_next (on k.0 k.1))

    -- what the tables name
    named : (m slot : ℕ) → IsNamedIn tables m slot → IsBuilt built m slot ⊎ (IsMaskAt hook_codec h m slot × (IsConcerned h y built m → ⊥))
    named m slot n = sort (named_slot m slot n)
      where
        sort : HasSlotIn kept.tables built m slot → IsBuilt built m slot ⊎ (IsMaskAt hook_codec h m slot × (IsConcerned h y built m → ⊥))
        sort (inl x) = inl x
        sort (inr x) = inr (old_at m slot x.0, unconcerned m x.1 (state_has (next h y) hook tables are m slot n))

    pub tables_given : IsGiven h b y hook built tables
    tables_given = record {
      rest = g.rest;
      leaves = g.leaves;
      elsewhere = elsewhere;
      fit = fit;
      few = few;
      are = are;
      fresh = g.fresh;
      concerned = λ m slot x. inl (slot, x);
      named = named;
    }

  -- told from the lists, with the old tables as they are lent
  pub told_given : (lists : Kept) (lent tables : List StoredTable) → AreKept lists → Spells lists (next h y) → lent ≡ kept.tables
      → map stated_of tables ≡ map table_stated (map head_of (tables_on hook (both_of lists))) → All (λ (t : StoredTable). AreInSlots lent built t.masks) tables → All FitsNumbers tables
      → IsGiven h b y hook built tables
  told_given lists lent tables are spells same stated slots numbers = tables_given tables (stated ∙ lists_are lists (next h y) hook are spells)
      (subst (λ (ts : List StoredTable). All (λ (t : StoredTable). AreInSlots ts built t.masks) tables) same slots) numbers

  -- so it keeps the law that the hook gets them, as the writer makes the commit
  pub swap_lawful : (tables : List StoredTable) (of_hook : Hook) (number : ℕ) → IsGiven h b y hook built tables → of_hook ≡ hook → number ≡ point_of h + 1
      → KeepsHook (h ++ swap_commit of_hook (other_place kept.pair.active) tables number y ∷ []) b
  swap_lawful tables of_hook number given same is = subst (λ (k : Hook). KeepsHook (h ++ swap_commit k (other_place kept.pair.active) tables number y ∷ []) b) (sym same)
      (subst (λ (n : ℕ). KeepsHook (h ++ swap_commit hook (other_place kept.pair.active) tables n y ∷ []) b) (sym is)
      (head_lawful h b y hook (IsConcerned h y built) (IsBuilt built) (other_place kept.pair.active) tables keeps g.ready (omega arith) given))
