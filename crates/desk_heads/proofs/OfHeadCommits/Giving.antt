-- The commit that gives a hook its tables anew keeps the law of the hook.
use Rattle.std.proofs.Common.{◌≡◌, ◌≢◌, ◌∙◌, ◌⊎◌, inl, inr, ℕ, zero, suc, ◌+◌, ◌<◌, ◌≤◌, List, [], ◌∷◌, ◌++◌, length, map, refl, sym, ap, subst, arith, length-append}
use mathlib.Core.Logic.{dite}
use native.Mathlib.Decide.{ℕ_discrete}
use Rattle.tc_base.specs.declared.hook.Hook.{Hook}
use Rattle.tc_base.specs.declared.hook.Hook.TheVariants as hooks
use Rattle.store_history.specs.declared.history.Commit.{Commit}
use Rattle.store_history.specs.declared.history.Named.{Named}
use Rattle.store_history.specs.History.{root_of, edits_of}
use Rattle.store_history.proofs.Lists.{some_is}
use Rattle.store_history.proofs.Histories.{root_own, root_other}
use Rattle.store_history.specs.declared.places.TheConstants.{MASK_SLOTS}
use Rattle.root_word_laws.proofs.Words.{more_rise}
use Rattle.filter_state.specs.declared.edit.Edit.{Edit}
use Rattle.filter_state.specs.States.{State}
use Rattle.filter_state.specs.Sound.{Each, Sound}
use Rattle.block_codec.specs.declared.table.StoredTable.{StoredTable}
use Rattle.miniq_pair.specs.Heads.{hook_number}
use Rattle.miniq_pair.specs.Pairs.{first_block_of, swap_commit}
use Rattle.hook_law.specs.Places.{head_root, mask_root}
use Rattle.hook_law.specs.Records.{Slotted, MaskRecord, StatedFilter, StatedTable}
use Rattle.hook_law.specs.Meaning.{point_of, IsLive}
use Rattle.hook_law.specs.Standing.{Role, Head, Mask, Names, IsMaskAt, Stands}
use Rattle.hook_law.specs.Telling.{ReadsHead}
use Rattle.hook_law.specs.Keeping.{Keeps, Present, IsAtRest}
use Rattle.hook_law.specs.Slots.{slot_of}
use Rattle.hook_law.specs.Heads.{IsPrepared, ChangesHead}
use Rattle.hook_law.specs.Coming.{IsMade, IsOfPrepared}
use Rattle.hook_law.proofs.Growing.{edits_more, now_next}
use Rattle.hook_law.proofs.Standing.{present_end, unused_end, slot_longer}
use Rattle.hook_law.proofs.Slots.{slot_is}
use Rattle.hook_law.proofs.Heading.{Fresh, sort_mask, head_keeps, head_comes}
use Rattle.hook_law.proofs.Resting.{head_rests}
use Rattle.hook_store_law.specs.Stated.{TableNames, hook_meaning, filters_at, tables_at}
use Rattle.hook_store_law.specs.Blocks.{hook_codec}
use Rattle.hook_store_law.specs.Told.{action_name, with_slots}
use Rattle.hook_store_law.specs.Kept.{KeepsHook}
use Rattle.hook_store_law.specs.OfEdits.Premises.{now, next}
use Rattle.hook_store_law.proofs.OfEdits.Accepted.{lawful, sound, next_sound}
use Rattle.desk_masks.specs.OfMaskResizes.Resized.{stored_now}
use Rattle.desk_masks.proofs.OfMaskResizes.Living.{all_live}
use Rattle.desk_masks.proofs.OfMaskResizes.Resizing.{each_as}
use Rattle.desk_masks.specs.OfHeadChains.Chains.{IsNamedIn}
use Rattle.desk_masks.proofs.OfHeadChains.HeadChains.{head_reads, names_in, in_names}
use Rattle.desk_heads.specs.OfHeadCommits.Raised.{stored_next, IsReady}
use Rattle.desk_heads.specs.OfHeadCommits.Given.{AreGiven}
use Rattle.desk_heads.proofs.OfHeadCommits.Raising.{next_slot}
use Rattle.desk_heads.specs.OfHeadCommits.Listed.{HasSerial}
use Rattle.desk_heads.proofs.OfHeadCommits.Places.{one_place, chain_has, root_has, one_slot, has_named}
use Rattle.desk_heads.proofs.OfHeadCommits.Standing.{listed, standing, stands_on}

-- ---- stored filters after more commits
abbrev at_slot : List (Commit Edit) → ℕ → Slotted
at_slot h a = record { serial = a; slot = slot_of hook_codec h a }

-- filters whose actions keep their slots are stored as they were
slots_kept : (h g : List (Commit Edit)) (actions : List ℕ) → Each (λ (a : ℕ). slot_of hook_codec g a ≡ slot_of hook_codec h a) actions → map (at_slot g) actions ≡ map (at_slot h) actions
slots_kept h g [] all = refl
slots_kept h g (a ∷ rest) all = let more = slots_kept h g rest all.1 in let one = all.0 in λ t. record { serial = a; slot = one t } ∷ more t

pub stored_kept : (h g : List (Commit Edit)) (fs : List StatedFilter) → Each (λ (f : StatedFilter). Each (λ (a : ℕ). slot_of hook_codec g a ≡ slot_of hook_codec h a) f.actions) fs → map (with_slots g) fs ≡ map (with_slots h) fs
stored_kept h g [] all = refl
stored_kept h g (f ∷ rest) all = let more = stored_kept h g rest all.1 in let one = slots_kept h g f.actions all.0 in
    λ t. record { handle = f.handle; key = record { words = f.key }; actions = map action_name (one t) } ∷ more t

-- the filters that an edit leaves a mask, stored after more commits
pub stored_later : (h more : List (Commit Edit)) (b : ℕ) (y : Edit) (m : ℕ) → IsReady h b y → Keeps hook_meaning hook_codec (h ++ more) b
    → map (with_slots (h ++ more)) (filters_at (next h y) m) ≡ stored_next h y m
stored_later h more b y m ready keeps = stored_kept h (h ++ more) (filters_at (next h y) m)
    (each_as (λ (f : StatedFilter). Each (λ (a : ℕ). IsLive hook_meaning (next h y) a) f.actions) (λ (f : StatedFilter). Each (λ (a : ℕ). slot_of hook_codec (h ++ more) a ≡ slot_of hook_codec h a) f.actions)
    (λ f live. each_as (λ (a : ℕ). IsLive hook_meaning (next h y) a) (λ (a : ℕ). slot_of hook_codec (h ++ more) a ≡ slot_of hook_codec h a) same f.actions live)
    (filters_at (next h y) m) (all_live (next h y) m (next_sound h b y ready.state ready.done ready.accepted)))
  where
    same : (a : ℕ) → IsLive hook_meaning (next h y) a → slot_of hook_codec (h ++ more) a ≡ slot_of hook_codec h a
    same a live = let low = ready.accepted.low in
        sym (slot_is hook_meaning hook_codec (h ++ more) b a (slot_of hook_codec h a) (omega (arith, low, length-append h more)) keeps (slot_longer hook_codec h more a (slot_of hook_codec h a) (next_slot h b y ready a live)))

-- ---- the blocks of a place
small_first : (hook : Hook) (place count : ℕ) → place ≤ 1 → count ≤ 256 → first_block_of hook place + count < 4294967296
small_first hooks.Ingress place count p c = omega (arith, p, c)
small_first hooks.Egress place count p c = omega (arith, p, c)

one_hook : (hook : Hook) → hook_number hook < 2
one_hook hooks.Ingress = omega arith
one_hook hooks.Egress = omega arith

hook_of : (n : ℕ) → n < 2 → (hook : Hook) × (hook_number hook ≡ n)
hook_of zero one = (hooks.Ingress, refl)
hook_of (suc zero) one = (hooks.Egress, refl)
hook_of (suc (suc n)) one = absurd (omega arith)

module _ (h : List (Commit Edit)) (b : ℕ) (y : Edit) (hook : Hook) (C : ℕ → Type 0) (F : ℕ → ℕ → Type 0) (place : ℕ) (tables : List StoredTable) (keeps : KeepsHook h b) (ready : IsReady h b y)
    (within : place ≤ 1) (g : AreGiven h b y hook C F tables) where
  abbrev pub c : Commit Edit
  c = swap_commit hook place tables (point_of h + 1) y

  low : b ≤ length h
  low = ready.accepted.low

  p : Present hook_meaning hook_codec h
  p = present_end hook_meaning hook_codec h b low keeps.law

  sound_next : Sound (next h y)
  sound_next = next_sound h b y ready.state ready.done ready.accepted

  reads : ReadsHead hook_meaning hook_codec (hook_number hook) c.named.chain (next h y)
  reads = head_reads hook place tables (next h y) within g.fit g.few g.are

  small : first_block_of hook place + length tables < 4294967296
  small = small_first hook place (length tables) within g.few

  in_tables : (m slot : ℕ) → Names hook_codec c.named.chain m slot → IsNamedIn tables m slot
  in_tables m slot n = names_in (first_block_of hook place) tables m slot g.fit small n

  new_has : (m slot : ℕ) → Names hook_codec c.named.chain m slot → HasSerial (tables_at (next h y) (hook_number hook)) m
  new_has m slot n = chain_has (hook_number hook) c.named.chain (next h y) m slot reads n

  -- a mask of the other hook's stands there afterwards too
  other_has : (m slot other : ℕ) → other < 2 → other ≢ hook_number hook → Names hook_codec (root_of h (head_root other)).chain m slot → HasSerial (tables_at (next h y) other) m
  other_has m slot other one ne n = subst (λ (ts : List (StatedTable TableNames)). HasSerial ts m) (sym (g.leaves.heads other ne)) (root_has h m slot other p one n)

  -- no mask is in tables of both hooks
  apart_hooks : (m s t other : ℕ) → other < 2 → other ≢ hook_number hook → Names hook_codec c.named.chain m s → Names hook_codec (root_of h (head_root other)).chain m t → ⊥
  apart_hooks m s t other one ne n k = let o = hook_of other one in
      let there = subst (λ (z : ℕ). HasSerial (tables_at (next h y) z) m) (sym o.1) (other_has m t other one ne k) in
      let same = one_place (next h y) sound_next hook o.0 m (new_has m s n) there in
      ne (sym o.1 ∙ ap hook_number (sym same.0))

  -- ---- masks that were prepared
  read_one : (m n slot : ℕ) (o : IsPrepared hook_meaning hook_codec b h y m slot) (q : IsPrepared hook_meaning hook_codec b h y n slot) → o.record_read ≡ q.record_read
  read_one m n slot o q = some_is o.record_read q.record_read (sym o.read ∙ q.read)

  serial_is : (m slot : ℕ) (o : IsPrepared hook_meaning hook_codec b h y m slot) → o.record_read.serial ≡ m
  serial_is m slot o = ap (λ (r : MaskRecord). r.serial) (some_is o.record_read o.put.reads.mask (sym o.read ∙ o.put.reads.read)) ∙ o.put.reads.serial

  not_standing : (m n slot : ℕ) → IsPrepared hook_meaning hook_codec b h y m slot → IsMaskAt hook_codec h n slot → ⊥
  not_standing m n slot o at = unused_end hook_meaning hook_codec h b (mask_root slot) (Mask n) low o.put.unused (slot, at, refl)

  fresh_of : (m slot : ℕ) → IsPrepared hook_meaning hook_codec b h y m slot → Names hook_codec c.named.chain m slot → F m slot
  fresh_of m slot o n = pick (g.named m slot (in_tables m slot n))
    where
      pick : F m slot ⊎ (IsMaskAt hook_codec h m slot × (C m → ⊥)) → F m slot
      pick (inl fresh) = fresh
      pick (inr old) = absurd (not_standing m m slot o old.0)

  -- ---- masks that keep their slots
  named_either : (m slot : ℕ) → IsMaskAt hook_codec (h ++ c ∷ []) m slot
      → Names hook_codec c.named.chain m slot ⊎ ((other : ℕ) × (other < 2) × (other ≢ hook_number hook) × Names hook_codec (root_of h (head_root other)).chain m slot)
  named_either m slot at = dite (ℕ_discrete (hook_number hook) at.hook)
      (λ (own : hook_number hook ≡ at.hook). inl (subst (λ (n : Named). Names hook_codec n.chain m slot) (root_own h c) (subst (λ (n : ℕ). Names hook_codec (root_of (h ++ c ∷ []) (head_root n)).chain m slot) (sym own) at.there)))
      (λ (ne : hook_number hook ≢ at.hook). inr (
        at.hook,
        at.one,
        (λ same. ne (sym same)),
        subst (λ (n : Named). Names hook_codec n.chain m slot) (root_other h c (head_root at.hook) (λ same. ne (omega (arith, same)))) at.there,
      ))

  unconcerned : (m slot : ℕ) → IsMaskAt hook_codec h m slot → IsMaskAt hook_codec (h ++ c ∷ []) m slot → C m → ⊥
  unconcerned m slot at now_at con = sort (named_either m slot now_at)
    where
      own : F m slot ⊎ (IsMaskAt hook_codec h m slot × (C m → ⊥)) → ⊥
      own (inl fresh) = not_standing m m slot (g.fresh.prepared m slot fresh) at
      own (inr old) = old.1 con

      sort : Names hook_codec c.named.chain m slot ⊎ ((other : ℕ) × (other < 2) × (other ≢ hook_number hook) × Names hook_codec (root_of h (head_root other)).chain m slot) → ⊥
      sort (inl n) = own (g.named m slot (in_tables m slot n))
      sort (inr o) = g.elsewhere m slot o.0 con o.1 o.2 o.3

  -- ---- the law
  pub changes : ChangesHead hook_meaning hook_codec b h c y
  changes = record {
    hook = hook_number hook;
    rest = g.rest;
    one = one_hook hook;
    root = refl;
    carries = record { number = refl; stamp = refl; lawful = lawful h b y ready.state ready.done ready.accepted };
    reads = reads;
    other_heads = g.leaves.heads;
    masks = λ m slot low_slot n. pick m slot (g.named m slot (in_tables m slot n));
    one_slot = λ m s t n k. one_slot (next h y) hook tables g.are m sound_next s t (in_tables m s n) (in_tables m t k);
    elsewhere = λ m s t other one ne n k. absurd (apart_hooks m s t other one ne n k);
    slots_apart = λ m n slot names more o q. sym (serial_is m slot o) ∙ (ap (λ (r : MaskRecord). r.serial) (read_one m n slot o q) ∙ serial_is n slot q);
    rows_apart = λ m n s t i j row o q names more e f. g.fresh.apart m n s t i j row (fresh_of m s o names) (fresh_of n t q more) o q e f;
    stays = λ m slot at now_at. let none = unconcerned m slot at now_at in (g.leaves.words m none, g.leaves.filters m none);
    params = g.leaves.params;
    made = ready.made;
  }
    where
      pick : (m slot : ℕ) → F m slot ⊎ (IsMaskAt hook_codec h m slot × (C m → ⊥)) → IsMaskAt hook_codec h m slot ⊎ IsPrepared hook_meaning hook_codec b h y m slot
      pick m slot (inl fresh) = inr (g.fresh.prepared m slot fresh)
      pick m slot (inr old) = inl old.0

  pub head_law : Keeps hook_meaning hook_codec (h ++ c ∷ []) b
  head_law = head_keeps hook_meaning hook_codec h b c y changes low keeps.law

  -- the head's root has no later stamp than the point
  early : (root_of h c.root).stamp ≤ point_of h
  early = (p.tells (head_root (hook_number hook)) (Head (hook_number hook)) (one_hook hook, refl)).early

  pub head_lawful : KeepsHook (h ++ c ∷ []) b
  head_lawful = record { law = head_law; stamps = more_rise h c keeps.stamps (inl (let e = early in omega (arith, e))) }

  pub head_rest : IsAtRest hook_meaning hook_codec (h ++ c ∷ [])
  head_rest = head_rests hook_meaning hook_codec h b c y changes (λ m slot o names. g.fresh.sized m slot (fresh_of m slot o names) o)

  -- what stands afterwards stood, or is of a mask that is fresh and that the tables name, or is an action that
  -- was put
  pub comes : (r : ℕ) (x : Role) → Stands hook_meaning hook_codec (h ++ c ∷ []) r x
      → Stands hook_meaning hook_codec h r x ⊎ (IsOfPrepared hook_meaning hook_codec b h c y r x ⊎ IsMade hook_meaning hook_codec b h y r x)
  comes r x stands = head_comes hook_meaning hook_codec h b c y changes r x p stands

  pub fresh_named : (m slot : ℕ) → IsPrepared hook_meaning hook_codec b h y m slot → Names hook_codec c.named.chain m slot → F m slot
  fresh_named m slot o n = fresh_of m slot o n

  -- ---- the masks afterwards
  pub sort_after : (m slot : ℕ) → IsMaskAt hook_codec (h ++ c ∷ []) m slot → (IsMaskAt hook_codec h m slot × (C m → ⊥)) ⊎ F m slot
  sort_after m slot at = pick (sort_mask hook_meaning hook_codec h b c y changes m slot at)
    where
      pick : IsMaskAt hook_codec h m slot ⊎ Fresh hook_meaning hook_codec h b c y changes m slot → (IsMaskAt hook_codec h m slot × (C m → ⊥)) ⊎ F m slot
      pick (inl old) = inl (old, unconcerned m slot old at)
      pick (inr fresh) = inr (fresh_of m slot fresh.prepared fresh.names)

  pub named_after : (m slot : ℕ) → slot < MASK_SLOTS → IsNamedIn tables m slot → IsMaskAt hook_codec (h ++ c ∷ []) m slot
  named_after m slot low_slot n = record {
    hook = hook_number hook;
    one = one_hook hook;
    small = low_slot;
    there = subst (λ (z : Named). Names hook_codec z.chain m slot) (sym (root_own h c)) (in_names (first_block_of hook place) tables m slot g.fit small n);
  }

  pub other_after : (m slot : ℕ) (at : IsMaskAt hook_codec h m slot) → at.hook ≢ hook_number hook → IsMaskAt hook_codec (h ++ c ∷ []) m slot
  other_after m slot at ne = record {
    hook = at.hook;
    one = at.one;
    small = at.small;
    there = subst (λ (z : Named). Names hook_codec z.chain m slot) (sym (root_other h c (head_root at.hook) (λ same. ne (omega (arith, same))))) at.there;
  }

  pub now_after : now (h ++ c ∷ []) ≡ next h y
  now_after = now_next hook_meaning h c (point_of h + 1) y refl

  pub edits_after : edits_of (h ++ c ∷ []) ≡ edits_of h ++ y ∷ []
  edits_after = edits_more h c (point_of h + 1) y refl

  -- the filters of a mask, as they are stored
  pub stored_after : (m : ℕ) → stored_now (h ++ c ∷ []) m ≡ stored_next h y m
  stored_after m = ap (λ (s : State). map (with_slots (h ++ c ∷ [])) (filters_at s m)) now_after ∙ stored_later h (c ∷ []) b y m ready head_law

  pub stored_still : (m : ℕ) → (C m → ⊥) → stored_now (h ++ c ∷ []) m ≡ stored_now h m
  stored_still m none = stored_after m ∙ ap (map (with_slots h)) (g.leaves.filters m none)

  -- a mask that the edit leaves alone keeps its slot
  pub keeps_slot : (m slot : ℕ) → IsMaskAt hook_codec h m slot → (C m → ⊥) → IsMaskAt hook_codec (h ++ c ∷ []) m slot
  keeps_slot m slot at none = dite (ℕ_discrete at.hook (hook_number hook))
      (λ (own : at.hook ≡ hook_number hook). by_tables (has_named tables m (subst (λ (ts : List (StatedTable TableNames)). HasSerial ts m) (sym g.are) (there own))))
      (λ (ne : at.hook ≢ hook_number hook). other_after m slot at ne)
    where
      before : at.hook ≡ hook_number hook → HasSerial (tables_at (now h) (hook_number hook)) m
      before own = root_has h m slot (hook_number hook) p (one_hook hook) (subst (λ (n : ℕ). Names hook_codec (root_of h (head_root n)).chain m slot) own at.there)

      sound_now : Sound (now h)
      sound_now = sound h b y ready.state ready.done ready.accepted

      found : at.hook ≡ hook_number hook → (k : Hook) × HasSerial (tables_at (next h y) (hook_number k)) m
      found own = listed (next h y) m (stands_on (now h) (next h y) m (g.leaves.filters m none) (standing (now h) hook m sound_now (before own)))

      there : at.hook ≡ hook_number hook → HasSerial (tables_at (next h y) (hook_number hook)) m
      there own = let f = found own in dite (ℕ_discrete (hook_number f.0) (hook_number hook))
          (λ (same : hook_number f.0 ≡ hook_number hook). subst (λ (n : ℕ). HasSerial (tables_at (next h y) n) m) same f.1)
          (λ (ne : hook_number f.0 ≢ hook_number hook). let one = one_place (now h) sound_now f.0 hook m (subst (λ (ts : List (StatedTable TableNames)). HasSerial ts m) (g.leaves.heads (hook_number f.0) ne) f.1) (before own) in
          absurd (ne (ap hook_number one.0)))

      by_named : (s : ℕ) → IsNamedIn tables m s → F m s ⊎ (IsMaskAt hook_codec h m s × (C m → ⊥)) → IsMaskAt hook_codec (h ++ c ∷ []) m slot
      by_named s n (inl fresh) = absurd (none (g.concerned m s fresh))
      by_named s n (inr old) = named_after m slot at.small (subst (IsNamedIn tables m) (p.one_mask m s slot old.0 at) n)

      by_tables : (s : ℕ) × IsNamedIn tables m s → IsMaskAt hook_codec (h ++ c ∷ []) m slot
      by_tables n = by_named n.0 n.1 (g.named m n.0 n.1)
