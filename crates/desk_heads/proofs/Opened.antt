-- A mask that is put whole for a filter of its own: what the head's commit may rest on.
use Rattle.std.proofs.Common.{◌≡◌, ◌≢◌, ◌∙◌, inl, ℕ, zero, suc, ◌+◌, List, [], ◌∷◌, ◌++◌, length, take, get_or, slice_get, Some, refl, sym, ap, subst, arith}
use mathlib.Core.Logic.{dite}
use native.Mathlib.Decide.{ℕ_discrete}
use Rattle.std.proofs.lemmas.List.{length-map}
use Rattle.std.proofs.lemmas.Option.{same_Some}
use Rattle.tc_base.specs.declared.hook.Hook.{Hook}
use Rattle.visit_room.specs.declared.names.MaskName.{MaskName}
use Rattle.store_history.specs.declared.history.Commit.{Commit}
use Rattle.store_history.specs.History.{root_of, edits_of}
use Rattle.store_history.specs.Reads.{read_first}
use Rattle.store_history.proofs.Lists.{some_is}
use Rattle.flow_mask.specs.Sizes.{size_of}
use Rattle.filter_state.specs.declared.edit.Edit.{Edit}
use Rattle.filter_state.specs.States.{State}
use Rattle.block_codec.specs.declared.filter.StoredFilter.{StoredFilter}
use Rattle.block_codec.specs.declared.mask.StoredMask.{StoredMask}
use Rattle.hook_store_law.specs.OfEffects.Parts.{Stands}
use Rattle.mask_table.specs.OfMirrors.Linked.{placed, raise_commits}
use Rattle.miniq_pair.specs.Heads.{hook_number}
use Rattle.hook_law.specs.Places.{mask_root}
use Rattle.hook_law.specs.Records.{MaskRecord, StatedTable}
use Rattle.hook_law.specs.Meaning.{point_of}
use Rattle.hook_law.specs.Heads.{IsPrepared}
use Rattle.hook_store_law.specs.Stated.{TableNames, hook_meaning, tables_at, filters_at}
use Rattle.hook_store_law.specs.Blocks.{mask_record, hook_codec}
use Rattle.hook_store_law.specs.Told.{with_slots}
use Rattle.hook_store_law.specs.Kept.{KeepsHook}
use Rattle.hook_store_law.specs.OfEdits.Premises.{now, next, LeavesOtherHook}
use Rattle.hook_store_law.proofs.OfEdits.Accepted.{sound}
use Rattle.desk_heads.specs.OfHeadCommits.Listed.{HasSerial}
use Rattle.desk_heads.specs.OfHeadCommits.Raised.{stored_next, IsReady}
use Rattle.desk_heads.specs.OfHeadCommits.Given.{AreFresh}
use Rattle.desk_heads.proofs.OfHeadCommits.Raising.{raise_lawful, raise_keeps, raise_prepares, raise_record, raise_ready, raise_rest, raise_now, raise_next, raise_edits}
use Rattle.desk_heads.proofs.OfHeadCommits.Standing.{listed, standing, filters_stand}
use Rattle.desk_heads.specs.OfHeadCommits.Built.{IsBuilt}
use Rattle.desk_heads.specs.Gives.{GivesTables}
use Rattle.desk_heads.specs.OfHeadCommits.Built.{IsConcerned}
use Rattle.desk_heads.specs.Opens.{OpensMask}

module _ (h : List (Commit Edit)) (b : ℕ) (y : Edit) (hook : Hook) (slot : ℕ) (mask : StoredMask) (filter : StoredFilter) (given : List ℕ) (keeps : KeepsHook h b) (o : OpensMask h b y hook slot mask filter given) where
  abbrev pub blk : ℕ
  blk = get_or given 1 0

  -- the commits of the mask, as the law has them and as the writer makes them
  abbrev pub law_commits : List (Commit Edit)
  law_commits = raise_commits slot mask blk (placed given (stored_next h y mask.serial)) (point_of h + 1)

  abbrev pub mask_commits : List (Commit Edit)
  mask_commits = raise_commits slot mask blk (placed given (filter ∷ [])) (point_of h + 1)

  pub same_commits : law_commits ≡ mask_commits
  same_commits = ap (λ (fs : List StoredFilter). raise_commits {E = Edit} slot mask blk (placed given fs) (point_of h + 1)) o.filters

  pub open_lawful : (n : ℕ) → KeepsHook (h ++ take n mask_commits) b
  open_lawful n = subst (λ (cs : List (Commit Edit)). KeepsHook (h ++ take n cs) b) same_commits (raise_lawful h b y slot mask given blk keeps o.ready o.can n)

  -- ---- afterwards
  abbrev pub after : List (Commit Edit)
  after = h ++ law_commits

  pub after_keeps : KeepsHook after b
  after_keeps = raise_keeps h b y slot mask given blk keeps o.ready o.can

  pub after_ready : IsReady after b y
  after_ready = raise_ready h b y slot mask given blk keeps o.ready o.can

  pub after_now : now after ≡ now h
  after_now = raise_now h b y slot mask given blk keeps o.ready o.can

  pub after_next : next after y ≡ next h y
  after_next = raise_next h b y slot mask given blk keeps o.ready o.can

  pub after_edits : edits_of after ≡ edits_of h
  after_edits = raise_edits h b y slot mask given blk keeps o.ready o.can

  abbrev pub built : List MaskName
  built = record { serial = mask.serial; slot = slot } ∷ []

  pub built_is : (m s : ℕ) → IsBuilt built m s → (mask.serial ≡ m) × (slot ≡ s)
  built_is m s x = at x.place x.name x.there x.serial_is x.slot_is
    where
      at : (place : ℕ) (name : MaskName) → slice_get built place ≡ Some name → name.serial ≡ m → name.slot ≡ s → (mask.serial ≡ m) × (slot ≡ s)
      at zero name e serial is = let same = same_Some _ name e in (ap (λ (n : MaskName). n.serial) same ∙ serial, ap (λ (n : MaskName). n.slot) same ∙ is)
      at (suc place) name e serial is = absurd (cc e)

  pub it_is_built : IsBuilt built mask.serial slot
  it_is_built = record { place = 0; name = record { serial = mask.serial; slot = slot }; there = refl; serial_is = refl; slot_is = refl }

  -- the mask stands afterwards, on the hook
  pub it_stands : Stands (next h y) mask.serial
  it_stands = let count = sym (length-map (filters_at (next h y) mask.serial) (with_slots h)) ∙ ap length o.filters in filters_stand (next h y) mask.serial (omega (arith, count))

  pub it_is_here : HasSerial (tables_at (next h y) (hook_number hook)) mask.serial
  it_is_here = let f = listed (next h y) mask.serial it_stands in dite (ℕ_discrete (hook_number f.0) (hook_number hook))
      (λ (same : hook_number f.0 ≡ hook_number hook). subst (λ (n : ℕ). HasSerial (tables_at (next h y) n) mask.serial) same f.1)
      (λ (ne : hook_number f.0 ≢ hook_number hook). absurd (o.new (standing (now h) f.0 mask.serial (sound h b y o.ready.state o.ready.done o.ready.accepted)
      (subst (λ (ts : List (StatedTable TableNames)). HasSerial ts mask.serial) (o.leaves.heads (hook_number f.0) ne) f.1))))

  abbrev prepared : IsPrepared hook_meaning hook_codec b after y mask.serial slot
  prepared = raise_prepares h b y slot mask given blk keeps o.ready o.can

  -- what was prepared there has the mask's record
  pub record_is : (m s : ℕ) → slot ≡ s → (it : IsPrepared hook_meaning hook_codec b after y m s) → it.record_read ≡ mask_record mask
  record_is m s same it = some_is it.record_read prepared.record_read (sym it.read ∙ (ap (λ (n : ℕ). read_first hook_codec.mask (root_of after (mask_root n)).chain) (sym same) ∙ prepared.read))
      ∙ raise_record h b y slot mask given blk keeps o.ready o.can

  fresh : AreFresh after b y (IsBuilt built)
  fresh = record {
    prepared = λ m s x. let is = built_is m s x in subst (λ (n : ℕ). IsPrepared hook_meaning hook_codec b after y n s) is.0 (subst (λ (n : ℕ). IsPrepared hook_meaning hook_codec b after y mask.serial n) is.1 prepared);
    sized = λ m s x it. let is = built_is m s x in ap (λ (r : MaskRecord). r.size) (record_is m s is.1 it)
        ∙ (o.can.size ∙ (ap (λ (n : ℕ). size_of (length (filters_at (next h y) n))) is.0 ∙ ap (λ (s2 : State). size_of (length (filters_at s2 m))) (sym after_next)));
    apart = λ m n s t i j row x z it also e f. sym (built_is m s x).1 ∙ (built_is n t z).1;
  }

  concerned : (m : ℕ) → mask.serial ≡ m → IsConcerned after y built m
  concerned m same = inl (slot, subst (λ (n : ℕ). IsBuilt built n slot) same it_is_built)

  leaves : LeavesOtherHook hook (IsConcerned after y built) (now after) (next after y)
  leaves = subst (λ (s : State). LeavesOtherHook hook (IsConcerned after y built) s (next after y)) (sym after_now) (subst (λ (s : State). LeavesOtherHook hook (IsConcerned after y built) (now h) s) (sym after_next) (record {
    heads = o.leaves.heads;
    words = λ m none. o.leaves.words m (λ same. none (concerned m (sym same)));
    filters = λ m none. o.leaves.filters m (λ same. none (concerned m (sym same)));
    params = o.leaves.params;
  }))

  pub open_gives : GivesTables after b y hook built
  open_gives = record {
    ready = after_ready;
    rest = raise_rest h b y slot mask given blk keeps o.ready o.can o.rest;
    leaves = leaves;
    fresh = fresh;
    here = λ m s x. subst (λ (n : ℕ). HasSerial (tables_at (next after y) (hook_number hook)) n) (built_is m s x).0
        (subst (λ (s2 : State). HasSerial (tables_at s2 (hook_number hook)) mask.serial) (sym after_next) it_is_here);
    small = λ m s x. let is = (built_is m s x).1 in let less = o.can.small in omega (arith, is, less);
  }
