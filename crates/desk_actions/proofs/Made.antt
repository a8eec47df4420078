-- An action that an edit makes: the law goes on, and where it is.
use Rattle.std.proofs.Common.{◌≡◌, ◌≢◌, ◌∙◌, ◌⊎◌, inl, inr, ℕ, ◌+◌, ◌<◌, ◌≤◌, Bool, true, false, cond, eqb, List, [], ◌∷◌, ◌++◌, Option, Some, None, Ok, refl, sym, ap, subst, arith, eqb-true}
use Rattle.std.specs.Option.{option_map, unwrap_or}
use Rattle.std.proofs.lemmas.Bool.{eqb-false}
use Rattle.std.proofs.lemmas.List.{get_or-set_same, get_or-set_other, length-set}
use Rattle.act_registry.specs.declared.limits.TheConstants.{MADE_MAX}
use Rattle.store_history.specs.declared.history.Named.{Named}
use Rattle.store_history.specs.declared.history.Commit.{Commit}
use Rattle.store_history.proofs.Histories.{root_own, root_other}
use Rattle.act_kinds.specs.declared.params.Params.{Params}
use Rattle.act_kinds.specs.Ranges.{AreParams}
use Rattle.filter_state.specs.declared.action_line.ActionLine.{ActionLine}
use Rattle.filter_state.specs.declared.edit.Edit.{Edit}
use Rattle.filter_state.specs.declared.edit.Edit.TheVariants as edits
use Rattle.filter_state.specs.declared.refusal.Done.{Done}
use Rattle.filter_state.specs.declared.refusal.Done.TheVariants as dones
use Rattle.filter_state.specs.States.{State}
use Rattle.filter_state.specs.Actions.{has_serial}
use Rattle.filter_state.specs.Tables.{first_where}
use Rattle.filter_state.specs.Sound.{IsAction, Sound}
use Rattle.filter_state.specs.Steps.{step, make_given, change_given}
use Rattle.filter_state.specs.Refusals.{action_exists}
use Rattle.filter_state.proofs.Pairs.{found}
use Rattle.block_codec.specs.declared.action.StoredAction.{StoredAction}
use Rattle.block_codec.specs.Parameters.{FitParams}
use Rattle.block_codec.specs.Actions.{IsStorableAction}
use Rattle.block_codec.specs.OfReadings.Read.{action_of_words}
use Rattle.hook_law.specs.Places.{action_root}
use Rattle.hook_law.specs.Records.{ActionRecord}
use Rattle.hook_law.specs.Meaning.{point_of, IsLive}
use Rattle.hook_law.specs.Standing.{Role, Action as ActionRole, PutsAction, IsSlotOf, IsUnused, Stands}
use Rattle.hook_law.specs.Keeping.{Keeps, IsAtRest}
use Rattle.hook_law.specs.Numbered.{MakesAction}
use Rattle.store_history.proofs.Lists.{some_is}
use Rattle.store_history.specs.declared.places.TheConstants.{ACTION_SLOTS, POOL_BLOCKS}
use Rattle.hook_law.proofs.Growing.{now_next}
use Rattle.hook_law.proofs.Standing.{slot_longer, slot_here, slot_push, unused_end}
use Rattle.hook_law.proofs.Acting.{make_keeps, make_comes}
use Rattle.hook_law.proofs.Resting.{make_rests}
use Rattle.hook_store_law.specs.Stated.{ActionTerms, hook_meaning, action_stated, action_at}
use Rattle.hook_store_law.specs.Blocks.{action_record, hook_codec}
use Rattle.hook_store_law.proofs.Reading.{some_of}
use Rattle.hook_store_law.proofs.OfEffects.Accepted.{not_unless, same_step}
use Rattle.hook_store_law.specs.OfEdits.Premises.{now, next, IsAccepted, SetsAction}
use Rattle.hook_store_law.proofs.OfEdits.Accepted.{lawful, next_sound}
use Rattle.hook_store_law.proofs.OfEdits.Made.{made_after}
use Rattle.desk_actions.specs.OfRoots.Records.{action_block, action_commit}
use Rattle.desk_actions.proofs.OfRoots.Storing.{params_stored, action_reads}
use Rattle.desk_actions.specs.Places.{Placed, slot_of, block_of, IsAlone, AreHere, put_at}
use Rattle.desk_actions.specs.Kinds.{IsMaking}

-- ---- a live action can be stored
abbrev pub stored_as : ℕ → ℕ → Params → StoredAction
stored_as serial index params = record { serial = serial; index = index; params = params }

pub record CanStore (t : State) (serial index : ℕ) (given : Params) : Type 0 where
  pub storable : IsStorableAction (stored_as serial index given)
  pub fit : FitParams given
  pub low : serial ≤ t.actions_made
  pub most : serial ≤ MADE_MAX

pub can_store : (t : State) (serial index : ℕ) (given : Params) → Sound t → action_at t serial ≡ Some (record { index = index; params = given }) → CanStore t serial index given
can_store t serial index given sound is =
    let x = some_of action_stated (first_where (has_serial serial) t.actions) (record { index = index; params = given }) is in
    let f = found (IsAction t) (has_serial serial) t.actions x.0 sound.actions x.1 in
    let same : x.0.serial ≡ serial = eqb-true x.0.serial serial f.1 in
    let at : x.0.index ≡ index = ap (λ terms. terms.index) x.2 in let with_ : x.0.params ≡ given = ap (λ terms. terms.params) x.2 in
    let ranges = f.0.serial in let most = sound.made in let stored = params_stored given (subst AreParams with_ f.0.params) in record {
      storable = record { serial = (subst (λ n. 1 ≤ n) same ranges.0, subst (λ n. n ≤ MADE_MAX) same (omega (arith, ranges, most))); index = subst (λ n. (1 ≤ n) × (n ≤ 4294967295)) at f.0.index; params = stored.0 };
      fit = stored.1;
      low = subst (λ n. n ≤ t.actions_made) same ranges.1;
      most = subst (λ n. n ≤ MADE_MAX) same (omega (arith, ranges, most));
    }

-- ---- what was done
made_given : (s t : State) (line : ActionLine) (done : Done) (given : Option Params) → make_given s line given ≡ Ok (t, done)
    → (index : ℕ) × (serial : ℕ) × (params : Params) × (done ≡ dones.ActionMade index serial) × (given ≡ Some params)
made_given s t line done None e = absurd (cc e)
made_given s t line done (Some params) e = let rest = (not_unless _ _ (t, done) e).1 in (_, s.actions_made + 1, params, sym (same_step _ t _ done rest).1, refl)

-- an edit that makes an action made one, of the line's parameters
pub making_made : (s t : State) (line : ActionLine) (y : Edit) (done : Done) → IsMaking s line y → step s y ≡ Ok (t, done)
    → (index : ℕ) × (serial : ℕ) × (params : Params) × (done ≡ dones.ActionMade index serial) × (line.params ≡ Some params)
making_made s t line y done (inl is) e = made_given s t line done line.params
    (not_unless (action_exists s line.kind line.index) (make_given s line line.params) (t, done) (sym (ap (step s) is) ∙ e)).1
making_made s t line y done (inr is) e = made_given s t line done line.params
    (sym (ap (λ (b : Bool). cond b (change_given s line (unwrap_or line.index 0) line.params) (make_given s line line.params)) is.1) ∙ (sym (ap (step s) is.0) ∙ e))

pub as_edit : (s : State) (line : ActionLine) (y : Edit) → IsMaking s line y → (y ≡ edits.ActionAdd line) ⊎ (y ≡ edits.ActionChange line)
as_edit s line y (inl is) = inl is
as_edit s line y (inr is) = inr is.0

module _ (h : List (Commit Edit)) (b : ℕ) (y : Edit) (t : State) (line : ActionLine) (index serial : ℕ) (given : Params)
    (a : IsAccepted h b y t (dones.ActionMade index serial)) (is : (y ≡ edits.ActionAdd line) ⊎ (y ≡ edits.ActionChange line)) (written : line.params ≡ Some given)
    (rest : IsAtRest hook_meaning hook_codec h) (placed : Placed) (here : AreHere placed h) where
  m : (serial ≡ (now h).actions_made + 1) × (IsLive hook_meaning (now h) serial → ⊥) × ((params : Params) × (line.params ≡ Some params) × SetsAction serial index params (now h) (next h y))
  m = made_after h b y t line index serial a is

  sets : SetsAction serial index given (now h) (next h y)
  sets = subst (λ (p : Params). SetsAction serial index p (now h) (next h y)) (some_is m.2.0 given (sym m.2.1 ∙ written)) m.2.2

  pub stores : CanStore (next h y) serial index given
  stores = can_store (next h y) serial index given (next_sound h b y t (dones.ActionMade index serial) a) sets.here

  reads : action_of_words (action_block (stored_as serial index given)) ≡ Some (stored_as serial index given)
  reads = action_reads (stored_as serial index given) stores.storable stores.fit

  module _ (slot blk : ℕ) (small : slot < ACTION_SLOTS) (unused : IsUnused hook_meaning hook_codec b h (action_root slot)) where
    abbrev pub c : Commit Edit
    c = action_commit slot blk (stored_as serial index given) (point_of h + 1) (Some (point_of h + 1)) y

    pub makes : MakesAction hook_meaning hook_codec b h c y
    makes = record {
      slot = slot;
      put = action_record (stored_as serial index given);
      rest = rest;
      root = refl;
      small = small;
      unused = unused;
      carries = record { number = refl; stamp = refl; lawful = lawful h b y t (dones.ActionMade index serial) a };
      read = ap (option_map action_record) reads;
      first = λ before w. let low = here.made serial before w in let new = m.0 in absurd (omega (arith, new, low));
      touches = sets.touches;
      params = sets.here;
    }

    pub make_law : Keeps hook_meaning hook_codec (h ++ c ∷ []) b
    make_law = make_keeps hook_meaning hook_codec h b c y a.low a.keeps makes

    pub make_rest : IsAtRest hook_meaning hook_codec (h ++ c ∷ [])
    make_rest = make_rests hook_meaning hook_codec h b c y makes

    next_is : now (h ++ c ∷ []) ≡ next h y
    next_is = now_next hook_meaning h c (point_of h + 1) y refl

    own_put : PutsAction hook_codec c serial slot
    own_put = record { put = action_record (stored_as serial index given); root = refl; small = small; read = ap (option_map action_record) reads; serial = refl }

    -- an action that was live before, and where it is
    before : (action : ℕ) → action ≢ serial → IsLive hook_meaning (next h y) action → IsLive hook_meaning (now h) action
    before action away live = λ none. live (sets.touches.params action away ∙ none)

    other_slot : (action : ℕ) → IsLive hook_meaning (now h) action → slot_of placed action ≢ slot
    other_slot action live same = let at = here.slots action live in
        unused_end hook_meaning hook_codec h b (action_root slot) (ActionRole action) a.low unused (slot_of placed action, at, ap action_root (sym same), live)

    module _ (low_block : blk < POOL_BLOCKS) where
      abbrev after : Placed
      after = put_at placed serial slot blk

      own_slot : slot_of after serial ≡ slot
      own_slot = get_or-set_same placed.slots serial slot 0 (let most = stores.most in let long = here.long in omega (arith, most, long))

      own_block : block_of after slot ≡ blk
      own_block = get_or-set_same placed.blocks slot blk 0 (let wide = here.wide in omega (arith, small, wide))

      same_slot : (action : ℕ) → action ≢ serial → slot_of after action ≡ slot_of placed action
      same_slot action away = get_or-set_other placed.slots serial action slot 0 away

      same_block : (other : ℕ) → other ≢ slot → block_of after other ≡ block_of placed other
      same_block other away = get_or-set_other placed.blocks slot other blk 0 away

      own_alone : IsAlone (h ++ c ∷ []) (slot_of after serial) (block_of after (slot_of after serial))
      own_alone = subst (λ (s : ℕ). IsAlone (h ++ c ∷ []) s (block_of after s)) (sym own_slot) (
        subst (λ (n : ℕ). n < POOL_BLOCKS) (sym own_block) low_block,
        action_block (stored_as serial index given),
        ap (λ (n : Named). n.chain) (root_own h c)
            ∙ ap (λ (n : ℕ). record { block = n; words = action_block (stored_as serial index given) } ∷ []) (sym own_block),
      )

      other_alone : (action : ℕ) → action ≢ serial → IsLive hook_meaning (now h) action → IsAlone (h ++ c ∷ []) (slot_of after action) (block_of after (slot_of after action))
      other_alone action away live = let at = here.blocks action live in let apart = other_slot action live in
          subst (λ (s : ℕ). IsAlone (h ++ c ∷ []) s (block_of after s)) (sym (same_slot action away))
          (subst (IsAlone (h ++ c ∷ []) (slot_of placed action)) (sym (same_block (slot_of placed action) apart))
          (at.0, at.1, ap (λ (n : Named). n.chain) (root_other h c (action_root (slot_of placed action)) (λ same. apart (omega (arith, same)))) ∙ at.2))

      pub make_here : AreHere after (h ++ c ∷ [])
      make_here = record {
        long = length-set placed.slots serial slot ∙ here.long;
        wide = length-set placed.blocks slot blk ∙ here.wide;
        slots = λ action live. slots_each action (eqb action serial) refl (subst (λ (s : State). IsLive hook_meaning s action) next_is live);
        blocks = λ action live. blocks_each action (eqb action serial) refl (subst (λ (s : State). IsLive hook_meaning s action) next_is live);
        made = λ action s w. subst (λ (u : State). action ≤ u.actions_made) (sym next_is) (made_each action s (slot_push hook_codec h c action s w));
      }
        where
          slots_each : (action : ℕ) (q : Bool) → eqb action serial ≡ q → IsLive hook_meaning (next h y) action → IsSlotOf hook_codec (h ++ c ∷ []) action (slot_of after action)
          slots_each action true e live = let same : action ≡ serial = eqb-true action serial e in
              subst (λ (n : ℕ). IsSlotOf hook_codec (h ++ c ∷ []) n (slot_of after n)) (sym same)
              (subst (IsSlotOf hook_codec (h ++ c ∷ []) serial) (sym own_slot) (slot_here hook_codec h c serial slot own_put))
          slots_each action false e live = let away : action ≢ serial = eqb-false action serial e in
              subst (IsSlotOf hook_codec (h ++ c ∷ []) action) (sym (same_slot action away)) (slot_longer hook_codec h (c ∷ []) action (slot_of placed action) (here.slots action (before action away live)))

          blocks_each : (action : ℕ) (q : Bool) → eqb action serial ≡ q → IsLive hook_meaning (next h y) action → IsAlone (h ++ c ∷ []) (slot_of after action) (block_of after (slot_of after action))
          blocks_each action true e live = subst (λ (n : ℕ). IsAlone (h ++ c ∷ []) (slot_of after n) (block_of after (slot_of after n))) (sym (eqb-true action serial e)) own_alone
          blocks_each action false e live = let away : action ≢ serial = eqb-false action serial e in other_alone action away (before action away live)

          made_each : (action s : ℕ) → IsSlotOf hook_codec h action s ⊎ PutsAction hook_codec c action s → action ≤ (next h y).actions_made
          made_each action s (inl w) = let low = here.made action s w in let new = m.0 in let given_ = stores.low in omega (arith, low, new, given_)
          made_each action s (inr p) = let put = some_is p.put (action_record (stored_as serial index given)) (sym p.read ∙ ap (option_map action_record) reads) in
              let same : action ≡ serial = sym p.serial ∙ ap (λ (r : ActionRecord ActionTerms). r.serial) put in
              subst (λ (n : ℕ). n ≤ (next h y).actions_made) (sym same) stores.low

    -- nothing else comes to stand
    pub make_back : (r : ℕ) → r ≢ action_root slot → (x : Role) → Stands hook_meaning hook_codec (h ++ c ∷ []) r x → Stands hook_meaning hook_codec h r x
    unfolding makes
    make_back r away x s = pick (make_comes hook_meaning hook_codec h b c y a.low a.keeps makes r x s)
      where
        pick : Stands hook_meaning hook_codec h r x ⊎ ((r ≡ c.root) × (x ≡ ActionRole serial)) → Stands hook_meaning hook_codec h r x
        pick (inl before_) = before_
        pick (inr own) = absurd (away own.0)
