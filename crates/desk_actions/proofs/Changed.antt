-- An action that an edit changes: the law goes on, and where it is.
use Rattle.std.proofs.Common.{◌≡◌, ◌≢◌, ◌∙◌, ◌⊎◌, inl, inr, ℕ, ◌+◌, ◌<◌, ◌≤◌, ◌&&◌, ◌==◌, Bool, true, false, cond, eqb, List, [], ◌∷◌, ◌++◌, Option, Some, None, Ok, refl, sym, ap, subst, arith, eqb-true}
use Rattle.std.specs.Option.{option_map, unwrap_or}
use Rattle.std.proofs.lemmas.Bool.{eqb-false}
use Rattle.std.proofs.lemmas.List.{get_or-set_same, get_or-set_other, length-set}
use Rattle.store_history.specs.declared.history.Named.{Named}
use Rattle.store_history.specs.declared.history.Commit.{Commit}
use Rattle.store_history.proofs.Lists.{some_is}
use Rattle.store_history.proofs.Histories.{root_own, root_other}
use Rattle.store_history.specs.declared.places.TheConstants.{ACTION_SLOTS, POOL_BLOCKS}
use Rattle.act_kinds.specs.declared.params.Kind.{Kind}
use Rattle.act_kinds.specs.declared.params.Params.{Params}
use Rattle.filter_state.specs.declared.action_line.ActionLine.{ActionLine}
use Rattle.filter_state.specs.declared.edit.Edit.{Edit}
use Rattle.filter_state.specs.declared.refusal.Done.{Done}
use Rattle.filter_state.specs.declared.refusal.Done.TheVariants as dones
use Rattle.filter_state.specs.States.{Action, State}
use Rattle.filter_state.specs.Actions.{is_named, kind_eq}
use Rattle.act_kinds.specs.Params.{kind_of}
use Rattle.hook_store_law.proofs.OfEffects.Accepted.{same_step}
use Rattle.filter_state.specs.Tables.{first_where}
use Rattle.filter_state.specs.Steps.{step, make_given, change_given}
use Rattle.block_codec.specs.OfReadings.Read.{action_of_words}
use Rattle.hook_law.specs.Places.{action_root}
use Rattle.hook_law.specs.Records.{ActionRecord}
use Rattle.hook_law.specs.Meaning.{point_of, IsLive}
use Rattle.hook_law.specs.Standing.{Role, Action as ActionRole, PutsAction, IsSlotOf, Stands}
use Rattle.hook_law.specs.Keeping.{Keeps, IsAtRest}
use Rattle.hook_law.specs.Numbered.{ChangesAction}
use Rattle.hook_law.proofs.Growing.{now_next}
use Rattle.hook_law.proofs.Standing.{slot_longer, slot_push, present_end}
use Rattle.hook_law.proofs.Acting.{change_keeps, change_back}
use Rattle.hook_law.proofs.Resting.{change_rests}
use Rattle.hook_store_law.specs.Stated.{ActionTerms, hook_meaning}
use Rattle.hook_store_law.specs.Blocks.{action_record, hook_codec}
use Rattle.hook_store_law.specs.OfEdits.Premises.{now, next, IsAccepted, SetsAction}
use Rattle.hook_store_law.proofs.OfEdits.Accepted.{leads, lawful, next_sound}
use Rattle.hook_store_law.proofs.OfEdits.Made.{changed_after}
use Rattle.desk_actions.specs.OfRoots.Records.{action_block, action_commit}
use Rattle.desk_actions.proofs.OfRoots.Storing.{action_reads}
use Rattle.desk_actions.specs.Places.{Placed, slot_of, block_of, IsAlone, AreHere, put_at}
use Rattle.desk_actions.specs.Kinds.{IsChanging}
use Rattle.desk_actions.proofs.Made.{CanStore, stored_as, can_store}

-- ---- what was done
changed_given : (s t : State) (line : ActionLine) (index : ℕ) (done : Done) (given : Option Params) → change_given s line index given ≡ Ok (t, done)
    → (done ≡ dones.ActionChanged) × (params : Params) × (given ≡ Some params)
changed_given s t line index done None e = absurd (cc e)
changed_given s t line index done (Some params) e = (sym (same_step _ t _ done e).1, params, refl)

pub changing_changed : (s t : State) (line : ActionLine) (y : Edit) (done : Done) → IsChanging s line y → step s y ≡ Ok (t, done)
    → (done ≡ dones.ActionChanged) × (params : Params) × (line.params ≡ Some params)
changing_changed s t line y done is e = changed_given s t line (unwrap_or line.index 0) done line.params
    (sym (ap (λ (b : Bool). cond b (change_given s line (unwrap_or line.index 0) line.params) (make_given s line line.params)) is.1) ∙ (sym (ap (step s) is.0) ∙ e))

given_keeps_made : (s t : State) (line : ActionLine) (index : ℕ) (done : Done) (given : Option Params) → change_given s line index given ≡ Ok (t, done) → t.actions_made ≡ s.actions_made
given_keeps_made s t line index done None e = absurd (cc e)
given_keeps_made s t line index done (Some params) e = ap (λ (u : State). u.actions_made) (sym (same_step _ t _ done e).0)

changing_keeps_made : (s t : State) (line : ActionLine) (y : Edit) (done : Done) → IsChanging s line y → step s y ≡ Ok (t, done) → t.actions_made ≡ s.actions_made
changing_keeps_made s t line y done is e = given_keeps_made s t line (unwrap_or line.index 0) done line.params
    (sym (ap (λ (b : Bool). cond b (change_given s line (unwrap_or line.index 0) line.params) (make_given s line line.params)) is.1) ∙ (sym (ap (step s) is.0) ∙ e))

first_passes : (test : Action → Bool) (xs : List Action) (x : Action) → first_where test xs ≡ Some x → test x ≡ true
first_passes test [] x e = absurd (cc e)
first_passes test (z ∷ zs) x e = pick (test z) refl e (first_passes test zs x)
  where
    pick : (b : Bool) → test z ≡ b → cond b (Some z) (first_where test zs) ≡ Some x → (first_where test zs ≡ Some x → test x ≡ true) → test x ≡ true
    pick true is found rest = let same : z ≡ x = cc found in subst (λ (w : Action). test w ≡ true) same is
    pick false is found rest = rest found

and_second : (p q : Bool) → (p && q) ≡ true → q ≡ true
and_second true q e = e
and_second false q e = absurd (cc e)

named_index : (kind : Kind) (index : ℕ) (x : Action) → is_named kind index x ≡ true → x.index ≡ index
named_index kind index x e = eqb-true x.index index (and_second (kind_eq (kind_of x.params) kind) (x.index == index) e)

module _ (h : List (Commit Edit)) (b : ℕ) (y : Edit) (t : State) (line : ActionLine) (serial : ℕ) (given : Params)
    (a : IsAccepted h b y t dones.ActionChanged) (is : IsChanging (now h) line y) (written : line.params ≡ Some given)
    (named : (action : Action) × (first_where (is_named line.kind (unwrap_or line.index 0)) (now h).actions ≡ Some action) × (action.serial ≡ serial))
    (rest : IsAtRest hook_meaning hook_codec h) (placed : Placed) (here : AreHere placed h) where
  abbrev index : ℕ
  index = unwrap_or line.index 0

  ch : (action : Action) × (params : Params) × (first_where (is_named line.kind (unwrap_or line.index 0)) (now h).actions ≡ Some action) × (line.params ≡ Some params)
      × IsLive hook_meaning (now h) action.serial × SetsAction action.serial action.index params (now h) (next h y)
  ch = subst (λ (z : Edit). (action : Action) × (params : Params) × (first_where (is_named line.kind (unwrap_or line.index 0)) (now h).actions ≡ Some action) × (line.params ≡ Some params)
      × IsLive hook_meaning (now h) action.serial × SetsAction action.serial action.index params (now h) (next h z)) (sym is.0)
      (changed_after h b t line (subst (λ (z : Edit). IsAccepted h b z t dones.ActionChanged) is.0 a))

  same_action : ch.0 ≡ named.0
  same_action = some_is ch.0 named.0 (sym ch.2 ∙ named.1)

  serial_is : ch.0.serial ≡ serial
  serial_is = ap (λ (x : Action). x.serial) same_action ∙ named.2

  index_is : ch.0.index ≡ index
  index_is = named_index line.kind index ch.0 (first_passes (is_named line.kind index) (now h).actions ch.0 ch.2)

  sets : SetsAction serial index given (now h) (next h y)
  sets = subst (λ (n : ℕ). SetsAction n index given (now h) (next h y)) serial_is
      (subst (λ (n : ℕ). SetsAction ch.0.serial n given (now h) (next h y)) index_is
      (subst (λ (p : Params). SetsAction ch.0.serial ch.0.index p (now h) (next h y)) (some_is ch.1 given (sym ch.3 ∙ written)) ch.5))

  pub live : IsLive hook_meaning (now h) serial
  live = subst (IsLive hook_meaning (now h)) serial_is ch.4

  pub stores : CanStore (next h y) serial index given
  stores = can_store (next h y) serial index given (next_sound h b y t dones.ActionChanged a) sets.here

  reads : action_of_words (action_block (stored_as serial index given)) ≡ Some (stored_as serial index given)
  reads = action_reads (stored_as serial index given) stores.storable stores.fit

  abbrev pub slot : ℕ
  slot = slot_of placed serial

  at_slot : IsSlotOf hook_codec h serial slot
  at_slot = here.slots serial live

  pub slot_small : slot < ACTION_SLOTS
  slot_small = at_slot.puts.small

  pub stands : Stands hook_meaning hook_codec h (action_root slot) (ActionRole serial)
  stands = (slot, at_slot, refl, live)

  module _ (blk : ℕ) where
    abbrev pub c : Commit Edit
    c = action_commit slot blk (stored_as serial index given) (point_of h + 1) (Some (point_of h + 1)) y

    pub changes : ChangesAction hook_meaning hook_codec h c y
    changes = record {
      slot = slot;
      put = action_record (stored_as serial index given);
      rest = rest;
      at = at_slot;
      live = live;
      root = refl;
      carries = record { number = refl; stamp = refl; lawful = lawful h b y t dones.ActionChanged a };
      read = ap (option_map action_record) reads;
      touches = sets.touches;
      params = sets.here;
    }

    pub change_law : Keeps hook_meaning hook_codec (h ++ c ∷ []) b
    change_law = change_keeps hook_meaning hook_codec h b c y a.low a.keeps changes

    pub change_rest : IsAtRest hook_meaning hook_codec (h ++ c ∷ [])
    change_rest = change_rests hook_meaning hook_codec h c y changes

    pub changed_back : (r : ℕ) (x : Role) → Stands hook_meaning hook_codec (h ++ c ∷ []) r x → Stands hook_meaning hook_codec h r x
    changed_back = change_back hook_meaning hook_codec h b c y a.low a.keeps changes

    next_is : now (h ++ c ∷ []) ≡ next h y
    next_is = now_next hook_meaning h c (point_of h + 1) y refl

    before : (action : ℕ) → action ≢ serial → IsLive hook_meaning (next h y) action → IsLive hook_meaning (now h) action
    before action away live_ = λ none. live_ (sets.touches.params action away ∙ none)

    other_slot : (action : ℕ) → action ≢ serial → IsLive hook_meaning (now h) action → slot_of placed action ≢ slot
    other_slot action away live_ same = let at = here.slots action live_ in
        let one : ActionRole action ≡ ActionRole serial = (present_end hook_meaning hook_codec h b a.low a.keeps).apart (action_root slot) (ActionRole action) (ActionRole serial)
        (slot_of placed action, at, ap action_root (sym same), live_) stands in
        let equal : action ≡ serial = cc one in away equal

    module _ (low_block : blk < POOL_BLOCKS) where
      abbrev after : Placed
      after = put_at placed serial slot blk

      own_slot : slot_of after serial ≡ slot
      own_slot = get_or-set_same placed.slots serial slot 0 (let most = stores.most in let long = here.long in omega (arith, most, long))

      own_block : block_of after slot ≡ blk
      own_block = get_or-set_same placed.blocks slot blk 0 (let small = slot_small in let wide = here.wide in omega (arith, small, wide))

      same_slot : (action : ℕ) → action ≢ serial → slot_of after action ≡ slot_of placed action
      same_slot action away = get_or-set_other placed.slots serial action slot 0 away

      same_block : (other : ℕ) → other ≢ slot → block_of after other ≡ block_of placed other
      same_block other away = get_or-set_other placed.blocks slot other blk 0 away

      own_alone : IsAlone (h ++ c ∷ []) (slot_of after serial) (block_of after (slot_of after serial))
      own_alone = subst (λ (s : ℕ). IsAlone (h ++ c ∷ []) s (block_of after s)) (sym own_slot) (
        subst (λ (n : ℕ). n < POOL_BLOCKS) (sym own_block) low_block,
        action_block (stored_as serial index given),
        ap (λ (n : Named). n.chain) (root_own h c)
            ∙ ap (λ (n : ℕ). record { block = n; words = action_block (stored_as serial index given) } ∷ []) (sym own_block),
      )

      other_alone : (action : ℕ) → action ≢ serial → IsLive hook_meaning (now h) action → IsAlone (h ++ c ∷ []) (slot_of after action) (block_of after (slot_of after action))
      other_alone action away live_ = let at = here.blocks action live_ in let apart = other_slot action away live_ in
          subst (λ (s : ℕ). IsAlone (h ++ c ∷ []) s (block_of after s)) (sym (same_slot action away))
          (subst (IsAlone (h ++ c ∷ []) (slot_of placed action)) (sym (same_block (slot_of placed action) apart))
          (at.0, at.1, ap (λ (n : Named). n.chain) (root_other h c (action_root (slot_of placed action)) (λ same. apart (omega (arith, same)))) ∙ at.2))

      pub change_here : AreHere after (h ++ c ∷ [])
      change_here = record {
        long = length-set placed.slots serial slot ∙ here.long;
        wide = length-set placed.blocks slot blk ∙ here.wide;
        slots = λ action live_. slots_each action (eqb action serial) refl (subst (λ (s : State). IsLive hook_meaning s action) next_is live_);
        blocks = λ action live_. blocks_each action (eqb action serial) refl (subst (λ (s : State). IsLive hook_meaning s action) next_is live_);
        made = λ action s w. subst (λ (u : State). action ≤ u.actions_made) (sym next_is) (made_each action s (slot_push hook_codec h c action s w));
      }
        where
          slots_each : (action : ℕ) (q : Bool) → eqb action serial ≡ q → IsLive hook_meaning (next h y) action → IsSlotOf hook_codec (h ++ c ∷ []) action (slot_of after action)
          slots_each action true e live_ = let same : action ≡ serial = eqb-true action serial e in
              subst (λ (n : ℕ). IsSlotOf hook_codec (h ++ c ∷ []) n (slot_of after n)) (sym same)
              (subst (IsSlotOf hook_codec (h ++ c ∷ []) serial) (sym own_slot) (slot_longer hook_codec h (c ∷ []) serial slot at_slot))
          slots_each action false e live_ = let away : action ≢ serial = eqb-false action serial e in
              subst (IsSlotOf hook_codec (h ++ c ∷ []) action) (sym (same_slot action away)) (slot_longer hook_codec h (c ∷ []) action (slot_of placed action) (here.slots action (before action away live_)))

          blocks_each : (action : ℕ) (q : Bool) → eqb action serial ≡ q → IsLive hook_meaning (next h y) action → IsAlone (h ++ c ∷ []) (slot_of after action) (block_of after (slot_of after action))
          blocks_each action true e live_ = subst (λ (n : ℕ). IsAlone (h ++ c ∷ []) (slot_of after n) (block_of after (slot_of after n))) (sym (eqb-true action serial e)) own_alone
          blocks_each action false e live_ = let away : action ≢ serial = eqb-false action serial e in other_alone action away (before action away live_)

          made_each : (action s : ℕ) → IsSlotOf hook_codec h action s ⊎ PutsAction hook_codec c action s → action ≤ (next h y).actions_made
          made_each action s (inl w) = let low = here.made action s w in let same = counted in omega (arith, low, same)
            where
              counted : (next h y).actions_made ≡ (now h).actions_made
              counted = ap (λ (u : State). u.actions_made) (leads h b y t dones.ActionChanged a) ∙ changing_keeps_made (now h) t line y dones.ActionChanged is a.steps
          made_each action s (inr p) = let put = some_is p.put (action_record (stored_as serial index given)) (sym p.read ∙ ap (option_map action_record) reads) in
              let same : action ≡ serial = sym p.serial ∙ ap (λ (r : ActionRecord ActionTerms). r.serial) put in
              subst (λ (n : ℕ). n ≤ (next h y).actions_made) (sym same) stores.low
