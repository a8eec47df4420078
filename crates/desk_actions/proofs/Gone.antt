-- An action that an edit deletes: where the others are, and what leaves.
use Rattle.std.proofs.Common.{◌≡◌, ◌≢◌, ◌∙◌, ◌⊎◌, inl, inr, ℕ, ◌+◌, ◌*◌, ◌<◌, ◌≤◌, Bool, true, false, cond, eq-eqb, List, [], ◌∷◌, ◌++◌, Option, Some, None, Ok, refl, sym, ap, subst, arith}
use Rattle.std.specs.Option.{option_map}
use Rattle.act_registry.specs.declared.limits.TheConstants.{MADE_MAX}
use Rattle.store_history.specs.declared.history.Named.{Named}
use Rattle.store_history.specs.declared.history.Commit.{Commit}
use Rattle.store_history.specs.History.{root_of}
use Rattle.store_history.proofs.Lists.{some_is}
use Rattle.store_history.proofs.Histories.{root_other}
use Rattle.store_history.specs.declared.places.TheConstants.{ACTION_SLOTS, ROW_BUCKETS, MASK_ROOTS, ACTION_ROOTS, BUCKET_ROOTS}
use Rattle.act_kinds.specs.declared.params.Kind.{Kind}
use Rattle.filter_state.specs.declared.edit.Edit.{Edit}
use Rattle.filter_state.specs.declared.edit.Edit.TheVariants as edits
use Rattle.filter_state.specs.declared.refusal.Done.{Done}
use Rattle.filter_state.specs.declared.refusal.Done.TheVariants as dones
use Rattle.filter_state.specs.States.{Action, State}
use Rattle.filter_state.specs.Actions.{is_named, has_serial}
use Rattle.filter_state.specs.Tables.{first_where}
use Rattle.filter_state.specs.Refusals.{or_else, no_such_action, action_bound}
use Rattle.filter_state.specs.Steps.{step}
use Rattle.hook_law.specs.Places.{action_root}
use Rattle.hook_law.specs.Meaning.{point_of, IsLive}
use Rattle.hook_law.specs.Standing.{Role, Action as ActionRole, PutsAction, IsSlotOf, IsIn, Stands}
use Rattle.hook_law.specs.Keeping.{IsAtRest}
use Rattle.hook_law.specs.Numbered.{Marks}
use Rattle.hook_law.proofs.Growing.{now_next}
use Rattle.hook_law.proofs.Standing.{slot_longer, slot_push, present_end}
use Rattle.hook_law.proofs.Marking.{mark_back}
use Rattle.hook_store_law.specs.Stated.{hook_meaning, action_stated, action_at}
use Rattle.hook_store_law.specs.Blocks.{hook_codec}
use Rattle.hook_store_law.specs.OfEffects.Parts.{params_at}
use Rattle.hook_store_law.proofs.OfEffects.Accepted.{not_unless, same_step}
use Rattle.hook_store_law.proofs.OfEffects.Shared.{deleted_action}
use Rattle.hook_store_law.specs.OfEdits.Premises.{now, next, IsAccepted, IsUnseen}
use Rattle.hook_store_law.proofs.OfEdits.Accepted.{leads, sound}
use Rattle.hook_store_law.proofs.OfEdits.Marking.{marks}
use Rattle.root_pool_laws.specs.Blocks.{IsBlockOf, HasBlock, IsLeft}
use Rattle.root_pool_laws.proofs.Blocks.{has_push}
use Rattle.root_pool_laws.proofs.Apart.{in_left, in_right}
use Rattle.desk_pools.specs.declared.pools.Pools.{Pools}
use Rattle.desk_pools.specs.Pools.{roots_of, gone_roots, IsLeftAt, ArePools}
use Rattle.desk_pools.specs.Steps.{IsInPool}
use Rattle.desk_pools.proofs.RootsOf.{roots_have}
use Rattle.desk_pools.proofs.Steps.{pools_commit, standing_block}
use Rattle.desk_actions.specs.OfLedgers.Ledger.{mark_at}
use Rattle.desk_actions.specs.Places.{Placed, slot_of, block_of, IsAlone, AreHere}
use Rattle.desk_actions.proofs.Turning.{alone_has, standing_slot}

-- ---- live actions and their parameters
mapped_none : {A B : Type 0} (f : A → B) (x : Option A) → option_map f x ≡ None → x ≡ None
mapped_none f None e = refl
mapped_none f (Some x) e = absurd (cc e)

no_params : (s : State) (a : ℕ) → params_at s a ≡ None → action_at s a ≡ None
no_params s a e = ap (option_map action_stated) (mapped_none (λ (x : Action). x.params) (first_where (has_serial a) s.actions) e)

no_action : (s : State) (a : ℕ) → action_at s a ≡ None → params_at s a ≡ None
no_action s a e = ap (option_map (λ (x : Action). x.params)) (mapped_none action_stated (first_where (has_serial a) s.actions) e)

deleting_keeps_made : (s t : State) (kind : Kind) (index : ℕ) (done : Done) → step s (edits.ActionDel kind index) ≡ Ok (t, done) → t.actions_made ≡ s.actions_made
deleting_keeps_made s t kind index done e = let rest = (not_unless (or_else (no_such_action s kind index) (action_bound s kind index)) _ (t, done) e).1 in
    ap (λ (u : State). u.actions_made) (sym (same_step _ t dones.ActionGone done rest).0)

-- an action that is found by its name is found by its serial
found_by : (p q : Action → Bool) (xs : List Action) (x : Action) → first_where p xs ≡ Some x → q x ≡ true → first_where q xs ≡ None → ⊥
found_by p q [] x e passes none = cc e
found_by p q (z ∷ zs) x e passes none = pick (q z) (p z) refl refl none e (found_by p q zs x)
  where
    pick : (t u : Bool) → q z ≡ t → p z ≡ u → cond t (Some z) (first_where q zs) ≡ None → cond u (Some z) (first_where p zs) ≡ Some x → (first_where p zs ≡ Some x → q x ≡ true → first_where q zs ≡ None → ⊥) → ⊥
    pick true u a c none_ found rest = cc none_
    pick false true a c none_ found rest = let same : z ≡ x = cc found in let bad = ap q same in cc (a, bad, passes)
    pick false false a c none_ found rest = rest found passes none_

pub named_live : (s : State) (kind : Kind) (index serial : ℕ) → (action : Action) × (first_where (is_named kind index) s.actions ≡ Some action) × (action.serial ≡ serial) → IsLive hook_meaning s serial
named_live s kind index serial named none = found_by (is_named kind index) (has_serial serial) s.actions named.0 named.1 (eq-eqb named.0.serial serial named.2)
    (mapped_none action_stated (first_where (has_serial serial) s.actions) none)

module _ (h : List (Commit Edit)) (b : ℕ) (y : Edit) (t : State) (done : Done) (kind : Kind) (index serial : ℕ) (a : IsAccepted h b y t done) (is : y ≡ edits.ActionDel kind index)
    (named : (action : Action) × (first_where (is_named kind index) (now h).actions ≡ Some action) × (action.serial ≡ serial)) (live : IsLive hook_meaning (now h) serial)
    (rest : IsAtRest hook_meaning hook_codec h) (placed : Placed) (here : AreHere placed h) (number : ℕ) (next_number : number ≡ point_of h + 1) where
  steps : step (now h) (edits.ActionDel kind index) ≡ Ok (t, done)
  steps = sym (ap (step (now h)) is) ∙ a.steps

  lost : (action : Action) × (first_where (is_named kind index) (now h).actions ≡ Some action) × (params_at t action.serial ≡ None) × ((other : ℕ) → other ≢ action.serial → params_at t other ≡ params_at (now h) other)
  lost = deleted_action (now h) t kind index done (sound h b y t done a) steps

  it_is : lost.0.serial ≡ serial
  it_is = ap (λ (x : Action). x.serial) (some_is lost.0 named.0 (sym lost.1 ∙ named.1)) ∙ named.2

  next_is_t : next h y ≡ t
  next_is_t = leads h b y t done a

  pub gone : IsLive hook_meaning (next h y) serial → ⊥
  gone live_ = subst (λ (s : State). IsLive hook_meaning s serial) next_is_t live_ (no_params t serial (subst (λ (n : ℕ). params_at t n ≡ None) it_is lost.2))

  before : (action : ℕ) → IsLive hook_meaning (next h y) action → IsLive hook_meaning (now h) action
  before action live_ none = subst (λ (s : State). IsLive hook_meaning s action) next_is_t live_
      (no_params t action (lost.3 action (λ same. gone (subst (IsLive hook_meaning (next h y)) (same ∙ it_is) live_)) ∙ no_action (now h) action none))

  abbrev pub c : Commit Edit
  c = mark_at number y

  marked : Marks hook_meaning hook_codec h c y
  marked = marks h b c y t done a (subst IsUnseenEdit (sym is) tt) rest refl (ap (λ (n : ℕ). Some (n, y)) next_number) next_number
    where
      IsUnseenEdit : Edit → Type 0
      IsUnseenEdit e = IsUnseen e

  back : (r : ℕ) (x : Role) → Stands hook_meaning hook_codec (h ++ c ∷ []) r x → Stands hook_meaning hook_codec h r x
  back = mark_back hook_meaning hook_codec h b c y a.low a.keeps marked

  now_is : now (h ++ c ∷ []) ≡ next h y
  now_is = now_next hook_meaning h c number y refl

  same_root : (s : ℕ) → root_of (h ++ c ∷ []) (action_root s) ≡ root_of h (action_root s)
  same_root s = root_other h c (action_root s) (λ same. omega (arith, same))

  pub delete_here : AreHere placed (h ++ c ∷ [])
  delete_here = record {
    long = here.long;
    wide = here.wide;
    slots = λ action live_. slot_longer hook_codec h (c ∷ []) action (slot_of placed action) (here.slots action (earlier action live_));
    blocks = λ action live_. let at = here.blocks action (earlier action live_) in (at.0, at.1, ap (λ (n : Named). n.chain) (same_root (slot_of placed action)) ∙ at.2);
    made = λ action s w. let low = put_before action s (slot_push hook_codec h c action s w) in let same = counted in omega (arith, low, same);
  }
    where
      earlier : (action : ℕ) → IsLive hook_meaning (now (h ++ c ∷ [])) action → IsLive hook_meaning (now h) action
      earlier action live_ = before action (subst (λ (s : State). IsLive hook_meaning s action) now_is live_)

      counted : (now (h ++ c ∷ [])).actions_made ≡ (now h).actions_made
      counted = ap (λ (s : State). s.actions_made) (now_is ∙ next_is_t) ∙ deleting_keeps_made (now h) t kind index done steps

      put_before : (action s : ℕ) → IsSlotOf hook_codec h action s ⊎ PutsAction hook_codec c action s → action ≤ (now h).actions_made
      put_before action s (inl w) = here.made action s w
      put_before action s (inr p) = let root = p.root in absurd (omega (arith, root))

  pub serial_small : serial ≤ MADE_MAX
  serial_small = let low = here.made serial (slot_of placed serial) (here.slots serial live) in let most = (sound h b y t done a).made in omega (arith, low, most)

  abbrev pub slot : ℕ
  slot = slot_of placed serial

  pub slot_small : slot < ACTION_SLOTS
  slot_small = (here.slots serial live).puts.small

  stood : Stands hook_meaning hook_codec h (action_root slot) (ActionRole serial)
  stood = (slot, here.slots serial live, refl, live)

  -- nothing stands at the slot afterwards
  pub slot_left : IsLeftAt (h ++ c ∷ []) ACTION_ROOTS 1 slot
  slot_left j less x stands_ = let same : ACTION_ROOTS + 1 * slot + j ≡ action_root slot = omega (arith, less) in
      let after = subst (λ (r : ℕ). Stands hook_meaning hook_codec (h ++ c ∷ []) r x) same stands_ in
      let one : x ≡ ActionRole serial = (present_end hook_meaning hook_codec h b a.low a.keeps).apart (action_root slot) x (ActionRole serial) (back (action_root slot) x after) stood in
      let it : Stands hook_meaning hook_codec (h ++ c ∷ []) (action_root slot) (ActionRole serial) = subst (Stands hook_meaning hook_codec (h ++ c ∷ []) (action_root slot)) one after in
      gone (subst (λ (s : State). IsLive hook_meaning s serial) now_is it.3)

  pub alone : IsAlone h slot (block_of placed slot)
  alone = here.blocks serial live

  module _ (pools : Pools) (p : ArePools pools h b) where
    pub delete_pools : ArePools pools (h ++ c ∷ []) b
    delete_pools = pools_commit pools h b c [] a.low p (record {
      spends = λ place l at. absurd (cc at);
      free = λ x at. absurd (nothing x at);
      small = λ x at. absurd (nothing x at);
      taken = λ x at. absurd (nothing x at);
      masks = λ s in_ x stands_. back _ x stands_;
      actions = λ s in_ x stands_. back _ x stands_;
      rows = λ row place in_ less x stands_. back _ x stands_;
    })
      where
        nothing : (x : ℕ) → IsIn {A = ℕ} x [] → ⊥
        nothing x at = let e = at.1 in cc e

    pub slot_apart : IsInPool slot pools.actions → ⊥
    slot_apart = standing_slot pools h b slot (ActionRole serial) a.low p stood

    pub block_apart : IsInPool (block_of placed slot) pools.blocks → ⊥
    block_apart = standing_block pools h b (action_root slot) (block_of placed slot) (ActionRole serial) a.low p (alone_has h slot (block_of placed slot) alone) stood

    -- only the slot's root has the block
    pub block_left : (now_gone : Pools) → IsIn slot now_gone.actions.left → IsLeft (gone_roots now_gone) (h ++ c ∷ []) (block_of placed slot)
    block_left now_gone left r has = subst (λ (n : ℕ). IsIn n (gone_roots now_gone)) (p.one_root (action_root slot) r (block_of placed slot) (alone_has h slot (block_of placed slot) alone) (earlier (has_push h c r (block_of placed slot) has))) in_gone
      where
        earlier : HasBlock h r (block_of placed slot) ⊎ ((c.root ≡ r) × IsBlockOf (block_of placed slot) c.named.chain) → HasBlock h r (block_of placed slot)
        earlier (inl one) = one
        earlier (inr own) = let e = own.1.2 in absurd (cc e)

        in_gone : IsIn (action_root slot) (gone_roots now_gone)
        in_gone = let same : ACTION_ROOTS + 1 * slot + 0 ≡ action_root slot = omega arith in
            in_left (roots_of MASK_ROOTS 1 now_gone.masks.left ++ roots_of ACTION_ROOTS 1 now_gone.actions.left) (roots_of BUCKET_ROOTS ROW_BUCKETS now_gone.rows.left) (action_root slot)
            (in_right (roots_of MASK_ROOTS 1 now_gone.masks.left) (roots_of ACTION_ROOTS 1 now_gone.actions.left) (action_root slot)
            (subst (λ (n : ℕ). IsIn n (roots_of ACTION_ROOTS 1 now_gone.actions.left)) same (roots_have ACTION_ROOTS 1 now_gone.actions.left slot 0 left (omega arith))))
