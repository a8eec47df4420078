-- An edit that changes an action, from the lists to what leaves.
use Rattle.std.proofs.Common.{◌≡◌, ◌∙◌, inl, inr, ℕ, ◌+◌, ◌*◌, ◌<◌, ◌≤◌, Bool, true, false, eqb, eqb-true, List, [], ◌∷◌, ◌++◌, length, slice_get, Some, refl, sym, ap, subst, arith, zero, suc}
use Rattle.std.specs.Option.{unwrap_or}
use Rattle.std.proofs.lemmas.Bool.{eqb-false}
use Rattle.store_history.specs.declared.history.Link.{Link}
use Rattle.store_history.specs.declared.history.Named.{Named}
use Rattle.store_history.specs.declared.history.Commit.{Commit}
use Rattle.store_history.proofs.Histories.{root_own, root_other}
use Rattle.store_history.specs.declared.places.TheConstants.{ACTION_SLOTS, ACTION_ROOTS, POOL_BLOCKS}
use Rattle.pin_store.specs.Calls.{IsUnnamed}
use Rattle.act_kinds.specs.declared.params.Params.{Params}
use Rattle.filter_state.specs.declared.action_line.ActionLine.{ActionLine}
use Rattle.filter_state.specs.declared.edit.Edit.{Edit}
use Rattle.filter_state.specs.declared.refusal.Done.{Done}
use Rattle.filter_state.specs.declared.refusal.Done.TheVariants as dones
use Rattle.filter_state.specs.States.{Action}
use Rattle.filter_state.specs.Actions.{is_named}
use Rattle.filter_state.specs.Tables.{first_where}
use Rattle.filter_state.specs.Lines.{IsLine}
use Rattle.filter_state.specs.Steps.{step}
use Rattle.hook_lists.specs.declared.kept.Kept.{Kept}
use Rattle.filter_lists.specs.Edits.{IsFinished}
use Rattle.hook_law.specs.Places.{action_root}
use Rattle.hook_law.specs.Meaning.{point_of}
use Rattle.hook_law.specs.Standing.{Role, Action as ActionRole, Stands}
use Rattle.hook_law.specs.Keeping.{Keeps, IsAtRest}
use Rattle.hook_law.proofs.Standing.{unused_end}
use Rattle.hook_store_law.specs.Stated.{hook_meaning}
use Rattle.hook_store_law.specs.Blocks.{hook_codec}
use Rattle.hook_store_law.specs.Kept.{KeepsHook}
use Rattle.hook_store_law.specs.OfEdits.Premises.{now, next, IsAccepted}
use Rattle.root_pool_laws.specs.Blocks.{HasBlock, IsLeft}
use Rattle.root_pool_laws.proofs.Blocks.{unnamed_end}
use Rattle.desk_actions.specs.OfRoots.Records.{action_block, action_commit}
use Rattle.desk_pools.specs.declared.pools.Pools.{Pools}
use Rattle.desk_pools.specs.Pools.{gone_roots, ArePools}
use Rattle.desk_pools.specs.Steps.{IsInPool, IsTaken}
use Rattle.desk_pools.proofs.Steps.{pools_commit, standing_block}
use Rattle.desk_actions.specs.OfLedgers.Ledger.{IsLedger}
use Rattle.desk_actions.proofs.OfLedgers.Going.{IsDone, done_is, next_keeps, ledger_next}
use Rattle.desk_actions.specs.Places.{Placed, slot_of, block_of, IsAlone, AreHere, put_at}
use Rattle.desk_actions.specs.Kinds.{IsChanging}
use Rattle.desk_actions.proofs.Made.{CanStore, stored_as}
use Rattle.desk_actions.proofs.Changed.{changing_changed, live, stores, slot_small, stands, change_law, change_rest, changed_back, change_here}
use Rattle.desk_actions.proofs.Stepping.{slot_leaves}

-- the root of a slot has the block that it names alone
pub alone_has : (h : List (Commit Edit)) (slot block : ℕ) → IsAlone h slot block → HasBlock h (action_root slot) block
alone_has h slot block alone = (0, record { block = block; words = alone.1 }, ap (λ (ls : List Link). slice_get ls 0) alone.2, refl)

-- the slot of something that stands is in no pool
pub standing_slot : (pools : Pools) (h : List (Commit Edit)) (b slot : ℕ) (x : Role) → b ≤ length h → ArePools pools h b → Stands hook_meaning hook_codec h (action_root slot) x → IsInPool slot pools.actions → ⊥
standing_slot pools h b slot x low p stands_ (inl at) = unused_end hook_meaning hook_codec h b (ACTION_ROOTS + 1 * slot + 0) x low (p.actions.may_be_given at.0 slot at.1 0 (omega arith))
    (subst (λ (r : ℕ). Stands hook_meaning hook_codec h r x) (omega arith) stands_)
standing_slot pools h b slot x low p stands_ (inr at) = p.actions.have_left at.0 slot at.1 0 (omega arith) x (subst (λ (r : ℕ). Stands hook_meaning hook_codec h r x) (omega arith) stands_)

module _ (h : List (Commit Edit)) (b : ℕ) (old new : Kept) (point : ℕ) (y : Edit) (line : ActionLine) (l : IsLedger h b old point) (line_ok : IsLine y)
    (changing : IsChanging (now h) line y) (done : Done) (f : IsFinished new done (step (now h) y)) where
  d : IsDone h b y new done
  d = done_is h b old new point y done l line_ok f

  was : (done ≡ dones.ActionChanged) × (params : Params) × (line.params ≡ Some params)
  was = changing_changed (now h) d.state line y done changing d.accepted.steps

  pub has_params : (params : Params) × (line.params ≡ Some params)
  has_params = (was.1, was.2)

  accepted : IsAccepted h b y d.state dones.ActionChanged
  accepted = subst (IsAccepted h b y d.state) was.0 d.accepted

  module _ (serial : ℕ) (given : Params) (written : line.params ≡ Some given)
      (named : (action : Action) × (first_where (is_named line.kind (unwrap_or line.index 0)) (now h).actions ≡ Some action) × (action.serial ≡ serial)) (placed : Placed) (here : AreHere placed h) where
    pub can : CanStore (next h y) serial (unwrap_or line.index 0) given
    can = stores h b y d.state line serial given accepted changing written named l.rest placed here

    abbrev slot : ℕ
    slot = slot_of placed serial

    pub small_slot : slot < ACTION_SLOTS
    small_slot = slot_small h b y d.state line serial given accepted changing written named l.rest placed here

    pub it_stands : Stands hook_meaning hook_codec h (action_root slot) (ActionRole serial)
    it_stands = stands h b y d.state line serial given accepted changing written named l.rest placed here

    -- the block that the action had
    pub alone : IsAlone h slot (block_of placed slot)
    alone = here.blocks serial (live h b y d.state line serial given accepted changing written named l.rest placed here)

    module _ (blk : ℕ) where
      abbrev pub put : ℕ → Commit Edit
      put number = action_commit slot blk (stored_as serial (unwrap_or line.index 0) given) number (Some number) y

      at_point : put (point_of h + 1) ≡ put (point + 1)
      at_point = ap (λ (n : ℕ). put (n + 1)) (sym l.kept.point_is)

      law : Keeps hook_meaning hook_codec (h ++ put (point + 1) ∷ []) b
      law = subst (λ c. Keeps hook_meaning hook_codec (h ++ c ∷ []) b) at_point
          (change_law h b y d.state line serial given accepted changing written named l.rest placed here blk)

      pub change_lawful : KeepsHook (h ++ put (point + 1) ∷ []) b
      change_lawful = next_keeps h b point (put (point + 1)) l.kept refl law

      rests : IsAtRest hook_meaning hook_codec (h ++ put (point + 1) ∷ [])
      rests = subst (λ c. IsAtRest hook_meaning hook_codec (h ++ c ∷ [])) at_point
          (change_rest h b y d.state line serial given accepted changing written named l.rest placed here blk)

      numbered : (put (point + 1)).edit ≡ Some (point_of h + 1, y)
      numbered = ap (λ (n : ℕ). Some (n + 1, y)) l.kept.point_is

      pub change_ledger : IsLedger (h ++ put (point + 1) ∷ []) b new (point + 1)
      change_ledger = ledger_next h b old new point y done (put (point + 1)) l d numbered refl law rests

      pub change_places : blk < POOL_BLOCKS → AreHere (put_at placed serial slot blk) (h ++ put (point + 1) ∷ [])
      change_places low_block = subst (λ c. AreHere (put_at placed serial slot blk) (h ++ c ∷ [])) at_point
          (change_here h b y d.state line serial given accepted changing written named l.rest placed here blk low_block)

      back : (r : ℕ) (x : Role) → Stands hook_meaning hook_codec (h ++ put (point + 1) ∷ []) r x → Stands hook_meaning hook_codec h r x
      back = subst (λ c. (r : ℕ) (x : Role) → Stands hook_meaning hook_codec (h ++ c ∷ []) r x → Stands hook_meaning hook_codec h r x) at_point
          (changed_back h b y d.state line serial given accepted changing written named l.rest placed here blk)

      module _ (pools : Pools) (p : ArePools pools h b) (taken : IsTaken POOL_BLOCKS (IsUnnamed b h) pools.blocks blk) where
        pub change_pools : ArePools pools (h ++ put (point + 1) ∷ []) b
        change_pools = pools_commit pools h b (put (point + 1)) (blk ∷ []) l.kept.low p
            (slot_leaves pools h b (put (point + 1)) slot blk (action_block (stored_as serial (unwrap_or line.index 0) given)) p taken small_slot
            (standing_slot pools h b slot (ActionRole serial) l.kept.low p it_stands) refl (λ r away x s. back r x s))

        -- the block that the action had is in no pool, and after the commit no root has it
        pub old_apart : IsInPool (block_of placed slot) pools.blocks → ⊥
        old_apart = standing_block pools h b (action_root slot) (block_of placed slot) (ActionRole serial) l.kept.low p (alone_has h slot (block_of placed slot) alone) it_stands

        pub old_left : IsLeft (gone_roots pools) (h ++ put (point + 1) ∷ []) (block_of placed slot)
        old_left r has = absurd (pick (eqb (action_root slot) r) refl)
          where
            c : Commit Edit
            c = put (point + 1)

            old_has : HasBlock h (action_root slot) (block_of placed slot)
            old_has = alone_has h slot (block_of placed slot) alone

            own : HasBlock (h ++ put (point + 1) ∷ []) (action_root slot) (block_of placed slot) → ⊥
            own at = first at.0 at.1 (sym (ap (λ (n : Named). slice_get n.chain at.0) (root_own h (put (point + 1)))) ∙ at.2) at.3
              where
                first : (place : ℕ) (link : Link) → slice_get {X = Link} (record { block = blk; words = action_block (stored_as serial (unwrap_or line.index 0) given) } ∷ []) place ≡ Some link → link.block ≡ block_of placed slot → ⊥
                first zero link e same = let is : record { block = blk; words = action_block (stored_as serial (unwrap_or line.index 0) given) } ≡ link = cc e in
                    unnamed_end h b blk l.kept.low taken.free (action_root slot) (subst (HasBlock h (action_root slot)) (sym (ap (λ (k : Link). k.block) is ∙ same)) old_has)
                first (suc place) link e same = absurd (cc e)

            pick : (t : Bool) → eqb (action_root slot) r ≡ t → ⊥
            pick true e = own (subst (λ (q : ℕ). HasBlock (h ++ put (point + 1) ∷ []) q (block_of placed slot)) (sym (eqb-true (action_root slot) r e)) has)
            pick false e = let away = eqb-false (action_root slot) r e in
                let before : HasBlock h r (block_of placed slot) = (has.0, has.1, sym (ap (λ (n : Named). slice_get n.chain has.0) (root_other h (put (point + 1)) r away)) ∙ has.2, has.3) in
                away (p.one_root (action_root slot) r (block_of placed slot) old_has before)
