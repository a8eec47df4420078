-- An edit that makes an action, from the lists to the commit.
use Rattle.std.proofs.Common.{◌≡◌, ◌≢◌, ◌∙◌, ◌⊎◌, inl, inr, ℕ, ◌+◌, ◌*◌, ◌<◌, List, [], ◌∷◌, ◌++◌, get_or, slice_get, Some, refl, sym, ap, subst, arith, zero, suc}
use Rattle.store_history.specs.declared.history.Link.{Link}
use Rattle.store_history.specs.declared.history.Commit.{Commit}
use Rattle.store_history.specs.declared.places.TheConstants.{MASK_SLOTS, ACTION_SLOTS, ACTION_ROOTS, POOL_BLOCKS}
use Rattle.pin_store.specs.declared.view.Sheet.{Sheet}
use Rattle.pin_store.specs.Sheets.{base_of, IsSameButCells}
use Rattle.pin_store.specs.Calls.{IsUnnamed}
use Rattle.act_kinds.specs.declared.params.Params.{Params}
use Rattle.filter_state.specs.declared.action_line.ActionLine.{ActionLine}
use Rattle.filter_state.specs.declared.edit.Edit.{Edit}
use Rattle.filter_state.specs.declared.refusal.Done.{Done}
use Rattle.filter_state.specs.declared.refusal.Done.TheVariants as dones
use Rattle.filter_state.specs.Lines.{IsLine}
use Rattle.filter_state.specs.Steps.{step}
use Rattle.hook_lists.specs.declared.kept.Kept.{Kept}
use Rattle.filter_lists.specs.Edits.{IsFinished}
use Rattle.hook_law.specs.Places.{mask_root, action_root, bucket_root}
use Rattle.hook_law.specs.Meaning.{point_of}
use Rattle.hook_law.specs.Standing.{IsIn, IsUnused}
use Rattle.hook_law.specs.Keeping.{Keeps, IsAtRest}
use Rattle.hook_store_law.specs.Stated.{hook_meaning}
use Rattle.hook_store_law.specs.Blocks.{hook_codec}
use Rattle.hook_store_law.specs.Kept.{KeepsHook}
use Rattle.hook_store_law.specs.OfEdits.Premises.{now, next, IsAccepted}
use Rattle.root_pool_laws.specs.Blocks.{HasBlock}
use Rattle.root_pool_laws.proofs.Apart.{in_left, in_right}
use Rattle.desk_actions.specs.OfRoots.Records.{action_block, action_commit}
use Rattle.desk_pools.specs.declared.pools.Pools.{Pools}
use Rattle.desk_pools.specs.Pools.{IsFreeAt, ArePools}
use Rattle.desk_pools.specs.Steps.{IsInPool, IsTaken, NothingComes, LeavesPools}
use Rattle.desk_pools.proofs.Steps.{pools_commit}
use Rattle.desk_actions.specs.OfLedgers.Ledger.{IsLedger}
use Rattle.desk_actions.proofs.OfLedgers.Going.{IsDone, done_is, next_keeps, ledger_next}
use Rattle.desk_actions.specs.Places.{Placed, AreHere, put_at}
use Rattle.desk_actions.specs.Kinds.{IsMaking}
use Rattle.desk_actions.proofs.Made.{CanStore, stored_as, making_made, as_edit, stores, make_law, make_rest, make_here, make_back}

-- the base of a sheet whose cells alone are others
pub same_base : (old new : Sheet) → IsSameButCells old new → base_of new ≡ base_of old
same_base old new same = λ t. get_or (same.starts t) (same.quiet t) 0

one_in : (x y : ℕ) → IsIn {A = ℕ} x (y ∷ []) → x ≡ y
one_in x y at = go at.0 at.1
  where
    go : (place : ℕ) → slice_get {X = ℕ} (y ∷ []) place ≡ Some x → x ≡ y
    go zero e = let same : y ≡ x = cc e in sym same
    go (suc place) e = absurd (cc e)

-- a free slot's root
pub slot_unused : (h : List (Commit Edit)) (b slot : ℕ) → IsFreeAt h b ACTION_ROOTS 1 slot → IsUnused hook_meaning hook_codec b h (action_root slot)
slot_unused h b slot free = let same : ACTION_ROOTS + 1 * slot + 0 ≡ action_root slot = omega arith in subst (IsUnused hook_meaning hook_codec b h) same (free 0 (omega arith))

in_pool_small : (size : ℕ) (free left : List ℕ) (x : ℕ) → ((place y : ℕ) → slice_get (free ++ left) place ≡ Some y → y < size) → IsIn x (free ++ left) → x < size
in_pool_small size free left x small at = small at.0 x at.1

-- a commit to the root of a slot that was taken, of a block that was taken, leaves the pools as right as they are
pub slot_leaves : (pools : Pools) (h : List (Commit Edit)) (b : ℕ) (c : Commit Edit) (slot blk : ℕ) (words : List ℕ) → ArePools pools h b → IsTaken POOL_BLOCKS (IsUnnamed b h) pools.blocks blk
    → slot < ACTION_SLOTS → (IsInPool slot pools.actions → ⊥) → c.named.chain ≡ record { block = blk; words = words } ∷ [] → ((r : ℕ) → r ≢ action_root slot → NothingComes h c r) → LeavesPools pools h b c (blk ∷ [])
slot_leaves pools h b c slot blk words p taken small apart chain back = record {
  spends = λ place l at. spent place l (sym (ap (λ (ls : List Link). slice_get ls place) chain) ∙ at);
  free = λ x at. subst (IsUnnamed b h) (sym (one_in x blk at)) taken.free;
  small = λ x at. subst (λ (n : ℕ). n < POOL_BLOCKS) (sym (one_in x blk at)) taken.small;
  taken = λ x at in_. taken.apart (subst (λ (n : ℕ). IsInPool n pools.blocks) (one_in x blk at) in_);
  masks = λ s in_. back (mask_root s) (λ same. let low = mask_small s in_ in omega (arith, same, low));
  actions = λ s in_. back (action_root s) (λ same. let is : s ≡ slot = omega (arith, same) in apart (subst (λ (n : ℕ). IsInPool n pools.actions) is in_));
  rows = λ row place in_ less. back (bucket_root row place) (λ same. omega (arith, same, small));
}
  where
    mask_small : (s : ℕ) → IsInPool s pools.masks → s < MASK_SLOTS
    mask_small s (inl at) = let in_ = in_left pools.masks.free pools.masks.left s at in p.masks.small in_.0 s in_.1
    mask_small s (inr at) = let in_ = in_right pools.masks.free pools.masks.left s at in p.masks.small in_.0 s in_.1

    spent : (place : ℕ) (l : Link) → slice_get {X = Link} (record { block = blk; words = words } ∷ []) place ≡ Some l → IsIn l.block (blk ∷ []) ⊎ HasBlock h c.root l.block
    spent zero l e = let same : record { block = blk; words = words } ≡ l = cc e in inl (0, ap (λ (k : Link). Some k.block) same)
    spent (suc place) l e = absurd (cc e)

module _ (h : List (Commit Edit)) (b : ℕ) (old new : Kept) (point : ℕ) (y : Edit) (line : ActionLine) (l : IsLedger h b old point) (line_ok : IsLine y)
    (making : IsMaking (now h) line y) (done : Done) (f : IsFinished new done (step (now h) y)) where
  d : IsDone h b y new done
  d = done_is h b old new point y done l line_ok f

  pub made_one : (index : ℕ) × (serial : ℕ) × (params : Params) × (done ≡ dones.ActionMade index serial) × (line.params ≡ Some params)
  made_one = making_made (now h) d.state line y done making d.accepted.steps

  module _ (index serial : ℕ) (given : Params) (e : done ≡ dones.ActionMade index serial) (written : line.params ≡ Some given) (placed : Placed) (here : AreHere placed h) where
    accepted : IsAccepted h b y d.state (dones.ActionMade index serial)
    accepted = subst (IsAccepted h b y d.state) e d.accepted

    pub can : CanStore (next h y) serial index given
    can = stores h b y d.state line index serial given accepted (as_edit (now h) line y making) written l.rest placed here

    module _ (slot blk : ℕ) (small : slot < ACTION_SLOTS) (unused : IsUnused hook_meaning hook_codec b h (action_root slot)) where
      abbrev pub put : ℕ → Commit Edit
      put number = action_commit slot blk (stored_as serial index given) number (Some number) y

      at_point : put (point_of h + 1) ≡ put (point + 1)
      at_point = ap (λ (n : ℕ). put (n + 1)) (sym l.kept.point_is)

      law : Keeps hook_meaning hook_codec (h ++ put (point + 1) ∷ []) b
      law = subst (λ c. Keeps hook_meaning hook_codec (h ++ c ∷ []) b) at_point
          (make_law h b y d.state line index serial given accepted (as_edit (now h) line y making) written l.rest placed here slot blk small unused)

      pub next_lawful : KeepsHook (h ++ put (point + 1) ∷ []) b
      next_lawful = next_keeps h b point (put (point + 1)) l.kept refl law

      rests : IsAtRest hook_meaning hook_codec (h ++ put (point + 1) ∷ [])
      rests = subst (λ c. IsAtRest hook_meaning hook_codec (h ++ c ∷ [])) at_point
          (make_rest h b y d.state line index serial given accepted (as_edit (now h) line y making) written l.rest placed here slot blk small unused)

      numbered : (put (point + 1)).edit ≡ Some (point_of h + 1, y)
      numbered = ap (λ (n : ℕ). Some (n + 1, y)) l.kept.point_is

      pub next_ledger : IsLedger (h ++ put (point + 1) ∷ []) b new (point + 1)
      next_ledger = ledger_next h b old new point y done (put (point + 1)) l d numbered refl law rests

      pub next_here : blk < POOL_BLOCKS → AreHere (put_at placed serial slot blk) (h ++ put (point + 1) ∷ [])
      next_here low_block = subst (λ c. AreHere (put_at placed serial slot blk) (h ++ c ∷ [])) at_point
          (make_here h b y d.state line index serial given accepted (as_edit (now h) line y making) written l.rest placed here slot blk small unused low_block)

      back : (r : ℕ) → r ≢ action_root slot → NothingComes h (put (point + 1)) r
      back = subst (λ c. (r : ℕ) → r ≢ action_root slot → NothingComes h c r) at_point
          (make_back h b y d.state line index serial given accepted (as_edit (now h) line y making) written l.rest placed here slot blk small unused)

      pub next_pools : (pools : Pools) → ArePools pools h b → IsTaken POOL_BLOCKS (IsUnnamed b h) pools.blocks blk → (IsInPool slot pools.actions → ⊥) → ArePools pools (h ++ put (point + 1) ∷ []) b
      next_pools pools p taken apart = pools_commit pools h b (put (point + 1)) (blk ∷ []) l.kept.low p
          (slot_leaves pools h b (put (point + 1)) slot blk (action_block (stored_as serial index given)) p taken small apart refl back)
