-- What is known while the lists are ahead of the commits by an edit, once blocks were taken for its commit.
use Rattle.std.proofs.Common.{◌≡◌, ◌∙◌, inr, ℕ, ◌+◌, List, [], ◌∷◌, ◌++◌, length, ap, subst, arith, length-append}
use Rattle.pin_store.specs.Calls.{IsUnnamed}
use Rattle.store_history.specs.declared.history.Commit.{Commit}
use Rattle.store_history.specs.declared.places.TheConstants.{POOL_BLOCKS}
use Rattle.filter_state.specs.declared.edit.Edit.{Edit}
use Rattle.filter_state.specs.declared.edit.FilterLine.{FilterLine}
use Rattle.filter_state.specs.declared.refusal.Done.{Done}
use Rattle.filter_state.specs.States.{State}
use Rattle.mask_table.specs.OfMirrors.Given.{AreGiven}
use Rattle.hook_law.specs.Records.{StatedFilter}
use Rattle.hook_law.specs.Standing.{IsIn}
use Rattle.hook_law.proofs.Standing.{present_end}
use Rattle.hook_store_law.specs.Stated.{hook_meaning, filters_at}
use Rattle.hook_store_law.specs.Blocks.{hook_codec}
use Rattle.hook_store_law.specs.OfEdits.Premises.{now, next, IsAccepted, Loses, filter_of_line}
use Rattle.hook_store_law.proofs.OfEdits.Accepted.{next_sound}
use Rattle.desk_pools.specs.declared.pools.Pools.{Pools}
use Rattle.desk_pools.specs.Pools.{ArePools}
use Rattle.desk_pools.specs.Steps as steps
use Rattle.desk_pools.specs.Steps.{IsInPool}
use Rattle.desk_actions.specs.OfLedgers.Kept.{commits, base}
use Rattle.desk_actions.specs.Places.{slot_of}
use Rattle.desk_masks.specs.OfFilterCommits.Blocks.{AreTaken}
use Rattle.desk_parts.specs.OfFilterNames.Named.{CanBeNamed}
use Rattle.desk_parts.specs.declared.parts.Parts.{Parts}
use Rattle.desk_parts.specs.Desk.{AreSized}
use Rattle.shared_hook.specs.OfDeskEdits.Ahead.{IsAhead}

module _ (parts : Parts) (y : Edit) (done : Done) (a : IsAhead parts y done) where
  abbrev h : List (Commit Edit)
  h = commits parts.ledger

  abbrev b : ℕ
  b = base parts.ledger

  pub accepted : IsAccepted h b y (next h y) done
  accepted = record { keeps = a.has.kept.keeps.law; low = a.has.kept.low; line = a.line; steps = a.steps }

  pub accepted_as : (other : Done) → done ≡ other → IsAccepted h b y (next h y) other
  accepted_as other is = subst (IsAccepted h b y (next h y)) is accepted

  -- the filter that the edit puts into a mask
  pub can_be_named : (line : FilterLine) (handle : ℕ) (serials : List ℕ) (mask : ℕ) → IsIn (filter_of_line line handle serials) (filters_at (next h y) mask)
      → CanBeNamed h (next h y) parts.actions (filter_of_line line handle serials)
  can_be_named line handle serials mask there = record {
    sound = next_sound h b y (next h y) done accepted;
    mask = mask;
    there = there;
    slots = a.actions.slots;
  }

  module _ (pools : Pools) (others : pools ≡ record parts.pools { blocks = pools.blocks }) (p : ArePools pools h b) (given : List ℕ) (taken : steps.AreTaken POOL_BLOCKS (IsUnnamed b h) pools.blocks given) where
    pub are_given : AreGiven b h given
    are_given = record {
      different = taken.different;
      pool = λ place x e. (taken.each x (place, e)).small;
      free = λ place x e. (taken.each x (place, e)).free;
    }

    pub are_taken : AreTaken pools h b y given
    are_taken = record {
      pools_are = p;
      blocks = λ x at. (taken.each x at).apart;
      actions = λ action slot live before slotted in_.
          let same = (present_end hook_meaning hook_codec h b a.has.kept.low a.has.kept.keeps.law).one_slot action slot (slot_of parts.actions action) slotted (a.actions.slots action live) in
          a.apart action (inr live) (subst (λ (n : ℕ). IsInPool n parts.pools.actions) same (subst (IsInPool slot) (ap (λ (q : Pools). q.actions) others) in_));
    }

-- ---- blocks alone are others
pub still_sized : (old now : Pools) → now ≡ record old { blocks = now.blocks } → now.blocks.size ≡ old.blocks.size → AreSized old → AreSized now
still_sized old now others same sized =
    (same ∙ sized.0, ap (λ (q : Pools). q.rows.size) others ∙ sized.1, ap (λ (q : Pools). q.masks.size) others ∙ sized.2, ap (λ (q : Pools). q.actions.size) others ∙ sized.3)

-- ---- how many filters a mask has then
pub one_more : (h k : List (Commit Edit)) (y : Edit) (mask : ℕ) (f : StatedFilter) → now k ≡ next h y → filters_at (next h y) mask ≡ filters_at (now h) mask ++ f ∷ []
    → length (filters_at (now k) mask) ≡ length (filters_at (now h) mask) + 1
one_more h k y mask f same are = let here = ap (λ (s : State). length (filters_at s mask)) same in let all = ap length are in let both = length-append (filters_at (now h) mask) (f ∷ []) in omega (arith, here, all, both)

pub one_fewer : (h k : List (Commit Edit)) (y : Edit) (mask handle : ℕ) → now k ≡ next h y → Loses mask handle (now h) (next h y)
    → length (filters_at (now k) mask) + 1 ≡ length (filters_at (now h) mask)
one_fewer h k y mask handle same l = let here = ap (λ (s : State). length (filters_at s mask)) same in let after = ap length l.loses.after in let before = ap length l.loses.before in
    let one = length-append l.earlier l.later in let two = length-append l.earlier (l.old ∷ l.later) in omega (arith, here, after, before, one, two)
