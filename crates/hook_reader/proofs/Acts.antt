-- What the visit of an action tells and leaves.
use Rattle.std.proofs.Common.{◌≡◌, ◌∙◌, ℕ, ◌≤◌, List, max, Option, Some, None, refl, sym, ap, subst, arith}
use mathlib.Core.List.{IsPrefix}
use Rattle.std.proofs.lemmas.Option.{none-some, same_Some}
use Rattle.store_history.specs.declared.history.Commit.{Commit}
use Rattle.store_history.specs.History.{root_of}
use Rattle.store_history.specs.Reads.{read_first}
use Rattle.store_history.specs.declared.places.TheConstants.{MASK_SLOTS}
use Rattle.pin_store.specs.Calls.{seen_by, floor_start, IsSameReader}
use Rattle.filter_state.specs.declared.edit.Edit.{Edit}
use Rattle.visit_room.specs.declared.names.ActionName.{ActionName}
use Rattle.std.specs.Option.{option_map}
use Rattle.act_kinds.specs.declared.params.Params.{Params}
use Rattle.act_kinds.specs.Acts.{FitsFrames}
use Rattle.block_codec.specs.declared.action.StoredAction.{StoredAction}
use Rattle.block_codec.specs.OfReadings.Read.{action_of_words}
use Rattle.walk_rules.specs.Questions.{params_of, told_params}
use Rattle.walk_rules.specs.Answers.{answer_of}
use Rattle.hook_law.specs.Places.{action_root}
use Rattle.hook_law.specs.Meaning.{point_of}
use Rattle.hook_law.specs.Keeping.{Keeps}
use Rattle.hook_store_law.specs.Stated.{hook_meaning}
use Rattle.hook_store_law.specs.Blocks.{hook_codec}
use Rattle.hook_store_law.specs.Told.{state_after_edits}
use Rattle.hook_store_law.proofs.OfVisits.Actions.{action_answered}
use Rattle.hook_reader.specs.Seats.{HookSeat, IsReading}
use Rattle.hook_reader.specs.Known.{KnowsAction}
use Rattle.hook_reader.specs.Told.{head_point}
use Rattle.hook_reader.proofs.Visits.{action_kept, heads_still, reading, points_still}

module _ (old new : HookSeat) (is : IsReading old) (longer : IsPrefix (seen_by old.place) (seen_by new.place)) (same : IsSameReader old.place new.place)
    (keeps : Keeps hook_meaning hook_codec (seen_by new.place) (floor_start new.place)) (action : ActionName) (known : KnowsAction old action) (read : Option Params)
    (read_is : read ≡ option_map (λ (it : StoredAction). it.params) (read_first action_of_words (root_of (seen_by new.place) (action_root action.slot)).chain)) where
  abbrev h : List (Commit Edit)
  h = seen_by new.place

  abbrev stamp : ℕ
  stamp = (root_of h (action_root action.slot)).stamp

  answered : (stored : StoredAction) × (read_first action_of_words (root_of h (action_root action.slot)).chain ≡ Some stored)
      × (answer_of (state_after_edits h (max stamp known.first.point)) (params_of action.serial) ≡ Some (told_params stored.params)) × FitsFrames stored.params × (max stamp known.first.point ≤ point_of h)
  answered = action_answered h (floor_start new.place) known.first.point action.slot action.serial keeps
      (action_kept old new is longer same known.first.point action.slot action.serial known.lived)

  read_here : read ≡ Some answered.0.params
  read_here = read_is ∙ ap (option_map (λ (it : StoredAction). it.params)) answered.1

  -- the record is there
  pub is_read : read ≡ None → ⊥
  is_read none = none-some answered.0.params (sym none ∙ read_here)

  module _ (given : Params) (there : read ≡ Some given) (point : ℕ) (point_is : point ≡ max stamp (head_point old.head)) (latest : new.latest ≡ max old.latest point) where
    own : answered.0.params ≡ given
    own = same_Some answered.0.params given (sym read_here ∙ there)

    point_same : max stamp known.first.point ≡ point
    point_same = ap (λ (n : ℕ). max stamp n) (sym (ap head_point known.walked)) ∙ sym point_is

    pub act_answered : answer_of (state_after_edits h point) (params_of action.serial) ≡ Some (told_params given)
    act_answered = subst (λ (n : ℕ). answer_of (state_after_edits h n) (params_of action.serial) ≡ Some (told_params given)) point_same
        (answered.2 ∙ ap (λ (p : Params). Some (told_params p)) own)

    pub act_fits : FitsFrames given
    act_fits = subst FitsFrames own answered.3

    pub act_reached : point ≤ point_of h
    act_reached = subst (λ (n : ℕ). n ≤ point_of h) point_same answered.4

    pub act_reading : new.head ≡ old.head → new.points ≡ old.points → IsReading new
    act_reading head points = let grown : old.latest ≤ new.latest = omega (arith, latest) in
        reading old new is longer same point latest act_reached (heads_still old new is longer same grown head)
        (subst (λ (ps : List ℕ). Rattle.std.proofs.Common.length ps ≡ MASK_SLOTS) (sym points) is.wide) (points_still old new is longer same grown points)
