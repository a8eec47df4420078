-- What the visit of a mask leaves.
use Rattle.std.proofs.Common.{◌≡◌, ◌≢◌, ◌∙◌, ℕ, ◌<◌, ◌≤◌, true, false, Bool, List, [], length, take, max, slice_index, slice_set, Some, refl, sym, ap, subst, arith, length-set}
use Rattle.std.specs.Prelude.{All}
use mathlib.Core.Logic.{dite}
use native.Mathlib.Decide.{ℕ_discrete}
use Rattle.std.proofs.lemmas.List.{get_or-set_same, get_or-set_other}
use Rattle.std.proofs.lemmas.List.Elements.{All-set, All-weaker}
use mathlib.Core.List.{IsPrefix}
use Rattle.store_history.specs.declared.history.Commit.{Commit}
use Rattle.pin_store.specs.Calls.{seen_by, floor_start, start_in, IsSameReader}
use Rattle.filter_state.specs.declared.edit.Edit.{Edit}
use Rattle.filter_state.specs.Sound.{Each}
use Rattle.filter_state.proofs.Pairs.{each_weaker}
use Rattle.visit_room.specs.declared.names.ActionName.{ActionName}
use Rattle.visit_room.specs.declared.names.MaskName.{MaskName}
use Rattle.hook_law.specs.Meaning.{point_of}
use Rattle.hook_law.specs.Keeping.{Keeps}
use Rattle.hook_store_law.specs.Stated.{hook_meaning}
use Rattle.hook_store_law.specs.Blocks.{hook_codec}
use Rattle.hook_store_law.specs.OfVisits.Known.{MaskStood, ActionLived}
use Rattle.hook_store_law.proofs.OfVisits.Names.{one_mask, edits_all}
use Rattle.hook_reader.specs.Seats.{FirstHead, HookSeat, IsReading}
use Rattle.hook_reader.specs.Known.{KnowsMask, KnowsAction}
use Rattle.hook_reader.specs.Told.{head_point}
use Rattle.hook_store_law.specs.Told.{state_after_edits, stands_at, words_after, filters_after}
use Rattle.hook_store_law.proofs.OfVisits.Looks.{mask_known, look_answered, actions_known}
use Rattle.mask_table.specs.Told.{LookedUp}
use Rattle.flow_fields.specs.Values.{values_of}
use Rattle.walk_rules.specs.Questions.{filter_of}
use Rattle.walk_rules.specs.Answers.{answer_of}
use Rattle.walk_steps.specs.Told.{filter_told}
use Rattle.store_history.specs.History.{edits_of}
use Rattle.store_history.proofs.Histories.{prefix_length, prefix_take}
use Rattle.store_history.specs.declared.places.TheConstants.{MASK_SLOTS}
use Rattle.hook_reader.proofs.Visits.{mask_kept, named_kept, reading, heads_still}

-- the greatest point that a mask's name has to reach
pub known_floor : (r : HookSeat) (mask : MaskName) (k : KnowsMask r mask) → max k.first.point (slice_index r.points mask.slot) ≡ max (head_point r.head) (slice_index r.points mask.slot)
known_floor r mask k = ap (λ (n : ℕ). max n (slice_index r.points mask.slot)) (sym (ap head_point k.walked))

-- ---- a look-up of a mask that is known
module _ (old new : HookSeat) (longer : IsPrefix (seen_by old.place) (seen_by new.place)) (same : IsSameReader old.place new.place)
    (keeps : Keeps hook_meaning hook_codec (seen_by new.place) (floor_start new.place)) (mask : MaskName) (known : KnowsMask old mask) (floor : ℕ)
    (floor_is : max (head_point old.head) (slice_index old.points mask.slot) ≡ floor) (key : List ℕ) (found : Bool) (actions : List ActionName) (loaded loads : ℕ)
    (told : (n serial : ℕ) → floor_start old.place ≤ n → n ≤ length (seen_by old.place) → stands_at (take n (seen_by old.place)) mask.slot serial
    → LookedUp stands_at (λ k. words_after (seen_by new.place) k serial) (λ k. filters_after (seen_by new.place) k serial) (seen_by new.place) n mask.slot serial key found actions loaded loads) where
  since : floor_start new.place ≤ known.stood.at
  since = let stood = known.stood in let late = stood.late in let f = ap start_in same.floor in omega (arith, late, f)

  was : MaskStood (seen_by new.place) (floor_start new.place) floor mask.slot mask.serial
  was = let stood = known.stood in let cut = prefix_take (seen_by old.place) (seen_by new.place) stood.at longer stood.made in record {
    at = stood.at;
    late = since;
    made = (let made = stood.made in let l = prefix_length (seen_by old.place) (seen_by new.place) longer in omega (arith, made, l));
    there = subst (λ (g : List (Commit Edit)). stands_at g mask.slot mask.serial) (sym cut) stood.there;
    reached = (let r = stood.reached in let most = known_floor old mask known in let e = ap (λ (g : List (Commit Edit)). length (edits_of g)) cut in omega (arith, r, most, floor_is, e));
  }

  looked : LookedUp stands_at (λ k. words_after (seen_by new.place) k mask.serial) (λ k. filters_after (seen_by new.place) k mask.serial) (seen_by new.place) was.at mask.slot mask.serial key found actions loaded loads
  unfolding was
  looked = let stood = known.stood in told stood.at mask.serial stood.late stood.made stood.there

  pub stood_after : MaskStood (seen_by new.place) (floor_start new.place) (max loaded floor) mask.slot mask.serial
  stood_after = mask_known (seen_by new.place) (floor_start new.place) floor mask.slot mask.serial was key found actions loaded loads looked

  pub answered_after : (table : ℕ) → length key ≡ 14 → answer_of (state_after_edits (seen_by new.place) (max loaded floor)) (filter_of table mask.serial (values_of key)) ≡ Some (filter_told found actions)
  answered_after table long = look_answered (seen_by new.place) (floor_start new.place) floor mask.slot mask.serial was key found actions loaded loads looked table keeps long

  pub lived_after : found ≡ true → Each (λ (action : ActionName). ActionLived (seen_by new.place) (floor_start new.place) (max loaded floor) action.slot action.serial) actions
  lived_after hit = actions_known (seen_by new.place) (floor_start new.place) floor mask.slot mask.serial was key found actions loaded loads looked keeps hit

-- ---- what it leaves
module _ (old new : HookSeat) (is : IsReading old) (longer : IsPrefix (seen_by old.place) (seen_by new.place)) (same : IsSameReader old.place new.place)
    (keeps : Keeps hook_meaning hook_codec (seen_by new.place) (floor_start new.place)) (mask : MaskName) (known : KnowsMask old mask) (small : mask.slot < MASK_SLOTS)
    (loaded point : ℕ) (point_is : point ≡ max loaded (max (head_point old.head) (slice_index old.points mask.slot)))
    (stood : MaskStood (seen_by new.place) (floor_start new.place) point mask.slot mask.serial)
    (latest : new.latest ≡ max old.latest point) (head : new.head ≡ old.head) (points : new.points ≡ slice_set old.points mask.slot point) where
  abbrev h : List (Commit Edit)
  h = seen_by new.place

  pub look_reached : point ≤ point_of h
  look_reached = let r = stood.reached in let all = edits_all h stood.at stood.made in omega (arith, r, all)

  pub look_reading : IsReading new
  look_reading = reading old new is longer same point latest look_reached (heads_still old new is longer same (omega (arith, latest)) head)
      (ap length points ∙ (length-set old.points mask.slot point ∙ is.wide))
      (subst (All (λ p. p ≤ new.latest)) (sym points) (All-set (λ p. p ≤ new.latest) old.points mask.slot point (omega (arith, latest))
      (All-weaker (λ p. p ≤ old.latest) (λ p. p ≤ new.latest) (λ p low. omega (arith, low, latest)) old.points is.each)))

  -- the slot has the point now
  here : slice_index new.points mask.slot ≡ point
  here = let wide = is.wide in ap (λ (ps : List ℕ). slice_index ps mask.slot) points ∙ get_or-set_same old.points mask.slot point 0 (omega (arith, wide, small))

  elsewhere : (slot : ℕ) → slot ≢ mask.slot → slice_index new.points slot ≡ slice_index old.points slot
  elsewhere slot other = ap (λ (ps : List ℕ). slice_index ps slot) points ∙ get_or-set_other old.points mask.slot slot point 0 other

  first_low : (first : FirstHead) → old.head ≡ Some first → first.point ≤ point
  first_low first e = let same_point = ap head_point e in omega (arith, same_point, point_is)

  at_slot : (other : MaskName) (k : KnowsMask old other) → other.slot ≡ mask.slot → MaskStood h (floor_start new.place) (max k.first.point (slice_index new.points other.slot)) other.slot other.serial
  at_slot other k at =
      let was = mask_kept old new is longer same (max k.first.point (slice_index old.points other.slot)) other.slot other.serial k.stood in
      let one : mask.serial ≡ other.serial = one_mask h (floor_start new.place) point (max k.first.point (slice_index old.points other.slot)) mask.slot mask.serial other.serial keeps stood
      (subst (λ (slot : ℕ). MaskStood h (floor_start new.place) (max k.first.point (slice_index old.points other.slot)) slot other.serial) at was) in
      let low = first_low k.first k.walked in
      let most : max k.first.point (slice_index new.points other.slot) ≡ point = (let e = ap (λ (slot : ℕ). slice_index new.points slot) at ∙ here in omega (arith, e, low)) in
      subst (λ (n : ℕ). MaskStood h (floor_start new.place) n other.slot other.serial) (sym most)
      (subst (λ (slot : ℕ). MaskStood h (floor_start new.place) point slot other.serial) (sym at) (subst (λ (serial : ℕ). MaskStood h (floor_start new.place) point mask.slot serial) one stood))

  pub masks_after : (other : MaskName) → KnowsMask old other → KnowsMask new other
  masks_after other k = record {
    first = k.first;
    walked = head ∙ k.walked;
    stood = dite (ℕ_discrete other.slot mask.slot) (at_slot other k)
        (λ (apart : other.slot ≢ mask.slot). subst (λ (n : ℕ). MaskStood h (floor_start new.place) (max k.first.point n) other.slot other.serial) (sym (elsewhere other.slot apart))
        (mask_kept old new is longer same (max k.first.point (slice_index old.points other.slot)) other.slot other.serial k.stood));
    named = λ one. named_kept old new is longer same k.first other.slot other.serial k.walked (k.named one);
  }

  -- actions that were found are known from the head's point on
  lower : (b q slot serial : ℕ) → q ≤ point → ActionLived h b point slot serial → ActionLived h b q slot serial
  lower b q slot serial low o = record { at = o.at; late = o.late; made = o.made; there = o.there; live = o.live; reached = let r = o.reached in omega (arith, low, r) }

  pub actions_found : (actions : List ActionName) → Each (λ (action : ActionName). ActionLived h (floor_start new.place) point action.slot action.serial) actions → Each (KnowsAction new) actions
  actions_found actions all = each_weaker (λ (action : ActionName). ActionLived h (floor_start new.place) point action.slot action.serial) (KnowsAction new)
      (λ action o. record { first = known.first; walked = head ∙ known.walked; lived = lower (floor_start new.place) known.first.point action.slot action.serial (first_low known.first known.walked) o }) actions all

-- where nothing was found, the room is empty
pub found_or_none : (new : HookSeat) (found : Bool) (actions kept : List ActionName) → (found ≡ true → kept ≡ actions) → (found ≡ false → kept ≡ []) → (found ≡ true → Each (KnowsAction new) actions) → Each (KnowsAction new) kept
found_or_none new true actions kept same none hit = subst (Each (KnowsAction new)) (sym (same refl)) (hit refl)
found_or_none new false actions kept same none hit = subst (Each (KnowsAction new)) (sym (none refl)) tt

pub told_as_kept : (found : Bool) (actions kept : List ActionName) → (found ≡ true → kept ≡ actions) → filter_told found actions ≡ filter_told found kept
told_as_kept true actions kept same = ap (λ (a : List ActionName). filter_told true a) (sym (same refl))
told_as_kept false actions kept same = refl
