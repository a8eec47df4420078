-- What a visit leaves of a reader and of what it knows.
use Rattle.std.proofs.Common.{◌≡◌, ◌∙◌, ℕ, ◌<◌, ◌≤◌, List, length, take, max, slice_index, Option, Some, None, IfSome, sym, ap, subst, arith}
use Rattle.std.specs.Prelude.{All}
use mathlib.Core.List.{IsPrefix}
use Rattle.store_history.specs.declared.history.Commit.{Commit}
use Rattle.store_history.proofs.Histories.{prefix_length, prefix_take}
use Rattle.store_history.specs.declared.places.TheConstants.{MASK_SLOTS}
use Rattle.pin_store.specs.Calls.{seen_by, floor_start, start_in, IsSameReader}
use Rattle.filter_state.specs.declared.edit.Edit.{Edit}
use Rattle.visit_room.specs.declared.names.ActionName.{ActionName}
use Rattle.visit_room.specs.declared.names.MaskName.{MaskName}
use Rattle.hook_law.specs.Meaning.{point_of}
use Rattle.hook_store_law.specs.Told.{stands_at}
use Rattle.hook_store_law.specs.OfVisits.Known.{MaskStood, ActionLived}
use Rattle.hook_store_law.proofs.OfVisits.Names.{mask_longer, action_longer}
use Rattle.hook_reader.specs.Seats.{FirstHead, HookSeat, IsHeadOf, IsReading}
use Rattle.hook_reader.specs.Known.{KnowsMask, KnowsAction}
use Rattle.hook_reader.proofs.Reading.{point_longer}

if_some : {X : Type 0} (P : X → Type 0) (o : Option X) (x : X) → o ≡ Some x → IfSome o P → P x
if_some P None x e p = absurd (cc e)
if_some P (Some y) x e p = let same : y ≡ x = cc e in subst P same p

module _ (old new : HookSeat) (is : IsReading old) (longer : IsPrefix (seen_by old.place) (seen_by new.place)) (same : IsSameReader old.place new.place) where
  abbrev h : List (Commit Edit)
  h = seen_by new.place

  pub floor_is : floor_start new.place ≡ floor_start old.place
  floor_is = ap start_in same.floor

  pub recent_new : floor_start new.place ≤ length h
  recent_new = let a = is.recent in let b = prefix_length (seen_by old.place) h longer in let f = floor_is in omega (arith, a, b, f)

  pub late_old : old.latest ≤ point_of h
  late_old = let a = is.late in let b = point_longer (seen_by old.place) h longer in omega (arith, a, b)

  -- ---- names
  pub mask_kept : (point slot serial : ℕ) → MaskStood (seen_by old.place) (floor_start old.place) point slot serial → MaskStood h (floor_start new.place) point slot serial
  mask_kept point slot serial o = subst (λ (b : ℕ). MaskStood h b point slot serial) (sym floor_is) (mask_longer (seen_by old.place) h (floor_start old.place) point slot serial longer o)

  pub action_kept : (point slot serial : ℕ) → ActionLived (seen_by old.place) (floor_start old.place) point slot serial → ActionLived h (floor_start new.place) point slot serial
  action_kept point slot serial o = subst (λ (b : ℕ). ActionLived h b point slot serial) (sym floor_is) (action_longer (seen_by old.place) h (floor_start old.place) point slot serial longer o)

  pub head_of : (first : FirstHead) → old.head ≡ Some first → IsHeadOf old first
  head_of first e = if_some (IsHeadOf old) old.head first e is.head

  pub named_kept : (first : FirstHead) (slot serial : ℕ) → old.head ≡ Some first → stands_at (take first.made (seen_by old.place)) slot serial → stands_at (take first.made h) slot serial
  named_kept first slot serial e o = subst (λ (g : List (Commit Edit)). stands_at g slot serial) (sym (prefix_take (seen_by old.place) h first.made longer (head_of first e).made)) o

  pub actions_stay : new.head ≡ old.head → (action : ActionName) → KnowsAction old action → KnowsAction new action
  actions_stay head action o = record { first = o.first; walked = head ∙ o.walked; lived = action_kept o.first.point action.slot action.serial o.lived }

  pub masks_stay : new.head ≡ old.head → new.points ≡ old.points → (mask : MaskName) → KnowsMask old mask → KnowsMask new mask
  masks_stay head points mask o = record {
    first = o.first;
    walked = head ∙ o.walked;
    stood = subst (λ (ps : List ℕ). MaskStood h (floor_start new.place) (max o.first.point (slice_index ps mask.slot)) mask.slot mask.serial) (sym points)
        (mask_kept (max o.first.point (slice_index old.points mask.slot)) mask.slot mask.serial o.stood);
    named = λ one. named_kept o.first mask.slot mask.serial o.walked (o.named one);
  }

  -- ---- the reader
  pub head_still : old.latest ≤ new.latest → (first : FirstHead) → IsHeadOf old first → IsHeadOf new first
  head_still grown first o = let a = o.point in let b = o.late in let d = o.made in let f = floor_is in let l = prefix_length (seen_by old.place) h longer in
      record { point = omega (arith, a, grown); late = omega (arith, b, f); made = omega (arith, d, l) }

  pub heads_still : old.latest ≤ new.latest → new.head ≡ old.head → IfSome new.head (IsHeadOf new)
  heads_still grown head = subst (λ (o : Option FirstHead). IfSome o (IsHeadOf new)) (sym head) (pick old.head is.head)
    where
      pick : (o : Option FirstHead) → IfSome o (IsHeadOf old) → IfSome o (IsHeadOf new)
      pick None all = tt
      pick (Some first) all = head_still grown first all

  pub reading : (point : ℕ) → new.latest ≡ max old.latest point → point ≤ point_of h → IfSome new.head (IsHeadOf new) → length new.points ≡ MASK_SLOTS → All (λ p. p ≤ new.latest) new.points → IsReading new
  reading point latest reached head wide each = let late = late_old in record {
    recent = recent_new;
    late = omega (arith, latest, reached, late);
    head = head;
    wide = wide;
    each = each;
  }

  pub points_still : old.latest ≤ new.latest → new.points ≡ old.points → All (λ p. p ≤ new.latest) new.points
  points_still grown points = subst (All (λ p. p ≤ new.latest)) (sym points) (λ k d less. let low = is.each k d less in omega (arith, low, grown))

  pub point_at : (slot : ℕ) → slot < MASK_SLOTS → slice_index old.points slot ≤ old.latest
  point_at slot small = let wide = is.wide in is.each slot 0 (omega (arith, wide, small))
