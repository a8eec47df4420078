-- What the visit of a head leaves.
use Rattle.std.proofs.Common.{◌≡◌, ◌∙◌, ℕ, ◌≤◌, true, false, List, length, take, max, slice_index, Option, Some, None, IfSome, refl, sym, ap, subst, arith, le_refl}
use Rattle.std.proofs.lemmas.List.{take_all}
use mathlib.Core.List.{IsPrefix}
use Rattle.store_history.specs.declared.history.Commit.{Commit}
use Rattle.store_history.specs.History.{edits_of}
use Rattle.pin_store.specs.Calls.{seen_by, floor_start, IsSameReader}
use Rattle.filter_state.specs.declared.edit.Edit.{Edit}
use Rattle.filter_state.proofs.Pairs.{each_weaker}
use Rattle.filter_state.specs.Sound.{Each}
use Rattle.visit_room.specs.declared.names.ActionName.{ActionName}
use Rattle.visit_room.specs.declared.names.MaskName.{MaskName}
use Rattle.visit_room.specs.declared.table_head.TableHead.{TableHead}
use Rattle.walk_steps.specs.Told.{MasksKnown}
use Rattle.mask_table.specs.Told.{edits_by}
use Rattle.hook_law.specs.Meaning.{point_of}
use Rattle.hook_store_law.specs.Told.{stands_at}
use Rattle.hook_store_law.specs.OfVisits.Known.{MaskStood}
use Rattle.hook_reader.specs.Seats.{FirstHead, HookSeat, IsHeadOf, IsReading}
use Rattle.hook_reader.specs.Known.{KnowsMask, KnowsAction}
use Rattle.hook_reader.specs.Told.{first_of}
use Rattle.hook_reader.proofs.Visits.{recent_new, late_old, mask_kept, action_kept, head_of, head_still, point_at}

module _ (old new : HookSeat) (is : IsReading old) (longer : IsPrefix (seen_by old.place) (seen_by new.place)) (same : IsSameReader old.place new.place)
    (point : ℕ) (latest : new.latest ≡ max old.latest point) (reached : point ≤ point_of (seen_by new.place)) (points : new.points ≡ old.points)
    (head : new.head ≡ first_of old.head (record { point = point; made = length (seen_by new.place); alone = true })) where
  abbrev h : List (Commit Edit)
  h = seen_by new.place

  abbrev seen_head : FirstHead
  seen_head = record { point = point; made = length h; alone = true }

  abbrev not_alone : FirstHead → FirstHead
  not_alone first = record first { alone = false }

  further : (first : FirstHead) → old.head ≡ Some first → new.head ≡ Some (not_alone first)
  further first e = head ∙ ap (λ (o : Option FirstHead). first_of o seen_head) e

  pub heads_noted : IfSome new.head (IsHeadOf new)
  heads_noted = subst (λ (o : Option FirstHead). IfSome o (IsHeadOf new)) (sym head) (pick old.head refl)
    where
      pick : (o : Option FirstHead) → old.head ≡ o → IfSome (first_of o seen_head) (IsHeadOf new)
      pick None e = record { point = omega (arith, latest); late = recent_new old new is longer same; made = le_refl (length h) }
      pick (Some first) e = let o = head_still old new is longer same (omega (arith, latest)) first (head_of old new is longer same first e) in record { point = o.point; late = o.late; made = o.made }

  pub masks_further : (mask : MaskName) → KnowsMask old mask → KnowsMask new mask
  masks_further mask o = record {
    first = not_alone o.first;
    walked = further o.first o.walked;
    stood = subst (λ (ps : List ℕ). MaskStood h (floor_start new.place) (max o.first.point (slice_index ps mask.slot)) mask.slot mask.serial) (sym points)
        (mask_kept old new is longer same (max o.first.point (slice_index old.points mask.slot)) mask.slot mask.serial o.stood);
    named = λ one. absurd (cc one);
  }

  pub actions_further : (action : ActionName) → KnowsAction old action → KnowsAction new action
  actions_further action o = record { first = not_alone o.first; walked = further o.first o.walked; lived = action_kept old new is longer same o.first.point action.slot action.serial o.lived }

  whole : take (length h) h ≡ h
  whole = take_all (length h) h (le_refl (length h))

  -- a mask that the head names
  stood_now : (most slot serial : ℕ) → most ≤ point_of h → stands_at h slot serial → MaskStood h (floor_start new.place) most slot serial
  stood_now most slot serial low stands = record {
    at = length h;
    late = recent_new old new is longer same;
    made = le_refl (length h);
    there = subst (λ (g : List (Commit Edit)). stands_at g slot serial) (sym whole) stands;
    reached = let all : edits_by h (length h) ≡ point_of h = ap (λ (g : List (Commit Edit)). length (edits_of g)) whole in omega (arith, low, all);
  }

  mask_told : (mask : MaskName) → stands_at h mask.slot mask.serial → KnowsMask new mask
  mask_told mask stands = pick old.head refl
    where
      low : slice_index new.points mask.slot ≤ point_of h
      low = let at = point_at old new is longer same mask.slot stands.small in let late = late_old old new is longer same in
          subst (λ (ps : List ℕ). slice_index ps mask.slot ≤ point_of h) (sym points) (omega (arith, at, late))

      pick : (o : Option FirstHead) → old.head ≡ o → KnowsMask new mask
      pick None e = record {
        first = seen_head;
        walked = head ∙ ap (λ (o : Option FirstHead). first_of o seen_head) e;
        stood = stood_now (max point (slice_index new.points mask.slot)) mask.slot mask.serial (omega (arith, reached, low)) stands;
        named = λ one. subst (λ (g : List (Commit Edit)). stands_at g mask.slot mask.serial) (sym whole) stands;
      }
      pick (Some first) e = let o = (head_of old new is longer same first e).point in let late = late_old old new is longer same in record {
        first = not_alone first;
        walked = further first e;
        stood = stood_now (max first.point (slice_index new.points mask.slot)) mask.slot mask.serial (omega (arith, o, late, low)) stands;
        named = λ one. absurd (cc one);
      }

  pub masks_told : (told : List TableHead) → MasksKnown (λ table mask. stands_at h mask.slot mask.serial) told → MasksKnown (λ table mask. KnowsMask new mask) told
  masks_told told all = each_weaker (λ (t : TableHead). Each (λ (mask : MaskName). stands_at h mask.slot mask.serial) t.masks) (λ (t : TableHead). Each (λ (mask : MaskName). KnowsMask new mask) t.masks)
      (λ t. each_weaker (λ (mask : MaskName). stands_at h mask.slot mask.serial) (λ (mask : MaskName). KnowsMask new mask) mask_told t.masks) told all
