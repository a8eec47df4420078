-- The order of points within a walk.
use Rattle.std.proofs.Common.{◌≡◌, ◌≢◌, ◌∙◌, ℕ, zero, suc, ◌≤◌, ◌<◌, true, false, List, [], ◌∷◌, ◌++◌, length, take, max, slice_get, slice_index, Option, Some, None, IfSome, refl, sym, ap, subst, arith}
use mathlib.Core.List.{IsPrefix}
use Rattle.std.proofs.lemmas.List.{take-append-drop}
use Rattle.store_history.specs.declared.history.Commit.{Commit}
use Rattle.store_history.specs.History.{root_of}
use Rattle.store_history.proofs.Histories.{prefix_take, prefix_length}
use Rattle.pin_store.specs.Calls.{seen_by, floor_start, start_in, IsSameReader}
use Rattle.filter_state.specs.declared.edit.Edit.{Edit}
use Rattle.tc_base.specs.declared.hook.Hook.{Hook}
use Rattle.walk_rules.specs.Questions.{Question, heads_of, filter_of, params_of, Answer}
use Rattle.hook_law.specs.Places.{action_root}
use Rattle.hook_law.specs.Keeping.{Keeps}
use Rattle.hook_law.specs.Standing.{IsSlotOf}
use Rattle.hook_law.specs.Standing as standing
use Rattle.hook_law.specs.Slots.{slot_of}
use Rattle.hook_law.proofs.Standing.{slot_longer}
use Rattle.hook_law.proofs.Slots.{slot_is}
use Rattle.hook_law.proofs.Rising.{stamps_rise_behind}
use Rattle.hook_store_law.specs.Stated.{hook_meaning}
use Rattle.hook_store_law.specs.Blocks.{hook_codec}
use Rattle.hook_store_law.specs.Told.{stands_at}
use Rattle.hook_store_law.specs.OfVisits.Known.{ActionLived}
use Rattle.hook_store_law.proofs.OfVisits.Names.{one_slot, action_longer}
use Rattle.hook_reader.specs.Seats.{HookSeat, IsHeadOf, IsReading}
use Rattle.hook_reader.specs.Told.{WalkTold, IsMaskPoint, IsActionPoint}
use Rattle.walk_rules.specs.OfPoints.Points.{Visit, IsSameThing}
use Rattle.worker_rounds.specs.OfPoints.Walked.{HaveOneHead, HasVisited}

pub if_some : {X : Type 0} (P : X → Type 0) (o : Option X) (x : X) → o ≡ Some x → IfSome o P → P x
if_some P None x e p = absurd (cc e)
if_some P (Some y) x e p = let same : y ≡ x = cc e in subst P same p

-- ---- an action has one slot, and its root's stamps rise
pub lived_slot : (h : List (Commit Edit)) (b point slot serial : ℕ) → Keeps hook_meaning hook_codec h b → ActionLived h b point slot serial → slot ≡ slot_of hook_codec h serial
lived_slot h b point slot serial keeps o = let late = o.late in let made = o.made in
    slot_is hook_meaning hook_codec h b serial slot (omega (arith, late, made)) keeps
    (subst (λ (l : List (Commit Edit)). IsSlotOf hook_codec l serial slot) (take-append-drop o.at h) (slot_longer hook_codec (take o.at h) (Rattle.std.proofs.Common.drop o.at h) serial slot o.there))

module _ (old new : HookSeat) (longer : IsPrefix (seen_by old.place) (seen_by new.place)) (same : IsSameReader old.place new.place)
    (keeps : Keeps hook_meaning hook_codec (seen_by new.place) (floor_start new.place)) where
  floor_is : floor_start new.place ≡ floor_start old.place
  floor_is = ap start_in same.floor

  pub still_lived : (point slot serial : ℕ) → ActionLived (seen_by old.place) (floor_start old.place) point slot serial → ActionLived (seen_by new.place) (floor_start new.place) point slot serial
  still_lived point slot serial o = subst (λ (b : ℕ). ActionLived (seen_by new.place) b point slot serial) (sym floor_is)
      (action_longer (seen_by old.place) (seen_by new.place) (floor_start old.place) point slot serial longer o)

  pub stamp_later : (point slot serial : ℕ) → ActionLived (seen_by old.place) (floor_start old.place) point slot serial
      → (root_of (seen_by old.place) (action_root slot)).stamp ≤ (root_of (seen_by new.place) (action_root slot)).stamp
  stamp_later point slot serial o = let late = o.late in let f = floor_is in
      subst (λ (h : List (Commit Edit)). (root_of (seen_by old.place) (action_root slot)).stamp ≤ (root_of h (action_root slot)).stamp) longer.1
      (stamps_rise_behind hook_meaning hook_codec (seen_by old.place) longer.0 (floor_start new.place) o.at (action_root slot) (standing.Action serial)
      (subst (λ (h : List (Commit Edit)). Keeps hook_meaning hook_codec h (floor_start new.place)) (sym longer.1) keeps) (omega (arith, late, f)) o.made (slot, o.there, refl, o.live))

-- ---- the next point
module _ (old new : HookSeat) (visits : List Visit) (point : ℕ) (has : HasVisited old visits) where
  pub head_late : (hook : Hook) (answer : Answer) → WalkTold old (heads_of hook) answer point new → old.latest ≤ point
  head_late hook answer t = let is = t.pointed.is in omega (arith, is)

  pub above_head : (question : Question) (answer : Answer) (first : Visit) → WalkTold old question answer point new → slice_get visits 0 ≡ Some first → first.point ≤ point
  above_head (heads_of hook) answer first t at = let low = has.latest 0 first at in let is = t.pointed.is in omega (arith, low, is)
  above_head (filter_of table mask values) answer first t at = let same = has.first first at in let is = t.pointed.is in omega (arith, same, is)
  above_head (params_of serial) answer first t at = let same = has.first first at in let is = t.pointed.is in omega (arith, same, is)

  -- a mask again
  mask_again : (mask : ℕ) (values : List ℕ) (place table' : ℕ) (values' : List ℕ) (early : Visit) → IsPrefix (seen_by old.place) (seen_by new.place) → IsSameReader old.place new.place
      → Keeps hook_meaning hook_codec (seen_by new.place) (floor_start new.place) → IsReading old → IsMaskPoint old mask values point new → HaveOneHead visits → slice_get visits place ≡ Some early
      → early.question ≡ filter_of table' mask values' → early.point ≤ point
  mask_again mask values place table' values' early longer same keeps before p heads at is =
      let known = p.known in let first = known.first in let walked = known.walked in
      let alone = has.one heads first walked in
      let was = has.masks place early first table' mask values' at is walked alone in
      let h = if_some (IsHeadOf old) old.head first walked before.head in
      let cut = prefix_take (seen_by old.place) (seen_by new.place) first.made longer h.made in
      let late = h.late in let f = ap start_in same.floor in let made = h.made in let l = prefix_length (seen_by old.place) (seen_by new.place) longer in
      let one : was.0 ≡ p.slot = one_slot (seen_by new.place) (floor_start new.place) first.made was.0 p.slot mask keeps (omega (arith, late, f)) (omega (arith, made, l))
      (subst (λ (g : List (Commit Edit)). stands_at g was.0 mask) (sym cut) was.1)
      (subst (λ (g : List (Commit Edit)). stands_at g p.slot mask) (sym cut) (known.named alone)) in
      let low : early.point ≤ slice_index old.points p.slot = subst (λ (slot : ℕ). early.point ≤ slice_index old.points slot) one was.2 in
      let point_is = p.is in omega (arith, low, point_is)

  -- an action again
  action_again : (serial place : ℕ) (early : Visit) → IsPrefix (seen_by old.place) (seen_by new.place) → IsSameReader old.place new.place
      → Keeps hook_meaning hook_codec (seen_by new.place) (floor_start new.place) → IsActionPoint old serial point new → slice_get visits place ≡ Some early
      → early.question ≡ params_of serial → early.point ≤ point
  action_again serial place early longer same keeps p at is =
      let was = has.actions place early serial at is in let known = p.known in
      let mine = still_lived old new longer same keeps 0 was.0 serial was.1 in
      let yours = still_lived old new longer same keeps known.first.point p.slot serial known.lived in
      let one : was.0 ≡ p.slot = lived_slot (seen_by new.place) (floor_start new.place) 0 was.0 serial keeps mine ∙ sym (lived_slot (seen_by new.place) (floor_start new.place) known.first.point p.slot serial keeps yours) in
      let rise = stamp_later old new longer same keeps 0 was.0 serial was.1 in
      let root = ap (λ (slot : ℕ). (root_of (seen_by new.place) (action_root slot)).stamp) one in
      let low = was.2 in let point_is = p.is in omega (arith, low, rise, root, point_is)

  pub never_falls : (question : Question) (answer : Answer) (place : ℕ) (early : Visit) → WalkTold old question answer point new → HaveOneHead visits
      → slice_get visits place ≡ Some early → IsSameThing early.question question → early.point ≤ point
  never_falls question answer place early t heads at same = pick early.question question refl t same
    where
      pick : (one other : Question) → early.question ≡ one → WalkTold old other answer point new → IsSameThing one other → early.point ≤ point
      pick (heads_of hook) other is t same = absurd same
      pick (filter_of table' mask' values') (heads_of hook) is t same = absurd same
      pick (filter_of table' mask' values') (filter_of table mask values) is t same =
          mask_again mask values place table' values' early t.longer t.same t.lawful t.before t.pointed heads at (is ∙ ap (λ (m : ℕ). filter_of table' m values') same)
      pick (filter_of table' mask' values') (params_of serial) is t same = absurd same
      pick (params_of serial') (heads_of hook) is t same = absurd same
      pick (params_of serial') (filter_of table mask values) is t same = absurd same
      pick (params_of serial') (params_of serial) is t same = action_again serial place early t.longer t.same t.lawful t.pointed at (is ∙ ap params_of same)
