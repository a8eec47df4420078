use Rattle.std.proofs.Common.{◌≡◌, ◌≤◌, length, max, true, refl, sym, subst, arith}
use Rattle.store_history.specs.History.{root_of}
use Rattle.pin_store.specs.Calls.{seen_by}
use Rattle.walk_rules.specs.Questions.{heads_of, told_heads}
use Rattle.walk_steps.specs.Told.{heads_told}
use Rattle.miniq_pair.specs.Heads.{head_root}
use Rattle.hook_law.specs.Meaning.{point_of}
use Rattle.hook_store_law.proofs.OfVisits.Heads.{head_answered, head_masks}
use Rattle.hook_reader.specs.Seats.{HookSeat, first_head_of}
use Rattle.hook_reader.specs.Known.{KnowsMask, KnowsAction}
use Rattle.hook_reader.specs.Told.{first_of, WalkTold}
use Rattle.hook_reader.proofs.Visits.{late_old, reading, points_still}
use Rattle.hook_reader.proofs.Heads.{heads_noted, masks_further, actions_further, masks_told}
use Rattle.kept_records.proofs.Kept.{records_longer}
use Rattle.hook_reader.proofs.reader.HookReader.visit_head.Goals as goal

pub invariant_of-self : goal.invariant_of-self
invariant_of-self c = let s = c.self.inside in let e = c.tell_hook.ensures in
    let old : HookSeat = record { place = s.reader.place; visits = s.visits; latest = s.latest; head = first_head_of s.head; points = s.points } in
    let new : HookSeat = record { place = c.tell_hook.new.reader.place; visits = c.saturating_add.result; latest = c.max-point.result; head = first_head_of c.note_head.new.head; points = s.points } in
    let most = c.max-point.ensures in let is = c.self.invariant.0 in let early = e.told.early in let late = late_old old new is e.longer e.same in
    let latest : c.max-point.result ≡ max s.latest c.max-point.result = omega (arith, most) in
    let reached : c.max-point.result ≤ point_of (seen_by new.place) = omega (arith, most, early, late) in
    let head : first_head_of c.note_head.new.head ≡ first_of old.head (record { point = c.max-point.result; made = length (seen_by new.place); alone = true }) = c.note_head.ensures in (
      reading old new is e.longer e.same c.max-point.result latest reached (heads_noted old new is e.longer e.same c.max-point.result latest reached refl head) is.wide
          (points_still old new is e.longer e.same (omega (arith, latest)) refl),
      c.tell_hook.ensures.kept,
      records_longer (seen_by s.reader.place) (seen_by new.place) s.records e.longer c.self.invariant.2,
    )

pub returns-clause-told : goal.returns-clause-told
returns-clause-told c = let s = c.self.inside in let e = c.tell_hook.ensures in
    let old : HookSeat = record { place = s.reader.place; visits = s.visits; latest = s.latest; head = first_head_of s.head; points = s.points } in
    let new : HookSeat = record { place = c.tell_hook.new.reader.place; visits = c.saturating_add.result; latest = c.max-point.result; head = first_head_of c.note_head.new.head; points = s.points } in
    let most = c.max-point.ensures in let is = c.self.invariant.0 in let early = e.told.early in let late = late_old old new is e.longer e.same in
    let latest : c.max-point.result ≡ max s.latest c.max-point.result = omega (arith, most) in
    let reached : c.max-point.result ≤ point_of (seen_by new.place) = omega (arith, most, early, late) in
    let head : first_head_of c.note_head.new.head ≡ first_of old.head (record { point = c.max-point.result; made = length (seen_by new.place); alone = true }) = c.note_head.ensures in
    let stamp = e.stamp in
    let point_is : c.max-point.result ≡ max (root_of (seen_by new.place) (head_root c.args.hook)).stamp s.latest = omega (arith, most, stamp) in
    subst (λ (v : HookSeat). WalkTold v (heads_of c.args.hook) (told_heads (heads_told c.tell_hook.new.into.tables)) c.max-point.result new) c.self.view_is (record {
      longer = e.longer;
      lawful = e.lawful;
      same = e.same;
      answers = head_answered (seen_by new.place) c.args.hook c.tell_hook.new.into.tables c.tell_hook.result e.told c.max-point.result (omega (arith, most)) reached;
      reached = reached;
      counted = c.saturating_add.ensures;
      latest = latest;
      before = is;
      after = reading old new is e.longer e.same c.max-point.result latest reached (heads_noted old new is e.longer e.same c.max-point.result latest reached refl head) is.wide
          (points_still old new is e.longer e.same (omega (arith, latest)) refl);
      pointed = record { is = point_is; head = head; points = refl };
    })

pub returns-clause-masks : goal.returns-clause-masks
returns-clause-masks c = let s = c.self.inside in let e = c.tell_hook.ensures in
    let old : HookSeat = record { place = s.reader.place; visits = s.visits; latest = s.latest; head = first_head_of s.head; points = s.points } in
    let new : HookSeat = record { place = c.tell_hook.new.reader.place; visits = c.saturating_add.result; latest = c.max-point.result; head = first_head_of c.note_head.new.head; points = s.points } in
    let most = c.max-point.ensures in let is = c.self.invariant.0 in let early = e.told.early in let late = late_old old new is e.longer e.same in
    let latest : c.max-point.result ≡ max s.latest c.max-point.result = omega (arith, most) in
    let reached : c.max-point.result ≤ point_of (seen_by new.place) = omega (arith, most, early, late) in
    let head : first_head_of c.note_head.new.head ≡ first_of old.head (record { point = c.max-point.result; made = length (seen_by new.place); alone = true }) = c.note_head.ensures in
    masks_told old new is e.longer e.same c.max-point.result latest reached refl head c.tell_hook.new.into.tables (head_masks (seen_by new.place) c.args.hook c.tell_hook.new.into.tables c.tell_hook.result e.told)

pub returns-clause-kept_masks : goal.returns-clause-kept_masks
returns-clause-kept_masks c = let s = c.self.inside in let e = c.tell_hook.ensures in
    let old : HookSeat = record { place = s.reader.place; visits = s.visits; latest = s.latest; head = first_head_of s.head; points = s.points } in
    let new : HookSeat = record { place = c.tell_hook.new.reader.place; visits = c.saturating_add.result; latest = c.max-point.result; head = first_head_of c.note_head.new.head; points = s.points } in
    let most = c.max-point.ensures in let is = c.self.invariant.0 in let early = e.told.early in let late = late_old old new is e.longer e.same in
    let latest : c.max-point.result ≡ max s.latest c.max-point.result = omega (arith, most) in
    let reached : c.max-point.result ≤ point_of (seen_by new.place) = omega (arith, most, early, late) in
    let head : first_head_of c.note_head.new.head ≡ first_of old.head (record { point = c.max-point.result; made = length (seen_by new.place); alone = true }) = c.note_head.ensures in
    λ mask k. masks_further old new is e.longer e.same c.max-point.result latest reached refl head mask (subst (λ (v : HookSeat). KnowsMask v mask) (sym c.self.view_is) k)

pub returns-clause-kept_actions : goal.returns-clause-kept_actions
returns-clause-kept_actions c = let s = c.self.inside in let e = c.tell_hook.ensures in
    let old : HookSeat = record { place = s.reader.place; visits = s.visits; latest = s.latest; head = first_head_of s.head; points = s.points } in
    let new : HookSeat = record { place = c.tell_hook.new.reader.place; visits = c.saturating_add.result; latest = c.max-point.result; head = first_head_of c.note_head.new.head; points = s.points } in
    let most = c.max-point.ensures in let is = c.self.invariant.0 in let early = e.told.early in let late = late_old old new is e.longer e.same in
    let latest : c.max-point.result ≡ max s.latest c.max-point.result = omega (arith, most) in
    let reached : c.max-point.result ≤ point_of (seen_by new.place) = omega (arith, most, early, late) in
    let head : first_head_of c.note_head.new.head ≡ first_of old.head (record { point = c.max-point.result; made = length (seen_by new.place); alone = true }) = c.note_head.ensures in
    λ action k. actions_further old new is e.longer e.same c.max-point.result latest reached refl head action (subst (λ (v : HookSeat). KnowsAction v action) (sym c.self.view_is) k)
