use Rattle.std.proofs.Common.{◌≡◌, max, refl, sym, subst, arith}
use Rattle.store_history.specs.History.{root_of}
use Rattle.pin_store.specs.Calls.{seen_by}
use Rattle.hook_law.specs.Places.{action_root}
use Rattle.walk_rules.specs.Questions.{params_of, told_params}
use Rattle.hook_reader.specs.Seats.{HookSeat, first_head_of}
use Rattle.hook_reader.specs.Known.{KnowsMask, KnowsAction}
use Rattle.hook_reader.specs.Told.{head_point, WalkTold}
use Rattle.hook_reader.proofs.Visits.{masks_stay, actions_stay}
use Rattle.hook_reader.proofs.Acts.{is_read, act_answered, act_fits, act_reached, act_reading}
use Rattle.hook_reader.proofs.Copies.{heads_longer}
use Rattle.hook_reader.proofs.reader.HookReader.visit_action.Goals as goal

pub unreachable-requires : goal.unreachable-requires
unreachable-requires c = let s = c.self.inside in let e = c.read_action-params.ensures in
    let old : HookSeat = record { place = s.reader.place; visits = s.visits; latest = s.latest; head = first_head_of s.head; points = s.points } in
    let new : HookSeat = record { place = c.read_action-params.new.reader.place; visits = s.visits; latest = s.latest; head = first_head_of s.head; points = s.points } in
    let known = subst (λ (v : HookSeat). KnowsAction v c.args.action) (sym c.self.view_is) c.requires.known in
    is_read old new c.self.invariant.0 e.longer e.same e.lawful c.args.action known c.read_action-params.result.0 e.params c.in_default.is

pub invariant_of-self : goal.invariant_of-self
invariant_of-self c = let s = c.self.inside in let e = c.read_action-params.ensures in
    let old : HookSeat = record { place = s.reader.place; visits = s.visits; latest = s.latest; head = first_head_of s.head; points = s.points } in
    let new : HookSeat = record { place = c.read_action-params.new.reader.place; visits = c.saturating_add.result; latest = c.max.result; head = first_head_of s.head; points = s.points } in
    let known = subst (λ (v : HookSeat). KnowsAction v c.args.action) (sym c.self.view_is) c.requires.known in
    let hp = c.head_point.ensures in let mp = c.max-point.ensures in let ml = c.max.ensures in let st = e.stamp in
    let point_is : c.max-point.result ≡ max (root_of (seen_by new.place) (action_root c.args.action.slot)).stamp (head_point old.head) = omega (arith, hp, mp, st) in
    let latest : c.max.result ≡ max s.latest c.max-point.result = omega (arith, ml) in (
      act_reading old new c.self.invariant.0 e.longer e.same e.lawful c.args.action known c.read_action-params.result.0 e.params c.in-Some.params c.in-Some.is c.max-point.result point_is latest refl refl,
      heads_longer (seen_by s.reader.place) (seen_by c.read_action-params.new.reader.place) s.ingress s.egress e.longer c.self.invariant.1,
      e.kept,
    )

pub returns-clause-told : goal.returns-clause-told
returns-clause-told c = let s = c.self.inside in let e = c.read_action-params.ensures in
    let old : HookSeat = record { place = s.reader.place; visits = s.visits; latest = s.latest; head = first_head_of s.head; points = s.points } in
    let new : HookSeat = record { place = c.read_action-params.new.reader.place; visits = c.saturating_add.result; latest = c.max.result; head = first_head_of s.head; points = s.points } in
    let known = subst (λ (v : HookSeat). KnowsAction v c.args.action) (sym c.self.view_is) c.requires.known in
    let hp = c.head_point.ensures in let mp = c.max-point.ensures in let ml = c.max.ensures in let st = e.stamp in
    let point_is : c.max-point.result ≡ max (root_of (seen_by new.place) (action_root c.args.action.slot)).stamp (head_point old.head) = omega (arith, hp, mp, st) in
    let latest : c.max.result ≡ max s.latest c.max-point.result = omega (arith, ml) in
    subst (λ (v : HookSeat). WalkTold v (params_of c.args.action.serial) (told_params c.in-Some.params) c.max-point.result new) c.self.view_is (record {
      longer = e.longer;
      lawful = e.lawful;
      same = e.same;
      answers = act_answered old new c.self.invariant.0 e.longer e.same e.lawful c.args.action known c.read_action-params.result.0 e.params c.in-Some.params c.in-Some.is c.max-point.result point_is latest;
      reached = act_reached old new c.self.invariant.0 e.longer e.same e.lawful c.args.action known c.read_action-params.result.0 e.params c.in-Some.params c.in-Some.is c.max-point.result point_is latest;
      counted = c.saturating_add.ensures;
      latest = latest;
      before = c.self.invariant.0;
      after = act_reading old new c.self.invariant.0 e.longer e.same e.lawful c.args.action known c.read_action-params.result.0 e.params c.in-Some.params c.in-Some.is c.max-point.result point_is latest refl refl;
      pointed = record { slot = c.args.action.slot; known = known; is = point_is; head = refl; points = refl };
    })

pub returns-clause-fits : goal.returns-clause-fits
returns-clause-fits c = let s = c.self.inside in let e = c.read_action-params.ensures in
    let old : HookSeat = record { place = s.reader.place; visits = s.visits; latest = s.latest; head = first_head_of s.head; points = s.points } in
    let new : HookSeat = record { place = c.read_action-params.new.reader.place; visits = c.saturating_add.result; latest = c.max.result; head = first_head_of s.head; points = s.points } in
    let known = subst (λ (v : HookSeat). KnowsAction v c.args.action) (sym c.self.view_is) c.requires.known in
    let hp = c.head_point.ensures in let mp = c.max-point.ensures in let ml = c.max.ensures in let st = e.stamp in
    let point_is : c.max-point.result ≡ max (root_of (seen_by new.place) (action_root c.args.action.slot)).stamp (head_point old.head) = omega (arith, hp, mp, st) in
    let latest : c.max.result ≡ max s.latest c.max-point.result = omega (arith, ml) in
    act_fits old new c.self.invariant.0 e.longer e.same e.lawful c.args.action known c.read_action-params.result.0 e.params c.in-Some.params c.in-Some.is c.max-point.result point_is latest

pub returns-clause-kept_masks : goal.returns-clause-kept_masks
returns-clause-kept_masks c = let s = c.self.inside in let e = c.read_action-params.ensures in
    let old : HookSeat = record { place = s.reader.place; visits = s.visits; latest = s.latest; head = first_head_of s.head; points = s.points } in
    let new : HookSeat = record { place = c.read_action-params.new.reader.place; visits = c.saturating_add.result; latest = c.max.result; head = first_head_of s.head; points = s.points } in
    let known = subst (λ (v : HookSeat). KnowsAction v c.args.action) (sym c.self.view_is) c.requires.known in
    let hp = c.head_point.ensures in let mp = c.max-point.ensures in let ml = c.max.ensures in let st = e.stamp in
    let point_is : c.max-point.result ≡ max (root_of (seen_by new.place) (action_root c.args.action.slot)).stamp (head_point old.head) = omega (arith, hp, mp, st) in
    let latest : c.max.result ≡ max s.latest c.max-point.result = omega (arith, ml) in
    λ mask k. masks_stay old new c.self.invariant.0 e.longer e.same refl refl mask (subst (λ (v : HookSeat). KnowsMask v mask) (sym c.self.view_is) k)

pub returns-clause-kept_actions : goal.returns-clause-kept_actions
returns-clause-kept_actions c = let s = c.self.inside in let e = c.read_action-params.ensures in
    let old : HookSeat = record { place = s.reader.place; visits = s.visits; latest = s.latest; head = first_head_of s.head; points = s.points } in
    let new : HookSeat = record { place = c.read_action-params.new.reader.place; visits = c.saturating_add.result; latest = c.max.result; head = first_head_of s.head; points = s.points } in
    let known = subst (λ (v : HookSeat). KnowsAction v c.args.action) (sym c.self.view_is) c.requires.known in
    let hp = c.head_point.ensures in let mp = c.max-point.ensures in let ml = c.max.ensures in let st = e.stamp in
    let point_is : c.max-point.result ≡ max (root_of (seen_by new.place) (action_root c.args.action.slot)).stamp (head_point old.head) = omega (arith, hp, mp, st) in
    let latest : c.max.result ≡ max s.latest c.max-point.result = omega (arith, ml) in
    λ action k. actions_stay old new c.self.invariant.0 e.longer e.same refl action (subst (λ (v : HookSeat). KnowsAction v action) (sym c.self.view_is) k)
