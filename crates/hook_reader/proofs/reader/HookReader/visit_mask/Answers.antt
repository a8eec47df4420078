use Rattle.std.proofs.Common.{◌≡◌, ◌∙◌, ℕ, length, max, slice_index, true, Some, refl, sym, ap, subst, arith}
use Rattle.pin_store.specs.Calls.{seen_by, floor_start}
use Rattle.flow_fields.specs.Values.{values_of}
use Rattle.filter_state.specs.Sound.{Each}
use Rattle.visit_room.specs.declared.names.ActionName.{ActionName}
use Rattle.walk_rules.specs.Questions.{filter_of}
use Rattle.walk_rules.specs.Answers.{answer_of}
use Rattle.walk_steps.specs.Told.{filter_told}
use Rattle.hook_store_law.specs.Told.{state_after_edits}
use Rattle.hook_store_law.specs.OfVisits.Known.{MaskStood, ActionLived}
use Rattle.hook_reader.specs.Seats.{HookSeat, first_head_of}
use Rattle.hook_reader.specs.Known.{KnowsMask, KnowsAction}
use Rattle.hook_reader.specs.Told.{head_point, WalkTold}
use Rattle.hook_reader.proofs.Visits.{actions_stay}
use Rattle.hook_reader.proofs.Looks.{stood_after, answered_after, lived_after, look_reached, look_reading, masks_after, actions_found, found_or_none, told_as_kept}
use Rattle.hook_reader.proofs.Copies.{heads_longer}
use Rattle.hook_reader.proofs.reader.HookReader.visit_mask.Goals as goal

pub invariant_of-self : goal.invariant_of-self
invariant_of-self c = let s = c.self.inside in let e = c.look-found.ensures in let mask = c.args.mask in
    let old : HookSeat = record { place = s.reader.place; visits = s.visits; latest = s.latest; head = first_head_of s.head; points = s.points } in
    let new : HookSeat = record { place = c.look-found.new.reader.place; visits = c.saturating_add.result; latest = c.max.result; head = first_head_of s.head; points = c.set.new.self } in
    let known = subst (λ (v : HookSeat). KnowsMask v mask) (sym c.self.view_is) c.requires.known in
    let is = c.self.invariant.0 in let hp = c.head_point.ensures in let at = c.at.ensures in let mf = c.max-floor.ensures in let mp = c.max-point.ensures in let ml = c.max.ensures in
    let floor = c.max-floor.result in let loaded = c.look-found.result.1 in let point = c.max-point.result in
    let floor_is : max (head_point old.head) (slice_index s.points mask.slot) ≡ floor = omega (arith, hp, at, mf) in
    let same_point : max loaded floor ≡ point = omega (arith, mp) in
    let point_is : point ≡ max loaded (max (head_point old.head) (slice_index s.points mask.slot)) = omega (arith, mp, floor_is) in
    let latest : c.max.result ≡ max s.latest point = omega (arith, ml) in
    let key = c.args.key.now.words in let found = c.look-found.result.0 in let actions = c.look-found.new.into in
    let stood = subst (λ (n : ℕ). MaskStood (seen_by new.place) (floor_start new.place) n mask.slot mask.serial) same_point
    (stood_after old new e.longer e.same e.lawful mask known floor floor_is key found actions loaded _ e.found) in (
      look_reading old new is e.longer e.same e.lawful mask known known.stood.there.small loaded point point_is stood latest refl c.set.ensures,
      heads_longer (seen_by s.reader.place) (seen_by c.look-found.new.reader.place) s.ingress s.egress e.longer c.self.invariant.1,
      e.kept,
    )

pub returns-clause-told : goal.returns-clause-told
returns-clause-told c = λ table. let s = c.self.inside in let e = c.look-found.ensures in let mask = c.args.mask in
    let old : HookSeat = record { place = s.reader.place; visits = s.visits; latest = s.latest; head = first_head_of s.head; points = s.points } in
    let new : HookSeat = record { place = c.look-found.new.reader.place; visits = c.saturating_add.result; latest = c.max.result; head = first_head_of s.head; points = c.set.new.self } in
    let known = subst (λ (v : HookSeat). KnowsMask v mask) (sym c.self.view_is) c.requires.known in
    let is = c.self.invariant.0 in let hp = c.head_point.ensures in let at = c.at.ensures in let mf = c.max-floor.ensures in let mp = c.max-point.ensures in let ml = c.max.ensures in
    let floor = c.max-floor.result in let loaded = c.look-found.result.1 in let point = c.max-point.result in
    let floor_is : max (head_point old.head) (slice_index s.points mask.slot) ≡ floor = omega (arith, hp, at, mf) in
    let same_point : max loaded floor ≡ point = omega (arith, mp) in
    let point_is : point ≡ max loaded (max (head_point old.head) (slice_index s.points mask.slot)) = omega (arith, mp, floor_is) in
    let latest : c.max.result ≡ max s.latest point = omega (arith, ml) in
    let key = c.args.key.now.words in let found = c.look-found.result.0 in let actions = c.look-found.new.into in
    let stood = subst (λ (n : ℕ). MaskStood (seen_by new.place) (floor_start new.place) n mask.slot mask.serial) same_point
    (stood_after old new e.longer e.same e.lawful mask known floor floor_is key found actions loaded _ e.found) in
    let kept = c.clear_unless.ensures in let words = c.words_of-words.ensures in
    let answered = answered_after old new e.longer e.same e.lawful mask known floor floor_is key found actions loaded _ e.found table (ap length (sym words.words) ∙ words.count) in
    subst (λ (v : HookSeat). WalkTold v (filter_of table mask.serial (values_of key)) (filter_told found c.clear_unless.new.into) point new) c.self.view_is (record {
      longer = e.longer;
      lawful = e.lawful;
      same = e.same;
      answers = subst (λ (n : ℕ). answer_of (state_after_edits (seen_by new.place) n) (filter_of table mask.serial (values_of key)) ≡ Some (filter_told found c.clear_unless.new.into)) same_point
          (answered ∙ ap Some (told_as_kept found actions c.clear_unless.new.into kept.found));
      reached = look_reached old new is e.longer e.same e.lawful mask known known.stood.there.small loaded point point_is stood latest refl c.set.ensures;
      counted = c.saturating_add.ensures;
      latest = latest;
      before = is;
      after = look_reading old new is e.longer e.same e.lawful mask known known.stood.there.small loaded point point_is stood latest refl c.set.ensures;
      pointed = record {
        slot = mask.slot;
        known = known;
        key = key;
        values_are = refl;
        found = found;
        loaded = loaded;
        stamps = e.stamps;
        is = point_is;
        head = refl;
        points = c.set.ensures;
      };
    })

pub returns-clause-actions : goal.returns-clause-actions
returns-clause-actions c = let s = c.self.inside in let e = c.look-found.ensures in let mask = c.args.mask in
    let old : HookSeat = record { place = s.reader.place; visits = s.visits; latest = s.latest; head = first_head_of s.head; points = s.points } in
    let new : HookSeat = record { place = c.look-found.new.reader.place; visits = c.saturating_add.result; latest = c.max.result; head = first_head_of s.head; points = c.set.new.self } in
    let known = subst (λ (v : HookSeat). KnowsMask v mask) (sym c.self.view_is) c.requires.known in
    let is = c.self.invariant.0 in let hp = c.head_point.ensures in let at = c.at.ensures in let mf = c.max-floor.ensures in let mp = c.max-point.ensures in let ml = c.max.ensures in
    let floor = c.max-floor.result in let loaded = c.look-found.result.1 in let point = c.max-point.result in
    let floor_is : max (head_point old.head) (slice_index s.points mask.slot) ≡ floor = omega (arith, hp, at, mf) in
    let same_point : max loaded floor ≡ point = omega (arith, mp) in
    let point_is : point ≡ max loaded (max (head_point old.head) (slice_index s.points mask.slot)) = omega (arith, mp, floor_is) in
    let latest : c.max.result ≡ max s.latest point = omega (arith, ml) in
    let key = c.args.key.now.words in let found = c.look-found.result.0 in let actions = c.look-found.new.into in
    let stood = subst (λ (n : ℕ). MaskStood (seen_by new.place) (floor_start new.place) n mask.slot mask.serial) same_point
    (stood_after old new e.longer e.same e.lawful mask known floor floor_is key found actions loaded _ e.found) in
    let kept = c.clear_unless.ensures in
    let lived = λ (hit : found ≡ true). subst (λ (n : ℕ). Each (λ (action : ActionName). ActionLived (seen_by new.place) (floor_start new.place) n action.slot action.serial) actions) same_point
    (lived_after old new e.longer e.same e.lawful mask known floor floor_is key found actions loaded _ e.found hit) in
    found_or_none new found actions c.clear_unless.new.into kept.found kept.none (λ hit. actions_found old new is e.longer e.same e.lawful mask known known.stood.there.small loaded point point_is stood latest refl c.set.ensures actions (lived hit))

pub returns-clause-kept_masks : goal.returns-clause-kept_masks
returns-clause-kept_masks c = let s = c.self.inside in let e = c.look-found.ensures in let mask = c.args.mask in
    let old : HookSeat = record { place = s.reader.place; visits = s.visits; latest = s.latest; head = first_head_of s.head; points = s.points } in
    let new : HookSeat = record { place = c.look-found.new.reader.place; visits = c.saturating_add.result; latest = c.max.result; head = first_head_of s.head; points = c.set.new.self } in
    let known = subst (λ (v : HookSeat). KnowsMask v mask) (sym c.self.view_is) c.requires.known in
    let is = c.self.invariant.0 in let hp = c.head_point.ensures in let at = c.at.ensures in let mf = c.max-floor.ensures in let mp = c.max-point.ensures in let ml = c.max.ensures in
    let floor = c.max-floor.result in let loaded = c.look-found.result.1 in let point = c.max-point.result in
    let floor_is : max (head_point old.head) (slice_index s.points mask.slot) ≡ floor = omega (arith, hp, at, mf) in
    let same_point : max loaded floor ≡ point = omega (arith, mp) in
    let point_is : point ≡ max loaded (max (head_point old.head) (slice_index s.points mask.slot)) = omega (arith, mp, floor_is) in
    let latest : c.max.result ≡ max s.latest point = omega (arith, ml) in
    let key = c.args.key.now.words in let found = c.look-found.result.0 in let actions = c.look-found.new.into in
    let stood = subst (λ (n : ℕ). MaskStood (seen_by new.place) (floor_start new.place) n mask.slot mask.serial) same_point
    (stood_after old new e.longer e.same e.lawful mask known floor floor_is key found actions loaded _ e.found) in
    λ other k. masks_after old new is e.longer e.same e.lawful mask known known.stood.there.small loaded point point_is stood latest refl c.set.ensures other (subst (λ (v : HookSeat). KnowsMask v other) (sym c.self.view_is) k)

pub returns-clause-kept_actions : goal.returns-clause-kept_actions
returns-clause-kept_actions c = let s = c.self.inside in let e = c.look-found.ensures in let mask = c.args.mask in
    let old : HookSeat = record { place = s.reader.place; visits = s.visits; latest = s.latest; head = first_head_of s.head; points = s.points } in
    let new : HookSeat = record { place = c.look-found.new.reader.place; visits = c.saturating_add.result; latest = c.max.result; head = first_head_of s.head; points = c.set.new.self } in
    let known = subst (λ (v : HookSeat). KnowsMask v mask) (sym c.self.view_is) c.requires.known in
    let is = c.self.invariant.0 in let hp = c.head_point.ensures in let at = c.at.ensures in let mf = c.max-floor.ensures in let mp = c.max-point.ensures in let ml = c.max.ensures in
    let floor = c.max-floor.result in let loaded = c.look-found.result.1 in let point = c.max-point.result in
    let floor_is : max (head_point old.head) (slice_index s.points mask.slot) ≡ floor = omega (arith, hp, at, mf) in
    let same_point : max loaded floor ≡ point = omega (arith, mp) in
    let point_is : point ≡ max loaded (max (head_point old.head) (slice_index s.points mask.slot)) = omega (arith, mp, floor_is) in
    let latest : c.max.result ≡ max s.latest point = omega (arith, ml) in
    let key = c.args.key.now.words in let found = c.look-found.result.0 in let actions = c.look-found.new.into in
    let stood = subst (λ (n : ℕ). MaskStood (seen_by new.place) (floor_start new.place) n mask.slot mask.serial) same_point
    (stood_after old new e.longer e.same e.lawful mask known floor floor_is key found actions loaded _ e.found) in
    λ action k. actions_stay old new is e.longer e.same refl action (subst (λ (v : HookSeat). KnowsAction v action) (sym c.self.view_is) k)
