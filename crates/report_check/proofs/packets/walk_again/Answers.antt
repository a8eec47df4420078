use Rattle.std.proofs.Common.{rules, ◌≡◌, ◌∙◌, ◌<◌, ◌≤◌, List, ℕ, Ok, length, refl, sym, ap, subst, arith}
use Rattle.std.specs.Prelude.{max}
use Rattle.filter_state.specs.declared.edit.Edit.{Edit}
use Rattle.tool_words.specs.declared.reason.Reason.TheVariants as reasons
use Rattle.report_check.specs.Walks.{FaultsBy}
use Rattle.report_check.proofs.Again.{IsCall, bounds_met, walks_by, walk_found, walk_asked, fault_found, no_points, first_low, first_high}
use Rattle.report_check.proofs.packets.walk_again.Goals as goal

pub returns-then-is_empty-clause-why : goal.returns-then-is_empty-clause-why
returns-then-is_empty-clause-why c = λ reason is.
    let points = c.as_slice-points.result.now in
    let none : length points ≤ 0 = search rules in
    let same : reasons.TooFew ≡ reason = cc is in
    let least = max c.args.least c.args.walker.now.seen in
    subst (FaultsBy c.args.replay.now.journal.items c.args.hook c.args.frame.now least c.args.room.now.points.items) same
    (subst (λ (ps : List ℕ). FaultsBy c.args.replay.now.journal.items c.args.hook c.args.frame.now least ps reasons.TooFew) c.as_slice-points.ensures.value
    (no_points c.args.replay.now.journal.items c.args.hook c.args.frame.now least points none))

pub returns-then-first-floor-clause-why : goal.returns-then-first-floor-clause-why
returns-then-first-floor-clause-why c = λ reason is.
    let journal = c.args.replay.now.journal.items in
    let points = c.as_slice-points.result.now in
    let least = max c.args.least c.args.walker.now.seen in
    let some : 0 < length points = search rules in
    let same : reasons.Floor ≡ reason = cc is in
    let floor = c.max-floor.ensures in
    let below = c.if-first-floor.true in
    subst (FaultsBy journal c.args.hook c.args.frame.now least c.args.room.now.points.items) same
    (subst (λ (ps : List ℕ). FaultsBy journal c.args.hook c.args.frame.now least ps reasons.Floor) c.as_slice-points.ensures.value
    (first_low journal c.args.hook c.args.frame.now least points some (omega (arith, floor, below))))

pub returns-then-first-floor-clause-no : goal.returns-then-first-floor-clause-no
returns-then-first-floor-clause-no c = λ reason is end walks.
    let journal = c.args.replay.now.journal.items in
    let points = c.as_slice-points.result.now in
    let least = max c.args.least c.args.walker.now.seen in
    let some : 0 < length points = search rules in
    let met = bounds_met journal c.args.hook c.args.frame.now least points end some
    (walks_by journal journal c.args.hook c.args.frame.now least c.args.room.now.points.items points end refl (sym c.as_slice-points.ensures.value) walks) in
    let floor = c.max-floor.ensures in
    let below = c.if-first-floor.true in
    omega (arith, met.0, floor, below)

pub returns-then-ceiling-first-clause-why : goal.returns-then-ceiling-first-clause-why
returns-then-ceiling-first-clause-why c = λ reason is.
    let journal = c.args.replay.now.journal.items in
    let points = c.as_slice-points.result.now in
    let least = max c.args.least c.args.walker.now.seen in
    let some : 0 < length points = search rules in
    let same : reasons.Late ≡ reason = cc is in
    let floor = c.max-floor.ensures in
    let up = c.if-first-floor.false in
    let point = c.requires.past.point in
    let ceiling = c.point-ceiling.ensures in
    let above = c.if-ceiling-first.true in
    subst (FaultsBy journal c.args.hook c.args.frame.now least c.args.room.now.points.items) same
    (subst (λ (ps : List ℕ). FaultsBy journal c.args.hook c.args.frame.now least ps reasons.Late) c.as_slice-points.ensures.value
    (first_high journal c.args.hook c.args.frame.now least points some (omega (arith, floor, up)) (omega (arith, point, ceiling, above))))

pub returns-then-ceiling-first-clause-no : goal.returns-then-ceiling-first-clause-no
returns-then-ceiling-first-clause-no c = λ reason is end walks.
    let journal = c.args.replay.now.journal.items in
    let points = c.as_slice-points.result.now in
    let least = max c.args.least c.args.walker.now.seen in
    let some : 0 < length points = search rules in
    let met = bounds_met journal c.args.hook c.args.frame.now least points end some
    (walks_by journal journal c.args.hook c.args.frame.now least c.args.room.now.points.items points end refl (sym c.as_slice-points.ensures.value) walks) in
    let point = c.requires.past.point in
    let ceiling = c.point-ceiling.ensures in
    let above = c.if-ceiling-first.true in
    omega (arith, met.1, point, ceiling, above)

pub returns-in-None-clause-yes : goal.returns-in-None-clause-yes
returns-in-None-clause-yes c = λ is.
    let journal = c.as_slice-journal.result.now in
    let points = c.as_slice-points.result.now in
    let floor = max c.args.least c.args.walker.now.seen in
    let some : 0 < length points = search rules in
    let lists = c.follow.new.self.lists in
    let call : IsCall journal lists floor points c.new-answers.result (record { floor = c.max-floor.result; ceiling = c.point-ceiling.result }) = record {
      by_is = c.new-answers.ensures;
      floor_is = c.max-floor.ensures;
      ceiling_is = c.point-ceiling.ensures ∙ c.requires.past.point ∙ ap length (sym c.as_slice-journal.ensures.value);
      some = some;
      at_first = record { kept = c.actions-actions.ensures.kept; spells = c.in_ok-follow.ensures.lists };
    } in
    walks_by journal c.args.replay.now.journal.items c.args.hook c.args.frame.now floor points c.args.room.now.points.items c.walk_at.new.walk.standing c.as_slice-journal.ensures.value c.as_slice-points.ensures.value
    (walk_found journal lists c.args.hook c.args.frame.now floor points c.new-answers.result (record { floor = c.max-floor.result; ceiling = c.point-ceiling.result }) c.walk_at.new.walk.standing call (c.in_ok-walk_at.ensures.yes (ap (λ o. Ok o) c.in-None.is)))

pub returns-in-Some-clause-no : goal.returns-in-Some-clause-no
returns-in-Some-clause-no c = λ reason is end walks.
    let journal = c.as_slice-journal.result.now in
    let points = c.as_slice-points.result.now in
    let floor = max c.args.least c.args.walker.now.seen in
    let some : 0 < length points = search rules in
    let lists = c.follow.new.self.lists in
    let call : IsCall journal lists floor points c.new-answers.result (record { floor = c.max-floor.result; ceiling = c.point-ceiling.result }) = record {
      by_is = c.new-answers.ensures;
      floor_is = c.max-floor.ensures;
      ceiling_is = c.point-ceiling.ensures ∙ c.requires.past.point ∙ ap length (sym c.as_slice-journal.ensures.value);
      some = some;
      at_first = record { kept = c.actions-actions.ensures.kept; spells = c.in_ok-follow.ensures.lists };
    } in
    c.in_ok-walk_at.ensures.no c.in-Some.fault (ap (λ o. Ok o) c.in-Some.is) end
    (walk_asked journal lists c.args.hook c.args.frame.now floor points c.new-answers.result (record { floor = c.max-floor.result; ceiling = c.point-ceiling.result }) end call
    (walks_by c.args.replay.now.journal.items journal c.args.hook c.args.frame.now floor c.args.room.now.points.items points end (sym c.as_slice-journal.ensures.value) (sym c.as_slice-points.ensures.value) walks))

pub returns-in-Some-clause-why : goal.returns-in-Some-clause-why
returns-in-Some-clause-why c = λ reason is.
    let journal = c.as_slice-journal.result.now in
    let points = c.as_slice-points.result.now in
    let floor = max c.args.least c.args.walker.now.seen in
    let some : 0 < length points = search rules in
    let lists = c.follow.new.self.lists in
    let call : IsCall journal lists floor points c.new-answers.result (record { floor = c.max-floor.result; ceiling = c.point-ceiling.result }) = record {
      by_is = c.new-answers.ensures;
      floor_is = c.max-floor.ensures;
      ceiling_is = c.point-ceiling.ensures ∙ c.requires.past.point ∙ ap length (sym c.as_slice-journal.ensures.value);
      some = some;
      at_first = record { kept = c.actions-actions.ensures.kept; spells = c.in_ok-follow.ensures.lists };
    } in
    let same : c.reason_of.result ≡ reason = cc is in
    let fault = fault_found journal lists c.args.hook c.args.frame.now floor points c.new-answers.result (record { floor = c.max-floor.result; ceiling = c.point-ceiling.result }) c.in-Some.fault call
    (c.in_ok-walk_at.ensures.fault c.in-Some.fault (ap (λ o. Ok o) c.in-Some.is)) in
    let found : FaultsBy journal c.args.hook c.args.frame.now floor points reason = (c.in-Some.fault, fault, sym same ∙ c.reason_of.ensures) in
    subst (λ (js : List Edit). FaultsBy js c.args.hook c.args.frame.now floor c.args.room.now.points.items reason) c.as_slice-journal.ensures.value
    (subst (λ (ps : List ℕ). FaultsBy journal c.args.hook c.args.frame.now floor ps reason) c.as_slice-points.ensures.value found)
