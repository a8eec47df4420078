use Rattle.std.proofs.Common.{rules, ◌≡◌, ◌∙◌, ◌++◌, ◌∷◌, [], ◌+◌, ◌-◌, ◌^◌, ◌<◌, ◌≤◌, true, false, List, ℕ, Option, Some, None, Ok, length, refl, sym, ap, subst, arith, append_assoc, inl}
use Rattle.std.specs.Prelude.{max, if◌then◌else◌}
use Rattle.std.specs.Vec.{with_item}
use Rattle.std.proofs.lemmas.List.{length-append}
use Rattle.walk_ends.specs.Passing.{is_pass}
use Rattle.filter_state.specs.Sound.{Each}
use Rattle.tool_words.specs.declared.reason.Reason.TheVariants as reasons
use Rattle.filter_state.specs.declared.edit.Edit.{Edit}
use Rattle.walk_rules.specs.Walks.{Outcome as WalkOutcome, outcome_of}
use Rattle.run_report.specs.declared.outcomes.Outcome.{Outcome}
use Rattle.run_report.specs.PacketTexts.{packet_line}
use Rattle.lawful_runs.specs.Points.{greatest}
use Rattle.lawful_runs.specs.Lawful.{outcomes_in}
use Rattle.round_terms.proofs.JobFiles.{there_at}
use Rattle.report_laws.specs.OfNextLines.Walks.{recorded_by}
use Rattle.report_check.specs.declared.walker.Walker.{Walker}
use Rattle.report_check.specs.declared.walkers.Room.{Room}
use Rattle.report_check.specs.declared.walkers.Walkers.{Walkers}
use Rattle.report_check.specs.Reasons.{ending_reason, parting}
use Rattle.report_check.specs.declared.events.cursor.Cursor.{Cursor}
use Rattle.report_check.specs.OfEvents.Cursors.{IsAt, IsNextLine}
use Rattle.report_check.specs.Walks.{ShowsWalk, WalksTo, StandsIn, StandsAtFirst, IsRefusedShown}
use Rattle.report_check.specs.Walked.{AreWalkers}
use Rattle.report_check.specs.Rounds.{journal_of, stand_with}
use Rattle.report_check.proofs.Stuck.{MayNot}
use Rattle.report_check.proofs.Refusing.{refused_none, refused_shown, shown_fault, shown_other, never_on}
use Rattle.run_counts.proofs.Tallies.{are_at_most, one_most}
use Rattle.report_check.proofs.Seen.{IsWalkMore, walked_more}
use Rattle.report_check.proofs.Walking.{is_open, few_edits, no_worker, no_walk, has_ended, at_walk, must_be, walker_of, floor_of, worker_most, some_holds}
use Rattle.report_check.proofs.packets.check_packet.Goals as goal
use Rattle.report_check.proofs.packets.check_packet.Goals.{then-worker-eq0-via-then-worker-eq0, then-worker-eq0-via-else-worker-eq0+then-worker-len}

pub returns-in_default-clause-stuck : goal.returns-in_default-clause-stuck
returns-in_default-clause-stuck c = λ is told it.
    let r = c.args.report.now in
    let cursor = c.args.cursor.now in
    let points = c.read_next.new.points.items in
    let none : c.in_ok-worker.field-0 ≡ None = search rules in
    c.refuse.ensures.stuck told.loaded (stand_with told it.walked.outcomes) it.walked.is_at (λ left. is_open told r cursor c.args.replay.now c.args.walkers.now c.args.least c.args.place c.args.hook c.args.frame.now it)
    (refused_none told r cursor c.args.replay.now c.args.walkers.now c.args.least c.args.place c.args.hook c.args.frame.now it points (subst (λ (o : Option ℕ). ShowsWalk r cursor o points) none c.in_ok-worker.ensures.shows))

pub refuse_shown-requires-clause-small : goal.refuse_shown-requires-clause-small
refuse_shown-requires-clause-small c = some_holds (λ (w : ℕ). Each (λ (point : ℕ). point < 2 ^ 32) c.read_next.new.points.items) c.in_ok-worker.field-0 c.in-Some.worker c.in-Some.is c.in_ok-worker.ensures.small

pub returns-then-worker-eq0-clause-taken : goal.returns-then-worker-eq0-clause-taken
returns-then-worker-eq0-clause-taken c = λ is told it. absurd (never_on c.refuse_shown.result is c.refuse_shown.ensures.refused)

pub returns-then-worker-eq0-clause-further : goal.returns-then-worker-eq0-clause-further
returns-then-worker-eq0-clause-further c = λ is. absurd (never_on c.refuse_shown.result is c.refuse_shown.ensures.refused)

pub returns-then-worker-eq0-clause-stuck : goal.returns-then-worker-eq0-clause-stuck
returns-then-worker-eq0-clause-stuck c = λ is told it.
    let r = c.args.report.now in
    let cursor = c.args.cursor.now in
    let points = c.read_next.new.points.items in
    let ok = c.args.walkers.now.each.ok.0 in
    let many = it.walked.are.many in
    let never : 1 ≤ c.in-Some.worker → c.in-Some.worker ≤ told.loaded.job.workers → ⊥ = λ low high. elim c.then-worker-eq0.branch [
      | then-worker-eq0-via-then-worker-eq0 w ↦ (let zero = w.if-worker-eq0.true in omega (arith, low, zero))
      | then-worker-eq0-via-else-worker-eq0+then-worker-len w ↦ (let past = w.if-worker-len.true in let len = w.len.ensures in omega (arith, high, past, len, ok, many))
    ] in
    let shows : ShowsWalk r cursor (Some c.in-Some.worker) points = subst (λ (o : Option ℕ). ShowsWalk r cursor o points) c.in-Some.is c.in_ok-worker.ensures.shows in
    c.refuse_shown.ensures.stuck is told.loaded (stand_with told it.walked.outcomes) it.walked.is_at (is_open told r cursor c.args.replay.now c.args.walkers.now c.args.least c.args.place c.args.hook c.args.frame.now it)
    (refused_shown told r cursor c.args.replay.now c.args.walkers.now c.args.least c.args.place c.args.hook c.args.frame.now it c.in-Some.worker points reasons.Worker shows
    (no_worker told r cursor c.args.replay.now c.args.walkers.now c.args.least c.args.place c.args.hook c.args.frame.now it c.in-Some.worker points shows never) (λ line next. inl (never, refl)))

pub walk_again-requires-clause-few : goal.walk_again-requires-clause-few
walk_again-requires-clause-few c =
    let p = c.requires.packet in
    let few = few_edits p.0 c.args.report.now c.args.cursor.now c.args.replay.now c.args.walkers.now c.args.least c.args.place c.args.hook c.args.frame.now p.1 in
    let same = ap length p.1.of.journal_is in
    omega (arith, few, same)

pub walk_again-requires-clause-walker : goal.walk_again-requires-clause-walker
walk_again-requires-clause-walker c =
    let p = c.requires.packet in
    let low : 1 ≤ c.in-Some.worker = (let nonzero = c.if-worker-eq0.false in omega (arith, nonzero)) in
    let less : c.in-Some.worker - 1 < length c.args.walkers.now.each.items = (let test = c.if-worker-len.false in let len = c.len.ensures in let ok = c.args.walkers.now.each.ok.0 in omega (arith, low, test, len, ok)) in
    let there = there_at c.args.walkers.now.each.items c.args.walkers.now.each.items (c.in-Some.worker - 1) c.index_mut-walker.result.now refl less ∙ ap (λ w. Some w) (sym c.index_mut-walker.ensures.value) in
    let is = walker_of p.0 c.args.report.now c.args.cursor.now c.args.replay.now c.args.walkers.now c.args.least c.args.place c.args.hook c.args.frame.now p.1 c.in-Some.worker c.index_mut-walker.result.now low there in
    let same = p.1.of.journal_is in
    let stands : StandsIn (journal_of p.0) c.index_mut-walker.result.now = record { within = is.within; spells = is.spells } in
    subst (λ (js : List Edit). StandsIn js c.index_mut-walker.result.now) (sym same) stands

pub walk_again-requires-clause-seen : goal.walk_again-requires-clause-seen
walk_again-requires-clause-seen c =
    let p = c.requires.packet in
    let low : 1 ≤ c.in-Some.worker = (let nonzero = c.if-worker-eq0.false in omega (arith, nonzero)) in
    let less : c.in-Some.worker - 1 < length c.args.walkers.now.each.items = (let test = c.if-worker-len.false in let len = c.len.ensures in let ok = c.args.walkers.now.each.ok.0 in omega (arith, low, test, len, ok)) in
    let there = there_at c.args.walkers.now.each.items c.args.walkers.now.each.items (c.in-Some.worker - 1) c.index_mut-walker.result.now refl less ∙ ap (λ w. Some w) (sym c.index_mut-walker.ensures.value) in
    (walker_of p.0 c.args.report.now c.args.cursor.now c.args.replay.now c.args.walkers.now c.args.least c.args.place c.args.hook c.args.frame.now p.1 c.in-Some.worker c.index_mut-walker.result.now low there).early

pub returns-in-Some-2-clause-stuck : goal.returns-in-Some-2-clause-stuck
returns-in-Some-2-clause-stuck c = λ is told it.
    let r = c.args.report.now in
    let cursor = c.args.cursor.now in
    let points = c.read_next.new.points.items in
    let worker = c.in-Some.worker in
    let walker = c.index_mut-walker.result.now in
    let floor = max c.args.least walker.seen in
    let low : 1 ≤ worker = (let nonzero = c.if-worker-eq0.false in omega (arith, nonzero)) in
    let less : worker - 1 < length c.args.walkers.now.each.items = (let test = c.if-worker-len.false in let len = c.len.ensures in let ok = c.args.walkers.now.each.ok.0 in omega (arith, low, test, len, ok)) in
    let there = there_at c.args.walkers.now.each.items c.args.walkers.now.each.items (worker - 1) walker refl less ∙ ap (λ w. Some w) (sym c.index_mut-walker.ensures.value) in
    let shows : ShowsWalk r cursor (Some worker) points = subst (λ (o : Option ℕ). ShowsWalk r cursor o points) c.in-Some.is c.in_ok-worker.ensures.shows in
    let same = it.of.journal_is in
    let floor_is = floor_of told r cursor c.args.replay.now c.args.walkers.now c.args.least c.args.place c.args.hook c.args.frame.now it worker walker low there in
    let high = worker_most told r cursor c.args.replay.now c.args.walkers.now c.args.least c.args.place c.args.hook c.args.frame.now it worker low less in
    let never : MayNot told.loaded r cursor (stand_with told it.walked.outcomes) = no_walk told r cursor c.args.replay.now c.args.walkers.now c.args.least c.args.place c.args.hook c.args.frame.now it worker floor points shows floor_is
    (λ end walks. c.in_ok-reason.ensures.no c.in-Some-2.reason (ap (λ o. Ok o) c.in-Some-2.is) end (subst (λ (js : List Edit). WalksTo js c.args.hook c.args.frame.now floor points end) (sym same) walks)) in
    let read = c.in_ok-reason.ensures.points in
    let refused = refused_shown told r cursor c.args.replay.now c.args.walkers.now c.args.least c.args.place c.args.hook c.args.frame.now it worker points c.in-Some-2.reason shows never
    (λ line next. shown_fault told r cursor c.args.replay.now c.args.walkers.now c.args.least c.args.place c.args.hook c.args.frame.now it worker floor points c.in-Some-2.reason line low high floor_is (c.in_ok-reason.ensures.why c.in-Some-2.reason (ap (λ o. Ok o) c.in-Some-2.is))) in
    c.refuse_shown-in-Some-2.ensures.stuck is told.loaded (stand_with told it.walked.outcomes) it.walked.is_at (is_open told r cursor c.args.replay.now c.args.walkers.now c.args.least c.args.place c.args.hook c.args.frame.now it)
    (subst (λ (ps : List ℕ). IsRefusedShown told.loaded r cursor (stand_with told it.walked.outcomes) (c.args.place + 1) worker ps c.in-Some-2.reason) (sym read) refused)

pub returns-then-not-take-clause-stuck : goal.returns-then-not-take-clause-stuck
returns-then-not-take-clause-stuck c = λ is told it.
    let r = c.args.report.now in
    let cursor = c.args.cursor.now in
    let points = c.read_next.new.points.items in
    let worker = c.in-Some.worker in
    let walker = c.index_mut-walker.result.now in
    let floor = max c.args.least walker.seen in
    let end = c.walk_again.new.room.walk.standing in
    let low : 1 ≤ worker = (let nonzero = c.if-worker-eq0.false in omega (arith, nonzero)) in
    let less : worker - 1 < length c.args.walkers.now.each.items = (let test = c.if-worker-len.false in let len = c.len.ensures in let ok = c.args.walkers.now.each.ok.0 in omega (arith, low, test, len, ok)) in
    let there = there_at c.args.walkers.now.each.items c.args.walkers.now.each.items (worker - 1) walker refl less ∙ ap (λ w. Some w) (sym c.index_mut-walker.ensures.value) in
    let shows : ShowsWalk r cursor (Some worker) points = subst (λ (o : Option ℕ). ShowsWalk r cursor o points) c.in-Some.is c.in_ok-worker.ensures.shows in
    let same = it.of.journal_is in
    let yes : c.in_ok-reason.field-0 ≡ None = search rules in
    let no : c.take.result ≡ false = search rules in
    let walks : WalksTo (journal_of told) c.args.hook c.args.frame.now floor points end = subst (λ (js : List Edit). WalksTo js c.args.hook c.args.frame.now floor points end) same (c.in_ok-reason.ensures.yes (ap (λ o. Ok o) yes)) in
    let ended = has_ended told r cursor c.args.replay.now c.args.walkers.now c.args.least c.args.place c.args.hook c.args.frame.now it floor points end walks in
    let read = c.in_ok-reason.ensures.points in
    let text = c.as_slice.ensures.value ∙ c.in_ok-put_line.ensures.line ended.ended ended.is ∙ ap (λ (ps : List ℕ). packet_line (c.args.place + 1) (recorded_by worker ps ended.ended)) read in
    let floor_is = floor_of told r cursor c.args.replay.now c.args.walkers.now c.args.least c.args.place c.args.hook c.args.frame.now it worker walker low there in
    let high = worker_most told r cursor c.args.replay.now c.args.walkers.now c.args.least c.args.place c.args.hook c.args.frame.now it worker low less in
    let rest = c.in_ok-put_line.ensures.rest in
    let shown : c.put_line.new.room.points.items ≡ points = ap (λ (m : Room). m.points.items) rest ∙ read in
    let must = must_be told r cursor c.args.replay.now c.args.walkers.now c.args.least c.args.place c.args.hook c.args.frame.now it worker floor points end ended.ended shows floor_is walks ended.is c.as_slice.result.now text in
    let never : MayNot told.loaded r cursor (stand_with told it.walked.outcomes) = λ line behind next takes. c.take.ensures.other no line next (must line behind next takes) in
    let stays = sym (c.take.ensures.stays no) in
    let same_text : c.as_slice-then-not-take.result.now ≡ c.as_slice.result.now = c.as_slice-then-not-take.ensures.value ∙ sym c.as_slice.ensures.value in
    let reason = c.other_line-reason.result in
    let refused = refused_shown told r cursor c.args.replay.now c.args.walkers.now c.args.least c.args.place c.args.hook c.args.frame.now it worker points reason shows never
    (λ line next. shown_other told r cursor c.args.replay.now c.args.walkers.now c.args.least c.args.place c.args.hook c.args.frame.now it worker floor points end ended.ended c.as_slice.result.now line reason low high floor_is walks ended.is text
    (c.other_line-reason.ensures line (subst (λ (at : Cursor). IsNextLine r at line) stays next) ∙ ap (λ (t : List ℕ). ending_reason (parting line t)) same_text)) in
    c.refuse_shown-then-not-take.ensures.stuck is told.loaded (stand_with told it.walked.outcomes) (subst (λ (at : Cursor). IsAt told.loaded r at (stand_with told it.walked.outcomes)) stays it.walked.is_at)
    (is_open told r cursor c.args.replay.now c.args.walkers.now c.args.least c.args.place c.args.hook c.args.frame.now it)
    (subst (λ (at : Cursor). IsRefusedShown told.loaded r at (stand_with told it.walked.outcomes) (c.args.place + 1) worker c.put_line.new.room.points.items reason) stays
    (subst (λ (ps : List ℕ). IsRefusedShown told.loaded r cursor (stand_with told it.walked.outcomes) (c.args.place + 1) worker ps reason) (sym shown) refused))

pub note_walk-requires : goal.note_walk-requires
note_walk-requires c =
    let p = c.requires.packet in
    let are = p.1.walked.are in
    let few = c.requires.few in
    let all = are.all in
    record { few = are_at_most c.args.walkers.now.counts (outcomes_in p.0.its ++ p.1.walked.outcomes) are.counts are.short (omega (arith, few, all)) }

pub returns-clause-taken : goal.returns-clause-taken
returns-clause-taken c = λ is told it.
    let r = c.args.report.now in
    let cursor = c.args.cursor.now in
    let points = c.read_next.new.points.items in
    let worker = c.in-Some.worker in
    let walker = c.index_mut-walker.result.now in
    let floor = max c.args.least walker.seen in
    let end = c.walk_again.new.room.walk.standing in
    let old = c.args.walkers.now in
    let low : 1 ≤ worker = (let nonzero = c.if-worker-eq0.false in omega (arith, nonzero)) in
    let less : worker - 1 < length old.each.items = (let test = c.if-worker-len.false in let len = c.len.ensures in let ok = old.each.ok.0 in omega (arith, low, test, len, ok)) in
    let there = there_at old.each.items old.each.items (worker - 1) walker refl less ∙ ap (λ w. Some w) (sym c.index_mut-walker.ensures.value) in
    let same = it.of.journal_is in
    let yes : c.in_ok-reason.field-0 ≡ None = search rules in
    let took : c.take.result ≡ true = search rules in
    let walks : WalksTo (journal_of told) c.args.hook c.args.frame.now floor points end = subst (λ (js : List Edit). WalksTo js c.args.hook c.args.frame.now floor points end) same (c.in_ok-reason.ensures.yes (ap (λ o. Ok o) yes)) in
    let ended = has_ended told r cursor c.args.replay.now old c.args.least c.args.place c.args.hook c.args.frame.now it floor points end walks in
    let read = c.in_ok-reason.ensures.points in
    let text = c.as_slice.ensures.value ∙ c.in_ok-put_line.ensures.line ended.ended ended.is ∙ ap (λ (ps : List ℕ). packet_line (c.args.place + 1) (recorded_by worker ps ended.ended)) read in
    let rest = c.in_ok-put_line.ensures.rest in
    let shown : c.put_line.new.room.points.items ≡ points = ap (λ (m : Room). m.points.items) rest ∙ read in
    let stands : outcome_of c.put_line.new.room.walk.standing ≡ Some ended.ended = ap (λ (m : Room). outcome_of m.walk.standing) rest ∙ ended.is in
    let stood = c.in_ok-reason.ensures.walker (ap (λ o. Ok o) yes) in
    let later = c.note_walk.new.walker in
    let noted = c.in_ok-note_walk.ensures.seen in
    let outcome : Outcome = recorded_by worker points ended.ended in
    let new : Walkers = record {
      each = with_item old.each (worker - 1) later;
      counts = c.note_walk.new.counts;
      passed = old.passed + c.passes-passes.result;
      dropped = old.dropped + (1 - c.passes-passes.result);
      room = c.put_line.new.room;
    } in
    let verdict = some_holds (λ (o : WalkOutcome). c.verdict.result ≡ o.verdict) (outcome_of c.put_line.new.room.walk.standing) ended.ended stands c.verdict.ensures in
    let passes = c.passes-passes.ensures ∙ ap (λ v. if is_pass v then 1 else 0) verdict in
    let at_most = one_most (is_pass ended.ended.verdict) in
    let more : IsWalkMore (journal_of told) outcome (worker - 1) walker later old new = record {
      there = there;
      within = less;
      number = omega (arith, low);
      set = refl;
      seen = ap (λ (w : Walker). w.seen) noted ∙ ap (λ (n : ℕ). max n (greatest c.put_line.new.room.points.items)) (c.in_ok-reason.ensures.seen (ap (λ o. Ok o) yes)) ∙ ap (λ (ps : List ℕ). max walker.seen (greatest ps)) shown;
      stands = subst (StandsIn (journal_of told)) (sym noted) (subst (λ (js : List Edit). StandsIn js (record c.walk_again.new.walker { seen = max c.walk_again.new.walker.seen (greatest c.put_line.new.room.points.items) })) same (record { within = stood.0.within; spells = stood.0.spells }));
      first = subst (StandsAtFirst points) (sym noted) (record { first = stood.1.first; more = stood.1.more; points_are = stood.1.points_are; at_first = stood.1.at_first });
      counts = c.in_ok-note_walk.ensures.counts ended.ended stands;
      short = c.in_ok-note_walk.ensures.short ended.ended stands;
      passed = ap (λ (n : ℕ). old.passed + n) passes;
      all = omega (arith, passes, at_most);
    } in
    let are = walked_more told.loaded.job.workers (journal_of told) (outcomes_in told.its ++ it.walked.outcomes) outcome (worker - 1) walker later old new it.walked.are more in
    record {
      outcomes = it.walked.outcomes ++ (outcome ∷ []);
      is_at = at_walk told r cursor c.args.replay.now old c.args.least c.args.place c.args.hook c.args.frame.now it worker floor points end ended.ended low (worker_most told r cursor c.args.replay.now old c.args.least c.args.place c.args.hook c.args.frame.now it worker low less)
          (floor_of told r cursor c.args.replay.now old c.args.least c.args.place c.args.hook c.args.frame.now it worker walker low there) walks ended.is c.as_slice.result.now text c.take.new.self
          (λ stand next at takes. c.take.ensures.taken took told.loaded stand next at takes);
      place_is = (let sum = length-append it.walked.outcomes (outcome ∷ []) in let before = it.walked.place_is in omega (arith, sum, before));
      are = subst (λ (os : List Outcome). AreWalkers told.loaded.job.workers (journal_of told) os new) (append_assoc (outcomes_in told.its) it.walked.outcomes (outcome ∷ [])) are;
    }
