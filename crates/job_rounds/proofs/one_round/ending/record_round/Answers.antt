use Rattle.std.proofs.Common.{◌∙◌, ◌≤◌, length, sym, ap, subst, arith}
use Rattle.std.specs.Prelude.{All}
use Rattle.std.specs.Vec.{with_items}
use Rattle.std.proofs.lemmas.List.{with_items_is}
use Rattle.pin_store.specs.Calls.{IsSeatAt}
use Rattle.round_terms.specs.LoadedJob.{LoadedJob}
use Rattle.round_terms.specs.Given.{IsLoaded}
use Rattle.round_terms.specs.Files.{files_of}
use Rattle.worker_rounds.specs.declared.worker.Worker.{Worker}
use Rattle.job_rounds.specs.OfRoundState.Rounds.{StoreName, IsDeskOf, store_name}
use Rattle.job_rounds.specs.declared.one_round.round_end.RoundEnd.{RoundEnd}
use Rattle.job_rounds.specs.OfOneRound.OfOutcomes.Draws.{AreDrawn}
use Rattle.job_rounds.specs.OfOneRound.OfOutcomes.Met.{IsSameWorker}
use Rattle.job_rounds.specs.OfOneRound.Rounds.{AreThrough}
use Rattle.job_rounds.specs.OfOneRound.Hands.{IsBackFrom}
use Rattle.job_rounds.proofs.OfOneRound.Zips.{zip_long}
use Rattle.job_rounds.proofs.OfOneRound.Walks.{logs_long, all_seats, all_drawn, all_rising, readers_own}
use Rattle.job_rounds.proofs.OfOneRound.Records.{few_draws, recorded}
use Rattle.job_rounds.proofs.one_round.ending.record_round.Goals as goal

pub meet_all-requires-clause-readers : goal.meet_all-requires-clause-readers
meet_all-requires-clause-readers g c =
    let store = store_name c.args.round.now.store.now in
    subst (All (λ (w : Worker). IsSeatAt store.table store.shape w.reader.place)) (sym c.deref_mut.ensures.value)
    (readers_own store c.args.round.now.hook c.args.round.now.packets.now c.args.hands.value.items c.args.back c.requires.back)

pub settle-requires-clause-some : goal.settle-requires-clause-some
settle-requires-clause-some g c =
    let long = logs_long (store_name c.args.round.now.store.now) c.args.round.now.hook c.args.round.now.packets.now c.args.hands.value.items c.args.back c.requires.back in
    let some = c.requires.hands.some in
    omega (arith, long, some)

pub settle-requires-clause-seats : goal.settle-requires-clause-seats
settle-requires-clause-seats g c =
    all_seats (store_name c.args.round.now.store.now) c.args.round.now.hook c.args.round.now.packets.now c.args.hands.value.items c.args.back c.requires.back c.args.round.now.claims.now (length c.args.round.now.packets.now) c.requires.hands

pub settle-requires-clause-drawn : goal.settle-requires-clause-drawn
settle-requires-clause-drawn g c =
    subst (λ n. AreDrawn n c.args.back.seats.items c.args.back.logs.items) (sym c.len-count.ensures)
    (all_drawn (store_name c.args.round.now.store.now) c.args.round.now.hook c.args.round.now.packets.now c.args.hands.value.items c.args.back c.requires.back)

pub settle-requires-clause-rising : goal.settle-requires-clause-rising
settle-requires-clause-rising g c =
    all_rising (store_name c.args.round.now.store.now) c.args.round.now.hook c.args.round.now.packets.now c.args.hands.value.items c.args.back c.requires.back

pub settle-requires-clause-few : goal.settle-requires-clause-few
settle-requires-clause-few g c =
    let long = logs_long (store_name c.args.round.now.store.now) c.args.round.now.hook c.args.round.now.packets.now c.args.hands.value.items c.args.back c.requires.back in
    let few = c.requires.hands.few in
    let many : length c.args.round.now.packets.now ≤ 1048576 = c.requires.packets.many in
    let count = c.len-count.ensures in
    few_draws (length c.args.back.logs.items) c.len-count.result (omega (arith, long, few)) (omega (arith, many, count))

pub returns : goal.returns
returns g c =
    let n = g.N.RoundName in
    let named = c.requires.named in
    let closed = c.close_with_made-desk in
    let met = c.meet_all in
    let seen = c.deref_mut.ensures.value in
    let settled = c.in-Ok.ensures in
    let count = c.len-count.ensures in
    let long = zip_long IsSameWorker c.deref_mut.result.now met.new.workers met.ensures.same_workers ∙ ap length seen ∙ sym c.args.back.workers.ok.0 in
    let end : RoundEnd g.row.E.Denot = record {
      desk = met.new.desk;
      ear = closed.result.2;
      workers = with_items c.args.back.workers met.new.workers;
      round = record { events = closed.result.1; outcomes = c.in-Ok.outcomes };
      made = closed.result.3;
    } in
    recorded g.E.Ear.name g.E.Ear.heard g.E.Ear.spare n.store n.job n.number n.before n.ear c.args.round.now.hook c.args.round.now.packets.now c.args.hands.value.items c.args.back c.args.state closed.result.0 end c.deref_mut.result.now met.new.workers
    c.len-count.result
    (record {
      is = closed.ensures.round;
      loaded = subst IsLoaded named.job_is named.round.loaded;
      through = subst (λ (job : LoadedJob). AreThrough (files_of n.job n.number) job.job.controls c.args.state.events) named.job_is c.requires.through;
      desk_is = closed.ensures.parts.0;
      met = met.ensures.same_desk;
      own = subst (λ (s : StoreName). IsDeskOf s met.new.desk) named.store_is met.ensures.desk;
      events_are = closed.ensures.parts.1;
      ear_is = closed.ensures.parts.2;
      made_is = closed.ensures.parts.3;
    })
    (subst (λ (s : StoreName). IsBackFrom s c.args.round.now.hook c.args.round.now.packets.now c.args.hands.value.items c.args.back) named.store_is c.requires.back) c.requires.hands.numbered seen (with_items_is c.args.back.workers met.new.workers long)
    met.ensures.same_workers (subst (λ (s : StoreName). All (λ (w : Worker). IsSeatAt s.table s.shape w.reader.place) met.new.workers) named.store_is met.ensures.readers) met.ensures.met count settled.each_once settled.placed settled.many
    settled.walked
