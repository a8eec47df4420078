use Rattle.std.proofs.Common.{◌<◌, length, sym, subst, arith}
use Rattle.std.proofs.lemmas.List.Elements.{All-set}
use mathlib.Core.List.{IsPrefix}
use Rattle.pin_store.specs.Calls.{seen_by, IsSeatOf}
use Rattle.worker_rounds.specs.declared.worker.Worker.{Worker}
use Rattle.worker_rounds.proofs.OfWalks.Reading.{edits_prefix}
use Rattle.job_rounds.specs.OfOneRound.OfOutcomes.Met.{IsSameWorker}
use Rattle.job_rounds.proofs.OfOneRound.OfOutcomes.Meets.{same_desk_self, same_desk_on, same_all, same_set, met_next}
use Rattle.job_rounds.proofs.one_round.outcomes.meeting.meet_all.Goals as goal

pub loop-worker-init : goal.loop-worker-init
loop-worker-init c = record {
  desk = c.requires.desk;
  readers = c.requires.readers;
  same_desk = same_desk_self c.args.desk.now;
  same_workers = same_all c.args.workers.now;
  met = λ at d less. absurd (omega (arith, less));
}

pub loop-worker-preserved : goal.loop-worker-preserved
loop-worker-preserved c =
    let l = c.loop-worker in
    let worker = c.worker-item.result in
    let is = sym c.worker-item.is in
    let same = subst (λ (it : Worker). IsSameWorker it c.meet_one.new.worker) is c.meet_one.ensures.same_worker in
    let met = subst (λ (it : Worker). IsPrefix (seen_by it.reader.place) (seen_by l.desk.place)) is c.meet_one.ensures.met in
    let less : l.worker-index < length l.workers = omega arith in
    let also : l.worker-index < length c.args.workers.now = omega arith in
    record {
      desk = c.meet_one.ensures.desk;
      readers = All-set (λ (it : Worker). IsSeatOf c.args.store.now it.reader.place) l.workers l.worker-index c.meet_one.new.worker c.meet_one.ensures.reader l.invariant.readers;
      same_desk = same_desk_on c.args.desk.now l.desk c.meet_one.new.desk l.invariant.same_desk c.meet_one.ensures.same_desk;
      same_workers = same_set c.args.workers.now l.workers l.worker-index worker c.meet_one.new.worker l.invariant.same_workers less c.worker-item.is same;
      met = met_next c.args.workers.now l.workers l.worker-index worker c.args.desk.now l.desk l.invariant.same_workers also c.worker-item.is l.invariant.same_desk met l.invariant.met;
    }

pub returns-clause-met : goal.returns-clause-met
returns-clause-met c = λ k d less.
    edits_prefix _ (seen_by c.args.desk.now.place) (c.loop-worker.invariant.met k d (omega arith))
