use Rattle.store_history.specs.declared.places.TheConstants.{ROOTS}
use Rattle.std.proofs.Common.{◌∙◌, ◌-◌, ◌≤◌, List, length, map, take, drop, ◌++◌, Vec, Global, sym, ap, subst, arith}
use Rattle.std.proofs.lemmas.List.{length-take}
use Rattle.std.specs.Prelude.{All}
use Rattle.pin_store.specs.declared.shape.Shape.{Shape}
use Rattle.filter_state.specs.declared.edit.Edit.{Edit}
use Rattle.batch_run.specs.declared.made_action.MadeAction.{MadeAction}
use Rattle.lawful_runs.specs.Lawful.{outcomes_in}
use Rattle.round_terms.specs.Files.{files_of}
use Rattle.round_terms.specs.Hearing.{HasHeard, ear_of}
use Rattle.round_terms.specs.Underway.{IsMadeSince}
use Rattle.worker_rounds.specs.Worked.{arrivals_of}
use Rattle.shared_hook.specs.Views.{DeskView}
use Rattle.worker_rounds.specs.declared.worker.Worker.{Worker}
use Rattle.job_rounds.specs.OfRoundState.Views.{journal}
use Rattle.job_rounds.specs.OfRoundState.Rounds.{store_name, IsDeskOf}
use Rattle.job_rounds.specs.OfOneRound.Rounds.{AreEvents}
use Rattle.job_rounds.specs.OfOneRound.Ends.{HaveWalked, IsLawfulRound}
use Rattle.job_rounds.specs.OfOneRound.Hands.{AreReady}
use Rattle.job_rounds.specs.Left.{packets_left}
use Rattle.job_rounds.specs.SoFar.{all_made}
use Rattle.job_rounds.specs.Taught.{IsAway, AreTaught}
use Rattle.job_rounds.proofs.Zipping.{written}
use Rattle.job_rounds.proofs.RoundPackets.{left_most, few_captures}
use Rattle.job_rounds.proofs.Ready.{all_away, with_room, are_ready}
use Rattle.job_rounds.proofs.Further.{further, all_more}
use Rattle.job_rounds.proofs.rounds.run_next.Goals as goal

pub make_ready-requires-clause-away : goal.make_ready-requires-clause-away
make_ready-requires-clause-away g c =
    let far = c.requires.so_far.1 in
    subst (All (IsAway (store_name c.args.store.now))) (sym c.deref_mut.ensures.value)
    (all_away (store_name c.args.store.now) (packets_left c.args.job.now (c.args.number - 1)) (outcomes_in c.args.course.past.rounds.items) c.args.course.workers.items far.workers)

pub run_round-requires-clause-round : goal.run_round-requires-clause-round
run_round-requires-clause-round g c κs within =
    let far = c.requires.so_far.1 in
    let same = ap length c.make_ready.ensures.journal in
    let few = far.few in
    with_room c.args.job.now c.args.number (length (journal c.make_ready.new.desk)) (g.E.Ear.spare c.args.course.ear) c.requires.loaded (omega arith) (omega arith)
    (omega (arith, same, few)) far.room

pub run_round-requires-clause-packets : goal.run_round-requires-clause-packets
run_round-requires-clause-packets g c κs within =
    let left = c.packets_of-round.ensures.left in
    let most = left_most c.args.job.now (c.args.number - 1) in
    let few = c.requires.loaded.packets in
    record {
      many = omega (arith, left, most, few);
      short = c.packets_of-round.ensures.short;
      words = ap (λ (shape : Shape). shape.words) c.requires.shape;
      roots = subst (λ (shape : Shape). ROOTS ≤ shape.roots) (sym c.requires.shape) (omega arith);
    }

pub run_round-requires-clause-workers : goal.run_round-requires-clause-workers
run_round-requires-clause-workers g c κs within =
    let far = c.requires.so_far.1 in
    let store = store_name c.args.store.now in
    let edits = length (journal c.args.course.desk) in
    let taught = subst (λ (ws : List Worker). AreTaught store edits ws c.make_ready.new.workers) c.deref_mut.ensures.value c.make_ready.ensures.taught in
    subst (AreReady store (length c.packets_of-round.result.packets.now) c.args.job.now.job.workers) (sym (written c.args.course.workers.len c.make_ready.new.workers c.args.course.workers.items (omega arith)))
    (are_ready store (packets_left c.args.job.now (c.args.number - 1)) (outcomes_in c.args.course.past.rounds.items) c.args.course.workers.items far.workers edits c.make_ready.new.workers taught
    (length c.packets_of-round.result.packets.now) (packets_left c.args.job.now c.args.number) c.args.job.now.job.workers c.packets_of-round.ensures.left far.many)

pub run_round-requires-clause-tidied : goal.run_round-requires-clause-tidied
run_round-requires-clause-tidied g c κs within = c.make_ready.ensures.tidied

pub overflow_add-captures : goal.overflow_add-captures
overflow_add-captures g c =
    let captures = c.packets_of-round.ensures.captures in
    let few = few_captures (take c.args.number c.args.job.now.job.rounds) in
    let long = length-take c.args.number c.args.job.now.job.rounds in
    omega (arith, captures, few, long)

pub returns-clause-further : goal.returns-clause-further
returns-clause-further g c = λ first far.
    let store = store_name c.args.store.now in
    let edits = length (journal c.args.course.desk) in
    let workers = c.args.course.workers.items in
    let taught = subst (λ (ws : List Worker). AreTaught store edits ws c.make_ready.new.workers) c.deref_mut.ensures.value c.make_ready.ensures.taught in
    let back = sym (written c.args.course.workers.len c.make_ready.new.workers workers (omega arith)) in
    let end = c.in_ok-end.ensures in
    let same = c.make_ready.ensures.journal in
    let is = c.behind.ensures.now in
    let it = c.in_ok-end.end.round in
    let hook = c.packets_of-round.result.hook in
    let packets = c.packets_of-round.result.packets.now in
    let files = files_of c.args.job.now c.args.number in
    let taken : List Worker = take c.args.course.workers.len (c.make_ready.new.workers ++ drop (length c.make_ready.new.workers) workers) in
    further g.E.Ear.name g.E.Ear.heard g.E.Ear.spare store c.args.job.now c.requires.loaded c.args.number (omega arith) (omega arith) first c.args.course c.behind.result far
    taken hook packets it c.in_ok-end.end.made.items (record {
      are_taught = subst (AreTaught store edits workers) back taught;
      arrivals = c.packets_of-round.ensures.arrivals;
      parts = c.packets_of-round.ensures.left;
      desk = subst (IsDeskOf store) (sym is.0) end.desk;
      events = subst (λ (d : DeskView). AreEvents files (journal c.args.course.desk) (journal d) it.events) (sym is.0)
          (subst (λ (j : List Edit). AreEvents files j (journal c.in_ok-end.end.desk) it.events) same end.events);
      since = subst (λ (d : DeskView). IsMadeSince (journal c.args.course.desk) (journal d) c.in_ok-end.end.made.items) (sym is.0)
          (subst (λ (j : List Edit). IsMadeSince j (journal c.in_ok-end.end.desk) c.in_ok-end.end.made.items) same end.made);
      hears = subst (λ (ear : g.row.E.Denot). HasHeard g.E.Ear.name g.E.Ear.heard g.E.Ear.spare (ear_of g.E.Ear.name g.E.Ear.heard g.E.Ear.spare c.args.course.ear) ear c.args.number edits it.events) (sym is.1)
          (subst (λ (j : List Edit). HasHeard g.E.Ear.name g.E.Ear.heard g.E.Ear.spare (ear_of g.E.Ear.name g.E.Ear.heard g.E.Ear.spare c.args.course.ear) c.in_ok-end.end.ear c.args.number (length j) it.events) same end.ear);
      walked = subst (λ (ws : List Worker). HaveWalked store hook packets (journal c.behind.result.desk) taken ws it.outcomes) (sym (ap (λ (v : Vec Worker Global). v.items) is.2))
          (subst (λ (d : DeskView). HaveWalked store hook packets (journal d) taken c.in_ok-end.end.workers.items it.outcomes) (sym is.0) end.walked);
      lawful = subst (λ (d : DeskView). IsLawfulRound c.args.job.now c.args.number (arrivals_of hook packets) (journal c.args.course.desk) (journal d) taken it) (sym is.0)
          (subst (λ (j : List Edit). IsLawfulRound c.args.job.now c.args.number (arrivals_of hook packets) j (journal c.in_ok-end.end.desk) taken it) same end.lawful);
      rounds = c.behind.ensures.rounds;
      all = ap (λ (ms : List (Vec MadeAction Global)). all_made (map (λ (m : Vec MadeAction Global). m.items) ms)) c.behind.ensures.made ∙ all_more c.args.course.past.made.items c.in_ok-end.end.made;
      small = c.packets_of-round.ensures.short;
      captures = is.3 ∙ c.packets_of-round.ensures.captures;
    })
