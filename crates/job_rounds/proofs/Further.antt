-- A run behind one round more.
use Rattle.walk_ends.specs.declared.limits.TheConstants.{PACKETS_MAX}
use Rattle.walk_rules.specs.declared.limits.TheConstants.{VISITS_MAX}
use Rattle.std.proofs.Common.{◌≡◌, ◌∙◌, ℕ, zero, suc, ◌+◌, ◌-◌, ◌≤◌, List, [], ◌∷◌, ◌++◌, length, map, take, Option, Some, refl, sym, ap, subst, arith, append-nil, append_assoc, Vec, Global}
use Rattle.std.specs.Prelude.{option_map}
use Rattle.std.specs.List.{slice_get}
use Rattle.std.proofs.lemmas.List.{length-take, length-append}
use Rattle.tc_base.specs.declared.ear.EventName.{EventName}
use Rattle.tc_base.specs.declared.hook.Hook.{Hook}
use Rattle.pcap_io.specs.declared.capture.Packet.{Packet}
use Rattle.pcap_io.specs.Captures.{AreShort}
use Rattle.filter_state.specs.declared.edit.Edit.{Edit}
use Rattle.filter_state.specs.Sound.{Each}
use Rattle.batch_run.specs.declared.made_action.MadeAction.{MadeAction}
use Rattle.run_report.specs.declared.outcomes.Outcome.{Outcome}
use Rattle.run_report.specs.declared.rounds.RoundRecord.{RoundRecord}
use Rattle.run_report.specs.Counts.{edits_in}
use Rattle.lawful_runs.specs.declared.loaded.LoadedJob.{LoadedJob}
use Rattle.lawful_runs.specs.Given.{Arrival, GivenRound, IsLoaded, given_rounds, captures_named}
use Rattle.lawful_runs.specs.Lawful.{IsRound, AreRounds, outcomes_in}
use Rattle.lawful_runs.proofs.OfLogs.RoundMore.{rounds_further}
use Rattle.lawful_runs.proofs.Rounds.{rounds_counted}
use Rattle.lawful_runs.proofs.Places.{each_from, one_there}
use Rattle.filter_state.proofs.Pairs.{each_append}
use Rattle.walk_steps.specs.Told.{IsShortRun}
use Rattle.round_terms.specs.Files.{files_of}
use Rattle.round_terms.specs.Hearing.{EarView, HasHeard, ear_of}
use Rattle.round_terms.specs.Underway.{IsMadeSince}
use Rattle.round_terms.proofs.Making.{made_further}
use Rattle.worker_rounds.specs.declared.worker.Worker.{Worker}
use Rattle.worker_rounds.specs.Worked.{arrivals_of}
use Rattle.job_rounds.specs.OfRoundState.Views.{journal}
use Rattle.job_rounds.specs.OfRoundState.Rounds.{StoreName, IsDeskOf}
use Rattle.job_rounds.specs.OfOneRound.Rounds.{AreEvents}
use Rattle.job_rounds.specs.OfOneRound.Ends.{HaveWalked, IsLawfulRound}
use Rattle.job_rounds.proofs.OfOneRound.Zips.{zip_long}
use Rattle.job_rounds.specs.declared.course.Course.{Course}
use Rattle.job_rounds.specs.Left.{packets_left}
use Rattle.job_rounds.specs.Names.{names_in}
use Rattle.job_rounds.specs.Taught.{IsTaught, AreTaught}
use Rattle.job_rounds.specs.SoFar.{IsSoFar, all_made}
use Rattle.job_rounds.proofs.RoundCommands.{round_split}
use Rattle.job_rounds.proofs.RoundEvents.{grown}
use Rattle.job_rounds.proofs.RoundNames.{heard_more}
use Rattle.job_rounds.proofs.RoundPackets.{given_there, one_taken}
use Rattle.job_rounds.proofs.Ready.{have_seen, within_by}
use Rattle.job_rounds.proofs.RoundWorkers.{between_next, many_arrivals}
use Rattle.run_counts.proofs.OfShortWalks.ShortRuns.{executed_short, few_visited}

outcomes_more : (its : List RoundRecord) (it : RoundRecord) → outcomes_in (its ++ it ∷ []) ≡ outcomes_in its ++ it.outcomes
outcomes_more [] it = append-nil it.outcomes
outcomes_more (first ∷ its) it = ap (λ (os : List Outcome). first.outcomes ++ os) (outcomes_more its it) ∙ sym (append_assoc first.outcomes (outcomes_in its) it.outcomes)

pub all_more : (mades : List (Vec MadeAction Global)) (made : Vec MadeAction Global) → all_made (map (λ (m : Vec MadeAction Global). m.items) (mades ++ made ∷ [])) ≡ all_made (map (λ (m : Vec MadeAction Global). m.items) mades) ++ made.items
all_more [] made = append-nil made.items
all_more (first ∷ mades) made = ap (λ (ms : List MadeAction). first.items ++ ms) (all_more mades made) ∙ sym (append_assoc first.items (all_made (map (λ (m : Vec MadeAction Global). m.items) mades)) made.items)

abbrev AreShortRuns : List Outcome → Type 0
AreShortRuns outcomes = Each (λ (outcome : Outcome). IsShortRun outcome.executed) outcomes

arrival_short : (hook : Hook) (packets : List Packet) (place : ℕ) (arrival : Arrival) → AreShort packets → slice_get (arrivals_of hook packets) place ≡ Some arrival → length arrival.packet.bytes ≤ 262144
arrival_short hook [] place arrival short is = absurd (cc is)
arrival_short hook (packet ∷ packets) zero arrival short is =
    (let same : record { hook = hook; packet = packet } ≡ arrival = cc is in subst (λ (a : Arrival). length a.packet.bytes ≤ 262144) same (short 0 packet (omega arith)))
arrival_short hook (packet ∷ packets) (suc place) arrival short is = arrival_short hook packets place arrival (λ k d less. short (suc k) d (omega (arith, less))) is

many_rounds : (workers : ℕ) (rounds : List GivenRound) (before : List Edit) (earlier : List Outcome) (its : List RoundRecord) (journal : List Edit) → AreRounds workers rounds before earlier its journal → length its ≡ length rounds
many_rounds workers [] before earlier [] journal are = refl
many_rounds workers [] before earlier (it ∷ its) journal are = absurd are
many_rounds workers (round ∷ rounds) before earlier [] journal are = absurd are
many_rounds workers (round ∷ rounds) before earlier (it ∷ its) journal (edits, own, more) =
    let rest = many_rounds workers rounds (before ++ edits) (earlier ++ it.outcomes) its journal more in omega (arith, rest)

module _ {E : Type 0} (name : E → ℕ) (heard : E → Option (List EventName)) (spare : E → ℕ) (store : StoreName) (loaded : LoadedJob) (is : IsLoaded loaded) (number : ℕ)
    (least : 1 ≤ number) (most : number ≤ length loaded.job.rounds) (first : EarView) (old new : Course E) (far : IsSoFar name heard spare store loaded first (number - 1) old)
    (taught : List Worker) (hook : Hook) (packets : List Packet) (it : RoundRecord) (made : List MadeAction) where
  -- what the round came to
  pub record IsPlayed : Type 0 where
    pub are_taught : AreTaught store (length (journal old.desk)) old.workers.items taught
    pub arrivals : (given : GivenRound) → slice_get (given_rounds loaded) (number - 1) ≡ Some given → given.arrivals ≡ arrivals_of hook packets
    pub parts : packets_left loaded (number - 1) ≡ length packets + packets_left loaded number
    pub desk : IsDeskOf store new.desk
    pub events : AreEvents (files_of loaded number) (journal old.desk) (journal new.desk) it.events
    pub since : IsMadeSince (journal old.desk) (journal new.desk) made
    pub hears : HasHeard name heard spare (ear_of name heard spare old.ear) new.ear number (length (journal old.desk)) it.events
    pub walked : HaveWalked store hook packets (journal new.desk) taught new.workers.items it.outcomes
    pub lawful : IsLawfulRound loaded number (arrivals_of hook packets) (journal old.desk) (journal new.desk) taught it
    pub rounds : new.past.rounds.items ≡ old.past.rounds.items ++ it ∷ []
    pub all : all_made (map (λ m. m.items) new.past.made.items) ≡ all_made (map (λ m. m.items) old.past.made.items) ++ made
    pub small : AreShort packets
    pub captures : new.captures ≡ captures_named (take number loaded.job.rounds)

  module _ (played : IsPlayed) where
    its : List RoundRecord
    its = old.past.rounds.items

    earlier : List Outcome
    earlier = outcomes_in old.past.rounds.items

    round : (given : GivenRound) × (slice_get (given_rounds loaded) (number - 1) ≡ Some given)
    round = given_there loaded.job.rounds loaded.batches loaded.captures (number - 1) (omega (arith, least, most))

    next_is : suc (number - 1) ≡ number
    next_is = omega (arith, least)

    outcomes_new : outcomes_in new.past.rounds.items ≡ outcomes_in old.past.rounds.items ++ it.outcomes
    outcomes_new = ap outcomes_in played.rounds ∙ outcomes_more old.past.rounds.items it

    own_round : (edits : List Edit) × (journal new.desk ≡ journal old.desk ++ edits) × IsRound (length taught) round.0 (journal old.desk) (outcomes_in old.past.rounds.items) it edits
    own_round = played.lawful round.0 (outcomes_in old.past.rounds.items) round.1 (played.arrivals round.0 round.1)
        (have_seen store (packets_left loaded (number - 1)) (outcomes_in old.past.rounds.items) old.workers.items far.workers (length (journal old.desk)) taught played.are_taught)

    counted_here : length it.outcomes ≡ length packets
    counted_here = own_round.2.walked.one_each ∙ ap length (played.arrivals round.0 round.1) ∙ many_arrivals hook packets

    short_here : Each (λ (outcome : Outcome). IsShortRun outcome.executed) it.outcomes
    short_here = each_from (λ (outcome : Outcome). IsShortRun outcome.executed) it.outcomes (λ place outcome there.
        let walked = own_round.2.walked in
        let arrival = one_there round.0.arrivals it.outcomes place outcome walked.one_each there in
        let among = subst (λ (all : List Arrival). slice_get all place ≡ Some arrival.0) (played.arrivals round.0 round.1) arrival.1 in
        executed_short _ _ _ arrival.0 outcome (walked.walked place arrival.0 outcome arrival.1 there) (arrival_short hook packets place arrival.0 played.small among))

    brief_here : Each (λ (outcome : Outcome). length outcome.points ≤ VISITS_MAX) it.outcomes
    brief_here = each_from (λ (outcome : Outcome). length outcome.points ≤ VISITS_MAX) it.outcomes (λ place outcome there.
        let walked = own_round.2.walked in
        let arrival = one_there round.0.arrivals it.outcomes place outcome walked.one_each there in
        few_visited _ _ _ arrival.0 outcome (walked.walked place arrival.0 outcome arrival.1 there))

    brief_all : Each (λ (outcome : Outcome). length outcome.points ≤ VISITS_MAX) (outcomes_in old.past.rounds.items ++ it.outcomes)
    brief_all = each_append (λ (outcome : Outcome). length outcome.points ≤ VISITS_MAX) (outcomes_in old.past.rounds.items) it.outcomes far.brief brief_here

    within_run : length (outcomes_in old.past.rounds.items) + length it.outcomes ≤ PACKETS_MAX
    within_run = let own = counted_here in let left = played.parts in let most = far.of_run in omega (arith, own, left, most)

    lawful : AreRounds loaded.job.workers (take number (given_rounds loaded)) [] [] new.past.rounds.items (journal new.desk)
    lawful =
        let own = own_round in
        let workers : length taught ≡ loaded.job.workers = zip_long (IsTaught store (length (journal old.desk))) old.workers.items taught played.are_taught ∙ far.many in
        let one = subst (λ (n : ℕ). IsRound n round.0 (journal old.desk) (outcomes_in old.past.rounds.items) it own.0) workers own.2 in
        let more = rounds_further loaded.job.workers (take (number - 1) (given_rounds loaded)) round.0 [] [] old.past.rounds.items it (journal old.desk) own.0 far.lawful one in
        let taken : take number (given_rounds loaded) ≡ take (number - 1) (given_rounds loaded) ++ round.0 ∷ [] =
        ap (λ (n : ℕ). take n (given_rounds loaded)) (sym next_is) ∙ one_taken (given_rounds loaded) (number - 1) round.0 round.1 in
        subst (λ (rs : List GivenRound). AreRounds loaded.job.workers rs [] [] new.past.rounds.items (journal new.desk)) (sym taken)
        (subst (λ (records : List RoundRecord). AreRounds loaded.job.workers (take (number - 1) (given_rounds loaded) ++ round.0 ∷ []) [] [] records (journal new.desk)) (sym played.rounds)
        (subst (AreRounds loaded.job.workers (take (number - 1) (given_rounds loaded) ++ round.0 ∷ []) [] [] (old.past.rounds.items ++ it ∷ [])) (sym own.1) more))

    pub further : IsSoFar name heard spare store loaded first number new
    further =
        let split = round_split loaded number is least most in
        let has = grown (files_of loaded number) (journal old.desk) (journal new.desk) it.events played.events in
        let count = has.count in
        let few = has.few in
        let before = far.few in
        let room = far.room in
        let spared = played.hears.spare_is in
        let longer = many_rounds loaded.job.workers (take (number - 1) (given_rounds loaded)) [] [] old.past.rounds.items (journal old.desk) far.lawful in
        let edits : length (journal old.desk) ≡ edits_in old.past.rounds.items =
        (let all = rounds_counted loaded.job.workers (take (number - 1) (given_rounds loaded)) [] [] old.past.rounds.items (journal old.desk) far.lawful in omega (arith, all)) in
        record {
          lawful = lawful;
          desk = played.desk;
          many = played.walked.many_last ∙ zip_long (IsTaught store (length (journal old.desk))) old.workers.items taught played.are_taught ∙ far.many;
          workers = λ at worker there. subst (λ (os : List Outcome). Rattle.job_rounds.specs.SoFar.IsBetween store (packets_left loaded number) os at worker)
              (sym (outcomes_more old.past.rounds.items it) ∙ ap outcomes_in (sym played.rounds))
              (between_next store (packets_left loaded (number - 1)) (outcomes_in old.past.rounds.items) old.workers.items far.workers (length (journal old.desk)) taught played.are_taught hook packets (journal new.desk)
              new.workers.items it.outcomes played.walked (packets_left loaded number) played.parts within_run brief_all at worker there);
          made = made_further [] (journal old.desk) played.events.edits (journal old.desk) (journal new.desk) (all_made (map (λ m. m.items) old.past.made.items)) (all_made (map (λ m. m.items) new.past.made.items))
              refl played.events.journal_is far.made (played.all ∙ ap (λ (ms : List MadeAction). all_made (map (λ m. m.items) old.past.made.items) ++ ms) played.since);
          captures = played.captures;
          of_run = (let own = counted_here in let left = played.parts in let most = far.of_run in let more = ap length (outcomes_new) in let both = length-append (outcomes_in old.past.rounds.items) it.outcomes in omega (arith, own, left, most, more, both));
          short = subst AreShortRuns (sym outcomes_new) (each_append (λ (outcome : Outcome). IsShortRun outcome.executed) (outcomes_in old.past.rounds.items) it.outcomes far.short short_here);
          brief = subst (λ (outcomes : List Outcome). Each (λ (outcome : Outcome). length outcome.points ≤ VISITS_MAX) outcomes) (sym outcomes_new) brief_all;
          few = omega (arith, split, count, few, before);
          room = omega (arith, split, few, room, spared);
          name_is = played.hears.name_is ∙ far.name_is;
          heard_is = subst (λ (records : List RoundRecord). heard new.ear ≡ option_map (λ names. names ++ names_in records) first.heard) (sym played.rounds)
              (heard_more first.heard (heard old.ear) (heard new.ear) old.past.rounds.items it number (length (journal old.desk)) (counted longer) edits far.heard_is played.hears.heard_is);
        }
      where
        counted : length old.past.rounds.items ≡ length (take (number - 1) (given_rounds loaded)) → number ≡ 1 + length old.past.rounds.items
        counted longer =
            let taken = length-take (number - 1) (given_rounds loaded) in
            let within = within_by (given_rounds loaded) (number - 1) round.0 round.1 in
            omega (arith, longer, taken, within, least)
