-- A whole job: where it begins, and what it comes to.
use Rattle.std.proofs.Common.{◌≡◌, ◌∙◌, ℕ, zero, suc, ◌+◌, ◌≤◌, List, [], ◌∷◌, ◌++◌, length, map, take, drop, Option, Some, None, refl, sym, ap, subst, arith, append-nil, Vec, Global}
use Rattle.std.specs.Prelude.{All, option_map}
use Rattle.std.specs.List.{slice_get}
use Rattle.std.proofs.lemmas.List.{take_all}
use Rattle.tc_base.specs.declared.ear.EventName.{EventName}
use Rattle.pcap_io.specs.declared.capture.Capture.{Capture}
use Rattle.job_lines.specs.declared.job.Round.{Round}
use Rattle.pin_store.specs.Calls.{IsNewAt, IsSeatAt, IsOutside, pin_of}
use Rattle.filter_state.specs.declared.edit.Edit.{Edit}
use Rattle.filter_state.specs.Sound.{Each}
use Rattle.filter_state.specs.States.{no_state}
use Rattle.walk_steps.specs.Told.{IsShortRun}
use Rattle.run_report.specs.declared.outcomes.Outcome.{Outcome}
use Rattle.hook_reader.specs.Seats.{HookSeat}
use Rattle.shared_hook.specs.Views.{IsUnused}
use Rattle.walk_rules.specs.declared.limits.TheConstants.{VISITS_MAX}
use Rattle.walk_ends.specs.declared.counts.Count.{Count}
use Rattle.batch_run.specs.declared.made_action.MadeAction.{MadeAction}
use Rattle.run_report.specs.declared.counters.CounterLine.{CounterLine}
use Rattle.run_report.specs.declared.rounds.RoundRecord.{RoundRecord}
use Rattle.lawful_runs.specs.declared.loaded.LoadedJob.{LoadedJob}
use Rattle.lawful_runs.specs.Given.{GivenRound, IsLoaded, given_rounds, rounds_from, capture_count, command_count, packet_count}
use Rattle.lawful_runs.specs.Lawful.{AreRounds, IsRunWith, counter_of, executed_in, outcomes_in, made_by, counters_of}
use Rattle.round_terms.specs.Hearing.{EarView, ear_of}
use Rattle.worker_rounds.specs.declared.worker.Worker.{Worker}
use Rattle.job_rounds.specs.OfRoundState.Views.{journal}
use Rattle.job_rounds.specs.OfRoundState.Rounds.{StoreName, IsDeskOf}
use Rattle.run_counts.specs.Counting.{count_of, counted_in}
use Rattle.job_rounds.specs.declared.course.Course.{Course}
use Rattle.job_rounds.specs.Hooks.{AreWorkersOf}
use Rattle.job_rounds.specs.declared.running.JobEnd.{JobEnd}
use Rattle.job_rounds.specs.Runs.{IsJobEnd}
use Rattle.job_rounds.proofs.Beginning.{many_mapped}
use Rattle.job_rounds.specs.SoFar.{IsSoFar, IsBetween, all_made}
use Rattle.job_rounds.specs.Left.{packets_left}
use Rattle.job_rounds.specs.Visited.{visits_by, HaveVisited}
use Rattle.job_rounds.specs.Names.{names_in}
use Rattle.job_rounds.specs.Counted.{AreCounted, lines_of}

-- ---- the end
many_given : (rounds : List Round) (files : List (List ℕ)) (captures : List Capture) → length (rounds_from rounds files captures) ≡ length rounds
many_given [] files captures = refl
many_given (round ∷ rounds) files captures = let rest = many_given rounds (drop (length round.batches) files) (drop (capture_count round.capture) captures) in omega (arith, rest)

pub all_rounds : (loaded : LoadedJob) → take (length loaded.job.rounds) (given_rounds loaded) ≡ given_rounds loaded
all_rounds loaded = let many = many_given loaded.job.rounds loaded.batches loaded.captures in take_all (length loaded.job.rounds) (given_rounds loaded) (omega (arith, many))

lines_are : (counts : List Count) (executed : List (ℕ × ℕ)) → ((serial : ℕ) → count_of counts serial ≡ counted_in executed serial) → (made : List MadeAction) → lines_of counts made ≡ map (counter_of executed) made
lines_are counts executed are [] = refl
lines_are counts executed are (action ∷ made) =
    ap (λ (c : Count). record { serial = action.serial; kind = action.kind; index = action.index; packets = c.packets; bytes = c.bytes } ∷ lines_of counts made) (are action.serial)
    ∙ ap (λ (ls : List CounterLine). counter_of executed action ∷ ls) (lines_are counts executed are made)

pub counters_are : (edits : List Edit) (rounds : List RoundRecord) (made : List MadeAction) (counts : List Count) → made ≡ made_by no_state edits → AreCounted (outcomes_in rounds) counts → lines_of counts made ≡ counters_of edits rounds
counters_are edits rounds made counts is are = lines_are counts (executed_in (outcomes_in rounds)) are made ∙ ap (map (counter_of (executed_in (outcomes_in rounds)))) is

-- ---- the readers' visits
mapped_back : (workers : List Worker) (at : ℕ) (reader : HookSeat) → slice_get (map (λ (worker : Worker). worker.reader) workers) at ≡ Some reader → (worker : Worker) × (slice_get workers at ≡ Some worker) × (worker.reader ≡ reader)
mapped_back [] at reader is = absurd (cc is)
mapped_back (worker ∷ workers) zero reader is = (worker, refl, (let same : worker.reader ≡ reader = cc is in same))
mapped_back (worker ∷ workers) (suc at) reader is = mapped_back workers at reader is

pub have_visited : (rounds : List RoundRecord) (workers : List Worker) → ((at : ℕ) (worker : Worker) → slice_get workers at ≡ Some worker → worker.reader.visits ≡ visits_by (at + 1) (outcomes_in rounds)) → HaveVisited rounds (map (λ (worker : Worker). worker.reader) workers)
have_visited rounds workers each at reader is =
    let own = mapped_back workers at reader is in
    subst (λ (r : HookSeat). r.visits ≡ visits_by (at + 1) (outcomes_in rounds)) own.2 (each at own.0 own.1)

-- ---- the readers
each_reader : (P : HookSeat → Type 0) (workers : List Worker) → ((at : ℕ) (worker : Worker) → slice_get workers at ≡ Some worker → P worker.reader) → All P (map (λ (worker : Worker). worker.reader) workers)
each_reader P [] each at reader less = absurd (omega (arith, less))
each_reader P (worker ∷ workers) each zero reader less = each 0 worker refl
each_reader P (worker ∷ workers) each (suc at) reader less = each_reader P workers (λ k w there. each (suc k) w there) at reader (omega (arith, less))

pub readers_stay : (store : StoreName) (left : ℕ) (earlier : List Outcome) (workers : List Worker) → ((at : ℕ) (worker : Worker) → slice_get workers at ≡ Some worker → IsBetween store left earlier at worker)
    → All (λ (reader : HookSeat). IsSeatAt store.table store.shape reader.place × IsOutside reader.place) (map (λ (worker : Worker). worker.reader) workers)
readers_stay store left earlier workers between = each_reader (λ (reader : HookSeat). IsSeatAt store.table store.shape reader.place × IsOutside reader.place) workers
    (λ at worker there. let own = between at worker there in (own.own, own.outside))

-- ---- what it comes to
module _ {E : Type 0} (name : E → ℕ) (heard : E → Option (List EventName)) (spare : E → ℕ) (store : StoreName) (loaded : LoadedJob) (first : EarView) (course : Course E)
    (far : IsSoFar name heard spare store loaded first (length loaded.job.rounds) course) (rounds : List RoundRecord) (same : course.past.rounds.items ≡ rounds) where
  lawful_run : (counters : List CounterLine) (counts : List Count) → AreCounted (outcomes_in course.past.rounds.items) counts
      → counters ≡ lines_of counts (all_made (map (λ (m : Vec MadeAction Global). m.items) course.past.made.items)) → IsRunWith loaded (record { rounds = rounds; counters = counters }) (journal course.desk)
  lawful_run counters counts counted lines = record {
    rounds = subst (λ (rs : List RoundRecord). AreRounds loaded.job.workers (given_rounds loaded) [] [] rs (journal course.desk)) same
        (subst (λ (gs : List GivenRound). AreRounds loaded.job.workers gs [] [] course.past.rounds.items (journal course.desk)) (all_rounds loaded) far.lawful);
    counters = lines ∙ counters_are (journal course.desk) course.past.rounds.items (all_made (map (λ (m : Vec MadeAction Global). m.items) course.past.made.items)) counts far.made counted ∙ ap (counters_of (journal course.desk)) same;
  }

  pub job_ends : (counters : List CounterLine) (readers : Vec HookSeat Global) (counts : List Count) → AreCounted (outcomes_in course.past.rounds.items) counts
      → counters ≡ lines_of counts (all_made (map (λ (m : Vec MadeAction Global). m.items) course.past.made.items)) → readers.items ≡ map (λ (worker : Worker). worker.reader) course.workers.items
      → IsJobEnd name heard store loaded first (record { run = record { rounds = rounds; counters = counters }; desk = course.desk; readers = readers; ear = course.ear })
  job_ends counters readers counts counted lines own = record {
    run = lawful_run counters counts counted lines;
    desk = far.desk;
    many = ap length own ∙ many_mapped (λ (worker : Worker). worker.reader) course.workers.items ∙ far.many;
    readers = subst (All (λ (reader : HookSeat). IsSeatAt store.table store.shape reader.place × IsOutside reader.place)) (sym own)
        (readers_stay store (packets_left loaded (length loaded.job.rounds)) (outcomes_in course.past.rounds.items) course.workers.items far.workers);
    visited = subst (λ (rs : List HookSeat). HaveVisited rounds rs) (sym own) (subst (λ (rs : List RoundRecord). HaveVisited rs (map (λ (worker : Worker). worker.reader) course.workers.items)) same
        (have_visited course.past.rounds.items course.workers.items (λ at worker there. (far.workers at worker there).visited)));
    name_is = far.name_is;
    heard_is = far.heard_is ∙ ap (λ (rs : List RoundRecord). option_map (λ names. names ++ names_in rs) first.heard) same;
  }

-- ---- the beginning
none_more : (heard : Option (List EventName)) → heard ≡ option_map (λ (names : List EventName). names ++ []) heard
none_more None = refl
none_more (Some names) = ap (λ (xs : List EventName). Some xs) (sym (append-nil names))

module _ {E : Type 0} (name : E → ℕ) (heard : E → Option (List EventName)) (spare : E → ℕ) (store : StoreName) (loaded : LoadedJob) (is : IsLoaded loaded) (readers : List HookSeat)
    (new : All (λ (r : HookSeat). IsNewAt store.table store.shape r.place) readers) (unused : All IsUnused readers) (course : Course E) where
  new_between : (workers : List Worker) → AreWorkersOf readers workers → (at : ℕ) (worker : Worker) → slice_get workers at ≡ Some worker → IsBetween store (packets_left loaded 0) [] at worker
  new_between workers are at worker there =
      let own = are.each at worker there in
      let seat = at_all (λ (r : HookSeat). IsNewAt store.table store.shape r.place) new at worker.reader own.1 in
      let few = is.packets in
      let pin = seat.pin in
      let left : packets_left loaded 0 ≡ packet_count loaded.captures = refl in
      record {
        number = own.0;
        own = seat.seat;
        outside = (let even : pin_of worker.reader.place ≡ 0 = pin in omega (arith, even));
        few = omega (arith, few, pin, left);
        seen = λ place outcome none. absurd (cc none);
        visited = (at_all IsUnused unused at worker.reader own.1).0;
      }
    where
      at_all : (P : HookSeat → Type 0) → All P readers → (place : ℕ) (reader : HookSeat) → slice_get readers place ≡ Some reader → P reader
      at_all P all place reader found = from readers place all found
        where
          from : (rs : List HookSeat) (k : ℕ) → All P rs → slice_get rs k ≡ Some reader → P reader
          from [] k all here = absurd (cc here)
          from (r ∷ rs) zero all here = (let same : r ≡ reader = cc here in subst P same (all 0 r (omega arith)))
          from (r ∷ rs) (suc k) all here = from rs k (λ i d less. all (suc i) d (omega (arith, less))) here

  pub begins : IsDeskOf store course.desk → journal course.desk ≡ [] → AreWorkersOf readers course.workers.items → length readers ≡ loaded.job.workers → course.past.rounds.items ≡ [] → course.past.made.items ≡ [] → course.captures ≡ 0
      → command_count loaded.batches ≤ spare course.ear → IsSoFar name heard spare store loaded (ear_of name heard spare course.ear) 0 course
  begins desk empty workers many rounds made captures room =
      let commands = is.commands in
      let packets = is.packets in
      let none = ap length empty in
      let walked = ap (λ (rs : List RoundRecord). length (outcomes_in rs)) rounds in
      record {
        lawful = subst (λ (rs : List RoundRecord). AreRounds loaded.job.workers [] [] [] rs (journal course.desk)) (sym rounds) empty;
        desk = desk;
        many = workers.many ∙ many;
        workers = λ at worker there. subst (λ (rs : List RoundRecord). IsBetween store (packets_left loaded 0) (outcomes_in rs) at worker) (sym rounds) (new_between course.workers.items workers at worker there);
        made = ap (λ (ms : List (Vec MadeAction Global)). all_made (map (λ (m : Vec MadeAction Global). m.items) ms)) made ∙ sym (ap (made_by no_state) empty);
        captures = captures;
        of_run = omega (arith, packets, walked);
        short = subst (λ (rs : List RoundRecord). Each (λ (outcome : Outcome). IsShortRun outcome.executed) (outcomes_in rs)) (sym rounds) tt;
        brief = subst (λ (rs : List RoundRecord). Each (λ (outcome : Outcome). length outcome.points ≤ VISITS_MAX) (outcomes_in rs)) (sym rounds) tt;
        few = omega (arith, commands, none);
        room = room;
        name_is = refl;
        heard_is = none_more (heard course.ear) ∙ ap (λ (rs : List RoundRecord). option_map (λ (names : List EventName). names ++ names_in rs) (heard course.ear)) (sym rounds);
      }
