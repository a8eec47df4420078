-- The lines of a lawful run are a path.
use Rattle.std.proofs.Common.{◌≡◌, ◌∙◌, ℕ, ◌+◌, List, [], ◌∷◌, ◌++◌, length, Some, refl, sym, ap, subst, append_assoc, append-nil, arith, inl, inr}
use Rattle.std.specs.Prelude.{codes, Option}
use Rattle.std.specs.List.{slice_get}
use Rattle.std.proofs.lemmas.List.{length-append}
use Rattle.std.proofs.lemmas.Option.{slice_get_past}
use Rattle.filter_state.specs.declared.edit.Edit.{Edit}
use Rattle.filter_state.specs.States.{State, no_state}
use Rattle.filter_state.specs.Journals.{state_from}
use Rattle.run_report.specs.declared.events.Event.{Event}
use Rattle.run_report.specs.declared.outcomes.Outcome.{Outcome}
use Rattle.run_report.specs.declared.rounds.RoundRecord.{RoundRecord}
use Rattle.run_report.specs.declared.record.RunRecord.{RunRecord}
use Rattle.run_report.specs.Counts.{accepted_count, edits_in}
use Rattle.run_report.specs.Reports.{numbered_line, report_lines}
use Rattle.lawful_runs.specs.declared.loaded.LoadedJob.{LoadedJob}
use Rattle.lawful_runs.specs.Given.{Arrival, GivenRound, given_rounds}
use Rattle.lawful_runs.specs.Events.{AreInOrder, AreResults}
use Rattle.lawful_runs.specs.Lawful.{IsRound, AreRounds, IsRunWith, outcomes_in}
use Rattle.lawful_runs.proofs.WalkedEach.{AreWalkedFrom}
use Rattle.lawful_runs.proofs.Events.{state_from-append, leads}
use Rattle.report_laws.specs.Begun.{AreBegun}
use Rattle.report_laws.specs.Stands.{Stand, start, opening, inside, closing, no_round, run_of, last_lines, settled_at, settled, IsPath}
use Rattle.report_laws.proofs.Places.{there}
use Rattle.report_laws.proofs.Texts.{accepted_append, lines_after, packets_from, round_text, rounds_from, rounds_lines_are, edits_append, edits_cons}
use Rattle.report_laws.proofs.Fronts.{begun_front, walks_from}

pub path_append : (loaded : LoadedJob) (a b c : Stand) (xs ys : List (List ℕ)) → IsPath loaded a xs b → IsPath loaded b ys c → IsPath loaded a (xs ++ ys) c
path_append loaded a b c [] ys first second = subst (λ (s : Stand). IsPath loaded s ys c) first second
path_append loaded a b c (x ∷ xs) ys (next, takes, rest) second = (next, takes, path_append loaded next b c xs ys rest second)

pub outcomes_push : (its : List RoundRecord) (it : RoundRecord) → outcomes_in (its ++ (it ∷ [])) ≡ outcomes_in its ++ it.outcomes
outcomes_push [] it = append-nil it.outcomes
outcomes_push (first ∷ its) it =
    ap (λ (os : List Outcome). first.outcomes ++ os) (outcomes_push its it) ∙ sym (append_assoc first.outcomes (outcomes_in its) it.outcomes)

-- ---- the lines of a round
module _ (loaded : LoadedJob) (round : GivenRound) (its : List RoundRecord) (before : List Edit) (given : slice_get (given_rounds loaded) (length its) ≡ Some round) where
  abbrev pub events_so_far : List Event → RoundRecord
  events_so_far events = record { events = events; outcomes = [] }

  pub events_path : (front events : List Event) (edits more : List Edit) → AreInOrder round.batches (front ++ events) → AreResults round.batches (state_from no_state (before ++ edits)) events more
      → IsPath loaded (inside its before (events_so_far front) edits) (lines_after (edits_in its + accepted_count front) events) (inside its before (events_so_far (front ++ events)) (edits ++ more))
  events_path front [] edits more order is =
      ap (λ (es : List Event). inside its before (events_so_far es) (edits ++ more)) (append-nil front)
      ∙ ap (λ (es : List Edit). inside its before (events_so_far front) es) (ap (λ (m : List Edit). edits ++ m) is ∙ append-nil edits)
  events_path front (event ∷ events) edits more order (words, next, first, rest, line, result, results, is) =
      let shifted : front ++ (event ∷ events) ≡ (front ++ (event ∷ [])) ++ events = sym (append_assoc front (event ∷ []) events) in
      let begun : AreBegun round.batches (front ++ (event ∷ [])) = begun_front round.batches (front ++ (event ∷ [])) events (subst (AreInOrder round.batches) shifted order) in
      let now : state_from no_state (before ++ (edits ++ first)) ≡ next =
      ap (state_from no_state) (sym (append_assoc before edits first)) ∙ state_from-append no_state (before ++ edits) first ∙ leads (state_from no_state (before ++ edits)) words event.kind next first result in
      let later = events_path (front ++ (event ∷ [])) events (edits ++ first) rest (subst (AreInOrder round.batches) shifted order)
      (subst (λ (s : State). AreResults round.batches s events rest) (sym now) results) in
      let count = accepted_append front (event ∷ []) in
      let sum : edits_in its + accepted_count (front ++ (event ∷ [])) ≡ (edits_in its + accepted_count front) + accepted_count (event ∷ []) = omega (arith, count) in (
        inside its before (events_so_far (front ++ (event ∷ []))) (edits ++ first),
        (
          round,
          given,
          inl (record {
            event = event;
            own = first;
            is_next = record { words = words; after = next; unwalked = refl; order = begun; line = line; result = result };
            text = refl;
            then = refl;
          }),
        ),
        subst (λ (end : Stand). IsPath loaded (inside its before (events_so_far (front ++ (event ∷ []))) (edits ++ first)) (lines_after ((edits_in its + accepted_count front) + accepted_count (event ∷ [])) events) end)
            (ap (λ (es : List Event). inside its before (events_so_far es) ((edits ++ first) ++ rest)) (sym shifted)
            ∙ ap (λ (es : List Edit). inside its before (events_so_far (front ++ (event ∷ events))) es) (append_assoc edits first rest ∙ ap (λ (es : List Edit). edits ++ es) (sym is)))
            (subst (λ (k : ℕ). IsPath loaded (inside its before (events_so_far (front ++ (event ∷ []))) (edits ++ first)) (lines_after k events)
            (inside its before (events_so_far ((front ++ (event ∷ [])) ++ events)) ((edits ++ first) ++ rest))) sum later),
      )

  abbrev pub with_front : List Event → List Outcome → RoundRecord
  with_front events outcomes = record { events = events; outcomes = outcomes }

  pub packets_path : (events : List Event) (edits : List Edit) → AreInOrder round.batches events → (came left : List Arrival) (front outcomes : List Outcome) → round.arrivals ≡ came ++ left → length front ≡ length came
      → AreWalkedFrom loaded.job.workers (before ++ edits) (length before) (length (before ++ edits)) (outcomes_in its ++ front) left outcomes
      → IsPath loaded (inside its before (with_front events front) edits) (packets_from (1 + length front) outcomes) (inside its before (with_front events (front ++ outcomes)) edits)
  packets_path events edits order came [] front [] whole count are = ap (λ (os : List Outcome). inside its before (with_front events os) edits) (append-nil front)
  packets_path events edits order came (a ∷ left) front [] whole count are = absurd are
  packets_path events edits order came [] front (o ∷ outcomes) whole count are = absurd are
  packets_path events edits order came (a ∷ left) front (o ∷ outcomes) whole count (least, most, walked, rest) =
      let here : slice_get round.arrivals (length front) ≡ Some a = ap (λ (came : List Arrival). slice_get came (length front)) whole ∙ there came left a (length front) count in
      let grown = length-append front (o ∷ []) in
      let more = length-append came (a ∷ []) in
      let later = packets_path events edits order (came ++ (a ∷ [])) left (front ++ (o ∷ [])) outcomes (whole ∙ sym (append_assoc came (a ∷ []) left)) (omega (arith, grown, more, count))
      (subst (λ (seen : List Outcome). AreWalkedFrom loaded.job.workers (before ++ edits) (length before) (length (before ++ edits)) seen left outcomes) (append_assoc (outcomes_in its) front (o ∷ [])) rest) in
      let sum : 1 + length (front ++ (o ∷ [])) ≡ (1 + length front) + 1 = omega (arith, grown) in (
        inside its before (with_front events (front ++ (o ∷ []))) edits,
        (
          round,
          given,
          inr (inl (record {
            outcome = o;
            is_next = record { arrival = a; all = order; there = here; least = least; most = most; walked = walked };
            text = refl;
            then = refl;
          })),
        ),
        subst (λ (end : Stand). IsPath loaded (inside its before (with_front events (front ++ (o ∷ []))) edits) (packets_from ((1 + length front) + 1) outcomes) end)
            (ap (λ (os : List Outcome). inside its before (with_front events os) edits) (append_assoc front (o ∷ []) outcomes))
            (subst (λ (k : ℕ). IsPath loaded (inside its before (with_front events (front ++ (o ∷ []))) edits) (packets_from k outcomes)
            (inside its before (with_front events ((front ++ (o ∷ [])) ++ outcomes)) edits)) sum later),
      )

  pub end_path : (it : RoundRecord) (edits : List Edit) → AreInOrder round.batches it.events → length it.outcomes ≡ length round.arrivals
      → IsPath loaded (inside its before it edits) (numbered_line (codes "end round ") (length its + 1) ∷ []) (settled loaded (its ++ (it ∷ [])) (before ++ edits))
  end_path it edits order each =
      (settled loaded (its ++ (it ∷ [])) (before ++ edits), (round, given, inr (inr (record { whole = record { all = order; each = each }; text = refl; then = refl }))), refl)

  pub round_path : (it : RoundRecord) (edits : List Edit) → IsRound loaded.job.workers round before (outcomes_in its) it edits
      → IsPath loaded (opening its before) (round_text (length its + 1) (edits_in its) it) (settled loaded (its ++ (it ∷ [])) (before ++ edits))
  round_path it edits is =
      let none : edits_in its + accepted_count [] ≡ edits_in its = omega arith in
      let same : before ≡ before ++ [] = sym (append-nil before) in
      let events : IsPath loaded (inside its before no_round []) (lines_after (edits_in its) it.events) (inside its before (events_so_far it.events) edits) =
      subst (λ (k : ℕ). IsPath loaded (inside its before no_round []) (lines_after k it.events) (inside its before (events_so_far it.events) edits)) none
      (events_path [] it.events [] edits is.order (subst (λ (j : List Edit). AreResults round.batches (state_from no_state j) it.events edits) same is.results)) in
      let packets : IsPath loaded (inside its before (events_so_far it.events) edits) (packets_from 1 it.outcomes) (inside its before it edits) =
      packets_path it.events edits is.order [] round.arrivals [] it.outcomes refl refl
      (subst (λ (seen : List Outcome). AreWalkedFrom loaded.job.workers (before ++ edits) (length before) (length (before ++ edits)) seen round.arrivals it.outcomes) (sym (append-nil (outcomes_in its)))
      (walks_from loaded.job.workers (before ++ edits) (length before) (length (before ++ edits)) (outcomes_in its) round.arrivals it.outcomes is.walked)) in (
        inside its before no_round [],
        (refl, refl),
        path_append loaded (inside its before no_round []) (inside its before (events_so_far it.events) edits) (settled loaded (its ++ (it ∷ [])) (before ++ edits))
            (lines_after (edits_in its) it.events) (packets_from 1 it.outcomes ++ (numbered_line (codes "end round ") (length its + 1) ∷ [])) events
            (path_append loaded (inside its before (events_so_far it.events) edits) (inside its before it edits) (settled loaded (its ++ (it ∷ [])) (before ++ edits))
            (packets_from 1 it.outcomes) (numbered_line (codes "end round ") (length its + 1) ∷ []) packets
            (end_path it edits is.order is.walked.one_each)),
      )

-- ---- behind the rounds
pub closing_path : (loaded : LoadedJob) (run : RunRecord) (journal : List Edit) (left : List (List ℕ)) → IsPath loaded (closing run journal left) left (closing run journal [])
closing_path loaded run journal [] = refl
closing_path loaded run journal (line ∷ left) = (closing run journal left, (refl, refl), closing_path loaded run journal left)

pub opened : (loaded : LoadedJob) (front rounds : List GivenRound) (round : GivenRound) (its : List RoundRecord) (journal : List Edit) → given_rounds loaded ≡ front ++ (round ∷ rounds) → length its ≡ length front
    → (slice_get (given_rounds loaded) (length its) ≡ Some round) × (settled loaded its journal ≡ opening its journal)
opened loaded front rounds round its journal whole count =
    let here : slice_get (given_rounds loaded) (length its) ≡ Some round = ap (λ (rs : List GivenRound). slice_get rs (length its)) whole ∙ there front rounds round (length its) count in
    (here, ap (λ (o : Option GivenRound). settled_at o its journal) here)

pub closed : (loaded : LoadedJob) (its : List RoundRecord) (journal : List Edit) → length its ≡ length (given_rounds loaded) → settled loaded its journal ≡ closing (run_of its journal) journal (last_lines (run_of its journal))
closed loaded its journal count = ap (λ (o : Option GivenRound). settled_at o its journal) (slice_get_past (given_rounds loaded) (length its) (omega (arith, count)))

pub rounds_path : (loaded : LoadedJob) (front rounds : List GivenRound) (its more : List RoundRecord) (before journal : List Edit) → given_rounds loaded ≡ front ++ rounds → length its ≡ length front
    → AreRounds loaded.job.workers rounds before (outcomes_in its) more journal
    → IsPath loaded (settled loaded its before) (rounds_from (length its) (edits_in its) more ++ last_lines (run_of (its ++ more) journal)) (closing (run_of (its ++ more) journal) journal [])
rounds_path loaded front [] its [] before journal whole count are =
    let all : length its ≡ length (given_rounds loaded) = count ∙ ap length (sym (whole ∙ append-nil front)) in
    let same : its ++ [] ≡ its = append-nil its in
    subst (λ (s : Stand). IsPath loaded s (last_lines (run_of (its ++ []) journal)) (closing (run_of (its ++ []) journal) journal []))
    (ap (λ (rs : List RoundRecord). closing (run_of rs journal) journal (last_lines (run_of rs journal))) same ∙ ap (λ (j : List Edit). closing (run_of its j) j (last_lines (run_of its j))) are ∙ sym (closed loaded its before all))
    (closing_path loaded (run_of (its ++ []) journal) journal (last_lines (run_of (its ++ []) journal)))
rounds_path loaded front [] its (it ∷ more) before journal whole count are = absurd are
rounds_path loaded front (round ∷ rounds) its [] before journal whole count are = absurd are
rounds_path loaded front (round ∷ rounds) its (it ∷ more) before journal whole count (edits, one, rest) =
    let given = opened loaded front rounds round its before whole count in
    let longer = length-append its (it ∷ []) in
    let further = length-append front (round ∷ []) in
    let later = rounds_path loaded (front ++ (round ∷ [])) rounds (its ++ (it ∷ [])) more (before ++ edits) journal (whole ∙ sym (append_assoc front (round ∷ []) rounds)) (omega (arith, longer, further, count))
    (subst (λ (seen : List Outcome). AreRounds loaded.job.workers rounds (before ++ edits) seen more journal) (sym (outcomes_push its it)) rest) in
    let grown = edits_append its (it ∷ []) in
    let alone = edits_cons it [] in
    let none : edits_in [] ≡ 0 = refl in
    let sum : edits_in (its ++ (it ∷ [])) ≡ edits_in its + accepted_count it.events = omega (arith, grown, alone, none) in
    let next : length (its ++ (it ∷ [])) ≡ length its + 1 = longer in
    let end : Stand = closing (run_of (its ++ (it ∷ more)) journal) journal [] in
    let same : (its ++ (it ∷ [])) ++ more ≡ its ++ (it ∷ more) = append_assoc its (it ∷ []) more in
    let moved = subst (λ (rs : List RoundRecord). IsPath loaded (settled loaded (its ++ (it ∷ [])) (before ++ edits))
    (rounds_from (length (its ++ (it ∷ []))) (edits_in (its ++ (it ∷ []))) more ++ last_lines (run_of rs journal)) (closing (run_of rs journal) journal [])) same later in
    let told = subst (λ (k : ℕ). IsPath loaded (settled loaded (its ++ (it ∷ [])) (before ++ edits)) (rounds_from (length its + 1) k more ++ last_lines (run_of (its ++ (it ∷ more)) journal)) end) sum
    (subst (λ (k : ℕ). IsPath loaded (settled loaded (its ++ (it ∷ [])) (before ++ edits)) (rounds_from k (edits_in (its ++ (it ∷ []))) more ++ last_lines (run_of (its ++ (it ∷ more)) journal)) end) next moved) in
    subst (λ (ls : List (List ℕ)). IsPath loaded (settled loaded its before) ls end)
    (sym (append_assoc (round_text (length its + 1) (edits_in its) it) (rounds_from (length its + 1) (edits_in its + accepted_count it.events) more) (last_lines (run_of (its ++ (it ∷ more)) journal))))
    (path_append loaded (settled loaded its before) (settled loaded (its ++ (it ∷ [])) (before ++ edits)) end (round_text (length its + 1) (edits_in its) it)
    (rounds_from (length its + 1) (edits_in its + accepted_count it.events) more ++ last_lines (run_of (its ++ (it ∷ more)) journal))
    (subst (λ (s : Stand). IsPath loaded s (round_text (length its + 1) (edits_in its) it) (settled loaded (its ++ (it ∷ [])) (before ++ edits))) (sym given.1)
    (round_path loaded round its before given.0 it edits one)) told)

-- THE PATH OF A RUN
pub run_path : (loaded : LoadedJob) (run : RunRecord) (journal : List Edit) → IsRunWith loaded run journal → IsPath loaded start (report_lines run) (closing run journal [])
run_path loaded run journal is =
    let same : run_of run.rounds journal ≡ run = ap (λ cs. record { rounds = run.rounds; counters = cs }) (sym is.counters) in
    let it = rounds_path loaded [] (given_rounds loaded) [] run.rounds [] journal refl refl is.rounds in (
      settled loaded [] [],
      (refl, refl),
      subst (λ (ls : List (List ℕ)). IsPath loaded (settled loaded [] []) (ls ++ last_lines run) (closing run journal [])) (sym (rounds_lines_are run.rounds))
          (subst (λ (r : RunRecord). IsPath loaded (settled loaded [] []) (rounds_from 0 0 run.rounds ++ last_lines r) (closing r journal [])) same it),
    )
