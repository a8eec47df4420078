-- What a path has told: the parts of a lawful run.
use Rattle.std.proofs.Common.{◌≡◌, ◌∙◌, ℕ, ◌+◌, List, [], ◌∷◌, ◌++◌, length, Some, None, refl, sym, ap, subst, append_assoc, append-nil, arith, ◌⊎◌, inl, inr}
use Rattle.std.specs.Prelude.{codes, Option}
use Rattle.std.specs.List.{slice_get}
use Rattle.std.proofs.lemmas.List.{length-append}
use Rattle.filter_state.specs.declared.edit.Edit.{Edit}
use Rattle.filter_state.specs.States.{State, no_state}
use Rattle.filter_state.specs.Journals.{state_from}
use Rattle.run_report.specs.declared.events.Event.{Event}
use Rattle.run_report.specs.declared.outcomes.Outcome.{Outcome}
use Rattle.run_report.specs.declared.rounds.RoundRecord.{RoundRecord}
use Rattle.run_report.specs.declared.record.RunRecord.{RunRecord}
use Rattle.run_report.specs.Counts.{accepted_count, edits_in}
use Rattle.run_report.specs.EventTexts.{event_line}
use Rattle.run_report.specs.PacketTexts.{packet_line}
use Rattle.run_report.specs.Reports.{numbered_line, report_lines}
use Rattle.lawful_runs.specs.declared.loaded.LoadedJob.{LoadedJob}
use Rattle.lawful_runs.specs.Given.{Arrival, GivenRound, given_rounds}
use Rattle.lawful_runs.specs.Events.{AreInOrder, AreResults, IsResult}
use Rattle.lawful_runs.specs.Lawful.{IsRound, AreRounds, IsRunWith, outcomes_in}
use Rattle.lawful_runs.proofs.WalkedEach.{AreWalkedFrom, walked_from}
use Rattle.lawful_runs.proofs.Events.{state_from-append}
use Rattle.report_laws.specs.Begun.{AreBegun}
use Rattle.report_laws.specs.Stands.{Stand, start, opening, inside, closing, no_round, with_event, with_outcome, run_of, last_lines, settled_at, settled, IsWhole, TakesEvent, TakesPacket, TakesEnd, TakesIn, Takes, IsPath}
use Rattle.report_laws.proofs.OfWholePaths.Places.{next_of, none_left}
use Rattle.report_laws.proofs.Texts.{lines_after, packets_from, round_text, rounds_from, rounds_lines_are}
use Rattle.report_laws.proofs.OfWholePaths.Texts.{lines_after-append, packets_from-append, rounds_from-append}
use Rattle.report_laws.proofs.OfWholePaths.Finishing.{results_behind}
use Rattle.report_laws.proofs.OfWholePaths.Fronts.{walks_push, as_many}

-- ---- whole rounds
pub record HasRounds (loaded : LoadedJob) (its : List RoundRecord) (journal : List Edit) : Type 0 where
  pub front : List GivenRound
  pub rest : List GivenRound
  pub whole : given_rounds loaded ≡ front ++ rest
  pub count : length front ≡ length its
  pub are : AreRounds loaded.job.workers front [] [] its journal

pub rounds_push : (workers : ℕ) (front : List GivenRound) (round : GivenRound) (before : List Edit) (earlier : List Outcome) (its : List RoundRecord) (it : RoundRecord) (journal edits : List Edit)
    → AreRounds workers front before earlier its journal → IsRound workers round journal (earlier ++ outcomes_in its) it edits → AreRounds workers (front ++ (round ∷ [])) before earlier (its ++ (it ∷ [])) (journal ++ edits)
rounds_push workers [] round before earlier [] it journal edits are is = (
  edits,
  subst (λ (seen : List Outcome). IsRound workers round before seen it edits) (append-nil earlier) (subst (λ (j : List Edit). IsRound workers round j (earlier ++ []) it edits) are is),
  ap (λ (j : List Edit). j ++ edits) are,
)
rounds_push workers [] round before earlier (first ∷ its) it journal edits are is = absurd are
rounds_push workers (given ∷ front) round before earlier [] it journal edits are is = absurd are
rounds_push workers (given ∷ front) round before earlier (first ∷ its) it journal edits (own, one, rest) is = (
  own,
  one,
  rounds_push workers front round (before ++ own) (earlier ++ first.outcomes) its it journal edits rest
      (subst (λ (seen : List Outcome). IsRound workers round journal seen it edits) (sym (append_assoc earlier first.outcomes (outcomes_in its))) is),
)

-- ---- a round that has begun
pub record IsInside (loaded : LoadedJob) (its : List RoundRecord) (before : List Edit) (it : RoundRecord) (edits : List Edit) : Type 0 where
  pub rounds : HasRounds loaded its before
  pub round : GivenRound
  pub given : slice_get (given_rounds loaded) (length its) ≡ Some round
  pub begun : AreBegun round.batches it.events
  pub results : AreResults round.batches (state_from no_state before) it.events edits
  pub came : List Arrival
  pub left : List Arrival
  pub arrivals : round.arrivals ≡ came ++ left
  pub walked : AreWalkedFrom loaded.job.workers (before ++ edits) (length before) (length (before ++ edits)) (outcomes_in its) came it.outcomes
  pub either : (it.outcomes ≡ []) ⊎ AreInOrder round.batches it.events

abbrev pub title : List ℕ
title = codes "clsact report 1\n"

abbrev pub so_far : ℕ → ℕ → RoundRecord → List (List ℕ)
so_far number before it = numbered_line (codes "round ") number ∷ (lines_after before it.events ++ packets_from 1 it.outcomes)

abbrev pub told_inside : List RoundRecord → RoundRecord → List (List ℕ)
told_inside its it = title ∷ (rounds_from 0 0 its ++ so_far (length its + 1) (edits_in its) it)

abbrev pub IsReached : LoadedJob → List (List ℕ) → Stand → Type 0
IsReached loaded lines start = lines ≡ []
IsReached loaded lines (opening its journal) =
    HasRounds loaded its journal × ((round : GivenRound) × (slice_get (given_rounds loaded) (length its) ≡ Some round)) × (lines ≡ title ∷ rounds_from 0 0 its)
IsReached loaded lines (inside its before it edits) = IsInside loaded its before it edits × (lines ≡ told_inside its it)
IsReached loaded lines (closing run journal left) = IsRunWith loaded run journal × (lines ++ left ≡ report_lines run)

-- ---- behind a round
pub run_whole : (loaded : LoadedJob) (its : List RoundRecord) (journal : List Edit) → HasRounds loaded its journal → slice_get (given_rounds loaded) (length its) ≡ None → IsRunWith loaded (run_of its journal) journal
run_whole loaded its journal has none =
    let rest : has.rest ≡ [] = none_left has.front has.rest (length its) has.count (ap (λ (rs : List GivenRound). slice_get rs (length its)) (sym has.whole) ∙ none) in
    let all : has.front ≡ given_rounds loaded = sym (append-nil has.front) ∙ ap (λ (rs : List GivenRound). has.front ++ rs) (sym rest) ∙ sym has.whole in
    record { rounds = subst (λ (rs : List GivenRound). AreRounds loaded.job.workers rs [] [] its journal) all has.are; counters = refl }

settled_by : (loaded : LoadedJob) (its : List RoundRecord) (journal : List Edit) (lines : List (List ℕ)) (o : Option GivenRound) → slice_get (given_rounds loaded) (length its) ≡ o → HasRounds loaded its journal
    → lines ≡ title ∷ rounds_from 0 0 its → IsReached loaded lines (settled_at o its journal)
settled_by loaded its journal lines None is has told = (
  run_whole loaded its journal has is,
  ap (λ (ls : List (List ℕ)). ls ++ last_lines (run_of its journal)) told ∙ ap (λ (ls : List (List ℕ)). title ∷ (ls ++ last_lines (run_of its journal))) (sym (rounds_lines_are its)),
)
settled_by loaded its journal lines (Some round) is has told = (has, (round, is), told)

pub settled_reached : (loaded : LoadedJob) (its : List RoundRecord) (journal : List Edit) (lines : List (List ℕ)) → HasRounds loaded its journal → lines ≡ title ∷ rounds_from 0 0 its → IsReached loaded lines (settled loaded its journal)
settled_reached loaded its journal lines has told = settled_by loaded its journal lines (slice_get (given_rounds loaded) (length its)) refl has told

-- ---- the lines, one more
abbrev packets_or_none : List Outcome → List (List ℕ)
packets_or_none outcomes = packets_from 1 outcomes

event_told : (number before : ℕ) (events : List Event) (outcomes : List Outcome) (event : Event) → outcomes ≡ []
    → so_far number before (record { events = events; outcomes = outcomes }) ++ (event_line (before + accepted_count events) event ∷ []) ≡ so_far number before (record { events = events ++ (event ∷ []); outcomes = outcomes })
event_told number before events outcomes event none =
    let line : List ℕ = event_line (before + accepted_count events) event in
    let first : List ℕ = numbered_line (codes "round ") number in
    ap (λ (os : List Outcome). (first ∷ (lines_after before events ++ packets_from 1 os)) ++ (line ∷ [])) none
    ∙ ap (λ (ls : List (List ℕ)). first ∷ (ls ++ (line ∷ []))) (append-nil (lines_after before events))
    ∙ ap (λ (ls : List (List ℕ)). first ∷ ls) (sym (lines_after-append before events (event ∷ [])))
    ∙ ap (λ (ls : List (List ℕ)). first ∷ ls) (sym (append-nil (lines_after before (events ++ (event ∷ [])))))
    ∙ ap (λ (os : List Outcome). first ∷ (lines_after before (events ++ (event ∷ [])) ++ packets_from 1 os)) (sym none)

packet_told : (number before : ℕ) (events : List Event) (outcomes : List Outcome) (outcome : Outcome)
    → so_far number before (record { events = events; outcomes = outcomes }) ++ (packet_line (1 + length outcomes) outcome ∷ []) ≡ so_far number before (record { events = events; outcomes = outcomes ++ (outcome ∷ []) })
packet_told number before events outcomes outcome =
    let line : List ℕ = packet_line (1 + length outcomes) outcome in
    let first : List ℕ = numbered_line (codes "round ") number in
    ap (λ (ls : List (List ℕ)). first ∷ ls) (append_assoc (lines_after before events) (packets_from 1 outcomes) (line ∷ []))
    ∙ ap (λ (ls : List (List ℕ)). first ∷ (lines_after before events ++ ls)) (sym (packets_from-append 1 outcomes (outcome ∷ [])))

told_more : (lines front more : List (List ℕ)) (line : List ℕ) (next : List (List ℕ)) → lines ≡ title ∷ (front ++ more) → more ++ (line ∷ []) ≡ next → lines ++ (line ∷ []) ≡ title ∷ (front ++ next)
told_more lines front more line next told is =
    ap (λ (ls : List (List ℕ)). ls ++ (line ∷ [])) told ∙ ap (λ (ls : List (List ℕ)). title ∷ ls) (append_assoc front more (line ∷ []) ∙ ap (λ (ls : List (List ℕ)). front ++ ls) is)

-- ---- a line in a round
module _ (loaded : LoadedJob) (its : List RoundRecord) (before : List Edit) (it : RoundRecord) (edits : List Edit) (lines : List (List ℕ)) (line : List ℕ) where
  same_round : (round other : GivenRound) → slice_get (given_rounds loaded) (length its) ≡ Some round → slice_get (given_rounds loaded) (length its) ≡ Some other → round ≡ other
  same_round round other is again = cc

  event_reached : (round : GivenRound) → slice_get (given_rounds loaded) (length its) ≡ Some round → IsInside loaded its before it edits → lines ≡ told_inside its it → (next : Stand)
      → TakesEvent round its before it edits line next → IsReached loaded (lines ++ (line ∷ [])) next
  event_reached round given is told next takes =
      let n = takes.is_next in
      let event : Event = takes.event in
      let one : is.round ≡ round = same_round is.round round is.given given in
      let now : state_from no_state (before ++ edits) ≡ state_from (state_from no_state before) edits = state_from-append no_state before edits in
      let result : IsResult (state_from (state_from no_state before) edits) n.words event.kind n.after takes.own = subst (λ (s : State). IsResult s n.words event.kind n.after takes.own) now n.result in
      let alone : AreResults round.batches (state_from (state_from no_state before) edits) (event ∷ []) takes.own = (n.words, n.after, takes.own, [], n.line, result, refl, sym (append-nil takes.own)) in
      let results = results_behind round.batches (state_from no_state before) it.events (event ∷ []) edits takes.own (subst (λ (r : GivenRound). AreResults r.batches (state_from no_state before) it.events edits) one is.results) alone in
      let inside_is : IsInside loaded its before (with_event it event) (edits ++ takes.own) = record {
        rounds = is.rounds;
        round = round;
        given = given;
        begun = n.order;
        results = results;
        came = [];
        left = round.arrivals;
        arrivals = refl;
        walked = subst (λ (os : List Outcome). AreWalkedFrom loaded.job.workers (before ++ (edits ++ takes.own)) (length before) (length (before ++ (edits ++ takes.own))) (outcomes_in its) [] os) (sym n.unwalked) tt;
        either = inl n.unwalked;
      } in
      let text : so_far (length its + 1) (edits_in its) it ++ (line ∷ []) ≡ so_far (length its + 1) (edits_in its) (with_event it event) =
      ap (λ (l : List ℕ). so_far (length its + 1) (edits_in its) it ++ (l ∷ [])) takes.text ∙ event_told (length its + 1) (edits_in its) it.events it.outcomes event n.unwalked in
      subst (IsReached loaded (lines ++ (line ∷ []))) (sym takes.then)
      (inside_is, told_more lines (rounds_from 0 0 its) (so_far (length its + 1) (edits_in its) it) line (so_far (length its + 1) (edits_in its) (with_event it event)) told text)

  packet_reached : (round : GivenRound) → slice_get (given_rounds loaded) (length its) ≡ Some round → IsInside loaded its before it edits → lines ≡ told_inside its it → (next : Stand)
      → TakesPacket loaded round its before it edits line next → IsReached loaded (lines ++ (line ∷ [])) next
  packet_reached round given is told next takes =
      let n = takes.is_next in
      let outcome : Outcome = takes.outcome in
      let one : is.round ≡ round = same_round is.round round is.given given in
      let arrivals : round.arrivals ≡ is.came ++ is.left = ap (λ (r : GivenRound). r.arrivals) (sym one) ∙ is.arrivals in
      let count : length it.outcomes ≡ length is.came = as_many loaded.job.workers (before ++ edits) (length before) (length (before ++ edits)) (outcomes_in its) is.came it.outcomes is.walked in
      let further = next_of is.came is.left (length it.outcomes) n.arrival (sym count) (ap (λ (came : List Arrival). slice_get came (length it.outcomes)) (sym arrivals) ∙ n.there) in
      let inside_is : IsInside loaded its before (with_outcome it outcome) edits = record {
        rounds = is.rounds;
        round = round;
        given = given;
        begun = subst (λ (r : GivenRound). AreBegun r.batches it.events) one is.begun;
        results = subst (λ (r : GivenRound). AreResults r.batches (state_from no_state before) it.events edits) one is.results;
        came = is.came ++ (n.arrival ∷ []);
        left = further.0;
        arrivals = arrivals ∙ ap (λ (rest : List Arrival). is.came ++ rest) further.1 ∙ sym (append_assoc is.came (n.arrival ∷ []) further.0);
        walked = walks_push loaded.job.workers (before ++ edits) (length before) (length (before ++ edits)) (outcomes_in its) is.came it.outcomes n.arrival outcome is.walked n.least n.most n.walked;
        either = inr n.all;
      } in
      let text : so_far (length its + 1) (edits_in its) it ++ (line ∷ []) ≡ so_far (length its + 1) (edits_in its) (with_outcome it outcome) =
      ap (λ (l : List ℕ). so_far (length its + 1) (edits_in its) it ++ (l ∷ [])) takes.text ∙ packet_told (length its + 1) (edits_in its) it.events it.outcomes outcome in
      subst (IsReached loaded (lines ++ (line ∷ []))) (sym takes.then)
      (inside_is, told_more lines (rounds_from 0 0 its) (so_far (length its + 1) (edits_in its) it) line (so_far (length its + 1) (edits_in its) (with_outcome it outcome)) told text)

  -- a round is whole
  pub rounds_more : (round : GivenRound) → slice_get (given_rounds loaded) (length its) ≡ Some round → IsInside loaded its before it edits → IsWhole round it → HasRounds loaded (its ++ (it ∷ [])) (before ++ edits)
  rounds_more round given is whole =
      let has = is.rounds in
      let one : is.round ≡ round = same_round is.round round is.given given in
      let arrivals : round.arrivals ≡ is.came ++ is.left = ap (λ (r : GivenRound). r.arrivals) (sym one) ∙ is.arrivals in
      let count : length it.outcomes ≡ length is.came = as_many loaded.job.workers (before ++ edits) (length before) (length (before ++ edits)) (outcomes_in its) is.came it.outcomes is.walked in
      let sum = ap length arrivals in
      let parts = length-append is.came is.left in
      let each = whole.each in
      let none : is.left ≡ [] = nothing is.left (omega (arith, count, sum, parts, each)) in
      let all : is.came ≡ round.arrivals = sym (append-nil is.came) ∙ ap (λ (rest : List Arrival). is.came ++ rest) (sym none) ∙ sym arrivals in
      let played : IsRound loaded.job.workers round before (outcomes_in its) it edits = record {
        order = whole.all;
        results = subst (λ (r : GivenRound). AreResults r.batches (state_from no_state before) it.events edits) one is.results;
        walked = walked_from loaded.job.workers (before ++ edits) (length before) (length (before ++ edits)) (outcomes_in its) round.arrivals it.outcomes
            (subst (λ (came : List Arrival). AreWalkedFrom loaded.job.workers (before ++ edits) (length before) (length (before ++ edits)) (outcomes_in its) came it.outcomes) all is.walked);
      } in
      let further = next_of has.front has.rest (length its) round has.count (ap (λ (rs : List GivenRound). slice_get rs (length its)) (sym has.whole) ∙ given) in
      let longer = length-append has.front (round ∷ []) in
      let more = length-append its (it ∷ []) in
      let counted = has.count in
      record {
        front = has.front ++ (round ∷ []);
        rest = further.0;
        whole = has.whole ∙ ap (λ (rs : List GivenRound). has.front ++ rs) further.1 ∙ sym (append_assoc has.front (round ∷ []) further.0);
        count = omega (arith, longer, more, counted);
        are = rounds_push loaded.job.workers has.front round [] [] its it before edits has.are played;
      }
    where
      nothing : (left : List Arrival) → length left ≡ 0 → left ≡ []
      nothing [] is = refl
      nothing (a ∷ left) is = absurd (omega (arith, is))

  end_reached : (round : GivenRound) → slice_get (given_rounds loaded) (length its) ≡ Some round → IsInside loaded its before it edits → lines ≡ told_inside its it → (next : Stand)
      → TakesEnd loaded round its before it edits line next → IsReached loaded (lines ++ (line ∷ [])) next
  end_reached round given is told next takes =
      let number : ℕ = length its + 1 in
      let last : List ℕ = numbered_line (codes "end round ") number in
      let first : List ℕ = numbered_line (codes "round ") number in
      let places : length its ≡ 0 + length its = omega arith in
      let sums : edits_in its ≡ 0 + edits_in its = omega arith in
      let text : so_far number (edits_in its) it ++ (line ∷ []) ≡ round_text number (edits_in its) it =
      ap (λ (l : List ℕ). so_far number (edits_in its) it ++ (l ∷ [])) takes.text
      ∙ ap (λ (ls : List (List ℕ)). first ∷ ls) (append_assoc (lines_after (edits_in its) it.events) (packets_from 1 it.outcomes) (last ∷ [])) in
      let whole : rounds_from 0 0 its ++ round_text number (edits_in its) it ≡ rounds_from 0 0 (its ++ (it ∷ [])) =
      ap (λ (ls : List (List ℕ)). rounds_from 0 0 its ++ ls) (sym (append-nil (round_text number (edits_in its) it)))
      ∙ ap (λ (k : ℕ). rounds_from 0 0 its ++ rounds_from k (edits_in its) (it ∷ [])) places
      ∙ ap (λ (k : ℕ). rounds_from 0 0 its ++ rounds_from (0 + length its) k (it ∷ [])) sums
      ∙ sym (rounds_from-append 0 0 its (it ∷ [])) in
      subst (IsReached loaded (lines ++ (line ∷ []))) (sym takes.then)
      (settled_reached loaded (its ++ (it ∷ [])) (before ++ edits) (lines ++ (line ∷ [])) (rounds_more round given is takes.whole)
      (told_more lines (rounds_from 0 0 its) (so_far number (edits_in its) it) line (round_text number (edits_in its) it) told text ∙ ap (λ (ls : List (List ℕ)). title ∷ ls) whole))

  line_reached : (next : Stand) → (round : GivenRound) → slice_get (given_rounds loaded) (length its) ≡ Some round → IsInside loaded its before it edits → lines ≡ told_inside its it
      → TakesIn loaded round its before it edits line next → IsReached loaded (lines ++ (line ∷ [])) next
  line_reached next round given is told (inl takes) = event_reached round given is told next takes
  line_reached next round given is told (inr (inl takes)) = packet_reached round given is told next takes
  line_reached next round given is told (inr (inr takes)) = end_reached round given is told next takes

-- ---- a line
pub no_rounds : (loaded : LoadedJob) → HasRounds loaded [] []
no_rounds loaded = record { front = []; rest = given_rounds loaded; whole = refl; count = refl; are = refl }

opened_round : (loaded : LoadedJob) (its : List RoundRecord) (journal : List Edit) (round : GivenRound) → HasRounds loaded its journal → slice_get (given_rounds loaded) (length its) ≡ Some round → IsInside loaded its journal no_round []
opened_round loaded its journal round has given = record {
  rounds = has;
  round = round;
  given = given;
  begun = λ batch among. tt;
  results = refl;
  came = [];
  left = round.arrivals;
  arrivals = refl;
  walked = tt;
  either = inl refl;
}

pub takes_reached : (loaded : LoadedJob) (stand next : Stand) (lines : List (List ℕ)) (line : List ℕ) → IsReached loaded lines stand → Takes loaded stand line next → IsReached loaded (lines ++ (line ∷ [])) next
takes_reached loaded start next lines line reached takes =
    subst (IsReached loaded (lines ++ (line ∷ []))) (sym takes.1)
    (settled_reached loaded [] [] (lines ++ (line ∷ [])) (no_rounds loaded) (ap (λ (ls : List (List ℕ)). ls ++ (line ∷ [])) reached ∙ ap (λ (l : List ℕ). l ∷ []) takes.0))
takes_reached loaded (opening its journal) next lines line (has, (round, given), told) takes =
    subst (IsReached loaded (lines ++ (line ∷ []))) (sym takes.1) (
      opened_round loaded its journal round has given,
      ap (λ (ls : List (List ℕ)). ls ++ (line ∷ [])) told ∙ ap (λ (l : List ℕ). title ∷ (rounds_from 0 0 its ++ (l ∷ []))) takes.0,
    )
takes_reached loaded (inside its before it edits) next lines line (is, told) (round, given, takes) = line_reached loaded its before it edits lines line next round given is told takes
takes_reached loaded (closing run journal []) next lines line reached takes = absurd takes
takes_reached loaded (closing run journal (first ∷ left)) next lines line (run_is, told) takes =
    subst (IsReached loaded (lines ++ (line ∷ []))) (sym takes.1)
    (run_is, ap (λ (l : List ℕ). (lines ++ (l ∷ [])) ++ left) takes.0 ∙ append_assoc lines (first ∷ []) left ∙ told)

pub path_reached : (loaded : LoadedJob) (stand end : Stand) (front lines : List (List ℕ)) → IsReached loaded front stand → IsPath loaded stand lines end → IsReached loaded (front ++ lines) end
path_reached loaded stand end front [] reached path = subst (λ (ls : List (List ℕ)). IsReached loaded ls end) (sym (append-nil front)) (subst (IsReached loaded front) (sym path) reached)
path_reached loaded stand end front (line ∷ lines) reached (next, takes, rest) =
    subst (λ (ls : List (List ℕ)). IsReached loaded ls end) (append_assoc front (line ∷ []) lines)
    (path_reached loaded next end (front ++ (line ∷ [])) lines (takes_reached loaded stand next front line reached takes) rest)

-- THE RUN OF A PATH
pub run_of_path : (loaded : LoadedJob) (run : RunRecord) (journal : List Edit) (lines : List (List ℕ)) → IsPath loaded start lines (closing run journal []) → IsRunWith loaded run journal × (lines ≡ report_lines run)
run_of_path loaded run journal lines path =
    let reached = path_reached loaded start (closing run journal []) [] lines refl path in
    (reached.0, sym (append-nil lines) ∙ reached.1)
