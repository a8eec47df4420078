-- How far the rounds have come.
use Rattle.std.proofs.Common.{◌≡◌, ◌∙◌, ℕ, zero, suc, ◌+◌, ◌<◌, ◌≤◌, List, [], ◌∷◌, ◌++◌, length, Option, refl, sym, ap, subst, arith}
use Rattle.std.specs.Prelude.{drop, get_or}
use Rattle.std.proofs.lemmas.List.{length-map, drop_all}
use Rattle.std.proofs.lemmas.List.Sums.{sum_by-append, sum_by-cons}
use Rattle.std.specs.List.{All}
use Rattle.tc_base.specs.Outside.{AppendsUpTo}
use Rattle.tc_base.specs.declared.hook.Hook.{Hook}
use Rattle.pcap_io.specs.declared.capture.Packet.{Packet}
use Rattle.pcap_io.specs.declared.capture.Capture.{Capture}
use Rattle.job_lines.specs.declared.job.Round.{Round}
use Rattle.run_report.specs.declared.rounds.RoundRecord.{RoundRecord}
use Rattle.run_report.specs.Counts.{edits_in}
use Rattle.lawful_runs.specs.Given.{Arrival, GivenRound, given_batches, given_arrivals, capture_count, packet_count, rounds_from}
use Rattle.batch_trace.specs.Passed.{Entry}
use Rattle.walk_trace.specs.Tallies.{count_at, times_in}
use Rattle.filter_state.specs.Sound.{Each}
use Rattle.batch_trace.specs.Traced.{text_in}
use Rattle.report_trace.specs.Traced.{packet_parts, rounds_parts, decided_by, decisions}
use Rattle.report_trace.specs.Writing.{IsFit, IsBehind, lines_from, arrivals_of, PacketsLeft, ArePackets}
use Rattle.report_trace.specs.Rounds.{AreFit, lines_of_rounds, RoundsLeft, AreRoundsLeft}
use Rattle.report_trace.proofs.Rounding.{last_line, lines_behind, text_behind, at_packets, at_next, passed_over}

-- the rounds that are left, with their records and the files of their batches
pub record StandsAt (all : RoundsLeft) (entries : List Entry) (now : Option (List ℕ)) (left : List ℕ) (number : ℕ) (rounds : List Round) (captures : List Capture) (workers : ℕ) (tally : List ℕ) (counts : ℕ → ℕ) : Type 0 where
  pub before : ℕ
  pub files : List (List ℕ)
  pub its : List RoundRecord
  pub are : AreRoundsLeft (record all { files = files; its = its }) entries now left number before rounds captures workers
  pub decided : (edit : ℕ) → count_at tally edit + times_in (decisions entries (rounds_from rounds files captures) its) edit ≡ counts edit

pub from_place : {X : Type 0} (xs : List X) (k : ℕ) (d : X) → k < length xs → drop k xs ≡ get_or xs k d ∷ drop (k + 1) xs
from_place [] k d less = absurd (omega (arith, less))
from_place (first ∷ xs) zero d less = refl
from_place (first ∷ xs) (suc k) d less = let next : suc k + 1 ≡ suc (k + 1) = omega arith in from_place xs k d (omega (arith, less)) ∙ ap (λ (n : ℕ). get_or xs k d ∷ drop n (first ∷ xs)) (sym next)

-- the first of them, with its record
abbrev pub given_here : Round → List (List ℕ) → List Capture → GivenRound
given_here round files captures = record { batches = given_batches round.batches files; arrivals = given_arrivals round.capture captures }

abbrev pub files_later : Round → List (List ℕ) → List (List ℕ)
files_later round files = drop (length round.batches) files

pub record HasRecord (all : RoundsLeft) (entries : List Entry) (now : Option (List ℕ)) (left : List ℕ) (number before : ℕ) (files : List (List ℕ)) (its : List RoundRecord) (round : Round) (rounds : List Round) (captures later : List Capture) (workers : ℕ) : Type 0 where
  pub own : RoundRecord
  pub more : List RoundRecord
  pub its_are : its ≡ own ∷ more
  pub each : length own.outcomes ≡ length (given_arrivals round.capture captures)
  pub fit : Each (IsFit workers (length entries)) own.outcomes
  pub rest : AreFit workers (length entries) (rounds_from rounds (files_later round files) later) more
  pub behind : IsBehind all.first now all.whole left (lines_of_rounds number before (own ∷ more) ++ all.lines)
      (text_in (rounds_parts entries number before (given_here round files captures ∷ rounds_from rounds (files_later round files) later) (own ∷ more)) ++ all.rest)

module _ (all : RoundsLeft) (entries : List Entry) (now : Option (List ℕ)) (left : List ℕ) (number before : ℕ) (files : List (List ℕ)) (round : Round) (rounds : List Round) (captures later : List Capture) (workers : ℕ) where
  pub has_record : (its : List RoundRecord) → drop (capture_count round.capture) captures ≡ later → AreRoundsLeft (record all { files = files; its = its }) entries now left number before (round ∷ rounds) captures workers
      → HasRecord all entries now left number before files its round rounds captures later workers
  has_record [] same are = absurd are.fit
  has_record (own ∷ more) same are = record {
    own = own;
    more = more;
    its_are = refl;
    each = are.fit.0;
    fit = are.fit.1;
    rest = subst (λ (cs : List Capture). AreFit workers (length entries) (rounds_from rounds (files_later round files) cs) more) same are.fit.2;
    behind = subst (λ (cs : List Capture). IsBehind all.first now all.whole left (lines_of_rounds number before (own ∷ more) ++ all.lines)
        (text_in (rounds_parts entries number before (given_here round files captures ∷ rounds_from rounds (files_later round files) cs) (own ∷ more)) ++ all.rest)) same are.behind;
  }

  module _ (its : List RoundRecord) (it : HasRecord all entries now left number before files its round rounds captures later workers) where
    -- its packets
    abbrev pub packets_here : PacketsLeft
    packets_here = record {
      first = all.first;
      whole = all.whole;
      outcomes = it.own.outcomes;
      lines = last_line number ∷ lines_behind entries number before (given_here round files captures) (rounds_from rounds (files_later round files) later) it.own it.more all.lines all.rest;
      rest = last_line number ++ text_behind entries number before (given_here round files captures) (rounds_from rounds (files_later round files) later) it.own it.more all.lines all.rest;
    }

    pub are_packets : (hook : Hook) (packets : List Packet) → given_arrivals round.capture captures ≡ arrivals_of hook packets → ArePackets packets_here entries now left 1 hook packets workers
    are_packets hook packets same = record {
      each = it.each ∙ ap length same ∙ length-map packets (λ (packet : Packet). record { hook = hook; packet = packet });
      fit = it.fit;
      behind = subst (λ (came : List Arrival). IsBehind all.first now all.whole left (lines_from 1 it.own.outcomes ++ packets_here.lines) (text_in (packet_parts entries 1 came it.own.outcomes) ++ packets_here.rest)) same
          (at_packets entries number before (given_here round files captures) (rounds_from rounds (files_later round files) later) it.own it.more all.lines all.rest all.first now all.whole left it.behind);
    }

    -- and what follows
    pub next_rounds : (then : Option (List ℕ)) (behind : List ℕ) → IsBehind all.first then all.whole behind packets_here.lines packets_here.rest
        → AreRoundsLeft (record all { files = files_later round files; its = it.more }) entries then behind (number + 1) (before + edits_in (it.own ∷ [])) rounds later workers
    next_rounds then behind is = record {
      fit = it.rest;
      behind = at_next entries number before (given_here round files captures) (rounds_from rounds (files_later round files) later) it.own it.more all.lines all.rest all.first then all.whole behind is;
    }

    pub no_packets : given_arrivals round.capture captures ≡ [] → AreRoundsLeft (record all { files = files_later round files; its = it.more }) entries now left (number + 1) (before + edits_in (it.own ∷ [])) rounds later workers
    no_packets none = record {
      fit = it.rest;
      behind = passed_over entries number before (given_here round files captures) (rounds_from rounds (files_later round files) later) it.own it.more all.lines all.rest all.first now all.whole left none it.each it.behind;
    }

    -- what decided
    pub decided_here : drop (capture_count round.capture) captures ≡ later → (arrivals : List Arrival) → given_arrivals round.capture captures ≡ arrivals → (edit : ℕ)
        → times_in (decisions entries (rounds_from (round ∷ rounds) files captures) its) edit ≡ times_in (decided_by entries arrivals it.own.outcomes) edit + times_in (decisions entries (rounds_from rounds (files_later round files) later) it.more) edit
    decided_here same arrivals are edit =
        ap (λ (rs : List RoundRecord). times_in (decisions entries (rounds_from (round ∷ rounds) files captures) rs) edit) it.its_are
        ∙ sum_by-append _ (decided_by entries (given_arrivals round.capture captures) it.own.outcomes) (decisions entries (rounds_from rounds (files_later round files) (drop (capture_count round.capture) captures)) it.more)
        ∙ ap (λ (came : List Arrival). times_in (decided_by entries came it.own.outcomes) edit + times_in (decisions entries (rounds_from rounds (files_later round files) (drop (capture_count round.capture) captures)) it.more) edit) are
        ∙ ap (λ (cs : List Capture). times_in (decided_by entries arrivals it.own.outcomes) edit + times_in (decisions entries (rounds_from rounds (files_later round files) cs) it.more) edit) same

-- ---- one round more
module _ (all : RoundsLeft) (entries : List Entry) (now : Option (List ℕ)) (left : List ℕ) (number : ℕ) (round : Round) (rounds : List Round) (captures later : List Capture) (workers : ℕ) (tally : List ℕ) (counts : ℕ → ℕ)
    (it : StandsAt all entries now left number (round ∷ rounds) captures workers tally counts) (dropped : drop (capture_count round.capture) captures ≡ later) where
  pub record_here : HasRecord all entries now left number it.before it.files it.its round rounds captures later workers
  record_here = has_record all entries now left number it.before it.files round rounds captures later workers it.its dropped it.are

  -- without packets
  pub none_here : given_arrivals round.capture captures ≡ [] → StandsAt all entries now left (number + 1) rounds later workers tally counts
  none_here none = record {
    before = it.before + edits_in (record_here.own ∷ []);
    files = files_later round it.files;
    its = record_here.more;
    are = no_packets all entries now left number it.before it.files round rounds captures later workers it.its record_here none;
    decided = λ edit.
        let split = decided_here all entries now left number it.before it.files round rounds captures later workers it.its record_here dropped [] none edit in
        let zero : times_in (decided_by entries [] record_here.own.outcomes) edit ≡ 0 = refl in
        let is = it.decided edit in
        omega (arith, split, zero, is);
  }

  -- with packets
  pub all_packets : PacketsLeft
  all_packets = packets_here all entries now left number it.before it.files round rounds captures later workers it.its record_here

  pub some_here : (hook : Hook) (packets : List Packet) → given_arrivals round.capture captures ≡ arrivals_of hook packets → ArePackets all_packets entries now left 1 hook packets workers
  unfolding all_packets
  some_here hook packets same = are_packets all entries now left number it.before it.files round rounds captures later workers it.its record_here hook packets same

  pub up_to_here : (then : Option (List ℕ)) → AppendsUpTo all_packets.first then all_packets.whole → AppendsUpTo all.first then all.whole
  unfolding all_packets
  up_to_here then wrote = wrote

  pub behind_here : (hook : Hook) (packets : List Packet) → given_arrivals round.capture captures ≡ arrivals_of hook packets → (then : Option (List ℕ)) (behind tallied : List ℕ) (many : ℕ) → many ≡ workers
      → IsBehind all_packets.first then all_packets.whole behind all_packets.lines all_packets.rest
      → ((edit : ℕ) → count_at tallied edit ≡ count_at tally edit + times_in (decided_by entries (arrivals_of hook packets) all_packets.outcomes) edit)
      → StandsAt all entries then behind (number + 1) rounds later many tallied counts
  unfolding all_packets
  behind_here hook packets same then behind tallied many as_many is counted = record {
    before = it.before + edits_in (record_here.own ∷ []);
    files = files_later round it.files;
    its = record_here.more;
    are = subst (AreRoundsLeft (record all { files = files_later round it.files; its = record_here.more }) entries then behind (number + 1) (it.before + edits_in (record_here.own ∷ [])) rounds later) (sym as_many)
        (next_rounds all entries now left number it.before it.files round rounds captures later workers it.its record_here then behind is);
    decided = λ edit.
        let split = decided_here all entries now left number it.before it.files round rounds captures later workers it.its record_here dropped (arrivals_of hook packets) same edit in
        let one = counted edit in
        let is = it.decided edit in
        omega (arith, split, one, is);
  }

-- ---- the captures that are left
pub later_short : (P : Capture → Type 0) (capture : Capture) (captures later : List Capture) → captures ≡ capture ∷ later → Each P captures → P capture × Each P later
later_short P capture captures later is each = subst (λ (cs : List Capture). Each P cs) is each

pub later_few : (capture : Capture) (captures later : List Capture) → captures ≡ capture ∷ later → packet_count captures ≡ length capture.packets + packet_count later
later_few capture captures later is = ap packet_count is ∙ sum_by-cons (λ (c : Capture). length c.packets) capture later

pub all_each : {X : Type 0} (P : X → Type 0) (xs : List X) → All P xs → Each P xs
all_each P [] all = tt
all_each P (x ∷ xs) all = (all 0 x (omega arith), all_each P xs (λ i d less. all (suc i) d (omega (arith, less))))

-- the next round is the first of those that are left
pub first_stands : (all : RoundsLeft) (entries : List Entry) (now : Option (List ℕ)) (left : List ℕ) (number : ℕ) (rounds : List Round) (k : ℕ) (round : Round) (captures : List Capture) (workers : ℕ) (tally : List ℕ) (counts : ℕ → ℕ)
    → k < length rounds → round ≡ get_or rounds k round → StandsAt all entries now left number (drop k rounds) captures workers tally counts → StandsAt all entries now left number (round ∷ drop (k + 1) rounds) captures workers tally counts
first_stands all entries now left number rounds k round captures workers tally counts less is it =
    subst (λ (rs : List Round). StandsAt all entries now left number rs captures workers tally counts) (from_place rounds k round less ∙ ap (λ (r : Round). r ∷ drop (k + 1) rounds) (sym is)) it

-- all of them are left
pub all_stand : (all : RoundsLeft) (entries : List Entry) (now : Option (List ℕ)) (left : List ℕ) (rounds given : List Round) (captures held : List Capture) (workers : ℕ) (tally : List ℕ) → given ≡ rounds → held ≡ captures
    → ((edit : ℕ) → count_at tally edit ≡ 0) → AreRoundsLeft all entries now left 1 0 rounds captures workers
    → StandsAt all entries now left 1 given held workers tally (λ edit. times_in (decisions entries (rounds_from rounds all.files captures) all.its) edit)
all_stand all entries now left rounds given captures held workers tally same_rounds same_captures none are =
    subst (λ (rs : List Round). StandsAt all entries now left 1 rs held workers tally counts) (sym same_rounds)
    (subst (λ (cs : List Capture). StandsAt all entries now left 1 rounds cs workers tally counts) (sym same_captures) (record {
      before = 0;
      files = all.files;
      its = all.its;
      are = record { fit = are.fit; behind = are.behind };
      decided = λ edit. (let zero = none edit in omega (arith, zero));
    }))
  where
    counts : ℕ → ℕ
    counts = λ edit. times_in (decisions entries (rounds_from rounds all.files captures) all.its) edit

-- none is left
pub none_stand : (all : RoundsLeft) (entries : List Entry) (now : Option (List ℕ)) (left : List ℕ) (number : ℕ) (rounds : List Round) (captures : List Capture) (workers : ℕ) (tally : List ℕ) (counts : ℕ → ℕ) (k : ℕ) → length rounds ≤ k
    → StandsAt all entries now left number (drop k rounds) captures workers tally counts → IsBehind all.first now all.whole left all.lines all.rest × ((edit : ℕ) → count_at tally edit ≡ counts edit)
none_stand all entries now left number rounds captures workers tally counts k past it =
    by_rest (subst (λ (rs : List Round). StandsAt all entries now left number rs captures workers tally counts) (drop_all k rounds past) it)
  where
    by_its : (its : List RoundRecord) (before : ℕ) (files : List (List ℕ)) → AreRoundsLeft (record all { files = files; its = its }) entries now left number before [] captures workers
        → ((edit : ℕ) → count_at tally edit + times_in (decisions entries (rounds_from [] files captures) its) edit ≡ counts edit)
        → IsBehind all.first now all.whole left all.lines all.rest × ((edit : ℕ) → count_at tally edit ≡ counts edit)
    by_its [] before files are decided = (are.behind, λ edit. (let zero : times_in [] edit ≡ 0 = refl in let is = decided edit in omega (arith, zero, is)))
    by_its (own ∷ its) before files are decided = absurd are.fit

    by_rest : StandsAt all entries now left number [] captures workers tally counts → IsBehind all.first now all.whole left all.lines all.rest × ((edit : ℕ) → count_at tally edit ≡ counts edit)
    by_rest it = by_its it.its it.before it.files it.are it.decided
