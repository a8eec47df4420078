-- A round of a report, from its first line to its last.
use Rattle.std.proofs.Common.{◌≡◌, ◌∙◌, ℕ, zero, suc, ◌+◌, ◌-◌, ◌<◌, ◌≤◌, List, [], ◌∷◌, ◌++◌, length, take, Option, Some, None, refl, sym, ap, subst, arith, append-nil, inr}
use Rattle.std.specs.Prelude.{slice_get, codes}
use Rattle.std.proofs.lemmas.List.{length-append, length-map, take-append-le}
use Rattle.std.proofs.lemmas.List.Concat.{flat_map-append}
use Rattle.std.proofs.lemmas.List.Sums.{sum_by-append, sum_by-cons}
use Rattle.edit_lines.specs.declared.line.LinePlace.{LinePlace}
use Rattle.pcap_io.specs.declared.capture.Packet.{Packet}
use Rattle.pcap_io.specs.declared.capture.Capture.{Capture}
use Rattle.filter_state.specs.declared.edit.Edit.{Edit}
use Rattle.filter_state.specs.States.{no_state}
use Rattle.filter_state.specs.Journals.{state_from, state_at}
use Rattle.filter_lists.specs.Spells.{Spells}
use Rattle.job_lines.specs.declared.job.CaptureName.{CaptureName}
use Rattle.job_lines.specs.declared.job.Round.{Round}
use Rattle.run_report.specs.declared.outcomes.Outcome.{Outcome}
use Rattle.run_report.specs.declared.rounds.RoundRecord.{RoundRecord}
use Rattle.run_report.specs.Counts.{accepted_count, edits_in, events_in}
use Rattle.run_report.specs.Reports.{numbered_line}
use Rattle.lawful_runs.specs.declared.loaded.LoadedJob.{LoadedJob}
use Rattle.lawful_runs.specs.Given.{GivenRound, IsLoaded, given_rounds, capture_count, captures_named, packet_count}
use Rattle.lawful_runs.specs.Lawful.{outcomes_in}
use Rattle.report_laws.specs.Stands.{opening, inside, no_round, settled, settled_at, Takes}
use Rattle.report_laws.specs.OfWholePaths.FirstBadLines.{IsOpen}
use Rattle.report_laws.proofs.Paths.{outcomes_push}
use Rattle.report_laws.proofs.Texts.{edits_append, edits_cons}
use Rattle.report_laws.proofs.OfNextLines.NextOutcomes.{takes_end_alone}
use Rattle.report_check.specs.declared.events.cursor.Cursor.{Cursor}
use Rattle.journal_replay.specs.declared.replay.Replay.{Replay}
use Rattle.tool_words.specs.declared.reason.Reason.TheVariants as reasons
use Rattle.report_check.specs.Reasons.{IsReason}
use Rattle.report_check.specs.OfEvents.Cursors.{IsAt, MustBe}
use Rattle.journal_replay.specs.Placed.{places_of, places_in}
use Rattle.report_check.specs.OfEvents.Told.{HasBegun, AreOver}
use Rattle.report_check.specs.declared.rounds.Progress.{Progress}
use Rattle.report_check.specs.declared.walkers.Walkers.{Walkers}
use Rattle.report_check.specs.Walked.{AreWalkers}
use Rattle.report_check.specs.Rounds.{ToldRound, journal_of, record_with, stand_with, IsToldRound, AreWalked, IsAtPackets}
use Rattle.report_check.specs.Between.{IsBetween, IsAtCapture}
use Rattle.report_check.proofs.Captures.{captures_next, packets_next, capture_within, arrivals_none, arrivals_some, given_there}

pub got_at : {X : Type 0} (xs : List X) (k : ℕ) → k < length xs → (x : X) × (slice_get xs k ≡ Some x)
got_at [] k less = absurd (omega (arith, less))
got_at (x ∷ xs) zero less = (x, refl)
got_at (x ∷ xs) (suc k) less = got_at xs k (omega (arith, less))

-- ---- the first line
pub record IsOpening (loaded : LoadedJob) (bytes : List ℕ) (number : ℕ) (its : List RoundRecord) (journal : List Edit) (cursor : Cursor) : Type 0 where
  pub round : Round
  pub given : GivenRound
  pub there_job : slice_get loaded.job.rounds (number - 1) ≡ Some round
  pub there : slice_get (given_rounds loaded) (length its) ≡ Some given
  pub number_is : number ≡ length its + 1
  pub is_at : IsAt loaded bytes cursor (opening its journal)

pub is_opening : (loaded : LoadedJob) (bytes : List ℕ) (number : ℕ) (progress : Progress) → 1 ≤ number → number ≤ length loaded.job.rounds → (b : IsBetween loaded bytes (number - 1) progress)
    → IsOpening loaded bytes number b.its progress.replay.journal.items progress.cursor
is_opening loaded bytes number progress low high b =
    let round = got_at loaded.job.rounds (number - 1) (omega (arith, low, high)) in
    let given = given_there loaded.job.rounds loaded.batches loaded.captures (number - 1) round.0 round.1 in
    let count = b.count_is in
    let there : slice_get (given_rounds loaded) (length b.its) ≡ Some given.0 = ap (slice_get (given_rounds loaded)) count ∙ given.1 in
    record {
      round = round.0;
      given = given.0;
      there_job = round.1;
      there = there;
      number_is = omega (arith, count, low);
      is_at = subst (IsAt loaded bytes progress.cursor) (ap (λ (o : Option GivenRound). settled_at o b.its progress.replay.journal.items) there) b.is_at;
    }

pub opening_open : (its : List RoundRecord) (journal : List Edit) → IsOpen (opening its journal)
opening_open its journal = λ run others is. cc is

pub first_must_be : (loaded : LoadedJob) (bytes : List ℕ) (cursor : Cursor) (its : List RoundRecord) (journal : List Edit) (number : ℕ) → number ≡ length its + 1 → MustBe loaded bytes cursor (opening its journal) (numbered_line (codes "round ") number)
first_must_be loaded bytes cursor its journal number is = λ line next is_next takes. takes.0 ∙ ap (numbered_line (codes "round ")) (sym is)

pub first_takes : (loaded : LoadedJob) (its : List RoundRecord) (journal : List Edit) (number : ℕ) → number ≡ length its + 1 → Takes loaded (opening its journal) (numbered_line (codes "round ") number) (inside its journal no_round [])
first_takes loaded its journal number is = (ap (numbered_line (codes "round ")) is, refl)

pub has_begun : (loaded : LoadedJob) (bytes : List ℕ) (number : ℕ) (progress : Progress) (b : IsBetween loaded bytes (number - 1) progress) (o : IsOpening loaded bytes number b.its progress.replay.journal.items progress.cursor) (now : Cursor)
    → IsAt loaded bytes now (inside b.its progress.replay.journal.items no_round []) → now.line ≡ progress.cursor.line + 1 → HasBegun loaded bytes number b.its o.given now progress.replay
has_begun loaded bytes number progress b o now at line = record {
  of = record { there = o.there; number_is = o.number_is; edits = b.edits };
  is_at = at;
  kept = b.kept;
  fewer = (let few = b.fewer in omega (arith, few, line));
}

-- ---- behind the events
module _ (loaded : LoadedJob) (bytes : List ℕ) (its : List RoundRecord) (given : GivenRound) (first : Replay) (cursor : Cursor) (replay : Replay) (over : AreOver loaded bytes its given first cursor replay) where
  abbrev pub told_of : ToldRound
  told_of = record { loaded = loaded; its = its; round = given; before = first.journal.items; events = over.told.it.events; edits = over.told.edits }

  pub is_told : IsLoaded loaded → slice_get (given_rounds loaded) (length its) ≡ Some given → IsToldRound told_of replay
  is_told is there = record { is_loaded = is; there = there; none = over.none; order = over.order; kept = over.told.kept; journal_is = over.told.journal_is }

  longer_at : (at : ℕ) → at ≤ length first.journal.items → state_at at (first.journal.items ++ over.told.edits) ≡ state_at at first.journal.items
  longer_at at within = ap (state_from no_state) (take-append-le at first.journal.items over.told.edits within)

  pub walked_none : (walkers : Walkers) → AreWalkers loaded.job.workers first.journal.items (outcomes_in its) walkers → AreWalked told_of bytes cursor walkers 0
  walked_none walkers are = record {
    outcomes = [];
    is_at = subst (λ (os : List Outcome). IsAt loaded bytes cursor (inside its first.journal.items (record { events = over.told.it.events; outcomes = os }) over.told.edits)) over.told.unwalked over.told.is_at;
    place_is = refl;
    are = subst (λ (os : List Outcome). AreWalkers loaded.job.workers (first.journal.items ++ over.told.edits) os walkers) (sym (append-nil (outcomes_in its))) (record {
      many = are.many;
      stand = λ index walker is.
          let it = are.stand index walker is in
          let within = it.within in
          let sum = length-append first.journal.items over.told.edits in
          record { seen = it.seen; early = it.early; within = omega (arith, within, sum); spells = subst (Spells walker.lists) (sym (longer_at walker.at within)) it.spells };
      counts = are.counts;
      short = are.short;
      passed = are.passed;
      all = are.all;
    });
  }

  pub at_capture : IsLoaded loaded → slice_get (given_rounds loaded) (length its) ≡ Some given → (number : ℕ) (walkers : Walkers) (least : ℕ) → number ≡ length its + 1 → AreWalkers loaded.job.workers first.journal.items (outcomes_in its) walkers
      → least ≡ length first.journal.items → IsAtCapture told_of loaded bytes number cursor replay walkers least
  at_capture is there number walkers least count are before = record { loaded_is = refl; number_is = count; of = is_told is there; walked = walked_none walkers are; before_is = before }

-- ---- the last line
module _ (told : ToldRound) (replay : Replay) (of : IsToldRound told replay) (outcomes : List Outcome) (each : length outcomes ≡ length told.round.arrivals) where
  pub last_takes : (number : ℕ) → number ≡ length told.its + 1
      → Takes told.loaded (stand_with told outcomes) (numbered_line (codes "end round ") number) (settled told.loaded (told.its ++ (record_with told outcomes ∷ [])) (journal_of told))
  last_takes number is =
      (told.round, of.there, inr (inr (record { whole = record { all = of.order; each = each }; text = ap (numbered_line (codes "end round ")) is; then = refl })))

  pub last_must_be : (bytes : List ℕ) (cursor : Cursor) (number : ℕ) → number ≡ length told.its + 1 → MustBe told.loaded bytes cursor (stand_with told outcomes) (numbered_line (codes "end round ") number)
  last_must_be bytes cursor number is = λ line next is_next takes.
      (takes_end_alone told.loaded told.round told.its told.before (record_with told outcomes) told.edits of.is_loaded of.there line next of.none each takes).0 ∙ ap (numbered_line (codes "end round ")) (sym is)

  pub last_reason : (line : List ℕ) → IsReason told.loaded (stand_with told outcomes) line reasons.Round
  last_reason line = (told.round, of.there, inr (inr (record { all = of.order; each = each }, refl)))

-- ---- the packets of captures
pub packets_on : (loaded : LoadedJob) (k captures : ℕ) (round : Round) (given : GivenRound) → IsLoaded loaded → slice_get loaded.job.rounds k ≡ Some round → slice_get (given_rounds loaded) k ≡ Some given → captures ≡ captures_named (take k loaded.job.rounds)
    → packet_count (take (captures + capture_count round.capture) loaded.captures) ≡ packet_count (take captures loaded.captures) + length given.arrivals
packets_on loaded k captures round given is there here count = by_capture round.capture refl
  where
    by_capture : (c : Option CaptureName) → round.capture ≡ c → packet_count (take (captures + capture_count c) loaded.captures) ≡ packet_count (take captures loaded.captures) + length given.arrivals
    by_capture None none =
        let empty = ap length (arrivals_none loaded k round given there here none) in
        let same : captures + 0 ≡ captures = omega arith in
        ap (λ (n : ℕ). packet_count (take n loaded.captures)) same ∙ (let whole : packet_count (take captures loaded.captures) ≡ packet_count (take captures loaded.captures) + length given.arrivals = omega (arith, empty) in whole)
    by_capture (Some name) named =
        let within = capture_within loaded k round name is there named in
        let held = got_at loaded.captures (captures_named (take k loaded.job.rounds)) within in
        let many = ap length (arrivals_some loaded k round given name held.0 there here named held.1) ∙ length-map held.0.packets (λ (p : Packet). record { hook = name.hook; packet = p }) in
        let next = packets_next loaded.captures captures held.0 (ap (slice_get loaded.captures) count ∙ held.1) in
        next ∙ ap (λ (n : ℕ). packet_count (take captures loaded.captures) + n) (sym many)

-- ---- counts of rounds
events_push : (its : List RoundRecord) (it : RoundRecord) → events_in (its ++ (it ∷ [])) ≡ events_in its + length it.events
events_push its it =
    let sum = sum_by-append (λ (r : RoundRecord). length r.events) its (it ∷ []) in
    let one = sum_by-cons (λ (r : RoundRecord). length r.events) it [] in
    let none : events_in [] ≡ 0 = refl in
    omega (arith, sum, one, none)

edits_push : (its : List RoundRecord) (it : RoundRecord) → edits_in (its ++ (it ∷ [])) ≡ edits_in its + accepted_count it.events
edits_push its it =
    let sum = edits_append its (it ∷ []) in
    let one = edits_cons it [] in
    let none : edits_in [] ≡ 0 = refl in
    omega (arith, sum, one, none)

places_push : (its : List RoundRecord) (it : RoundRecord) → places_in (its ++ (it ∷ [])) ≡ places_in its ++ places_of it.events
places_push its it =
    flat_map-append (λ (r : RoundRecord). places_of r.events) its (it ∷ []) ∙ ap (λ (ps : List LinePlace). places_in its ++ ps) (append-nil (places_of it.events))

-- ---- behind the last line
pub is_between : (loaded : LoadedJob) (bytes : List ℕ) (number : ℕ) (progress : Progress) (b : IsBetween loaded bytes (number - 1) progress) (o : IsOpening loaded bytes number b.its progress.replay.journal.items progress.cursor) (behind : Cursor) (replay : Replay)
    (over : AreOver loaded bytes b.its o.given progress.replay behind replay) (walkers : Walkers) (later end : Cursor) → IsLoaded loaded → 1 ≤ number
    → (walked : AreWalked (told_of loaded bytes b.its o.given progress.replay behind replay over) bytes later walkers (length o.given.arrivals))
    → IsAt loaded bytes end (settled loaded (b.its ++ (record_with (told_of loaded bytes b.its o.given progress.replay behind replay over) walked.outcomes ∷ [])) (progress.replay.journal.items ++ over.told.edits))
    → behind.line ≤ end.line → (captures : ℕ) → captures ≡ progress.captures + capture_count o.round.capture
    → IsBetween loaded bytes number (record { cursor = end; replay = replay; walkers = walkers; captures = captures })
is_between loaded bytes number progress b o behind replay over walkers later end is low walked at onward captures more =
    let told = told_of loaded bytes b.its o.given progress.replay behind replay over in
    let it = record_with told walked.outcomes in
    let its = b.its ++ (it ∷ []) in
    let count = length-append b.its (it ∷ []) in
    let number_is = o.number_is in
    let pushed = edits_push b.its it in
    let accepted = over.told.accepted in
    let long = ap length over.told.journal_is in
    let sum = length-append progress.replay.journal.items over.told.edits in
    let before = b.edits in
    let grown = events_push b.its it in
    let refused = over.told.refused in
    let earlier = b.refused in
    let few = over.told.fewer in
    let own : slice_get loaded.job.rounds (number - 1) ≡ Some o.round = o.there_job in
    let at_number : slice_get (given_rounds loaded) (number - 1) ≡ Some o.given = ap (slice_get (given_rounds loaded)) (let c = b.count_is in sym c) ∙ o.there in
    let next = captures_next loaded.job.rounds (number - 1) o.round own in
    let one : number - 1 + 1 ≡ number = omega (arith, low) in
    let packets = packets_on loaded (number - 1) progress.captures o.round o.given is own at_number b.captures_is in
    let none = walked_none loaded bytes b.its o.given progress.replay behind replay over in
    let walked_count = walked.are.all in
    let earlier_count = b.are.all in
    let all = length-append (outcomes_in b.its) walked.outcomes in
    let each = walked.place_is in
    let held = b.packets_is in
    record {
      its = its;
      count_is = omega (arith, count, number_is);
      is_at = subst (λ (es : List Edit). IsAt loaded bytes end (settled loaded its es)) (sym over.told.journal_is) at;
      kept = over.told.kept;
      placed = over.told.placed ∙ ap (λ (ps : List LinePlace). ps ++ places_of over.told.it.events) b.placed ∙ sym (places_push b.its it);
      edits = omega (arith, pushed, accepted, long, sum, before);
      refused = omega (arith, pushed, accepted, before, grown, refused, earlier);
      fewer = omega (arith, few, onward);
      are = subst (λ (os : List Outcome). AreWalkers loaded.job.workers replay.journal.items os walkers) (sym (outcomes_push b.its it)) (subst (λ (es : List Edit). AreWalkers loaded.job.workers es (outcomes_in b.its ++ walked.outcomes) walkers) (sym over.told.journal_is) walked.are);
      captures_is = more ∙ ap (λ (n : ℕ). n + capture_count o.round.capture) b.captures_is ∙ sym next ∙ ap (λ (n : ℕ). captures_named (take n loaded.job.rounds)) one;
      packets_is = (let whole : walkers.passed + walkers.dropped ≡ packet_count (take progress.captures loaded.captures) + length o.given.arrivals = omega (arith, walked_count, earlier_count, all, each, held) in
          whole ∙ sym packets ∙ ap (λ (n : ℕ). packet_count (take n loaded.captures)) (sym more));
    }

-- ---- the packets of a round with a capture
same_place : (number n : ℕ) → number ≡ n + 1 → number - 1 ≡ n
same_place number n is = omega (arith, is)

here_given : (told : ToldRound) (loaded : LoadedJob) (bytes : List ℕ) (number : ℕ) (cursor : Cursor) (replay : Replay) (walkers : Walkers) (least : ℕ) → IsAtCapture told loaded bytes number cursor replay walkers least
    → slice_get (given_rounds loaded) (number - 1) ≡ Some told.round
here_given told loaded bytes number cursor replay walkers least it =
    ap (slice_get (given_rounds loaded)) (same_place number (length told.its) it.number_is) ∙ ap (λ (l : LoadedJob). slice_get (given_rounds l) (length told.its)) (sym it.loaded_is) ∙ it.of.there

pub are_packets : (told : ToldRound) (loaded : LoadedJob) (bytes : List ℕ) (number : ℕ) (cursor : Cursor) (replay : Replay) (walkers : Walkers) (least captures : ℕ) (round : Round) (name : CaptureName) (capture : Capture)
    → IsAtCapture told loaded bytes number cursor replay walkers least → slice_get loaded.job.rounds (number - 1) ≡ Some round → round.capture ≡ Some name → captures ≡ captures_named (take (number - 1) loaded.job.rounds)
    → slice_get loaded.captures captures ≡ Some capture → IsAtPackets told bytes cursor replay walkers least name.hook capture.packets
are_packets told loaded bytes number cursor replay walkers least captures round name capture it there named count held = record {
  of = it.of;
  walked = it.walked;
  arrivals = arrivals_some loaded (number - 1) round told.round name capture there (here_given told loaded bytes number cursor replay walkers least it) named (ap (slice_get loaded.captures) (sym count) ∙ held);
  before_is = it.before_is;
}

pub none_arrive : (told : ToldRound) (loaded : LoadedJob) (bytes : List ℕ) (number : ℕ) (cursor : Cursor) (replay : Replay) (walkers : Walkers) (least : ℕ) (round : Round) → IsAtCapture told loaded bytes number cursor replay walkers least
    → slice_get loaded.job.rounds (number - 1) ≡ Some round → round.capture ≡ None → AreWalked told bytes cursor walkers (length told.round.arrivals)
none_arrive told loaded bytes number cursor replay walkers least round it there none =
    subst (AreWalked told bytes cursor walkers) (sym (ap length (arrivals_none loaded (number - 1) round told.round there (here_given told loaded bytes number cursor replay walkers least it) none))) it.walked

pub all_arrived : (told : ToldRound) (bytes : List ℕ) (first cursor : Cursor) (replay : Replay) (before walkers : Walkers) (least : ℕ) (name : CaptureName) (capture : Capture) → IsAtPackets told bytes first replay before least name.hook capture.packets
    → AreWalked told bytes cursor walkers (length capture.packets) → AreWalked told bytes cursor walkers (length told.round.arrivals)
all_arrived told bytes first cursor replay before walkers least name capture it walked =
    subst (AreWalked told bytes cursor walkers) (sym (ap length it.arrivals ∙ length-map capture.packets (λ (p : Packet). record { hook = name.hook; packet = p }))) walked
