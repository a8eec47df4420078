-- The events of a round, one line after the other.
use Rattle.std.proofs.Common.{◌≡◌, ◌∙◌, ℕ, zero, suc, ◌+◌, ◌-◌, ◌<◌, ◌≤◌, Bool, true, false, List, [], ◌∷◌, ◌++◌, length, Option, Some, None, refl, sym, ap, subst, arith, append_assoc, append-nil, ◌⊎◌, inl, inr}
use Rattle.std.specs.Prelude.{◌||◌, if◌then◌else◌, replicate, nat_lt, is_some, map, filter}
use Rattle.std.specs.Option.{IfNone}
use Rattle.std.proofs.lemmas.Bool.Decides.{nat_tests}
use Rattle.std.specs.List.{slice_get}
use Rattle.std.proofs.lemmas.List.{length-append, map-append}
use Rattle.std.proofs.lemmas.List.Elements.{filter-append}
use Rattle.std.proofs.lemmas.List.Sums.{sum_by-cons}
use Rattle.edit_lines.specs.declared.line.LinePlace.{LinePlace}
use Rattle.tc_words.specs.Lines.{words_of}
use Rattle.filter_state.specs.declared.edit.Edit.{Edit}
use Rattle.filter_state.specs.States.{no_state}
use Rattle.filter_state.specs.Journals.{state_from}
use Rattle.filter_state.proofs.Places.{each_at}
use Rattle.batch_run.specs.Commands.{Command, commands_of}
use Rattle.pcap_io.specs.declared.capture.Capture.{Capture}
use Rattle.job_lines.specs.declared.job.Round.{Round}
use Rattle.run_report.specs.declared.events.Event.{Event}
use Rattle.run_report.specs.declared.events.EventKind.{EventKind}
use Rattle.run_report.specs.declared.events.EventKind.TheVariants as kinds
use Rattle.run_report.specs.declared.rounds.RoundRecord.{RoundRecord}
use Rattle.run_report.specs.Counts.{is_accepted, accepted_count, edits_in}
use Rattle.run_report.specs.EventTexts.{event_line}
use Rattle.lawful_runs.specs.declared.loaded.LoadedJob.{LoadedJob}
use Rattle.lawful_runs.specs.Given.{GivenBatch, GivenRound, IsLoaded, given_rounds, rounds_from}
use Rattle.lawful_runs.specs.Events.{IsAmong, GoesOn, IsResult, events_of}
use Rattle.lawful_runs.proofs.GivenCommands.{AreGiven, all_given, one_batch}
use Rattle.lawful_runs.proofs.Results.{result_counted}
use Rattle.round_terms.specs.declared.place.Place.{Place}
use Rattle.round_terms.specs.Files.{RoundFile, files_of, given_of, batches_of}
use Rattle.round_terms.specs.Places.{left_at}
use Rattle.round_terms.specs.Coming.{HasCome, ComesOn}
use Rattle.round_terms.specs.Underway.{IsUnderway, IsMet}
use Rattle.round_terms.specs.Turns.{IsLineFor, HasNoLine, AreWithin, moved_on}
use Rattle.round_terms.proofs.Counting.{given_at, file_at}
use Rattle.round_terms.proofs.JobFiles.{are_files, given_is}
use Rattle.round_terms.proofs.Turning.{placed_there, left_found}
use Rattle.round_terms.proofs.Standing.{line_turned, all_within}
use Rattle.round_terms.proofs.Beginning.{start_place, begins_with}
use Rattle.report_laws.specs.Begun.{IsBegun, AreBegun}
use Rattle.report_laws.specs.Stands.{Stand, start, inside, closing, no_round, with_event, Takes}
use Rattle.report_laws.specs.OfWholePaths.FirstBadLines.{IsOpen}
use Rattle.report_laws.specs.OfNextLines.Left.{next_of, next_in, IsLeft, NoneLeft, IsNextOf}
use Rattle.report_laws.proofs.Deciding.{one_kind}
use Rattle.report_laws.proofs.Paths.{path_append}
use Rattle.report_laws.proofs.Texts.{accepted_append}
use Rattle.report_laws.proofs.OnePath.{path_grows}
use Rattle.report_laws.proofs.ShortJournals.{journal_few}
use Rattle.report_laws.proofs.OfWholePaths.Completing.{completes}
use Rattle.report_laws.proofs.OfWholePaths.Reached.{run_of_path}
use Rattle.report_laws.proofs.OfNextLines.Next.{all_told}
use Rattle.report_laws.proofs.OfNextLines.NextLines.{takes_next, takes_no_other}
use Rattle.report_check.specs.declared.events.cursor.Cursor.{Cursor}
use Rattle.journal_replay.specs.declared.replay.Replay.{Replay}
use Rattle.report_check.specs.declared.events.events.NamedLine.{NamedLine}
use Rattle.tool_words.specs.declared.reason.Reason.TheVariants as reasons
use Rattle.report_check.specs.Reasons.{IsReason, NamesNoBatch}
use Rattle.report_check.specs.OfEvents.Blanks.{control_in}
use Rattle.report_check.specs.OfEvents.Cursors.{IsAt, IsNextLine, IsRefused, MustBe}
use Rattle.journal_replay.specs.Placed.{place_of, places_of}
use Rattle.journal_replay.specs.Replays.{IsKept}
use Rattle.report_check.specs.OfEvents.Lines.{NamesNone, SomeLeft, TellsNone, NoLines}
use Rattle.report_check.specs.OfEvents.Told.{IsRoundAt, HasBegun, AreTold, GoOn, AreOver, IsTurn}
use Rattle.report_check.proofs.OfEvents.Parts.{event_named}

-- ---- commands that are met are begun, and the first that is left is next
begun_on : (b force : Bool) (commands : List Command) (events : List Event) (left : List Command) → (HasCome force commands events left → IsBegun force commands events) → ComesOn b (HasCome force commands events left) events left
    → GoesOn b (IsBegun force commands events) events
begun_on true force commands events left rest on = rest on
begun_on false force commands events left rest on = on.0

come_begun : (force : Bool) (commands : List Command) (events : List Event) (left : List Command) → HasCome force commands events left → IsBegun force commands events
come_begun force [] [] left come = tt
come_begun force [] (event ∷ events) left come = absurd come
come_begun force (command ∷ commands) [] left come = tt
come_begun force (command ∷ commands) (event ∷ events) left come =
    (come.0, begun_on (force || is_accepted event.kind) force commands events left (λ it. come_begun force commands events left it) come.1)

abbrev first_of : List Command → Option Command
first_of [] = None
first_of (command ∷ left) = Some command

next_on : (b force : Bool) (commands : List Command) (events : List Event) (left : List Command) → (HasCome force commands events left → next_of force commands events ≡ first_of left) → ComesOn b (HasCome force commands events left) events left
    → (if b then next_of force commands events else None) ≡ first_of left
next_on true force commands events left rest on = rest on
next_on false force commands events left rest on = ap first_of (sym on.1)

come_next : (force : Bool) (commands : List Command) (events : List Event) (left : List Command) → HasCome force commands events left → next_of force commands events ≡ first_of left
come_next force [] [] left come = ap first_of (sym come)
come_next force [] (event ∷ events) left come = absurd come
come_next force (command ∷ commands) [] left come = ap first_of (sym come)
come_next force (command ∷ commands) (event ∷ events) left come =
    next_on (force || is_accepted event.kind) force commands events left (λ it. come_next force commands events left it) come.1

-- ---- the controls of a round
-- the batch of a control, with its next command
record IsOwn (files : List RoundFile) (events : List Event) (control : ℕ) (text : List ℕ) (line : ℕ) : Type 0 where
  file : RoundFile
  among : IsAmong (given_of file) (batches_of files)
  by : file.control ≡ control
  next : next_in events (given_of file) ≡ Some (record { line = line; words = words_of text })

module _ {files : List RoundFile} {controls : ℕ} {before journal : List Edit} {events : List Event} {places : List Place} where
  all_begun : IsUnderway files controls before journal events places → AreBegun (batches_of files) events
  all_begun under = λ batch among.
      let it = file_at files among.0 batch among.1 in
      let p = under.placed it.at it.file it.there in
      subst (λ (b : GivenBatch). IsBegun b.force b.commands (events_of b.control events)) it.same
      (come_begun it.file.force (commands_of it.file.bytes) (events_of it.file.control events) (left_at it.file.bytes p.place) p.come)

  own_next : IsUnderway files controls before journal events places → (control : ℕ) (text : List ℕ) (line next : ℕ) (force : Bool) → IsLineFor files places control text line next force → IsOwn files events control text line
  own_next under control text line next force (file, place, more, is) =
      let here = more.stands in
      let own : slice_get places (file.control - 1) ≡ Some place = ap (λ (n : ℕ). slice_get places (n - 1)) here.control_is ∙ here.place_is in
      let there = placed_there files controls before journal events places here.at file place under here.file_is own in
      record {
        file = file;
        among = (here.at, given_at files here.at file here.file_is);
        by = here.control_is;
        next = come_next file.force (commands_of file.bytes) (events_of file.control events) (left_at file.bytes place) there.2 ∙ ap first_of (left_found file place text line next more.going more.found);
      }

  -- a control without a line has none
  own_none : IsUnderway files controls before journal events places → (at : ℕ) (file : RoundFile) → slice_get files at ≡ Some file → HasNoLine files places file.control → next_in events (given_of file) ≡ None
  own_none under at file is none =
      let p = under.placed at file is in
      let left = none file p.place (record { at = at; file_is = is; control_is = refl; place_is = p.there }) in
      come_next file.force (commands_of file.bytes) (events_of file.control events) (left_at file.bytes p.place) p.come ∙ ap first_of left

-- ---- the round that is told
round_count : (rounds : List Round) (files : List (List ℕ)) (captures : List Capture) → length (rounds_from rounds files captures) ≡ length rounds
round_count [] files captures = refl
round_count (round ∷ rounds) files captures = ap suc (round_count rounds _ _)

pub got_within : {X : Type 0} (xs : List X) (n : ℕ) (x : X) → slice_get xs n ≡ Some x → n < length xs
got_within [] n x is = absurd (cc is)
got_within (first ∷ xs) zero x is = omega arith
got_within (first ∷ xs) (suc n) x is = let rest = got_within xs n x is in omega (arith, rest)

pub round_within : (loaded : LoadedJob) (number : ℕ) (its : List RoundRecord) (round : GivenRound) (before : List Edit) → IsRoundAt loaded number its round before → (1 ≤ number) × (number ≤ length loaded.job.rounds)
round_within loaded number its round before of =
    let within = got_within (given_rounds loaded) (length its) round of.there in
    let count = round_count loaded.job.rounds loaded.batches loaded.captures in
    let is = of.number_is in
    (omega (arith, is), omega (arith, within, count, is))

before_one : (n : ℕ) → n + 1 - 1 ≡ n
before_one n = omega arith

same_batches : (loaded : LoadedJob) (number : ℕ) (its : List RoundRecord) (round : GivenRound) (before : List Edit) → IsRoundAt loaded number its round before → round.batches ≡ batches_of (files_of loaded number)
same_batches loaded number its round before of =
    given_is loaded number round (ap (λ (n : ℕ). slice_get (given_rounds loaded) n) (ap (λ (n : ℕ). n - 1) of.number_is ∙ before_one (length its)) ∙ of.there)

-- a journal of a path has no more edits than a run has commands
pub short_journal : (loaded : LoadedJob) (bytes : List ℕ) (cursor : Cursor) (its : List RoundRecord) (before : List Edit) (it : RoundRecord) (edits : List Edit) → IsLoaded loaded → IsAt loaded bytes cursor (inside its before it edits)
    → length (before ++ edits) ≤ 262144
short_journal loaded bytes cursor its before it edits is at =
    let whole = completes loaded (inside its before it edits) at.lines is at.path in
    let grows = path_grows loaded (inside its before it edits) (closing whole.run whole.journal []) whole.more whole.path in
    let ran = run_of_path loaded whole.run whole.journal (at.lines ++ whole.more) (path_append loaded start (inside its before it edits) (closing whole.run whole.journal []) at.lines whole.more at.path whole.path) in
    let few = journal_few loaded whole.run whole.journal is ran.0 in
    omega (arith, grows, few)

-- ---- counts
split_one : (b : Bool) → (if b then 1 else 0) + (if b then 0 else 1) ≡ 1
split_one true = refl
split_one false = refl

accepted_one : (event : Event) → accepted_count (event ∷ []) ≡ (if is_accepted event.kind then 1 else 0)
accepted_one event =
    let one : accepted_count (event ∷ []) ≡ (if is_accepted event.kind then 1 else 0) + accepted_count [] = sum_by-cons (λ (e : Event). if is_accepted e.kind then 1 else 0) event [] in
    let none : accepted_count [] ≡ 0 = refl in
    omega (arith, one, none)

event_from : (one other : Event) → one.control ≡ other.control → one.line ≡ other.line → one.kind ≡ other.kind → one ≡ other
event_from one other control line kind =
    ap (λ (n : ℕ). record { control = n; line = one.line; kind = one.kind }) control
    ∙ ap (λ (n : ℕ). record { control = other.control; line = n; kind = one.kind }) line
    ∙ ap (λ (k : EventKind). record { control = other.control; line = other.line; kind = k }) kind

pub unended : (its : List RoundRecord) (before : List Edit) (it : RoundRecord) (edits : List Edit) → IsOpen (inside its before it edits)
unended its before it edits = λ run journal is. cc is

-- ---- where the accepted edits were read
pub places_append : (xs ys : List Event) → places_of (xs ++ ys) ≡ places_of xs ++ places_of ys
places_append xs ys =
    let kept : Event → Bool = λ (e : Event). is_accepted e.kind in
    ap (map place_of) (filter-append kept xs ys) ∙ map-append place_of (filter kept xs) (filter kept ys)

-- a line adds its place where its edit is accepted
pub placed_one : (kind : EventKind) (control line : ℕ) (old new : List LinePlace) → (is_accepted kind ≡ true → new ≡ old ++ (record { control = control; line = line } ∷ [])) → (is_accepted kind ≡ false → new ≡ old)
    → new ≡ old ++ places_of (record { control = control; line = line; kind = kind } ∷ [])
placed_one (kinds.Accepted done) control line old new met unmet = met refl
placed_one (kinds.Refused refusal) control line old new met unmet = unmet refl ∙ sym (append-nil old)
placed_one (kinds.Syntax word) control line old new met unmet = unmet refl ∙ sym (append-nil old)

-- ---- a control's turn
module _ (loaded : LoadedJob) (bytes : List ℕ) (number : ℕ) (its : List RoundRecord) (round : GivenRound) (first : Replay) (cursor : Cursor) (replay : Replay) (places : List Place) where
  begun_in : GoOn loaded bytes number its round first cursor replay places → (events : List Event) → AreBegun (batches_of (files_of loaded number)) events → AreBegun round.batches events
  begun_in goes events are = subst (λ (bs : List GivenBatch). AreBegun bs events) (sym (same_batches loaded number its round first.journal.items goes.of)) are

  among_in : GoOn loaded bytes number its round first cursor replay places → (batch : GivenBatch) → IsAmong batch (batches_of (files_of loaded number)) → IsAmong batch round.batches
  among_in goes batch among = subst (λ (bs : List GivenBatch). IsAmong batch bs) (sym (same_batches loaded number its round first.journal.items goes.of)) among

  among_out : GoOn loaded bytes number its round first cursor replay places → (batch : GivenBatch) → IsAmong batch round.batches → IsAmong batch (batches_of (files_of loaded number))
  among_out goes batch among = subst (λ (bs : List GivenBatch). IsAmong batch bs) (same_batches loaded number its round first.journal.items goes.of) among

  count_is : GoOn loaded bytes number its round first cursor replay places → (told : AreTold loaded bytes its first cursor replay) → length replay.journal.items ≡ edits_in its + accepted_count told.it.events
  count_is goes told =
      let long = ap length told.journal_is in
      let sum = length-append first.journal.items told.edits in
      let a = goes.of.edits in
      let b = told.accepted in
      omega (arith, long, sum, a, b)

  pub journal_fits : IsLoaded loaded → GoOn loaded bytes number its round first cursor replay places → length replay.journal.items ≤ 262144
  journal_fits is goes =
      let told = goes.told in
      let few = short_journal loaded bytes cursor its first.journal.items told.it told.edits is told.is_at in
      let long = ap length told.journal_is in
      omega (arith, few, long)

  pub places_within : GoOn loaded bytes number its round first cursor replay places → AreWithin (files_of loaded number) places
  places_within goes = all_within goes.under

  given_here : IsLoaded loaded → GoOn loaded bytes number its round first cursor replay places → AreGiven round.batches
  given_here is goes = each_at (λ (g : GivenRound). AreGiven g.batches) (given_rounds loaded) (length its) round (all_given loaded is.job) goes.of.there

  batch_low : IsLoaded loaded → GoOn loaded bytes number its round first cursor replay places → (batch : GivenBatch) → IsAmong batch round.batches → (1 ≤ batch.control) × (batch.control ≤ 4)
  batch_low is goes batch among =
      let given = given_here is goes in
      let files = are_files loaded number is in
      let out = among_out goes batch among in
      let it = file_at (files_of loaded number) out.0 batch out.1 in
      let least = files.numbered it.at it.file it.there in
      let same = ap (λ (b : GivenBatch). b.control) it.same in
      (omega (arith, least, same), each_at (λ (b : GivenBatch). b.control ≤ 4) round.batches among.0 batch given.few among.1)

  -- the next event, with what it comes to
  module _ (named : NamedLine) (turn : IsTurn loaded bytes number its round first cursor replay places named) (later : List Edit) (kind : EventKind) (met : IsMet replay.journal.items later (words_of named.next.text.now) kind) where
    own_here : IsOwn (files_of loaded number) turn.goes.told.it.events named.control named.next.text.now named.next.line
    own_here = own_next turn.goes.under named.control named.next.text.now named.next.line named.next.next named.next.force turn.names.own

    abbrev event_here : Event
    event_here = record { control = named.control; line = named.next.line; kind = kind }

    result_here : IsResult (state_from no_state (first.journal.items ++ turn.goes.told.edits)) (words_of named.next.text.now) kind met.0 met.1
    result_here = subst (λ (es : List Edit). IsResult (state_from no_state es) (words_of named.next.text.now) kind met.0 met.1) turn.goes.told.journal_is met.2

    next_here : IsNextOf round first.journal.items turn.goes.told.it turn.goes.told.edits event_here met.1
    unfolding own_here
    next_here = record {
      batch = given_of own_here.file;
      command = record { line = named.next.line; words = words_of named.next.text.now };
      after = met.0;
      given = among_in turn.goes (given_of own_here.file) own_here.among;
      next = own_here.next;
      control = sym own_here.by;
      line = refl;
      result = result_here;
    }

    takes_here : Takes loaded (inside its first.journal.items turn.goes.told.it turn.goes.told.edits) (event_line (edits_in its + accepted_count turn.goes.told.it.events) event_here)
        (inside its first.journal.items (with_event turn.goes.told.it event_here) (turn.goes.told.edits ++ met.1))
    takes_here = takes_next loaded round its first.journal.items turn.goes.told.it turn.goes.told.edits turn.is_loaded turn.goes.of.there event_here met.1 turn.goes.told.unwalked
        (begun_in turn.goes turn.goes.told.it.events (all_begun turn.goes.under)) next_here

    text_here : (text : List ℕ) (count : ℕ) → text ≡ event_line count event_here → count ≡ length replay.journal.items → event_line (edits_in its + accepted_count turn.goes.told.it.events) event_here ≡ text
    text_here text count is many = ap (λ (n : ℕ). event_line n event_here) (sym (many ∙ count_is turn.goes turn.goes.told)) ∙ sym is

    -- the events go on behind its line
    pub goes_further : (now : Cursor) (after : Replay) (goes : Bool) (text : List ℕ) (count : ℕ) → later ≡ after.journal.items → IsKept after → after.places.items ≡ replay.places.items ++ places_of (event_here ∷ []) → after.refused ≡ replay.refused + (if is_accepted kind then 0 else 1)
        → goes ≡ (named.next.force || is_accepted kind) → text ≡ event_line count event_here → count ≡ length replay.journal.items
        → ((stand next : Stand) → IsAt loaded bytes cursor stand → Takes loaded stand text next → IsAt loaded bytes now next) → now.line ≡ cursor.line + 1
        → GoOn loaded bytes number its round first now after (moved_on places named.control named.next.line named.next.next goes)
    goes_further now after goes text count same kept places refused on is many moves line =
        let told = turn.goes.told in
        let more : List Event = told.it.events ++ (event_here ∷ []) in
        let accepted : accepted_count more ≡ length (told.edits ++ met.1) =
        (let sum = accepted_append told.it.events (event_here ∷ []) in let one = accepted_one event_here in let own = result_counted (state_from no_state replay.journal.items) (words_of named.next.text.now) kind met.0 met.1 met.2 in
        let both = length-append told.edits met.1 in let a = told.accepted in omega (arith, sum, one, own, both, a)) in
        let many_events = length-append told.it.events (event_here ∷ []) in
        let own = result_counted (state_from no_state replay.journal.items) (words_of named.next.text.now) kind met.0 met.1 met.2 in
        let both = length-append told.edits met.1 in
        let split = split_one (is_accepted kind) in
        let before = told.refused in
        let few = told.fewer in
        record {
          of = turn.goes.of;
          told = record {
            it = with_event told.it event_here;
            edits = told.edits ++ met.1;
            is_at = moves (inside its first.journal.items told.it told.edits) (inside its first.journal.items (with_event told.it event_here) (told.edits ++ met.1)) told.is_at
                (subst (λ (t : List ℕ). Takes loaded (inside its first.journal.items told.it told.edits) t (inside its first.journal.items (with_event told.it event_here) (told.edits ++ met.1))) (text_here text count is many) takes_here);
            unwalked = told.unwalked;
            kept = kept;
            placed = places ∙ ap (λ (ps : List LinePlace). ps ++ places_of (event_here ∷ [])) told.placed ∙ append_assoc first.places.items (places_of told.it.events) (places_of (event_here ∷ []))
                ∙ ap (λ (ps : List LinePlace). first.places.items ++ ps) (sym (places_append told.it.events (event_here ∷ [])));
            journal_is = sym same ∙ met.3 ∙ ap (λ (es : List Edit). es ++ met.1) told.journal_is ∙ append_assoc first.journal.items told.edits met.1;
            accepted = accepted;
            refused = omega (arith, refused, many_events, own, both, split, before);
            fewer = omega (arith, refused, split, few, line);
          };
          under = line_turned (record { under = turn.goes.under; named = are_files loaded number turn.is_loaded }) named.control named.next.text.now named.next.line named.next.next named.next.force turn.names.own
              after.journal.items kind goes (subst (λ (es : List Edit). IsMet replay.journal.items es (words_of named.next.text.now) kind) same met) on;
        }

    -- no other line may come
    pub no_other : (text : List ℕ) (count : ℕ) → text ≡ event_line count event_here → count ≡ length replay.journal.items → MustBe loaded bytes cursor (inside its first.journal.items turn.goes.told.it turn.goes.told.edits) text
    unfolding own_here
    no_other text count is many = λ line next is_next takes.
        let told = turn.goes.told in
        let left : IsLeft round.batches told.it.events = record { batch = given_of own_here.file; command = record { line = named.next.line; words = words_of named.next.text.now }; given = among_in turn.goes (given_of own_here.file) own_here.among; next = own_here.next } in
        let other = takes_no_other loaded round its first.journal.items told.it told.edits turn.is_loaded turn.goes.of.there line next left takes in
        let it = other.2 in
        let low = batch_low turn.is_loaded turn.goes it.batch it.given in
        let by = it.control in
        let lines : turn.names.text ≡ line = cc (sym turn.names.is_next.first ∙ is_next.first) in
        let own_control : control_in line ≡ Some other.0.control = event_named (edits_in its + accepted_count told.it.events) other.0 line (omega (arith, low, by)) other.3 in
        let names : control_in line ≡ Some named.control = ap control_in (sym lines) ∙ turn.names.tells in
        let control : other.0.control ≡ named.control = (let both : ◌≡◌ {A = Option ℕ} (Some other.0.control) (Some named.control) = sym own_control ∙ names in cc both) in
        let batch : it.batch ≡ given_of own_here.file = one_batch round.batches it.batch (given_of own_here.file) (given_here turn.is_loaded turn.goes) it.given (among_in turn.goes (given_of own_here.file) own_here.among) (sym by ∙ control ∙ sym own_here.by) in
        let command : it.command ≡ record { line = named.next.line; words = words_of named.next.text.now } =
        (let both : ◌≡◌ {A = Option Command} (Some it.command) (Some (record { line = named.next.line; words = words_of named.next.text.now })) = sym it.next ∙ ap (next_in told.it.events) batch ∙ own_here.next in cc both) in
        let result = subst (λ (c : Command). IsResult (state_from no_state (first.journal.items ++ told.edits)) c.words other.0.kind it.after other.1) command it.result in
        let kinds = one_kind (state_from no_state (first.journal.items ++ told.edits)) (words_of named.next.text.now) other.0.kind kind it.after met.0 other.1 met.1 result result_here in
        let same : other.0 ≡ event_here = event_from other.0 event_here control (it.line ∙ ap (λ (c : Command). c.line) command) kinds.0 in
        other.3 ∙ ap (event_line (edits_in its + accepted_count told.it.events)) same ∙ text_here text count is many

    -- a line that isn't its event's came out otherwise
    pub other_result : (line : List ℕ) → IsNextLine bytes cursor line → IsReason loaded (inside its first.journal.items turn.goes.told.it turn.goes.told.edits) line reasons.Result
    unfolding own_here
    other_result line is_next =
        let lines : turn.names.text ≡ line = cc (sym turn.names.is_next.first ∙ is_next.first) in
        let left : IsLeft round.batches turn.goes.told.it.events = record { batch = given_of own_here.file; command = record { line = named.next.line; words = words_of named.next.text.now }; given = among_in turn.goes (given_of own_here.file) own_here.among; next = own_here.next } in
        (round, turn.goes.of.there, inl (left, inr ((event_here, met.1, next_here, ap control_in (sym lines) ∙ turn.names.tells), refl)))

  -- ---- no turn
  left_here : IsLoaded loaded → (goes : GoOn loaded bytes number its round first cursor replay places) → SomeLeft loaded number places → IsLeft round.batches goes.told.it.events
  left_here is goes (control, text, at, behind, force, own) =
      let mine = own_next goes.under control text at behind force own in
      record { batch = given_of mine.file; command = record { line = at; words = words_of text }; given = among_in goes (given_of mine.file) mine.among; next = mine.next }

  -- a control that is named has no command left
  named_none : IsLoaded loaded → (goes : GoOn loaded bytes number its round first cursor replay places) → (line : List ℕ) → TellsNone loaded number places line → NamesNoBatch round goes.told.it line
  named_none is goes line tells = λ batch command among next named.
      let low = batch_low is goes batch among in
      let none = tells batch.control low.0 named in
      let out = among_out goes batch among in
      let there = file_at (files_of loaded number) out.0 batch out.1 in
      let no_next = own_none goes.under there.at there.file there.there (subst (λ (c : ℕ). HasNoLine (files_of loaded number) places c) (sym (ap (λ (b : GivenBatch). b.control) there.same)) none) in
      let both : ◌≡◌ {A = Option Command} None (Some command) = sym no_next ∙ ap (next_in goes.told.it.events) there.same ∙ next in
      cc both

  pub refused_here : IsLoaded loaded → (goes : GoOn loaded bytes number its round first cursor replay places) → SomeLeft loaded number places → NamesNone loaded bytes number cursor places
      → IsRefused loaded bytes cursor (inside its first.journal.items goes.told.it goes.told.edits) reasons.Event
  refused_here is goes left (inl none) = λ line is_next. absurd (cc (sym none ∙ is_next.first))
  refused_here is goes left (inr (text, here, tells)) = λ line is_next.
      let lines : text ≡ line = cc (sym here.first ∙ is_next.first) in
      let none : NamesNoBatch round goes.told.it line = named_none is goes line (subst (TellsNone loaded number places) lines tells) in
      let some = left_here is goes left in (
        (λ next takes.
            let told = goes.told in
            let other = takes_no_other loaded round its first.journal.items told.it told.edits is goes.of.there line next some takes in
            let it = other.2 in
            let low = batch_low is goes it.batch it.given in
            let by = it.control in
            none it.batch it.command it.given it.next (event_named (edits_in its + accepted_count told.it.events) other.0 line (omega (arith, low, by)) other.3 ∙ ap (λ (n : ℕ). Some n) by)),
        (round, goes.of.there, inl (some, inl (none, refl))),
      )

  pub over_here : IsLoaded loaded → GoOn loaded bytes number its round first cursor replay places → NoLines loaded number places → AreOver loaded bytes its round first cursor replay
  over_here is goes lines = record {
    told = goes.told;
    none = none;
    order = all_told round.batches goes.told.it.events (begun_in goes goes.told.it.events (all_begun goes.under)) none;
  }
    where
      none : NoneLeft round.batches goes.told.it.events
      none = λ batch among.
          let out = among_out goes batch among in
          let there = file_at (files_of loaded number) out.0 batch out.1 in
          let named = (are_files loaded number is).numbered there.at there.file there.there in
          ap (next_in goes.told.it.events) (sym there.same) ∙ own_none goes.under there.at there.file there.there (lines there.file.control named.0 named.1)

-- ---- before the first event
pub goes_first : (loaded : LoadedJob) (bytes : List ℕ) (number controls : ℕ) (its : List RoundRecord) (round : GivenRound) (cursor : Cursor) (replay : Replay) (places : List Place) → IsLoaded loaded
    → HasBegun loaded bytes number its round cursor replay → places ≡ replicate controls start_place → controls ≡ loaded.job.controls → GoOn loaded bytes number its round replay cursor replay places
goes_first loaded bytes number controls its round cursor replay places is begun all many = record {
  of = begun.of;
  told = record {
    it = no_round;
    edits = [];
    is_at = begun.is_at;
    unwalked = refl;
    kept = begun.kept;
    journal_is = sym (append-nil replay.journal.items);
    placed = sym (append-nil replay.places.items);
    accepted = refl;
    refused = refl;
    fewer = begun.fewer;
  };
  under = begins_with (files_of loaded number) loaded.job.controls controls replay.journal.items replay.journal.items [] places (are_files loaded number is) refl refl all many;
}

-- the control that a line names is one of the round's, with a place
pub record HasPlace (places : List Place) (control : ℕ) : Type 0 where
  pub least : 1 ≤ control
  pub within : control - 1 < length places

pub named_place : (loaded : LoadedJob) (bytes : List ℕ) (number : ℕ) (its : List RoundRecord) (round : GivenRound) (first : Replay) (cursor : Cursor) (replay : Replay) (places : List Place) (named : NamedLine)
    → IsTurn loaded bytes number its round first cursor replay places named → HasPlace places named.control
named_place loaded bytes number its round first cursor replay places named turn =
    let here = turn.names.own.2.stands in
    let low = (are_files loaded number turn.is_loaded).numbered here.at turn.names.own.0 here.file_is in
    let by = here.control_is in
    let many = turn.goes.under.many in
    record { least = omega (arith, low, by); within = omega (arith, low, by, many) }

-- ---- the controls, one after the other
pub below_or : (control k : ℕ) → control < k + 1 → (control < k) ⊎ (control ≡ k)
below_or control k less = by_test (nat_lt control k) refl
  where
    by_test : (b : Bool) → nat_lt control k ≡ b → (control < k) ⊎ (control ≡ k)
    by_test true is = inl (grind (arith, nat_tests, is))
    by_test false is = inr (let low : k ≤ control = grind (arith, nat_tests, is) in omega (arith, low, less))

pub none_of : {X : Type 0} (o : Option X) (P : Type 0) → IfNone o P → is_some o ≡ false → P
none_of None P none is = none
none_of (Some x) P none is = absurd (cc is)
