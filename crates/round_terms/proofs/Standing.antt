-- A turn of a control, from where it stands.
use Rattle.std.proofs.Common.{◌≡◌, ◌∙◌, ℕ, ◌+◌, ◌-◌, ◌≤◌, ◌<◌, Bool, true, false, List, [], ◌∷◌, ◌++◌, length, Option, Some, refl, sym, ap, subst, arith}
use Rattle.std.specs.Prelude.{◌||◌, if◌then◌else◌}
use Rattle.std.specs.List.{slice_get}
use Rattle.std.proofs.lemmas.List.{length-append}
use Rattle.std.proofs.lemmas.List.Sums.{sum_by-cons}
use Rattle.tc_base.specs.declared.ear.EventName.{EventName}
use Rattle.tc_words.specs.Lines.{words_of}
use Rattle.filter_state.specs.declared.edit.Edit.{Edit}
use Rattle.filter_state.specs.States.{no_state}
use Rattle.filter_state.specs.Journals.{state_from}
use Rattle.batch_run.specs.Commands.{Command, commands_of}
use Rattle.run_report.specs.declared.events.Event.{Event}
use Rattle.run_report.specs.declared.events.EventKind.{EventKind}
use Rattle.run_report.specs.Counts.{is_accepted, accepted_count}
use Rattle.lawful_runs.specs.Events.{IsThrough, events_of}
use Rattle.lawful_runs.proofs.Results.{result_counted, results_counted}
use Rattle.round_terms.specs.declared.place.Place.{Place}
use Rattle.round_terms.specs.Files.{RoundFile, batches_of, commands_in_all, AreFiles}
use Rattle.round_terms.specs.Places.{left_from}
use Rattle.round_terms.specs.Coming.{HasCome, IsThroughAll}
use Rattle.round_terms.specs.Hearing.{EarView, HasHeard, HeardIf}
use Rattle.round_terms.specs.Underway.{IsUnderway, IsMet}
use Rattle.round_terms.specs.Turns.{StandsAt, IsNextLine, IsLineFor, HasNoLine, AreWithin, moved_on}
use Rattle.round_terms.proofs.Coming.{come_over, come_not_through}
use Rattle.round_terms.proofs.Turning.{placed_there, left_found, is_short, turned}
use Rattle.round_terms.proofs.Hearing.{heard_further}

-- ---- where a turn is
-- a round that is under way, whose batches are those of so many controls
pub record IsGoing (files : List RoundFile) (controls : ℕ) (before journal : List Edit) (events : List Event) (places : List Place) : Type 0 where
  pub under : IsUnderway files controls before journal events places
  pub named : AreFiles files controls

own_place : {files : List RoundFile} {places : List Place} (control : ℕ) (file : RoundFile) (place : Place) → StandsAt files places control file place → slice_get places (file.control - 1) ≡ Some place
own_place {places = places} control file place here = ap (λ (n : ℕ). slice_get places (n - 1)) here.control_is ∙ here.place_is

module _ {files : List RoundFile} {controls : ℕ} {before journal : List Edit} {events : List Event} {places : List Place} where
  -- a control that has a line left isn't through
  pub not_through : IsGoing files controls before journal events places → (control : ℕ) (file : RoundFile) (place : Place) (text : List ℕ) (line next : ℕ) → IsNextLine files places control file place text line next
      → IsThroughAll files control events → ⊥
  not_through it control file place text line next more through =
      let here = more.stands in
      let there = placed_there files controls before journal events places here.at file place it.under here.file_is (own_place control file place here) in
      let command : Command = record { line = line; words = words_of text } in
      let come = subst (HasCome file.force (commands_of file.bytes) (events_of file.control events)) (left_found file place text line next more.going more.found) there.2 in
      come_not_through file.force (commands_of file.bytes) (events_of file.control events) command (left_from file.bytes next line) come
      (subst (λ (c : ℕ). IsThrough file.force (commands_of file.bytes) (events_of c events)) (sym here.control_is) (through here.at file here.file_is here.control_is))

  pub short : IsGoing files controls before journal events places → (control : ℕ) (file : RoundFile) (place : Place) (text : List ℕ) (line next : ℕ) → IsNextLine files places control file place text line next
      → length events + 1 ≤ commands_in_all files
  short it control file place text line next more =
      let here = more.stands in
      is_short files controls before journal events places here.at file place text line next it.under here.file_is (own_place control file place here) more.going more.found

-- ---- room
one_most : (b : Bool) → (if b then 1 else 0) ≤ 1
one_most true = omega arith
one_most false = omega arith

accepted_most : (events : List Event) → accepted_count events ≤ length events
accepted_most [] = omega arith
accepted_most (event ∷ events) =
    let rest = accepted_most events in
    let one = one_most (is_accepted event.kind) in
    let count = sum_by-cons (λ (e : Event). if is_accepted e.kind then 1 else 0) event events in
    omega (arith, rest, one, count)

module _ {files : List RoundFile} {controls : ℕ} {before journal : List Edit} {events : List Event} {places : List Place} where
  pub has_room : IsGoing files controls before journal events places → (control : ℕ) (file : RoundFile) (place : Place) (text : List ℕ) (line next : ℕ) → IsNextLine files places control file place text line next
      → length before + commands_in_all files ≤ 262144 → length journal < 262144
  has_room it control file place text line next more few =
      let few_events = short it control file place text line next more in
      let counted = results_counted (batches_of files) (state_from no_state before) events it.under.edits it.under.results in
      let most = accepted_most events in
      let long = ap length it.under.journal_is in
      let both = length-append before it.under.edits in
      omega (arith, few, few_events, counted, most, long, both)

  pub has_spare : {E : Type 0} (name : E → ℕ) (heard : E → Option (List EventName)) (spare : E → ℕ) (first : EarView) (now : E) (round : ℕ) → IsGoing files controls before journal events places
      → (control : ℕ) (file : RoundFile) (place : Place) (text : List ℕ) (line next : ℕ) → IsNextLine files places control file place text line next → commands_in_all files ≤ first.spare
      → HasHeard name heard spare first now round (length before) events → 1 ≤ spare now
  has_spare name heard spare first now round it control file place text line next more enough so_far =
      let few_events = short it control file place text line next more in
      let most = accepted_most events in
      let left = so_far.spare_is in
      omega (arith, enough, few_events, most, left)

  -- ---- the number of an accepted edit
  pub number_is : IsGoing files controls before journal events places → (later : List Edit) (words : List (List ℕ)) (kind : EventKind) (number : ℕ) → IsMet journal later words kind → number ≡ length later → is_accepted kind ≡ true
      → number ≡ length before + accepted_count events + 1
  number_is it later words kind number (state, own, result, grown) is accepted =
      let one = result_counted (state_from no_state journal) words kind state own result in
      let one_is : ◌≡◌ {A = ℕ} (if is_accepted kind then 1 else 0) 1 = ap (λ (b : Bool). if b then 1 else 0) accepted in
      let counted = results_counted (batches_of files) (state_from no_state before) events it.under.edits it.under.results in
      let long = ap length it.under.journal_is in
      let both = length-append before it.under.edits in
      let later_long = ap length grown in
      let later_both = length-append journal own in
      omega (arith, is, one, one_is, counted, long, both, later_long, later_both)

  -- ---- the round behind the turn
  pub is_turned : IsGoing files controls before journal events places → (control : ℕ) (file : RoundFile) (place : Place) (text : List ℕ) (line next : ℕ) → IsNextLine files places control file place text line next
      → (later : List Edit) (kind : EventKind) (goes : Bool) → IsMet journal later (words_of text) kind → goes ≡ (file.force || is_accepted kind)
      → IsUnderway files controls before later (events ++ record { control = control; line = line; kind = kind } ∷ []) (moved_on places control line next goes)
  is_turned it control file place text line next more later kind goes met on =
      let here = more.stands in
      let event : Event = record { control = control; line = line; kind = kind } in
      subst (λ (n : ℕ). IsUnderway files controls before later (events ++ event ∷ []) (moved_on places n line next goes)) here.control_is
      (turned files controls before journal later events places here.at file place text line next event goes it.under it.named here.file_is (own_place control file place here) more.going
      more.found (sym here.control_is) refl met on)

  pub is_told : {E : Type 0} (name : E → ℕ) (heard : E → Option (List EventName)) (spare : E → ℕ) (first : EarView) (old new : E) (number round : ℕ) → IsGoing files controls before journal events places
      → (later : List Edit) (words : List (List ℕ)) (control line count : ℕ) (kind : EventKind) → IsMet journal later words kind → count ≡ length later → round ≡ number
      → HasHeard name heard spare first old number (length before) events → HeardIf (is_accepted kind) name heard spare old new (record { number = count; round = round; control = control; line = line })
      → HasHeard name heard spare first new number (length before) (events ++ record { control = control; line = line; kind = kind } ∷ [])
  is_told {E = E} name heard spare first old new number round it later words control line count kind met count_is round_is so_far one =
      let event : Event = record { control = control; line = line; kind = kind } in
      heard_further name heard spare first old new number (length before) events event count so_far
      (subst (λ (r : ℕ). HeardIf (is_accepted kind) name heard spare old new (record { number = count; round = r; control = control; line = line })) round_is one)
      (number_is it later words kind count met count_is)

  -- ---- the next line of a control, whatever its place is
  pub line_not_through : IsGoing files controls before journal events places → (control : ℕ) (text : List ℕ) (line next : ℕ) (force : Bool) → IsLineFor files places control text line next force → IsThroughAll files control events → ⊥
  line_not_through it control text line next force more = not_through it control more.0 more.1 text line next more.2

  pub line_has_room : IsGoing files controls before journal events places → (control : ℕ) (text : List ℕ) (line next : ℕ) (force : Bool) → IsLineFor files places control text line next force → length before + commands_in_all files ≤ 262144 → length journal < 262144
  line_has_room it control text line next force more = has_room it control more.0 more.1 text line next more.2

  pub line_has_spare : {E : Type 0} (name : E → ℕ) (heard : E → Option (List EventName)) (spare : E → ℕ) (first : EarView) (now : E) (round : ℕ) → IsGoing files controls before journal events places
      → (control : ℕ) (text : List ℕ) (line next : ℕ) (force : Bool) → IsLineFor files places control text line next force → commands_in_all files ≤ first.spare → HasHeard name heard spare first now round (length before) events → 1 ≤ spare now
  line_has_spare name heard spare first now round it control text line next force more = has_spare name heard spare first now round it control more.0 more.1 text line next more.2

  pub line_turned : IsGoing files controls before journal events places → (control : ℕ) (text : List ℕ) (line next : ℕ) (force : Bool) → IsLineFor files places control text line next force
      → (later : List Edit) (kind : EventKind) (goes : Bool) → IsMet journal later (words_of text) kind → goes ≡ (force || is_accepted kind)
      → IsUnderway files controls before later (events ++ record { control = control; line = line; kind = kind } ∷ []) (moved_on places control line next goes)
  line_turned it control text line next force more later kind goes met on =
      is_turned it control more.0 more.1 text line next more.2 later kind goes met (on ∙ ap (λ (b : Bool). b || is_accepted kind) more.3)

-- ---- no line
module _ {files : List RoundFile} {controls : ℕ} {before journal : List Edit} {events : List Event} {places : List Place} where
  pub all_within : IsUnderway files controls before journal events places → AreWithin files places
  all_within under = λ at file is. let p = under.placed at file is in (p.place, p.there, p.within, p.counted)

  pub no_line_through : IsUnderway files controls before journal events places → (control : ℕ) → HasNoLine files places control → IsThroughAll files control events
  no_line_through under control none = λ at file is by.
      let p = under.placed at file is in
      let there : slice_get places (control - 1) ≡ Some p.place = ap (λ (n : ℕ). slice_get places (n - 1)) (sym by) ∙ p.there in
      let left = none file p.place (record { at = at; file_is = is; control_is = by; place_is = there }) in
      let come = subst (HasCome file.force (commands_of file.bytes) (events_of file.control events)) left p.come in
      subst (λ (c : ℕ). IsThrough file.force (commands_of file.bytes) (events_of c events)) by (come_over file.force (commands_of file.bytes) (events_of file.control events) come)
