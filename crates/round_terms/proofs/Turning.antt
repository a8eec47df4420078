-- A turn of a control.
use Rattle.std.proofs.Common.{◌≡◌, ◌∙◌, ℕ, ◌+◌, ◌-◌, ◌≤◌, ◌<◌, ◌≢◌, ◌==◌, Bool, true, false, List, [], ◌∷◌, ◌++◌, length, Some, refl, sym, ap, subst, append_assoc, eq-eqb, arith, inl, inr}
use Rattle.std.specs.Prelude.{not, ◌||◌, slice_set, if◌then◌else◌}
use Rattle.std.specs.List.{slice_get}
use Rattle.std.proofs.lemmas.Option.{slice_get_within}
use Rattle.std.proofs.lemmas.Bool.Decides.{nat_tests, eqb_tells}
use Rattle.tc_words.specs.Lines.{words_of}
use Rattle.filter_state.specs.declared.edit.Edit.{Edit}
use Rattle.filter_state.specs.States.{State, no_state}
use Rattle.filter_state.specs.Journals.{state_from}
use Rattle.run_report.specs.declared.events.Event.{Event}
use Rattle.batch_run.specs.Commands.{Command, commands_of}
use Rattle.run_report.specs.Counts.{is_accepted}
use Rattle.lawful_runs.specs.Events.{events_of, IsLineOf, IsResult}
use Rattle.round_terms.specs.declared.place.Place.{Place}
use Rattle.round_terms.specs.Places.{left_from, left_at, IsFound}
use Rattle.round_terms.specs.Files.{RoundFile, given_of, batches_of, commands_in_all, AreFiles}
use Rattle.round_terms.specs.Coming.{HasCome}
use Rattle.round_terms.specs.Underway.{IsPlaced, IsUnderway, IsMet}
use Rattle.round_terms.proofs.Coming.{come_further, come_among, come_short, events_own, events_other, results_further}
use Rattle.lawful_runs.proofs.Events.{state_from-append}
use Rattle.round_terms.proofs.Counting.{given_at, sum_more, each_counted, set_same, set_other}

-- ---- the place of a batch's control
pub placed_there : (files : List RoundFile) (controls : ℕ) (before journal : List Edit) (events : List Event) (places : List Place) (at : ℕ) (file : RoundFile) (place : Place) → IsUnderway files controls before journal events places
    → slice_get files at ≡ Some file → slice_get places (file.control - 1) ≡ Some place → (place.at ≤ length file.bytes) × (place.line ≤ place.at) × HasCome file.force (commands_of file.bytes) (events_of file.control events) (left_at file.bytes place)
placed_there files controls before journal events places at file place u is there =
    let it = u.placed at file is in
    let own = it.there in
    let same : it.place ≡ place = cc in (
      subst (λ (p : Place). p.at ≤ length file.bytes) same it.within,
      subst (λ (p : Place). p.line ≤ p.at) same it.counted,
      subst (λ (p : Place). HasCome file.force (commands_of file.bytes) (events_of file.control events) (left_at file.bytes p)) same it.come,
    )

-- the commands that are left, with the first of them
pub left_found : (file : RoundFile) (place : Place) (text : List ℕ) (line next : ℕ) → place.over ≡ false → IsFound file.bytes place.at place.line text line next
    → left_at file.bytes place ≡ record { line = line; words = words_of text } ∷ left_from file.bytes next line
left_found file place text line next going found = ap (λ (b : Bool). if b then [] else left_from file.bytes place.at place.line) going ∙ found.command

-- ---- there is room for the line
pub is_short : (files : List RoundFile) (controls : ℕ) (before journal : List Edit) (events : List Event) (places : List Place) (at : ℕ) (file : RoundFile) (place : Place) (text : List ℕ) (line next : ℕ)
    → IsUnderway files controls before journal events places → slice_get files at ≡ Some file → slice_get places (file.control - 1) ≡ Some place → place.over ≡ false → IsFound file.bytes place.at place.line text line next
    → length events + 1 ≤ commands_in_all files
is_short files controls before journal events places at file place text line next u is there going found =
    let counted = each_counted files (state_from no_state before) events u.edits u.results in
    let it = placed_there files controls before journal events places at file place u is there in
    let come = subst (HasCome file.force (commands_of file.bytes) (events_of file.control events)) (left_found file place text line next going found) it.2 in
    let own = come_short file.force (commands_of file.bytes) (events_of file.control events) (record { line = line; words = words_of text } ∷ left_from file.bytes next line) come in
    let more = sum_more (λ (f : RoundFile). length (commands_of f.bytes)) (λ (f : RoundFile). length (events_of f.control events)) files at file is
    (λ other f there. let p = u.placed other f there in let short = come_short f.force (commands_of f.bytes) (events_of f.control events) (left_at f.bytes p.place) p.come in omega (arith, short)) (omega (arith, own)) in
    omega (arith, counted, more)

-- ---- one line further
new_place : ℕ → ℕ → Bool → Place
new_place at line goes = record { at = at; line = line; over = not goes }

left_after : (bytes : List ℕ) (at line : ℕ) (goes : Bool) → (if goes then left_from bytes at line else []) ≡ left_at bytes (record { at = at; line = line; over = not goes })
left_after bytes at line true = refl
left_after bytes at line false = refl

eq_of : (m n : ℕ) (b : Bool) → (m == n) ≡ b → b ≡ true → m ≡ n
eq_of m n b is good = let e : (m == n) ≡ true = is ∙ good in grind (arith, nat_tests)

ne_of : (m n : ℕ) → (m == n) ≡ false → m ≢ n
ne_of m n is same = absurd (cc (eq-eqb m n same, is))

pub turned : (files : List RoundFile) (controls : ℕ) (before journal later : List Edit) (events : List Event) (places : List Place) (at : ℕ) (file : RoundFile) (place : Place) (text : List ℕ) (line next : ℕ) (event : Event) (goes : Bool)
    → IsUnderway files controls before journal events places → AreFiles files controls → slice_get files at ≡ Some file → slice_get places (file.control - 1) ≡ Some place → place.over ≡ false
    → IsFound file.bytes place.at place.line text line next → event.control ≡ file.control → event.line ≡ line → IsMet journal later (words_of text) event.kind → goes ≡ (file.force || is_accepted event.kind)
    → IsUnderway files controls before later (events ++ event ∷ []) (slice_set places (file.control - 1) (record { at = next; line = line; over = not goes }))
turned files controls before journal later events places at file place text line next event goes u named is there going found control numbered (state, own, result, grown) on =
    let command : Command = record { line = line; words = words_of text } in
    let it = placed_there files controls before journal events places at file place u is there in
    let come = subst (HasCome file.force (commands_of file.bytes) (events_of file.control events)) (left_found file place text line next going found) it.2 in
    let line_of : IsLineOf (batches_of files) event (words_of text) = record {
      batch = given_of file;
      command = command;
      given = (at, given_at files at file is);
      control = sym control;
      there = come_among file.force (commands_of file.bytes) (events_of file.control events) command (left_from file.bytes next line) come;
      line = sym numbered;
      words_are = refl;
    } in
    let same_state : state_from no_state journal ≡ state_from (state_from no_state before) u.edits = ap (state_from no_state) u.journal_is ∙ state_from-append no_state before u.edits in
    let put : Place = record { at = next; line = line; over = not goes } in
    let here : file.control - 1 < length places = slice_get_within places (file.control - 1) place there in
    let further : HasCome file.force (commands_of file.bytes) (events_of file.control events ++ event ∷ []) (left_at file.bytes put) =
    subst (HasCome file.force (commands_of file.bytes) (events_of file.control events ++ event ∷ []))
    (ap (λ (b : Bool). if b then left_from file.bytes next line else []) (sym on) ∙ left_after file.bytes next line goes)
    (come_further file.force (commands_of file.bytes) (events_of file.control events) command (left_from file.bytes next line) event come numbered) in
    let own_place : IsPlaced (events ++ event ∷ []) (slice_set places (file.control - 1) put) file = record {
      place = put;
      there = set_same places (file.control - 1) put here;
      within = found.within;
      counted = found.counted;
      come = subst (λ (es : List Event). HasCome file.force (commands_of file.bytes) es (left_at file.bytes put)) (sym (events_own file.control events event (eq-eqb event.control file.control control))) further;
    } in
    let other_place : (also : ℕ) (f : RoundFile) → slice_get files also ≡ Some f → (event.control == f.control) ≡ false → IsPlaced (events ++ event ∷ []) (slice_set places (file.control - 1) put) f =
    λ also f found_f apart.
    let p = u.placed also f found_f in
    let a = (named.numbered also f found_f).0 in
    let b = (named.numbered at file is).0 in
    let different = ne_of event.control f.control apart in
    record {
      place = p.place;
      there = set_other places (file.control - 1) (f.control - 1) put (λ same. different (omega (arith, same, a, b, control))) ∙ p.there;
      within = p.within;
      counted = p.counted;
      come = subst (λ (es : List Event). HasCome f.force (commands_of f.bytes) es (left_at f.bytes p.place)) (sym (events_other f.control events event apart)) p.come;
    } in
    let same_place : (also : ℕ) (f : RoundFile) → slice_get files also ≡ Some f → (event.control == f.control) ≡ true → IsPlaced (events ++ event ∷ []) (slice_set places (file.control - 1) put) f =
    λ also f found_f equal.
    let c : event.control ≡ f.control = eq_of event.control f.control true equal refl in
    let where_ : also ≡ at = named.apart also at f file found_f is (sym c ∙ control) in
    let same_at : slice_get files at ≡ Some f = ap (slice_get files) (sym where_) ∙ found_f in
    let f_is : file ≡ f = cc (same_at, is) in
    subst (IsPlaced (events ++ event ∷ []) (slice_set places (file.control - 1) put)) f_is own_place in
    let by_control : (also : ℕ) (f : RoundFile) → slice_get files also ≡ Some f → IsPlaced (events ++ event ∷ []) (slice_set places (file.control - 1) put) f =
    λ also f found_f. elim (eqb_tells event.control f.control) [
      | inl told ↦ same_place also f found_f told.0
      | inr told ↦ other_place also f found_f told.0
    ] in
    record {
      edits = u.edits ++ own;
      journal_is = grown ∙ ap (λ (es : List Edit). es ++ own) u.journal_is ∙ append_assoc before u.edits own;
      results = results_further (batches_of files) (state_from no_state before) events u.edits event (words_of text) state own u.results line_of
          (subst (λ (s : State). IsResult s (words_of text) event.kind state own) same_state result);
      placed = λ also f found_f. by_control also f found_f;
      many = Rattle.std.proofs.lemmas.List.length-set places (file.control - 1) put ∙ u.many;
    }
