-- The ear hears of one event more.
use Rattle.std.proofs.Common.{◌≡◌, ◌∙◌, ℕ, ◌+◌, Bool, true, false, List, [], ◌∷◌, ◌++◌, Option, Some, None, refl, sym, ap, append_assoc, append-nil, arith}
use Rattle.std.specs.Prelude.{option_map, if◌then◌else◌}
use Rattle.std.proofs.lemmas.List.Sums.{sum_by-cons, sum_by-append}
use Rattle.run_report.specs.declared.events.Event.{Event}
use Rattle.run_report.specs.Counts.{is_accepted, accepted_count}
use Rattle.tc_base.specs.declared.ear.EventName.{EventName}
use Rattle.round_terms.specs.Hearing.{EarView, names_of, HasHeard, HeardIf}

abbrev name_of : ℕ → ℕ → Event → EventName
name_of round number event = record { number = number; round = round; control = event.control; line = event.line }

abbrev one_name : ℕ → ℕ → Event → List EventName
one_name round number event = if is_accepted event.kind then name_of round number event ∷ [] else []

last_name : (b : Bool) (round before : ℕ) (event : Event) → (if b then name_of round (before + 1) event ∷ [] else []) ≡ (if b then name_of round (before + 0 + 1) event ∷ [] else [])
last_name true round before event = ap (λ (n : ℕ). name_of round n event ∷ []) (let e : before + 1 ≡ before + 0 + 1 = omega arith in e)
last_name false round before event = refl

step_names : (b : Bool) (round before more : ℕ) (first event : Event) (events : List Event)
    → names_of round (before + 1) (events ++ event ∷ []) ≡ names_of round (before + 1) events ++ one_name round (before + 1 + accepted_count events + 1) event
    → names_of round before (events ++ event ∷ []) ≡ names_of round before events ++ one_name round (before + accepted_count events + 1) event
    → more ≡ (if b then 1 else 0) + accepted_count events
    → (if b then name_of round (before + 1) first ∷ names_of round (before + 1) (events ++ event ∷ []) else names_of round before (events ++ event ∷ []))
    ≡ (if b then name_of round (before + 1) first ∷ names_of round (before + 1) events else names_of round before events) ++ one_name round (before + more + 1) event
step_names true round before more first event events one none count =
    let e : before + 1 + accepted_count events + 1 ≡ before + more + 1 = omega (arith, count) in
    ap (λ (names : List EventName). name_of round (before + 1) first ∷ names) (one ∙ ap (λ (n : ℕ). names_of round (before + 1) events ++ one_name round n event) e)
step_names false round before more first event events one none count =
    let e : before + accepted_count events + 1 ≡ before + more + 1 = omega (arith, count) in
    none ∙ ap (λ (n : ℕ). names_of round before events ++ one_name round n event) e

names_further : (round before : ℕ) (events : List Event) (event : Event) → names_of round before (events ++ event ∷ []) ≡ names_of round before events ++ one_name round (before + accepted_count events + 1) event
names_further round before [] event = last_name (is_accepted event.kind) round before event
names_further round before (first ∷ events) event =
    step_names (is_accepted first.kind) round before (accepted_count (first ∷ events)) first event events (names_further round (before + 1) events event) (names_further round before events event)
    (sum_by-cons (λ (e : Event). if is_accepted e.kind then 1 else 0) first events)

count_further : (events : List Event) (event : Event) → accepted_count (events ++ event ∷ []) ≡ accepted_count events + (if is_accepted event.kind then 1 else 0)
count_further events event =
    let a = sum_by-append (λ (e : Event). if is_accepted e.kind then 1 else 0) events (event ∷ []) in
    let b = sum_by-cons (λ (e : Event). if is_accepted e.kind then 1 else 0) event [] in
    omega (arith, a, b)

abbrev heard_more : Option (List EventName) → EventName → Option (List EventName)
heard_more heard event = option_map (λ (names : List EventName). names ++ event ∷ []) heard

abbrev heard_all : Option (List EventName) → List EventName → Option (List EventName)
heard_all heard more = option_map (λ (names : List EventName). names ++ more) heard

heard_on : (heard : Option (List EventName)) (names : List EventName) (event : EventName) → heard_more (heard_all heard names) event ≡ heard_all heard (names ++ event ∷ [])
heard_on None names event = refl
heard_on (Some before) names event = ap (λ (ns : List EventName). Some ns) (append_assoc before names (event ∷ []))

by_accepted : {E : Type 0} (b : Bool) (name : E → ℕ) (heard : E → Option (List EventName)) (spare : E → ℕ) (first : EarView) (now later : E) (round before : ℕ) (events : List Event) (event : Event) (number : ℕ)
    → is_accepted event.kind ≡ b → HasHeard name heard spare first now round before events → HeardIf b name heard spare now later (name_of round number event) → (b ≡ true → number ≡ before + accepted_count events + 1)
    → HasHeard name heard spare first later round before (events ++ event ∷ [])
by_accepted true name heard spare first now later round before events event number is so_far one counted =
    let names : names_of round before (events ++ event ∷ []) ≡ names_of round before events ++ name_of round number event ∷ [] =
    names_further round before events event
    ∙ ap (λ (b : Bool). names_of round before events ++ (if b then name_of round (before + accepted_count events + 1) event ∷ [] else [])) is
    ∙ ap (λ (n : ℕ). names_of round before events ++ name_of round n event ∷ []) (sym (counted refl)) in
    let count = count_further events event in
    let one_more : ◌≡◌ {A = ℕ} (if is_accepted event.kind then 1 else 0) 1 = ap (λ (b : Bool). if b then 1 else 0) is in
    let a = so_far.spare_is in
    let b = one.spare_is in
    record {
      name_is = one.name_is ∙ so_far.name_is;
      heard_is = one.heard_is ∙ ap (λ (h : Option (List EventName)). heard_more h (name_of round number event)) so_far.heard_is ∙ heard_on first.heard (names_of round before events) (name_of round number event)
          ∙ ap (heard_all first.heard) (sym names);
      spare_is = omega (arith, a, b, count, one_more);
    }
by_accepted false name heard spare first now later round before events event number is so_far same counted =
    let names : names_of round before (events ++ event ∷ []) ≡ names_of round before events =
    names_further round before events event
    ∙ ap (λ (b : Bool). names_of round before events ++ (if b then name_of round (before + accepted_count events + 1) event ∷ [] else [])) is
    ∙ append-nil (names_of round before events) in
    let count = count_further events event in
    let none_more : ◌≡◌ {A = ℕ} (if is_accepted event.kind then 1 else 0) 0 = ap (λ (b : Bool). if b then 1 else 0) is in
    let a = so_far.spare_is in
    let spares = ap spare same in
    record {
      name_is = ap name same ∙ so_far.name_is;
      heard_is = ap heard same ∙ so_far.heard_is ∙ ap (heard_all first.heard) (sym names);
      spare_is = omega (arith, a, spares, count, none_more);
    }

pub heard_further : {E : Type 0} (name : E → ℕ) (heard : E → Option (List EventName)) (spare : E → ℕ) (first : EarView) (now later : E) (round before : ℕ) (events : List Event) (event : Event) (number : ℕ)
    → HasHeard name heard spare first now round before events → HeardIf (is_accepted event.kind) name heard spare now later (record { number = number; round = round; control = event.control; line = event.line })
    → (is_accepted event.kind ≡ true → number ≡ before + accepted_count events + 1) → HasHeard name heard spare first later round before (events ++ event ∷ [])
heard_further name heard spare first now later round before events event number so_far one counted =
    by_accepted (is_accepted event.kind) name heard spare first now later round before events event number refl so_far one counted
