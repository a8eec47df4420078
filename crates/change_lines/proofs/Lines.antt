-- The lines of events, one after the other: each is numbered by the edits that were accepted before it.
use Rattle.std.proofs.Common.{◌≡◌, ◌∙◌, ℕ, ◌+◌, List, [], ◌∷◌, ◌++◌, length, take, refl, sym, ap, subst, append_assoc, arith}
use Rattle.std.specs.Prelude.{map, if◌then◌else◌}
use Rattle.std.specs.List.{enumerate_from}
use Rattle.std.proofs.lemmas.List.{length-append}
use Rattle.std.proofs.lemmas.List.Sums.{sum_by-cons}
use Rattle.std.proofs.Math.Seq.{take-append_seam}
use Rattle.journal_replay.specs.Passed.{Event}
use Rattle.journal_replay.specs.Passed.{is_accepted, accepted_count}
use Rattle.journal_replay.specs.Passed.{event_line, event_lines}

accepted_cons : (event : Event) (events : List Event) → accepted_count (event ∷ events) ≡ accepted_count (event ∷ []) + accepted_count events
accepted_cons event events =
    let one : accepted_count (event ∷ events) ≡ (if is_accepted event.kind then 1 else 0) + accepted_count events = sum_by-cons (λ (e : Event). if is_accepted e.kind then 1 else 0) event events in
    let alone : accepted_count (event ∷ []) ≡ (if is_accepted event.kind then 1 else 0) + accepted_count [] = sum_by-cons (λ (e : Event). if is_accepted e.kind then 1 else 0) event [] in
    let none : accepted_count [] ≡ 0 = refl in
    omega (arith, one, alone, none)

pub accepted_append : (xs ys : List Event) → accepted_count (xs ++ ys) ≡ accepted_count xs + accepted_count ys
accepted_append [] ys = let none : accepted_count [] ≡ 0 = refl in let same : accepted_count ([] ++ ys) ≡ accepted_count ys = refl in omega (arith, none, same)
accepted_append (x ∷ xs) ys =
    let one = accepted_cons x (xs ++ ys) in
    let alone = accepted_cons x xs in
    let rest = accepted_append xs ys in
    omega (arith, one, alone, rest)

-- the lines behind so many edits
abbrev pub lines_after : ℕ → List Event → List (List ℕ)
lines_after before [] = []
lines_after before (event ∷ events) = event_line before event ∷ lines_after (before + accepted_count (event ∷ [])) events

numbered_events : (before : ℕ) (front events : List Event) (n : ℕ) → n ≡ length front
    → map (λ (placed : ℕ × Event). event_line (before + accepted_count (take placed.0 (front ++ events))) placed.1) (enumerate_from n events) ≡ lines_after (before + accepted_count front) events
numbered_events before front [] n is = refl
numbered_events before front (event ∷ events) n is =
    let here : event_line (before + accepted_count (take n (front ++ (event ∷ events)))) event ≡ event_line (before + accepted_count front) event =
    ap (λ (k : ℕ). event_line (before + accepted_count (take k (front ++ (event ∷ events)))) event) is
    ∙ ap (λ (es : List Event). event_line (before + accepted_count es) event) (take-append_seam front (event ∷ events)) in
    let more = length-append front (event ∷ []) in
    let rest = numbered_events before (front ++ (event ∷ [])) events (n + 1) (omega (arith, is, more)) in
    let same : (front ++ (event ∷ [])) ++ events ≡ front ++ (event ∷ events) = append_assoc front (event ∷ []) events in
    let whole = subst (λ (es : List Event).
    map (λ (placed : ℕ × Event). event_line (before + accepted_count (take placed.0 es)) placed.1) (enumerate_from (n + 1) events) ≡ lines_after (before + accepted_count (front ++ (event ∷ []))) events) same rest in
    let grown = accepted_append front (event ∷ []) in
    let sum : before + accepted_count (front ++ (event ∷ [])) ≡ (before + accepted_count front) + accepted_count (event ∷ []) = omega (arith, grown) in
    ap (λ (l : List ℕ). l ∷ map (λ (placed : ℕ × Event). event_line (before + accepted_count (take placed.0 (front ++ (event ∷ events)))) placed.1) (enumerate_from (n + 1) events)) here
    ∙ ap (λ (ls : List (List ℕ)). event_line (before + accepted_count front) event ∷ ls) (whole ∙ ap (λ (k : ℕ). lines_after k events) sum)

pub event_lines_are : (before : ℕ) (events : List Event) → event_lines before events ≡ lines_after before events
event_lines_are before events =
    let none : before + accepted_count [] ≡ before = omega arith in
    numbered_events before [] events 0 refl ∙ ap (λ (k : ℕ). lines_after k events) none

pub lines_after-append : (before : ℕ) (xs ys : List Event) → lines_after before (xs ++ ys) ≡ lines_after before xs ++ lines_after (before + accepted_count xs) ys
lines_after-append before [] ys = let none : before ≡ before + accepted_count [] = omega arith in ap (λ (k : ℕ). lines_after k ys) none
lines_after-append before (x ∷ xs) ys =
    let sum = accepted_cons x xs in
    let same : (before + accepted_count (x ∷ [])) + accepted_count xs ≡ before + accepted_count (x ∷ xs) = omega (arith, sum) in
    ap (λ (ls : List (List ℕ)). event_line before x ∷ ls)
    (lines_after-append (before + accepted_count (x ∷ [])) xs ys ∙ ap (λ (k : ℕ). lines_after (before + accepted_count (x ∷ [])) xs ++ lines_after k ys) same)
