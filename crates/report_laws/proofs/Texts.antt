-- The lines of events, packets and rounds, one after the other: each numbered by those before it.
use Rattle.std.proofs.Common.{◌≡◌, ◌∙◌, ℕ, ◌+◌, List, [], ◌∷◌, ◌++◌, length, take, refl, ap, subst, append_assoc, arith}
use Rattle.std.specs.Prelude.{map, codes, if◌then◌else◌}
use Rattle.std.specs.List.{flat_map, enumerate_from}
use Rattle.std.proofs.lemmas.List.Sums.{sum_by-cons}
use Rattle.std.proofs.lemmas.List.{length-append}
use Rattle.run_report.specs.declared.events.Event.{Event}
use Rattle.run_report.specs.declared.outcomes.Outcome.{Outcome}
use Rattle.run_report.specs.declared.rounds.RoundRecord.{RoundRecord}
use Rattle.run_report.specs.Counts.{is_accepted, accepted_count, edits_in}
use Rattle.run_report.specs.EventTexts.{event_line, event_lines}
use Rattle.run_report.specs.PacketTexts.{packet_line, packet_lines}
use Rattle.run_report.specs.Reports.{numbered_line, round_lines, rounds_lines}
use Rattle.std.proofs.Math.Seq.{take-append_seam}

pub accepted_cons : (event : Event) (events : List Event) → accepted_count (event ∷ events) ≡ accepted_count (event ∷ []) + accepted_count events
accepted_cons event events =
    let one : accepted_count (event ∷ events) ≡ (if is_accepted event.kind then 1 else 0) + accepted_count events = sum_by-cons (λ (e : Event). if is_accepted e.kind then 1 else 0) event events in
    let alone : accepted_count (event ∷ []) ≡ (if is_accepted event.kind then 1 else 0) + accepted_count [] = sum_by-cons (λ (e : Event). if is_accepted e.kind then 1 else 0) event [] in
    let none : accepted_count [] ≡ 0 = refl in
    omega (arith, one, alone, none)

pub accepted_append : (xs ys : List Event) → accepted_count (xs ++ ys) ≡ accepted_count xs + accepted_count ys
accepted_append [] ys = let none : accepted_count [] ≡ 0 = refl in let same : accepted_count ([] ++ ys) ≡ accepted_count ys = refl in omega (arith, none, same)
accepted_append (x ∷ xs) ys =
    let one = accepted_cons x (xs ++ ys) in
    let alone = accepted_cons x xs in
    let rest = accepted_append xs ys in
    omega (arith, one, alone, rest)

pub edits_cons : (it : RoundRecord) (its : List RoundRecord) → edits_in (it ∷ its) ≡ accepted_count it.events + edits_in its
edits_cons it its = sum_by-cons (λ (r : RoundRecord). accepted_count r.events) it its

pub edits_append : (xs ys : List RoundRecord) → edits_in (xs ++ ys) ≡ edits_in xs + edits_in ys
edits_append [] ys = let none : edits_in [] ≡ 0 = refl in let same : edits_in ([] ++ ys) ≡ edits_in ys = refl in omega (arith, none, same)
edits_append (x ∷ xs) ys =
    let one = edits_cons x (xs ++ ys) in
    let alone = edits_cons x xs in
    let rest = edits_append xs ys in
    omega (arith, one, alone, rest)

-- ---- events
abbrev pub lines_after : ℕ → List Event → List (List ℕ)
lines_after before [] = []
lines_after before (event ∷ events) = event_line before event ∷ lines_after (before + accepted_count (event ∷ [])) events

numbered_events : (before : ℕ) (front events : List Event) (n : ℕ) → n ≡ length front
    → map (λ (placed : ℕ × Event). event_line (before + accepted_count (take placed.0 (front ++ events))) placed.1) (enumerate_from n events) ≡ lines_after (before + accepted_count front) events
numbered_events before front [] n is = refl
numbered_events before front (event ∷ events) n is =
    let here : event_line (before + accepted_count (take n (front ++ (event ∷ events)))) event ≡ event_line (before + accepted_count front) event =
    ap (λ (k : ℕ). event_line (before + accepted_count (take k (front ++ (event ∷ events)))) event) is
    ∙ ap (λ (es : List Event). event_line (before + accepted_count es) event) (take-append_seam front (event ∷ events)) in
    let more = length-append front (event ∷ []) in
    let rest = numbered_events before (front ++ (event ∷ [])) events (n + 1) (omega (arith, is, more)) in
    let same : (front ++ (event ∷ [])) ++ events ≡ front ++ (event ∷ events) = append_assoc front (event ∷ []) events in
    let whole = subst (λ (es : List Event).
    map (λ (placed : ℕ × Event). event_line (before + accepted_count (take placed.0 es)) placed.1) (enumerate_from (n + 1) events) ≡ lines_after (before + accepted_count (front ++ (event ∷ []))) events) same rest in
    let grown = accepted_append front (event ∷ []) in
    let sum : before + accepted_count (front ++ (event ∷ [])) ≡ (before + accepted_count front) + accepted_count (event ∷ []) = omega (arith, grown) in
    ap (λ (l : List ℕ). l ∷ map (λ (placed : ℕ × Event). event_line (before + accepted_count (take placed.0 (front ++ (event ∷ events)))) placed.1) (enumerate_from (n + 1) events)) here
    ∙ ap (λ (ls : List (List ℕ)). event_line (before + accepted_count front) event ∷ ls) (whole ∙ ap (λ (k : ℕ). lines_after k events) sum)

pub event_lines_are : (before : ℕ) (events : List Event) → event_lines before events ≡ lines_after before events
event_lines_are before events =
    let none : before + accepted_count [] ≡ before = omega arith in
    numbered_events before [] events 0 refl ∙ ap (λ (k : ℕ). lines_after k events) none

-- ---- packets
abbrev pub packets_from : ℕ → List Outcome → List (List ℕ)
packets_from n [] = []
packets_from n (outcome ∷ outcomes) = packet_line n outcome ∷ packets_from (n + 1) outcomes

pub packets_are : (n : ℕ) (outcomes : List Outcome) → map (λ (numbered : ℕ × Outcome). packet_line numbered.0 numbered.1) (enumerate_from n outcomes) ≡ packets_from n outcomes
packets_are n [] = refl
packets_are n (outcome ∷ outcomes) = ap (λ (ls : List (List ℕ)). packet_line n outcome ∷ ls) (packets_are (n + 1) outcomes)

-- ---- rounds
abbrev pub round_text : ℕ → ℕ → RoundRecord → List (List ℕ)
round_text number before it =
    numbered_line (codes "round ") number ∷ (lines_after before it.events ++ (packets_from 1 it.outcomes ++ (numbered_line (codes "end round ") number ∷ [])))

pub round_text_is : (number before : ℕ) (it : RoundRecord) → round_lines number before it ≡ round_text number before it
round_text_is number before it =
    ap (λ (ls : List (List ℕ)). numbered_line (codes "round ") number ∷ (ls ++ (packet_lines it.outcomes ++ (numbered_line (codes "end round ") number ∷ [])))) (event_lines_are before it.events)
    ∙ ap (λ (ls : List (List ℕ)). numbered_line (codes "round ") number ∷ (lines_after before it.events ++ (ls ++ (numbered_line (codes "end round ") number ∷ [])))) (packets_are 1 it.outcomes)

abbrev pub rounds_from : ℕ → ℕ → List RoundRecord → List (List ℕ)
rounds_from n before [] = []
rounds_from n before (it ∷ its) = round_text (n + 1) before it ++ rounds_from (n + 1) (before + accepted_count it.events) its

numbered_rounds : (front its : List RoundRecord) (n : ℕ) → n ≡ length front
    → flat_map (λ (placed : ℕ × RoundRecord). round_lines (placed.0 + 1) (edits_in (take placed.0 (front ++ its))) placed.1) (enumerate_from n its) ≡ rounds_from n (edits_in front) its
numbered_rounds front [] n is = refl
numbered_rounds front (it ∷ its) n is =
    let lines : List RoundRecord → ℕ × RoundRecord → List (List ℕ) = λ (rs : List RoundRecord) (placed : ℕ × RoundRecord). round_lines (placed.0 + 1) (edits_in (take placed.0 rs)) placed.1 in
    let here : round_lines (n + 1) (edits_in (take n (front ++ (it ∷ its)))) it ≡ round_text (n + 1) (edits_in front) it =
    ap (λ (k : ℕ). round_lines (n + 1) (edits_in (take k (front ++ (it ∷ its)))) it) is
    ∙ ap (λ (rs : List RoundRecord). round_lines (n + 1) (edits_in rs) it) (take-append_seam front (it ∷ its))
    ∙ round_text_is (n + 1) (edits_in front) it in
    let more = length-append front (it ∷ []) in
    let rest = numbered_rounds (front ++ (it ∷ [])) its (n + 1) (omega (arith, is, more)) in
    let same : (front ++ (it ∷ [])) ++ its ≡ front ++ (it ∷ its) = append_assoc front (it ∷ []) its in
    let whole = subst (λ (rs : List RoundRecord). flat_map (lines rs) (enumerate_from (n + 1) its) ≡ rounds_from (n + 1) (edits_in (front ++ (it ∷ []))) its) same rest in
    let grown = edits_append front (it ∷ []) in
    let alone = edits_cons it [] in
    let none : edits_in [] ≡ 0 = refl in
    let sum : edits_in (front ++ (it ∷ [])) ≡ edits_in front + accepted_count it.events = omega (arith, grown, alone, none) in
    ap (λ (ls : List (List ℕ)). ls ++ flat_map (lines (front ++ (it ∷ its))) (enumerate_from (n + 1) its)) here
    ∙ ap (λ (ls : List (List ℕ)). round_text (n + 1) (edits_in front) it ++ ls) (whole ∙ ap (λ (k : ℕ). rounds_from (n + 1) k its) sum)

pub rounds_lines_are : (its : List RoundRecord) → rounds_lines its ≡ rounds_from 0 0 its
rounds_lines_are its = numbered_rounds [] its 0 refl
