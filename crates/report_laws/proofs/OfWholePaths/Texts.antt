-- The lines of events, packets and rounds that are put together.
use Rattle.std.proofs.Common.{◌≡◌, ◌∙◌, ℕ, suc, ◌+◌, List, [], ◌∷◌, ◌++◌, length, sym, ap, append_assoc, arith}
use Rattle.run_report.specs.declared.events.Event.{Event}
use Rattle.run_report.specs.declared.outcomes.Outcome.{Outcome}
use Rattle.run_report.specs.declared.rounds.RoundRecord.{RoundRecord}
use Rattle.run_report.specs.Counts.{accepted_count, edits_in}
use Rattle.run_report.specs.EventTexts.{event_line}
use Rattle.run_report.specs.PacketTexts.{packet_line}
use Rattle.report_laws.proofs.Texts.{accepted_cons, edits_cons, lines_after, packets_from, round_text, rounds_from}

pub lines_after-append : (before : ℕ) (xs ys : List Event) → lines_after before (xs ++ ys) ≡ lines_after before xs ++ lines_after (before + accepted_count xs) ys
lines_after-append before [] ys = let none : before ≡ before + accepted_count [] = omega arith in ap (λ (k : ℕ). lines_after k ys) none
lines_after-append before (x ∷ xs) ys =
    let sum = accepted_cons x xs in
    let same : (before + accepted_count (x ∷ [])) + accepted_count xs ≡ before + accepted_count (x ∷ xs) = omega (arith, sum) in
    ap (λ (ls : List (List ℕ)). event_line before x ∷ ls)
    (lines_after-append (before + accepted_count (x ∷ [])) xs ys ∙ ap (λ (k : ℕ). lines_after (before + accepted_count (x ∷ [])) xs ++ lines_after k ys) same)

pub packets_from-append : (n : ℕ) (xs ys : List Outcome) → packets_from n (xs ++ ys) ≡ packets_from n xs ++ packets_from (n + length xs) ys
packets_from-append n [] ys = let none : n ≡ n + 0 = omega arith in ap (λ (k : ℕ). packets_from k ys) none
packets_from-append n (x ∷ xs) ys =
    let same : (n + 1) + length xs ≡ n + suc (length xs) = omega arith in
    ap (λ (ls : List (List ℕ)). packet_line n x ∷ ls) (packets_from-append (n + 1) xs ys ∙ ap (λ (k : ℕ). packets_from (n + 1) xs ++ packets_from k ys) same)

pub rounds_from-append : (n before : ℕ) (xs ys : List RoundRecord) → rounds_from n before (xs ++ ys) ≡ rounds_from n before xs ++ rounds_from (n + length xs) (before + edits_in xs) ys
rounds_from-append n before [] ys =
    let none : n ≡ n + 0 = omega arith in
    let same : before ≡ before + edits_in [] = omega arith in
    ap (λ (k : ℕ). rounds_from k before ys) none ∙ ap (λ (k : ℕ). rounds_from (n + 0) k ys) same
rounds_from-append n before (x ∷ xs) ys =
    let count : (n + 1) + length xs ≡ n + suc (length xs) = omega arith in
    let cons = edits_cons x xs in
    let sum : (before + accepted_count x.events) + edits_in xs ≡ before + edits_in (x ∷ xs) = omega (arith, cons) in
    ap (λ (ls : List (List ℕ)). round_text (n + 1) before x ++ ls)
    (rounds_from-append (n + 1) (before + accepted_count x.events) xs ys
    ∙ ap (λ (k : ℕ). rounds_from (n + 1) (before + accepted_count x.events) xs ++ rounds_from k ((before + accepted_count x.events) + edits_in xs) ys) count
    ∙ ap (λ (k : ℕ). rounds_from (n + 1) (before + accepted_count x.events) xs ++ rounds_from (n + suc (length xs)) k ys) sum)
    ∙ sym (append_assoc (round_text (n + 1) before x) (rounds_from (n + 1) (before + accepted_count x.events) xs) (rounds_from (n + suc (length xs)) (before + edits_in (x ∷ xs)) ys))
