-- What is counted in a run is what is counted of its plain walks.
use Rattle.std.proofs.Common.{◌≡◌, ◌∙◌, ℕ, zero, suc, ◌+◌, ◌-◌, ◌<◌, ◌≤◌, List, [], ◌∷◌, length, map, get_or, refl, sym, ap, ap₂, arith}
use Rattle.std.specs.Prelude.{◌==◌, if◌then◌else◌}
use Rattle.std.specs.List.{sum_by}
use Rattle.std.proofs.lemmas.List.Sums.{sum_by-cons}
use Rattle.filter_state.specs.Sound.{Each}
use Rattle.walk_rules.specs.declared.verdict.Verdict.{Verdict}
use Rattle.walk_rules.specs.Steps.{Execution}
use Rattle.walk_rules.specs.Walks.{Outcome as WalkOutcome}
use Rattle.walk_ends.specs.Passing.{is_pass}
use Rattle.walk_ends.specs.declared.counts.Count.{Count}
use Rattle.walk_texts.specs.Texts.{counter_line}
use Rattle.batch_run.specs.declared.made_action.MadeAction.{MadeAction}
use Rattle.capture_walk.specs.declared.ends.PacketEnd.{PacketEnd}
use Rattle.capture_walk.specs.Captures.{end_of, count_at, counts_from, counts_of}
use Rattle.batch_walk.specs.Texts.{nothing_counted, counter_lines as walk_lines}
use Rattle.batch_walk.specs.Walked.{passed_count as walks_passed}
use Rattle.run_report.specs.declared.outcomes.Outcome.{Outcome}
use Rattle.run_report.specs.Counts.{passed_count}
use Rattle.run_report.specs.Reports.{counter_lines}
use Rattle.lawful_runs.specs.Lawful.{counter_of}
use Rattle.tool_run.specs.OfQuietJobs.Ends.{AreRecordsOf}
use Rattle.tool_run.proofs.OfQuietJobs.Replayed.{pairs_of}

-- ---- packets
pub same_length : (outcomes : List Outcome) (walks : List WalkOutcome) → AreRecordsOf outcomes walks → length outcomes ≡ length (map end_of walks)
same_length [] [] are = refl
same_length [] (walk ∷ walks) are = absurd are
same_length (outcome ∷ outcomes) [] are = absurd are
same_length (outcome ∷ outcomes) (walk ∷ walks) are = ap suc (same_length outcomes walks are.1)

pub same_count : (outcomes : List Outcome) (walks : List WalkOutcome) → AreRecordsOf outcomes walks → passed_count outcomes ≡ walks_passed (map end_of walks)
same_count [] [] are = refl
same_count [] (walk ∷ walks) are = absurd are
same_count (outcome ∷ outcomes) [] are = absurd are
same_count (outcome ∷ outcomes) (walk ∷ walks) are =
    sum_by-cons (λ (o : Outcome). if is_pass o.verdict then 1 else 0) outcome outcomes
    ∙ ap₂ (λ (v : Verdict) (n : ℕ). (if is_pass v then 1 else 0) + n) are.0.verdict (same_count outcomes walks are.1)
    ∙ sym (sum_by-cons (λ (e : PacketEnd). if is_pass e.verdict then 1 else 0) (end_of walk) (map end_of walks))

-- ---- executions
sum_pairs : (f : ℕ × ℕ → ℕ) (executed : List Execution) → sum_by f (pairs_of executed) ≡ sum_by (λ (e : Execution). f (e.serial, e.length)) executed
sum_pairs f [] = refl
sum_pairs f (e ∷ executed) =
    sum_by-cons f (e.serial, e.length) (pairs_of executed)
    ∙ ap (λ (n : ℕ). f (e.serial, e.length) + n) (sum_pairs f executed)
    ∙ sym (sum_by-cons (λ (x : Execution). f (x.serial, x.length)) e executed)

-- the counts of an action, as a run tells them
abbrev counted : List (ℕ × ℕ) → ℕ → Count
counted executed serial = record {
  packets = sum_by (λ (e : ℕ × ℕ). if e.0 == serial then 1 else 0) executed;
  bytes = sum_by (λ (e : ℕ × ℕ). if e.0 == serial then e.1 else 0) executed;
}

same_counts : (executed : List Execution) (serial : ℕ) → counted (pairs_of executed) serial ≡ count_at executed serial
same_counts executed serial =
    let count : ℕ → ℕ → Count = λ packets bytes. record { packets = packets; bytes = bytes } in
    ap₂ count (sum_pairs (λ (e : ℕ × ℕ). if e.0 == serial then 1 else 0) executed) (sum_pairs (λ (e : ℕ × ℕ). if e.0 == serial then e.1 else 0) executed)

-- the count at a place of those by serial
count_there : (first actions place : ℕ) (executed : List Execution) → place < actions → get_or (counts_from first actions executed) place nothing_counted ≡ count_at executed (first + place)
count_there first zero place executed within = absurd (omega (arith, within))
count_there first (suc more) zero executed within = let same : first ≡ first + 0 = omega arith in ap (count_at executed) same
count_there first (suc more) (suc place) executed within =
    let same : first + 1 + place ≡ first + suc place = omega arith in
    count_there (first + 1) more place executed (omega (arith, within)) ∙ ap (count_at executed) same

one_line : (actions : ℕ) (executed : List Execution) (made : MadeAction) → (1 ≤ made.serial) × (made.serial ≤ actions)
    → counter_line made (counted (pairs_of executed) made.serial) ≡ counter_line made (get_or (counts_of actions executed) (made.serial - 1) nothing_counted)
one_line actions executed made is =
    let at : 1 + (made.serial - 1) ≡ made.serial = omega (arith, is.0) in
    ap (counter_line made)
    (same_counts executed made.serial ∙ sym (count_there 1 actions (made.serial - 1) executed (omega (arith, is.0, is.1)) ∙ ap (count_at executed) at))

-- THE LINES OF THE COUNTERS
pub same_lines : (actions : ℕ) (executed : List Execution) (made : List MadeAction) → Each (λ (action : MadeAction). (1 ≤ action.serial) × (action.serial ≤ actions)) made
    → counter_lines (map (counter_of (pairs_of executed)) made) ≡ walk_lines made (counts_of actions executed)
same_lines actions executed [] each = refl
same_lines actions executed (action ∷ made) each =
    ap₂ (λ (line : List ℕ) (lines : List (List ℕ)). line ∷ lines) (one_line actions executed action each.0) (same_lines actions executed made each.1)
