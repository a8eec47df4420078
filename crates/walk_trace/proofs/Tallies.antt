-- Counts of edits, and how many there are.
use Rattle.std.proofs.Common.{◌≡◌, ◌∙◌, ℕ, ◌+◌, ◌≤◌, ◌==◌, cond, List, ◌++◌, length, Option, Some, None, ap, arith}
use Rattle.std.proofs.lemmas.List.{length-append}
use Rattle.std.proofs.lemmas.List.Sums.{sum_by-append}
use Rattle.walk_rules.specs.declared.limits.TheConstants.{VISITS_MAX}
use Rattle.trace_lines.specs.Lines.{listed}
use Rattle.walk_trace.specs.Tallies.{times_in}

pub times_more : (one more : List ℕ) (edit : ℕ) → times_in (one ++ more) edit ≡ times_in one edit + times_in more edit
times_more one more edit = sum_by-append (λ (e : ℕ). cond (e == edit) 1 0) one more

-- ---- a visit lists one edit at most
listed_once : (edit : Option ℕ) → length (listed edit) ≤ 1
listed_once None = omega arith
listed_once (Some edit) = omega arith

pub few_more : (edit : Option ℕ) (decided later : List ℕ) (first visits : ℕ) → length decided ≤ first + visits → later ≡ decided ++ listed edit → length later ≤ first + (visits + 1)
few_more edit decided later first visits few grown =
    let size : length later ≡ length decided + length (listed edit) = ap length grown ∙ length-append decided (listed edit) in
    let once = listed_once edit in
    omega (arith, few, size, once)

pub few_all : (first count visits : ℕ) → count ≤ first + visits → visits ≤ VISITS_MAX → count ≤ first + VISITS_MAX
few_all first count visits few most = omega (arith, few, most)
