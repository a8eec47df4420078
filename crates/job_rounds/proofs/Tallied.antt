-- The packets of a round are counted one after the other.
use Rattle.std.proofs.Common.{◌≡◌, ◌∙◌, ℕ, zero, suc, ◌+◌, ◌<◌, ◌^◌, List, [], ◌∷◌, ◌++◌, length, take, drop, get_or, Some, refl, sym, ap, subst, arith, append_assoc, append-nil, length-append}
use Rattle.std.specs.List.{slice_get}
use Rattle.std.proofs.lemmas.List.{length-take, take_more, take-append-drop}
use Rattle.filter_state.specs.Sound.{Each}
use Rattle.walk_ends.specs.declared.counts.Count.{Count}
use Rattle.walk_steps.specs.Told.{IsShortRun}
use Rattle.run_report.specs.declared.outcomes.Outcome.{Outcome}
use Rattle.run_report.specs.declared.rounds.RoundRecord.{RoundRecord}
use Rattle.lawful_runs.specs.Lawful.{executed_in, outcomes_in}
use Rattle.run_counts.specs.Counting.{count_of, counted_in, both, AreAtMost}
use Rattle.run_counts.proofs.Tallies.{counted_append, are_at_most}
use Rattle.job_rounds.specs.Counted.{AreCounted, AreOfRun}
use Rattle.job_rounds.proofs.RoundPackets.{one_taken}
use Rattle.job_rounds.proofs.Ready.{within_by}

abbrev AreShort : List Outcome → Type 0
AreShort outcomes = Each (λ (outcome : Outcome). IsShortRun outcome.executed) outcomes

front : (xs ys : List Outcome) (k : ℕ) → AreShort (xs ++ ys) → AreShort (xs ++ take k ys)
front [] ys zero each = tt
front [] [] (suc k) each = tt
front [] (y ∷ ys) (suc k) each = (each.0, front [] ys k each.1)
front (x ∷ xs) ys k each = (each.0, front xs ys k each.1)

one_behind : (xs ys : List Outcome) (at : ℕ) (outcome : Outcome) → AreShort (xs ++ ys) → slice_get ys at ≡ Some outcome → IsShortRun outcome.executed
one_behind [] [] at outcome each is = absurd (cc is)
one_behind [] (y ∷ ys) zero outcome each is = (let same : y ≡ outcome = cc is in subst (λ (o : Outcome). IsShortRun o.executed) same each.0)
one_behind [] (y ∷ ys) (suc at) outcome each is = one_behind [] ys at outcome each.1 is
one_behind (x ∷ xs) ys at outcome each is = one_behind xs ys at outcome each.1 is

pub one_short : (before outcomes : List Outcome) (at : ℕ) (outcome : Outcome) → AreOfRun (before ++ outcomes) → slice_get outcomes at ≡ Some outcome → IsShortRun outcome.executed
one_short before outcomes at outcome are is = one_behind before outcomes at outcome are.short is

-- as long as a packet is left the counts have room
pub have_room : (before outcomes : List Outcome) (at : ℕ) (outcome : Outcome) (counts : List Count) → AreOfRun (before ++ outcomes) → slice_get outcomes at ≡ Some outcome → AreCounted (before ++ take at outcomes) counts → AreAtMost (2 ^ 62) counts
have_room before outcomes at outcome counts are is counted =
    let all = length-append before outcomes in
    let some = length-append before (take at outcomes) in
    let part = length-take at outcomes in
    let within = within_by outcomes at outcome is in
    let few = are.few in
    are_at_most counts (before ++ take at outcomes) counted (front before outcomes at are.short) (omega (arith, all, some, part, within, few))

executed_more : (outcomes : List Outcome) (outcome : Outcome) → executed_in (outcomes ++ outcome ∷ []) ≡ executed_in outcomes ++ outcome.executed
executed_more [] outcome = append-nil outcome.executed
executed_more (first ∷ outcomes) outcome = ap (λ (es : List (ℕ × ℕ)). first.executed ++ es) (executed_more outcomes outcome) ∙ sym (append_assoc first.executed (executed_in outcomes) outcome.executed)

pub one_more : (before outcomes : List Outcome) (at : ℕ) (outcome : Outcome) (counts now : List Count) → slice_get outcomes at ≡ Some outcome → AreCounted (before ++ take at outcomes) counts
    → ((serial : ℕ) → count_of now serial ≡ both (count_of counts serial) (counted_in outcome.executed serial)) → AreCounted (before ++ take (at + 1) outcomes) now
one_more before outcomes at outcome counts now is counted added serial =
    let next : at + 1 ≡ suc at = omega arith in
    let more : before ++ take (at + 1) outcomes ≡ (before ++ take at outcomes) ++ outcome ∷ [] =
    ap (λ (n : ℕ). before ++ take n outcomes) next ∙ ap (λ (os : List Outcome). before ++ os) (one_taken outcomes at outcome is) ∙ sym (append_assoc before (take at outcomes) (outcome ∷ [])) in
    added serial ∙ ap (λ (c : Count). both c (counted_in outcome.executed serial)) (counted serial)
    ∙ sym (counted_append (executed_in (before ++ take at outcomes)) outcome.executed serial)
    ∙ ap (λ (es : List (ℕ × ℕ)). counted_in es serial) (sym (ap executed_in more ∙ executed_more (before ++ take at outcomes) outcome))

-- ---- round by round
outcomes_append : (xs ys : List RoundRecord) → outcomes_in (xs ++ ys) ≡ outcomes_in xs ++ outcomes_in ys
outcomes_append [] ys = refl
outcomes_append (x ∷ xs) ys = ap (λ (os : List Outcome). x.outcomes ++ os) (outcomes_append xs ys) ∙ sym (append_assoc x.outcomes (outcomes_in xs) (outcomes_in ys))

pub rounds_taken : (rounds : List RoundRecord) (at : ℕ) (d : RoundRecord) → at < length rounds → outcomes_in (take (at + 1) rounds) ≡ outcomes_in (take at rounds) ++ (get_or rounds at d).outcomes
rounds_taken rounds at d less =
    ap outcomes_in (take_more rounds at d less) ∙ outcomes_append (take at rounds) (get_or rounds at d ∷ [])
    ∙ ap (λ (os : List Outcome). outcomes_in (take at rounds) ++ os) (append-nil (get_or rounds at d).outcomes)

first_short : (xs ys : List Outcome) → AreShort (xs ++ ys) → AreShort xs
first_short [] ys each = tt
first_short (x ∷ xs) ys each = (each.0, first_short xs ys each.1)

pub some_of_run : (rounds : List RoundRecord) (count : ℕ) → AreOfRun (outcomes_in rounds) → AreOfRun (outcomes_in (take count rounds))
some_of_run rounds count are =
    let parts : outcomes_in rounds ≡ outcomes_in (take count rounds) ++ outcomes_in (drop count rounds) = ap outcomes_in (sym (take-append-drop count rounds)) ∙ outcomes_append (take count rounds) (drop count rounds) in
    let all = ap length parts ∙ length-append (outcomes_in (take count rounds)) (outcomes_in (drop count rounds)) in
    let few = are.few in
    record {
      few = omega (arith, all, few);
      short = first_short (outcomes_in (take count rounds)) (outcomes_in (drop count rounds)) (subst AreShort parts are.short);
    }
