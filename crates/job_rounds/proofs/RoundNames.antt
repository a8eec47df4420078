-- What an ear has heard behind one round more.
use Rattle.std.proofs.Common.{◌≡◌, ◌∙◌, ℕ, ◌+◌, List, [], ◌∷◌, ◌++◌, length, Option, Some, None, refl, sym, ap, arith, append_assoc, append-nil}
use Rattle.std.specs.Prelude.{option_map}
use Rattle.std.proofs.lemmas.List.Sums.{sum_by-cons}
use Rattle.tc_base.specs.declared.ear.EventName.{EventName}
use Rattle.run_report.specs.declared.rounds.RoundRecord.{RoundRecord}
use Rattle.run_report.specs.Counts.{accepted_count, edits_in}
use Rattle.round_terms.specs.Hearing.{names_of}
use Rattle.job_rounds.specs.Names.{names_from, names_in}

names_more : (number before : ℕ) (its : List RoundRecord) (it : RoundRecord)
    → names_from number before (its ++ it ∷ []) ≡ names_from number before its ++ names_of (number + length its) (before + edits_in its) it.events
names_more number before [] it =
    let a : number ≡ number + 0 = omega arith in
    let b : before ≡ before + 0 = omega arith in
    append-nil (names_of number before it.events) ∙ ap (λ (n : ℕ). names_of n before it.events) a ∙ ap (λ (n : ℕ). names_of (number + 0) n it.events) b
names_more number before (first ∷ its) it =
    let counts : edits_in (first ∷ its) ≡ accepted_count first.events + edits_in its = sum_by-cons (λ (r : RoundRecord). accepted_count r.events) first its in
    let a : number + 1 + length its ≡ number + length (first ∷ its) = omega arith in
    let b : before + accepted_count first.events + edits_in its ≡ before + edits_in (first ∷ its) = omega (arith, counts) in
    ap (λ (names : List EventName). names_of number before first.events ++ names) (names_more (number + 1) (before + accepted_count first.events) its it)
    ∙ ap (λ (n : ℕ). names_of number before first.events ++ (names_from (number + 1) (before + accepted_count first.events) its ++ names_of n (before + accepted_count first.events + edits_in its) it.events)) a
    ∙ ap (λ (n : ℕ). names_of number before first.events ++ (names_from (number + 1) (before + accepted_count first.events) its ++ names_of (number + length (first ∷ its)) n it.events)) b
    ∙ sym (append_assoc (names_of number before first.events) (names_from (number + 1) (before + accepted_count first.events) its) (names_of (number + length (first ∷ its)) (before + edits_in (first ∷ its)) it.events))

twice : (first : Option (List EventName)) (names more all : List EventName) → all ≡ names ++ more
    → option_map (λ (heard : List EventName). heard ++ more) (option_map (λ (heard : List EventName). heard ++ names) first) ≡ option_map (λ (heard : List EventName). heard ++ all) first
twice None names more all is = refl
twice (Some heard) names more all is = ap (λ (xs : List EventName). Some xs) (append_assoc heard names more ∙ ap (λ (xs : List EventName). heard ++ xs) (sym is))

pub heard_more : (first old new : Option (List EventName)) (its : List RoundRecord) (it : RoundRecord) (number before : ℕ) → number ≡ 1 + length its → before ≡ edits_in its
    → old ≡ option_map (λ (heard : List EventName). heard ++ names_in its) first → new ≡ option_map (λ (heard : List EventName). heard ++ names_of number before it.events) old
    → new ≡ option_map (λ (heard : List EventName). heard ++ names_in (its ++ it ∷ [])) first
heard_more first old new its it number before count edits old_is new_is =
    let all : names_in (its ++ it ∷ []) ≡ names_in its ++ names_of number before it.events =
    names_more 1 0 its it ∙ ap (λ (n : ℕ). names_in its ++ names_of n (0 + edits_in its) it.events) (sym count)
    ∙ ap (λ (n : ℕ). names_in its ++ names_of number n it.events) (let same : 0 + edits_in its ≡ before = omega (arith, edits) in same) in
    new_is ∙ ap (option_map (λ (heard : List EventName). heard ++ names_of number before it.events)) old_is
    ∙ twice first (names_in its) (names_of number before it.events) (names_in (its ++ it ∷ [])) all
