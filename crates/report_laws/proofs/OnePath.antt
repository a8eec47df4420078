-- Lines have one path: no line of it leads to two stands.
use Rattle.std.proofs.Common.{◌≡◌, ◌∙◌, ℕ, ◌<◌, ◌≤◌, ◌^◌, List, [], ◌∷◌, ◌++◌, length, Some, None, refl, sym, ap, subst, arith, inl, inr}
use Rattle.std.specs.Prelude.{Option}
use Rattle.std.specs.List.{slice_get}
use Rattle.std.proofs.lemmas.List.{length-append}
use Rattle.filter_state.specs.declared.edit.Edit.{Edit}
use Rattle.run_report.specs.declared.rounds.RoundRecord.{RoundRecord}
use Rattle.lawful_runs.specs.declared.loaded.LoadedJob.{LoadedJob}
use Rattle.lawful_runs.specs.Given.{GivenRound, IsLoaded, given_rounds}
use Rattle.report_laws.specs.Stands.{Stand, start, opening, inside, closing, settled_at, TakesIn, Takes, IsPath, journal_length}
use Rattle.report_laws.proofs.Deciding.{one_next}

-- ---- the journal only grows
settled_length : (o : Option GivenRound) (its : List RoundRecord) (journal : List Edit) → journal_length (settled_at o its journal) ≡ length journal
settled_length None its journal = refl
settled_length (Some round) its journal = refl

grows_in : (loaded : LoadedJob) (round : GivenRound) (its : List RoundRecord) (before : List Edit) (it : RoundRecord) (edits : List Edit) (line : List ℕ) (next : Stand)
    → TakesIn loaded round its before it edits line next → length (before ++ edits) ≤ journal_length next
grows_in loaded round its before it edits line next (inl takes) =
    let same = ap journal_length takes.then in
    let whole = length-append before edits in
    let longer = length-append before (edits ++ takes.own) in
    let more = length-append edits takes.own in
    omega (arith, same, whole, longer, more)
grows_in loaded round its before it edits line next (inr (inl takes)) = let same = ap journal_length takes.then in omega (arith, same)
grows_in loaded round its before it edits line next (inr (inr takes)) =
    let same = ap journal_length takes.then in
    let settles = settled_length (slice_get (given_rounds loaded) (length (its ++ (it ∷ [])))) (its ++ (it ∷ [])) (before ++ edits) in
    omega (arith, same, settles)

grows : (loaded : LoadedJob) (stand next : Stand) (line : List ℕ) → Takes loaded stand line next → journal_length stand ≤ journal_length next
grows loaded start next line takes = omega arith
grows loaded (opening its journal) next line takes =
    let same = ap journal_length takes.1 in
    let none = length-append journal [] in
    omega (arith, same, none)
grows loaded (inside its before it edits) next line (round, given, takes) = grows_in loaded round its before it edits line next takes
grows loaded (closing run journal []) next line takes = absurd takes
grows loaded (closing run journal (l ∷ left)) next line takes = let same = ap journal_length takes.1 in omega (arith, same)

pub path_grows : (loaded : LoadedJob) (stand end : Stand) (lines : List (List ℕ)) → IsPath loaded stand lines end → journal_length stand ≤ journal_length end
path_grows loaded stand end [] path = let same = ap journal_length path in omega (arith, same)
path_grows loaded stand end (line ∷ lines) (next, takes, rest) =
    let one = grows loaded stand next line takes in
    let more = path_grows loaded next end lines rest in
    omega (arith, one, more)

-- ---- two paths of the same lines end at one stand
pub one_path : (loaded : LoadedJob) (stand a b : Stand) (lines : List (List ℕ)) → IsLoaded loaded → journal_length a < 2 ^ 64 → IsPath loaded stand lines a → IsPath loaded stand lines b → a ≡ b
one_path loaded stand a b [] is short first second = first ∙ sym second
one_path loaded stand a b (line ∷ lines) is short (next, takes, rest) (other, again, more) =
    let one = grows loaded stand next line takes in
    let whole = path_grows loaded next a lines rest in
    let same : other ≡ next = one_next loaded stand other next line is (omega (arith, one, whole, short)) again takes in
    one_path loaded next a b lines is short rest (subst (λ (s : Stand). IsPath loaded s lines b) same more)
