-- A file has one reading.
use Rattle.std.proofs.Common.{◌≡◌, ◌∙◌, ℕ, ◌+◌, ◌<◌, ◌≤◌, List, [], ◌++◌, length, take, drop, Some, refl, sym, ap, subst, append_assoc, append-nil, arith, ◌⊎◌, inl, inr}
use Rattle.std.specs.Prelude.{slice_get}
use Rattle.std.proofs.lemmas.Bool.{cases_lt}
use Rattle.std.proofs.lemmas.List.{map-append, take-append-drop, take-take}
use Rattle.std.proofs.lemmas.List.Sums.{sum_by-take-le}
use Rattle.std.proofs.lemmas.Option.{slice_get_within}
use Rattle.job_lines.specs.declared.fault.JobKind.{JobKind}
use Rattle.job_lines.specs.declared.fault.JobKind.TheVariants as kinds
use Rattle.job_lines.specs.declared.job.Job.{Job}
use Rattle.job_lines.specs.Jobs.{Words}
use Rattle.job_lines.specs.Files.{Line, lines_in, words_in, Spell, Begin, most_rounds, rounds_begun, IsBadLine, IsCutShort, IsRoundTooMany, IsJobOf, IsFormFault}
use Rattle.job_lines.proofs.Moves.{round_count}
use Rattle.job_lines.proofs.Runs.{one_job}
use Rattle.job_lines.proofs.Faults.{rounds_spelled}

pub same_job : (bytes : List ℕ) (a b : Job) → IsJobOf bytes a → IsJobOf bytes b → a ≡ b
same_job bytes a b first second = one_job (lines_in bytes) a b first.0 second.0

-- ---- fewer lines begin a job as well, in no more rounds
front_begins : (lines more : List Line) → Begin (lines ++ more) → Begin lines
front_begins lines more (job, good, (rest, e)) =
    (job, good, (words_in more ++ rest, e ∙ ap (λ (ls : List Words). ls ++ rest) (map-append (λ (l : Line). l.words) lines more) ∙ append_assoc (words_in lines) (words_in more) rest))

split_take : (lines : List Line) (p q : ℕ) → p ≤ q → take q lines ≡ take p lines ++ drop p (take q lines)
split_take lines p q le = sym (ap (λ (ls : List Line). ls ++ drop p (take q lines)) (sym (take-take p q lines le)) ∙ take-append-drop p (take q lines))

begins_before : (lines : List Line) (p q : ℕ) → p ≤ q → Begin (take q lines) → Begin (take p lines)
begins_before lines p q le begun = front_begins (take p lines) (drop p (take q lines)) (subst Begin (split_take lines p q le) begun)

rounds_before : (lines : List Line) (p q : ℕ) → p ≤ q → rounds_begun (take p lines) ≤ rounds_begun (take q lines)
rounds_before lines p q le = subst (λ (ls : List Line). rounds_begun ls ≤ rounds_begun (take q lines)) (take-take p q lines le) (sum_by-take-le (λ (l : Line). round_count l.words) (take q lines) p)

-- the lines of a job begin it
spelled_begins : (lines : List Line) (job : Job) (p : ℕ) → Spell lines job → Begin (take p lines)
spelled_begins lines job p (good, e) =
    let whole : Begin lines = (job, good, ([], sym e ∙ sym (append-nil (words_in lines)))) in
    front_begins (take p lines) (drop p lines) (subst Begin (sym (take-append-drop p lines)) whole)

-- ---- a job has no fault
pub no_fault : (bytes : List ℕ) (job : Job) (line : ℕ) (kind : JobKind) → IsJobOf bytes job → IsFormFault bytes line kind → ⊥
no_fault bytes job line kinds.JobSyntax (spells, few) (inl bad) = bad.bad (spelled_begins (lines_in bytes) job (bad.place + 1) spells)
no_fault bytes job line kinds.JobSyntax (spells, few) (inr cut) = cut.short job spells
no_fault bytes job line kinds.TooManyRounds (spells, few) many =
    let rounds : rounds_begun (lines_in bytes) ≡ length job.rounds = rounds_spelled (lines_in bytes) job spells in
    let past : rounds_begun (take (many.place + 1) (lines_in bytes)) ≡ most_rounds + 1 = many.past in
    let front : rounds_begun (take (many.place + 1) (lines_in bytes)) ≤ rounds_begun (lines_in bytes) = sum_by-take-le (λ (l : Line). round_count l.words) (lines_in bytes) (many.place + 1) in
    omega arith

-- ---- a file has one first fault
-- lines that begin a job hold no bad line
beside_bad : (lines : List Line) (number q : ℕ) (bad : IsBadLine lines number) → Begin (take q lines) → q ≤ bad.place
beside_bad lines number q bad begun = by (cases_lt bad.place q)
  where
    by : (bad.place < q) ⊎ (q ≤ bad.place) → q ≤ bad.place
    by (inl before) = absurd (bad.bad (begins_before lines (bad.place + 1) q (omega arith) begun))
    by (inr not_before) = not_before

-- lines of no more rounds than may be hold no round too many
beside_many : (lines : List Line) (number q : ℕ) (many : IsRoundTooMany lines number) → rounds_begun (take q lines) ≤ most_rounds → q ≤ many.place
beside_many lines number q many few = by (cases_lt many.place q)
  where
    by : (many.place < q) ⊎ (q ≤ many.place) → q ≤ many.place
    by (inl before) =
        let past : rounds_begun (take (many.place + 1) lines) ≡ most_rounds + 1 = many.past in
        absurd (omega (arith, rounds_before lines (many.place + 1) q (omega arith)))
    by (inr not_before) = not_before

-- the line at one place is one
same_line : (lines : List Line) (p q : ℕ) (a b : Line) → p ≡ q → slice_get lines p ≡ Some a → slice_get lines q ≡ Some b → a.number ≡ b.number
same_line lines p q a b same first second =
    let two : Some a ≡ Some b = sym first ∙ ap (slice_get lines) same ∙ second in
    let is : a ≡ b = cc two in
    ap (λ (l : Line). l.number) is

two_bad : (lines : List Line) (a b : ℕ) → IsBadLine lines a → IsBadLine lines b → a ≡ b
two_bad lines a b first second =
    let up : second.place ≤ first.place = beside_bad lines a second.place first (second.good.0) in
    let down : first.place ≤ second.place = beside_bad lines b first.place second (first.good.0) in
    first.is ∙ same_line lines first.place second.place first.line second.line (omega arith) first.there second.there ∙ sym second.is

two_many : (lines : List Line) (a b : ℕ) → IsRoundTooMany lines a → IsRoundTooMany lines b → a ≡ b
two_many lines a b first second =
    let up : second.place ≤ first.place = beside_many lines a second.place first (second.good.1) in
    let down : first.place ≤ second.place = beside_many lines b first.place second (first.good.1) in
    first.is ∙ same_line lines first.place second.place first.line second.line (omega arith) first.there second.there ∙ sym second.is

bad_and_cut : {A : Type 0} (bytes : List ℕ) (a b : ℕ) → IsBadLine (lines_in bytes) a → IsCutShort bytes b → A
bad_and_cut bytes a b bad cut =
    let over : length (lines_in bytes) ≤ bad.place = beside_bad (lines_in bytes) a (length (lines_in bytes)) bad (cut.good.0) in
    absurd (omega (arith, slice_get_within (lines_in bytes) bad.place bad.line bad.there))

many_and_cut : {A : Type 0} (bytes : List ℕ) (a b : ℕ) → IsRoundTooMany (lines_in bytes) a → IsCutShort bytes b → A
many_and_cut bytes a b many cut =
    let over : length (lines_in bytes) ≤ many.place = beside_many (lines_in bytes) a (length (lines_in bytes)) many (cut.good.1) in
    absurd (omega (arith, slice_get_within (lines_in bytes) many.place many.line many.there))

bad_and_many : {A : Type 0} (lines : List Line) (a b : ℕ) → IsBadLine lines a → IsRoundTooMany lines b → A
bad_and_many lines a b bad many =
    let up : many.place + 1 ≤ bad.place = beside_bad lines a (many.place + 1) bad many.begins in
    let down : bad.place ≤ many.place = beside_many lines b bad.place many (bad.good.1) in
    absurd (omega arith)

pub one_fault : (bytes : List ℕ) (a b : ℕ) (kind other : JobKind) → IsFormFault bytes a kind → IsFormFault bytes b other → (a ≡ b) × (kind ≡ other)
one_fault bytes a b kinds.JobSyntax kinds.JobSyntax (inl first) (inl second) = (two_bad (lines_in bytes) a b first second, refl)
one_fault bytes a b kinds.JobSyntax kinds.JobSyntax (inl bad) (inr cut) = bad_and_cut bytes a b bad cut
one_fault bytes a b kinds.JobSyntax kinds.JobSyntax (inr cut) (inl bad) = bad_and_cut bytes b a bad cut
one_fault bytes a b kinds.JobSyntax kinds.JobSyntax (inr first) (inr second) = (first.is ∙ sym second.is, refl)
one_fault bytes a b kinds.JobSyntax kinds.TooManyRounds (inl bad) many = bad_and_many (lines_in bytes) a b bad many
one_fault bytes a b kinds.JobSyntax kinds.TooManyRounds (inr cut) many = many_and_cut bytes b a many cut
one_fault bytes a b kinds.TooManyRounds kinds.JobSyntax many (inl bad) = bad_and_many (lines_in bytes) b a bad many
one_fault bytes a b kinds.TooManyRounds kinds.JobSyntax many (inr cut) = many_and_cut bytes a b many cut
one_fault bytes a b kinds.TooManyRounds kinds.TooManyRounds first second = (two_many (lines_in bytes) a b first second, refl)
