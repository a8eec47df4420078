-- Each file says a job or has a fault.
use Rattle.std.proofs.Common.{◌≡◌, ◌∙◌, ℕ, zero, suc, ◌+◌, ◌<◌, ◌≤◌, List, [], ◌∷◌, length, get_or, Option, Some, None, refl, subst, arith, ◌⊎◌, inl, inr}
use Rattle.std.proofs.lemmas.Bool.{cases_lt}
use Rattle.tc_words.specs.Lines.{lines_of as file_lines, words_of}
use Rattle.job_lines.specs.declared.fault.JobFault.TheVariants as faults
use Rattle.job_lines.specs.declared.fault.JobKind.{JobKind}
use Rattle.job_lines.specs.declared.fault.JobKind.TheVariants as kinds
use Rattle.job_lines.specs.declared.job.Job.{Job}
use Rattle.job_lines.specs.Files.{words_in, most_rounds, IsJobOf, IsFormFault}
use Rattle.job_lines.specs.States.{State, begun_in, job_at}
use Rattle.job_lines.specs.Steps.{run, after_line, IsWithin}
use Rattle.job_lines.proofs.FileLines.{front, turn}
use Rattle.job_lines.proofs.Faults.{line_fault, job_of_file, cut_short}

abbrev Fault : List ℕ → Type 0
Fault bytes = (line : ℕ) × ((kind : JobKind) × IsFormFault bytes line kind)

-- the lines up to a place lead to a state, or there is a fault
abbrev Reached : List ℕ → ℕ → Type 0
Reached bytes i = ((state : State) × (run State.Begun (words_in (front (file_lines bytes) i)) ≡ Some state) × IsWithin state) ⊎ Fault bytes

-- within a list it says nothing what stands past its end
within_same : (texts : List (List ℕ)) (i : ℕ) (d e : List ℕ) → i < length texts → get_or texts i d ≡ get_or texts i e
within_same [] i d e lt = absurd (omega arith)
within_same (text ∷ texts) zero d e lt = refl
within_same (text ∷ texts) (suc i) d e lt = within_same texts i d e (omega arith)

behind : (bytes : List ℕ) (i : ℕ) (text : List ℕ) (state : State) → i < length (file_lines bytes) → text ≡ get_or (file_lines bytes) i text → run State.Begun (words_in (front (file_lines bytes) i)) ≡ Some state → IsWithin state
    → (o : Option State) → after_line state (words_of text) ≡ o → Reached bytes (i + 1)
behind bytes i text state lt is ran within None e =
    inr (i + 1, (kinds.JobSyntax, line_fault bytes i text state (faults.Form (i + 1) kinds.JobSyntax) lt is ran within (refl, e)))
behind bytes i text state lt is ran within (Some next) e = by (cases_lt most_rounds (begun_in next))
  where
    by : (most_rounds < begun_in next) ⊎ (begun_in next ≤ most_rounds) → Reached bytes (i + 1)
    by (inl past) = inr (i + 1, (kinds.TooManyRounds, line_fault bytes i text state (faults.Form (i + 1) kinds.TooManyRounds) lt is ran within (refl, (next, e, past))))
    by (inr few) = inl (next, turn (file_lines bytes) i text state lt is ran ∙ e, few)

one_on : (bytes : List ℕ) (i : ℕ) → i < length (file_lines bytes) → Reached bytes i → Reached bytes (i + 1)
one_on bytes i lt (inl (state, ran, within)) =
    let text = get_or (file_lines bytes) i [] in
    behind bytes i text state lt (within_same (file_lines bytes) i [] text lt) ran within (after_line state (words_of text)) refl
one_on bytes i lt (inr fault) = inr fault

reached_at : (bytes : List ℕ) (i : ℕ) → i ≤ length (file_lines bytes) → Reached bytes i
reached_at bytes zero le = inl (State.Begun, refl, omega arith)
reached_at bytes (suc i) le = subst (Reached bytes) (let same : i + 1 ≡ suc i = omega arith in same) (one_on bytes i (omega arith) (reached_at bytes i (omega arith)))

abbrev Answer : List ℕ → Type 0
Answer bytes = ((job : Job) × IsJobOf bytes job) ⊎ Fault bytes

at_end : (bytes : List ℕ) (state : State) → run State.Begun (words_in (front (file_lines bytes) (length (file_lines bytes)))) ≡ Some state → IsWithin state → (o : Option Job) → job_at state ≡ o → Answer bytes
at_end bytes state ran within None e =
    inr (length (file_lines bytes) + 1, (kinds.JobSyntax, cut_short bytes (length (file_lines bytes)) (length (file_lines bytes) + 1) state (omega arith) ran within e refl))
at_end bytes state ran within (Some job) e = inl (job, job_of_file bytes (length (file_lines bytes)) state job (omega arith) ran within e)

pub answered : (bytes : List ℕ) → Answer bytes
answered bytes = from_end (reached_at bytes (length (file_lines bytes)) (omega arith))
  where
    from_end : Reached bytes (length (file_lines bytes)) → Answer bytes
    from_end (inl (state, ran, within)) = at_end bytes state ran within (job_at state) refl
    from_end (inr fault) = inr fault
