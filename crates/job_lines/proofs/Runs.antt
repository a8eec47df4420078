-- Whole runs over lines.
use Rattle.std.proofs.Common.{◌≡◌, ◌∙◌, ℕ, ◌+◌, List, [], ◌∷◌, ◌++◌, Option, Some, None, refl, sym, ap, subst, append-nil, arith}
use Rattle.std.specs.Prelude.{map, codes}
use Rattle.std.specs.Option.{option_and_then}
use Rattle.std.proofs.lemmas.List.Sums.{sum_by-cons}
use Rattle.job_lines.specs.declared.job.BatchName.{BatchName}
use Rattle.job_lines.specs.declared.job.CaptureName.{CaptureName}
use Rattle.job_lines.specs.declared.job.Round.{Round}
use Rattle.job_lines.specs.declared.job.Job.{Job}
use Rattle.job_lines.specs.Jobs.{Words, count_line, batch_line, capture_lines, rounds_lines, lines_of, IsJob}
use Rattle.job_lines.specs.Files.{Line, words_in, Spell, Begin, rounds_begun}
use Rattle.job_lines.specs.States.{State, begun_in, job_at}
use Rattle.job_lines.specs.Steps.{round_of, next_state, run}
use Rattle.job_lines.proofs.Languages.{with_rounds, Few, Language, with_none}
use Rattle.job_lines.proofs.Moves.{moves, few_on, round_count, counted, back}
use Rattle.job_lines.proofs.Leading.{leads}

-- ---- a run and its first line
record Split (state : State) (words : Words) (more : List Words) (last : State) : Type 0 where
  next : State
  goes : next_state state words ≡ Some next
  runs : run next more ≡ Some last

split_by : (state : State) (words : Words) (more : List Words) (last : State) (o : Option State) → next_state state words ≡ o → option_and_then (λ (s : State). run s more) o ≡ Some last → Split state words more last
split_by state words more last None is e = absurd (cc e)
split_by state words more last (Some next) is e = record { next = next; goes = is; runs = e }

split : (state : State) (words : Words) (more : List Words) (last : State) → run state (words ∷ more) ≡ Some last → Split state words more last
split state words more last e = split_by state words more last (next_state state words) refl e

-- ---- what a run keeps
pub few_after : (lines : List Words) (state last : State) → Few state → run state lines ≡ Some last → Few last
few_after [] state last few e = subst Few (let is : state ≡ last = cc e in is) few
few_after (words ∷ lines) state last few e =
    let at = split state words lines last e in
    few_after lines at.next last (few_on state words at.next few (moves state words at.next few at.goes)) at.runs

-- the rounds begun are the lines `round`
pub counted_after : (lines : List Line) (state last : State) → Few state → run state (words_in lines) ≡ Some last → begun_in last ≡ begun_in state + rounds_begun lines
counted_after [] state last few e = let is : state ≡ last = cc e in ap begun_in (sym is) ∙ (let none : begun_in state ≡ begun_in state + 0 = omega arith in none)
counted_after (line ∷ lines) state last few e =
    let at = split state line.words (words_in lines) last e in
    let move = moves state line.words at.next few at.goes in
    let later : begun_in last ≡ begun_in at.next + rounds_begun lines = counted_after lines at.next last (few_on state line.words at.next few move) at.runs in
    let first : begun_in at.next ≡ begun_in state + round_count line.words = counted state line.words at.next move in
    let both : rounds_begun (line ∷ lines) ≡ round_count line.words + rounds_begun lines = sum_by-cons (λ (l : Line). round_count l.words) line lines in
    omega arith

-- ---- what follows the lines follows the state that they lead to
pub record Runs (spelled : Job) (state : State) (lines more : List Words) : Type 0 where
  pub last : State
  pub runs : run state lines ≡ Some last
  pub after : Language spelled last more

pub run_to : (spelled : Job) (lines more : List Words) (state : State) → Few state → Language spelled state (lines ++ more) → Runs spelled state lines more
run_to spelled [] more state few h = record { last = state; runs = refl; after = h }
run_to spelled (words ∷ lines) more state few h =
    let led = leads spelled state words (lines ++ more) few h in
    let rest = run_to spelled lines more led.next (few_on state words led.next few (moves state words led.next few led.goes)) led.after in
    record { last = rest.last; runs = ap (option_and_then (λ (s : State). run s lines)) led.goes ∙ rest.runs; after = rest.after }

pub run_from : (spelled : Job) (lines more : List Words) (state last : State) → Few state → run state lines ≡ Some last → Language spelled last more → Language spelled state (lines ++ more)
run_from spelled [] more state last few e h = subst (λ (s : State). Language spelled s more) (let is : last ≡ state = cc e in is) h
run_from spelled (words ∷ lines) more state last few e h =
    let at = split state words lines last e in
    let move = moves state words at.next few at.goes in
    back spelled state words (lines ++ more) at.next move (run_from spelled lines more at.next last (few_on state words at.next few move) at.runs h)

-- ---- runs one behind the other
append_by : (o : Option State) (lines more : List Words) → ((next : State) → run next (lines ++ more) ≡ option_and_then (λ (s : State). run s more) (run next lines))
    → option_and_then (λ (s : State). run s (lines ++ more)) o ≡ option_and_then (λ (s : State). run s more) (option_and_then (λ (s : State). run s lines) o)
append_by None lines more each = refl
append_by (Some next) lines more each = each next

pub run-append : (lines more : List Words) (state : State) → run state (lines ++ more) ≡ option_and_then (λ (s : State). run s more) (run state lines)
run-append [] more state = refl
run-append (words ∷ lines) more state = append_by (next_state state words) lines more (λ next. run-append lines more next)

-- ---- from each state some lines lead to a whole job
record Alive (state : State) : Type 0 where
  spelled : Job
  more : List Words
  spells : Language spelled state more

abbrev least : ℕ → Job
least workers = record { workers = workers; controls = 1; rounds = [] }

alive : (state : State) → Alive state
alive State.Begun = record { spelled = least 1; more = lines_of (least 1); spells = ((omega arith, omega arith, omega arith, omega arith, tt), refl) }
alive State.Headed = record {
  spelled = least 1;
  more = count_line (codes "workers") 1 ∷ count_line (codes "controls") 1 ∷ rounds_lines [];
  spells = ((omega arith, omega arith, omega arith, omega arith, tt), refl);
}
alive (State.Staffed workers) = record {
  spelled = least workers;
  more = count_line (codes "controls") 1 ∷ rounds_lines [];
  spells = (refl, (omega arith, omega arith, tt), refl);
}
alive (State.Ready job) = record {
  spelled = job;
  more = rounds_lines [];
  spells = record { later = []; rounds = tt; whole = sym (with_none job); are = refl };
}
alive (State.Open job batches last) = record {
  spelled = with_rounds job (round_of (batches ++ []) None ∷ []);
  more = rounds_lines [];
  spells = record { more = []; capture = None; later = []; each = tt; rising = tt; named = tt; rounds = tt; whole = refl; are = refl };
}
alive (State.Ended job) = record { spelled = job; more = []; spells = (refl, refl) }

-- ---- the beginnings of jobs
pub begin : (lines : List Line) (state : State) → run State.Begun (words_in lines) ≡ Some state → Begin lines
begin lines state e =
    let life = alive state in
    let whole : IsJob life.spelled × (words_in lines ++ life.more ≡ lines_of life.spelled) = run_from life.spelled (words_in lines) life.more State.Begun state tt e life.spells in
    (life.spelled, whole.0, (life.more, sym whole.1))

pub reached : (lines : List Line) → Begin lines → (state : State) × (run State.Begun (words_in lines) ≡ Some state)
reached lines (job, good, (rest, e)) =
    let there = run_to job (words_in lines) rest State.Begun tt (good, sym e) in
    (there.last, there.runs)

-- ---- whole jobs
-- where no lines may follow, the job has ended
no_rounds : (later : List Round) → [] ≡ rounds_lines later → ⊥
no_rounds [] e = cc e
no_rounds (round ∷ later) e = cc e

no_batches : (more : List BatchName) (capture : Option CaptureName) (later : List Round) → [] ≡ map batch_line more ++ (capture_lines capture ++ rounds_lines later) → ⊥
no_batches [] None later e = no_rounds later e
no_batches [] (Some capture) later e = cc e
no_batches (batch ∷ more) capture later e = cc e

at_end : (spelled : Job) (state : State) → Language spelled state [] → job_at state ≡ Some spelled
at_end spelled State.Begun (good, e) = absurd (cc e)
at_end spelled State.Headed (good, e) = absurd (cc e)
at_end spelled (State.Staffed workers) (same, good, e) = absurd (cc e)
at_end spelled (State.Ready job) h = absurd (no_rounds h.later h.are)
at_end spelled (State.Open job batches last) h = absurd (no_batches h.more h.capture h.later h.are)
at_end spelled (State.Ended job) (whole, e) = ap (λ (j : Job). Some j) (sym whole)

from_end : (state : State) (job : Job) → job_at state ≡ Some job → Language job state []
from_end State.Begun job e = absurd (cc e)
from_end State.Headed job e = absurd (cc e)
from_end (State.Staffed workers) job e = absurd (cc e)
from_end (State.Ready before) job e = absurd (cc e)
from_end (State.Open before batches last) job e = absurd (cc e)
from_end (State.Ended whole) job e = (let is : job ≡ whole = cc e in is, refl)

-- lines that end in a job's state spell it
pub spell : (lines : List Line) (state : State) (job : Job) → run State.Begun (words_in lines) ≡ Some state → job_at state ≡ Some job → Spell lines job
spell lines state job e is =
    let whole : IsJob job × (words_in lines ++ [] ≡ lines_of job) = run_from job (words_in lines) [] State.Begun state tt e (from_end state job is) in
    (whole.0, sym (append-nil (words_in lines)) ∙ whole.1)

-- and lines that spell a job end in its state
pub spelled : (lines : List Line) (job : Job) → Spell lines job → (state : State) × (run State.Begun (words_in lines) ≡ Some state) × (job_at state ≡ Some job)
spelled lines job (good, e) =
    let there = run_to job (words_in lines) [] State.Begun tt (good, append-nil (words_in lines) ∙ e) in
    (there.last, there.runs, at_end job there.last there.after)

-- lines spell one job at most
pub one_job : (lines : List Line) (a b : Job) → Spell lines a → Spell lines b → a ≡ b
one_job lines a b first second =
    let one = spelled lines a first in
    let two = spelled lines b second in
    let same : Some one.0 ≡ Some two.0 = sym one.1 ∙ two.1 in
    let state : one.0 ≡ two.0 = cc same in
    let jobs : Some a ≡ Some b = sym one.2 ∙ ap job_at state ∙ two.2 in
    cc jobs
