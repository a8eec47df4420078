-- The first fault of a file, by the run up to it.
use Rattle.std.proofs.Common.{◌≡◌, ◌∙◌, ℕ, ◌+◌, ◌<◌, ◌≤◌, Bool, true, false, List, [], ◌∷◌, ◌++◌, length, take, get_or, Option, Some, None, refl, sym, ap, subst, arith, inl, inr}
use Rattle.std.specs.Prelude.{◌==◌, slice_get, if◌then◌else◌}
use Rattle.std.proofs.Math.Seq.{take-append_seam, take-append-add}
use Rattle.std.proofs.lemmas.List.{take_all}
use Rattle.tc_words.specs.Lines.{lines_of as file_lines, words_of}
use Rattle.tc_words.specs.Texts.{words_are}
use Rattle.job_lines.specs.declared.fault.JobFault.{JobFault}
use Rattle.job_lines.specs.declared.fault.JobFault.TheVariants as faults
use Rattle.job_lines.specs.declared.fault.JobKind.TheVariants as kinds
use Rattle.job_lines.specs.declared.job.Job.{Job}
use Rattle.job_lines.specs.Jobs.{round_line}
use Rattle.job_lines.specs.Files.{Line, lines_from, lines_in, words_in, Spell, Begin, most_rounds, rounds_begun, IsGoodBefore, IsBadLine, IsRoundTooMany, IsJobOf, IsFaultOf}
use Rattle.job_lines.specs.States.{State, begun_in, job_at}
use Rattle.job_lines.specs.Steps.{next_state, run, IsWithin, LineFails}
use Rattle.job_lines.proofs.Moves.{moves, round_count, counted}
use Rattle.job_lines.proofs.Runs.{few_after, counted_after, begin, reached, spell, spelled}
use Rattle.job_lines.proofs.FileLines.{front, one_more, stands}

-- ---- a line between lines
at_place : (before : List Line) (line : Line) (back : List Line) → slice_get (before ++ (line ∷ back)) (length before) ≡ Some line
at_place [] line back = refl
at_place (first ∷ before) line back = at_place before line back

up_to : (before : List Line) (line : Line) (back : List Line) → take (length before + 1) (before ++ (line ∷ back)) ≡ before ++ (line ∷ [])
up_to before line back = take-append-add before (line ∷ back) 1

-- lines that lead to a state begin a job, in as many rounds as it has
good_lines : (lines : List Line) (state : State) → run State.Begun (words_in lines) ≡ Some state → IsWithin state → Begin lines × (rounds_begun lines ≤ most_rounds)
good_lines lines state e within = (begin lines state e, omega (arith, counted_after lines State.Begun state tt e))

good_before : (before : List Line) (line : Line) (back : List Line) (state : State) → run State.Begun (words_in before) ≡ Some state → IsWithin state → IsGoodBefore (before ++ (line ∷ back)) (length before)
good_before before line back state e within =
    subst (λ (lines : List Line). Begin lines × (rounds_begun lines ≤ most_rounds)) (sym (take-append_seam before (line ∷ back))) (good_lines before state e within)

-- ---- a line that the state refuses
bad_line : (before : List Line) (line : Line) (back : List Line) (state : State) → run State.Begun (words_in before) ≡ Some state → IsWithin state → next_state state line.words ≡ None → IsBadLine (before ++ (line ∷ back)) line.number
bad_line before line back state e within stops = record {
  place = length before;
  line = line;
  there = at_place before line back;
  good = good_before before line back state e within;
  bad = λ begun.
      let there = reached (before ++ (line ∷ [])) (subst Begin (up_to before line back) begun) in
      let none : None ≡ Some there.0 = sym (one_more before line state e ∙ stops) ∙ there.1 in
      cc none;
  is = refl;
}

-- ---- a line that begins a round too many
one_at_most : (b : Bool) → (if b then 1 else 0) ≤ 1
one_at_most true = omega arith
one_at_most false = omega arith

round_too_many : (before : List Line) (line : Line) (back : List Line) (state next : State) → run State.Begun (words_in before) ≡ Some state → IsWithin state → next_state state line.words ≡ Some next → most_rounds < begun_in next
    → IsRoundTooMany (before ++ (line ∷ back)) line.number
round_too_many before line back state next e within goes past =
    let ran : run State.Begun (words_in (before ++ (line ∷ []))) ≡ Some next = one_more before line state e ∙ goes in
    let one : begun_in next ≡ begun_in state + round_count line.words = counted state line.words next (moves state line.words next (few_after (words_in before) State.Begun state tt e) goes) in
    let little : round_count line.words ≤ 1 = one_at_most (words_are line.words round_line) in
    let all : begun_in next ≡ 0 + rounds_begun (before ++ (line ∷ [])) = counted_after (before ++ (line ∷ [])) State.Begun next tt ran in
    let count : rounds_begun (before ++ (line ∷ [])) ≡ most_rounds + 1 = omega arith in
    record {
      place = length before;
      line = line;
      there = at_place before line back;
      good = good_before before line back state e within;
      begins = subst Begin (sym (up_to before line back)) (begin (before ++ (line ∷ [])) next ran);
      past = ap rounds_begun (up_to before line back) ∙ count;
      is = refl;
    }

-- ---- the fault of a line of a file
bad_by : (blank : Bool) (state : State) (o : Option State) → (if blank then Some state else o) ≡ None → (blank ≡ false) × (o ≡ None)
bad_by true state o e = absurd (cc e)
bad_by false state o e = (refl, e)

past_by : (blank : Bool) (state next : State) (o : Option State) → IsWithin state → most_rounds < begun_in next → (if blank then Some state else o) ≡ Some next → (blank ≡ false) × (o ≡ Some next)
past_by true state next o within past e = absurd (let same : begun_in state ≡ begun_in next = ap begun_in (let is : state ≡ next = cc e in is) in omega arith)
past_by false state next o within past e = (refl, e)

pub line_fault : (bytes : List ℕ) (i : ℕ) (text : List ℕ) (state : State) (fault : JobFault) → i < length (file_lines bytes) → text ≡ get_or (file_lines bytes) i text
    → run State.Begun (words_in (front (file_lines bytes) i)) ≡ Some state → IsWithin state → LineFails state (i + 1) (words_of text) fault → IsFaultOf bytes fault
line_fault bytes i text state (faults.Form line kinds.JobSyntax) lt is e within (number, stops) =
    let parts = bad_by (length (words_of text) == 0) state (next_state state (words_of text)) stops in
    let at = stands (file_lines bytes) i text lt is parts.0 in
    let bad = bad_line (front (file_lines bytes) i) (record { number = i + 1; words = words_of text }) at.back state e within parts.1 in
    inl (subst (λ (n : ℕ). IsBadLine (lines_in bytes) n) (sym number) (subst (λ (ls : List Line). IsBadLine ls (i + 1)) (sym at.are) bad))
line_fault bytes i text state (faults.Form line kinds.TooManyRounds) lt is e within (number, (next, goes, past)) =
    let parts = past_by (length (words_of text) == 0) state next (next_state state (words_of text)) within past goes in
    let at = stands (file_lines bytes) i text lt is parts.0 in
    let many = round_too_many (front (file_lines bytes) i) (record { number = i + 1; words = words_of text }) at.back state next e within parts.1 past in
    subst (λ (n : ℕ). IsRoundTooMany (lines_in bytes) n) (sym number) (subst (λ (ls : List Line). IsRoundTooMany ls (i + 1)) (sym at.are) many)
line_fault bytes i text state (faults.NoMemory memory) lt is e within h = tt

-- ---- the end of a file
all_lines : (texts : List (List ℕ)) (i : ℕ) → length texts ≤ i → front texts i ≡ lines_from 1 texts
all_lines texts i all = ap (lines_from 1) (take_all i texts all)

rounds_at_end : (state : State) (job : Job) → job_at state ≡ Some job → begun_in state ≡ length job.rounds
rounds_at_end State.Begun job e = absurd (cc e)
rounds_at_end State.Headed job e = absurd (cc e)
rounds_at_end (State.Staffed workers) job e = absurd (cc e)
rounds_at_end (State.Ready before) job e = absurd (cc e)
rounds_at_end (State.Open before batches last) job e = absurd (cc e)
rounds_at_end (State.Ended whole) job e = let is : whole ≡ job = cc e in ap (λ (j : Job). length j.rounds) is

-- a job has as many rounds as its lines begin
pub rounds_spelled : (lines : List Line) (job : Job) → Spell lines job → rounds_begun lines ≡ length job.rounds
rounds_spelled lines job spells =
    let at = spelled lines job spells in
    let all : begun_in at.0 ≡ 0 + rounds_begun lines = counted_after lines State.Begun at.0 tt at.1 in
    let ends : begun_in at.0 ≡ length job.rounds = rounds_at_end at.0 job at.2 in
    omega arith

pub job_of_file : (bytes : List ℕ) (i : ℕ) (state : State) (job : Job) → length (file_lines bytes) ≤ i → run State.Begun (words_in (front (file_lines bytes) i)) ≡ Some state → IsWithin state → job_at state ≡ Some job → IsJobOf bytes job
job_of_file bytes i state job all e within is =
    let ran : run State.Begun (words_in (lines_in bytes)) ≡ Some state = ap (λ (ls : List Line). run State.Begun (words_in ls)) (sym (all_lines (file_lines bytes) i all)) ∙ e in
    (spell (lines_in bytes) state job ran is, omega (arith, rounds_at_end state job is))

pub cut_short : (bytes : List ℕ) (i number : ℕ) (state : State) → length (file_lines bytes) ≤ i → run State.Begun (words_in (front (file_lines bytes) i)) ≡ Some state → IsWithin state → job_at state ≡ None
    → number ≡ length (file_lines bytes) + 1 → IsFaultOf bytes (faults.Form number kinds.JobSyntax)
cut_short bytes i number state all e within stops is =
    let ran : run State.Begun (words_in (lines_in bytes)) ≡ Some state = ap (λ (ls : List Line). run State.Begun (words_in ls)) (sym (all_lines (file_lines bytes) i all)) ∙ e in
    inr (record {
      good = subst (λ (ls : List Line). Begin ls × (rounds_begun ls ≤ most_rounds)) (sym (take_all (length (lines_in bytes)) (lines_in bytes) (omega arith))) (good_lines (lines_in bytes) state ran within);
      short = λ job spells.
          let at = spelled (lines_in bytes) job spells in
          let two : Some state ≡ Some at.0 = sym ran ∙ at.1 in
          let same : state ≡ at.0 = cc two in
          let none : None ≡ Some job = sym stops ∙ ap job_at same ∙ at.2 in
          cc none;
      is = is;
    })
