-- What a file says of a job, or where it first fails to be one (this project's own).
use Rattle.std.specs.Prelude.{◌≡◌, ◌⊎◌, ℕ, ◌+◌, ◌≤◌, ◌==◌, List, [], ◌∷◌, ◌++◌, length, map, take, count_by}
use Rattle.std.specs.Prelude.{Some, slice_get, if◌then◌else◌}
use Rattle.tc_words.specs.Lines.{lines_of as file_lines, words_of}
use Rattle.tc_words.specs.Texts.{words_are}
use Rattle.job_lines.specs.declared.fault.JobFault.{JobFault}
use Rattle.job_lines.specs.declared.fault.JobFault.TheVariants as faults
use Rattle.job_lines.specs.declared.fault.JobKind.{JobKind}
use Rattle.job_lines.specs.declared.fault.JobKind.TheVariants as kinds
use Rattle.job_lines.specs.declared.job.Job.{Job}
use Rattle.job_lines.specs.Jobs.{Words, lines_of, round_line, IsJob}

-- ---- the lines of a file that have words
-- a line's words, and its number in the file, from 1 and with blank lines counted
pub record Line : Type 0 where
  pub number : ℕ
  pub words : Words

-- the lines with words of these texts, of which the first has this number
abbrev pub lines_from : ℕ → List (List ℕ) → List Line
lines_from number [] = []
lines_from number (text ∷ texts) =
    if length (words_of text) == 0 then lines_from (number + 1) texts
    else record { number = number; words = words_of text } ∷ lines_from (number + 1) texts

-- the lines with words of a file
abbrev pub lines_in : List ℕ → List Line
lines_in bytes = lines_from 1 (file_lines bytes)

-- their words alone
abbrev pub words_in : List Line → List Words
words_in lines = map (λ (line : Line). line.words) lines

-- ---- the job
-- these lines are the job's
abbrev pub Spell : List Line → Job → Type 0
Spell lines job = IsJob job × (words_in lines ≡ lines_of job)

-- some job's lines begin with these
abbrev pub Begin : List Line → Type 0
Begin lines = (job : Job) × IsJob job × ((rest : List Words) × (lines_of job ≡ words_in lines ++ rest))

-- the greatest number of rounds
abbrev pub most_rounds : ℕ
most_rounds = 1024

-- the file says this job
abbrev pub IsJobOf : List ℕ → Job → Type 0
IsJobOf bytes job = Spell (lines_in bytes) job × (length job.rounds ≤ most_rounds)

-- ---- the first fault
-- how many of the lines begin a round
abbrev pub rounds_begun : List Line → ℕ
rounds_begun lines = count_by (λ (line : Line). words_are line.words round_line) lines

-- the lines before the one at this place begin a job, in no more rounds than may be
abbrev pub IsGoodBefore : List Line → ℕ → Type 0
IsGoodBefore lines place = Begin (take place lines) × (rounds_begun (take place lines) ≤ most_rounds)

-- the first line at which no job goes on
pub record IsBadLine (lines : List Line) (number : ℕ) : Type 0 where
  pub place : ℕ
  pub line : Line
  pub there : slice_get lines place ≡ Some line
  pub good : IsGoodBefore lines place
  pub bad : Begin (take (place + 1) lines) → ⊥
  pub is : number ≡ line.number

-- all lines begin a job and aren't one: the number behind the file's last line
pub record IsCutShort (bytes : List ℕ) (number : ℕ) : Type 0 where
  pub good : IsGoodBefore (lines_in bytes) (length (lines_in bytes))
  pub short : (job : Job) → Spell (lines_in bytes) job → ⊥
  pub is : number ≡ length (file_lines bytes) + 1

-- the line that begins a round too many
pub record IsRoundTooMany (lines : List Line) (number : ℕ) : Type 0 where
  pub place : ℕ
  pub line : Line
  pub there : slice_get lines place ≡ Some line
  pub good : IsGoodBefore lines place
  pub begins : Begin (take (place + 1) lines)
  pub past : rounds_begun (take (place + 1) lines) ≡ most_rounds + 1
  pub is : number ≡ line.number

-- the file's first fault stands at this line and is of this kind
abbrev pub IsFormFault : List ℕ → ℕ → JobKind → Type 0
IsFormFault bytes line kinds.JobSyntax = IsBadLine (lines_in bytes) line ⊎ IsCutShort bytes line
IsFormFault bytes line kinds.TooManyRounds = IsRoundTooMany (lines_in bytes) line

-- the fault of a file, of which want of memory is free
abbrev pub IsFaultOf : List ℕ → JobFault → Type 0
IsFaultOf bytes (faults.Form line kind) = IsFormFault bytes line kind
IsFaultOf bytes (faults.NoMemory memory) = Unit {0}
