-- The lines of a job file, as lists of words, and which jobs there are (this project's own).
use Rattle.std.specs.Prelude.{ℕ, ◌≤◌, ◌<◌, ◌==◌, Bool, true, false, not, ◌&&◌, nat_le, IsTrue, List, [], ◌∷◌}
use Rattle.std.specs.Prelude.{◌++◌, length, map, flat_map, Option, Some, None, codes}
use Rattle.std.specs.List.{AllByRecursion, list_all}
use Rattle.std.specs.Fmt.{decimal}
use Rattle.tc_base.specs.declared.hook.Hook.{Hook}
use Rattle.tc_base.specs.declared.hook.Hook.TheVariants as hooks
use Rattle.job_lines.specs.declared.job.BatchName.{BatchName}
use Rattle.job_lines.specs.declared.job.CaptureName.{CaptureName}
use Rattle.job_lines.specs.declared.job.Round.{Round}
use Rattle.job_lines.specs.declared.job.Job.{Job}

-- the words of a line
abbrev pub Words : Type 0
Words = List (List ℕ)

-- ---- the lines that spell a job: each job has one spelling
-- `clsact job 1`
abbrev pub header_line : Words
header_line = codes "clsact" ∷ codes "job" ∷ codes "1" ∷ []

-- `workers W` and `controls C`
abbrev pub count_line : List ℕ → ℕ → Words
count_line keyword count = keyword ∷ decimal count ∷ []

-- the word of a hook
abbrev pub hook_word : Hook → List ℕ
hook_word hooks.Ingress = codes "ingress"
hook_word hooks.Egress = codes "egress"

-- the word of a batch that goes on after a refused line
abbrev pub force_words : Bool → Words
force_words true = codes "force" ∷ []
force_words false = []

-- `batch K NAME [ force ]`
abbrev pub batch_line : BatchName → Words
batch_line batch = codes "batch" ∷ decimal batch.control ∷ batch.name ∷ force_words batch.force

-- `capture HOOK NAME OUT`
abbrev pub capture_line : CaptureName → Words
capture_line capture = codes "capture" ∷ hook_word capture.hook ∷ capture.name ∷ capture.out ∷ []

-- the line of a round's capture, where it has one
abbrev pub capture_lines : Option CaptureName → List Words
capture_lines None = []
capture_lines (Some capture) = capture_line capture ∷ []

-- `round`
abbrev pub round_line : Words
round_line = codes "round" ∷ []

-- a round: its first line, its batches and its capture
abbrev pub round_lines : Round → List Words
round_lines round = round_line ∷ (map batch_line round.batches ++ capture_lines round.capture)

-- `end`
abbrev pub end_line : Words
end_line = codes "end" ∷ []

-- rounds, and the end of the job
abbrev pub rounds_lines : List Round → List Words
rounds_lines rounds = flat_map round_lines rounds ++ (end_line ∷ [])

-- all lines of a job
abbrev pub lines_of : Job → List Words
lines_of job = header_line ∷ count_line (codes "workers") job.workers
    ∷ count_line (codes "controls") job.controls ∷ rounds_lines job.rounds

-- ---- which jobs there are
-- a printed byte of ASCII; the number sign begins a comment, so that no word has it
abbrev pub is_name_byte : ℕ → Bool
is_name_byte byte = (nat_le 0x21 byte && nat_le byte 0x7E) && not (byte == 0x23)

-- one such byte or more
abbrev pub IsName : List ℕ → Type 0
IsName name = (1 ≤ length name) × IsTrue (list_all is_name_byte name)

-- a batch of one of so many controls
abbrev pub IsBatch : ℕ → BatchName → Type 0
IsBatch controls batch = (1 ≤ batch.control) × (batch.control ≤ controls) × IsName batch.name

-- the names of a round's capture, where it has one
abbrev pub IsCapture : Option CaptureName → Type 0
IsCapture None = Unit {0}
IsCapture (Some capture) = IsName capture.name × IsName capture.out

-- the batches stand by rising control, so each control has one at most
abbrev pub ByControl : List BatchName → Type 0
ByControl [] = Unit {0}
ByControl (batch ∷ batches) = AllByRecursion (λ (later : BatchName). batch.control < later.control) batches
    × ByControl batches

-- a round under so many controls, which may be empty
abbrev pub IsRound : ℕ → Round → Type 0
IsRound controls round = AllByRecursion (IsBatch controls) round.batches × ByControl round.batches
    × IsCapture round.capture

-- 1 to 8 workers, 1 to 4 controls, and any number of rounds
abbrev pub IsJob : Job → Type 0
IsJob job = (1 ≤ job.workers) × (job.workers ≤ 8) × (1 ≤ job.controls) × (job.controls ≤ 4)
    × AllByRecursion (IsRound job.controls) job.rounds
