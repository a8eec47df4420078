-- What a job says of its files: their names are text, and their numbers are those of its rounds.
use Rattle.std.proofs.Common.{◌≡◌, ℕ, ◌<◌, Bool, true, false, List, [], ◌∷◌, get_or, zero, suc, Option, Some, None, refl, arith}
use Rattle.std.specs.Prelude.{◌&&◌}
use Rattle.std.specs.List.{list_all, AllByRecursion}
use Rattle.std.specs.Str.{IsUtf8}
use Rattle.std.proofs.lemmas.Str.{IsUtf8-from_ascii}
use Rattle.std.proofs.lemmas.Bool.Decides.{nat_tests}
use Rattle.job_lines.specs.declared.job.BatchName.{BatchName}
use Rattle.job_lines.specs.declared.job.CaptureName.{CaptureName}
use Rattle.job_lines.specs.declared.job.Round.{Round}
use Rattle.job_lines.specs.declared.job.Job.{Job}
use Rattle.job_lines.specs.Jobs.{is_name_byte, IsName, IsBatch, IsCapture, IsRound, IsJob}
use Rattle.job_files.specs.Named.{JobFile, name_of, batch_files, capture_files, round_files, rounds_files, files_of, AreNames}
use Rattle.job_files.proofs.Joined.{each_joined}

-- ---- a name is text
printed : (byte : ℕ) → is_name_byte byte ≡ true → byte < 128
printed byte is = grind (arith, nat_tests)

and_left : (a b : Bool) → (a && b) ≡ true → a ≡ true
and_left true b e = refl
and_left false b e = e

and_right : (a b : Bool) → (a && b) ≡ true → b ≡ true
and_right true b e = e
and_right false b e = cc

ascii_names : (bytes : List ℕ) → list_all is_name_byte bytes ≡ true → (i : ℕ) → get_or bytes i 0 < 128
ascii_names [] all i = omega arith
ascii_names (byte ∷ bytes) all zero = printed byte (and_left (is_name_byte byte) (list_all is_name_byte bytes) all)
ascii_names (byte ∷ bytes) all (suc i) =
    ascii_names bytes (and_right (is_name_byte byte) (list_all is_name_byte bytes) all) i

pub name_is_text : (name : List ℕ) → IsName name → IsUtf8 name
name_is_text name is = IsUtf8-from_ascii name (ascii_names name is.1)

-- ---- the names of a job
batches_named : (controls : ℕ) (batches : List BatchName) → AllByRecursion (IsBatch controls) batches
    → AreNames (batch_files batches)
batches_named controls [] each = tt
batches_named controls (batch ∷ batches) each = (each.0.2, batches_named controls batches each.1)

captures_named : (capture : Option CaptureName) → IsCapture capture → AreNames (capture_files capture)
captures_named None is = tt
captures_named (Some capture) is = (is.0, tt)

abbrev pub named : JobFile → Type 0
named file = IsName (name_of file)

rounds_named : (controls : ℕ) (rounds : List Round) → AllByRecursion (IsRound controls) rounds
    → AreNames (rounds_files rounds)
rounds_named controls [] each = tt
rounds_named controls (round ∷ rounds) each =
    each_joined named (round_files round) (rounds_files rounds)
    (each_joined named (batch_files round.batches) (capture_files round.capture)
    (batches_named controls round.batches each.0.0) (captures_named round.capture each.0.2))
    (rounds_named controls rounds each.1)

pub job_names : (job : Job) → IsJob job → AreNames (files_of job)
job_names job is = rounds_named job.controls job.rounds is.4
