use Rattle.std.proofs.Common.{◌≡◌, take, Some}
use Rattle.tc_words.specs.Lines.{lines_of}
use Rattle.job_lines.specs.Files.{lines_from, words_in}
use Rattle.job_lines.specs.States.{State, state_of}
use Rattle.job_lines.specs.Steps.{run, IsWithin}
use Rattle.job_lines.proofs.read.read_job.Given as goal

abbrev pub invariant-loop-index : goal.invariant-loop-index
invariant-loop-index l = record {
  ran : run State.Begun (words_in (lines_from 1 (take l.index (lines_of l.bytes)))) ≡ Some (state_of l.draft);
  within : IsWithin (state_of l.draft);
}
