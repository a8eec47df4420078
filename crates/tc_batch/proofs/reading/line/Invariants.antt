use Rattle.std.proofs.Common.{◌≡◌, ◌≤◌, take, drop, length, Some}
use Rattle.tc_words.specs.Lines.{words_of}
use Rattle.tc_batch.specs.States.{State, state_of}
use Rattle.tc_batch.specs.Machine.{run}
use Rattle.tc_batch.proofs.reading.line.Given as goal

abbrev pub decreases-loop-word : goal.decreases-loop-word
decreases-loop-word l = length l.rest

abbrev pub invariant-loop-word : goal.invariant-loop-word
invariant-loop-word l = record {
  ran : run State.Start (take l.count (words_of l.bytes)) ≡ Some (state_of l.reading.draft l.reading.stage);
  left : words_of l.rest ≡ drop l.count (words_of l.bytes);
  within : l.count ≤ length (words_of l.bytes);
  few : l.count ≤ 4294967294;
}
