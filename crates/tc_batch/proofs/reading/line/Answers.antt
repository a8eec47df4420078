use Rattle.std.proofs.Common.{◌∙◌, Bool, cond, Option, Some, None, arith, sym, ap}
use Rattle.std.specs.Option.{option_map}
use Rattle.tc_words.specs.Lines.{words_of}
use Rattle.tc_batch.specs.declared.draft.Draft.{Draft}
use Rattle.tc_batch.specs.declared.stage.Stage.{Stage}
use Rattle.tc_batch.specs.States.{State, state_of}
use Rattle.tc_batch.proofs.WordsLeft.{left_more, left_within, ran_more, word_refused, line_ended, line_cut}
use Rattle.tc_batch.proofs.reading.line.Goals as goal

-- the state after a step, where there is one
abbrev went : Draft → Stage → Bool → Option State
went draft stage goes = option_map (state_of draft) (cond goes (Some stage) None)

pub returns-then-not-branch-clause-fault : goal.returns-then-not-branch-clause-fault
returns-then-not-branch-clause-fault c =
    word_refused (words_of c.args.bytes.now) c.loop-word.count c.in-Some.word.now (words_of c.in-Some.more.now) (state_of c.loop-word.reading.draft c.loop-word.reading.stage)
    (sym c.in-Some.ensures.words ∙ c.loop-word.invariant.left) c.loop-word.invariant.ran
    (sym (ap (went c.step.new.draft c.step.new.stage) c.if-not-branch.true) ∙ c.in_ok-step.ensures)

pub loop-word-preserved : goal.loop-word-preserved
loop-word-preserved c =
    let words = words_of c.args.bytes.now in
    let word = c.in-Some.word.now in
    let more = words_of c.in-Some.more.now in
    let first = sym c.in-Some.ensures.words ∙ c.loop-word.invariant.left in
    record {
      ran = ran_more words c.loop-word.count word more (state_of c.loop-word.reading.draft c.loop-word.reading.stage) _ first c.loop-word.invariant.ran
          (sym (ap (went c.step.new.draft c.step.new.stage) c.if-not-branch.false) ∙ c.in_ok-step.ensures);
      left = left_more words c.loop-word.count word more first;
      within = left_within words c.loop-word.count word more first;
      few = omega (arith, c.in_ok-check_room.ensures.ok);
    }

pub returns-in-Some-2-clause-line : goal.returns-in-Some-2-clause-line
returns-in-Some-2-clause-line c =
    line_ended (words_of c.args.bytes.now) c.loop-word.count (state_of c.loop-word.reading.draft c.loop-word.reading.stage) c.in-Some-2.edit
    (sym c.in_default.ensures.words ∙ c.loop-word.invariant.left) c.loop-word.invariant.ran (sym c.in-Some-2.is ∙ c.in_ok-edit.ensures)

pub returns-in-None-clause-fault : goal.returns-in-None-clause-fault
returns-in-None-clause-fault c =
    line_cut (words_of c.args.bytes.now) c.loop-word.count (state_of c.loop-word.reading.draft c.loop-word.reading.stage) (sym c.in_default.ensures.words ∙ c.loop-word.invariant.left)
    c.loop-word.invariant.within c.loop-word.invariant.ran (sym c.in-None.is ∙ c.in_ok-edit.ensures)
