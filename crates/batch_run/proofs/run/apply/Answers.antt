use Rattle.tc_words.specs.Lines.{words_of}
use Rattle.line_range_laws.proofs.Lines.{says}
use Rattle.batch_run.proofs.Answered.{accepts, refuses}
use Rattle.tc_base.specs.Memory.{no_memory}
use Rattle.batch_run.proofs.run.apply.Goals as goal

pub step-requires-clause-line : goal.step-requires-clause-line
step-requires-clause-line c = says (words_of c.args.text.now) c.in-Ok.edit c.in-Ok.ensures.line

pub returns-in-Ok-step : goal.returns-in-Ok-step
returns-in-Ok-step c = λ s spells. accepts c.args.lists.now c.step.new.self s (words_of c.args.text.now) c.args.number c.in-Ok.edit c.in-Ok-step.field-0 c.in-Ok.ensures.line (c.in-Ok-step.ensures s spells)

pub returns : goal.returns
returns c = λ s spells. refuses c.args.lists.now c.step.new.self s (words_of c.args.text.now) c.args.number c.in-Ok.edit c.in-Err.refusal (c.in_default.not-NoMemory no_memory) c.in-Ok.ensures.line spells (c.in-Err.ensures s spells)
