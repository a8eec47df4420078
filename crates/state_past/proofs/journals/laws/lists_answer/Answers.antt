use Rattle.std.proofs.Common.{sym}
use Rattle.filter_state.specs.Journals.{state_at}
use Rattle.classify_walk.proofs.StillHeads.{heads_answered}
use Rattle.state_past.proofs.journals.laws.lists_answer.Goals as goal

pub returns : goal.returns
returns c = λ journal lists point hook kept spells. sym (heads_answered lists hook (state_at point journal) kept spells)
