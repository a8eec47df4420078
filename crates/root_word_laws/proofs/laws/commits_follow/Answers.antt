use Rattle.root_word_laws.proofs.Words.{none_rise, more_rise, beginning_rise}
use Rattle.root_word_laws.proofs.laws.commits_follow.Goals as goal

pub returns-clause-none : goal.returns-clause-none
returns-clause-none g c = none_rise

pub returns-clause-more : goal.returns-clause-more
returns-clause-more g c = more_rise

pub returns-clause-beginning : goal.returns-clause-beginning
returns-clause-beginning g c = beginning_rise
