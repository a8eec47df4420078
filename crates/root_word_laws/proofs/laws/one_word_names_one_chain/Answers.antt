use Rattle.root_word_laws.proofs.Words.{one_word, one_stamp}
use Rattle.root_word_laws.proofs.laws.one_word_names_one_chain.Goals as goal

pub returns-clause-word : goal.returns-clause-word
returns-clause-word g c = one_word

pub returns-clause-stamp : goal.returns-clause-stamp
returns-clause-stamp g c = one_stamp
