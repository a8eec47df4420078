use Rattle.std.proofs.Common.{arith}
use Rattle.std.proofs.lemmas.Map.Text.{text_keys}
use Rattle.tc_base.proofs.mem_shelf.store.Goals as goal

-- another name has another key, so what it finds is as before
pub returns-clause-others : goal.returns-clause-others
returns-clause-others c = λ other differs. grind (arith, text_keys)
