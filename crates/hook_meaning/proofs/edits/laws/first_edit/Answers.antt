use Rattle.std.proofs.Common.{refl, arith}
use Rattle.hook_meaning.proofs.Opening.{hook_opens}
use Rattle.hook_meaning.proofs.edits.laws.first_edit.Goals as goal

pub returns : goal.returns
returns c = record { keeps = hook_opens; low = omega arith; line = tt; steps = refl }
