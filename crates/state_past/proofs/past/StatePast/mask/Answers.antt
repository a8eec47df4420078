use Rattle.std.proofs.Common.{◌∙◌, sym, ap}
use Rattle.state_past.specs.Told.{words_or_none}
use Rattle.state_past.proofs.Recalled.{words_there}
use Rattle.state_past.proofs.past.StatePast.mask.Goals as goal

pub returns : goal.returns
returns c = λ journal remembers. ap words_or_none c.at.ensures ∙ sym (words_there c.args.self.now journal remembers c.args.point c.args.serial)
