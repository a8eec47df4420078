use Rattle.hook_law.proofs.Rising.{stamps_rise_behind}
use Rattle.hook_law.proofs.reader_laws.stamps_rise.Goals as goal

pub returns : goal.returns
returns g c = stamps_rise_behind g.T.Terms.meaning g.T.Terms.codec
