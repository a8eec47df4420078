use Rattle.std.proofs.Common.{arith}
use Rattle.desk_needs.proofs.OfRoom.Lines.{few_made}
use Rattle.desk_needs.proofs.room.laws.lines_make_few.Goals as goal

pub returns : goal.returns
returns c = λ s t y done line e. let few = few_made s t y done line e in omega (arith, few)
