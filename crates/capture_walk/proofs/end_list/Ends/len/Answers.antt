use Rattle.std.proofs.Common.{arith}
use Rattle.capture_walk.proofs.EndWords.{length-ends_in}
use Rattle.capture_walk.proofs.end_list.Ends.len.Goals as goal

pub returns : goal.returns
returns c =
    let all = length-ends_in c.self.inside.words.items c.self.inside.notes.items in
    rw (← c.self.view_is) (omega (arith, all))
