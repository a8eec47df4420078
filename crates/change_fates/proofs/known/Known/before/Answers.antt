use Rattle.std.proofs.Common.{◌≤◌, length, ap, subst, arith}
use Rattle.change_fates.specs.Told.{ChangeAt}
use Rattle.change_fates.proofs.Knowing.{long}
use Rattle.change_fates.proofs.known.Known.before.Goals as goal

pub returns-clause-is : goal.returns-clause-is
returns-clause-is c = ap (λ (change : ChangeAt). change.before) c.self.view_is

pub returns-clause-within : goal.returns-clause-within
returns-clause-within c =
    let many = long c.self.inside.applied.now c.self.inside.origins.now c.self.invariant in
    let least = c.self.invariant.before in
    let same = ap (λ (change : ChangeAt). length change.entries) c.self.view_is in
    omega (arith, many, least, same)
