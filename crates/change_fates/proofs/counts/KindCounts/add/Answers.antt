use Rattle.std.proofs.Common.{refl}
use Rattle.walk_fate_laws.specs.declared.kinds.Kind.TheVariants as kinds
use Rattle.change_fates.proofs.Counting.{more_of, add_steady, add_moved, add_between, add_mixed, add_open}
use Rattle.change_fates.proofs.counts.KindCounts.add.Goals as goal

pub returns-in-Steady : goal.returns-in-Steady
returns-in-Steady c = λ all is.
    more_of c.args.self.now _ c.args.kind kinds.Steady all c.in-Steady.is (add_steady c.args.self.now _ refl) is

pub returns-in-Moved : goal.returns-in-Moved
returns-in-Moved c = λ all is.
    more_of c.args.self.now _ c.args.kind kinds.Moved all c.in-Moved.is (add_moved c.args.self.now _ refl) is

pub returns-in-Between : goal.returns-in-Between
returns-in-Between c = λ all is.
    more_of c.args.self.now _ c.args.kind kinds.Between all c.in-Between.is (add_between c.args.self.now _ refl) is

pub returns-in-Mixed : goal.returns-in-Mixed
returns-in-Mixed c = λ all is.
    more_of c.args.self.now _ c.args.kind kinds.Mixed all c.in-Mixed.is (add_mixed c.args.self.now _ refl) is

pub returns-in-Open : goal.returns-in-Open
returns-in-Open c = λ all is.
    more_of c.args.self.now _ c.args.kind kinds.Open all c.in-Open.is (add_open c.args.self.now _ refl) is
