use Rattle.std.proofs.Common.{subst}
use Rattle.tc_base.specs.Outside.{Appended, AppendsUpTo}
use Rattle.change_fates.proofs.Paging.{on_turned, on_front, on_up_to}
use Rattle.change_fates.proofs.page.turn.Goals as goal

pub returns-then-text-lt-FULL-clause-up_to : goal.returns-then-text-lt-FULL-clause-up_to
returns-then-text-lt-FULL-clause-up_to g c = λ first whole rest at. on_front first _ whole _ rest at

pub returns-in_err-write_all-clause-up_to : goal.returns-in_err-write_all-clause-up_to
returns-in_err-write_all-clause-up_to g c = λ first whole rest at.
    on_up_to first _ _ whole _ rest (subst (AppendsUpTo (g.O.Sink.written c.args.out.now) (g.O.Sink.written c.write_all.new.self)) c.text-2.ensures c.write_all.ensures.up_to) at

pub returns-clause-on : goal.returns-clause-on
returns-clause-on g c = λ first whole rest at.
    on_turned first _ _ whole _ _ rest (subst (Appended (g.O.Sink.written c.args.out.now) (g.O.Sink.written c.write_all.new.self)) c.text-2.ensures c.in_ok-write_all.ensures.all) c.clear.ensures at

pub returns-clause-up_to : goal.returns-clause-up_to
returns-clause-up_to g c = λ first whole rest at.
    on_front first _ whole _ rest (on_turned first _ _ whole _ _ rest (subst (Appended (g.O.Sink.written c.args.out.now) (g.O.Sink.written c.write_all.new.self)) c.text-2.ensures c.in_ok-write_all.ensures.all) c.clear.ensures at)
