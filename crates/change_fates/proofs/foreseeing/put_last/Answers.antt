use Rattle.std.proofs.Common.{◌≡◌, ◌∙◌, ap, subst}
use Rattle.tc_base.specs.Outside.{Appended, AppendsUpTo}
use Rattle.change_fates.proofs.Paging.{on_front, on_last_front, last_result}
use Rattle.change_fates.proofs.foreseeing.put_last.Goals as goal

pub returns-in_err-push_text-clause-up_to : goal.returns-in_err-push_text-clause-up_to
returns-in_err-push_text-clause-up_to g c = λ first whole at. on_front first _ whole _ _ at

pub returns-clause-all : goal.returns-clause-all
returns-clause-all g c = last_result c.write_all.result _ _ c.args.room.now.page c.push_text.new.self c.args.piece.now c.text.result.now c.in_ok-push_text.ensures c.text.ensures c.write_all.ensures.all

pub returns-clause-up_to : goal.returns-clause-up_to
returns-clause-up_to g c = λ first whole at.
    on_last_front first _ _ whole c.args.room.now.page c.push_text.new.self c.args.piece.now c.in_ok-push_text.ensures
    (subst (AppendsUpTo (g.O.Sink.written c.args.out.now) (g.O.Sink.written c.write_all.new.self)) c.text.ensures c.write_all.ensures.up_to) at
