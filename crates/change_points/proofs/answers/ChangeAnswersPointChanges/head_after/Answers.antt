use Rattle.std.proofs.Common.{◌∙◌, None, sym, subst}
use Rattle.walk_rules.specs.Questions.{heads_of}
use Rattle.state_past.specs.NextChange.{IsNextChange}
use Rattle.change_points.specs.Heads.{told_at}
use Rattle.change_points.specs.Answers.{HookChange, answer_in}
use Rattle.change_points.proofs.Answered.{next_tables, never_known}
use Rattle.change_points.proofs.answers.ChangeAnswersPointChanges.head_after.Goals as goal

pub returns-then-not-are_of : goal.returns-then-not-are_of
returns-then-not-are_of c =
    let heads = c.self.inside.heads.now in
    let change : HookChange = record { journal = c.self.inside._journal.now; hook = heads.hook; before = heads.before } in
    subst (λ (by : HookChange). IsNextChange (λ at. answer_in by at (heads_of c.args.hook)) c.args.point None)
    c.self.view_is
    (never_known change c.args.point c.args.hook (sym c.are_of.ensures ∙ c.if-not-are_of.true))

pub returns : goal.returns
returns c =
    let heads = c.self.inside.heads.now in
    let change : HookChange = record { journal = c.self.inside._journal.now; hook = heads.hook; before = heads.before } in
    subst (λ (by : HookChange).
    IsNextChange (λ at. answer_in by at (heads_of c.args.hook)) c.args.point c.after.result) c.self.view_is
    (next_tables change c.args.point c.args.hook c.after.result (told_at heads)
    (sym c.are_of.ensures ∙ c.if-not-are_of.false) c.self.invariant.1.told c.after.ensures)
