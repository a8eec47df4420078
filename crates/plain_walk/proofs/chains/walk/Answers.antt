use Rattle.std.proofs.Common.{◌∙◌, sym}
use Rattle.walk_rules.specs.Heads.{heads_on}
use Rattle.plain_walk.specs.Courses.{carried_from}
use Rattle.plain_walk.proofs.Following.{restart_with, chain_opened, one_restart, plain_opened}
use Rattle.plain_walk.proofs.chains.walk.Goals as goal

pub loop-verdict-init : goal.loop-verdict-init
loop-verdict-init c = record {
  course = c.begin.ensures.course;
  leads = λ s spelled.
      plain_opened s c.args.hook c.args.came.now c.begin.new.self.left (carried_from c.args.came.now c.begin.new.self) c.begin.ensures.left c.begin.ensures.carried;
}

pub returns-in-Over : goal.returns-in-Over
returns-in-Over c = λ s spelled.
    let heads = heads_on c.args.hook s in
    sym (c.loop-verdict.invariant.leads s spelled
    ∙ chain_opened s heads c.loop-verdict.restarts c.loop-verdict.chain c.loop-verdict.course.left (carried_from c.args.came.now c.loop-verdict.course)
    ∙ c.in-Over.ensures.plain s spelled (restart_with s heads c.loop-verdict.restarts))

pub loop-verdict-preserved : goal.loop-verdict-preserved
loop-verdict-preserved c = record {
  course = c.walk_chain.ensures.course;
  leads = λ s spelled.
      let heads = heads_on c.args.hook s in
      let now = c.walk_chain.new.course in
      c.loop-verdict.invariant.leads s spelled
      ∙ chain_opened s heads c.loop-verdict.restarts c.loop-verdict.chain c.loop-verdict.course.left (carried_from c.args.came.now c.loop-verdict.course)
      ∙ c.in-Restart.ensures.plain s spelled (restart_with s heads c.loop-verdict.restarts)
      ∙ one_restart s heads c.loop-verdict.restarts c.in-Restart.to now.left (carried_from c.args.came.now now) c.if-restarts-eq0.false;
}
