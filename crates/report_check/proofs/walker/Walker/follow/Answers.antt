use Rattle.std.proofs.Common.{◌∙◌, Some, refl, sym, ap, arith}
use Rattle.round_terms.proofs.JobFiles.{there_at}
use Rattle.report_check.proofs.Lists.{is_line, may_follow, followed, only_memory}
use Rattle.tc_base.specs.Memory.{no_memory}
use Rattle.report_check.proofs.walker.Walker.follow.Goals as goal

pub step-requires-clause-line : goal.step-requires-clause-line
step-requires-clause-line c =
    let journal = c.args.journal.now in
    let at = c.loop-self.self.at in
    let edit = c.index-journal-self.result in
    let end = c.requires.points.1 in
    let test = c.loop-self-test.true in
    let there = there_at journal journal at edit refl (omega (arith, end, test)) ∙ ap (λ e. Some e) (sym c.index-journal-self.is) in
    is_line journal at edit c.requires.lawful there

pub step-requires-clause-may : goal.step-requires-clause-may
step-requires-clause-may c = may_follow c.args.journal.now c.loop-self.self.at c.loop-self.self.lists c.loop-self.invariant.spells c.requires.short

pub loop-self-preserved : goal.loop-self-preserved
loop-self-preserved c =
    let journal = c.args.journal.now in
    let at = c.loop-self.self.at in
    let edit = c.index-journal-self.result in
    let end = c.requires.points.1 in
    let test = c.loop-self-test.true in
    let there = there_at journal journal at edit refl (omega (arith, end, test)) ∙ ap (λ e. Some e) (sym c.index-journal-self.is) in
    record {
      low = omega (arith, test);
      spells = followed journal at edit c.loop-self.self.lists c.step.new.self c.in-Ok.field-0 there c.loop-self.invariant.spells (λ s spells. c.in-Ok.ensures s spells);
      seen = c.loop-self.invariant.seen;
    }

pub unreachable-requires : goal.unreachable-requires
unreachable-requires c =
    let journal = c.args.journal.now in
    let at = c.loop-self.self.at in
    let edit = c.index-journal-self.result in
    let end = c.requires.points.1 in
    let test = c.loop-self-test.true in
    let there = there_at journal journal at edit refl (omega (arith, end, test)) ∙ ap (λ e. Some e) (sym c.index-journal-self.is) in
    let memory = only_memory journal at edit c.loop-self.self.lists c.step.new.self c.in-Err.refusal c.requires.lawful there c.loop-self.invariant.spells (λ s spells. c.in-Err.ensures s spells) in
    c.in_default.not-NoMemory no_memory memory
