use Rattle.std.proofs.Common.{◌≡◌, true, get_or, arith}
use Rattle.std.proofs.lemmas.Bool.Decides.{nat_tests}
use Rattle.std.proofs.lemmas.Grind.{common_steps}
use Rattle.act_registry.specs.declared.names.Name.{Name}
use Rattle.act_registry.specs.Names.{has_name}
use Rattle.act_registry.proofs.Order.{no-count, next-place, used-more}
use Rattle.act_registry.proofs.names.lowest_free.Goals as goal

pub loop-at-preserved : goal.loop-at-preserved
loop-at-preserved c =
    let named : (d : Name) → has_name c.args.kind c.loop-at.free (get_or c.args.names.now c.loop-at.at d) ≡ true = λ d. grind (arith, nat_tests, common_steps) in
    let within = c.loop-at-test.true in (
      omega arith,
      omega (arith, c.loop-at.invariant.1),
      next-place _ _ _ c.loop-at.at c.requires.sorted c.loop-at.invariant.2 within named,
      used-more _ _ _ c.loop-at.at within named c.loop-at.invariant.3,
    )

pub returns-else-names-at-2-clause-free : goal.returns-else-names-at-2-clause-free
returns-else-names-at-2-clause-free c = no-count _ _ _ c.loop-at.at c.requires.sorted c.loop-at.invariant.2 (λ within d. grind (arith, nat_tests, common_steps))

pub returns-else-names-at-clause-free : goal.returns-else-names-at-clause-free
returns-else-names-at-clause-free c = no-count _ _ _ c.loop-at.at c.requires.sorted c.loop-at.invariant.2 (λ within d. grind (arith, nat_tests, common_steps))

pub returns-after-loop-at-clause-free : goal.returns-after-loop-at-clause-free
returns-after-loop-at-clause-free c = no-count _ _ _ c.loop-at.at c.requires.sorted c.loop-at.invariant.2 (λ within d. grind (arith, nat_tests, common_steps))
