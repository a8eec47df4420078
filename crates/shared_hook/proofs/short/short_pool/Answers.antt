use Rattle.std.proofs.Common.{◌≤◌, arith}
use Rattle.desk_needs.specs.declared.pool.Pool.{Pool}
use Rattle.shared_hook.specs.Short.{need_of}
use Rattle.shared_hook.specs.Views.{count_of}
use Rattle.shared_hook.proofs.Shorts.{place_low, one_more}
use Rattle.shared_hook.proofs.short.short_pool.Goals as goal

pub loop-place-init : goal.loop-place-init
loop-place-init c = λ pool low. absurd (omega (arith, low))

pub returns-then-free-needed-clause-short : goal.returns-then-free-needed-clause-short
returns-then-free-needed-clause-short c = record {
  needed = c.need_of-needed.ensures;
  counted = c.of-free.ensures;
  few = c.if-free-needed.true;
  first = λ pool low. c.loop-place.invariant pool (let at = c.pool_at-pool.ensures in omega (arith, at, low));
}

pub loop-place-preserved : goal.loop-place-preserved
loop-place-preserved c = one_more (λ (pool : Pool). need_of c.args.needs.now pool ≤ count_of c.args.free.now pool) c.loop-place.place c.pool_at-pool.result c.pool_at-pool.ensures c.loop-place.invariant
    (let a = c.need_of-needed.ensures in let b = c.of-free.ensures in let t = c.if-free-needed.false in omega (arith, a, b, t))

pub returns-clause-enough : goal.returns-clause-enough
returns-clause-enough c = λ none pool. c.loop-place.invariant pool (let low = place_low pool in let end = c.loop-place-test.false in omega (arith, low, end))
