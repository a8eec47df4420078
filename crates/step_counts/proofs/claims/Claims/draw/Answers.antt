use Rattle.std.proofs.Common.{arith, rules}
use Rattle.step_counts.proofs.Drawing.{draws}
use Rattle.step_counts.proofs.claims.Claims.draw.Goals as goal

pub fetch_add-requires : goal.fetch_add-requires
fetch_add-requires c = let wide = c.self.invariant in (search rules, omega arith, draws _ _ _ _ c.seat.invariant.0 (search rules))
