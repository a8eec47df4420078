use Rattle.std.proofs.Common.{length}
use Rattle.action_plan.proofs.names.+serial_to_make.Given as goal

abbrev pub decreases-serial_to_make : goal.decreases-serial_to_make
decreases-serial_to_make l = length l.parts.now
