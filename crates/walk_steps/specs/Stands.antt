-- What is told of the place where a walk stands (this project's own).
use Rattle.std.specs.Prelude.{◌==◌, length}
use Rattle.walk_rules.specs.Steps.{Place, at_head, at_mask, at_action, ended}
use Rattle.walk_steps.specs.declared.stand.Stand.{Stand}
use Rattle.walk_steps.specs.declared.stand.Stand.TheVariants as stands

-- at the first mask of a table all its masks are left
abbrev pub stand_of : Place → Stand
stand_of at_head = stands.AtHead
stand_of (at_mask head masks tables) =
    stands.AtMask head.chain head.pref head.protocol (length masks == length head.masks)
stand_of (at_action head actions position jumps tables) = stands.AtAction position (length actions)
stand_of (ended verdict) = stands.Over verdict
