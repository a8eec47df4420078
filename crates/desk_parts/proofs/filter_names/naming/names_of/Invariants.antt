use Rattle.std.proofs.Common.{◌≡◌, take}
use Rattle.desk_parts.specs.OfFilterNames.Named.{named}
use Rattle.desk_parts.proofs.filter_names.naming.names_of.Given as goal

abbrev pub invariant-loop-at : goal.invariant-loop-at
invariant-loop-at l = record {
  names : l.names ≡ named l.places (take l.at l.serials);
}
