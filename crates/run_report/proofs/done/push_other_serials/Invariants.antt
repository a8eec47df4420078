use Rattle.std.proofs.Common.{◌≡◌, ◌++◌, take, codes}
use Rattle.std.specs.List.{flat_map}
use Rattle.walk_texts.specs.Texts.{counted}
use Rattle.run_report.proofs.done.push_other_serials.Given as goal

abbrev pub invariant-loop-serial : goal.invariant-loop-serial
invariant-loop-serial l = l.out.items ≡ l.initial.out.items ++ flat_map (λ serial. counted (codes ",") serial) (take l.serial-index l.serials)
