use Rattle.std.proofs.Common.{◌∙◌, ap, Some, suc}
use Rattle.std.specs.Option.{option_and_then}
use Rattle.filter_origins.specs.Entries.{edits_of, line_at}
use Rattle.filter_origins.specs.Origins.{origin_by, with_line}
use Rattle.filter_origins.proofs.Standing.{has_line}
use Rattle.filter_origins.proofs.Listed.{has_by}
use Rattle.filter_origins.proofs.laws.look_up_has_line.Goals as goal

pub returns : goal.returns
returns c = λ entries point row lawful within has.
    let line = has_line (edits_of entries) lawful point within row has in
    let by = has_by entries line.place row line.put in (
      line.place,
      by.0,
      line.before,
      line.brought,
      line.put,
      by.1,
      ap (option_and_then (origin_by entries)) line.brought ∙ ap (λ o. with_line o (line_at entries (suc line.place))) line.put ∙ ap (with_line (Some row)) by.1,
    )
