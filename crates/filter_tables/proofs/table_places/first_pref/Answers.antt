use Rattle.std.proofs.Common.{sym, arith}
use Rattle.std.proofs.lemmas.Bool.Decides.{nat_tests}
use Rattle.std.proofs.lemmas.Grind.{common_steps}
use Rattle.filter_tables.specs.Seen.{plain_table}
use Rattle.filter_tables.proofs.TableFinds.{pref_here, pref_nowhere}
use Rattle.filter_tables.proofs.table_places.first_pref.Goals as goal

pub returns-in-Some : goal.returns-in-Some
returns-in-Some c =
    let point = c.place_for.ensures.1 in
    sym (pref_here plain_table c.args.chain c.args.tables.now c.place_for.result (λ k d less. point.0 k d (omega arith) less) point.1 c.requires
    c.in-Some.table.now (grind (arith, common_steps)) (grind (arith, common_steps)) (grind (arith, nat_tests, common_steps)))

pub returns-in_default : goal.returns-in_default
returns-in_default c =
    let point = c.place_for.ensures.1 in
    sym (pref_nowhere plain_table c.args.chain c.args.tables.now c.place_for.result (λ k d less. point.0 k d (omega arith) less) point.1 c.requires
    (λ within d. grind (arith, nat_tests, common_steps)))

pub returns-in_default-2 : goal.returns-in_default-2
returns-in_default-2 c =
    let point = c.place_for.ensures.1 in
    sym (pref_nowhere plain_table c.args.chain c.args.tables.now c.place_for.result (λ k d less. point.0 k d (omega arith) less) point.1 c.requires
    (λ within d. grind (arith, nat_tests, common_steps)))
