use Rattle.std.proofs.Common.{sym, arith}
use Rattle.std.proofs.lemmas.Bool.Decides.{nat_tests}
use Rattle.std.proofs.lemmas.Grind.{common_steps}
use Rattle.filter_tables.specs.Seen.{plain_table}
use Rattle.filter_tables.proofs.TableFinds.{table_here, table_nowhere}
use Rattle.filter_tables.proofs.table_places.place_of.Goals as goal

pub returns-in-Some : goal.returns-in-Some
returns-in-Some c =
    let point = c.place_for-at.ensures.1 in
    sym (table_here plain_table c.args.chain c.args.pref c.args.tables.now c.place_for-at.result (λ k d less. point.0 k d (omega arith) less) point.1 c.requires
    (grind (arith, common_steps)) (λ d. grind (arith, nat_tests, common_steps)))

pub returns-in_default : goal.returns-in_default
returns-in_default c =
    let point = c.place_for-at.ensures.1 in
    sym (table_nowhere plain_table c.args.chain c.args.pref c.args.tables.now c.place_for-at.result (λ k d less. point.0 k d (omega arith) less) point.1 c.requires
    (λ within d. grind (arith, nat_tests, common_steps)))

pub returns-in_default-2 : goal.returns-in_default-2
returns-in_default-2 c =
    let point = c.place_for-at.ensures.1 in
    sym (table_nowhere plain_table c.args.chain c.args.pref c.args.tables.now c.place_for-at.result (λ k d less. point.0 k d (omega arith) less) point.1 c.requires
    (λ within d. grind (arith, nat_tests, common_steps)))

pub returns-in_default-3 : goal.returns-in_default-3
returns-in_default-3 c =
    let point = c.place_for-at.ensures.1 in
    sym (table_nowhere plain_table c.args.chain c.args.pref c.args.tables.now c.place_for-at.result (λ k d less. point.0 k d (omega arith) less) point.1 c.requires
    (λ within d. grind (arith, nat_tests, common_steps)))
