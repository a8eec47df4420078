use Rattle.std.proofs.Common.{leb, ap, arith, rules, inl, inr, get_or, Some, None}
use Rattle.std.proofs.lemmas.Bool.{cases_lt, leb-true, leb-false}
use Rattle.std.proofs.lemmas.Grind.{common_steps}
use Rattle.std.proofs.lemmas.List.{get_or_default}
use Rattle.std.proofs.lemmas.List.Sorted.{IsPartitionPoint-from_clause, IsPartitionedBy-leb}
use Rattle.slot_pasts.proofs.Next.{none_between, put_there}
use Rattle.slot_pasts.proofs.past.first_after.Goals as goal

pub returns-then-until-changes : goal.returns-then-until-changes
returns-then-until-changes g c =
    let parted = IsPartitionedBy-leb (λ e. e.from) c.args.changes.now c.args.point c.requires in
    let point = IsPartitionPoint-from_clause (λ e. leb e.from c.args.point) _ _
    c.partition_point-until.ensures.partitioned parted (λ a r q k. search rules) in
    record {
      behind = tt;
      put = tt;
      least = none_between c.args.point None c.args.changes.now
          (λ i d less. inl (leb-true _ _ (point.0 i d (omega arith) (grind (arith, common_steps)))));
    }

pub returns : goal.returns
returns g c =
    let parted = IsPartitionedBy-leb (λ e. e.from) c.args.changes.now c.args.point c.requires in
    let point = IsPartitionPoint-from_clause (λ e. leb e.from c.args.point) _ _
    c.partition_point-until.ensures.partitioned parted (λ a r q k. search rules) in
    let within = c.partition_point-until.ensures.bound in
    let k = c.partition_point-until.result in
    let first = c.index-changes-until.result in
    record {
      behind = leb-false _ _ (point.1 k first (grind (arith, common_steps)) (grind (arith, common_steps)));
      put = put_there k c.args.changes.now first (grind (arith, common_steps));
      least = none_between c.args.point (Some (get_or c.args.changes.now k first).from) c.args.changes.now
          (λ i d less. elim (cases_lt i k) [
            | inl front ↦ inl (leb-true _ _ (point.0 i d (omega arith) front))
            | inr later ↦ inr (λ before. let rising = c.requires k i first later less in
                let same = ap (λ e. e.from) (get_or_default c.args.changes.now i d first less) in
                omega (arith, before, rising, same))
          ]);
    }
