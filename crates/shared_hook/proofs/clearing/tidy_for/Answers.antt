use Rattle.std.proofs.Common.{◌∙◌, refl, sym, subst}
use Rattle.pin_store.specs.declared.scan.Scan.{Scan}
use Rattle.pin_store.specs.Calls.{sheet_of}
use Rattle.hook_store_law.specs.OfEdits.Premises.{now}
use Rattle.desk_pools.specs.OfTidying.Tidied.{IsTwiceIn}
use Rattle.desk_actions.specs.OfLedgers.Kept.{commits}
use Rattle.shared_hook.specs.declared.counts.PoolCounts.{PoolCounts}
use Rattle.shared_hook.specs.Short.{IsShort}
use Rattle.shared_hook.proofs.Rising.{none_left}
use Rattle.shared_hook.proofs.Shorts.{count_left, short_lacks, counted_on, none_left_enough}
use Rattle.shared_hook.proofs.Roominess.{cleared_tidied, twice_seen}
use Rattle.shared_hook.proofs.clearing.tidy_for.Goals as goal

pub returns-in_err-short-clause-cleared : goal.returns-in_err-short-clause-cleared
returns-in_err-short-clause-cleared c = let told = c.tidy-scan.ensures in
    cleared_tidied c.args.parts.now c.tidy-scan.new.self c.args.needs.now told.desk told.journal told.seen told.tidied told.epochs told.rest c.requires.can.counted c.requires.lacks

pub returns-clause-cleared : goal.returns-clause-cleared
returns-clause-cleared c = let told = c.tidy-scan.ensures in
    cleared_tidied c.args.parts.now c.tidy-scan.new.self c.args.needs.now told.desk told.journal told.seen told.tidied told.epochs told.rest c.requires.can.counted c.requires.lacks

pub unreachable-requires : goal.unreachable-requires
unreachable-requires c = let after = c.tidy-scan.new.self in let told = c.tidy-scan.ensures in let was = c.args.parts.now in
    let counted = counted_on was.pools after.pools (now (commits was.ledger)) (now (commits was.ledger)) told.tidied refl c.requires.can.counted in
    let none = none_left after.pools (told.quiet c.in-Quiet.is) in
    short_lacks after.pools c.args.needs.now c.in_ok-short.short (subst (λ (f : PoolCounts). IsShort f c.args.needs.now c.in_ok-short.short) c.free_in.ensures c.in_ok-short.ensures.short)
    (none_left_enough after.pools (now (commits was.ledger)) c.args.needs.now counted c.requires.can.suffice (λ pool. sym (count_left after.pools pool) ∙ none pool))

pub returns-clause-room : goal.returns-clause-room
returns-clause-room c = let was = c.args.parts.now in let after = c.tidy-scan.new.self in let told = c.tidy-scan.ensures in
    let seen = twice_seen _ c.in-Pinned.reader c.in-Pinned.pin (subst (λ (s : Scan). IsTwiceIn (sheet_of after.ledger.writer.place).notes s) c.in-Pinned.is told.twice) in record {
      short = subst (λ (f : PoolCounts). IsShort f c.args.needs.now c.in_ok-short.short) c.free_in.ensures c.in_ok-short.ensures.short;
      named = seen.0;
      seen_twice = seen.1;
      odd = seen.2;
      lacked = c.requires.lacks;
      left = λ none. c.requires.lacks (none_left_enough was.pools (now (commits was.ledger)) c.args.needs.now c.requires.can.counted c.requires.can.suffice none);
    }
