use Rattle.std.proofs.Common.{◌%◌, ◌/◌, refl, ap, ◌∙◌}
use Rattle.flow_dissect.proofs.Puts.{put}
use Rattle.flow_dissect.specs.Steps.{with_ipv6_addresses}
use Rattle.flow_dissect.proofs.network.put_ipv6.Goals as goal

-- src/network.rt:91:1
pub returns-clause-values : goal.returns-clause-values
returns-clause-values c =
    c.put_ipv6_addresses.ensures.values
    ∙ ap (with_ipv6_addresses c.args.bytes.now c.args.start)
    (put _ _ _ 15 _ _ c.set-3.ensures.values
    (put _ _ _ 5 _ _ c.set-2.ensures.values
    (put _ _ _ 14 _ _ c.set.ensures.values refl (ap (λ n. n / 16 % 256) c.u16_at.ensures)) refl) refl)

-- src/network.rt:91:1
pub returns-clause-tidy : goal.returns-clause-tidy
returns-clause-tidy c = λ tidy. c.put_ipv6_addresses.ensures.tidy (c.set-3.ensures.tidy (c.set-2.ensures.tidy (c.set.ensures.tidy tidy)))
