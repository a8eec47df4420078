use Rattle.std.proofs.Common.{◌+◌, slice_index, ap, ◌∙◌}
use Rattle.flow_dissect.specs.Steps.{with_transport}
use Rattle.flow_dissect.proofs.network.put_ipv6_packet.Goals as goal

-- src/network.rt:119:1
pub returns-clause-values : goal.returns-clause-values
returns-clause-values c =
    c.put_transport.ensures.values
    ∙ ap (with_transport c.args.bytes.now (slice_index c.args.bytes.now (c.args.start + 6)) (c.args.start + 40)) c.put_ipv6.ensures.values

-- src/network.rt:119:1
pub returns-clause-tidy : goal.returns-clause-tidy
returns-clause-tidy c = λ tidy. c.put_transport.ensures.tidy (c.put_ipv6.ensures.tidy tidy)
