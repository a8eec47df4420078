use Rattle.std.proofs.Common.{sym, ◌∙◌}
use Rattle.flow_dissect.proofs.Packets.{fragment, whole}
use Rattle.flow_dissect.proofs.network.put_ipv4_packet.Goals as goal

-- src/network.rt:105:1
pub returns-then-not-is_fragment-clause-values : goal.returns-then-not-is_fragment-clause-values
returns-then-not-is_fragment-clause-values c =
    whole c.args.bytes.now _ _ _ c.args.start (sym c.is_fragment.ensures ∙ c.if-not-is_fragment.true) c.put_ipv4.ensures.values c.put_transport.ensures.values

-- src/network.rt:105:1
pub returns-then-not-is_fragment-clause-tidy : goal.returns-then-not-is_fragment-clause-tidy
returns-then-not-is_fragment-clause-tidy c = λ tidy. c.put_transport.ensures.tidy (c.put_ipv4.ensures.tidy tidy)

-- src/network.rt:105:1
pub returns-else-not-is_fragment-clause-values : goal.returns-else-not-is_fragment-clause-values
returns-else-not-is_fragment-clause-values c =
    fragment c.args.bytes.now _ _ c.args.start (sym c.is_fragment.ensures ∙ c.if-not-is_fragment.false) c.put_ipv4.ensures.values
