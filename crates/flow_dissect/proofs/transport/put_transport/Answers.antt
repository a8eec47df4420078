use Rattle.std.proofs.Common.{◌%◌, ap}
use mathlib.Core.Logic.{inl, inr}
use Rattle.flow_dissect.proofs.Ports.{other_protocol, no_ports, udp, short_tcp, tcp}
use Rattle.flow_dissect.proofs.transport.put_transport.Goals as goal
use Rattle.flow_dissect.proofs.transport.put_transport.Goals.{then-protocol-ne-UDP-via-then-protocol-ne-UDP, then-protocol-ne-UDP-via-else-protocol-ne-UDP+then-bytes-start, else-protocol-eq-TCP-via-then-protocol-eq-TCP+else-bytes-start-2, else-protocol-eq-TCP-via-else-protocol-eq-TCP}

-- src/transport.rt:37:9
pub returns-then-protocol-ne-UDP-clause-values : goal.returns-then-protocol-ne-UDP-clause-values
returns-then-protocol-ne-UDP-clause-values c =
    elim c.then-protocol-ne-UDP.branch [
      | then-protocol-ne-UDP-via-then-protocol-ne-UDP w ↦ other_protocol c.args.bytes.now _ c.args.protocol c.args.start w.if-protocol-ne-UDP.true.0 w.if-protocol-ne-UDP.true.1
      | then-protocol-ne-UDP-via-else-protocol-ne-UDP+then-bytes-start w ↦ no_ports c.args.bytes.now _ c.args.protocol c.args.start w.if-bytes-start.true
    ]

-- src/transport.rt:28:1
pub returns-then-bytes-start-2-clause-values : goal.returns-then-bytes-start-2-clause-values
returns-then-bytes-start-2-clause-values c =
    tcp c.args.bytes.now _ _ _ c.args.protocol c.args.start _ c.if-protocol-eq-TCP.true c.if-bytes-start-2.true c.put_ports.ensures.values c.set.ensures.values
    (ap (λ n. n % 4096) c.u16_at-flags.ensures)

-- src/transport.rt:28:1
pub returns-then-bytes-start-2-clause-tidy : goal.returns-then-bytes-start-2-clause-tidy
returns-then-bytes-start-2-clause-tidy c = λ tidy. c.set.ensures.tidy (c.put_ports.ensures.tidy tidy)

-- src/transport.rt:28:1
pub returns-else-protocol-eq-TCP-clause-values : goal.returns-else-protocol-eq-TCP-clause-values
returns-else-protocol-eq-TCP-clause-values c =
    elim c.else-protocol-eq-TCP.branch [
      | else-protocol-eq-TCP-via-then-protocol-eq-TCP+else-bytes-start-2 w ↦
          short_tcp c.args.bytes.now _ _ c.args.protocol c.args.start w.if-protocol-eq-TCP.true c.if-bytes-start.false w.if-bytes-start-2.false c.put_ports.ensures.values
      | else-protocol-eq-TCP-via-else-protocol-eq-TCP w ↦ elim c.if-protocol-ne-UDP.either [
        | inl is ↦ udp c.args.bytes.now _ _ c.args.protocol c.args.start is.1 c.if-bytes-start.false c.put_ports.ensures.values
        | inr is ↦ absurd (w.if-protocol-eq-TCP.false is)
      ]
    ]

-- src/transport.rt:28:1
pub returns-else-protocol-eq-TCP-clause-tidy : goal.returns-else-protocol-eq-TCP-clause-tidy
returns-else-protocol-eq-TCP-clause-tidy c = c.put_ports.ensures.tidy
