use Rattle.flow_dissect.proofs.Layers.{short, layers}
use Rattle.std.proofs.Common.{◌∙◌}
use Rattle.flow_dissect.proofs.put_key.Goals as goal

-- src/lib.rt:45:9
pub returns-then-bytes-lt14-clause-values : goal.returns-then-bytes-lt14-clause-values
returns-then-bytes-lt14-clause-values c = c.new.ensures.values ∙ short c.args.bytes.now c.if-bytes-lt14.true

-- src/lib.rt:38:1
pub returns-clause-values : goal.returns-clause-values
returns-clause-values c =
    layers c.args.bytes.now _ _ _ _ _ c.if-bytes-lt14.false c.new.ensures.values c.put_addresses.ensures.values
    c.network_place-network.ensures.start c.put_tags.ensures.values c.put_packet.ensures.values

-- src/lib.rt:38:1
pub returns-clause-tidy : goal.returns-clause-tidy
returns-clause-tidy c =
    c.put_packet.ensures.tidy (c.put_tags.ensures.tidy (c.put_addresses.ensures.tidy c.new.ensures.tidy))
