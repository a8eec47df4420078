use Rattle.std.proofs.Common.{◌≡◌, ◌-◌, ◌^◌, arith, bit_and, ap, ◌∙◌, ◌/◌}
use Rattle.std.proofs.lemmas.Nat.{and_mask}
use Rattle.flow_fields.proofs.access.bits.Goals as goal

pub returns : goal.returns
returns c =
    let mask : c.ones.result ≡ 2 ^ c.args.width - 1 = omega arith in
    ap (λ m. bit_and (c.args.number / 2 ^ c.args.shift) m) mask ∙ and_mask (c.args.number / 2 ^ c.args.shift) c.args.width
