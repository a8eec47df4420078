use Rattle.std.proofs.Common.{◌-◌, arith}
use Rattle.std.proofs.Math.Pow.{pow_mono}
use Rattle.std.proofs.lemmas.Grind.{common_steps}
use Rattle.tc_words.proofs.mac_addresses.length_mask.Goals as goal

pub overflow_sub-result-2 : goal.overflow_sub-result-2
overflow_sub-result-2 c =
    let le = pow_mono {i = 48 - c.args.length} {j = 48} (omega arith) in
    grind (arith, common_steps, le)
