use Rattle.std.proofs.Common.{◌≡◌, ℕ, ◌+◌, ◌-◌, ◌*◌, ◌%◌, ◌^◌, ◌<◌, ◌≤◌, arith, sym, subst}
use Rattle.flow_fields.specs.Values.{bits_of, with_bits}
use Rattle.std.proofs.Common.{rules, ◌/◌}
use Rattle.std.proofs.lemmas.Nat.{shl_whole, mod_below, pow_pos}
use Rattle.flow_fields.proofs.Bits.{put_by_difference, put_fits}
use Rattle.flow_fields.proofs.access.put_bits.Goals as goal

-- what is computed, without the wrap of `<<`
computed : (number shift width value old : ℕ) → number < 2 ^ 64 → value < 2 ^ width → shift + width ≤ 64 → old ≡ bits_of number shift width →
    (number - old * 2 ^ shift % 2 ^ 64) + value * 2 ^ shift % 2 ^ 64 ≡ with_bits number shift width value
computed number shift width value old whole fits place is =
    let P : ℕ → Type 0 = λ old. (number - old * 2 ^ shift % 2 ^ 64) + value * 2 ^ shift % 2 ^ 64 ≡ with_bits number shift width value in
    subst P (sym is)
    (rw (
      shl_whole (bits_of number shift width) width shift 64 (mod_below (number / 2 ^ shift) (2 ^ width) (pow_pos width)) (omega arith),
      shl_whole value width shift 64 fits (omega arith),
    )
    (put_by_difference number shift width value))

pub overflow_add-result : goal.overflow_add-result
overflow_add-result c =
    let same = computed c.args.number c.args.shift c.args.width c.args.value c.bits.result (search rules) c.requires.value c.requires.fits c.bits.ensures in
    let below = put_fits c.args.number c.args.shift c.args.width c.args.value (search rules) c.requires.value c.requires.fits in
    rw same (record { fits = below })

pub returns : goal.returns
returns c = computed c.args.number c.args.shift c.args.width c.args.value c.bits.result (search rules) c.requires.value c.requires.fits c.bits.ensures
