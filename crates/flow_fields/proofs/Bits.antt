-- Numbers in some bits of which another number was put.
use Rattle.std.proofs.Common.{◌≡◌, ℕ, ◌+◌, ◌-◌, ◌*◌, ◌/◌, ◌%◌, ◌^◌, ◌<◌, ◌≤◌, ◌⊎◌, inl, inr, arith, ap, sym, ◌∙◌, subst}
use Rattle.std.proofs.lemmas.Nat.{shr_high, mod_low, shr_split, shr-shr, field_of, pow-add, pow_pos, mod_below, shr_below, mul-add-lt}
use Rattle.std.proofs.Math.Nat.{add-mul}
use Rattle.std.proofs.Math.Pow.{mod-mod-pow}
use Rattle.flow_fields.specs.Values.{bits_of, with_bits}

pub put_same : (number shift width value : ℕ) → value < 2 ^ width → bits_of (with_bits number shift width value) shift width ≡ value
put_same number shift width value fits =
    let low : number % 2 ^ shift < 2 ^ shift = mod_below number (2 ^ shift) (pow_pos shift) in
    rw (shr_high (number / 2 ^ shift / 2 ^ width * 2 ^ width + value) shift (number % 2 ^ shift) low)
    (mod_low (number / 2 ^ shift / 2 ^ width) width value fits)

-- the bits below
low_same : (number shift width value : ℕ) → with_bits number shift width value % 2 ^ shift ≡ number % 2 ^ shift
low_same number shift width value =
    mod_low (number / 2 ^ shift / 2 ^ width * 2 ^ width + value) shift (number % 2 ^ shift)
    (mod_below number (2 ^ shift) (pow_pos shift))

-- the bits above
high_same : (number shift width value : ℕ) → value < 2 ^ width →
    with_bits number shift width value / 2 ^ shift / 2 ^ width ≡ number / 2 ^ shift / 2 ^ width
high_same number shift width value fits =
    rw (shr_high (number / 2 ^ shift / 2 ^ width * 2 ^ width + value) shift (number % 2 ^ shift)
    (mod_below number (2 ^ shift) (pow_pos shift)))
    (shr_high (number / 2 ^ shift / 2 ^ width) width value fits)

-- bits below depend on the low part alone
bits_below : (number at count rest : ℕ) → bits_of number at count ≡ number % 2 ^ (rest + (count + at)) % 2 ^ (count + at) / 2 ^ at
bits_below number at count rest =
    sym (ap (λ x. x / 2 ^ at) (mod-mod-pow number rest (count + at)) ∙ field_of number count at)

-- bits above depend on the high part alone
bits_above : (number shift width more count : ℕ) → bits_of number (shift + width + more) count ≡ number / 2 ^ shift / 2 ^ width / 2 ^ more % 2 ^ count
bits_above number shift width more count =
    ap (λ x. x % 2 ^ count) (sym (ap (λ x. x / 2 ^ more) (shr-shr number shift width) ∙ shr-shr number (shift + width) more))

pub put_other : (number shift width value at count : ℕ) → value < 2 ^ width →
    (at + count ≤ shift) ⊎ (shift + width ≤ at) →
    bits_of (with_bits number shift width value) at count ≡ bits_of number at count
put_other number shift width value at count fits (inl below) =
    let split : shift ≡ shift - (count + at) + (count + at) = omega arith in
    let low : with_bits number shift width value % 2 ^ (shift - (count + at) + (count + at)) ≡ number % 2 ^ (shift - (count + at) + (count + at)) =
    (let P : ℕ → Type 0 = λ place. with_bits number shift width value % 2 ^ place ≡ number % 2 ^ place in
    subst P split (low_same number shift width value)) in
    bits_below (with_bits number shift width value) at count (shift - (count + at))
    ∙ ap (λ x. x % 2 ^ (count + at) / 2 ^ at) low
    ∙ sym (bits_below number at count (shift - (count + at)))
put_other number shift width value at count fits (inr above) =
    let split : at ≡ shift + width + (at - (shift + width)) = omega arith in
    let P : ℕ → Type 0 = λ place. bits_of (with_bits number shift width value) place count ≡ bits_of number place count in
    subst P (sym split)
    (bits_above (with_bits number shift width value) shift width (at - (shift + width)) count
    ∙ ap (λ x. x / 2 ^ (at - (shift + width)) % 2 ^ count) (high_same number shift width value fits)
    ∙ sym (bits_above number shift width (at - (shift + width)) count))

-- the number is its parts
pub put_back : (number shift width : ℕ) → with_bits number shift width (bits_of number shift width) ≡ number
put_back number shift width =
    ap (λ x. x * 2 ^ shift + number % 2 ^ shift) (shr_split (number / 2 ^ shift) width) ∙ shr_split number shift

-- what the program computes
pub put_by_difference : (number shift width value : ℕ) →
    (number - bits_of number shift width * 2 ^ shift) + value * 2 ^ shift ≡ with_bits number shift width value
put_by_difference number shift width value =
    let high : ℕ = number / 2 ^ shift / 2 ^ width * 2 ^ width in
    let parts : (high + bits_of number shift width) * 2 ^ shift + number % 2 ^ shift ≡ number = put_back number shift width in
    let old : (high + bits_of number shift width) * 2 ^ shift ≡ high * 2 ^ shift + bits_of number shift width * 2 ^ shift =
    add-mul high (bits_of number shift width) (2 ^ shift) in
    let new : (high + value) * 2 ^ shift ≡ high * 2 ^ shift + value * 2 ^ shift = add-mul high value (2 ^ shift) in
    omega arith

pub bits_within : (number shift width : ℕ) → bits_of number shift width * 2 ^ shift ≤ number
bits_within number shift width =
    let high : ℕ = number / 2 ^ shift / 2 ^ width * 2 ^ width in
    let parts : (high + bits_of number shift width) * 2 ^ shift + number % 2 ^ shift ≡ number = put_back number shift width in
    let old : (high + bits_of number shift width) * 2 ^ shift ≡ high * 2 ^ shift + bits_of number shift width * 2 ^ shift =
    add-mul high (bits_of number shift width) (2 ^ shift) in
    omega arith

pub put_fits : (number shift width value : ℕ) → number < 2 ^ 64 → value < 2 ^ width → shift + width ≤ 64 →
    with_bits number shift width value < 2 ^ 64
put_fits number shift width value whole fits place =
    let rest : ℕ = 64 - (shift + width) in
    let split : 64 ≡ rest + width + shift = omega arith in
    let whole' : number < 2 ^ (rest + width + shift) = (let P : ℕ → Type 0 = λ n. number < 2 ^ n in subst P split whole) in
    let high : number / 2 ^ shift / 2 ^ width < 2 ^ rest =
    shr_below (number / 2 ^ shift) rest width (shr_below number (rest + width) shift whole') in
    let upper : number / 2 ^ shift / 2 ^ width * 2 ^ width + value < 2 ^ width * 2 ^ rest =
    mul-add-lt (number / 2 ^ shift / 2 ^ width) (2 ^ width) value (2 ^ rest) high fits in
    let all : with_bits number shift width value < 2 ^ shift * (2 ^ width * 2 ^ rest) =
    mul-add-lt (number / 2 ^ shift / 2 ^ width * 2 ^ width + value) (2 ^ shift) (number % 2 ^ shift) (2 ^ width * 2 ^ rest) upper
    (mod_below number (2 ^ shift) (pow_pos shift)) in
    let size : 2 ^ shift * (2 ^ width * 2 ^ rest) ≡ 2 ^ 64 =
    ap (λ x. 2 ^ shift * x) (sym (pow-add 2 width rest)) ∙ sym (pow-add 2 shift (width + rest))
    ∙ ap (λ n. 2 ^ n) (let e : shift + (width + rest) ≡ 64 = omega arith in e) in
    (let P : ℕ → Type 0 = λ n. with_bits number shift width value < n in subst P size all)
