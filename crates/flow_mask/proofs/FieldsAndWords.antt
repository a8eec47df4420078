-- Equal words under a mask are equal fields under it.
use Rattle.std.proofs.Common.{◌≡◌, ◌↔◌, ℕ, List, length, get_or, min, sym, ap, ◌∙◌, arith}
use Rattle.std.specs.Int.{bit_at}
use Rattle.std.proofs.lemmas.Nat.Bits.{bit_at_and}
use Rattle.flow_fields.specs.Values.{values_of, IsTidy}
use Rattle.flow_fields.proofs.Words.{words_from_values}
use Rattle.flow_mask.specs.Masks.{each_and}
use Rattle.flow_mask.proofs.Ands.{get_or-each_and, length-each_and, values_of-each_and}

-- a key under a mask with no stray bit has none
pub each_and_tidy : (key mask : List ℕ) → IsTidy mask → IsTidy (each_and key mask)
each_and_tidy key mask tidy = λ word j free.
    ap (λ n. bit_at n j) (get_or-each_and key mask word)
    ∙ bit_at_and (get_or key word 0) (get_or mask word 0) j
    ∙ (let zero_bit = tidy word j free in let e : min (bit_at (get_or key word 0) j) (bit_at (get_or mask word 0) j) ≡ 0 = omega (arith, zero_bit) in e)

pub words_are_fields : (frame mask key : List ℕ) → length frame ≡ length key → length mask ≡ length key → IsTidy mask → IsTidy key →
    (each_and frame mask ≡ key) ↔ (each_and (values_of frame) (values_of mask) ≡ values_of key)
words_are_fields frame mask key frame_length mask_length tidy_mask tidy_key =
    let shortest = length-each_and frame mask in
    let lengths : length (each_and frame mask) ≡ length key = omega (arith, shortest) in (
      λ words. sym (values_of-each_and frame mask) ∙ ap values_of words,
      λ values. words_from_values (each_and frame mask) key lengths (each_and_tidy frame mask tidy_mask) tidy_key
          (values_of-each_and frame mask ∙ values),
    )
