-- Different buckets of a mask have different roots.
use Rattle.std.proofs.Common.{◌≡◌, ◌∙◌, ℕ, ◌+◌, ◌*◌, ◌/◌, ◌%◌, ◌<◌, eqb, eq-eqb, List, length, get_or, sym, arith}
use Rattle.std.specs.List.{IsDistinct}
use Rattle.std.proofs.lemmas.Map.Keys.{apart_from_distinct}
use mathlib.Core.Logic.{dite}
use native.Mathlib.Decide.{dec_lt}
use Rattle.block_codec.specs.declared.mask.StoredMask.{StoredMask}
use Rattle.block_codec.specs.Masks.{IsStorableMask}
use Rattle.mask_table.specs.Buckets.{bucket_root}

pub buckets_apart : (mask : StoredMask) → IsStorableMask mask → IsDistinct eqb mask.rows → (i j : ℕ) → i < mask.size → j < mask.size → bucket_root mask i ≡ bucket_root mask j → i ≡ j
buckets_apart mask is different i j first second same = let rows = is.rows in
    let row : get_or mask.rows (i / 16) 0 ≡ get_or mask.rows (j / 16) 0 = omega (arith, same) in let place : i % 16 ≡ j % 16 = omega (arith, same) in
    let one = same_row (i / 16) (j / 16) (omega arith) (omega arith) row in omega arith
  where
    never : (k l : ℕ) → k < l → l < length mask.rows → get_or mask.rows k 0 ≡ get_or mask.rows l 0 → ⊥
    never k l less within e = cc (sym (eq-eqb (get_or mask.rows k 0) (get_or mask.rows l 0) e) ∙ apart_from_distinct eqb mask.rows k l 0 different less within)

    same_row : (k l : ℕ) → k < length mask.rows → l < length mask.rows → get_or mask.rows k 0 ≡ get_or mask.rows l 0 → k ≡ l
    same_row k l low high e = dite (dec_lt k l)
        (λ (less : k < l). absurd (never k l less high e))
        (λ (no_less : k < l → ⊥). dite (dec_lt l k)
        (λ (more : l < k). absurd (never l k more low (sym e)))
        (λ (no_more : l < k → ⊥). omega arith))
