use Rattle.std.proofs.Common.{◌≤◌, ◌∙◌, ℕ, leb, sym, rules, tests}
use Rattle.std.specs.Prelude.{IsTrue}
use Rattle.std.proofs.lemmas.Bool.{false≢true}
use Rattle.block_codec.proofs.mask.has_mask.Goals as goal
use Rattle.block_codec.proofs.mask.has_mask.Goals.{then-has_mask_front, else-has_mask_front, then-has_rows, else-has_rows}

is_most : (n m : ℕ) → IsTrue (leb n m) → n ≤ m
is_most n m t = search (rules, tests)

most_is : (n m : ℕ) → n ≤ m → IsTrue (leb n m)
most_is n m low = search (rules, tests)

pub returns-then-is_blank_from : goal.returns-then-is_blank_from
returns-then-is_blank_from c = elim c.if-has_rows.branch [
  | then-has_rows w ↦ elim c.if-has_mask_front.branch [
    | then-has_mask_front v ↦ (
      (λ last. record {
        front = c.has_mask_front.ensures.0 v.if-has_mask_front.true;
        rows = v.has_rows.ensures.0 (sym v.value-is ∙ w.if-has_rows.true);
        rest = w.is_blank_from.ensures.0 (sym w.value-is ∙ c.if-is_blank_from.true);
        link = is_most _ _ last;
      }),
      (λ has. most_is _ _ has.link),
    )
    | else-has_mask_front v ↦ absurd (false≢true (sym v.if-has_mask_front.false ∙ (sym v.value-is ∙ w.if-has_rows.true)))
  ]
  | else-has_rows w ↦ absurd (false≢true (sym w.if-has_rows.false ∙ (sym w.value-is ∙ c.if-is_blank_from.true)))
]
