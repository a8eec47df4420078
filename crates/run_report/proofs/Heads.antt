-- The head of a packet's line as its label and its number.
use Rattle.std.proofs.Common.{◌≡◌, ◌∙◌, ℕ, ◌+◌, List, [], ◌++◌, length, append-nil, refl, sym, ap}
use Rattle.std.specs.Prelude.{codes, decimal}
use Rattle.std.proofs.lemmas.List.{length-append}
use Rattle.walk_texts.specs.Texts.{counted}

abbrev pub label : List ℕ
label = codes "packet "

counted_is : (number : ℕ) → counted label number ≡ label ++ decimal number
unfolding counted
counted_is number = refl

-- nothing stands behind the number
pub head_is : (number : ℕ) → counted label number ≡ label ++ (decimal number ++ [])
head_is number = counted_is number ∙ ap (λ (ds : List ℕ). label ++ ds) (sym (append-nil (decimal number)))

pub length_head : (number : ℕ) → length (counted label number) ≡ 7 + length (decimal number)
length_head number = ap length (counted_is number) ∙ length-append label (decimal number)
