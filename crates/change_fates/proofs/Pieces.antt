-- Pieces of a line, one behind the other.
use Rattle.std.proofs.Common.{◌≡◌, ◌∙◌, ◌++◌, ℕ, List, ap, append_assoc}

pub three : (a b c d x y z : List ℕ) → b ≡ a ++ x → c ≡ b ++ y → d ≡ c ++ z → d ≡ a ++ (x ++ (y ++ z))
three a b c d x y z one two last =
    last ∙ ap (λ (xs : List ℕ). xs ++ z) (two ∙ ap (λ (xs : List ℕ). xs ++ y) one) ∙ append_assoc (a ++ x) y z
    ∙ append_assoc a x (y ++ z)
