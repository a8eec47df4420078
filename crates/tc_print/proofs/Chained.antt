-- Texts that grow by some words, and then by more.
use Rattle.std.proofs.Common.{◌≡◌, ◌∙◌, ℕ, List, ◌++◌, Result, Ok, Err, OnOk, fold, sym, ap}
use Rattle.tc_print.proofs.Grown.{onto_append}
use Rattle.tc_print.specs.Texts.{onto}

-- where the last words were put, all were
pub grown : {T E : Type 0} (result : Result T E) (old once new : List ℕ) (first second : List (List ℕ)) → once ≡ fold onto old first
    → OnOk result (new ≡ fold onto once second) → OnOk result (new ≡ fold onto old (first ++ second))
grown (Ok done) old once new first second before after = after ∙ ap (λ text. fold onto text second) before ∙ sym (onto_append old first second)
grown (Err refused) old once new first second before after = tt
