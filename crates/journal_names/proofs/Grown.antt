-- A line that grows by some words, and then by more.
use Rattle.std.proofs.Common.{◌≡◌, ◌∙◌, ℕ, List, [], ◌∷◌, ◌++◌, sym, ap}
use Rattle.std.specs.Prelude.{fold, Result, Ok, Err, OnOk, is_ok, if◌then◌else◌}
use Rattle.std.proofs.lemmas.List.Sums.{fold-append}
use Rattle.tc_print.specs.Texts.{onto}
use Rattle.trace_lines.specs.Lines.{line_of}

-- ahead, and then three times, of which the last may have failed
pub grown_thrice : {T E : Type 0} (result : Result T E) (old ahead one two new : List ℕ) (front first second third : List (List ℕ)) → ahead ≡ fold onto old front → one ≡ fold onto ahead first
    → two ≡ fold onto one second → OnOk result (new ≡ fold onto two third) → OnOk result (new ≡ fold onto old (front ++ (first ++ second ++ third)))
grown_thrice (Ok done) old ahead one two new front first second third a b c d =
    d ∙ ap (λ (text : List ℕ). fold onto text third) (c ∙ ap (λ (text : List ℕ). fold onto text second) (b ∙ ap (λ (text : List ℕ). fold onto text first) a))
    ∙ sym (fold-append onto old front (first ++ second ++ third)
    ∙ fold-append onto (fold onto old front) (first ++ second) third
    ∙ ap (λ (text : List ℕ). fold onto text third) (fold-append onto (fold onto old front) first second))
grown_thrice (Err refused) old ahead one two new front first second third a b c d = tt

-- a line that was made in an empty room is put behind a text
pub line_put : {T E : Type 0} (result : Result T E) (old new room line whole lent : List ℕ) (words : List (List ℕ)) → room ≡ [] → line ≡ fold onto room words → whole ≡ line ++ (10 ∷ []) → lent ≡ whole
    → new ≡ (if is_ok result then old ++ lent else old) → OnOk result (new ≡ old ++ line_of words)
line_put (Ok done) old new room line whole lent words empty made ended same put =
    put ∙ ap (λ (text : List ℕ). old ++ text) (same ∙ ended ∙ ap (λ (text : List ℕ). text ++ (10 ∷ [])) (made ∙ ap (λ (text : List ℕ). fold onto text words) empty))
line_put (Err refused) old new room line whole lent words empty made ended same put = tt
