-- Texts that grow by lines.
use Rattle.std.proofs.Common.{◌≡◌, ◌∙◌, ℕ, ◌+◌, ◌<◌, List, [], ◌∷◌, ◌++◌, append_assoc, Result, Ok, Err, OnOk, fold, sym, ap, ap₂}
use Rattle.std.specs.Fmt.{decimal}
use Rattle.std.proofs.lemmas.Fmt.{decimal_digit}
use Rattle.std.proofs.lemmas.Grind.{flat_map-append}
use Rattle.tc_print.specs.Texts.{onto}
use Rattle.tc_print.proofs.Grown.{onto_append}
use Rattle.trace_lines.specs.Lines.{joined}

-- the same words behind the same text
pub same_words : {T E : Type 0} (result : Result T E) (once start new : List ℕ) (words others : List (List ℕ)) → once ≡ start → words ≡ others
    → OnOk result (new ≡ fold onto once words) → OnOk result (new ≡ fold onto start others)
same_words (Ok done) once start new words others texts same made =
    made ∙ ap₂ (λ (t : List ℕ) (ws : List (List ℕ)). fold onto t ws) texts same
same_words (Err refused) once start new words others texts same made = tt

-- some words, and then others
pub both_words : {T E : Type 0} (result : Result T E) (old once new : List ℕ) (first second : List (List ℕ)) → once ≡ fold onto old first
    → OnOk result (new ≡ fold onto once second) → OnOk result (new ≡ fold onto old (first ++ second))
both_words (Ok done) old once new first second before made =
    made ∙ ap (λ (t : List ℕ). fold onto t second) before ∙ sym (onto_append old first second)
both_words (Err refused) old once new first second before made = tt

-- lines, and then others
pub joined_more : (text : List ℕ) (a b : List (List ℕ)) → (text ++ joined a) ++ joined b ≡ text ++ joined (a ++ b)
joined_more text a b = append_assoc text (joined a) (joined b)
    ∙ ap (λ (ws : List ℕ). text ++ ws) (sym (flat_map-append (λ (line : List ℕ). line) a b))

-- one line, and then others
pub joined_behind : (text line : List ℕ) (b : List (List ℕ)) → (text ++ line) ++ joined b ≡ text ++ joined (line ∷ b)
joined_behind text line b = append_assoc text line (joined b)

-- a line, and others behind it
pub two_more : (text once twice new line : List ℕ) (a b : List (List ℕ)) → once ≡ text ++ line → twice ≡ once ++ joined a → new ≡ twice ++ joined b
    → new ≡ text ++ joined (line ∷ (a ++ b))
two_more text once twice new line a b first second third =
    third ∙ ap (λ (t : List ℕ). t ++ joined b) (second ∙ ap (λ (t : List ℕ). t ++ joined a) first ∙ joined_behind text line a)
    ∙ joined_more text (line ∷ a) b

pub lines_more : (text once new : List ℕ) (a b : List (List ℕ)) → once ≡ text ++ joined a → new ≡ once ++ joined b → new ≡ text ++ joined (a ++ b)
lines_more text once new a b first second = second ∙ ap (λ (t : List ℕ). t ++ joined b) first ∙ joined_more text a b

-- a number of one digit
pub one_digit : (n : ℕ) → n < 10 → decimal n ≡ (48 + n) ∷ []
one_digit n low = decimal_digit n low
