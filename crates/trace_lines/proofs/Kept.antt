-- The words behind a line that isn't empty.
use Rattle.std.proofs.Common.{◌≡◌, ◌∙◌, ℕ, ◌+◌, ◌<◌, ◌≤◌, Bool, false, List, [], ◌∷◌, ◌++◌, length, drop, fold, append-nil, append_assoc, Result, Ok, Err, OnOk, sym, ap, arith}
use Rattle.std.specs.Prelude.{◌==◌, if◌then◌else◌}
use Rattle.std.proofs.Math.Seq.{drop-append_seam}
use Rattle.std.proofs.lemmas.Bool.Decides.{nat_tests}
use Rattle.std.proofs.lemmas.List.{length-append}
use Rattle.tc_print.specs.Texts.{onto}
use Rattle.trace_lines.specs.Parts.{words_behind}

pub behind : (text : List ℕ) (words : List (List ℕ)) → 0 < length text → fold onto text words ≡ text ++ words_behind words
behind text [] some = sym (append-nil text)
behind text (word ∷ words) some =
    let filled : (length text == 0) ≡ false = grind (arith, nat_tests, some) in
    let grown : onto text word ≡ text ++ (32 ∷ word) =
    ap (λ (b : Bool). (if b then text else text ++ (32 ∷ [])) ++ word) filled ∙ append_assoc text (32 ∷ []) word in
    ap (λ (t : List ℕ). fold onto t words) grown ∙ behind (text ++ (32 ∷ word)) words (simp length-append (omega arith))
    ∙ append_assoc text (32 ∷ word) (words_behind words)

-- what stands behind the line once it has them
pub kept_words : (text new : List ℕ) (start : ℕ) (words : List (List ℕ)) → 0 < length text → start ≡ length text → new ≡ fold onto text words
    → drop start new ≡ words_behind words
kept_words text new start words some begins grown =
    ap (λ n. drop n new) begins ∙ ap (λ (t : List ℕ). drop (length text) t) (grown ∙ behind text words some)
    ∙ drop-append_seam text (words_behind words)

pub starts_within : (text new : List ℕ) (start : ℕ) (words : List (List ℕ)) → 0 < length text → start ≡ length text → new ≡ fold onto text words
    → start ≤ length new
starts_within text new start words some begins grown =
    let size : length new ≡ length text + length (words_behind words) =
    ap length (grown ∙ behind text words some) ∙ length-append text (words_behind words) in
    omega (arith, size, begins)

-- kept words behind a line
pub behind_line : {T E : Type 0} (result : Result T E) (text new kept : List ℕ) (words : List (List ℕ)) → 0 < length text → kept ≡ words_behind words
    → OnOk result (new ≡ text ++ kept) → OnOk result (new ≡ fold onto text words)
behind_line (Ok done) text new kept words some is made = made ∙ ap (λ (t : List ℕ). text ++ t) is ∙ sym (behind text words some)
behind_line (Err refused) text new kept words some is made = tt
