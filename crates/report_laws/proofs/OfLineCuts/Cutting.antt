-- Lines that are joined are cut again.
use Rattle.std.proofs.Common.{◌≡◌, ◌∙◌, ℕ, ◌==◌, Bool, true, false, List, [], ◌∷◌, ◌++◌, refl, sym, ap, append_assoc}
use Rattle.std.specs.Prelude.{if◌then◌else◌}
use Rattle.report_laws.specs.OfLineCuts.Cuts.{byte_before, cut, Inner, AreLines, joined}

ends : (lines : List (List ℕ)) → byte_before 10 lines ≡ (10 ∷ []) ∷ lines
ends [] = refl
ends (line ∷ lines) = refl

begins : (byte : ℕ) (b : Bool) (line : List ℕ) (lines : List (List ℕ)) → b ≡ false → (if b then (byte ∷ []) ∷ line ∷ lines else (byte ∷ line) ∷ lines) ≡ (byte ∷ line) ∷ lines
begins byte true line lines is = absurd (cc is)
begins byte false line lines is = refl

-- a line in front of bytes is the first of their lines
pub cut_line : (text bytes : List ℕ) → Inner text → cut (text ++ (10 ∷ bytes)) ≡ (text ++ (10 ∷ [])) ∷ cut bytes
cut_line [] bytes inner = ends (cut bytes)
cut_line (byte ∷ text) bytes inner =
    ap (byte_before byte) (cut_line text bytes inner.1) ∙ begins byte (byte == 10) (text ++ (10 ∷ [])) (cut bytes) inner.0

pub cut_joined : (lines : List (List ℕ)) → AreLines lines → cut (joined lines) ≡ lines
cut_joined [] are = refl
cut_joined (line ∷ lines) ((text, inner, is), are) =
    ap (λ (l : List ℕ). cut (l ++ joined lines)) is
    ∙ ap cut (append_assoc text (10 ∷ []) (joined lines))
    ∙ cut_line text (joined lines) inner
    ∙ ap (λ (ls : List (List ℕ)). (text ++ (10 ∷ [])) ∷ ls) (cut_joined lines are)
    ∙ ap (λ (l : List ℕ). l ∷ lines) (sym is)

-- ---- bytes among which no line ends
pub inner_append : (xs ys : List ℕ) → Inner xs → Inner ys → Inner (xs ++ ys)
inner_append [] ys first second = second
inner_append (x ∷ xs) ys first second = (first.0, inner_append xs ys first.1 second)
