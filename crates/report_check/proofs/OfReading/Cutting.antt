-- The first line of bytes.
use Rattle.std.proofs.Common.{◌≡◌, ◌∙◌, ℕ, zero, suc, ◌+◌, ◌-◌, ◌<◌, ◌==◌, Bool, true, false, List, [], ◌∷◌, ◌++◌, length, take, drop, get_or, Some, None, refl, sym, ap, subst, arith, inl, inr}
use Rattle.std.specs.Prelude.{if◌then◌else◌}
use Rattle.std.proofs.lemmas.List.{take_more, drop_more, drop_all, take_all, length-drop, take-append-drop}
use Rattle.std.proofs.lemmas.Bool.Decides.{nat_tests}
use Rattle.memchr.specs.Find.{IsFirstByte, is_byte}
use Rattle.report_laws.specs.OfLineCuts.Cuts.{byte_before, cut, Inner}
use Rattle.report_laws.proofs.OfLineCuts.Cutting.{cut_line}
use Rattle.report_check.specs.OfReading.Ends.{IsEnd}

last_begins : (byte : ℕ) (b : Bool) (text : List ℕ) → b ≡ false → (if b then (byte ∷ []) ∷ text ∷ [] else (byte ∷ text) ∷ []) ≡ (byte ∷ text) ∷ []
last_begins byte true text is = absurd (cc is)
last_begins byte false text is = refl

pub cut_all : (byte : ℕ) (text : List ℕ) → Inner (byte ∷ text) → cut (byte ∷ text) ≡ (byte ∷ text) ∷ []
cut_all byte [] inner = refl
cut_all byte (next ∷ text) inner = ap (byte_before byte) (cut_all next text inner.1) ∙ last_begins byte (byte == 10) (next ∷ text) inner.0

pub cut_first : (bytes : List ℕ) (at d : ℕ) → at < length bytes → Inner (take at bytes) → get_or bytes at d ≡ 10 → cut bytes ≡ take (at + 1) bytes ∷ cut (drop (at + 1) bytes)
cut_first bytes at d less inner is =
    let split : bytes ≡ take at bytes ++ (10 ∷ drop (at + 1) bytes) =
    sym (take-append-drop at bytes) ∙ ap (λ (bs : List ℕ). take at bytes ++ bs) (drop_more bytes at d less ∙ ap (λ (b : ℕ). b ∷ drop (at + 1) bytes) is) in
    ap cut split ∙ cut_line (take at bytes) (drop (at + 1) bytes) inner
    ∙ ap (λ (line : List ℕ). line ∷ cut (drop (at + 1) bytes)) (sym (take_more bytes at d less ∙ ap (λ (b : ℕ). take at bytes ++ (b ∷ [])) is))

rest_whole : (bytes : List ℕ) (n : ℕ) → take (length bytes - n) (drop n bytes) ≡ drop n bytes
rest_whole bytes n = take_all (length bytes - n) (drop n bytes) (let long = length-drop n bytes in omega (arith, long))

-- ---- where it ends
not_true : (b : Bool) → (b ≡ true → ⊥) → b ≡ false
not_true true other = absurd (other refl)
not_true false other = refl

inner_to : (bytes : List ℕ) (k : ℕ) → ((place : ℕ) → place < k → place < length bytes → (get_or bytes place 0 == 10) ≡ false) → Inner (take k bytes)
inner_to [] zero other = tt
inner_to [] (suc k) other = tt
inner_to (byte ∷ bytes) zero other = tt
inner_to (byte ∷ bytes) (suc k) other =
    (other 0 (omega arith) (omega arith), inner_to bytes k (λ place less within. other (suc place) (omega (arith, less)) (omega (arith, within))))

ten : (byte : ℕ) → (byte == 10) ≡ true → byte ≡ 10
ten byte is = grind (arith, nat_tests, is)

pub end_at : (bytes : List ℕ) (place : ℕ) → IsFirstByte (is_byte 10) bytes (Some place) → IsEnd bytes (place + 1)
end_at bytes place found =
    inl (place, refl, found.0.high, inner_to bytes place (λ k less within. not_true (get_or bytes k 0 == 10) (found.0.before k (omega arith) less)), ten (get_or bytes place 0) found.1)

pub no_end : (bytes : List ℕ) → IsFirstByte (is_byte 10) bytes None → IsEnd bytes (length bytes)
no_end bytes nowhere =
    inr (refl, subst Inner (take_all (length bytes) bytes (omega arith)) (inner_to bytes (length bytes) (λ k less within. not_true (get_or bytes k 0 == 10) (nowhere k (omega arith) within))))

whole_line : (bytes : List ℕ) → 0 < length bytes → Inner bytes → cut bytes ≡ bytes ∷ []
whole_line [] some inner = absurd (omega (arith, some))
whole_line (byte ∷ text) some inner = cut_all byte text inner

pub first_line : (bytes : List ℕ) (end : ℕ) → 0 < length bytes → IsEnd bytes end → cut bytes ≡ take end bytes ∷ cut (take (length bytes - end) (drop end bytes))
first_line bytes end some (inl (place, is, within, inner, byte)) =
    cut_first bytes place 0 within inner byte
    ∙ ap (λ (bs : List ℕ). take (place + 1) bytes ∷ cut bs) (sym (rest_whole bytes (place + 1)))
    ∙ ap (λ (n : ℕ). take n bytes ∷ cut (take (length bytes - n) (drop n bytes))) (sym is)
first_line bytes end some (inr (is, inner)) =
    let whole : take (length bytes) bytes ≡ bytes = take_all (length bytes) bytes (omega arith) in
    whole_line bytes some inner
    ∙ ap (λ (line : List ℕ). line ∷ []) (sym whole)
    ∙ ap (λ (bs : List ℕ). take (length bytes) bytes ∷ cut bs) (sym (rest_whole bytes (length bytes) ∙ drop_all (length bytes) bytes (omega arith)))
    ∙ ap (λ (n : ℕ). take n bytes ∷ cut (take (length bytes - n) (drop n bytes))) (sym is)
