-- Lines that are cut off, one by one, at their line feeds.
use Rattle.std.proofs.Common.{◌≡◌, ◌∙◌, ℕ, zero, suc, ◌+◌, ◌<◌, ◌==◌, Bool, true, false, cond, ◌&&◌, List, [], ◌∷◌, ◌++◌, length, take, drop, Option, Some, None, refl, sym, ap, ap₂, append_assoc, arith}
use Rattle.std.specs.Prelude.{not, position, nat_lt, codes}
use Rattle.std.specs.Borrow.{Bor}
use Rattle.std.specs.Option.{option_map}
use Rattle.std.specs.List.{position_or_len}
use Rattle.std.proofs.lemmas.Bool.Decides.{nat_tests}
use Rattle.std.proofs.lemmas.Fmt.{decimal_digit}
use Rattle.tc_words.specs.Lines.{cut_once}
use Rattle.tc_words.proofs.Parts.{parts_cut_at}
use Rattle.walk_texts.specs.Texts.{counted}
use Rattle.batch_trace.specs.Kept.{at_number, behind_head, AreEnds}
use Rattle.batch_trace.proofs.Untold.{free}

abbrev ends_line : ℕ → Bool
ends_line b = b == 10

-- the first line feed stands behind a text that has none
by_first : (b : Bool) (word : ℕ) (words rest : List ℕ) → ends_line word ≡ b → free (word ∷ words) ≡ true
    → (free words ≡ true → position_or_len ends_line (words ++ (10 ∷ rest)) ≡ length words)
    → position_or_len ends_line (word ∷ (words ++ (10 ∷ rest))) ≡ length (word ∷ words)
by_first true word words rest e is more = absurd (cc (sym is ∙ ap (λ (b : Bool). not b && free words) e))
by_first false word words rest e is more =
    let place : position_or_len ends_line (word ∷ (words ++ (10 ∷ rest)))
    ≡ cond (not false) (1 + position_or_len ends_line (words ++ (10 ∷ rest))) 0 =
    ap (λ (b : Bool). cond (not b) (1 + position_or_len ends_line (words ++ (10 ∷ rest))) 0) e in
    let later = more (sym (ap (λ (b : Bool). not b && free words) e) ∙ is) in
    omega (arith, place, later)

place_there : (words rest : List ℕ) → free words ≡ true → position_or_len ends_line (words ++ (10 ∷ rest)) ≡ length words
place_there [] rest is = refl
place_there (word ∷ words) rest is = by_first (ends_line word) word words rest refl is (λ free. place_there words rest free)

front_of : (words rest : List ℕ) → take (length words) (words ++ rest) ≡ words
front_of [] rest = refl
front_of (word ∷ words) rest = ap (λ (t : List ℕ). word ∷ t) (front_of words rest)

back_from : (words rest : List ℕ) (at : ℕ) → at ≡ length words + 1 → drop at (words ++ (10 ∷ rest)) ≡ rest
back_from words rest zero is = absurd (omega (arith, is))
back_from [] rest (suc at) is = let none : at ≡ 0 = omega (arith, is) in ap (λ (n : ℕ). drop n rest) none
back_from (word ∷ words) rest (suc at) is = back_from words rest at (omega (arith, is))

longer : (words rest : List ℕ) → length words < length (words ++ (10 ∷ rest))
longer [] rest = omega arith
longer (word ∷ words) rest = let more = longer words rest in omega (arith, more)

pub cut_here : (words rest : List ℕ) → free words ≡ true → cut_once 10 (words ++ (10 ∷ rest)) ≡ Some (words, rest)
cut_here words rest is =
    let text : List ℕ = words ++ (10 ∷ rest) in
    let less = longer words rest in
    let lt : nat_lt (length words) (length text) ≡ true = grind (arith, nat_tests, less) in
    let at : position ends_line text ≡ Some (length words) =
    ap (λ (n : ℕ). cond (nat_lt n (length text)) (Some n) None) (place_there words rest is)
    ∙ ap (λ (b : Bool). cond b (Some (length words)) None) lt in
    ap (option_map (λ (n : ℕ). (take n text, drop (n + 1) text))) at
    ∙ ap₂ (λ (a b : List ℕ). Some (a, b)) (front_of words (10 ∷ rest)) (back_from words rest (length words + 1) refl)

abbrev parts : Option (Bor (List ℕ) × Bor (List ℕ)) → Option (List ℕ × List ℕ)
parts cut = option_map (λ (both : Bor (List ℕ) × Bor (List ℕ)). (both.0.now, both.1.now)) cut

pub cut_shorter : (text : List ℕ) (cut : Option (Bor (List ℕ) × Bor (List ℕ))) (line behind : Bor (List ℕ))
    → parts cut ≡ cut_once 10 text → cut ≡ Some (line, behind) → length behind.now < length text
cut_shorter text cut line behind is some = (parts_cut_at 10 text line.now behind.now (sym is ∙ ap parts some)).0

-- a text of lines that all begin with `at 0`
first_of : (line words : List ℕ) (rest : List (List ℕ)) → line ≡ words ++ (10 ∷ [])
    → behind_head (at_number 0) (line ∷ rest) ≡ (at_number 0 ++ words) ++ (10 ∷ behind_head (at_number 0) rest)
first_of line words rest is =
    ap (λ (l : List ℕ). (at_number 0 ++ l) ++ behind_head (at_number 0) rest) is
    ∙ regrouped (at_number 0) words (10 ∷ []) (behind_head (at_number 0) rest)
  where
    regrouped : (a b c d : List ℕ) → (a ++ (b ++ c)) ++ d ≡ (a ++ b) ++ (c ++ d)
    regrouped a b c d = simp append_assoc

zero_told : at_number 0 ≡ codes "at 0"
unfolding counted
zero_told = ap (λ (t : List ℕ). codes "at " ++ t) (decimal_digit 0 (omega arith))

head_free : (words : List ℕ) → free words ≡ true → free (at_number 0 ++ words) ≡ true
head_free words is = ap (λ (t : List ℕ). free (t ++ words)) zero_told ∙ is

cut_first : (line words : List ℕ) (rest : List (List ℕ)) (text : List ℕ) → free words ≡ true → line ≡ words ++ (10 ∷ [])
    → text ≡ behind_head (at_number 0) (line ∷ rest)
    → cut_once 10 text ≡ Some (at_number 0 ++ words, behind_head (at_number 0) rest)
cut_first line words rest text is ends are =
    ap (cut_once 10) (are ∙ first_of line words rest ends)
    ∙ cut_here (at_number 0 ++ words) (behind_head (at_number 0) rest) (head_free words is)

pub none_left : (cut : Option (Bor (List ℕ) × Bor (List ℕ))) (left : List (List ℕ)) (text : List ℕ) → AreEnds left
    → text ≡ behind_head (at_number 0) left → parts cut ≡ cut_once 10 text → cut ≡ None → left ≡ []
none_left cut [] text are is of none = refl
none_left cut (line ∷ rest) text are is of none =
    let first = are.0 in
    let some = sym (ap parts none) ∙ of ∙ cut_first line first.0 rest text first.1 first.2 is in
    absurd (cc some)

ends_in : (words : List ℕ) → drop 4 (at_number 0 ++ words) ≡ words
ends_in words = ap (λ (t : List ℕ). drop 4 (t ++ words)) zero_told

pub one_less : (text : List ℕ) (cut : Option (Bor (List ℕ) × Bor (List ℕ))) (line behind : Bor (List ℕ))
    (left : List (List ℕ)) (head : List ℕ) → AreEnds left → text ≡ behind_head (at_number 0) left
    → parts cut ≡ cut_once 10 text → cut ≡ Some (line, behind)
    → (rest : List (List ℕ)) × AreEnds rest × (behind.now ≡ behind_head (at_number 0) rest)
    × (behind_head head left ≡ ((head ++ drop 4 line.now) ++ (10 ∷ [])) ++ behind_head head rest)
one_less text cut line behind [] head are is of some =
    absurd (cc (sym (ap parts some) ∙ of ∙ ap (cut_once 10) is))
one_less text cut line behind (l ∷ rest) head are is of some =
    let first = are.0 in
    let both : ◌≡◌ {A = Option (List ℕ × List ℕ)} (Some (line.now, behind.now)) (Some (at_number 0 ++ first.0, behind_head (at_number 0) rest)) =
    sym (ap parts some) ∙ of ∙ cut_first l first.0 rest text first.1 first.2 is in
    let same : ◌≡◌ {A = List ℕ × List ℕ} (line.now, behind.now) (at_number 0 ++ first.0, behind_head (at_number 0) rest) = cc both in
    let front : line.now ≡ at_number 0 ++ first.0 = ap (λ (p : List ℕ × List ℕ). p.0) same in
    let back : behind.now ≡ behind_head (at_number 0) rest = ap (λ (p : List ℕ × List ℕ). p.1) same in
    let end : drop 4 line.now ≡ first.0 = ap (drop 4) front ∙ ends_in first.0 in (
      rest,
      are.1,
      back,
      ap (λ (t : List ℕ). t ++ behind_head head rest)
          (ap (λ (t : List ℕ). head ++ t) first.2 ∙ sym (append_assoc head first.0 (10 ∷ []))
          ∙ ap (λ (t : List ℕ). (head ++ t) ++ (10 ∷ [])) (sym end)),
    )
