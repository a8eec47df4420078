-- The first word of a line, as what stands before the first byte that ends a word.
use Rattle.std.proofs.Common.{◌≡◌, ◌∙◌, ℕ, zero, suc, ◌+◌, ◌<◌, ◌≤◌, Bool, true, false, cond, List, [], ◌∷◌, slice_index_or, length, take, drop, refl, sym, ap, subst, arith, eqb}
use Rattle.std.specs.Prelude.{position, filter, not, nat_lt, Some, None, Option, ◌||◌, unwrap_or}
use Rattle.std.specs.List.{slice_split, onto_first, position_or_len}
use Rattle.std.specs.Option.{option_map_or}
use Rattle.std.proofs.lemmas.Bool.Decides.{nat_tests}
use Rattle.std.proofs.lemmas.List.Splits.{slice_split-cons_yes, slice_split-cons_no}
use Rattle.tc_words.specs.Lines.{parts_between_blanks, is_blank, ends_word, words_of, uncommented}

abbrev is_sign : ℕ → Bool
is_sign b = eqb b 35

abbrev is_part : List ℕ → Bool
is_part part = not (eqb (length part) 0)

-- the comment of a line with one byte more in front
front_by : (test : Bool) (n : ℕ) (b : ℕ) (text : List ℕ)
    → option_map_or (λ end. take end (b ∷ text)) (cond test (Some (suc n)) None) (b ∷ text) ≡ b ∷ option_map_or (λ end. take end text) (cond test (Some n) None) text
front_by true n b text = refl
front_by false n b text = refl

place_by : (sign : Bool) (b : ℕ) (text : List ℕ) → is_sign b ≡ sign → position is_sign (b ∷ text) ≡ cond (nat_lt (cond (not sign) (1 + position_or_len is_sign text) 0) (suc (length text))) (Some (cond (not sign) (1 + position_or_len is_sign text) 0)) None
place_by sign b text e = ap (λ s. cond (nat_lt (cond (not s) (1 + position_or_len is_sign text) 0) (suc (length text))) (Some (cond (not s) (1 + position_or_len is_sign text) 0)) None) e

zero_below : (n : ℕ) → nat_lt 0 (suc n) ≡ true
zero_below n = grind (arith, nat_tests)

both_more : (m n : ℕ) → nat_lt (1 + m) (suc n) ≡ nat_lt m n
both_more m n = grind (arith, nat_tests)

one_more : (n : ℕ) → suc n ≡ 1 + n
one_more n = omega arith

-- the comment of a line, by the place of its first sign
abbrev front : List ℕ → Bool → ℕ → List ℕ
front text inside n = option_map_or (λ end. take end text) (cond inside (Some n) None) text

uncommented_sign : (b : ℕ) (text : List ℕ) → is_sign b ≡ true → uncommented (b ∷ text) ≡ []
uncommented_sign b text e =
    ap (λ (o : Option ℕ). option_map_or (λ end. take end (b ∷ text)) o (b ∷ text)) (place_by true b text e) ∙ ap (λ (inside : Bool). front (b ∷ text) inside 0) (zero_below (length text))

uncommented_more : (b : ℕ) (text : List ℕ) → is_sign b ≡ false → uncommented (b ∷ text) ≡ b ∷ uncommented text
uncommented_more b text e =
    let n = position_or_len is_sign text in
    ap (λ (o : Option ℕ). option_map_or (λ end. take end (b ∷ text)) o (b ∷ text)) (place_by false b text e)
    ∙ ap (λ (inside : Bool). front (b ∷ text) inside (1 + n)) (both_more n (length text))
    ∙ ap (front (b ∷ text) (nat_lt n (length text))) (sym (one_more n))
    ∙ front_by (nat_lt n (length text)) n b text

no_sign : (b : ℕ) → is_blank b ≡ true → is_sign b ≡ false
no_sign b e = grind (arith, nat_tests)

neither : (blank sign : Bool) → blank || sign ≡ false → (blank ≡ false) × (sign ≡ false)
neither true sign e = cc
neither false sign e = (refl, e)

-- the first part of a line ends after so many bytes, and what stands behind them begins with a part without
-- bytes
abbrev IsCutAt : ℕ → List ℕ → Type 0
IsCutAt n text =
    (parts : List (List ℕ)) × (slice_split is_blank (uncommented text) ≡ take n text ∷ parts) × (slice_split is_blank (uncommented (drop n text)) ≡ [] ∷ parts)

-- at a byte that ends a word, the first part is without bytes
cut_here : (blank sign : Bool) (b : ℕ) (text : List ℕ) → is_blank b ≡ blank → is_sign b ≡ sign → blank || sign ≡ true → IsCutAt 0 (b ∷ text)
cut_here blank true b text is_space is_mark ends =
    let none = ap (slice_split is_blank) (uncommented_sign b text is_mark) in ([], none, none)
cut_here true false b text is_space is_mark ends =
    let cut = ap (slice_split is_blank) (uncommented_more b text is_mark) ∙ slice_split-cons_yes is_blank b (uncommented text) is_space in (slice_split is_blank (uncommented text), cut, cut)
cut_here false false b text is_space is_mark ends = cc

-- any other byte belongs to the first part
cut_later : (b n : ℕ) (text : List ℕ) → is_blank b ≡ false → is_sign b ≡ false → IsCutAt n text → IsCutAt (suc n) (b ∷ text)
cut_later b n text no_blank no_sign (parts, ahead, behind) =
    (parts, ap (slice_split is_blank) (uncommented_more b text no_sign) ∙ slice_split-cons_no is_blank b (uncommented text) no_blank ∙ ap (onto_first b) ahead, behind)

cut_by : (ends : Bool) (b n : ℕ) (text : List ℕ) → ends_word b ≡ ends → IsCutAt n text → IsCutAt (cond (not ends) (1 + n) 0) (b ∷ text)
cut_by true b n text e so_far = cut_here (is_blank b) (is_sign b) b text refl refl e
cut_by false b n text e so_far = let both = neither (is_blank b) (is_sign b) e in subst (λ (k : ℕ). IsCutAt k (b ∷ text)) (one_more n) (cut_later b n text both.0 both.1 so_far)

cut : (text : List ℕ) → IsCutAt (position_or_len ends_word text) text
cut [] = ([], refl, refl)
cut (b ∷ text) = cut_by (ends_word b) b (position_or_len ends_word text) text refl (cut text)

not_zero : (k : ℕ) → eqb (suc k) 0 ≡ false
not_zero k = grind (arith, nat_tests)

-- a part with bytes is a word, and the part without bytes is none
word_by : (n : ℕ) (text : List ℕ) → n ≤ length text → 0 < n → (parts : List (List ℕ)) → filter is_part (take n text ∷ parts) ≡ take n text ∷ filter is_part parts
word_by zero text le some parts = absurd (omega arith)
word_by (suc n) [] le some parts = absurd (omega arith)
word_by (suc n) (b ∷ text) le some parts = ap (λ (t : Bool). cond (not t) ((b ∷ take n text) ∷ filter is_part parts) (filter is_part parts)) (not_zero (length (take n text)))

words_by : (n : ℕ) (text : List ℕ) → n ≤ length text → 0 < n → IsCutAt n text → words_of text ≡ take n text ∷ words_of (drop n text)
unfolding words_of parts_between_blanks
words_by n text le some (parts, ahead, behind) =
    ap (filter is_part) ahead ∙ word_by n text le some parts ∙ ap (λ (ps : List (List ℕ)). take n text ∷ filter is_part ps) (sym behind)

within_by : (t : Bool) (n m : ℕ) → n ≤ m → cond (not t) (1 + n) 0 ≤ suc m
within_by true n m le = omega arith
within_by false n m le = omega arith

position_within : (test : ℕ → Bool) (text : List ℕ) → position_or_len test text ≤ length text
position_within test [] = omega arith
position_within test (b ∷ text) = within_by (test b) (position_or_len test text) (length text) (position_within test text)

-- the first word and the words behind it
words_of-cut : (text : List ℕ) → 0 < position_or_len ends_word text → words_of text ≡ take (position_or_len ends_word text) text ∷ words_of (drop (position_or_len ends_word text) text)
words_of-cut text some = words_by (position_or_len ends_word text) text (position_within ends_word text) some (cut text)

-- blanks in front add no word
blank_front : (b : ℕ) (text : List ℕ) → is_blank b ≡ true → words_of (b ∷ text) ≡ words_of text
unfolding words_of parts_between_blanks
blank_front b text e =
    ap (λ (t : List ℕ). filter is_part (slice_split is_blank t)) (uncommented_more b text (no_sign b e)) ∙ ap (filter is_part) (slice_split-cons_yes is_blank b (uncommented text) e)

blank_by : (blank : Bool) (b n : ℕ) (text : List ℕ) → is_blank b ≡ blank → words_of (drop n text) ≡ words_of text → words_of (drop (cond (not (not blank)) (1 + n) 0) (b ∷ text)) ≡ words_of (b ∷ text)
blank_by false b n text e same = refl
blank_by true b n text e same = ap (λ (k : ℕ). words_of (drop k (b ∷ text))) (sym (one_more n)) ∙ same ∙ sym (blank_front b text e)

words_of-without_blanks : (text : List ℕ) → words_of (drop (position_or_len (λ b. not (is_blank b)) text) text) ≡ words_of text
words_of-without_blanks [] = refl
words_of-without_blanks (b ∷ text) = blank_by (is_blank b) b (position_or_len (λ b. not (is_blank b)) text) text refl (words_of-without_blanks text)

-- behind the blanks in front stands nothing, or a byte that is no blank
abbrev IsBegun : List ℕ → Type 0
IsBegun [] = Unit {0}
IsBegun (b ∷ text) = is_blank b ≡ false

begun_by : (blank : Bool) (b n : ℕ) (text : List ℕ) → is_blank b ≡ blank → IsBegun (drop n text) → IsBegun (drop (cond (not (not blank)) (1 + n) 0) (b ∷ text))
begun_by false b n text e more = e
begun_by true b n text e more = subst (λ (k : ℕ). IsBegun (drop k (b ∷ text))) (one_more n) more

begun : (text : List ℕ) → IsBegun (drop (position_or_len (λ b. not (is_blank b)) text) text)
begun [] = tt
begun (b ∷ text) = begun_by (is_blank b) b (position_or_len (λ b. not (is_blank b)) text) text refl (begun text)

-- at its comment a line has no word more
at_sign : (b : ℕ) (text : List ℕ) → is_sign b ≡ true → words_of (b ∷ text) ≡ []
unfolding words_of parts_between_blanks
at_sign b text e = ap (λ (t : List ℕ). filter is_part (slice_split is_blank t)) (uncommented_sign b text e)

at_end : words_of [] ≡ []
unfolding words_of parts_between_blanks
at_end = refl

-- a byte that ends a word and is no blank begins the comment
sign_by : (ends : Bool) (b n : ℕ) → ends_word b ≡ ends → is_blank b ≡ false → cond (not ends) (1 + n) 0 ≡ 0 → is_sign b ≡ true
sign_by true b n e no_blank none = sym (ap (λ (t : Bool). t || is_sign b) no_blank) ∙ e
sign_by false b n e no_blank none = absurd (omega arith)

no_word_at : (rest : List ℕ) → IsBegun rest → position_or_len ends_word rest ≡ 0 → words_of rest ≡ []
no_word_at [] no_blank none = at_end
no_word_at (b ∷ rest) no_blank none = at_sign b rest (sign_by (ends_word b) b (position_or_len ends_word rest) refl no_blank none)

-- where no byte of a word stands behind the blanks, there is no word
pub no_word : (text rest : List ℕ) → rest ≡ drop (position_or_len (λ b. not (is_blank b)) text) text → position_or_len ends_word rest ≡ 0 → words_of text ≡ []
no_word text rest is none = sym (words_of-without_blanks text) ∙ ap words_of (sym is) ∙ no_word_at rest (subst IsBegun (sym is) (begun text)) none

some_length : (b : ℕ) (text : List ℕ) → is_blank b ≡ false → is_sign b ≡ false → 0 < position_or_len ends_word (b ∷ text)
some_length b text no_blank no_sign = subst (λ (t : Bool). 0 < cond (not t) (1 + position_or_len ends_word text) 0) (sym (ap (λ (t : Bool). t || is_sign b) no_blank ∙ no_sign)) (omega arith)

some_words : (word : List ℕ) (words : List (List ℕ)) (found : List (List ℕ)) → found ≡ word ∷ words → true ≡ not (eqb (length found) 0)
some_words word words found is = sym (ap (λ (ws : List (List ℕ)). not (eqb (length ws) 0)) is ∙ ap not (not_zero (length words)))

word_at : (sign : Bool) (b : ℕ) (rest : List ℕ) → is_sign b ≡ sign → is_blank b ≡ false → not sign ≡ not (eqb (length (words_of (b ∷ rest))) 0)
word_at true b rest e no_blank = sym (ap (λ (ws : List (List ℕ)). not (eqb (length ws) 0)) (at_sign b rest e))
word_at false b rest e no_blank = some_words _ _ (words_of (b ∷ rest)) (words_of-cut (b ∷ rest) (some_length b rest no_blank e))

some_word_at : (rest : List ℕ) → IsBegun rest → 0 < length rest → not (eqb (slice_index_or rest 0 0) 35) ≡ not (eqb (length (words_of rest)) 0)
some_word_at [] no_blank some = absurd (omega arith)
some_word_at (b ∷ rest) no_blank some = word_at (is_sign b) b rest refl no_blank

-- a line has a word where the first byte that is no blank begins no comment
pub has_word : (text rest : List ℕ) → rest ≡ drop (position_or_len (λ b. not (is_blank b)) text) text → 0 < length rest → not (eqb (slice_index_or rest 0 0) 35) ≡ not (eqb (length (words_of text)) 0)
has_word text rest is some =
    some_word_at rest (subst IsBegun (sym is) (begun text)) some
    ∙ ap (λ (ws : List (List ℕ)). not (eqb (length ws) 0)) (ap words_of is ∙ words_of-without_blanks text)

pub has_no_word : (text rest : List ℕ) → rest ≡ drop (position_or_len (λ b. not (is_blank b)) text) text → length rest < 1 → false ≡ not (eqb (length (words_of text)) 0)
has_no_word text [] is none = sym (ap (λ (ws : List (List ℕ)). not (eqb (length ws) 0)) (sym (words_of-without_blanks text) ∙ ap words_of (sym is) ∙ at_end))
has_no_word text (b ∷ rest) is none = absurd (omega arith)

-- the first word behind the blanks, and the words behind it
pub word_and_more : (text rest : List ℕ) (n : ℕ) → rest ≡ drop (position_or_len (λ b. not (is_blank b)) text) text → n ≡ position_or_len ends_word rest → 0 < n → words_of text ≡ take n rest ∷ words_of (drop n rest)
word_and_more text rest n is is_length some =
    sym (words_of-without_blanks text) ∙ ap words_of (sym is)
    ∙ subst (λ (k : ℕ). words_of rest ≡ take k rest ∷ words_of (drop k rest)) (sym is_length) (words_of-cut rest (subst (λ (k : ℕ). 0 < k) is_length some))

-- the place of the first byte that passes a test, or the length where none does
pub place_or_length : (test : ℕ → Bool) (text : List ℕ) → unwrap_or (position test text) (length text) ≡ position_or_len test text
place_or_length test text = by_test (nat_lt (position_or_len test text) (length text)) refl
  where
    by_test : (t : Bool) → nat_lt (position_or_len test text) (length text) ≡ t → unwrap_or (cond t (Some (position_or_len test text)) None) (length text) ≡ position_or_len test text
    by_test true e = refl
    by_test false e = let beyond : length text ≤ position_or_len test text = grind (arith, nat_tests, e) in omega (arith, beyond, position_within test text)
