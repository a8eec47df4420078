-- Clean words with one space between are the words of the line.
use Rattle.std.proofs.Common.{◌≡◌, ◌∙◌, ℕ, ◌<◌, Bool, true, false, cond, List, [], ◌∷◌, length, take, Option, refl, ap, arith}
use Rattle.std.specs.Prelude.{◌==◌, not, filter}
use Rattle.std.specs.List.{list_all, slice_split, join_with_byte}
use Rattle.std.specs.Option.{option_map_or}
use Rattle.std.specs.Char.{is_ascii_hexdigit}
use Rattle.std.proofs.lemmas.Bool.Decides.{nat_tests}
use Rattle.tc_words.specs.Lines.{is_blank, uncommented, words_of, parts_between_blanks}
use Rattle.line_texts.specs.CleanWords.{is_plain, is_clean}
use Rattle.line_texts.proofs.Joins.{and-left, and-right, and-both, avoids, split-joined, all-joined, all-wider, all-two, some-joined, no-position}

abbrev no_hash : ℕ → Bool
no_hash b = not (b == 35)

abbrev is_part : List ℕ → Bool
is_part part = not (length part == 0)

plain-no_blank : (b : ℕ) → is_plain b ≡ true → not (is_blank b) ≡ true
plain-no_blank b h = and-left (not (is_blank b)) (no_hash b) h

plain-no_hash : (b : ℕ) → is_plain b ≡ true → no_hash b ≡ true
plain-no_hash b h = and-right (not (is_blank b)) (no_hash b) h

pub clean-plain : (word : List ℕ) → is_clean word ≡ true → list_all is_plain word ≡ true
clean-plain word h = and-right (is_part word) (list_all is_plain word) h

pub clean-from : (word : List ℕ) → 0 < length word → list_all is_plain word ≡ true → is_clean word ≡ true
clean-from word some h = and-both (is_part word) (list_all is_plain word) (grind (arith, nat_tests, some)) h

-- clean words have no blank and no number sign, and none is empty
each-word : (q : List ℕ → Bool) → ((word : List ℕ) → is_clean word ≡ true → q word ≡ true) → (words : List (List ℕ)) → list_all is_clean words ≡ true → list_all q words ≡ true
each-word q wider [] h = refl
each-word q wider (word ∷ words) h =
    and-both (q word) (list_all q words) (wider word (and-left (is_clean word) (list_all is_clean words) h)) (each-word q wider words (and-right (is_clean word) (list_all is_clean words) h))

avoids-blank : (word : List ℕ) → is_clean word ≡ true → avoids is_blank word ≡ true
avoids-blank word h = all-wider is_plain (λ b. not (is_blank b)) plain-no_blank word (clean-plain word h)

avoids-hash : (word : List ℕ) → is_clean word ≡ true → list_all no_hash word ≡ true
avoids-hash word h = all-wider is_plain no_hash plain-no_hash word (clean-plain word h)

kept : (words : List (List ℕ)) → list_all is_clean words ≡ true → filter is_part words ≡ words
kept [] h = refl
kept (word ∷ words) h =
    keep (is_part word) (and-left (is_part word) (list_all is_plain word) (and-left (is_clean word) (list_all is_clean words) h)) (kept words (and-right (is_clean word) (list_all is_clean words) h))
  where
    keep : (b : Bool) → b ≡ true → filter is_part words ≡ words → cond b (word ∷ filter is_part words) (filter is_part words) ≡ word ∷ words
    keep true is rest = ap (λ (ws : List (List ℕ)). word ∷ ws) rest
    keep false is rest = absurd (cc is)

-- without a number sign the whole line counts
no-comment : (text : List ℕ) → list_all no_hash text ≡ true → uncommented text ≡ text
no-comment text h = ap (λ (o : Option ℕ). option_map_or (λ end. take end text) o text) (no-position (λ b. b == 35) text h)

pub words-joined : (words : List (List ℕ)) → list_all is_clean words ≡ true → words_of (join_with_byte 32 words) ≡ words
unfolding words_of parts_between_blanks
words-joined [] h = refl
words-joined (word ∷ words) h =
    ap (λ (text : List ℕ). filter is_part (slice_split is_blank text)) (no-comment (join_with_byte 32 (word ∷ words)) (all-joined no_hash 32 refl (word ∷ words) (each-word (list_all no_hash) avoids-hash (word ∷ words) h)))
    ∙ ap (filter is_part) (split-joined is_blank 32 refl word words (each-word (avoids is_blank) avoids-blank (word ∷ words) h))
    ∙ kept (word ∷ words) h

-- digits are plain
pub hexdigit-plain : (b : ℕ) → is_ascii_hexdigit b ≡ true → is_plain b ≡ true
hexdigit-plain b h = grind (arith, nat_tests, h)

-- a word of two plain parts with a slash between is clean
pub two-clean : (a b : List ℕ) → list_all is_plain a ≡ true → list_all is_plain b ≡ true → is_clean (join_with_byte 47 (a ∷ b ∷ [])) ≡ true
two-clean a b first second =
    clean-from (join_with_byte 47 (a ∷ b ∷ [])) (some-joined 47 a b []) (all-joined is_plain 47 refl (a ∷ b ∷ []) (all-two (list_all is_plain) a b first second))
