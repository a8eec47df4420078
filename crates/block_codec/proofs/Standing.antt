-- The words of a block by their places.
use Rattle.std.proofs.Common.{◌≡◌, ℕ, zero, suc, ◌+◌, ◌-◌, ◌<◌, ◌≤◌, List, [], ◌∷◌, ◌++◌, length, get_or, drop, replicate, Option, None, Some, refl, ap, sym, ◌∙◌, arith, length-append, length-drop}
use mathlib.Core.Logic.{dite}
use native.Mathlib.Decide.{dec_le}
use Rattle.std.specs.List.{slice_range}
use Rattle.std.proofs.lemmas.List.{get_or_append_left, get_or-append_right, get_or-take, get_or-drop, get_or-replicate, length-replicate, length-take-le, get_or_default}
use Rattle.std.proofs.Math.ListN.{get_or-eq_default}
use Rattle.std.proofs.lemmas.List.FromFn.{fill_by_all}
use Rattle.block_codec.specs.Blocks.{plus_one, padded, block, IsLink, IsBlankFrom, IsTheOnly}

-- two lists that are equal at each place
pub same_at : (xs ys : List ℕ) (n : ℕ) → length xs ≡ n → length ys ≡ n → ((i : ℕ) → i < n → get_or xs i 0 ≡ get_or ys i 0) → xs ≡ ys
same_at xs ys n e f h = fill_by_all (λ i. get_or ys i 0) xs n 0 e h ∙ sym (fill_by_all (λ i. get_or ys i 0) ys n 0 f (λ i low. refl))

zeros_at : (n i : ℕ) → ◌≡◌ {A = ℕ} (get_or (replicate n 0) i 0) 0
zeros_at n i = dite (dec_le (suc i) n) (λ low. get_or-replicate n i 0 0 low) (λ high. get_or-eq_default (replicate n 0) 0 (let zero_word : ℕ = 0 in let e : length (replicate n zero_word) ≡ n = length-replicate n zero_word in omega arith))

-- zeros behind a list are what stands there anyway
pub padded_at : (xs : List ℕ) (n i : ℕ) → get_or (xs ++ replicate n 0) i 0 ≡ get_or xs i 0
padded_at [] n i = zeros_at n i
padded_at (x ∷ xs) n zero = refl
padded_at (x ∷ xs) n (suc i) = padded_at xs n i

length_padded : (n : ℕ) (xs : List ℕ) → length xs ≤ n → length (padded n xs) ≡ n
length_padded n xs few = let a = length-append xs (replicate (n - length xs) 0) in let zero_word : ℕ = 0 in let b : length (replicate (n - length xs) zero_word) ≡ n - length xs = length-replicate (n - length xs) zero_word in a ∙ (omega arith)

pub length_block : (named : List ℕ) (link : Option ℕ) → length named ≤ 39 → length (block named link) ≡ 40
length_block named link few = let a = length-append (padded 39 named) (plus_one link ∷ []) in let b = length_padded 39 named few in omega arith

-- what stands in a block before the link
pub block_at : (named : List ℕ) (link : Option ℕ) (i : ℕ) → length named ≤ 39 → i < 39 → get_or (block named link) i 0 ≡ get_or named i 0
block_at named link i few low = let b = length_padded 39 named few in
    get_or_append_left (padded 39 named) (plus_one link ∷ []) 0 i (omega arith) ∙ padded_at named (39 - length named) i

pub block_link : (named : List ℕ) (link : Option ℕ) → length named ≤ 39 → get_or (block named link) 39 0 ≡ plus_one link
block_link named link few = get_or-append_right (padded 39 named) (plus_one link ∷ []) 39 39 0 (length_padded 39 named few) (omega arith)

-- words that are some front, then some names, and zeros up to the link
pub record Stands (words front names : List ℕ) (link : Option ℕ) : Type 0 where
  pub in_front : (i : ℕ) → i < length front → get_or words i 0 ≡ get_or front i 0
  pub named : (k : ℕ) → k < length names → get_or words (length front + k) 0 ≡ get_or names k 0
  pub blank : (i : ℕ) → length front + length names ≤ i → i < 39 → get_or words i 0 ≡ 0
  pub linked : get_or words 39 0 ≡ plus_one link

pub stands_of : (words front names : List ℕ) (link : Option ℕ) → length front + length names ≤ 39 → words ≡ block (front ++ names) link → Stands words front names link
stands_of words front names link few e =
    let n = length-append front names in
    let at : (i : ℕ) → i < 39 → get_or words i 0 ≡ get_or (front ++ names) i 0 = λ i low. ap (λ ws. get_or ws i 0) e ∙ block_at (front ++ names) link i (omega arith) low in record {
      in_front = λ i low. at i (omega arith) ∙ get_or_append_left front names 0 i low;
      named = λ k low. at (length front + k) (omega arith) ∙ (get_or-append_right front names (length front) (length front + k) 0 refl (omega arith) ∙ ap (λ j. get_or names j 0) (omega arith));
      blank = λ i high low. at i low ∙ get_or-eq_default (front ++ names) 0 (omega arith);
      linked = ap (λ ws. get_or ws 39 0) e ∙ block_link (front ++ names) link (omega arith);
    }

pub block_of_stands : (words front names : List ℕ) (link : Option ℕ) → length words ≡ 40 → length front + length names ≤ 39 → Stands words front names link → words ≡ block (front ++ names) link
block_of_stands words front names link long few s =
    let n = length-append front names in
    same_at words (block (front ++ names) link) 40 long (length_block (front ++ names) link (omega arith)) (λ i low.
    dite (dec_le 39 i)
    (λ last. let is : i ≡ 39 = omega arith in ap (λ j. get_or words j 0) is ∙ (s.linked ∙ (sym (block_link (front ++ names) link (omega arith)) ∙ ap (λ j. get_or (block (front ++ names) link) j 0) (sym is))))
    (λ before. by_place i (omega arith) ∙ sym (block_at (front ++ names) link i (omega arith) (omega arith))))
  where
    by_place : (i : ℕ) → i < 39 → get_or words i 0 ≡ get_or (front ++ names) i 0
    by_place i low = let n = length-append front names in
        dite (dec_le (suc i) (length front))
        (λ inside. s.in_front i inside ∙ sym (get_or_append_left front names 0 i inside))
        (λ behind. dite (dec_le (suc i) (length front + length names))
        (λ named. let k : ℕ = i - length front in let is : length front + k ≡ i = omega arith in
        ap (λ j. get_or words j 0) (sym is) ∙ (s.named k (omega arith) ∙ sym (get_or-append_right front names (length front) i 0 refl (omega arith))))
        (λ past. s.blank i (omega arith) low ∙ sym (get_or-eq_default (front ++ names) 0 (omega arith))))

-- a part of the words
pub length_part : (words : List ℕ) (a b : ℕ) → b ≤ length words → length (slice_range words a b) ≡ b - a
length_part words a b low = let d = length-drop a words in length-take-le (b - a) (drop a words) (omega arith)

pub part_at : (words : List ℕ) (a b i : ℕ) → i < b - a → get_or (slice_range words a b) i 0 ≡ get_or words (a + i) 0
part_at words a b i low = get_or-take (b - a) (drop a words) i 0 low ∙ get_or-drop a words i 0

-- a part that is a list
pub part_is : (words names : List ℕ) (a b : ℕ) → b ≤ length words → b - a ≡ length names → ((k : ℕ) → k < length names → get_or words (a + k) 0 ≡ get_or names k 0) → slice_range words a b ≡ names
part_is words names a b low n h = same_at (slice_range words a b) names (b - a) (length_part words a b low) (sym n) (λ k less. part_at words a b k less ∙ h k (omega arith))

-- a link of 32 bits, and its word
pub link_word : (link : Option ℕ) → IsLink link → plus_one link ≤ 4294967296
link_word None fits = omega arith
link_word (Some number) fits = omega arith

pub link_fits : (link : Option ℕ) → plus_one link ≤ 4294967296 → IsLink link
link_fits None low = tt
link_fits (Some number) low = omega arith

pub same_link : (a b : Option ℕ) → plus_one a ≡ plus_one b → a ≡ b
same_link None None e = refl
same_link None (Some b) e = absurd (omega arith)
same_link (Some a) None e = absurd (omega arith)
same_link (Some a) (Some b) e = ap Some (omega arith)

-- words of which a part is blank
pub blank_at : (words : List ℕ) (at i : ℕ) → length words ≡ 40 → IsBlankFrom at words → at ≤ i → i < 39 → get_or words i 0 ≡ 0
blank_at words at i wide all high low = let n = length_part words at 39 (omega arith) in
    ap (λ j. get_or words j 0) (omega arith) ∙ (sym (part_at words at 39 (i - at) (omega arith)) ∙ all (i - at) 0 (omega arith))

pub is_blank : (words : List ℕ) (at : ℕ) → length words ≡ 40 → ((i : ℕ) → at ≤ i → i < 39 → get_or words i 0 ≡ 0) → IsBlankFrom at words
is_blank words at wide h k d low = let n = length_part words at 39 (omega arith) in
    get_or_default (slice_range words at 39) k d 0 low ∙ (part_at words at 39 k (omega arith) ∙ h (at + k) (omega arith) (omega arith))

-- nothing is so
pub none_only : {Thing : Type 0} (Is : Thing → Type 0) → ((thing : Thing) → Is thing → ⊥) → IsTheOnly Is None
none_only Is nowhere = record { found = tt; only = λ thing is. absurd (nowhere thing is) }

-- one thing with one link is so, and no other
pub pair_only : {Thing : Type 0} (Is : Thing × Option ℕ → Type 0) (thing : Thing) (link : Option ℕ) → Is (thing, link)
    → ((it : Thing × Option ℕ) → Is it → (thing ≡ it.0) × (plus_one link ≡ plus_one it.1)) → IsTheOnly Is (Some (thing, link))
pair_only Is thing link is others = record {
  found = is;
  only = λ it so. let same = others it so in let linked = same_link link it.1 same.1 in λ i. Some (same.0 i, linked i);
}
