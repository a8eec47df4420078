-- Each generated line ends with its one line feed, so the batch has as many lines as the hook and its filters
-- are.
use Rattle.std.proofs.Common.{◌≡◌, ◌∙◌, ℕ, zero, suc, ◌+◌, ◌/◌, ◌%◌, ◌^◌, ◌<◌, ◌≤◌, Bool, true, false, cond, List, [], ◌∷◌, ◌++◌, length, refl, ap, arith}
use Rattle.std.specs.Prelude.{◌==◌, not, count_by, codes, decimal, if◌then◌else◌}
use Rattle.std.specs.List.{slice_split}
use Rattle.std.specs.Str.Lines.{strip_carriage_return}
use Rattle.std.proofs.lemmas.List.{length-map}
use Rattle.std.proofs.lemmas.List.Sums.{sum_by-cons, sum_by-append}
use Rattle.std.proofs.lemmas.List.Splits.{length-slice_split}
use Rattle.tc_words.specs.Lines.{without_last_empty, lines_of, words_of}
use Rattle.line_texts.proofs.Joins.{and-left, and-right, not-true, avoids}
use Rattle.line_texts.proofs.Decimals.{decimal-avoids}
use Rattle.batch_run.specs.Commands.{Command, commands_from, commands_of}
use Rattle.gen_files.specs.Generated.{address_text, action_text, filter_line, batch_text}
use Rattle.gen_files.proofs.Growing.{batch_more}

-- ---- line feeds
abbrev is_feed : ℕ → Bool
is_feed b = b == 0x0a

abbrev feeds : List ℕ → ℕ
feeds text = count_by is_feed text

feeds-append : (xs ys : List ℕ) → feeds (xs ++ ys) ≡ feeds xs + feeds ys
feeds-append xs ys = sum_by-append (λ (b : ℕ). cond (is_feed b) 1 0) xs ys

feeds-none : (text : List ℕ) → avoids is_feed text ≡ true → feeds text ≡ 0
feeds-none [] h = refl
feeds-none (b ∷ text) h =
    let other : is_feed b ≡ false = not-true (is_feed b) (and-left (not (is_feed b)) (avoids is_feed text) h) in
    let first : feeds (b ∷ text) ≡ 0 + feeds text = sum_by-cons (λ (x : ℕ). cond (is_feed x) 1 0) b text ∙ ap (λ (feed : Bool). cond feed 1 0 + feeds text) other in
    omega (arith, first, feeds-none text (and-right (not (is_feed b)) (avoids is_feed text) h))

feeds-decimal : (n : ℕ) → n < 2 ^ 64 → feeds (decimal n) ≡ 0
feeds-decimal n lt = feeds-none (decimal n) (decimal-avoids 0x0a n refl lt)

feeds-address : (i : ℕ) → i < 2 ^ 64 → feeds (address_text i) ≡ 0
feeds-address i lt =
    let none : feeds (codes "10.0.") ≡ 0 = refl in
    let dot : feeds (codes ".") ≡ 0 = refl in
    let high : feeds (decimal (i / 256)) ≡ 0 = feeds-decimal (i / 256) (omega arith) in
    let low : feeds (decimal (i % 256)) ≡ 0 = feeds-decimal (i % 256) (omega arith) in
    let front = codes "10.0." ++ decimal (i / 256) in
    let first : feeds front ≡ feeds (codes "10.0.") + feeds (decimal (i / 256)) = feeds-append (codes "10.0.") (decimal (i / 256)) in
    let second : feeds (front ++ codes ".") ≡ feeds front + feeds (codes ".") = feeds-append front (codes ".") in
    let whole : feeds (address_text i) ≡ feeds (front ++ codes ".") + feeds (decimal (i % 256)) = feeds-append (front ++ codes ".") (decimal (i % 256)) in
    omega (arith, none, dot, high, low, first, second, whole)

feeds-action : (drops : Bool) → feeds (if drops then codes " action drop index 1\n" else codes " action ok index 2\n") ≡ 1
feeds-action true = refl
feeds-action false = refl

feeds-filter : (i : ℕ) → i < 2 ^ 64 → feeds (filter_line i) ≡ 1
feeds-filter i lt =
    let verb = codes "filter add dev eth0 ingress protocol ip pref 10 flower dst_ip " in
    let none : feeds verb ≡ 0 = refl in
    let action : feeds (action_text i) ≡ 1 = feeds-action (i % 4 == 3) in
    let first : feeds (verb ++ address_text i) ≡ feeds verb + feeds (address_text i) = feeds-append verb (address_text i) in
    let whole : feeds (filter_line i) ≡ feeds (verb ++ address_text i) + feeds (action_text i) = feeds-append (verb ++ address_text i) (action_text i) in
    omega (arith, none, feeds-address i lt, action, first, whole)

feeds-batch : (filters : ℕ) → filters < 2 ^ 64 → feeds (batch_text filters) ≡ filters + 1
feeds-batch zero lt = refl
feeds-batch (suc n) lt =
    let more : suc n ≡ n + 1 = omega arith in
    let text : feeds (batch_text (suc n)) ≡ feeds (batch_text n) + feeds (filter_line n) =
    ap (λ (m : ℕ). feeds (batch_text m)) more ∙ ap feeds (batch_more n) ∙ feeds-append (batch_text n) (filter_line n) in
    omega (arith, text, feeds-batch n (omega arith), feeds-filter n (omega arith))

-- ---- lines and commands
shorter-part : (part : List ℕ) (none : Bool) → length (if none then [] else part ∷ []) ≤ 1
shorter-part part true = omega arith
shorter-part part false = omega arith

shorter-parts : (parts : List (List ℕ)) → length (without_last_empty parts) ≤ length parts
shorter-parts [] = omega arith
shorter-parts (part ∷ []) = shorter-part part (length part == 0)
shorter-parts (part ∷ next ∷ more) = omega (arith, shorter-parts (next ∷ more))

few_lines : (bytes : List ℕ) → length (lines_of bytes) ≤ feeds bytes + 1
unfolding lines_of
few_lines bytes =
    let parts = slice_split is_feed bytes in
    omega (arith, length-map (without_last_empty parts) strip_carriage_return, shorter-parts parts, length-slice_split is_feed bytes)

one_or_none : (blank : Bool) (command : Command) (commands : List Command) (lines : ℕ) → length commands ≤ lines → length (if blank then commands else command ∷ commands) ≤ lines + 1
one_or_none true command commands lines le = omega (arith, le)
one_or_none false command commands lines le = omega (arith, le)

few_from : (number : ℕ) (texts : List (List ℕ)) → length (commands_from number texts) ≤ length texts
few_from number [] = omega arith
few_from number (text ∷ texts) =
    omega (arith, one_or_none (length (words_of text) == 0) (record { line = number; words = words_of text }) (commands_from (number + 1) texts) (length texts) (few_from (number + 1) texts))

pub few : (filters : ℕ) → filters ≤ 4096 → length (commands_of (batch_text filters)) ≤ 262144
few filters le = omega (arith, few_from 1 (lines_of (batch_text filters)), few_lines (batch_text filters), feeds-batch filters (omega arith))
