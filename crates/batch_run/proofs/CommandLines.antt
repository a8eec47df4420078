-- The commands of the lent lines that a loop reads, from the line at an index on.
use Rattle.std.proofs.Common.{◌≡◌, ◌∙◌, ℕ, ◌+◌, ◌<◌, ◌≤◌, Bool, true, false, List, [], ◌∷◌, length, get_or, drop, refl, ap, arith}
use Rattle.std.specs.Prelude.{◌==◌, not, map, if◌then◌else◌}
use Rattle.std.specs.Borrow.{Bor}
use Rattle.std.proofs.Math.ListN.{get_or-map}
use Rattle.std.proofs.lemmas.List.{drop_more, drop_all, length-map}
use Rattle.tc_words.specs.Lines.{words_of}
use Rattle.batch_run.specs.Commands.{Command, commands_from}

-- ---- a line
then_is : {A : Type 0} (b : Bool) (x y : A) → b ≡ true → (if b then x else y) ≡ x
then_is true x y is = refl
then_is false x y is = absurd (cc is)

else_is : {A : Type 0} (b : Bool) (x y : A) → b ≡ false → (if b then x else y) ≡ y
else_is true x y is = absurd (cc is)
else_is false x y is = refl

abbrev pub command_at : ℕ → List ℕ → Command
command_at number text = record { line = number; words = words_of text }

pub is_blank : (number : ℕ) (text : List ℕ) (texts : List (List ℕ)) → (length (words_of text) == 0) ≡ true → commands_from number (text ∷ texts) ≡ commands_from (number + 1) texts
is_blank number text texts is = then_is (length (words_of text) == 0) (commands_from (number + 1) texts) (command_at number text ∷ commands_from (number + 1) texts) is

pub is_one : (number : ℕ) (text : List ℕ) (texts : List (List ℕ)) → (length (words_of text) == 0) ≡ false
    → commands_from number (text ∷ texts) ≡ command_at number text ∷ commands_from (number + 1) texts
is_one number text texts is = else_is (length (words_of text) == 0) (commands_from (number + 1) texts) (command_at number text ∷ commands_from (number + 1) texts) is

-- ---- the lines that are lent
abbrev pub nothing : Bor (List ℕ)
nothing = record { ref_ptr = (0, 0); now = [] }

abbrev pub texts_of : List (Bor (List ℕ)) → List (List ℕ)
texts_of lines = map (λ (line : Bor (List ℕ)). line.now) lines

abbrev pub words_at : List (Bor (List ℕ)) → ℕ → List (List ℕ)
words_at lines i = words_of (get_or lines i nothing).now

pub front : (lines : List (Bor (List ℕ))) (i : ℕ) → i < length lines → drop i (texts_of lines) ≡ (get_or lines i nothing).now ∷ drop (i + 1) (texts_of lines)
front lines i here =
    let within : i < length (texts_of lines) = omega (arith, length-map lines (λ (line : Bor (List ℕ)). line.now)) in
    drop_more (texts_of lines) i [] within ∙ ap (λ (text : List ℕ). text ∷ drop (i + 1) (texts_of lines)) (get_or-map (λ (l : Bor (List ℕ)). l.now) lines i nothing)

pub past_all : (lines : List (Bor (List ℕ))) (i : ℕ) → length lines ≤ i → drop i (texts_of lines) ≡ []
past_all lines i past = drop_all i (texts_of lines) (omega (arith, length-map lines (λ (line : Bor (List ℕ)). line.now)))

pub none_there : (b : Bool) → not b ≡ false → b ≡ true
none_there true is = refl
none_there false is = absurd (cc is)

pub some_there : (b : Bool) → not b ≡ true → b ≡ false
some_there true is = absurd (cc is)
some_there false is = refl

-- ---- the commands from an index on
abbrev pub left_at : List (Bor (List ℕ)) → ℕ → List Command
left_at lines i = commands_from (i + 1) (drop i (texts_of lines))

pub blank_at : (lines : List (Bor (List ℕ))) (i : ℕ) → i < length lines → not (length (words_at lines i) == 0) ≡ false → left_at lines i ≡ left_at lines (i + 1)
blank_at lines i here is =
    ap (commands_from (i + 1)) (front lines i here)
    ∙ is_blank (i + 1) (get_or lines i nothing).now (drop (i + 1) (texts_of lines)) (none_there (length (words_at lines i) == 0) is)

pub one_at : (lines : List (Bor (List ℕ))) (i : ℕ) → i < length lines → not (length (words_at lines i) == 0) ≡ true
    → left_at lines i ≡ command_at (i + 1) (get_or lines i nothing).now ∷ left_at lines (i + 1)
one_at lines i here is =
    ap (commands_from (i + 1)) (front lines i here)
    ∙ is_one (i + 1) (get_or lines i nothing).now (drop (i + 1) (texts_of lines)) (some_there (length (words_at lines i) == 0) is)
