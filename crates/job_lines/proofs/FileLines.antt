-- The lines with words of a file, line by line.
use Rattle.std.proofs.Common.{◌≡◌, ◌∙◌, ℕ, suc, ◌+◌, ◌<◌, ◌≤◌, Bool, true, false, List, [], ◌∷◌, ◌++◌, length, take, drop, get_or, Option, Some, None, refl, sym, ap, arith}
use Rattle.std.specs.Prelude.{◌==◌, if◌then◌else◌}
use Rattle.std.specs.Option.{option_and_then}
use Rattle.std.proofs.Math.Seq.{drop-cons}
use Rattle.std.proofs.lemmas.List.{map-append, take-append-drop, take_more, length-take-le}
use Rattle.tc_words.specs.Lines.{words_of}
use Rattle.job_lines.specs.Files.{Line, lines_from, words_in}
use Rattle.job_lines.specs.States.{State}
use Rattle.job_lines.specs.Steps.{next_state, run, after_line}
use Rattle.job_lines.proofs.Runs.{run-append}

-- ---- lines behind lines
skip : (blank : Bool) (line : Line) (whole front back : List Line) → whole ≡ front ++ back → (if blank then whole else line ∷ whole) ≡ (if blank then front else line ∷ front) ++ back
skip true line whole front back e = e
skip false line whole front back e = ap (λ (lines : List Line). line ∷ lines) e

lines-append : (number : ℕ) (texts more : List (List ℕ)) → lines_from number (texts ++ more) ≡ lines_from number texts ++ lines_from (number + length texts) more
lines-append number [] more = ap (λ (n : ℕ). lines_from n more) (let same : number ≡ number + 0 = omega arith in same)
lines-append number (text ∷ texts) more =
    let same : (number + 1) + length texts ≡ number + length (text ∷ texts) = omega arith in
    let later : lines_from (number + 1) (texts ++ more) ≡ lines_from (number + 1) texts ++ lines_from (number + length (text ∷ texts)) more =
    lines-append (number + 1) texts more ∙ ap (λ (n : ℕ). lines_from (number + 1) texts ++ lines_from n more) same in
    skip (length (words_of text) == 0) (record { number = number; words = words_of text }) (lines_from (number + 1) (texts ++ more)) (lines_from (number + 1) texts) (lines_from (number + length (text ∷ texts)) more) later

-- the lines before a place
abbrev pub front : List (List ℕ) → ℕ → List Line
front texts i = lines_from 1 (take i texts)

before_place : (texts more : List (List ℕ)) (i : ℕ) → i ≤ length texts → lines_from 1 (take i texts ++ more) ≡ front texts i ++ lines_from (i + 1) more
before_place texts more i within =
    let same : 1 + length (take i texts) ≡ i + 1 = omega (arith, length-take-le i texts within) in
    lines-append 1 (take i texts) more ∙ ap (λ (n : ℕ). front texts i ++ lines_from n more) same

-- ---- one line on
some_same : (o : Option State) → option_and_then (λ (s : State). Some s) o ≡ o
some_same None = refl
some_same (Some s) = refl

line_by : (blank : Bool) (state : State) (line : Line) → run state (words_in (if blank then [] else line ∷ [])) ≡ (if blank then Some state else next_state state line.words)
line_by true state line = refl
line_by false state line = some_same (next_state state line.words)

one_line : (state : State) (number : ℕ) (text : List ℕ) → run state (words_in (lines_from number (text ∷ []))) ≡ after_line state (words_of text)
one_line state number text = line_by (length (words_of text) == 0) state (record { number = number; words = words_of text })

-- a line behind lines that lead to a state
pub one_more : (lines : List Line) (line : Line) (state : State) → run State.Begun (words_in lines) ≡ Some state → run State.Begun (words_in (lines ++ (line ∷ []))) ≡ next_state state line.words
one_more lines line state e =
    ap (run State.Begun) (map-append (λ (l : Line). l.words) lines (line ∷ []))
    ∙ run-append (words_in lines) (line.words ∷ []) State.Begun
    ∙ ap (option_and_then (λ (s : State). run s (line.words ∷ []))) e
    ∙ some_same (next_state state line.words)

pub turn : (texts : List (List ℕ)) (i : ℕ) (text : List ℕ) (state : State) → i < length texts → text ≡ get_or texts i text → run State.Begun (words_in (front texts i)) ≡ Some state
    → run State.Begun (words_in (front texts (i + 1))) ≡ after_line state (words_of text)
turn texts i text state lt is e =
    let taken : take (i + 1) texts ≡ take i texts ++ (text ∷ []) = take_more texts i text lt ∙ ap (λ (t : List ℕ). take i texts ++ (t ∷ [])) (sym is) in
    let lines : front texts (i + 1) ≡ front texts i ++ lines_from (i + 1) (text ∷ []) = ap (lines_from 1) taken ∙ before_place texts (text ∷ []) i (omega arith) in
    ap (λ (ls : List Line). run State.Begun (words_in ls)) lines
    ∙ ap (run State.Begun) (map-append (λ (l : Line). l.words) (front texts i) (lines_from (i + 1) (text ∷ [])))
    ∙ run-append (words_in (front texts i)) (words_in (lines_from (i + 1) (text ∷ []))) State.Begun
    ∙ ap (option_and_then (λ (s : State). run s (words_in (lines_from (i + 1) (text ∷ []))))) e
    ∙ one_line state (i + 1) text

-- ---- a line in its file
-- the lines before a line with words, the line, and those behind it
pub record Stands (texts : List (List ℕ)) (i : ℕ) (text : List ℕ) : Type 0 where
  pub back : List Line
  pub are : lines_from 1 texts ≡ front texts i ++ (record { number = i + 1; words = words_of text } ∷ back)

unskipped : (blank : Bool) (line : Line) (back : List Line) → blank ≡ false → (if blank then back else line ∷ back) ≡ line ∷ back
unskipped true line back e = absurd (cc e)
unskipped false line back e = refl

pub stands : (texts : List (List ℕ)) (i : ℕ) (text : List ℕ) → i < length texts → text ≡ get_or texts i text → (length (words_of text) == 0) ≡ false → Stands texts i text
stands texts i text lt is some =
    let one : suc i ≡ i + 1 = omega arith in
    let left : drop i texts ≡ text ∷ drop (i + 1) texts = drop-cons texts i text lt ∙ ap (λ (t : List ℕ). t ∷ drop (suc i) texts) (sym is) ∙ ap (λ (n : ℕ). text ∷ drop n texts) one in
    let cut : texts ≡ take i texts ++ (text ∷ drop (i + 1) texts) = sym (take-append-drop i texts) ∙ ap (λ (ts : List (List ℕ)). take i texts ++ ts) left in
    record {
      back = lines_from (i + 1 + 1) (drop (i + 1) texts);
      are =
          ap (lines_from 1) cut
          ∙ before_place texts (text ∷ drop (i + 1) texts) i (omega arith)
          ∙ ap (λ (ls : List Line). front texts i ++ ls) (unskipped (length (words_of text) == 0) (record { number = i + 1; words = words_of text }) (lines_from (i + 1 + 1) (drop (i + 1) texts)) some);
    }
