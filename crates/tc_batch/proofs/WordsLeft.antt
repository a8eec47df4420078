-- A line gone over word by word: the words that were read, and those that are left.
use Rattle.std.proofs.Common.{◌≡◌, ◌∙◌, ℕ, zero, suc, ◌+◌, ◌<◌, ◌≤◌, List, [], ◌∷◌, length, take, drop, get_or, Some, None, sym, ap, subst, arith}
use Rattle.std.proofs.lemmas.List.{take_all}
use Rattle.filter_state.specs.declared.edit.Edit.{Edit}
use Rattle.tc_batch.specs.States.{State}
use Rattle.tc_batch.specs.FirstBad.{IsFirstBad}
use Rattle.tc_batch.specs.Grammar.{Gives}
use Rattle.tc_batch.specs.Machine.{next_state, edit_at, run}
use Rattle.tc_batch.proofs.Runs.{run_more, refused, ended, cut_short}

one_more : (i : ℕ) → suc i ≡ i + 1
one_more i = omega arith

-- the first of the words that are left is the next word of the line
record IsNext (words : List (List ℕ)) (i : ℕ) (word : List ℕ) (more : List (List ℕ)) : Type 0 where
  here : i < length words
  same : word ≡ get_or words i []
  left : more ≡ drop (suc i) words

next : (words : List (List ℕ)) (i : ℕ) (word : List ℕ) (more : List (List ℕ)) → word ∷ more ≡ drop i words → IsNext words i word more
next [] zero word more e = cc
next [] (suc i) word more e = cc
next (w ∷ words) zero word more e = record { here = omega arith; same = cc e; left = cc e }
next (w ∷ words) (suc i) word more e = let n = next words i word more e in record { here = omega (arith, n.here); same = n.same; left = n.left }

none_left : (words : List (List ℕ)) (i : ℕ) → [] ≡ drop i words → length words ≤ i
none_left [] i e = omega arith
none_left (w ∷ words) zero e = cc
none_left (w ∷ words) (suc i) e = omega (arith, none_left words i e)

-- one word on
pub left_more : (words : List (List ℕ)) (i : ℕ) (word : List ℕ) (more : List (List ℕ)) → word ∷ more ≡ drop i words → more ≡ drop (i + 1) words
left_more words i word more e = (next words i word more e).left ∙ ap (λ (k : ℕ). drop k words) (one_more i)

pub left_within : (words : List (List ℕ)) (i : ℕ) (word : List ℕ) (more : List (List ℕ)) → word ∷ more ≡ drop i words → i + 1 ≤ length words
left_within words i word more e = omega (arith, (next words i word more e).here)

pub ran_more : (words : List (List ℕ)) (i : ℕ) (word : List ℕ) (more : List (List ℕ)) (before after : State) → word ∷ more ≡ drop i words → run State.Start (take i words) ≡ Some before
    → Some after ≡ next_state before word → run State.Start (take (i + 1) words) ≡ Some after
ran_more words i word more before after e so_far goes =
    let n = next words i word more e in run_more words i before word (Some after) so_far n.here n.same goes

-- a word at which no line goes on
pub word_refused : (words : List (List ℕ)) (i : ℕ) (word : List ℕ) (more : List (List ℕ)) (state : State) → word ∷ more ≡ drop i words → run State.Start (take i words) ≡ Some state
    → None ≡ next_state state word → IsFirstBad words (i + 1)
word_refused words i word more state e so_far stops =
    let n = next words i word more e in refused words i state word so_far n.here n.same stops

-- no word is left
ran_all : (words : List (List ℕ)) (i : ℕ) (state : State) → [] ≡ drop i words → run State.Start (take i words) ≡ Some state → run State.Start words ≡ Some state
ran_all words i state e so_far = ap (run State.Start) (sym (take_all i words (none_left words i e))) ∙ so_far

pub line_ended : (words : List (List ℕ)) (i : ℕ) (state : State) (edit : Edit) → [] ≡ drop i words → run State.Start (take i words) ≡ Some state → Some edit ≡ edit_at state → Gives words edit
line_ended words i state edit e so_far is = ended words state edit (ran_all words i state e so_far) is

pub line_cut : (words : List (List ℕ)) (i : ℕ) (state : State) → [] ≡ drop i words → i ≤ length words → run State.Start (take i words) ≡ Some state → None ≡ edit_at state → IsFirstBad words (i + 1)
line_cut words i state e within so_far is =
    let same : length words ≡ i = omega (arith, none_left words i e) in
    subst (λ (n : ℕ). IsFirstBad words (n + 1)) same (cut_short words state (ran_all words i state e so_far) is)
