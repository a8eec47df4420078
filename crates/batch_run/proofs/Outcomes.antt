-- Commands have one outcome, since each line gives one edit or has one first bad word.
use Rattle.std.proofs.Common.{◌≡◌, ◌∙◌, ℕ, ◌+◌, ◌<◌, ◌≤◌, List, length, [], ◌∷◌, Some, None, Ok, Err, refl, sym, ap, subst, arith, ◌⊎◌, inl, inr}
use Rattle.filter_state.specs.declared.edit.Edit.{Edit}
use Rattle.filter_state.specs.States.{State}
use Rattle.filter_state.specs.Steps.{Stepped, step}
use Rattle.tc_batch.specs.Grammar.{Gives}
use Rattle.tc_batch.specs.FirstBad.{IsFirstBad}
use Rattle.tc_batch.proofs.Runs.{one_edit, no_fault, answered}
use Rattle.batch_run.specs.declared.stop.Stop.TheVariants as stops
use Rattle.batch_run.specs.Commands.{Command}
use Rattle.batch_run.specs.Runs.{SoFar, Ran, one_more, ended, IsAfter, IsRunFrom, IsRun}

-- a word before the first bad one is good
not_before : (words : List (List ℕ)) (a b : ℕ) → IsFirstBad words a → IsFirstBad words b → a < b → ⊥
not_before words a b first second before =
    let within : b ≤ length words + 1 = second.within in
    first.bad (omega arith) (second.before a before)

pub one_fault : (words : List (List ℕ)) (a b : ℕ) → IsFirstBad words a → IsFirstBad words b → a ≡ b
one_fault words a b first second =
    let left : a < b → ⊥ = not_before words a b first second in
    let right : b < a → ⊥ = not_before words b a second first in
    omega arith

-- ---- there is an outcome
some_after : (more : State → SoFar → Ran → Type 0) → ((next : State) (then : SoFar) → (ran : Ran) × more next then ran) → (s : State) (so_far : SoFar) (line : ℕ) (stepped : Stepped)
    → (ran : Ran) × IsAfter (λ next then. more next then ran) s so_far line stepped ran
some_after more goes s so_far line (Ok (next, done)) = goes next (one_more so_far s next)
some_after more goes s so_far line (Err refusal) = (ended s so_far (Some (stops.Refused line refusal)), refl)

some_line : (s : State) (so_far : SoFar) (command : Command) (commands : List Command) → ((next : State) (then : SoFar) → (ran : Ran) × IsRunFrom next then commands ran)
    → ((edit : Edit) × Gives command.words edit) ⊎ ((at : ℕ) × IsFirstBad command.words at) → (ran : Ran) × IsRunFrom s so_far (command ∷ commands) ran
some_line s so_far command commands goes (inl (edit, gives)) =
    let after = some_after (λ next then ran. IsRunFrom next then commands ran) goes s so_far command.line (step s edit) in
    (after.0, inl (edit, gives, after.1))
some_line s so_far command commands goes (inr (at, bad)) =
    (ended s so_far (Some (stops.Syntax command.line at)), inr (at, bad, refl))

some_from : (s : State) (so_far : SoFar) (commands : List Command) → (ran : Ran) × IsRunFrom s so_far commands ran
some_from s so_far [] = (ended s so_far None, refl)
some_from s so_far (command ∷ commands) = some_line s so_far command commands (λ next then. some_from next then commands) (answered command.words)

pub some_ran : (s : State) (accepted : ℕ) (commands : List Command) → (ran : Ran) × IsRun s accepted commands ran
some_ran s accepted commands = some_from s (record { accepted = accepted; made = [] }) commands

-- ---- and no other
one_after : (more : State → SoFar → Ran → Type 0) → ((next : State) (then : SoFar) (a b : Ran) → more next then a → more next then b → a ≡ b)
    → (s : State) (so_far : SoFar) (line : ℕ) (stepped : Stepped) (a b : Ran)
    → IsAfter (λ next then. more next then a) s so_far line stepped a → IsAfter (λ next then. more next then b) s so_far line stepped b → a ≡ b
one_after more one s so_far line (Ok (next, done)) a b left right = one next (one_more so_far s next) a b left right
one_after more one s so_far line (Err refusal) a b left right = left ∙ sym right

one_from : (s : State) (so_far : SoFar) (commands : List Command) (a b : Ran) → IsRunFrom s so_far commands a → IsRunFrom s so_far commands b → a ≡ b
one_from s so_far [] a b left right = left ∙ sym right
one_from s so_far (command ∷ commands) a b (inl (edit, gives, left)) (inl (other, says, right)) =
    one_after (λ next then ran. IsRunFrom next then commands ran) (λ next then c d. one_from next then commands c d) s so_far command.line (step s edit) a b left
    (subst (λ (e : Edit). IsAfter (λ next then. IsRunFrom next then commands b) s so_far command.line (step s e) b) (one_edit command.words other edit says gives) right)
one_from s so_far (command ∷ commands) a b (inl (edit, gives, left)) (inr (at, bad, right)) = absurd (no_fault command.words edit at gives bad)
one_from s so_far (command ∷ commands) a b (inr (at, bad, left)) (inl (edit, gives, right)) = absurd (no_fault command.words edit at gives bad)
one_from s so_far (command ∷ commands) a b (inr (at, bad, left)) (inr (other, worse, right)) =
    left ∙ ap (λ (n : ℕ). ended s so_far (Some (stops.Syntax command.line n))) (one_fault command.words at other bad worse) ∙ sym right

pub one_ran : (s : State) (accepted : ℕ) (commands : List Command) (a b : Ran) → IsRun s accepted commands a → IsRun s accepted commands b → a ≡ b
one_ran s accepted commands a b left right = one_from s (record { accepted = accepted; made = [] }) commands a b left right
