-- Commands have one list of accepted edits, since each line gives one edit or has one first bad word.
use Rattle.std.proofs.Common.{◌≡◌, ◌∙◌, ℕ, List, [], ◌∷◌, Ok, Err, refl, sym, ap, subst, ◌⊎◌, inl, inr}
use Rattle.filter_state.specs.declared.edit.Edit.{Edit}
use Rattle.filter_state.specs.States.{State, no_state}
use Rattle.filter_state.specs.Steps.{Stepped, step}
use Rattle.tc_batch.specs.Grammar.{Gives}
use Rattle.tc_batch.specs.FirstBad.{IsFirstBad}
use Rattle.tc_batch.proofs.Runs.{one_edit, no_fault, answered}
use Rattle.batch_run.specs.Commands.{Command}
use Rattle.filter_origins.specs.Entries.{Entry}
use Rattle.batch_trace.specs.Accepted.{entry_of, AreBehind, AreAcceptedFrom, AreAccepted}

-- ---- there is one
some_behind : (more : State → List Entry → Type 0) → ((next : State) → (rest : List Entry) × more next rest) → (line : ℕ) (edit : Edit) (stepped : Stepped)
    → (entries : List Entry) × AreBehind (λ next rest. more next rest) line edit stepped entries
some_behind more goes line edit (Ok (next, done)) = let rest = goes next in (entry_of line edit ∷ rest.0, (rest.0, refl, rest.1))
some_behind more goes line edit (Err refusal) = ([], refl)

some_line : (s : State) (command : Command) (commands : List Command) → ((next : State) → (entries : List Entry) × AreAcceptedFrom next commands entries)
    → ((edit : Edit) × Gives command.words edit) ⊎ ((at : ℕ) × IsFirstBad command.words at) → (entries : List Entry) × AreAcceptedFrom s (command ∷ commands) entries
some_line s command commands goes (inl (edit, gives)) =
    let behind = some_behind (λ next rest. AreAcceptedFrom next commands rest) goes command.line edit (step s edit) in
    (behind.0, inl (edit, gives, behind.1))
some_line s command commands goes (inr (at, bad)) = ([], inr (at, bad, refl))

some_from : (s : State) (commands : List Command) → (entries : List Entry) × AreAcceptedFrom s commands entries
some_from s [] = ([], refl)
some_from s (command ∷ commands) = some_line s command commands (λ next. some_from next commands) (answered command.words)

pub some_list : (commands : List Command) → (entries : List Entry) × AreAccepted commands entries
some_list commands = some_from no_state commands

-- ---- and no other
one_behind : (more : State → List Entry → Type 0) → ((next : State) (a b : List Entry) → more next a → more next b → a ≡ b) → (line : ℕ) (edit : Edit) (stepped : Stepped) (a b : List Entry)
    → AreBehind (λ next rest. more next rest) line edit stepped a → AreBehind (λ next rest. more next rest) line edit stepped b → a ≡ b
one_behind more one line edit (Ok (next, done)) a b (rest, is, left) (other, same, right) =
    is ∙ ap (λ (es : List Entry). entry_of line edit ∷ es) (one next rest other left right) ∙ sym same
one_behind more one line edit (Err refusal) a b left right = left ∙ sym right

one_from : (s : State) (commands : List Command) (a b : List Entry) → AreAcceptedFrom s commands a → AreAcceptedFrom s commands b → a ≡ b
one_from s [] a b left right = left ∙ sym right
one_from s (command ∷ commands) a b (inl (edit, gives, left)) (inl (other, says, right)) =
    one_behind (λ next rest. AreAcceptedFrom next commands rest) (λ next c d. one_from next commands c d) command.line edit (step s edit) a b left
    (subst (λ (e : Edit). AreBehind (λ next rest. AreAcceptedFrom next commands rest) command.line e (step s e) b) (one_edit command.words other edit says gives) right)
one_from s (command ∷ commands) a b (inl (edit, gives, left)) (inr (at, bad, right)) = absurd (no_fault command.words edit at gives bad)
one_from s (command ∷ commands) a b (inr (at, bad, left)) (inl (edit, gives, right)) = absurd (no_fault command.words edit at gives bad)
one_from s (command ∷ commands) a b (inr (at, bad, left)) (inr (other, worse, right)) = left ∙ sym right

pub only_list : (commands : List Command) (a b : List Entry) → AreAccepted commands a → AreAccepted commands b → a ≡ b
only_list commands a b left right = one_from no_state commands a b left right
