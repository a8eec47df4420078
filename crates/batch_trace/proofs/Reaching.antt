-- How far a batch has come: what is accepted of the lines that are left is accepted behind what was.
use Rattle.std.proofs.Common.{◌≡◌, ◌∙◌, ℕ, ◌+◌, ◌<◌, ◌≤◌, true, false, List, [], ◌∷◌, ◌++◌, length, get_or, refl, sym, ap, subst, append_assoc, append-nil, arith, inl, inr}
use Rattle.std.specs.Prelude.{◌==◌, not}
use Rattle.std.specs.Borrow.{Bor}
use Rattle.std.proofs.lemmas.List.{map-append, length_push}
use Rattle.std.proofs.lemmas.Bool.{false≢true}
use Rattle.filter_state.specs.declared.edit.Edit.{Edit}
use Rattle.filter_state.specs.States.{State, no_state}
use Rattle.filter_state.specs.Steps.{Stepped, step}
use Rattle.filter_state.specs.Journals.{state_after, state_from}
use Rattle.tc_batch.specs.Grammar.{Gives}
use Rattle.batch_run.specs.Commands.{Command, commands_from, commands_in}
use Rattle.batch_run.proofs.CommandLines.{nothing, words_at, command_at, past_all, left_at, blank_at, one_at}
use Rattle.lawful_runs.proofs.Events.{state_from-append}
use Rattle.filter_origins.specs.Entries.{Entry, edits_of}
use Rattle.batch_trace.specs.Accepted.{entry_of, AreBehind, AreAcceptedFrom, AreAccepted}
use Rattle.batch_trace.specs.Meeting.{state_behind, IsTaken, IsMet}

pub record Reached (so_far : List Entry) (left all : List Command) : Type 0 where
  pub rest : (more : List Entry) → AreAcceptedFrom (state_behind so_far) left more → AreAccepted all (so_far ++ more)
  pub few : length so_far + length left ≤ 262144

-- before the line at an index
abbrev pub ReachedAt : List Entry → ℕ → List (Bor (List ℕ)) → List Command → Type 0
ReachedAt so_far i lines all = Reached so_far (left_at lines i) all

pub begun : (so_far : List Entry) (lines : List (Bor (List ℕ))) → so_far ≡ [] → length (commands_in lines) ≤ 262144 → ReachedAt so_far 0 lines (commands_in lines)
begun so_far lines none few =
    subst (λ (es : List Entry). ReachedAt es 0 lines (commands_in lines)) (sym none) (record { rest = λ more are. are; few = (let all : length (left_at lines 0) ≤ 262144 = few in omega (arith, all)) })

-- ---- one command
state_push : (so_far : List Entry) (entry : Entry) → state_behind (so_far ++ (entry ∷ [])) ≡ state_after (state_behind so_far) (step (state_behind so_far) entry.edit)
state_push so_far entry =
    ap (state_from no_state) (map-append (λ (e : Entry). e.edit) so_far (entry ∷ [])) ∙ state_from-append no_state (edits_of so_far) (entry.edit ∷ [])

taken : (old new : List Entry) (command : Command) (left all : List Command) (edit : Edit) → Gives command.words edit → IsTaken old new edit command.line true → Reached old (command ∷ left) all
    → Reached new left all
taken old new command left all edit gives (next, done, steps, is) at =
    let entry = entry_of command.line edit in
    let s : State = state_behind old in
    let behind : state_behind new ≡ next = ap state_behind is ∙ state_push old entry ∙ ap (state_after s) steps in
    let long : length new ≡ length old + 1 = ap length is ∙ length_push old entry in
    let few = at.few in
    record {
      rest = λ more are.
          subst (AreAccepted all) (sym (append_assoc old (entry ∷ []) more) ∙ ap (λ (es : List Entry). es ++ more) (sym is))
          (at.rest (entry ∷ more) (inl (
            edit,
            gives,
            subst (λ (it : Stepped). AreBehind (λ n rest. AreAcceptedFrom n left rest) command.line edit it (entry ∷ more)) (sym steps)
                (more, refl, subst (λ (t : State). AreAcceptedFrom t left more) behind are),
          )));
      few = omega (arith, long, few);
    }

refused : (old new : List Entry) (command : Command) (left all : List Command) (edit : Edit) → Gives command.words edit → IsTaken old new edit command.line false → Reached old (command ∷ left) all
    → AreAccepted all new
refused old new command left all edit gives (refusal, steps, is) at =
    subst (AreAccepted all) (append-nil old ∙ sym is)
    (at.rest [] (inl (edit, gives, subst (λ (it : Stepped). AreBehind (λ n rest. AreAcceptedFrom n left rest) command.line edit it []) (sym steps) refl)))

met : (old new : List Entry) (command : Command) (left all : List Command) → IsMet old new command.words command.line true → Reached old (command ∷ left) all → Reached new left all
met old new command left all (inl (edit, gives, took)) at = taken old new command left all edit gives took at
met old new command left all (inr (word, bad, stays, is)) at = absurd (false≢true (sym stays))

stopped : (old new : List Entry) (command : Command) (left all : List Command) → IsMet old new command.words command.line false → Reached old (command ∷ left) all → AreAccepted all new
stopped old new command left all (inl (edit, gives, took)) at = refused old new command left all edit gives took at
stopped old new command left all (inr (word, bad, stays, is)) at =
    subst (AreAccepted all) (append-nil old ∙ sym is) (at.rest [] (inr (word, bad, refl)))

-- one that isn't accepted leaves them
pub unmoved : (old new : List Entry) (words : List (List ℕ)) (line : ℕ) → IsMet old new words line false → new ≡ old
unmoved old new words line (inl (edit, gives, (refusal, steps, is))) = is
unmoved old new words line (inr (word, bad, stays, is)) = is

-- ---- at the lent lines that a loop reads
pub after_blank : (so_far : List Entry) (i : ℕ) (lines : List (Bor (List ℕ))) (all : List Command) → i < length lines → not (length (words_at lines i) == 0) ≡ false → ReachedAt so_far i lines all
    → ReachedAt so_far (i + 1) lines all
after_blank so_far i lines all here is at = subst (λ (left : List Command). Reached so_far left all) (blank_at lines i here is) at

at_command : (so_far : List Entry) (i : ℕ) (lines : List (Bor (List ℕ))) (all : List Command) → i < length lines → not (length (words_at lines i) == 0) ≡ true → ReachedAt so_far i lines all
    → Reached so_far (command_at (i + 1) (get_or lines i nothing).now ∷ left_at lines (i + 1)) all
at_command so_far i lines all here is at = subst (λ (left : List Command). Reached so_far left all) (one_at lines i here is) at

-- a command is left, so there is room for one edit more
pub room_for : (so_far : List Entry) (i : ℕ) (lines : List (Bor (List ℕ))) (all : List Command) → i < length lines → not (length (words_at lines i) == 0) ≡ true → ReachedAt so_far i lines all
    → length so_far < 262144
room_for so_far i lines all here is at = let few = (at_command so_far i lines all here is at).few in omega (arith, few)

pub after_command : (old new : List Entry) (i number : ℕ) (lines : List (Bor (List ℕ))) (all : List Command) → i < length lines → not (length (words_at lines i) == 0) ≡ true → number ≡ i
    → ReachedAt old i lines all → IsMet old new (words_at lines i) (number + 1) true → ReachedAt new (i + 1) lines all
after_command old new i number lines all here is numbered at it =
    met old new (command_at (i + 1) (get_or lines i nothing).now) (left_at lines (i + 1)) all (subst (λ (n : ℕ). IsMet old new (words_at lines i) (n + 1) true) numbered it)
    (at_command old i lines all here is at)

pub at_stop : (old new : List Entry) (i number : ℕ) (lines : List (Bor (List ℕ))) (all : List Command) → i < length lines → not (length (words_at lines i) == 0) ≡ true → number ≡ i
    → ReachedAt old i lines all → IsMet old new (words_at lines i) (number + 1) false → AreAccepted all new
at_stop old new i number lines all here is numbered at it =
    stopped old new (command_at (i + 1) (get_or lines i nothing).now) (left_at lines (i + 1)) all (subst (λ (n : ℕ). IsMet old new (words_at lines i) (n + 1) false) numbered it)
    (at_command old i lines all here is at)

pub at_end : (so_far : List Entry) (i : ℕ) (lines : List (Bor (List ℕ))) (all : List Command) → length lines ≤ i → ReachedAt so_far i lines all → AreAccepted all so_far
at_end so_far i lines all past at =
    subst (AreAccepted all) (append-nil so_far)
    (at.rest [] (subst (λ (left : List Command). AreAcceptedFrom (state_behind so_far) left []) (sym (ap (commands_from (i + 1)) (past_all lines i past))) refl))
