-- The steps of a run at the lent lines that the loop reads, each by its index.
use Rattle.std.proofs.Common.{◌≡◌, ℕ, ◌+◌, ◌<◌, ◌≤◌, true, false, List, ◌∷◌, ◌++◌, length, get_or, drop, Option, Some, None, sym, ap, subst, ◌∙◌}
use Rattle.std.specs.Prelude.{◌==◌, not}
use Rattle.std.specs.Borrow.{Bor}
use Rattle.act_kinds.specs.declared.params.Params.{Params}
use Rattle.act_registry.specs.declared.entry.Entry.{Entry}
use Rattle.filter_state.specs.States.{State}
use Rattle.action_plan.specs.Entries.{actions_of}
use Rattle.filter_lists.specs.Passed.{Kept}
use Rattle.filter_lists.specs.Spells.{Spells}
use Rattle.batch_run.specs.declared.made_action.MadeAction.{MadeAction}
use Rattle.batch_run.specs.declared.stop.Stop.{Stop}
use Rattle.batch_run.specs.Commands.{Command}
use Rattle.batch_run.specs.Made.{later_names}
use Rattle.batch_run.specs.Runs.{SoFar}
use Rattle.batch_run.specs.Applied.{IsApplied}
use Rattle.batch_run.proofs.CommandLines.{nothing, texts_of, words_at, front, past_all, none_there, some_there}
use Rattle.batch_run.proofs.Reaching.{Reached, Left, blank, counted, accepted_one, stopped_at, at_last}

-- before the line at an index
abbrev pub ReachedAt : Kept → SoFar → ℕ → List (Bor (List ℕ)) → List Command → Type 0
ReachedAt lists so_far i lines all = Reached lists so_far (i + 1) (drop i (texts_of lines)) all

at_line : (lists : Kept) (so_far : SoFar) (i : ℕ) (lines : List (Bor (List ℕ))) (all : List Command) → i < length lines → ReachedAt lists so_far i lines all
    → Reached lists so_far (i + 1) ((get_or lines i nothing).now ∷ drop (i + 1) (texts_of lines)) all
at_line lists so_far i lines all here at = subst (λ (texts : List (List ℕ)). Reached lists so_far (i + 1) texts all) (front lines i here) at

pub after_blank : (lists : Kept) (so_far : SoFar) (i : ℕ) (lines : List (Bor (List ℕ))) (all : List Command) → i < length lines → not (length (words_at lines i) == 0) ≡ false
    → ReachedAt lists so_far i lines all → ReachedAt lists so_far (i + 1) lines all
after_blank lists so_far i lines all here is at =
    blank lists so_far (i + 1) (get_or lines i nothing).now (drop (i + 1) (texts_of lines)) all (none_there (length (words_at lines i) == 0) is) (at_line lists so_far i lines all here at)

-- what is told of the command of a line
abbrev pub IsTold : Kept → Kept → ℕ → List (List ℕ) → Option Stop → Type 0
IsTold lists new number words told = (s : State) → Spells lists s → IsApplied s new words number told

pub after_command : (lists new : Kept) (so_far : SoFar) (i number : ℕ) (lines : List (Bor (List ℕ))) (all : List Command) (told : Option Stop) → i < length lines
    → not (length (words_at lines i) == 0) ≡ true → number ≡ i → told ≡ None → ReachedAt lists so_far i lines all → IsTold lists new (number + 1) (words_at lines i) told
    → ReachedAt new (counted so_far lists new) (i + 1) lines all
after_command lists new so_far i number lines all told here is numbered none at applied =
    let reached = at_line lists so_far i lines all here at in
    let of_none : IsTold lists new (number + 1) (words_at lines i) None = subst (IsTold lists new (number + 1) (words_at lines i)) none applied in
    let known : IsTold lists new (i + 1) (words_at lines i) None = subst (λ (n : ℕ). IsTold lists new (n + 1) (words_at lines i) None) numbered of_none in
    accepted_one lists new so_far (i + 1) (get_or lines i nothing).now (drop (i + 1) (texts_of lines)) all (some_there (length (words_at lines i) == 0) is) reached (known reached.state reached.spells)

-- once what it made is in the log
pub after_log : (lists new : Kept) (so_far : SoFar) (i : ℕ) (lines : List (Bor (List ℕ))) (all : List Command) (before : ℕ) (entries : List (Entry Params)) (names : List MadeAction)
    → before ≡ lists.actions.made → entries ≡ new.actions.entries → names ≡ so_far.made ++ later_names before (actions_of entries) → ReachedAt new (counted so_far lists new) i lines all
    → ReachedAt new (record { accepted = so_far.accepted + 1; made = names }) i lines all
after_log lists new so_far i lines all before entries names at_before at_entries logged reached =
    let now : names ≡ so_far.made ++ later_names lists.actions.made (actions_of new.actions.entries) =
    logged ∙ ap (λ (made : ℕ). so_far.made ++ later_names made (actions_of entries)) at_before
    ∙ ap (λ (es : List (Entry Params)). so_far.made ++ later_names lists.actions.made (actions_of es)) at_entries in
    subst (λ (log : List MadeAction). ReachedAt new (record { accepted = so_far.accepted + 1; made = log }) i lines all) (sym now) reached

pub at_stop : (lists new : Kept) (so_far : SoFar) (i number : ℕ) (lines : List (Bor (List ℕ))) (all : List Command) (told : Option Stop) (stop : Stop) → i < length lines
    → not (length (words_at lines i) == 0) ≡ true → number ≡ i → told ≡ Some stop → ReachedAt lists so_far i lines all → IsTold lists new (number + 1) (words_at lines i) told
    → Left new so_far (Some stop) all
at_stop lists new so_far i number lines all told stop here is numbered some at applied =
    let reached = at_line lists so_far i lines all here at in
    let of_some : IsTold lists new (number + 1) (words_at lines i) (Some stop) = subst (IsTold lists new (number + 1) (words_at lines i)) some applied in
    let known : IsTold lists new (i + 1) (words_at lines i) (Some stop) = subst (λ (n : ℕ). IsTold lists new (n + 1) (words_at lines i) (Some stop)) numbered of_some in
    stopped_at lists new so_far (i + 1) (get_or lines i nothing).now (drop (i + 1) (texts_of lines)) all stop (some_there (length (words_at lines i) == 0) is) reached (known reached.state reached.spells)

pub at_end : (lists : Kept) (so_far : SoFar) (i : ℕ) (lines : List (Bor (List ℕ))) (all : List Command) → length lines ≤ i → ReachedAt lists so_far i lines all → Left lists so_far None all
at_end lists so_far i lines all past at =
    at_last lists so_far (i + 1) all (subst (λ (texts : List (List ℕ)). Reached lists so_far (i + 1) texts all) (past_all lines i past) at)
