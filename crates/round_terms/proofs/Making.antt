-- What the edits of a journal make.
use Rattle.std.proofs.Common.{◌≡◌, ◌∙◌, ◌+◌, ◌≤◌, List, [], ◌∷◌, ◌++◌, length, drop, Ok, Err, refl, sym, ap, subst, append_assoc, append-nil, arith}
use Rattle.std.proofs.Math.Seq.{drop-length, drop-append_seam}
use Rattle.std.proofs.lemmas.List.{length-map}
use Rattle.std.proofs.lemmas.List.FromFn.{length-range_with_len}
use Rattle.filter_state.specs.declared.edit.Edit.{Edit}
use Rattle.filter_state.specs.declared.refusal.Done.{Done}
use Rattle.filter_state.specs.States.{State, no_state}
use Rattle.filter_state.specs.Steps.{Stepped, step}
use Rattle.filter_state.specs.Journals.{state_after, state_from}
use Rattle.filter_state.specs.Lines.{IsLine}
use Rattle.filter_state.specs.Sound.{Sound}
use Rattle.batch_run.specs.declared.made_action.MadeAction.{MadeAction}
use Rattle.batch_run.specs.Made.{made_since}
use Rattle.batch_run.proofs.Counts.{IsNear, StepsNear, step_near}
use Rattle.batch_run.proofs.NewSerials.{IsNumbered, logged_serials}
use Rattle.batch_run.proofs.Numbered.{StepsNumbered, step_numbered}
use Rattle.lawful_runs.specs.Lawful.{made_by}
use Rattle.lawful_runs.proofs.Events.{state_from-append}
use Rattle.round_terms.specs.Underway.{made_behind, IsMadeSince}

-- ---- tables and masks
near_after : (s : State) (edit : Edit) (it : Stepped) → step s edit ≡ it → IsNear s (state_after s it)
near_after s edit (Ok (next, done)) is = subst (StepsNear s) is (step_near s edit)
near_after s edit (Err refusal) is = record { tables = omega arith; masks = omega arith }

-- the edits of a journal made one table and one mask each at most
pub record AreFew (s next : State) (edits : List Edit) : Type 0 where
  pub tables : next.tables_made ≤ s.tables_made + length edits
  pub masks : next.masks_made ≤ s.masks_made + length edits

pub few_from : (s : State) (edits : List Edit) → AreFew s (state_from s edits) edits
few_from s [] = record { tables = omega arith; masks = omega arith }
few_from s (edit ∷ edits) =
    let near = near_after s edit (step s edit) refl in
    let rest = few_from (state_after s (step s edit)) edits in
    let a = near.tables in
    let b = near.masks in
    let c = rest.tables in
    let d = rest.masks in
    record { tables = omega (arith, a, c); masks = omega (arith, b, d) }

-- ---- the names of new actions
-- there are as many as the edit makes
pub made_count : (s next : State) (edit : Edit) (done : Done) → Sound s → IsLine edit → step s edit ≡ Ok (next, done) → s.actions_made + length (made_since s next) ≡ next.actions_made
made_count s next edit done sound line stepped =
    let numbered : IsNumbered s.actions_made next.actions_made next.actions = subst (StepsNumbered s) stepped (step_numbered s edit sound line) in
    let long : length (made_since s next) ≡ numbered.many =
    sym (length-map (made_since s next) (λ (made : MadeAction). made.serial)) ∙ ap length (logged_serials s.actions_made next.actions) ∙ ap length numbered.given ∙ length-range_with_len (s.actions_made + 1) numbered.many in
    let count = numbered.count in
    omega (arith, long, count)

-- ---- the actions that edits made
pub one_behind : (journal later : List Edit) (edit : Edit) → later ≡ journal ++ edit ∷ [] → made_behind journal later ≡ made_since (state_from no_state journal) (state_after (state_from no_state journal) (step (state_from no_state journal) edit))
one_behind journal later edit is =
    ap (λ (es : List Edit). made_by (state_from no_state journal) (drop (length journal) es)) is
    ∙ ap (made_by (state_from no_state journal)) (drop-append_seam journal (edit ∷ []))
    ∙ append-nil (made_since (state_from no_state journal) (state_after (state_from no_state journal) (step (state_from no_state journal) edit)))

-- none behind the same journal
pub none_behind : (journal : List Edit) → made_behind journal journal ≡ []
none_behind journal = ap (made_by (state_from no_state journal)) (drop-length journal)

pub nothing_behind : (journal later : List Edit) (made now_made : List MadeAction) → later ≡ journal → now_made ≡ made → now_made ≡ made ++ made_behind journal later
nothing_behind journal later made now_made same is = is ∙ sym (append-nil made) ∙ ap (λ (names : List MadeAction). made ++ names) (sym (ap (made_behind journal) same ∙ none_behind journal))

made_by-append : (s : State) (edits more : List Edit) → made_by s (edits ++ more) ≡ made_by s edits ++ made_by (state_from s edits) more
made_by-append s [] more = refl
made_by-append s (edit ∷ edits) more =
    let next = state_after s (step s edit) in
    ap (λ (names : List MadeAction). made_since s next ++ names) (made_by-append next edits more)
    ∙ sym (append_assoc (made_since s next) (made_by next edits) (made_by (state_from next edits) more))

-- the actions of a round, with those of one edit more or none
pub made_further : (before edits own journal later : List Edit) (made now_made : List MadeAction) → journal ≡ before ++ edits → later ≡ journal ++ own → IsMadeSince before journal made → now_made ≡ made ++ made_behind journal later
    → IsMadeSince before later now_made
made_further before edits own journal later made now_made is grown so_far more =
    let first : drop (length before) journal ≡ edits = ap (drop (length before)) is ∙ drop-append_seam before edits in
    let all : drop (length before) later ≡ edits ++ own =
    ap (drop (length before)) (grown ∙ ap (λ (es : List Edit). es ++ own) is ∙ append_assoc before edits own) ∙ drop-append_seam before (edits ++ own) in
    let behind : drop (length journal) later ≡ own = ap (drop (length journal)) grown ∙ drop-append_seam journal own in
    let state : state_from no_state journal ≡ state_from (state_from no_state before) edits = ap (state_from no_state) is ∙ state_from-append no_state before edits in
    more
    ∙ ap (λ (names : List MadeAction). names ++ made_behind journal later) so_far
    ∙ ap (λ (es : List Edit). made_by (state_from no_state before) es ++ made_behind journal later) first
    ∙ ap (λ (es : List Edit). made_by (state_from no_state before) edits ++ made_by (state_from no_state journal) es) behind
    ∙ ap (λ (s : State). made_by (state_from no_state before) edits ++ made_by s own) state
    ∙ sym (made_by-append (state_from no_state before) edits own)
    ∙ ap (made_by (state_from no_state before)) (sym all)
