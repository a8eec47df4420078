-- An edit is taken behind the others, or refused.
use Rattle.std.proofs.Common.{◌≡◌, ◌≢◌, ◌∙◌, ℕ, ◌≤◌, true, false, List, [], ◌∷◌, ◌++◌, length, Ok, Err, refl, sym, ap, subst, arith, inl, inr}
use Rattle.std.proofs.lemmas.List.{length_push}
use Rattle.tc_base.specs.Memory.{no_memory}
use Rattle.filter_state.specs.declared.edit.Edit.{Edit}
use Rattle.filter_state.specs.declared.refusal.Done.{Done}
use Rattle.filter_state.specs.declared.refusal.Refusal.{Refusal}
use Rattle.filter_state.specs.declared.refusal.Refusal.TheVariants as refusals
use Rattle.filter_state.specs.States.{Action, State, no_state}
use Rattle.filter_state.specs.Order.{SameState}
use Rattle.filter_state.specs.Steps.{Stepped, step}
use Rattle.filter_state.specs.Journals.{state_after, state_from}
use Rattle.hook_lists.specs.declared.kept.Kept.{Kept}
use Rattle.hook_lists.specs.States.{state_of}
use Rattle.filter_lists.specs.Spells.{Spells}
use Rattle.filter_lists.specs.Edits.{Stays, MayStep}
use Rattle.batch_run.specs.declared.made_action.MadeAction.{MadeAction}
use Rattle.batch_run.specs.Made.{later_names, made_since}
use Rattle.lawful_runs.specs.Lawful.{made_by}
use Rattle.round_terms.specs.Underway.{made_behind}
use Rattle.round_terms.proofs.Making.{few_from, one_behind, made_further}
use Rattle.state_past.specs.declared.past.StatePast.{StatePast}
use Rattle.state_past.specs.Remembering.{Remembers, IsFollowed}
use Rattle.edit_lines.specs.declared.line.LinePlace.{LinePlace}
use Rattle.filter_origins.specs.Entries.{entries_of, edits_of}
use Rattle.batch_trace.specs.declared.accepted.Accepted.{Accepted}
use Rattle.batch_trace.specs.Meeting.{entries_in, AreKept, IsTaken}
use Rattle.filter_origins.proofs.Whole.{edits_are}
use Rattle.batch_trace.proofs.Places.{entries_push}

-- ---- before the step
pub may_step : (journal : List Edit) (lists : Kept) → Spells lists (state_from no_state journal) → length journal ≤ 262144 → MayStep lists
may_step journal lists spells short =
    let few = few_from no_state journal in
    let tables = spells.tables_made in
    let masks = spells.masks_made in
    let a = few.tables in
    let b = few.masks in
    record { tables = omega (arith, a, tables, short); masks = omega (arith, b, masks, short) }

-- ---- behind the step
pub record HasStepped (new : Kept) (done : Done) (it : Stepped) : Type 0 where
  pub next : State
  pub steps : it ≡ Ok (next, done)
  pub spells : Spells new next

pub followed_ok : (old new : Kept) (done : Done) (it : Stepped) → IsFollowed old new (Ok done) it → HasStepped new done it
followed_ok old new done (Ok (next, said)) is = record { next = next; steps = ap (λ (d : Done). Ok (next, d)) (sym is.0); spells = is.1 }
followed_ok old new done (Err said) is = absurd is

pub record HasRefused (old new : Kept) (refusal : Refusal) (it : Stepped) : Type 0 where
  pub steps : it ≡ Err refusal
  pub stays : Stays old new

pub followed_err : (old new : Kept) (refusal : Refusal) (it : Stepped) → IsFollowed old new (Err refusal) it → refusal ≢ refusals.NoMemory no_memory → HasRefused old new refusal it
followed_err old new refusal (Ok next) is other = absurd (other is)
followed_err old new refusal (Err said) (inl want) other = absurd (other want)
followed_err old new refusal (Err said) (inr is) other = record { steps = ap (λ (r : Refusal). Err r) (sym is.0); stays = is.1 }

-- ---- the names of the actions that were made
pub record AreNamed (old new : Kept) (before : ℕ) (names : List Action) : Type 0 where
  pub count : before ≡ old.actions.made
  pub names_are : names ≡ (state_of new).actions

made_more : (journal : List Edit) (edit : Edit) (done : Done) (old new : Kept) (before : ℕ) (names : List Action) (made now_made : List MadeAction) → Spells old (state_from no_state journal)
    → HasStepped new done (step (state_from no_state journal) edit) → AreNamed old new before names → made ≡ made_by no_state journal → now_made ≡ made ++ later_names before names
    → now_made ≡ made_by no_state (journal ++ (edit ∷ []))
made_more journal edit done old new before names made now_made spells stepped named is more =
    let s : State = state_from no_state journal in
    let later : List Edit = journal ++ (edit ∷ []) in
    let since : later_names before names ≡ made_since s stepped.next =
    ap (λ (n : ℕ). later_names n names) (named.count ∙ spells.actions_made) ∙ ap (later_names s.actions_made) (named.names_are ∙ stepped.spells.actions) in
    let own : made_since s stepped.next ≡ made_behind journal later =
    ap (made_since s) (sym (ap (state_after s) stepped.steps)) ∙ sym (one_behind journal later edit refl) in
    made_further [] journal (edit ∷ []) journal later made now_made refl refl is (more ∙ ap (λ (ns : List MadeAction). made ++ ns) (since ∙ own))

-- ---- an edit that was accepted
pub record IsMore (old new : Accepted) (edit : Edit) (done : Done) (place : LinePlace) (before : ℕ) (names : List Action) : Type 0 where
  pub stepped : HasStepped new.lists done (step (state_from no_state old.journal.items) edit)
  pub remembers : Remembers new.past (old.journal.items ++ (edit ∷ []))
  pub spells : Spells new.lists (state_from no_state (old.journal.items ++ (edit ∷ [])))
  pub journal : new.journal.items ≡ old.journal.items ++ (edit ∷ [])
  pub places : new.places.items ≡ old.places.items ++ (place ∷ [])
  pub named : AreNamed old.lists new.lists before names
  pub made : new.made.items ≡ old.made.items ++ later_names before names

pub kept_more : (old new : Accepted) (edit : Edit) (done : Done) (place : LinePlace) (before : ℕ) (names : List Action) → AreKept old → IsMore old new edit done place before names → AreKept new
kept_more old new edit done place before names kept more =
    let a = length_push old.places.items place in
    let b = length_push old.journal.items edit in
    let each = kept.each in
    record {
      each = ap length more.places ∙ omega (arith, a, b, each) ∙ sym (ap length more.journal);
      remembers = subst (Remembers new.past) (sym more.journal) more.remembers;
      spells = subst (λ (es : List Edit). Spells new.lists (state_from no_state es)) (sym more.journal) more.spells;
      made_is = made_more old.journal.items edit done old.lists new.lists before names old.made.items new.made.items kept.spells more.stepped more.named kept.made_is more.made
          ∙ ap (made_by no_state) (sym more.journal);
    }

-- the state behind the entries is that behind the edits
at_edits : (old : Accepted) → AreKept old → (edit : Edit) → step (state_from no_state old.journal.items) edit ≡ step (state_from no_state (edits_of (entries_in old))) edit
at_edits old kept edit = ap (λ (es : List Edit). step (state_from no_state es) edit) (sym (edits_are old.places.items old.journal.items kept.each))

pub taken_more : (old new : Accepted) (edit : Edit) (done : Done) (line : ℕ) (before : ℕ) (names : List Action) → AreKept old → IsMore old new edit done (record { control = 1; line = line }) before names
    → IsTaken (entries_in old) (entries_in new) edit line true
taken_more old new edit done line before names kept more =
    let place : LinePlace = record { control = 1; line = line } in (
      more.stepped.next,
      done,
      sym (at_edits old kept edit) ∙ more.stepped.steps,
      ap (λ (ps : List LinePlace). entries_of ps new.journal.items) more.places
          ∙ ap (entries_of (old.places.items ++ (place ∷ []))) more.journal
          ∙ entries_push old.places.items old.journal.items place edit kept.each,
    )

-- ---- an edit that was refused
pub record IsStill (old new : Accepted) (edit : Edit) (refusal : Refusal) : Type 0 where
  pub refused : HasRefused old.lists new.lists refusal (step (state_from no_state old.journal.items) edit)
  pub past : new.past ≡ old.past
  pub journal : new.journal.items ≡ old.journal.items
  pub places : new.places.items ≡ old.places.items
  pub made : new.made.items ≡ old.made.items

pub kept_still : (old new : Accepted) (edit : Edit) (refusal : Refusal) → AreKept old → IsStill old new edit refusal → AreKept new
kept_still old new edit refusal kept still =
    record {
      each = ap length still.places ∙ kept.each ∙ sym (ap length still.journal);
      remembers = subst (λ (p : StatePast). Remembers p new.journal.items) (sym still.past) (subst (Remembers old.past) (sym still.journal) kept.remembers);
      spells = subst (λ (es : List Edit). Spells new.lists (state_from no_state es)) (sym still.journal)
          (subst (λ (t : State). SameState t (state_from no_state old.journal.items)) (sym still.refused.stays) kept.spells);
      made_is = still.made ∙ kept.made_is ∙ ap (made_by no_state) (sym still.journal);
    }

pub taken_still : (old new : Accepted) (edit : Edit) (line : ℕ) (refusal : Refusal) → AreKept old → IsStill old new edit refusal → IsTaken (entries_in old) (entries_in new) edit line false
taken_still old new edit line refusal kept still = (
  refusal,
  sym (at_edits old kept edit) ∙ still.refused.steps,
  ap (λ (ps : List LinePlace). entries_of ps new.journal.items) still.places ∙ ap (entries_of old.places.items) still.journal,
)
