-- Who answers for the state that all edits leave, and who knows the names.
use Rattle.std.proofs.Common.{◌≡◌, ◌∙◌, ℕ, List, length, refl, sym, ap, ap₂, subst, arith}
use Rattle.std.proofs.lemmas.List.{take_all}
use Rattle.filter_state.specs.declared.edit.Edit.{Edit}
use Rattle.filter_state.specs.States.{no_state}
use Rattle.filter_state.specs.Journals.{state_from, state_at}
use Rattle.hook_lists.specs.declared.kept.Kept.{Kept}
use Rattle.hook_lists.specs.States.{AreKept as AreListsKept}
use Rattle.filter_lists.specs.Spells.{Spells}
use Rattle.walk_rules.specs.Questions.{Question, heads_of, filter_of, params_of}
use Rattle.walk_rules.specs.Answers.{answer_of}
use Rattle.classify_walk.proofs.StillHeads.{heads_answered}
use Rattle.batch_run.specs.declared.made_action.MadeAction.{MadeAction}
use Rattle.lawful_runs.specs.Lawful.{made_by}
use Rattle.state_past.specs.Remembering.{Remembers}
use Rattle.state_past.specs.OfJournals.Answered.{Answerer, answer_by}
use Rattle.edit_lines.specs.declared.line.LinePlace.{LinePlace}
use Rattle.filter_origins.specs.declared.origins.Origins.{Origins}
use Rattle.filter_origins.specs.Entries.{Entry, edits_of, entries_of}
use Rattle.filter_origins.proofs.Whole.{edits_are, entries_long}
use Rattle.journal_names.specs.Known.{answers_in, AreKnown}
use Rattle.batch_trace.specs.declared.accepted.Accepted.{Accepted}
use Rattle.batch_trace.specs.Meeting.{entries_in, AreKept, IsTraced}

-- there are as many as edits
pub long : (accepted : Accepted) (entries : List Entry) → AreKept accepted → entries_in accepted ≡ entries → length accepted.journal.items ≡ length entries
long accepted entries kept is = sym (entries_long accepted.places.items accepted.journal.items kept.each) ∙ ap length is

by_journal : (journal : List Edit) (lists : Kept) (point : ℕ) → point ≡ length journal → AreListsKept lists → Spells lists (state_from no_state journal) → (question : Question)
    → answer_by (record { journal = journal; lists = lists }) point question ≡ answer_of (state_at point journal) question
by_journal journal lists point at kept spells (heads_of hook) =
    sym (heads_answered lists hook (state_at point journal) kept
    (subst (λ (es : List Edit). Spells lists (state_from no_state es)) (sym (take_all point journal (omega (arith, at)))) spells))
by_journal journal lists point at kept spells (filter_of table mask values) = refl
by_journal journal lists point at kept spells (params_of serial) = refl

pub answered : (accepted : Accepted) (entries : List Entry) (by : Answerer) (journal : List Edit) → AreKept accepted → AreListsKept accepted.lists → entries_in accepted ≡ entries
    → by ≡ record { journal = journal; lists = accepted.lists } → journal ≡ accepted.journal.items → (question : Question)
    → answer_by by (length entries) question ≡ answers_in entries (length entries) question
answered accepted entries by journal kept lists is by_is same question =
    let edits : edits_of entries ≡ accepted.journal.items = ap edits_of (sym is) ∙ edits_are accepted.places.items accepted.journal.items kept.each in
    ap (λ (b : Answerer). answer_by b (length entries) question) by_is
    ∙ ap (λ (es : List Edit). answer_by (record { journal = es; lists = accepted.lists }) (length entries) question) same
    ∙ by_journal accepted.journal.items accepted.lists (length entries) (sym (long accepted entries kept is)) lists kept.spells question
    ∙ ap (λ (es : List Edit). answer_of (state_at (length entries) es) question) (sym edits)

pub known : (accepted : Accepted) (origins : Origins) (places : List LinePlace) (journal : List Edit) (made : List MadeAction) → IsTraced accepted origins → places ≡ accepted.places.items
    → journal ≡ accepted.journal.items → made ≡ accepted.made.items → AreKnown (entries_of places journal) accepted.past origins made
known accepted origins places journal made traced p j m =
    let edits = edits_are accepted.places.items accepted.journal.items traced.kept.each in
    subst (λ (es : List Entry). AreKnown es accepted.past origins made) (sym (ap₂ entries_of p j)) (record {
      remembers = subst (Remembers accepted.past) (sym edits) traced.kept.remembers;
      knows = traced.knows;
      made_is = m ∙ traced.kept.made_is ∙ ap (made_by no_state) (sym edits);
    })
