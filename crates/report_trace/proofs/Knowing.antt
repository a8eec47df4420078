-- What a replay keeps, by the entries that it is.
use Rattle.std.proofs.Common.{◌≡◌, ◌∙◌, List, length, sym, ap, ap₂, subst}
use Rattle.filter_state.specs.declared.edit.Edit.{Edit}
use Rattle.filter_state.specs.States.{no_state}
use Rattle.hook_lists.specs.declared.kept.Kept.{Kept}
use Rattle.batch_run.specs.declared.made_action.MadeAction.{MadeAction}
use Rattle.lawful_runs.specs.Lawful.{made_by}
use Rattle.batch_trace.specs.Passed.{Remembers}
use Rattle.batch_trace.specs.Passed.{Answerer}
use Rattle.edit_lines.specs.declared.line.LinePlace.{LinePlace}
use Rattle.batch_trace.specs.Passed.{Origins}
use Rattle.batch_trace.specs.Passed.{Entry, edits_of, entries_of}
use Rattle.batch_trace.proofs.Passed.{edits_are, entries_long}
use Rattle.batch_trace.specs.Passed.{AreKnown}
use Rattle.report_check.specs.Passed.{Replay}
use Rattle.report_trace.specs.Knowing.{entries_in_replay, IsKnown}

-- the journal of its entries
pub journal_of : (replay : Replay) (origins : Origins) (entries : List Entry) → IsKnown replay origins → entries_in_replay replay ≡ entries → edits_of entries ≡ replay.journal.items
journal_of replay origins entries it is = ap edits_of (sym is) ∙ edits_are replay.places.items replay.journal.items it.each

pub long : (replay : Replay) (origins : Origins) (entries : List Entry) → IsKnown replay origins → entries_in_replay replay ≡ entries → length replay.journal.items ≡ length entries
long replay origins entries it is = sym (entries_long replay.places.items replay.journal.items it.each) ∙ ap length is

pub remembered : (replay : Replay) (origins : Origins) (journal : List Edit) → IsKnown replay origins → journal ≡ replay.journal.items → Remembers replay.past journal
remembered replay origins journal it is = subst (Remembers replay.past) (sym is) it.kept.remembers

pub answers_by : (replay : Replay) (origins : Origins) (entries : List Entry) (lists : Kept) (by : Answerer) (journal : List Edit) → IsKnown replay origins → entries_in_replay replay ≡ entries
    → by ≡ record { journal = journal; lists = lists } → journal ≡ replay.journal.items → by ≡ record { journal = edits_of entries; lists = lists }
answers_by replay origins entries lists by journal it is same edits =
    same ∙ ap (λ (es : List Edit). record { journal = es; lists = lists }) (edits ∙ sym (journal_of replay origins entries it is))

pub known : (replay : Replay) (origins : Origins) (places : List LinePlace) (journal : List Edit) (made : List MadeAction) → IsKnown replay origins → places ≡ replay.places.items
    → journal ≡ replay.journal.items → made ≡ replay.made.items → AreKnown (entries_of places journal) replay.past origins made
known replay origins places journal made it p j m =
    let edits = edits_are replay.places.items replay.journal.items it.each in
    subst (λ (es : List Entry). AreKnown es replay.past origins made) (sym (ap₂ entries_of p j)) (record {
      remembers = subst (Remembers replay.past) (sym edits) it.kept.remembers;
      knows = it.knows;
      made_is = m ∙ it.kept.made_is ∙ ap (made_by no_state) (sym edits);
    })
