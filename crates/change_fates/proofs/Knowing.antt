-- What is known of a change, by the entries that it is.
use Rattle.std.proofs.Common.{◌≡◌, ◌∙◌, ℕ, ◌≤◌, List, length, refl, sym, ap, ap₂, subst}
use Rattle.filter_state.specs.declared.edit.Edit.{Edit}
use Rattle.filter_state.specs.States.{no_state}
use Rattle.filter_state.specs.Journals.{IsLawful}
use Rattle.batch_run.specs.declared.made_action.MadeAction.{MadeAction}
use Rattle.change_lines.specs.Passed.{made_by}
use Rattle.edit_lines.specs.declared.line.LinePlace.{LinePlace}
use Rattle.change_lines.specs.Passed.{Remembers}
use Rattle.filter_origins.specs.declared.origins.Origins.{Origins}
use Rattle.filter_origins.specs.Entries.{Entry, edits_of, entries_of}
use Rattle.filter_origins.proofs.Whole.{edits_are, entries_long}
use Rattle.journal_names.specs.Known.{AreKnown}
use Rattle.change_lines.specs.Passed.{HookChange}
use Rattle.change_lines.specs.declared.applied.AppliedChange.{AppliedChange}
use Rattle.change_fates.specs.Told.{ChangeAt}
use Rattle.change_fates.specs.Knowing.{entries_applied, change_of, IsKnown}

module _ (applied : AppliedChange) (origins : Origins) (known : IsKnown applied origins) where
  pub edits : edits_of (entries_applied applied) ≡ applied.replay.journal.items
  edits = edits_are applied.replay.places.items applied.replay.journal.items known.each

  pub long : length (entries_applied applied) ≡ length applied.replay.journal.items
  long = entries_long applied.replay.places.items applied.replay.journal.items known.each

  pub lawful : IsLawful (edits_of (entries_applied applied))
  lawful = subst IsLawful (sym edits) known.kept.remembers.lawful

  -- who answers
  pub answering : (change : ChangeAt) (answers : HookChange) (journal : List Edit) → change_of applied ≡ change → answers ≡ record { journal = journal; hook = applied.heads.hook; before = applied.heads.before }
      → journal ≡ applied.replay.journal.items → answers ≡ record { journal = edits_of change.entries; hook = change.hook; before = change.before }
  answering change answers journal is told same =
      told
      ∙ ap (λ (es : List Edit). record { journal = es; hook = applied.heads.hook; before = applied.heads.before }) (same ∙ sym edits)
      ∙ ap (λ (h : Rattle.tc_base.specs.declared.hook.Hook.Hook). record { journal = edits_of (entries_applied applied); hook = h; before = applied.heads.before }) known.at_hook
      ∙ ap (λ (n : ℕ). record { journal = edits_of (entries_applied applied); hook = applied.hook; before = n }) known.since
      ∙ ap (λ (c : ChangeAt). record { journal = edits_of c.entries; hook = c.hook; before = c.before }) is

  -- who knows the names
  pub naming : (places : List LinePlace) (journal : List Edit) (made : List MadeAction) → places ≡ applied.replay.places.items → journal ≡ applied.replay.journal.items → made ≡ applied.replay.made.items
      → AreKnown (entries_of places journal) applied.replay.past origins made
  naming places journal made p j m =
      subst (λ (es : List Entry). AreKnown es applied.replay.past origins made) (sym (ap₂ entries_of p j)) (record {
        remembers = subst (Remembers applied.replay.past) (sym edits) known.kept.remembers;
        knows = known.knows;
        made_is = m ∙ known.kept.made_is ∙ ap (made_by no_state) (sym edits);
      })
