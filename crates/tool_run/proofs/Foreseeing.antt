-- The answer of `foresee` that is due is one, and comes where its files are ready.
use Rattle.std.proofs.Common.{◌≡◌, ◌⊎◌, inl, inr, ◌∙◌, ℕ, zero, suc, Bool, List, Option, Some, refl, sym, ap, subst}
use Rattle.tc_base.specs.Outside.{Held}
use Rattle.tc_base.specs.declared.hook.Hook.{Hook}
use Rattle.tc_words.specs.Lines.{lines_of}
use Rattle.batch_run.specs.Commands.{commands_of}
use Rattle.change_fates.specs.Passed.{Changed, refused_in}
use Rattle.change_fates.specs.Foreseen.{foreseen_text, not_hitless}
use Rattle.change_fates.proofs.Passed.{some_of_changes, one_of_changes}
use Rattle.tool_words.specs.Command.{ChangeFiles, Foresee}
use Rattle.tool_words.specs.declared.status.InputKind.{InputKind}
use Rattle.tool_words.specs.declared.status.Status.{Status}
use Rattle.tool_words.specs.declared.status.Status.TheVariants as statuses
use Rattle.tool_words.specs.Ends.{status_of_foreseen}
use Rattle.job_files.specs.declared.inputs.changes.LoadedChange.{LoadedChange}
use Rattle.job_files.specs.OfInputs.Holdings.{Holds}
use Rattle.job_files.specs.Changes.{HasChange, ChangeBreaks, ChangeReads}
use Rattle.job_files.proofs.Changing.{one_loaded, loaded_not_broken, one_broken, loaded_stands, broken_stands}
use Rattle.tool_run.specs.Foresights.{IsChangeOf, GivesForesight, ForesightEnds}
use Rattle.tool_run.specs.Causes.{AllowedTo, CausedTo}
use Rattle.tool_run.specs.Delivered.{LeavesAllUnlessRun}

-- files that stand have a change, and it is foreseen
pub some_change_of : (files : LoadedChange) (force : Bool) → (it : Changed) × IsChangeOf files force it
some_change_of files force = some_of_changes (commands_of files.batch) (commands_of files.change) force

pub foresees : (told : Option Held) (hook : Hook) (names : ChangeFiles) (force : Bool) (files : LoadedChange)
    → HasChange told names files → (it : Changed) → IsChangeOf files force it
    → GivesForesight told hook names force (foreseen_text it hook files.capture.packets)
    (status_of_foreseen (refused_in it) (not_hitless it hook files.capture.packets))
foresees told hook names force files held it is =
    record { files = files; held = held; changed = it; is = is; text_is = refl; status_is = refl }

-- ---- what is due: all files are well formed, or one of them breaks its form
abbrev IsBroken : Option Held → ChangeFiles → Status → Type 0
IsBroken told names status =
    (name : List ℕ) × (place : ℕ) × (kind : InputKind) × ChangeBreaks told names name place kind
    × (status ≡ statuses.BadInput name place kind)

abbrev pub ForesightDue : Option Held → Hook → ChangeFiles → Bool → Status → Type 0
ForesightDue told hook names force status = ForesightEnds told hook names force status ⊎ IsBroken told names status

pub foresight_due : (told : Option Held) (hook : Hook) (names : ChangeFiles) (force : Bool) (status : Status)
    → AllowedTo told (Foresee hook names force) status → ForesightDue told hook names force status
foresight_due told hook names force statuses.Done due = inl due
foresight_due told hook names force (statuses.LinesRefused n) due = inl due
foresight_due told hook names force (statuses.BadInput name place kind) due = inr (name, place, kind, due, refl)
foresight_due told hook names force (statuses.ReadFault name) due = absurd due
foresight_due told hook names force (statuses.NotLawful line reason) due = inl due
foresight_due told hook names force (statuses.NotHitless n) due = inl due
foresight_due told hook names force statuses.Usage due = absurd due
foresight_due told hook names force statuses.WriteFault due = absurd due
foresight_due told hook names force (statuses.NoMemory memory) due = absurd due

module _ (held : Held) (hook : Hook) (names : ChangeFiles) (force : Bool) where
  abbrev told : Option Held
  told = Some held

  abbrev status_in : Changed → LoadedChange → Status
  status_in it files = status_of_foreseen (refused_in it) (not_hitless it hook files.capture.packets)

  one_foreseen : (x y : Status) → ForesightEnds told hook names force x → ForesightEnds told hook names force y
      → x ≡ y
  one_foreseen x y h k =
      let first = h.1 in
      let second = k.1 in
      let files : first.files ≡ second.files =
      one_loaded held names first.files second.files first.held second.held in
      let is : IsChangeOf second.files force first.changed =
      subst (λ (f : LoadedChange). IsChangeOf f force first.changed) files first.is in
      let one : first.changed ≡ second.changed =
      one_of_changes (lines_of second.files.batch) (lines_of second.files.change) force first.changed
      second.changed is second.is in
      first.status_is ∙ ap (status_in first.changed) files
      ∙ ap (λ (it : Changed). status_in it second.files) one ∙ sym second.status_is

  pub one_foresight : (x y : Status) → ForesightDue told hook names force x → ForesightDue told hook names force y
      → x ≡ y
  one_foresight x y (inl h) (inl k) = one_foreseen x y h k
  one_foresight x y (inl h) (inr (name, place, kind, breaks, is)) =
      absurd (loaded_not_broken held names h.1.files name place kind h.1.held breaks)
  one_foresight x y (inr (name, place, kind, breaks, is)) (inl k) =
      absurd (loaded_not_broken held names k.1.files name place kind k.1.held breaks)
  one_foresight x y (inr (name, place, kind, breaks, is)) (inr (other, at, what, broken, so)) =
      is ∙ one_broken held names name other place at kind what breaks broken ∙ sym so

  -- what is read stands, where an answer is due
  pub foreseen_stands : (name : List ℕ) (status : Status) → ForesightDue told hook names force status
      → ChangeReads told names name → (bytes : List ℕ) × Holds told name bytes
  foreseen_stands name status (inl h) reads = loaded_stands held names h.1.files name h.1.held reads
  foreseen_stands name status (inr (file, place, kind, breaks, is)) reads =
      broken_stands held names file name place kind breaks reads

-- ---- an end that the counts of a change give has its cause, and comes once all was written
pub foreseen_caused : {S O : Type 0} (held : S → Option Held) (read_faults : S → ℕ)
    (failed_name : S → Option (List ℕ)) (write_faults : S → ℕ) (faults : O → ℕ) (old new : S)
    (sink_old sink_new : O) (hook : Hook) (names : ChangeFiles) (force : Bool) (refused many : ℕ)
    → ForesightEnds (held old) hook names force (status_of_foreseen refused many)
    → CausedTo held read_faults failed_name write_faults faults old new sink_old sink_new (Foresee hook names force)
    (status_of_foreseen refused many)
foreseen_caused held read_faults failed_name write_faults faults old new a b hook names force zero zero ends = ends
foreseen_caused held read_faults failed_name write_faults faults old new a b hook names force zero (suc more) ends =
    ends
foreseen_caused held read_faults failed_name write_faults faults old new a b hook names force (suc more) many ends =
    ends

pub foreseen_leaves : (held_old held_new : Option Held) (written_old written_new : Option (List ℕ))
    (refused many : ℕ)
    → LeavesAllUnlessRun held_old held_new written_old written_new (status_of_foreseen refused many)
foreseen_leaves held_old held_new written_old written_new zero zero = tt
foreseen_leaves held_old held_new written_old written_new zero (suc more) = tt
foreseen_leaves held_old held_new written_old written_new (suc more) many = tt
