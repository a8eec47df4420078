-- What comes of the files of a change (this project's own).
use Rattle.walk_ends.specs.declared.limits.TheConstants.{PACKETS_MAX}
use Rattle.batch_run.specs.declared.limit.TheConstants.{COMMANDS_MAX}
use Rattle.std.specs.Prelude.{◌≡◌, ◌≤◌, ℕ, ◌+◌, Bool, List, length, Option}
use Rattle.tc_base.specs.Outside.{Held}
use Rattle.tc_base.specs.declared.hook.Hook.{Hook}
use Rattle.pcap_io.specs.Captures.{AreShort}
use Rattle.batch_run.specs.Commands.{commands_of}
use Rattle.change_fates.specs.Passed.{Changed, IsChanged, refused_in}
use Rattle.change_fates.specs.Foreseen.{foreseen_text, not_hitless}
use Rattle.tool_words.specs.Command.{ChangeFiles}
use Rattle.tool_words.specs.declared.status.Status.{Status}
use Rattle.tool_words.specs.Ends.{status_of_foreseen}
use Rattle.job_files.specs.declared.inputs.changes.LoadedChange.{LoadedChange}
use Rattle.job_files.specs.Changes.{HasChange}

-- within the limits of a run
pub record IsWithin (files : LoadedChange) : Type 0 where
  pub commands : length (commands_of files.batch) + length (commands_of files.change) ≤ COMMANDS_MAX
  pub packets : length files.capture.packets ≤ PACKETS_MAX
  pub short : AreShort files.capture.packets

-- the change of files that were loaded, forced or not
abbrev pub IsChangeOf : LoadedChange → Bool → Changed → Type 0
IsChangeOf files force changed = IsChanged (commands_of files.batch) (commands_of files.change) force changed

-- THE CHANGE OF THE HELD FILES, forced or not, and of its packets at the hook the text that foresees them and the end
-- of the run
pub record GivesForesight (told : Option Held) (hook : Hook) (names : ChangeFiles) (force : Bool) (text : List ℕ)
    (status : Status) : Type 0 where
  pub files : LoadedChange
  pub held : HasChange told names files
  pub changed : Changed
  pub is : IsChangeOf files force changed
  pub text_is : text ≡ foreseen_text changed hook files.capture.packets
  pub status_is : status ≡ status_of_foreseen (refused_in changed) (not_hitless changed hook files.capture.packets)

-- the files let a run end with this status
abbrev pub ForesightEnds : Option Held → Hook → ChangeFiles → Bool → Status → Type 0
ForesightEnds told hook names force status = (text : List ℕ) × GivesForesight told hook names force text status
