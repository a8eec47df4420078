-- What the shelf holds under a name: bytes, a batch or a capture, where there is room for so many commands or
-- packets.
use Rattle.std.specs.Prelude.{◌≡◌, ℕ, ◌≤◌, List, length, Option, IfSome, Some}
use Rattle.tc_base.specs.Outside.{Held}
use Rattle.pcap_io.specs.declared.capture.Capture.{Capture}
use Rattle.pcap_io.specs.Captures.{IsCapture}
use Rattle.batch_run.specs.Commands.{commands_of, line_past}
use Rattle.tool_words.specs.declared.status.InputKind.{InputKind}
use Rattle.job_files.specs.OfInputs.Broken.{IsBroken}

-- these bytes stand under the name, where the shelf tells what it holds
abbrev pub Holds : Option Held → List ℕ → List ℕ → Type 0
Holds told name bytes = IfSome told (λ held. held name ≡ Some bytes)

-- the batch under the name, of no more commands than there is room for
pub record HasBatch (told : Option Held) (room : ℕ) (name bytes : List ℕ) : Type 0 where
  pub held : Holds told name bytes
  pub few : length (commands_of bytes) ≤ room

-- the batch under the name passes the room, at this line
pub record HasTooManyLines (told : Option Held) (room : ℕ) (name : List ℕ) (line : ℕ) : Type 0 where
  pub bytes : List ℕ
  pub held : Holds told name bytes
  pub past : line_past room (commands_of bytes) ≡ Some line

-- the capture under the name is this one, of no more packets than there is room for
pub record HasCapture (told : Option Held) (room : ℕ) (name : List ℕ) (capture : Capture) : Type 0 where
  pub bytes : List ℕ
  pub held : Holds told name bytes
  pub is : IsCapture bytes capture
  pub few : length capture.packets ≤ room

-- the capture under the name breaks its form, first at this place
pub record HasBreak (told : Option Held) (room : ℕ) (name : List ℕ) (at : ℕ) (what : InputKind) : Type 0 where
  pub bytes : List ℕ
  pub held : Holds told name bytes
  pub is : IsBroken room bytes at what
