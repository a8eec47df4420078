-- The line that tells why a batch stopped (this project's own).
use Rattle.std.specs.Prelude.{ℕ, List, [], ◌∷◌, ◌++◌, codes}
use Rattle.std.specs.Fmt.{decimal}
use Rattle.line_texts.specs.Texts.{handle_text, protocol_text}
use Rattle.filter_state.specs.declared.refusal.Refusal.{Refusal}
use Rattle.filter_state.specs.declared.refusal.Refusal.TheVariants as refusals
use Rattle.tc_batch.specs.KindNames.{kind_text}
use Rattle.tc_report.specs.Show.{text_line}

-- a refusal's name, as it stands in the type
abbrev pub refusal_name : Refusal → List ℕ
refusal_name refusals.NoHook = codes "NoHook"
refusal_name refusals.HookExists = codes "HookExists"
refusal_name refusals.HookInUse = codes "HookInUse"
refusal_name refusals.NoPref = codes "NoPref"
refusal_name (refusals.ProtocolClash protocol) = codes "ProtocolClash"
refusal_name refusals.NoSuchTable = codes "NoSuchTable"
refusal_name refusals.NoSuchFilter = codes "NoSuchFilter"
refusal_name refusals.HandleTaken = codes "HandleTaken"
refusal_name (refusals.Exists handle) = codes "Exists"
refusal_name (refusals.NoSuchAction kind index) = codes "NoSuchAction"
refusal_name refusals.ActionExists = codes "ActionExists"
refusal_name (refusals.ActionBound binds) = codes "ActionBound"
refusal_name refusals.TablesFull = codes "TablesFull"
refusal_name refusals.MasksFull = codes "MasksFull"
refusal_name refusals.FiltersFull = codes "FiltersFull"
refusal_name refusals.ActionsFull = codes "ActionsFull"
refusal_name refusals.CountersFull = codes "CountersFull"
refusal_name (refusals.NoMemory memory) = codes "NoMemory"

-- what it says besides
abbrev pub refusal_fields : Refusal → List (List ℕ)
refusal_fields (refusals.ProtocolClash protocol) = protocol_text protocol ∷ []
refusal_fields (refusals.Exists handle) = handle_text handle ∷ []
refusal_fields (refusals.NoSuchAction kind index) = kind_text kind ∷ decimal index ∷ []
refusal_fields (refusals.ActionBound binds) = decimal binds ∷ []
refusal_fields refusal = []

abbrev pub refusal_words : Refusal → List (List ℕ)
refusal_words refusal = refusal_name refusal ∷ refusal_fields refusal

-- where a line has no meaning: its first word that doesn't fit
abbrev pub syntax_words : ℕ → List (List ℕ)
syntax_words word = codes "Syntax" ∷ decimal word ∷ []

-- how many edits were accepted so far, and the control and the line at which the batch stopped
abbrev pub place_words : ℕ → ℕ → ℕ → List (List ℕ)
place_words accepted control line =
    codes "refused" ∷ decimal accepted ∷ codes "control" ∷ decimal control ∷ codes "line" ∷ decimal line ∷ []

-- the place, and the reason behind it
abbrev pub refused_line : ℕ → ℕ → ℕ → List (List ℕ) → List ℕ
refused_line accepted control line reason = text_line (place_words accepted control line ++ reason)
