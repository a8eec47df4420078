-- What is told of the packets of a change (this project's own).
use Rattle.std.specs.Prelude.{ℕ, ◌+◌, true, false, Bool, List, [], ◌∷◌, ◌++◌, length, map, take, get_or, None, count_by, codes}
use Rattle.std.specs.Prelude.{if◌then◌else◌}
use Rattle.tc_base.specs.declared.hook.Hook.{Hook}
use Rattle.pcap_io.specs.declared.capture.Packet.{Packet}
use Rattle.filter_state.specs.States.{State}
use Rattle.filter_state.specs.Journals.{state_at}
use Rattle.walk_rules.specs.declared.limits.TheConstants.{VISITS_MAX}
use Rattle.walk_rules.specs.Steps.{begun}
use Rattle.point_walks.specs.Over.{Answering}
use Rattle.walk_texts.specs.Texts.{joined}
use Rattle.trace_lines.specs.Steps.{Step, steps_of}
use Rattle.trace_lines.specs.Lines.{walk_lines}
use Rattle.filter_origins.specs.Entries.{Entry, edits_of}
use Rattle.journal_names.specs.Known.{names_of}
use Rattle.walk_fate_laws.specs.declared.limits.TheConstants.{WAYS_MAX}
use Rattle.walk_fate_laws.specs.declared.kinds.When.{When}
use Rattle.walk_fate_laws.specs.declared.kinds.When.TheVariants as whens
use Rattle.walk_fate_laws.specs.declared.kinds.Kind.{Kind}
use Rattle.walk_fate_laws.specs.declared.kinds.Kind.TheVariants as kinds
use Rattle.walk_fate_laws.specs.Walks.{answers_over, ways_of}
use Rattle.walk_fate_laws.specs.Told.{Told, told_fates, has_more}
use Rattle.walk_fate_laws.specs.Times.{whens_at}
use Rattle.walk_fate_laws.specs.Kinds.{kind_at}
use Rattle.fate_search.specs.Found.{Found, all_found}
use Rattle.change_lines.specs.Passed.{HookChange}
use Rattle.change_fates.specs.declared.counts.KindCounts.{KindCounts}
use Rattle.change_fates.specs.Texts.{change_line, packet_line, fate_line, summary_line}

-- the edits of a batch and of the change behind it, each with where it was read; the hook at which packets come;
-- and how many of the edits stood before the change
pub record ChangeAt : Type 0 where
  pub entries : List Entry
  pub hook : Hook
  pub before : ℕ

-- its journal and its hook
abbrev pub hook_change : ChangeAt → HookChange
hook_change change = record { journal = edits_of change.entries; hook = change.hook; before = change.before }

-- ---- a packet
-- the states of the points answer
abbrev pub answers_in : ChangeAt → Answering
answers_in change = answers_over (λ point. state_at point (edits_of change.entries))

abbrev pub told_in : ChangeAt → List ℕ → List Told
told_in change bytes =
    told_fates (answers_in change) change.before (length change.entries) change.hook bytes

abbrev pub whens_in : ChangeAt → List ℕ → List When
whens_in change bytes = whens_at (answers_in change) change.before (length change.entries) change.hook bytes

abbrev pub kind_in : ChangeAt → List ℕ → Kind
kind_in change bytes = kind_at (answers_in change) change.before (length change.entries) change.hook bytes

abbrev pub more_in : ChangeAt → List ℕ → Bool
more_in change bytes = has_more (answers_in change) change.before (length change.entries) change.hook bytes

-- how many ways were looked at
abbrev pub ways_in : ChangeAt → List ℕ → ℕ
ways_in change bytes =
    length (take WAYS_MAX (ways_of (answers_in change) change.before (length change.entries) change.hook bytes))

-- ---- what a walk met
-- neither the state before the change nor that after it gives the fate
abbrev pub is_neither : When → Bool
is_neither whens.Between = true
is_neither whens.Mixed = true
is_neither when = false

-- the steps of a walk at these points
abbrev pub steps_at : ChangeAt → List ℕ → List ℕ → List Step
steps_at change bytes points = steps_of (answers_in change) (λ visit. get_or points visit 0) VISITS_MAX
    (begun change.hook bytes)

-- what it met, line by line, as a trace tells it
abbrev pub met_lines : ChangeAt → ℕ → List ℕ → List ℕ → List (List ℕ)
met_lines change number bytes points = walk_lines (record { packet = number; points = true })
    (names_of change.entries) None (steps_at change bytes points)

-- ---- THE LINES OF A PACKET
-- of each fate its line, and what was met behind one that is neither
abbrev pub fate_lines : ChangeAt → ℕ → List ℕ → When → Found → List (List ℕ)
fate_lines change number bytes when found = fate_line number when found
    ∷ (if is_neither when then met_lines change number bytes found.points else [])

abbrev pub fates_lines : ChangeAt → ℕ → List ℕ → List When → List Found → List (List ℕ)
fates_lines change number bytes (when ∷ whens) (found ∷ founds) =
    fate_lines change number bytes when found ++ fates_lines change number bytes whens founds
fates_lines change number bytes whens founds = []

abbrev pub packet_lines : ChangeAt → ℕ → List ℕ → List (List ℕ)
packet_lines change number bytes =
    packet_line number (kind_in change bytes) (ways_in change bytes) (more_in change bytes)
    ∷ fates_lines change number bytes (whens_in change bytes) (all_found (told_in change bytes))

-- those of packets, numbered from here
abbrev pub packets_lines : ChangeAt → ℕ → List Packet → List (List ℕ)
packets_lines change number [] = []
packets_lines change number (packet ∷ packets) =
    packet_lines change number packet.bytes ++ packets_lines change (number + 1) packets

-- ---- how many packets are of each kind
abbrev pub is_kind : Kind → Kind → Bool
is_kind kinds.Steady kinds.Steady = true
is_kind kinds.Moved kinds.Moved = true
is_kind kinds.Between kinds.Between = true
is_kind kinds.Mixed kinds.Mixed = true
is_kind kinds.Open kinds.Open = true
is_kind kind other = false

abbrev pub kinds_in : ChangeAt → List Packet → List Kind
kinds_in change packets = map (λ (packet : Packet). kind_in change packet.bytes) packets

abbrev pub count_of : Kind → List Kind → ℕ
count_of kind all = count_by (is_kind kind) all

abbrev pub counts_of : List Kind → KindCounts
counts_of all = record {
  steady = count_of kinds.Steady all;
  moved = count_of kinds.Moved all;
  between = count_of kinds.Between all;
  mixed = count_of kinds.Mixed all;
  left_open = count_of kinds.Open all;
}

-- those of packets that aren't all walked as before the change or as after it, so far as is known
abbrev pub shaken : KindCounts → ℕ
shaken counts = counts.between + counts.mixed + counts.left_open

-- ---- THE TEXT, by the texts of what became of the lines of both files
abbrev pub closing_text : ℕ → KindCounts → List ℕ
closing_text packets counts = summary_line packets counts ++ codes "end\n"

abbrev pub told_text : ChangeAt → List ℕ → List ℕ → List Packet → List ℕ
told_text change stop lines packets = (stop ++ change_line change.before (length change.entries))
    ++ (lines ++ (joined (packets_lines change 1 packets)
    ++ closing_text (length packets) (counts_of (kinds_in change packets))))
