-- THE LINES OF A TRACE (this project's own): what each visit of a walk came to, line by line. A line is its
-- words with one space between.
use Rattle.std.specs.Prelude.{ℕ, ◌+◌, ◌-◌, ◌==◌, ◌&&◌, Bool, true, false, List, [], ◌∷◌, ◌++◌, length}
use Rattle.std.specs.Prelude.{fold, codes, Option, Some, None, option_map, if◌then◌else◌}
use Rattle.std.specs.List.{flat_map}
use Rattle.std.specs.Str.{bytes_eq}
use Rattle.std.specs.Fmt.{decimal}
use Rattle.tc_base.specs.declared.hook.Hook.{Hook}
use Rattle.frame_edit.specs.EditedFrame.{EditedFrame, lacks_room}
use Rattle.frame_edit.specs.Tags.{ether_type_of}
use Rattle.flow_dissect.specs.Fields.{frame_values}
use Rattle.act_kinds.specs.declared.params.Params.{Params}
use Rattle.act_kinds.specs.declared.params.Params.TheVariants as params
use Rattle.act_kinds.specs.declared.params.VlanOp.TheVariants as ops
use Rattle.act_kinds.specs.declared.params.Control.{Control}
use Rattle.act_kinds.specs.declared.params.Control.TheVariants as controls
use Rattle.act_kinds.specs.Acts.{acted_on, control_given}
use Rattle.line_texts.specs.Texts.{handle_text, protocol_text}
use Rattle.tc_print.specs.Texts.{onto}
use Rattle.tc_print.specs.EditWords.{hook_text}
use Rattle.tc_print.specs.ActionWords.{params_words, index_words}
use Rattle.walk_rules.specs.declared.limits.TheConstants.{VISITS_MAX}
use Rattle.walk_rules.specs.Questions.{Head, Answer, told_heads, told_no_filter, told_actions, told_params}
use Rattle.walk_rules.specs.Steps.{Place, at_head, at_mask, at_action, ended, Standing, action_at, after}
use Rattle.edit_lines.specs.declared.line.Line.{Line}
use Rattle.edit_lines.specs.declared.line.Origin.{Origin}
use Rattle.trace_lines.specs.declared.told.Told.{Told}
use Rattle.trace_lines.specs.Names.{Names}
use Rattle.trace_lines.specs.Steps.{Step}
use Rattle.trace_lines.specs.Fields.{frame_words, sought_words, key_under}

-- ---- words
abbrev pub line_of : List (List ℕ) → List ℕ
line_of words = fold onto [] words ++ codes "\n"

-- lines, one after the other
abbrev pub joined : List (List ℕ) → List ℕ
joined lines = flat_map (λ (line : List ℕ). line) lines

-- `at N ..`
abbrev pub at_line : Told → List (List ℕ) → List ℕ
at_line told words = line_of (codes "at" ∷ decimal told.packet ∷ words)

-- `visit V ..`, counted from 1
abbrev pub visit_line : Told → Standing → List (List ℕ) → List ℕ
visit_line told st words = at_line told (codes "visit" ∷ decimal (st.visits + 1) ∷ words)

abbrev pub point_words : Bool → ℕ → List (List ℕ)
point_words false point = []
point_words true point = codes "point" ∷ decimal point ∷ []

-- `edit K control C line L`
abbrev pub by_words : Line → List (List ℕ)
by_words by = codes "edit" ∷ decimal by.edit ∷ codes "control" ∷ decimal by.control ∷ codes "line"
    ∷ decimal by.line ∷ []

abbrev pub maker_words : Option Line → List (List ℕ)
maker_words None = []
maker_words (Some by) = by_words by

abbrev pub origin_words : Option Origin → List (List ℕ)
origin_words None = []
origin_words (Some origin) = codes "handle" ∷ handle_text origin.handle ∷ by_words origin.by

-- ---- before a look-up
-- `table chain C pref F protocol X`
abbrev pub table_words : Head → List (List ℕ)
table_words head = codes "table" ∷ codes "chain" ∷ decimal head.chain ∷ codes "pref" ∷ decimal head.pref
    ∷ codes "protocol" ∷ protocol_text head.protocol ∷ []

-- where a table is tried, before its first mask
abbrev pub table_lines : Told → Place → List (List ℕ)
table_lines told (at_mask head masks tables) =
    if length masks == length head.masks then at_line told (table_words head) ∷ [] else []
table_lines told place = []

-- what was told of the frame of the look-up before: its EtherType and the values of its fields (`bytes_eq`
-- compares any two lists of numbers)
abbrev pub Seen : Type 0
Seen = Option (ℕ × List ℕ)

abbrev pub is_seen : Seen → List ℕ → Bool
is_seen None bytes = false
is_seen (Some (ether, values)) bytes = ether == ether_type_of bytes && bytes_eq values (frame_values bytes)

-- where the frame is another one than that of the look-up before
abbrev pub frame_lines : Told → Seen → Standing → Place → List (List ℕ)
frame_lines told seen st (at_mask head masks tables) =
    if is_seen seen st.frame.bytes then [] else at_line told (frame_words st.frame.bytes) ∷ []
frame_lines told seen st place = []

abbrev pub seen_after : Seen → Standing → Place → Seen
seen_after seen st (at_mask head masks tables) =
    Some (ether_type_of st.frame.bytes, frame_values st.frame.bytes)
seen_after seen st place = seen

-- ---- a visit
-- `head HOOK tables T`: the tables of all chains
abbrev pub head_words : Hook → List Head → List (List ℕ)
head_words hook heads = codes "head" ∷ hook_text hook ∷ codes "tables" ∷ decimal (length heads) ∷ []

-- `miss FIELD VALUE ..`
abbrev pub miss_words : Names → ℕ → ℕ → List ℕ → List (List ℕ)
miss_words names point mask values = codes "miss" ∷ sought_words values (names.words point mask)

-- `match FIELD VALUE .. handle 0xH edit K control C line L`
abbrev pub match_origin : Names → ℕ → ℕ → List ℕ → Option Origin
match_origin names point mask values = names.filter point mask (key_under values (names.words point mask))

abbrev pub match_words : Names → ℕ → ℕ → List ℕ → List (List ℕ)
match_words names point mask values = codes "match"
    ∷ (sought_words values (names.words point mask) ++ origin_words (match_origin names point mask values))

-- a push that finds no room
abbrev pub finds_no_room : Params → EditedFrame → Bool
finds_no_room (params.Vlan (ops.Push tpid id priority) control) frame = lacks_room frame
finds_no_room given frame = false

abbrev pub room_words : Bool → List (List ℕ)
room_words false = []
room_words true = codes "no" ∷ codes "room" ∷ []

-- `length L`, where the action changed the frame's length
abbrev pub length_words : ℕ → ℕ → List (List ℕ)
length_words before after = if before == after then [] else codes "length" ∷ decimal after ∷ []

-- `run I of M serial S ACTION [ no room ] [ length L ] edit K control C line L`
abbrev pub run_words : Names → ℕ → ℕ → ℕ → ℕ → Params → EditedFrame → List (List ℕ)
run_words names point position many serial given frame =
    codes "run" ∷ decimal position ∷ codes "of" ∷ decimal many ∷ codes "serial" ∷ decimal serial
    ∷ (params_words given ++ (index_words (Some (names.index serial))
    ++ (room_words (finds_no_room given frame)
    ++ (length_words (length frame.bytes) (length (acted_on given frame).bytes)
    ++ maker_words (names.action point serial)))))

abbrev pub visit_words : Names → ℕ → Standing → Place → Answer → List (List ℕ)
visit_words names point st at_head (told_heads heads) = head_words st.hook heads
visit_words names point st (at_mask head (mask ∷ masks) tables) told_no_filter =
    miss_words names point mask (frame_values st.frame.bytes)
visit_words names point st (at_mask head (mask ∷ masks) tables) (told_actions actions) =
    match_words names point mask (frame_values st.frame.bytes)
visit_words names point st (at_action head actions position jumps tables) (told_params given) =
    run_words names point position (length actions) (action_at actions position) given st.frame
visit_words names point st place answer = []

-- ---- behind a visit
-- the chain from which a control restarts
abbrev pub restart_chain : Control → Option ℕ
restart_chain controls.Reclassify = Some 0
restart_chain (controls.Goto chain) = Some chain
restart_chain control = None

-- `restart chain C left R`, or `spent` where no restart was left
abbrev pub restart_words : ℕ → ℕ → List (List ℕ)
restart_words restarts chain =
    if restarts == 0 then codes "spent" ∷ []
    else codes "restart" ∷ codes "chain" ∷ decimal chain ∷ codes "left" ∷ decimal (restarts - 1) ∷ []

abbrev pub restart_lines : Told → ℕ → Option ℕ → List (List ℕ)
restart_lines told restarts None = []
restart_lines told restarts (Some chain) = at_line told (restart_words restarts chain) ∷ []

abbrev pub run_lines : Told → Standing → Place → Answer → List (List ℕ)
run_lines told st (at_action head actions position jumps tables) (told_params given) =
    restart_lines told st.restarts (restart_chain (control_given given st.frame))
run_lines told st place answer = []

-- `spent`, where a further visit is needed behind the last
abbrev pub needs_visit : Place → Bool
needs_visit (ended verdict) = false
needs_visit place = true

abbrev pub spent_lines : Told → Standing → List (List ℕ)
spent_lines told st =
    if st.visits == VISITS_MAX then
    (if needs_visit st.place then at_line told (codes "spent" ∷ []) ∷ [] else []) else []

-- ---- THE LINES OF A STEP, and of steps
abbrev pub lines_before : Told → Seen → Standing → List (List ℕ)
lines_before told seen st = table_lines told st.place ++ frame_lines told seen st st.place

abbrev pub visit_lines : Told → Names → Step → List (List ℕ)
visit_lines told names step =
    visit_line told step.before (visit_words names step.point step.before step.before.place step.answer
    ++ point_words told.points step.point)
    ∷ (run_lines told step.before step.before.place step.answer
    ++ spent_lines told (after step.before step.answer))

abbrev pub step_lines : Told → Names → Seen → Step → List (List ℕ)
step_lines told names seen step = lines_before told seen step.before ++ visit_lines told names step

unfoldable pub walk_lines : Told → Names → Seen → List Step → List (List ℕ)
walk_lines told names seen [] = []
walk_lines told names seen (step ∷ steps) = step_lines told names seen step
    ++ walk_lines told names (seen_after seen step.before step.before.place) steps

-- ---- THE FILTERS THAT DECIDED, by the edits that brought them, in order
abbrev pub decided_at : Names → ℕ → Standing → Place → Answer → Option ℕ
decided_at names point st (at_mask head (mask ∷ masks) tables) (told_actions actions) =
    option_map (λ (origin : Origin). origin.by.edit)
    (match_origin names point mask (frame_values st.frame.bytes))
decided_at names point st place answer = None

abbrev pub listed : Option ℕ → List ℕ
listed None = []
listed (Some edit) = edit ∷ []

unfoldable pub decided_in : Names → List Step → List ℕ
decided_in names [] = []
decided_in names (step ∷ steps) =
    listed (decided_at names step.point step.before step.before.place step.answer) ++ decided_in names steps
