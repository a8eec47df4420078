-- What the functions of this crate tell, each by what it is given. But for `before_of`, only the contracts of
-- private functions speak of these words: a step's lines are those of `Lines`.
use Rattle.std.specs.Prelude.{◌≡◌, ◌⊎◌, ℕ, ◌+◌, ◌==◌, ◌&&◌, nat_le, Bool, true, false, List, [], ◌∷◌, ◌++◌}
use Rattle.std.specs.Prelude.{length, Option, Some, None, option_map, if◌then◌else◌, codes}
use Rattle.std.specs.Fmt.{decimal}
use Rattle.std.specs.List.{flat_map}
use Rattle.std.specs.Str.{bytes_eq}
use Rattle.tc_base.specs.declared.hook.Hook.{Hook}
use Rattle.tc_base.specs.declared.hook.Proto.{Proto}
use Rattle.flow_fields.specs.declared.key.Key.{Key}
use Rattle.flow_fields.specs.Values.{values_of}
use Rattle.act_kinds.specs.declared.params.Params.{Params}
use Rattle.act_kinds.specs.declared.params.Params.TheVariants as params
use Rattle.act_kinds.specs.declared.params.VlanOp.TheVariants as ops
use Rattle.act_kinds.specs.declared.params.Control.{Control}
use Rattle.line_texts.specs.Texts.{protocol_text, ether_type_text}
use Rattle.tc_print.specs.EditWords.{hook_text}
use Rattle.tc_print.specs.ActionWords.{params_words, index_words}
use Rattle.walk_rules.specs.declared.limits.TheConstants.{VISITS_MAX}
use Rattle.walk_rules.specs.Steps.{Standing}
use Rattle.walk_steps.specs.declared.stand.Stand.{Stand}
use Rattle.walk_steps.specs.declared.stand.Stand.TheVariants as stands
use Rattle.walk_steps.specs.Stands.{stand_of}
use Rattle.point_walks.specs.declared.answered.Answered.{Answered}
use Rattle.point_walks.specs.declared.answered.Answered.TheVariants as answereds
use Rattle.edit_lines.specs.declared.line.Origin.{Origin}
use Rattle.trace_lines.specs.declared.told.Told.{Told}
use Rattle.trace_lines.specs.declared.before.Before.{Before}
use Rattle.trace_lines.specs.declared.visit.Visit.{Visit}
use Rattle.trace_lines.specs.Names.{Names}
use Rattle.trace_lines.specs.Fields.{value_words}
use Rattle.trace_lines.specs.Lines.{at_line, point_words, maker_words, Seen, miss_words, match_words}
use Rattle.trace_lines.specs.Lines.{match_origin, room_words, length_words, restart_chain, restart_lines}

-- ---- before a visit
-- what is kept of where the walk stands
abbrev pub before_of : Standing → Before
before_of st = record {
  hook = st.hook;
  stand = stand_of st.place;
  visits = st.visits;
  restarts = st.restarts;
  length = length st.frame.bytes;
}

abbrev pub named_table_words : ℕ → ℕ → Proto → List (List ℕ)
named_table_words chain pref protocol = codes "table" ∷ codes "chain" ∷ decimal chain ∷ codes "pref"
    ∷ decimal pref ∷ codes "protocol" ∷ protocol_text protocol ∷ []

abbrev pub table_lines_at : Told → Stand → List (List ℕ)
table_lines_at told (stands.AtMask chain pref protocol is_first) =
    if is_first then at_line told (named_table_words chain pref protocol) ∷ [] else []
table_lines_at told stand = []

abbrev pub seen_of : Option (ℕ × Key 14) → Seen
seen_of None = None
seen_of (Some (ether, key)) = Some (ether, values_of key.words)

abbrev pub is_same : Seen → ℕ → List ℕ → Bool
is_same None ether values = false
is_same (Some (seen_ether, seen_values)) ether values = seen_ether == ether && bytes_eq seen_values values

abbrev pub frame_words_of : ℕ → List ℕ → List (List ℕ)
frame_words_of ether values = codes "fields" ∷ codes "protocol" ∷ ether_type_text ether ∷ value_words values

-- words behind a line that has some: each with a space before it
abbrev pub words_behind : List (List ℕ) → List ℕ
words_behind words = flat_map (λ (word : List ℕ). 32 ∷ word) words

-- what is kept for some words: nothing, or those
abbrev pub IsKept : List ℕ → List (List ℕ) → Type 0
IsKept kept words = (kept ≡ []) ⊎ (kept ≡ words_behind words)

abbrev pub frame_lines_of : Told → Seen → ℕ → List ℕ → List (List ℕ)
frame_lines_of told seen ether values =
    if is_same seen ether values then [] else at_line told (frame_words_of ether values) ∷ []

abbrev pub frame_lines_at : Told → Seen → Stand → ℕ → List ℕ → List (List ℕ)
frame_lines_at told seen (stands.AtMask chain pref protocol is_first) ether values =
    frame_lines_of told seen ether values
frame_lines_at told seen stand ether values = []

abbrev pub seen_at : Seen → Stand → ℕ → List ℕ → Seen
seen_at seen (stands.AtMask chain pref protocol is_first) ether values = Some (ether, values)
seen_at seen stand ether values = seen

-- ---- a visit
abbrev pub named_head_words : Hook → ℕ → List (List ℕ)
named_head_words hook tables = codes "head" ∷ hook_text hook ∷ codes "tables" ∷ decimal tables ∷ []

-- a push that left the length of a frame with a header as it was
abbrev pub no_room : Params → ℕ → ℕ → Bool
no_room (params.Vlan (ops.Push tpid id priority) control) before after = nat_le 14 before && before == after
no_room given before after = false

abbrev pub place_words : Stand → List (List ℕ)
place_words (stands.AtAction position many) =
    codes "run" ∷ decimal position ∷ codes "of" ∷ decimal many ∷ []
place_words stand = []

abbrev pub effect_words : Params → ℕ → ℕ → List (List ℕ)
effect_words given before after = room_words (no_room given before after) ++ length_words before after

abbrev pub acted_words : Names → Before → ℕ → ℕ → ℕ → Params → List (List ℕ)
acted_words names before point after serial given = place_words before.stand
    ++ (codes "serial" ∷ decimal serial ∷ (params_words given ++ (index_words (Some (names.index serial))
    ++ (effect_words given before.length after ++ maker_words (names.action point serial)))))

-- by the values of the frame's fields and its length, both behind the visit
abbrev pub answer_words : Names → Before → ℕ → List ℕ → ℕ → Answered → List (List ℕ)
answer_words names before point values after (answereds.Tables tables) = named_head_words before.hook tables
answer_words names before point values after (answereds.NoFilter mask) = miss_words names point mask values
answer_words names before point values after (answereds.Filter mask) = match_words names point mask values
answer_words names before point values after (answereds.Acted serial given) =
    acted_words names before point after serial given

abbrev pub origin_in : Names → ℕ → List ℕ → Answered → Option Origin
origin_in names point values (answereds.Filter mask) = match_origin names point mask values
origin_in names point values answered = None

abbrev pub edit_of : Option Origin → Option ℕ
edit_of origin = option_map (λ (origin : Origin). origin.by.edit) origin

abbrev pub made_line : Told → Names → Before → ℕ → List ℕ → ℕ → Answered → List ℕ
made_line told names before point values after answered =
    at_line told (codes "visit" ∷ decimal (before.visits + 1)
    ∷ (answer_words names before point values after answered ++ point_words told.points point))

-- ---- behind a visit
abbrev pub control_in : Params → Control
control_in (params.Gact control) = control
control_in (params.Vlan op control) = control
control_in (params.Skbedit priority mark queue control) = control

abbrev pub chain_in : ℕ → ℕ → Answered → Option ℕ
chain_in before after (answereds.Acted serial given) =
    if no_room given before after then None else restart_chain (control_in given)
chain_in before after answered = None

abbrev pub is_over : Stand → Bool
is_over (stands.Over verdict) = true
is_over stand = false

abbrev pub spent_lines_at : Told → ℕ → Stand → List (List ℕ)
spent_lines_at told visits stand =
    if visits == VISITS_MAX then
    (if is_over stand then [] else at_line told (codes "spent" ∷ []) ∷ []) else []

abbrev pub made_lines : Told → Names → Before → ℕ → List ℕ → ℕ → Answered → Stand → List (List ℕ)
made_lines told names before point values after answered stand =
    made_line told names before point values after answered
    ∷ (restart_lines told before.restarts (chain_in before.length after answered)
    ++ spent_lines_at told (before.visits + 1) stand)

-- ---- the same by what a visit keeps
abbrev pub origin_of : Names → Visit → Option Origin
origin_of names visit = origin_in names visit.point (values_of visit.key.now.words) visit.answered

abbrev pub words_of_visit : Names → Visit → List (List ℕ)
words_of_visit names visit = answer_words names visit.before visit.point (values_of visit.key.now.words)
    visit.length visit.answered

abbrev pub line_of_visit : Told → Names → Visit → List ℕ
line_of_visit told names visit = made_line told names visit.before visit.point (values_of visit.key.now.words)
    visit.length visit.answered

abbrev pub lines_of_visit : Told → Names → Visit → Stand → List (List ℕ)
lines_of_visit told names visit stand = made_lines told names visit.before visit.point
    (values_of visit.key.now.words) visit.length visit.answered stand
