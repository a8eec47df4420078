-- Each line that a trace tells beside begins with `at ` or `decided ` and ends at its one line feed.
use Rattle.std.proofs.Common.{◌≡◌, ℕ, ◌+◌, ◌<◌, ◌==◌, Bool, true, false, List, [], ◌∷◌, ◌++◌, length, Option, Some, None, fold, refl, sym, subst, arith}
use Rattle.std.specs.Prelude.{map, codes, if◌then◌else◌}
use Rattle.std.specs.Fmt.{decimal}
use Rattle.tc_base.specs.declared.hook.Hook.{Hook}
use Rattle.frame_edit.specs.EditedFrame.{EditedFrame}
use Rattle.frame_edit.specs.Tags.{ether_type_of}
use Rattle.flow_dissect.specs.Fields.{frame_values}
use Rattle.act_kinds.specs.declared.params.Params.{Params}
use Rattle.act_kinds.specs.Acts.{acted_on, control_given}
use Rattle.line_texts.specs.Texts.{handle_text, protocol_text, ether_type_text}
use Rattle.tc_print.specs.Texts.{onto}
use Rattle.tc_print.specs.EditWords.{hook_text}
use Rattle.tc_print.specs.ActionWords.{params_words, index_words}
use Rattle.walk_rules.specs.declared.limits.TheConstants.{VISITS_MAX}
use Rattle.walk_rules.specs.Questions.{Head, Answer, told_heads, told_no_filter, told_actions, told_params}
use Rattle.walk_rules.specs.Steps.{Place, at_head, at_mask, at_action, ended, Standing, action_at, after}
use Rattle.walk_texts.specs.Texts.{joined}
use Rattle.edit_lines.specs.declared.line.Line.{Line}
use Rattle.edit_lines.specs.declared.line.Origin.{Origin}
use Rattle.filter_origins.specs.declared.brought.Brought.{Brought}
use Rattle.trace_lines.specs.declared.told.Told.{Told}
use Rattle.trace_lines.specs.Names.{Names}
use Rattle.trace_lines.specs.Steps.{Step}
use Rattle.trace_lines.specs.Fields.{words_with, whole_masks, value_words, frame_words, key_under, sought_words}
use Rattle.trace_lines.specs.Parts.{words_behind}
use Rattle.trace_lines.specs.Lines.{at_line, point_words, by_words, maker_words, origin_words, table_words, table_lines, Seen, is_seen, frame_lines, seen_after, head_words, match_origin, match_words}
use Rattle.trace_lines.specs.Lines.{finds_no_room, room_words, length_words, run_words, visit_words, restart_chain, restart_words, restart_lines, run_lines, needs_visit, spent_lines, lines_before, visit_lines, step_lines, walk_lines}
use Rattle.trace_lines.proofs.Kept.{behind}
use Rattle.journal_names.specs.Decided.{place_words, gone_words, decided_line}
use Rattle.batch_trace.specs.Untold.{is_told}
use Rattle.batch_trace.proofs.Untold.{free, Goes, AllGo, line_goes, none_goes, all_go_append, joined_go}
use Rattle.batch_trace.proofs.Free.{free_append, all_free, word_more, words_append, words_if, behind_free, decimal_free, handle_free, ether_free, protocol_free, fields_free, hook_free, number_free, params_free}

-- words behind a text that says which line it is
grown_goes : (front : List ℕ) (words : List (List ℕ)) → 0 < length front → free front ≡ true → all_free words ≡ true → is_told (front ++ words_behind words) ≡ true → Goes (fold onto front words ++ (10 ∷ []))
grown_goes front words some first rest told =
    subst (λ (line : List ℕ). Goes (line ++ (10 ∷ []))) (sym (behind front words some))
    (line_goes (front ++ words_behind words) (free_append front (words_behind words) first (behind_free words rest)) told)

at_goes : (told : Told) (words : List (List ℕ)) → all_free words ≡ true → Goes (at_line told words)
at_goes told words is = grown_goes (97 ∷ 116 ∷ 32 ∷ decimal told.packet) words (omega arith) (decimal_free told.packet) is refl

one_goes : (told : Told) (words : List (List ℕ)) → all_free words ≡ true → AllGo (at_line told words ∷ [])
one_goes told words is = (at_goes told words is, tt)

go_if : (test : Bool) (xs ys : List (List ℕ)) → AllGo xs → AllGo ys → AllGo (if test then xs else ys)
go_if true xs ys first second = first
go_if false xs ys first second = second

-- ---- words
pub point_free : (told : Bool) (point : ℕ) → all_free (point_words told point) ≡ true
point_free false point = refl
point_free true point = word_more (decimal point) [] (decimal_free point) refl

by_free : (by : Line) → all_free (by_words by) ≡ true
by_free by =
    word_more (decimal by.edit) (codes "control" ∷ decimal by.control ∷ codes "line" ∷ decimal by.line ∷ []) (decimal_free by.edit)
    (word_more (decimal by.control) (codes "line" ∷ decimal by.line ∷ []) (decimal_free by.control) (word_more (decimal by.line) [] (decimal_free by.line) refl))

maker_free : (by : Option Line) → all_free (maker_words by) ≡ true
maker_free None = refl
maker_free (Some by) = by_free by

origin_free : (origin : Option Origin) → all_free (origin_words origin) ≡ true
origin_free None = refl
origin_free (Some origin) = word_more (handle_text origin.handle) (by_words origin.by) (handle_free origin.handle) (by_free origin.by)

sought_free : (values mask : List ℕ) → all_free (sought_words values mask) ≡ true
unfolding sought_words
sought_free values mask = fields_free (key_under values mask) mask

values_free : (values : List ℕ) → all_free (value_words values) ≡ true
unfolding value_words
values_free values = fields_free (words_with values) (words_with (whole_masks values))

pub table_free : (head : Head) → all_free (table_words head) ≡ true
table_free head =
    word_more (decimal head.chain) (codes "pref" ∷ decimal head.pref ∷ codes "protocol" ∷ protocol_text head.protocol ∷ []) (decimal_free head.chain)
    (word_more (decimal head.pref) (codes "protocol" ∷ protocol_text head.protocol ∷ []) (decimal_free head.pref) (word_more (protocol_text head.protocol) [] (protocol_free head.protocol) refl))

pub frame_free : (bytes : List ℕ) → all_free (frame_words bytes) ≡ true
frame_free bytes = word_more (ether_type_text (ether_type_of bytes)) (value_words (frame_values bytes)) (ether_free (ether_type_of bytes)) (values_free (frame_values bytes))

room_free : (none : Bool) → all_free (room_words none) ≡ true
room_free false = refl
room_free true = refl

length_free : (before after : ℕ) → all_free (length_words before after) ≡ true
length_free before after = words_if (before == after) [] (codes "length" ∷ decimal after ∷ []) refl (word_more (decimal after) [] (decimal_free after) refl)

run_free : (names : Names) (point position many serial : ℕ) (given : Params) (frame : EditedFrame) → all_free (run_words names point position many serial given frame) ≡ true
run_free names point position many serial given frame =
    let maker : List (List ℕ) = maker_words (names.action point serial) in
    let size : List (List ℕ) = length_words (length frame.bytes) (length (acted_on given frame).bytes) in
    let room : List (List ℕ) = room_words (finds_no_room given frame) in
    let index : List (List ℕ) = index_words (Some (names.index serial)) in
    let rest = words_append (params_words given) (index ++ (room ++ (size ++ maker))) (params_free given)
    (words_append index (room ++ (size ++ maker)) (number_free (codes "index") (Some (names.index serial)) refl)
    (words_append room (size ++ maker) (room_free (finds_no_room given frame)) (words_append size maker (length_free (length frame.bytes) (length (acted_on given frame).bytes)) (maker_free (names.action point serial))))) in
    word_more (decimal position) (codes "of" ∷ decimal many ∷ codes "serial" ∷ decimal serial ∷ (params_words given ++ (index ++ (room ++ (size ++ maker))))) (decimal_free position)
    (word_more (decimal many) (codes "serial" ∷ decimal serial ∷ (params_words given ++ (index ++ (room ++ (size ++ maker))))) (decimal_free many)
    (word_more (decimal serial) (params_words given ++ (index ++ (room ++ (size ++ maker)))) (decimal_free serial) rest))

heads_free : (hook : Hook) (heads : List Head) → all_free (head_words hook heads) ≡ true
heads_free hook heads = word_more (hook_text hook) (codes "tables" ∷ decimal (length heads) ∷ []) (hook_free hook) (word_more (decimal (length heads)) [] (decimal_free (length heads)) refl)

match_free : (names : Names) (point mask : ℕ) (values : List ℕ) → all_free (match_words names point mask values) ≡ true
match_free names point mask values =
    words_append (sought_words values (names.words point mask)) (origin_words (match_origin names point mask values)) (sought_free values (names.words point mask)) (origin_free (match_origin names point mask values))

pub visit_free : (names : Names) (point : ℕ) (st : Standing) (place : Place) (answer : Answer) → all_free (visit_words names point st place answer) ≡ true
visit_free names point st at_head (told_heads heads) = heads_free st.hook heads
visit_free names point st (at_mask head (mask ∷ masks) tables) told_no_filter = sought_free (frame_values st.frame.bytes) (names.words point mask)
visit_free names point st (at_mask head (mask ∷ masks) tables) (told_actions actions) = match_free names point mask (frame_values st.frame.bytes)
visit_free names point st (at_action head actions position jumps tables) (told_params given) = run_free names point position (length actions) (action_at actions position) given st.frame
visit_free names point st place answer = refl

pub restart_free : (restarts chain : ℕ) → all_free (restart_words restarts chain) ≡ true
restart_free restarts chain =
    words_if (restarts == 0) (codes "spent" ∷ []) _ refl (word_more (decimal chain) (codes "left" ∷ decimal _ ∷ []) (decimal_free chain) (word_more (decimal _) [] (decimal_free _) refl))

-- ---- the lines of steps
table_go : (told : Told) (place : Place) → AllGo (table_lines told place)
table_go told (at_mask head masks tables) = go_if (length masks == length head.masks) (at_line told (table_words head) ∷ []) [] (one_goes told (table_words head) (table_free head)) tt
table_go told at_head = tt
table_go told (at_action head actions position jumps tables) = tt
table_go told (ended verdict) = tt

frame_go : (told : Told) (seen : Seen) (st : Standing) (place : Place) → AllGo (frame_lines told seen st place)
frame_go told seen st (at_mask head masks tables) = go_if (is_seen seen st.frame.bytes) [] (at_line told (frame_words st.frame.bytes) ∷ []) tt (one_goes told (frame_words st.frame.bytes) (frame_free st.frame.bytes))
frame_go told seen st at_head = tt
frame_go told seen st (at_action head actions position jumps tables) = tt
frame_go told seen st (ended verdict) = tt

restart_go : (told : Told) (restarts : ℕ) (chain : Option ℕ) → AllGo (restart_lines told restarts chain)
restart_go told restarts None = tt
restart_go told restarts (Some chain) = one_goes told (restart_words restarts chain) (restart_free restarts chain)

run_go : (told : Told) (st : Standing) (place : Place) (answer : Answer) → AllGo (run_lines told st place answer)
run_go told st (at_action head actions position jumps tables) (told_params given) = restart_go told st.restarts (restart_chain (control_given given st.frame))
run_go told st place answer = tt

spent_go : (told : Told) (st : Standing) → AllGo (spent_lines told st)
spent_go told st =
    go_if (st.visits == VISITS_MAX) (if needs_visit st.place then at_line told (codes "spent" ∷ []) ∷ [] else []) []
    (go_if (needs_visit st.place) (at_line told (codes "spent" ∷ []) ∷ []) [] (one_goes told (codes "spent" ∷ []) refl) tt) tt

visits_go : (told : Told) (names : Names) (step : Step) → AllGo (visit_lines told names step)
visits_go told names step =
    let words : List (List ℕ) = visit_words names step.point step.before step.before.place step.answer ++ point_words told.points step.point in (
      at_goes told (codes "visit" ∷ decimal (step.before.visits + 1) ∷ words)
          (word_more (decimal (step.before.visits + 1)) words (decimal_free (step.before.visits + 1))
          (words_append (visit_words names step.point step.before step.before.place step.answer) (point_words told.points step.point) (visit_free names step.point step.before step.before.place step.answer) (point_free told.points step.point))),
      all_go_append (run_lines told step.before step.before.place step.answer) (spent_lines told (after step.before step.answer)) (run_go told step.before step.before.place step.answer) (spent_go told (after step.before step.answer)),
    )

step_go : (told : Told) (names : Names) (seen : Seen) (step : Step) → AllGo (step_lines told names seen step)
step_go told names seen step =
    all_go_append (lines_before told seen step.before) (visit_lines told names step)
    (all_go_append (table_lines told step.before.place) (frame_lines told seen step.before step.before.place) (table_go told step.before.place) (frame_go told seen step.before step.before.place)) (visits_go told names step)

walk_go : (told : Told) (names : Names) (seen : Seen) (steps : List Step) → AllGo (walk_lines told names seen steps)
unfolding walk_lines
walk_go told names seen [] = tt
walk_go told names seen (step ∷ steps) =
    all_go_append (step_lines told names seen step) (walk_lines told names (seen_after seen step.before step.before.place) steps) (step_go told names seen step)
    (walk_go told names (seen_after seen step.before step.before.place) steps)

-- WHAT IS TOLD OF A WALK goes
pub walk_goes : (told : Told) (names : Names) (seen : Seen) (steps : List Step) → Goes (joined (walk_lines told names seen steps))
walk_goes told names seen steps = joined_go (walk_lines told names seen steps) (walk_go told names seen steps)

-- ---- how often a filter decided
gone_free : (edit : Option ℕ) → all_free (gone_words edit) ≡ true
gone_free None = refl
gone_free (Some edit) = word_more (decimal edit) [] (decimal_free edit) refl

stood_free : (brought : Brought) → all_free (place_words brought) ≡ true
stood_free brought =
    word_more (hook_text brought.hook) (codes "chain" ∷ decimal brought.chain ∷ codes "pref" ∷ decimal brought.pref ∷ codes "protocol" ∷ protocol_text brought.protocol ∷ codes "handle" ∷ handle_text brought.handle ∷ []) (hook_free brought.hook)
    (word_more (decimal brought.chain) (codes "pref" ∷ decimal brought.pref ∷ codes "protocol" ∷ protocol_text brought.protocol ∷ codes "handle" ∷ handle_text brought.handle ∷ []) (decimal_free brought.chain)
    (word_more (decimal brought.pref) (codes "protocol" ∷ protocol_text brought.protocol ∷ codes "handle" ∷ handle_text brought.handle ∷ []) (decimal_free brought.pref)
    (word_more (protocol_text brought.protocol) (codes "handle" ∷ handle_text brought.handle ∷ []) (protocol_free brought.protocol) (word_more (handle_text brought.handle) [] (handle_free brought.handle) refl))))

pub decided_goes : (times : ℕ) (brought : Brought) → Goes (decided_line times brought)
decided_goes times brought =
    grown_goes (codes "decided " ++ decimal times) ((by_words brought.by ++ place_words brought) ++ gone_words brought.gone) (omega arith) (free_append (codes "decided ") (decimal times) refl (decimal_free times))
    (words_append (by_words brought.by ++ place_words brought) (gone_words brought.gone) (words_append (by_words brought.by) (place_words brought) (by_free brought.by) (stood_free brought)) (gone_free brought.gone)) refl

-- of all these filters
pub counts_go : (times : ℕ → ℕ) (brought : List Brought) → Goes (joined (map (λ (filter : Brought). decided_line (times filter.by.edit) filter) brought))
counts_go times [] = none_goes
counts_go times (b ∷ brought) = joined_go (decided_line (times b.by.edit) b ∷ map (λ (filter : Brought). decided_line (times filter.by.edit) filter) brought) (each (b ∷ brought))
  where
    each : (some : List Brought) → AllGo (map (λ (filter : Brought). decided_line (times filter.by.edit) filter) some)
    each [] = tt
    each (one ∷ some) = (decided_goes (times one.by.edit) one, each some)
