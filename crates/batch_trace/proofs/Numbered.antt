-- The lines of a trace depend on the packet's number only by the words that they begin with.
use Rattle.std.proofs.Common.{◌≡◌, ◌∙◌, ℕ, ◌+◌, ◌<◌, ◌==◌, Bool, true, false, List, [], ◌∷◌, ◌++◌, length, Option, Some, None, refl, sym, ap, ap₂, append_assoc, arith}
use Rattle.std.specs.Prelude.{codes, if◌then◌else◌, Result, Ok, Err, OnOk}
use Rattle.std.specs.Fmt.{decimal}
use Rattle.tc_base.specs.declared.hook.Hook.{Hook}
use Rattle.act_kinds.specs.Acts.{control_given}
use Rattle.walk_rules.specs.declared.limits.TheConstants.{VISITS_MAX}
use Rattle.walk_rules.specs.Questions.{Answer, told_params}
use Rattle.walk_rules.specs.Steps.{Place, at_head, at_mask, at_action, ended, Standing, after}
use Rattle.walk_texts.specs.Texts.{joined, counted}
use Rattle.filter_origins.specs.Entries.{Entry}
use Rattle.trace_lines.specs.declared.told.Told.{Told}
use Rattle.trace_lines.specs.Names.{Names}
use Rattle.trace_lines.specs.Steps.{Step}
use Rattle.trace_lines.specs.Fields.{frame_words}
use Rattle.trace_lines.specs.Parts.{words_behind}
use Rattle.trace_lines.specs.Lines.{at_line, table_words, table_lines, Seen, is_seen, frame_lines, seen_after, visit_words, point_words, restart_chain, restart_words, restart_lines, run_lines, needs_visit, spent_lines}
use Rattle.trace_lines.specs.Lines.{lines_before, visit_lines, step_lines, walk_lines}
use Rattle.trace_lines.proofs.Kept.{behind}
use Rattle.journal_names.specs.Known.{names_of}
use Rattle.batch_trace.specs.Traced.{steps_in, met_text}
use Rattle.batch_trace.specs.Kept.{at_number, behind_head, AreEnds, IsToldOf}
use Rattle.batch_trace.proofs.Free.{all_free, word_more, words_append, behind_free, decimal_free}
use Rattle.batch_trace.proofs.ToldLines.{point_free, table_free, frame_free, visit_free, restart_free}

abbrev of_packet : ℕ → Told
of_packet number = record { packet = number; points = false }

-- ---- texts by a number, that are ends of lines behind it
record Numbered (text : ℕ → List ℕ) : Type 0 where
  ends : List (List ℕ)
  are : AreEnds ends
  is : (number : ℕ) → text number ≡ behind_head (at_number number) ends

ends_append : (xs ys : List (List ℕ)) → AreEnds xs → AreEnds ys → AreEnds (xs ++ ys)
ends_append [] ys first second = second
ends_append (x ∷ xs) ys first second = (first.0, ends_append xs ys first.1 second)

head_append : (head : List ℕ) (xs ys : List (List ℕ)) → behind_head head (xs ++ ys) ≡ behind_head head xs ++ behind_head head ys
head_append head [] ys = refl
head_append head (x ∷ xs) ys = ap (λ (t : List ℕ). (head ++ x) ++ t) (head_append head xs ys) ∙ sym (append_assoc (head ++ x) (behind_head head xs) (behind_head head ys))

joined_append : (xs ys : List (List ℕ)) → joined (xs ++ ys) ≡ joined xs ++ joined ys
joined_append [] ys = refl
joined_append (x ∷ xs) ys = ap (λ (t : List ℕ). x ++ t) (joined_append xs ys) ∙ sym (append_assoc x (joined xs) (joined ys))

abbrev AreNumbered : (ℕ → List (List ℕ)) → Type 0
AreNumbered lines = Numbered (λ number. joined (lines number))

none_numbered : AreNumbered (λ number. [])
none_numbered = record { ends = []; are = tt; is = λ number. refl }

both_numbered : (xs ys : ℕ → List (List ℕ)) → AreNumbered xs → AreNumbered ys → AreNumbered (λ number. xs number ++ ys number)
both_numbered xs ys first second = record {
  ends = first.ends ++ second.ends;
  are = ends_append first.ends second.ends first.are second.are;
  is = λ number. joined_append (xs number) (ys number) ∙ ap₂ (λ (a b : List ℕ). a ++ b) (first.is number) (second.is number)
      ∙ sym (head_append (at_number number) first.ends second.ends);
}

if_numbered : (test : Bool) (xs ys : ℕ → List (List ℕ)) → AreNumbered xs → AreNumbered ys → AreNumbered (λ number. if test then xs number else ys number)
if_numbered true xs ys first second = first
if_numbered false xs ys first second = second

-- ---- a line
line_placed : (number : ℕ) (words : List (List ℕ)) → at_line (of_packet number) words ++ [] ≡ (at_number number ++ (words_behind words ++ (10 ∷ []))) ++ []
unfolding counted
line_placed number words =
    let front : List ℕ = 97 ∷ 116 ∷ 32 ∷ decimal number in
    let some : 0 < length front = omega arith in
    ap (λ (t : List ℕ). (t ++ (10 ∷ [])) ++ []) (behind front words some) ∙ ap (λ (t : List ℕ). t ++ []) (append_assoc front (words_behind words) (10 ∷ []))

one_numbered : (words : List (List ℕ)) → all_free words ≡ true → AreNumbered (λ number. at_line (of_packet number) words ∷ [])
one_numbered words is = record {
  ends = (words_behind words ++ (10 ∷ [])) ∷ [];
  are = ((words_behind words, behind_free words is, refl), tt);
  is = λ number. line_placed number words;
}

-- ---- the lines of steps
table_numbered : (place : Place) → AreNumbered (λ number. table_lines (of_packet number) place)
table_numbered (at_mask head masks tables) =
    if_numbered (length masks == length head.masks) (λ number. at_line (of_packet number) (table_words head) ∷ []) (λ number. []) (one_numbered (table_words head) (table_free head)) none_numbered
table_numbered at_head = none_numbered
table_numbered (at_action head actions position jumps tables) = none_numbered
table_numbered (ended verdict) = none_numbered

frame_numbered : (seen : Seen) (st : Standing) (place : Place) → AreNumbered (λ number. frame_lines (of_packet number) seen st place)
frame_numbered seen st (at_mask head masks tables) =
    if_numbered (is_seen seen st.frame.bytes) (λ number. []) (λ number. at_line (of_packet number) (frame_words st.frame.bytes) ∷ []) none_numbered (one_numbered (frame_words st.frame.bytes) (frame_free st.frame.bytes))
frame_numbered seen st at_head = none_numbered
frame_numbered seen st (at_action head actions position jumps tables) = none_numbered
frame_numbered seen st (ended verdict) = none_numbered

restart_numbered : (restarts : ℕ) (chain : Option ℕ) → AreNumbered (λ number. restart_lines (of_packet number) restarts chain)
restart_numbered restarts None = none_numbered
restart_numbered restarts (Some chain) = one_numbered (restart_words restarts chain) (restart_free restarts chain)

run_numbered : (st : Standing) (place : Place) (answer : Answer) → AreNumbered (λ number. run_lines (of_packet number) st place answer)
run_numbered st (at_action head actions position jumps tables) (told_params given) = restart_numbered st.restarts (restart_chain (control_given given st.frame))
run_numbered st place answer = none_numbered

spent_numbered : (st : Standing) → AreNumbered (λ number. spent_lines (of_packet number) st)
spent_numbered st =
    if_numbered (st.visits == VISITS_MAX) (λ number. if needs_visit st.place then at_line (of_packet number) (codes "spent" ∷ []) ∷ [] else []) (λ number. [])
    (if_numbered (needs_visit st.place) (λ number. at_line (of_packet number) (codes "spent" ∷ []) ∷ []) (λ number. []) (one_numbered (codes "spent" ∷ []) refl) none_numbered) none_numbered

visit_numbered : (names : Names) (step : Step) → AreNumbered (λ number. visit_lines (of_packet number) names step)
visit_numbered names step =
    let words : List (List ℕ) = visit_words names step.point step.before step.before.place step.answer ++ point_words false step.point in
    let all : List (List ℕ) = codes "visit" ∷ decimal (step.before.visits + 1) ∷ words in
    both_numbered (λ number. at_line (of_packet number) all ∷ []) (λ number. run_lines (of_packet number) step.before step.before.place step.answer ++ spent_lines (of_packet number) (after step.before step.answer))
    (one_numbered all
    (word_more (decimal (step.before.visits + 1)) words (decimal_free (step.before.visits + 1))
    (words_append (visit_words names step.point step.before step.before.place step.answer) (point_words false step.point) (visit_free names step.point step.before step.before.place step.answer) (point_free false step.point))))
    (both_numbered (λ number. run_lines (of_packet number) step.before step.before.place step.answer) (λ number. spent_lines (of_packet number) (after step.before step.answer))
    (run_numbered step.before step.before.place step.answer) (spent_numbered (after step.before step.answer)))

step_numbered : (names : Names) (seen : Seen) (step : Step) → AreNumbered (λ number. step_lines (of_packet number) names seen step)
step_numbered names seen step =
    both_numbered (λ number. lines_before (of_packet number) seen step.before) (λ number. visit_lines (of_packet number) names step)
    (both_numbered (λ number. table_lines (of_packet number) step.before.place) (λ number. frame_lines (of_packet number) seen step.before step.before.place) (table_numbered step.before.place) (frame_numbered seen step.before step.before.place))
    (visit_numbered names step)

walk_numbered : (names : Names) (seen : Seen) (steps : List Step) → AreNumbered (λ number. walk_lines (of_packet number) names seen steps)
unfolding walk_lines
walk_numbered names seen [] = none_numbered
walk_numbered names seen (step ∷ steps) =
    both_numbered (λ number. step_lines (of_packet number) names seen step) (λ number. walk_lines (of_packet number) names (seen_after seen step.before step.before.place) steps)
    (step_numbered names seen step) (walk_numbered names (seen_after seen step.before step.before.place) steps)

-- WHAT IS TOLD OF A FRAME, by the number of the packet that has it
pub record IsByNumber (entries : List Entry) (hook : Hook) (frame : List ℕ) : Type 0 where
  pub ends : List (List ℕ)
  pub are : AreEnds ends
  pub is : (number : ℕ) → met_text entries hook number frame ≡ behind_head (at_number number) ends

pub by_number : (entries : List Entry) (hook : Hook) (frame : List ℕ) → IsByNumber entries hook frame
by_number entries hook frame =
    let it = walk_numbered (names_of entries) None (steps_in entries hook frame) in
    record { ends = it.ends; are = it.are; is = it.is }

-- told again: by its lines numbered 0, behind another head
pub told_again : (entries : List Entry) (hook : Hook) (frame lines decided : List ℕ) (number : ℕ) (head text new : List ℕ)
    → IsToldOf entries hook frame lines decided → head ≡ at_number number
    → ((ends : List (List ℕ)) → AreEnds ends → lines ≡ behind_head (at_number 0) ends → new ≡ text ++ behind_head head ends)
    → new ≡ text ++ met_text entries hook number frame
told_again entries hook frame lines decided number head text new told is put =
    let by = by_number entries hook frame in
    put by.ends by.are (told.lines_are ∙ by.is 0) ∙ ap (λ (h : List ℕ). text ++ behind_head h by.ends) is
    ∙ ap (λ (t : List ℕ). text ++ t) (sym (by.is number))

pub on_ok : {T E P : Type 0} (result : Result T E) → P → OnOk result P
on_ok (Ok done) it = it
on_ok (Err refused) it = tt
