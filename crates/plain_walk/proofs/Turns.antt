-- A list of actions that runs, one action a turn.
use Rattle.std.proofs.Common.{◌≡◌, ◌∙◌, ℕ, zero, suc, ◌+◌, List, length, get_or, Some, sym, ap, arith}
use Rattle.act_kinds.specs.declared.params.Control.{Control}
use Rattle.act_kinds.specs.declared.params.Params.{Params}
use Rattle.act_kinds.specs.Acts.{control_given}
use Rattle.act_list.specs.Run.{Run, Stand, stand_after}
use Rattle.act_list.specs.Run as runs
use Rattle.filter_state.specs.States.{Action, State}
use Rattle.filter_state.specs.Actions.{has_serial}
use Rattle.filter_state.specs.Tables.{first_where}
use Rattle.walk_rules.specs.Plain.{Carried, carried_on, ListEnd, list_on, run_action, run_list}
use Rattle.plain_walk.specs.declared.course.Course.{Course}
use Rattle.plain_walk.specs.Courses.{frame_from, carried_from}
use Rattle.plain_walk.specs.Runs.{HasRun}

-- where the list goes on after an action, with what is carried then
abbrev pub list_after : State → List ℕ → ℕ → Carried → Stand → ListEnd
list_after s actions left carried stand = list_on (λ position jumps. run_list s actions left carried position jumps) left carried stand

one_turn : (s : State) (actions : List ℕ) (left after position jumps : ℕ) (carried : Carried) (action : Action) → after + 1 ≡ left →
    first_where (has_serial (get_or actions position 0)) s.actions ≡ Some action →
    run_list s actions left carried position jumps
    ≡ list_after s actions after (carried_on carried (get_or actions position 0) action.params) (stand_after (length actions) position jumps (control_given action.params carried.frame))
one_turn s actions zero after position jumps carried action is live = absurd (omega (arith, is))
one_turn s actions (suc left) after position jumps carried action is live =
    let same : left ≡ after = omega (arith, is) in
    let then : Carried = carried_on carried (get_or actions position 0) action.params in
    ap (run_action (λ carried' position' jumps'. run_list s actions left carried' position' jumps') actions left position jumps carried) live
    ∙ ap (λ n. list_after s actions n then (stand_after (length actions) position jumps (control_given action.params carried.frame))) same

-- an action ran, and the run of the list came to stand there
pub ran_to : (s : State) (actions came : List ℕ) (old new : Course) (run : Run) (serial : ℕ) (control : Control) (stand : Stand) → new.left + 1 ≡ old.left →
    serial ≡ get_or actions run.at 0 → HasRun s serial came old new control → run.length ≡ length actions → runs.after run control ≡ stand →
    run_list s actions old.left (carried_from came old) run.at run.jumps ≡ list_after s actions new.left (carried_from came new) stand
ran_to s actions came old new run serial control stand counted is ran whole stands =
    let action : Action = ran.action in
    let params : Params = action.params in
    let live : first_where (has_serial (get_or actions run.at 0)) s.actions ≡ Some action = ap (λ n. first_where (has_serial n) s.actions) (sym is) ∙ ran.live in
    let carries : carried_on (carried_from came old) (get_or actions run.at 0) params ≡ carried_from came new =
    ap (λ n. carried_on (carried_from came old) n params) (sym is) ∙ sym ran.carried in
    let there : stand_after (length actions) run.at run.jumps (control_given params (frame_from came old)) ≡ stand =
    ap (λ n. stand_after n run.at run.jumps (control_given params (frame_from came old))) (sym whole) ∙ ap (runs.after run) (sym ran.gave) ∙ stands in
    one_turn s actions old.left new.left run.at run.jumps (carried_from came old) action counted live
    ∙ ap (λ c. list_after s actions new.left c (stand_after (length actions) run.at run.jumps (control_given params (frame_from came old)))) carries
    ∙ ap (list_after s actions new.left (carried_from came new)) there
