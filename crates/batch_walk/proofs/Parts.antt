-- The parts of a walk's text, put together.
use Rattle.std.proofs.Common.{◌≡◌, ◌∙◌, ℕ, zero, suc, ◌+◌, ◌≤◌, List, ◌++◌, length, Option, refl, sym, ap, subst}
use Rattle.std.specs.Prelude.{map, is_some}
use Rattle.std.specs.List.{All}
use Rattle.tc_base.specs.declared.hook.Hook.{Hook}
use Rattle.tc_base.specs.Pieces.{joined as joined_pieces}
use Rattle.pcap_io.specs.declared.capture.Capture.{Capture}
use Rattle.pcap_io.specs.Written.{capture_bytes}
use Rattle.walk_rules.specs.Steps.{Execution}
use Rattle.walk_rules.specs.Walks.{Outcome}
use Rattle.batch_run.specs.declared.made_action.MadeAction.{MadeAction}
use Rattle.batch_run.specs.declared.stop.Stop.{Stop}
use Rattle.batch_run.specs.Runs.{Ran}
use Rattle.tc_report.specs.OfShownBatches.Shown.{stop_shown}
use Rattle.walk_ends.specs.declared.counts.Count.{Count}
use Rattle.capture_walk.specs.declared.ends.PacketEnd.{PacketEnd}
use Rattle.capture_walk.specs.Captures.{outcomes_of, end_of, output_of, counts_from, counts_of, executed_in}
use Rattle.batch_walk.specs.declared.walk.WalkText.{WalkText}
use Rattle.batch_walk.specs.declared.walk.BatchWalk.{BatchWalk}
use Rattle.walk_texts.specs.Texts.{joined}
use Rattle.batch_walk.specs.Texts.{packet_lines, closing_lines, HasCount}
use Rattle.batch_walk.specs.Walked.{summary_of, closing_after, text_after, walk_text, closing_text, told_text, IsWalked}

counts_from-length : (serial actions : ℕ) (executed : List Execution) → length (counts_from serial actions executed) ≡ actions
counts_from-length serial zero executed = refl
counts_from-length serial (suc more) executed = ap suc (counts_from-length (serial + 1) more executed)

-- each action that was made has a count
pub have_counts : (actions : ℕ) (executed : List Execution) (counts : List Count) (made told : List MadeAction) → counts ≡ counts_of actions executed → told ≡ made
    → All (λ (action : MadeAction). (1 ≤ action.serial) × (action.serial ≤ actions)) made → All (HasCount (length counts)) told
have_counts actions executed counts made told are same all =
    let many : length counts ≡ actions = ap length are ∙ counts_from-length 1 actions executed in
    subst (λ (n : ℕ). All (HasCount n) told) (sym many) (subst (λ (actions_told : List MadeAction). All (HasCount actions) actions_told) (sym same) all)

-- the closing lines, as they were told of a run, are those of its outcome
pub closing_told : (ran : Ran) (outcomes : List Outcome) (closing : List ℕ) (accepted : ℕ) (made : List MadeAction) (stop : Option Stop) (ends : List PacketEnd) (counts : List Count)
    → accepted ≡ ran.accepted → made ≡ ran.made → stop ≡ ran.stop → ends ≡ map end_of outcomes → counts ≡ counts_of ran.state.actions_made (executed_in outcomes)
    → closing ≡ joined (closing_lines made counts (summary_of accepted (is_some stop) ends)) → closing ≡ closing_after ran outcomes
closing_told ran outcomes closing accepted made stop ends counts e m s n k back =
    back ∙ ap (λ (x : List MadeAction). joined (closing_lines x counts (summary_of accepted (is_some stop) ends))) m
    ∙ ap (λ (x : List Count). joined (closing_lines ran.made x (summary_of accepted (is_some stop) ends))) k
    ∙ ap (λ (x : ℕ). joined (closing_lines ran.made (counts_of ran.state.actions_made (executed_in outcomes)) (summary_of x (is_some stop) ends))) e
    ∙ ap (λ (x : Option Stop). joined (closing_lines ran.made (counts_of ran.state.actions_made (executed_in outcomes)) (summary_of ran.accepted (is_some x) ends))) s
    ∙ ap (λ (x : List PacketEnd). joined (closing_lines ran.made (counts_of ran.state.actions_made (executed_in outcomes)) (summary_of ran.accepted (is_some ran.stop) x))) n

-- the parts of the text, as they were told of a run, are those of its outcome
pub whole_text : (ran : Ran) (outcomes : List Outcome) (text : WalkText) (accepted : ℕ) (stop : Option Stop) (ends : List PacketEnd)
    → accepted ≡ ran.accepted → stop ≡ ran.stop → ends ≡ map end_of outcomes
    → text.stop.items ≡ stop_shown accepted stop → text.ends ≡ ends → text.closing.items ≡ closing_after ran outcomes
    → told_text text ≡ text_after ran outcomes
whole_text ran outcomes text accepted stop ends e s n front middle back =
    let first : text.stop.items ≡ stop_shown ran.accepted ran.stop = front ∙ ap (λ (a : ℕ). stop_shown a stop) e ∙ ap (stop_shown ran.accepted) s in
    let second : text.ends ≡ map end_of outcomes = middle ∙ n in
    ap (λ (x : List ℕ). x ++ joined (packet_lines 1 text.ends) ++ text.closing.items) first
    ∙ ap (λ (x : List PacketEnd). stop_shown ran.accepted ran.stop ++ joined (packet_lines 1 x) ++ text.closing.items) second
    ∙ ap (λ (x : List ℕ). stop_shown ran.accepted ran.stop ++ joined (packet_lines 1 (map end_of outcomes)) ++ x) back

-- what a walk tells of a run is what the batch gives
pub is_walked : (ran : Ran) (hook : Hook) (capture : Capture) (walk : BatchWalk) → joined_pieces walk.output.pieces ≡ capture_bytes (output_of ran.state hook capture)
    → walk.text.stop.items ≡ stop_shown ran.accepted ran.stop → walk.text.ends ≡ map end_of (outcomes_of ran.state hook capture.packets)
    → told_text walk.text ≡ text_after ran (outcomes_of ran.state hook capture.packets) → walk.text.closing.items ≡ closing_after ran (outcomes_of ran.state hook capture.packets)
    → walk.refused ≡ is_some ran.stop → IsWalked ran hook capture walk
unfolding walk_text closing_text
is_walked ran hook capture walk output stop ends text closing refused = record { output = output; stop = stop; ends = ends; text = text; closing = closing; refused = refused }
