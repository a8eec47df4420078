-- A walk that one sound state answers is the plain walk of that state.
use Rattle.std.proofs.Common.{◌≡◌, ℕ, List, [], Some, refl}
use Rattle.tc_base.specs.declared.hook.Hook.{Hook}
use Rattle.frame_edit.specs.EditedFrame.{loaded_frame}
use Rattle.filter_state.specs.States.{State}
use Rattle.filter_state.specs.Sound.{Sound, Each, IsRow}
use Rattle.filter_state.proofs.Pairs.{each_weaker}
use Rattle.walk_rules.specs.Questions.{Question, heads_of, Answer, told_heads}
use Rattle.walk_rules.specs.Heads.{heads_on}
use Rattle.walk_rules.specs.Answers.{answer_of}
use Rattle.walk_rules.specs.Steps.{begun}
use Rattle.walk_rules.specs.Walks.{Outcome, IsWalk}
use Rattle.walk_rules.specs.Plain.{plain_walk}
use Rattle.walk_rules.proofs.Agreeing.{any_points, outcomes_agree, answered_over}
use Rattle.walk_rules.proofs.Leading.{Leads, one_visit}
use Rattle.walk_rules.proofs.Tables.{AreLive, chain_leads}
use Rattle.walk_rules.proofs.KeptHeads.{heads_kept}

-- there is a walk to the plain outcome: the head takes the first visit
pub leads_to_plain : (s : State) → Sound s → (hook : Hook) (bytes : List ℕ) → Leads s (begun hook bytes) (plain_walk s hook bytes)
unfolding plain_walk
leads_to_plain s sound hook bytes =
    let live : Each (AreLive s) s.rows = each_weaker (IsRow s) (AreLive s) (λ row is. is.live) s.rows sound.rows in
    one_visit s (begun hook bytes) (heads_of hook) (told_heads (heads_on hook s)) (plain_walk s hook bytes) refl refl
    (chain_leads s live hook (heads_on hook s) (heads_kept hook s sound) 16 0 65535 1 (record { frame = loaded_frame bytes; executed = [] }) refl)

-- WHOEVER ANSWERS A WALK as one sound state does, whatever else it keeps meanwhile, takes it to the plain
-- outcome
pub walk_is_plain : {V : Type 0} (s : State) → Sound s → (told : V → Question → Answer → ℕ → V → Type 0) (Holds : V → Type 0) →
    ((before now : V) (question : Question) (answer : Answer) (point : ℕ) → Holds before → told before question answer point now → (answer_of s question ≡ Some answer) × Holds now) →
    (hook : Hook) (bytes points : List ℕ) (before now : V) (outcome : Outcome) → Holds before → IsWalk told before (begun hook bytes) points now outcome → outcome ≡ plain_walk s hook bytes
walk_is_plain s sound told Holds answers hook bytes points before now outcome holds walk =
    let plain = leads_to_plain s sound hook bytes in
    outcomes_agree (λ point. s) (λ point. s) points plain.0 (begun hook bytes) outcome (plain_walk s hook bytes) (any_points (λ p q. s ≡ s) (λ p q. refl) points plain.0)
    (answered_over (λ point. s) told Holds answers points before now (begun hook bytes) outcome holds walk) plain.1
