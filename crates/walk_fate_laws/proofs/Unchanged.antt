-- Where all points have one state, a packet can have the fate of its plain walk alone.
use Rattle.std.proofs.Common.{◌≡◌, ◌∙◌, ℕ, suc, ◌≤◌, List, [], ◌∷◌, slice_get, Some, refl, sym, ap, subst}
use Rattle.std.proofs.Common.{arith}
use Rattle.tc_base.specs.declared.hook.Hook.{Hook}
use Rattle.filter_state.specs.States.{State}
use Rattle.filter_state.specs.Sound.{Sound}
use Rattle.walk_rules.specs.Questions.{Answer}
use Rattle.walk_rules.specs.Answers.{answer_of}
use Rattle.walk_rules.specs.Steps.{Standing, begun, after}
use Rattle.walk_rules.specs.Walks.{Outcome, IsWalk, AnsweredBy, outcome_of}
use Rattle.walk_rules.specs.OfPoints.Points.{Visit, AreLawfulPoints}
use Rattle.walk_rules.specs.Plain.{plain_walk}
use Rattle.walk_rules.proofs.Stilled.{walk_is_plain}
use Rattle.walk_fate_laws.specs.Fates.{Fate, fate_of}
use Rattle.walk_fate_laws.specs.Meeting.{CanHave}
use Rattle.walk_fate_laws.specs.Walks.{answers_over}
use Rattle.walk_fate_laws.proofs.Asking.{IsAsking, asking_of}

up : (a b c : ℕ) → a ≤ b → b ≤ c → a ≤ c
up a b c one two = omega (arith, one, two)

-- the head's point is no lower than the floor, and none is lower than that
at_least : (floor ceiling : ℕ) (visits : List Visit) → AreLawfulPoints floor ceiling visits → (place : ℕ)
    (visit : Visit) → slice_get visits place ≡ Some visit → floor ≤ visit.point
at_least floor ceiling [] lawful place visit is = absurd (cc is)
at_least floor ceiling (first ∷ visits) lawful place visit is =
    up floor first.point visit.point (lawful.head first refl) (lawful.above_head place first visit refl is)

module _ (states : ℕ → State) (s : State) where
  answered_by : (st end : Standing) (points : List ℕ) (visits : List Visit) (told : List Answer)
      (outcome : Outcome) → IsAsking (answers_over states) st points visits told end
      → ((place : ℕ) (visit : Visit) → slice_get visits place ≡ Some visit → states visit.point ≡ s)
      → outcome_of end ≡ Some outcome → IsWalk (AnsweredBy (λ point. s)) tt st points tt outcome
  answered_by st end [] visits told outcome asking same ends = (refl, ap outcome_of (sym asking.3) ∙ ends)
  answered_by st end (point ∷ points) visits told outcome asking same ends =
      let here : states point ≡ s = same 0 (record { question = asking.0; point = point })
      (ap (λ (vs : List Visit). slice_get vs 0) asking.6) in (
        asking.0,
        asking.1,
        tt,
        asking.4,
        subst (λ (t : State). answer_of t asking.0 ≡ Some asking.1) here asking.5,
        answered_by (after st asking.1) end points asking.2 asking.3 outcome asking.8
            (λ place visit is. same (suc place) visit
            (ap (λ (vs : List Visit). slice_get vs (suc place)) asking.6 ∙ is)) ends,
      )

  pub plain_alone : (before ceiling : ℕ) (hook : Hook) (bytes : List ℕ) (fate : Fate)
      → ((point : ℕ) → before ≤ point → point ≤ ceiling → states point ≡ s) → Sound s
      → CanHave states before ceiling hook bytes fate → fate ≡ fate_of (plain_walk s hook bytes)
  plain_alone before ceiling hook bytes fate one sound can =
      let met = can.met in
      let it = asking_of states [] met.visits (begun hook bytes) can.points can.outcome met.walks in
      let within : (place : ℕ) (visit : Visit) → slice_get it.visits place ≡ Some visit
      → states visit.point ≡ s = λ place visit is.
      let there : slice_get met.visits place ≡ Some visit =
      ap (λ (vs : List Visit). slice_get vs place) it.behind ∙ is in
      one visit.point (at_least before ceiling met.visits met.lawful place visit there)
      (met.lawful.below place visit there) in
      let walk = answered_by (begun hook bytes) it.end can.points it.visits it.told can.outcome it.asking
      within it.ends in
      sym can.has ∙ ap fate_of (walk_is_plain s sound (AnsweredBy (λ point. s)) (λ v. Unit {0})
      (λ earlier now question answer point holds told. (told, tt)) hook bytes can.points tt tt can.outcome
      tt walk)
