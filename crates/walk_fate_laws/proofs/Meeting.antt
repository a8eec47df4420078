-- The walks that a packet can have, and its ways.
use Rattle.std.proofs.Common.{◌≡◌, ◌∙◌, ℕ, List, [], ◌∷◌, Some, refl, sym, ap, subst}
use Rattle.std.proofs.Common.{arith}
use Rattle.tc_base.specs.declared.hook.Hook.{Hook}
use Rattle.frame_edit.specs.Tags.{ether_type_of}
use Rattle.filter_state.specs.States.{State}
use Rattle.walk_rules.specs.declared.limits.TheConstants.{VISITS_MAX}
use Rattle.walk_rules.specs.Questions.{Question, heads_of, Answer, told_heads}
use Rattle.walk_rules.specs.Heads.{heads_on}
use Rattle.walk_rules.specs.Steps.{Standing, begun, after}
use Rattle.walk_rules.specs.Walks.{Outcome, outcome_of}
use Rattle.walk_rules.specs.OfPoints.Points.{Visit, IsVisited, AreLawfulPoints}
use Rattle.walk_rules.proofs.Agreeing.{few_points}
use Rattle.point_walks.specs.Over.{Answering}
use Rattle.walk_fate_laws.specs.Firsts.{IsAmong}
use Rattle.walk_fate_laws.specs.Order.{AreAtMost}
use Rattle.walk_fate_laws.specs.Meeting.{IsMet}
use Rattle.walk_fate_laws.specs.Games.{IsExact}
use Rattle.walk_fate_laws.specs.Ways.{Way}
use Rattle.walk_fate_laws.specs.Walks.{answers_over, walk_game, ways_of}
use Rattle.walk_fate_laws.proofs.Searching.{way_is_walk, walk_has_way}
use Rattle.walk_fate_laws.proofs.Differing.{one_way}
use Rattle.walk_fate_laws.proofs.Pointed.{bounded_lawful, lawful_bounded}
use Rattle.walk_fate_laws.proofs.Same.{answer_exact, answer_itself}
use Rattle.walk_fate_laws.proofs.Underway.{IsUnderway, stop_behind}
use Rattle.walk_fate_laws.proofs.Lawful.{all_asked, LawfulGame, lawful_points, game_points}
use Rattle.walk_fate_laws.proofs.Asking.{IsAsking, asking_of, walk_of, game_of, of_game, no_heads, has_end}

pub game_exact : (answers : Answering) → IsExact (walk_game answers)
game_exact answers = record { same = answer_exact; itself = answer_itself }

module _ (states : ℕ → State) (before ceiling : ℕ) (hook : Hook) (bytes : List ℕ) where
  -- ---- the first visit is the head's
  record BeginsWithHead (points : List ℕ) (visits : List Visit) (told : List Answer)
      (end : Standing) : Type 0 where
    pub point : ℕ
    pub later : List ℕ
    pub rest : List Visit
    pub more : List Answer
    pub next : Standing
    pub underway : IsUnderway next
    pub visits_are : visits ≡ record { question = heads_of hook; point = point } ∷ rest
    pub asking : IsAsking (answers_over states) next later rest more end

  one_question : (o question : Question) → Some o ≡ Some question → o ≡ question
  one_question o question is = cc is

  one_answer : (a answer : Answer) → Some a ≡ Some answer → a ≡ answer
  one_answer a answer is = cc is

  behind_head : (point : ℕ) (answer : Answer) → answers_over states point (heads_of hook) ≡ Some answer
      → IsUnderway (after (begun hook bytes) answer)
  behind_head point answer is =
      let heads = heads_on hook (states point) in
      let same : told_heads heads ≡ answer = one_answer (told_heads heads) answer is in
      subst (λ (a : Answer). IsUnderway (after (begun hook bytes) a)) same
      (record { place = stop_behind 0 (ether_type_of bytes) heads; few = omega arith })

  begins : (end : Standing) (points : List ℕ) (visits : List Visit) (told : List Answer)
      → IsAsking (answers_over states) (begun hook bytes) points visits told end
      → BeginsWithHead points visits told end
  begins end [] visits told asking = absurd (cc asking.0)
  begins end (point ∷ points) visits told asking =
      let same : heads_of hook ≡ asking.0 = one_question (heads_of hook) asking.0 asking.4 in
      record {
        point = point;
        later = points;
        rest = asking.2;
        more = asking.3;
        next = after (begun hook bytes) asking.1;
        underway = behind_head point asking.1
            (subst (λ (q : Question). answers_over states point q ≡ Some asking.1) (sym same) asking.5);
        visits_are = asking.6
            ∙ ap (λ (q : Question). record { question = q; point = point } ∷ asking.2) (sym same);
        asking = asking.8;
      }

  -- ---- each way is met
  pub way_is_met : (way : Way Standing Answer)
      → IsAmong way (ways_of (answers_over states) before ceiling hook bytes)
      → (outcome : Outcome) × (outcome_of way.end ≡ Some outcome)
      × IsMet states before ceiling hook bytes way.points outcome
  way_is_met way there =
      let walk = way_is_walk (walk_game (answers_over states)) ceiling VISITS_MAX (begun hook bytes)
      (λ question. before) way there in
      let it = of_game (answers_over states) ceiling (λ question. before)
      (begun hook bytes) way.end way.points
      way.answers walk in
      let first = begins way.end way.points it.visits way.answers it.asking in
      let last = has_end (answers_over states) first.next way.end first.later first.rest first.more
      first.underway first.asking in
      let lawful = bounded_lawful (walk_game (answers_over states)) ceiling (λ question. before)
      (all_asked it.visits) it.bounded in (
        last.0,
        last.1,
        record {
          visits = it.visits;
          walks = walk_of states [] (begun hook bytes) way.end way.points it.visits way.answers last.0
              it.asking last.1;
          lawful = subst (λ (vs : List Visit). AreLawfulPoints before ceiling vs) (sym first.visits_are)
              (lawful_points (answers_over states) before ceiling hook
              (record { question = heads_of hook; point = first.point }) first.rest refl
              (subst (λ (vs : List Visit). LawfulGame (answers_over states) before ceiling vs)
              first.visits_are lawful));
        },
      )

  -- ---- each walk that is met has a way
  pub met_has_way : (points : List ℕ) (outcome : Outcome)
      → IsMet states before ceiling hook bytes points outcome
      → (way : Way Standing Answer) × IsAmong way (ways_of (answers_over states) before ceiling hook bytes)
      × (outcome_of way.end ≡ Some outcome) × AreAtMost way.points points
  met_has_way points outcome met =
      let it = asking_of states [] met.visits (begun hook bytes) points outcome met.walks in
      let first = begins it.end points it.visits it.told it.asking in
      let lawful = subst (λ (vs : List Visit). AreLawfulPoints before ceiling vs)
      (it.behind ∙ first.visits_are)
      met.lawful in
      let game = game_points (answers_over states) before ceiling
      (record { question = heads_of hook; point = first.point }) first.rest
      (no_heads (answers_over states) first.next it.end first.later first.rest first.more first.underway
      first.asking) lawful in
      let bounded = lawful_bounded (walk_game (answers_over states)) ceiling (λ question. before)
      (all_asked it.visits) (subst (λ (vs : List Visit). LawfulGame (answers_over states) before ceiling vs)
      (sym first.visits_are) game) in
      let walk = game_of (answers_over states) ceiling (λ question. before) (begun hook bytes) it.end points
      it.visits it.told it.asking bounded in
      let way = walk_has_way (walk_game (answers_over states)) ceiling (game_exact (answers_over states))
      VISITS_MAX (begun hook bytes) it.end (λ question. before) points it.told walk
      (few_points (IsVisited states) hook bytes points [] met.visits outcome met.walks) in
      (way.0, way.1, ap outcome_of way.3 ∙ it.ends, way.4)

  -- ---- no two ways have the same answers
  pub ways_are_once : (one other : Way Standing Answer)
      → IsAmong one (ways_of (answers_over states) before ceiling hook bytes)
      → IsAmong other (ways_of (answers_over states) before ceiling hook bytes) → one.answers ≡ other.answers
      → one ≡ other
  ways_are_once one other there also is =
      one_way (walk_game (answers_over states)) ceiling (game_exact (answers_over states)) VISITS_MAX
      (begun hook bytes) (λ question. before) one other there also is
