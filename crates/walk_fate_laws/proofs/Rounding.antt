-- One packet's walk among those of a worker.
use Rattle.std.proofs.Common.{◌≡◌, ◌∙◌, ℕ, zero, suc, ◌≤◌, List, [], ◌∷◌, map, slice_get, Some, refl, sym, ap}
use Rattle.std.proofs.Common.{subst, arith}
use Rattle.std.specs.Prelude.{max, fold}
use Rattle.tc_base.specs.declared.hook.Hook.{Hook}
use Rattle.filter_state.specs.States.{State}
use Rattle.filter_state.specs.Sound.{Sound}
use Rattle.walk_rules.specs.Questions.{Answer}
use Rattle.walk_rules.specs.Steps.{Standing, begun, after}
use Rattle.walk_rules.specs.Walks.{Outcome, IsWalk, AnsweredBy, outcome_of}
use Rattle.walk_rules.specs.OfPoints.Points.{Visit, AreLawfulPoints}
use Rattle.walk_rules.specs.Plain.{plain_walk}
use Rattle.walk_rules.proofs.Stilled.{leads_to_plain}
use Rattle.walk_fate_laws.specs.Fates.{fate_of}
use Rattle.walk_fate_laws.specs.Meeting.{IsMet, CanHave}
use Rattle.walk_fate_laws.specs.Walks.{answers_over}
use Rattle.walk_fate_laws.specs.Rounds.{Walked, greatest, AreMet}
use Rattle.walk_fate_laws.proofs.Asking.{IsAsking, asks_no_more, asking_of, walk_of}

up : (a b c : ℕ) → a ≤ b → b ≤ c → a ≤ c
up a b c one two = omega (arith, one, two)

both_less : (a b c : ℕ) → a ≤ c → b ≤ c → max a b ≤ c
both_less a b c one two = omega (arith, one, two)

itself_most : (n : ℕ) → n ≡ max n n
itself_most n = omega arith

no_more : (n m : ℕ) → m ≡ n → n ≡ max n m
no_more n m is = omega (arith, is)

equal_less : (n m : ℕ) → n ≡ m → n ≤ m
equal_less n m is = omega (arith, is)

zero_or : (n : ℕ) → max 0 n ≡ n
zero_or n = omega arith

fold_same : {X : Type 0} (xs : List X) (from point : ℕ) → from ≡ point
    → fold max from (map (λ (x : X). point) xs) ≡ point
fold_same [] from point is = is
fold_same {X = X} (x ∷ xs) from point is =
    let next : max from point ≡ point = omega (arith, is) in fold_same xs (max from point) point next

module _ (states : ℕ → State) (ceiling : ℕ) (hook : Hook) where
  -- ---- a lower floor leaves a walk
  pub lower : (floor less : ℕ) (bytes points : List ℕ) (outcome : Outcome) → less ≤ floor
      → IsMet states floor ceiling hook bytes points outcome
      → IsMet states less ceiling hook bytes points outcome
  lower floor less bytes points outcome low met = record {
    visits = met.visits;
    walks = met.walks;
    lawful = record {
      head = λ first is. up less floor first.point low (met.lawful.head first is);
      above_head = λ place first visit is there. met.lawful.above_head place first visit is there;
      below = λ place visit is. met.lawful.below place visit is;
      never_fall = λ early late one other order is there same.
          met.lawful.never_fall early late one other order is there same;
    };
  }

  -- ---- no point is above the ceiling
  most_of : (st end : Standing) (points : List ℕ) (visits : List Visit) (told : List Answer) (from : ℕ)
      → from ≤ ceiling → IsAsking (answers_over states) st points visits told end
      → ((place : ℕ) (visit : Visit) → slice_get visits place ≡ Some visit → visit.point ≤ ceiling)
      → fold max from points ≤ ceiling
  most_of st end [] visits told from least asking below = least
  most_of st end (point ∷ points) visits told from least asking below =
      let here = below 0 (record { question = asking.0; point = point })
      (ap (λ (vs : List Visit). slice_get vs 0) asking.6) in
      most_of (after st asking.1) end points asking.2 asking.3 (max from point)
      (both_less from point ceiling least here) asking.8
      (λ place visit is. below (suc place) visit
      (ap (λ (vs : List Visit). slice_get vs (suc place)) asking.6 ∙ is))

  most : (floor : ℕ) (bytes points : List ℕ) (outcome : Outcome)
      → IsMet states floor ceiling hook bytes points outcome → greatest points ≤ ceiling
  most floor bytes points outcome met =
      let it = asking_of states [] met.visits (begun hook bytes) points outcome met.walks in
      most_of (begun hook bytes) it.end points it.visits it.told 0 (omega arith) it.asking
      (λ place visit is. met.lawful.below place visit
      (ap (λ (vs : List Visit). slice_get vs place) it.behind ∙ is))

  -- ---- at each point there is a walk with no other
  record IsStill (at : ℕ) (st : Standing) (points : List ℕ) (outcome : Outcome) : Type 0 where
    pub visits : List Visit
    pub told : List Answer
    pub end : Standing
    pub asking : IsAsking (answers_over states) st (map (λ (point : ℕ). at) points) visits told end
    pub ends : outcome_of end ≡ Some outcome
    pub all : (place : ℕ) (visit : Visit) → slice_get visits place ≡ Some visit → at ≡ visit.point

  stays : (at : ℕ) (points : List ℕ) (st : Standing) (outcome : Outcome) (earlier now : Unit {0})
      → IsWalk (AnsweredBy (λ point. states at)) earlier st points now outcome → IsStill at st points outcome
  stays at [] st outcome earlier now walk = record {
    visits = [];
    told = [];
    end = st;
    asking = (asks_no_more st outcome walk.1, refl, refl, refl);
    ends = walk.1;
    all = λ place visit is. absurd (cc is);
  }
  stays at (p ∷ ps) st outcome earlier now walk =
      with_rest (stays at ps (after st walk.1) outcome walk.2 now walk.5)
    where
      first : Visit
      first = record { question = walk.0; point = at }

      with_rest : IsStill at (after st walk.1) ps outcome → IsStill at st (p ∷ ps) outcome
      with_rest rest = record {
        visits = first ∷ rest.visits;
        told = walk.1 ∷ rest.told;
        end = rest.end;
        asking = (walk.0, walk.1, rest.visits, rest.told, walk.3, walk.4, refl, refl, rest.asking);
        ends = rest.ends;
        all = all;
      }
        where
          all : (place : ℕ) (visit : Visit) → slice_get (first ∷ rest.visits) place ≡ Some visit
              → at ≡ visit.point
          all zero visit is = let same : first ≡ visit = cc is in ap (λ (v : Visit). v.point) same
          all (suc place) visit is = rest.all place visit is

  all_at : (at : ℕ) (visits : List Visit) → at ≤ ceiling
      → ((place : ℕ) (visit : Visit) → slice_get visits place ≡ Some visit → at ≡ visit.point)
      → AreLawfulPoints at ceiling visits
  all_at at visits most_at all = record {
    head = λ first is. equal_less at first.point (all 0 first is);
    above_head = λ place first visit is there.
        equal_less first.point visit.point (sym (all 0 first is) ∙ all place visit there);
    below = λ place visit is. up visit.point at ceiling
        (equal_less visit.point at (sym (all place visit is))) most_at;
    never_fall = λ early late one other order is there same.
        equal_less one.point other.point (sym (all early one is) ∙ all late other there);
  }

  greatest_at : (at : ℕ) (bytes points : List ℕ) (outcome : Outcome) (earlier now : Unit {0})
      → IsWalk (AnsweredBy (λ point. states at)) earlier (begun hook bytes) points now outcome
      → greatest (map (λ (point : ℕ). at) points) ≡ at
  greatest_at at bytes [] outcome earlier now walk = absurd (cc walk.1)
  greatest_at at bytes (p ∷ ps) outcome earlier now walk = fold_same ps (max 0 at) at (zero_or at)

  record HasStill (at : ℕ) (bytes : List ℕ) : Type 0 where
    pub walk : Walked
    pub met : IsMet states at ceiling hook bytes walk.points walk.outcome
    pub plain : walk.outcome ≡ plain_walk (states at) hook bytes
    pub greatest_is : greatest walk.points ≡ at

  still : (at : ℕ) (bytes : List ℕ) → at ≤ ceiling → Sound (states at) → HasStill at bytes
  still at bytes most_at sound =
      let plain = leads_to_plain (states at) sound hook bytes in
      let outcome = plain_walk (states at) hook bytes in
      let it = stays at plain.0 (begun hook bytes) outcome tt tt plain.1 in
      record {
        walk = record { points = map (λ (point : ℕ). at) plain.0; outcome = outcome };
        met = record {
          visits = it.visits;
          walks = walk_of states [] (begun hook bytes) it.end
              (map (λ (point : ℕ). at) plain.0) it.visits it.told
              outcome it.asking it.ends;
          lawful = all_at at it.visits most_at it.all;
        };
        plain = refl;
        greatest_is = greatest_at at bytes plain.0 outcome tt tt plain.1;
      }

  pub state_is_had : (before at : ℕ) (bytes : List ℕ) → before ≤ at → at ≤ ceiling → Sound (states at)
      → CanHave states before ceiling hook bytes (fate_of (plain_walk (states at) hook bytes))
  state_is_had before at bytes least most_at sound =
      let it = still at bytes most_at sound in
      record {
        points = it.walk.points;
        outcome = it.walk.outcome;
        met = lower at before bytes it.walk.points it.walk.outcome least it.met;
        has = ap fate_of it.plain;
      }

  module _ (sound : (point : ℕ) → Sound (states point)) (before : ℕ) (least : before ≤ ceiling) where
    -- ---- each packet at what the worker saw last
    at_rest : (seen : ℕ) (packets : List (List ℕ)) → seen ≤ ceiling
        → (walks : List Walked) × AreMet states before ceiling hook seen packets walks
    at_rest seen [] low = ([], tt)
    at_rest seen (bytes ∷ packets) low =
        let one = still (max before seen) bytes (both_less before seen ceiling least low)
        (sound (max before seen)) in
        let rest = at_rest (max seen (greatest one.walk.points)) packets
        (both_less seen (greatest one.walk.points) ceiling low
        (most (max before seen) bytes one.walk.points one.walk.outcome one.met)) in
        (one.walk ∷ rest.0, (one.met, rest.1))

    -- ---- those before a packet at the point before the change
    abbrev pub IsAlone : List (List ℕ) → ℕ → Walked → Type 0
    IsAlone packets place walk = (walks : List Walked)
        × AreMet states before ceiling hook before packets walks
        × (slice_get walks place ≡ Some walk)

    one_of : (one bytes : List ℕ) → Some one ≡ Some bytes → one ≡ bytes
    one_of one bytes is = cc is

    pub alone : (packets : List (List ℕ)) (place : ℕ) (bytes : List ℕ) (walk : Walked)
        → slice_get packets place ≡ Some bytes
        → IsMet states before ceiling hook bytes walk.points walk.outcome
        → IsAlone packets place walk
    alone [] place bytes walk is met = absurd (cc is)
    alone (first ∷ packets) zero bytes walk is met =
        let own = subst (λ (bs : List ℕ). IsMet states before ceiling hook bs walk.points walk.outcome)
        (sym (one_of first bytes is)) met in
        let rest = at_rest (max before (greatest walk.points)) packets
        (both_less before (greatest walk.points) ceiling least
        (most before bytes walk.points walk.outcome met)) in (
          walk ∷ rest.0,
          (
            subst (λ (n : ℕ). IsMet states n ceiling hook first walk.points walk.outcome)
                (itself_most before) own,
            rest.1,
          ),
          refl,
        )
    alone (first ∷ packets) (suc place) bytes walk is met =
        let one = still before first least (sound before) in
        let rest = alone packets place bytes walk is met in (
          one.walk ∷ rest.0,
          (
            subst (λ (n : ℕ). IsMet states n ceiling hook first one.walk.points one.walk.outcome)
                (itself_most before) one.met,
            subst (λ (n : ℕ). AreMet states before ceiling hook n packets rest.0)
                (no_more before (greatest one.walk.points) one.greatest_is) rest.1,
          ),
          rest.2,
        )

  -- ---- and back
  pub of_worker : (before seen : ℕ) (packets : List (List ℕ)) (walks : List Walked) (place : ℕ)
      (bytes : List ℕ)
      (walk : Walked) → AreMet states before ceiling hook seen packets walks
      → slice_get packets place ≡ Some bytes → slice_get walks place ≡ Some walk
      → IsMet states before ceiling hook bytes walk.points walk.outcome
  of_worker before seen [] walks place bytes walk met is at = absurd (cc is)
  of_worker before seen (first ∷ packets) [] place bytes walk met is at = absurd met
  of_worker before seen (first ∷ packets) (one ∷ walks) zero bytes walk met is at =
      let packet : first ≡ bytes = cc is in let same : one ≡ walk = cc at in
      subst (λ (w : Walked). IsMet states before ceiling hook bytes w.points w.outcome) same
      (subst (λ (bs : List ℕ). IsMet states before ceiling hook bs one.points one.outcome) packet
      (lower (max before seen) before first one.points one.outcome (omega arith) met.0))
  of_worker before seen (first ∷ packets) (one ∷ walks) (suc place) bytes walk met is at =
      of_worker before (max seen (greatest one.points)) packets walks place bytes walk met.1 is at
