-- Walks whose visits are all made at one point.
use Rattle.std.proofs.Common.{◌≡◌, ◌∙◌, ℕ, zero, suc, ◌≤◌, Bool, true, false, List, [], ◌∷◌, length, take}
use Rattle.std.proofs.Common.{Option, Some, None, refl, sym, ap, subst, arith}
use Rattle.std.specs.Prelude.{max, if◌then◌else◌}
use Rattle.std.specs.Option.{option_and_then, option_map}
use Rattle.std.proofs.lemmas.List.{take_all}
use Rattle.std.proofs.lemmas.Option.{same_Some}
use Rattle.tc_base.specs.declared.hook.Hook.{Hook}
use Rattle.frame_edit.specs.Tags.{ether_type_of}
use Rattle.filter_state.specs.States.{State}
use Rattle.filter_state.specs.Sound.{Sound}
use Rattle.walk_rules.specs.declared.limits.TheConstants.{VISITS_MAX}
use Rattle.walk_rules.specs.Questions.{Question, heads_of, filter_of, params_of, Answer, told_heads}
use Rattle.walk_rules.specs.Heads.{heads_on}
use Rattle.walk_rules.specs.Answers.{answer_of}
use Rattle.walk_rules.specs.Steps.{Standing, begun, question_of, after}
use Rattle.walk_rules.specs.Walks.{Outcome, IsWalk, AnsweredBy, outcome_of}
use Rattle.walk_rules.specs.Plain.{plain_walk}
use Rattle.walk_rules.proofs.Agreeing.{few_points}
use Rattle.walk_rules.proofs.Stilled.{leads_to_plain}
use Rattle.point_walks.specs.Over.{Answering}
use Rattle.walk_fate_laws.specs.declared.limits.TheConstants.{WAYS_MAX}
use Rattle.walk_fate_laws.specs.Fates.{Fate, fate_of}
use Rattle.walk_fate_laws.specs.Firsts.{IsAmong}
use Rattle.walk_fate_laws.specs.Games.{IsWalkFrom, raised}
use Rattle.walk_fate_laws.specs.Ways.{Way, AreRising}
use Rattle.walk_fate_laws.specs.Walks.{touches, walk_game, ways_of}
use Rattle.walk_fate_laws.specs.Told.{Told, told_fates}
use Rattle.walk_fate_laws.specs.Stays.{stays_by, stays_from, stay_of, fate_at_end, fate_there, IsAnsweredAs}
use Rattle.walk_fate_laws.proofs.Asking.{asks_no_more}
use Rattle.walk_fate_laws.proofs.Underway.{IsUnderway, stop_behind, goes_on, IsNoHead, no_head}
use Rattle.walk_fate_laws.proofs.Searching.{walk_has_way}
use Rattle.walk_fate_laws.proofs.Rising.{ways_rise}
use Rattle.walk_fate_laws.proofs.Meeting.{game_exact}
use Rattle.walk_fate_laws.proofs.Telling.{Earlier, take_stands, told_for}

-- ---- one visit more, or none
module _ (answers : Answering) (point : ℕ) where
  pub none_left : (visits : ℕ) (st : Standing) → question_of st ≡ None
      → stays_from answers point visits st ≡ Some st
  unfolding stays_from
  none_left zero st is = ap (λ (o : Option Question). stays_by st o (λ question. None)) is
  none_left (suc visits) st is = ap (λ (o : Option Question). stays_by st o (λ question. option_and_then
      (λ answer. stays_from answers point visits (after st answer)) (answers point question))) is

  pub one_more : (visits : ℕ) (st : Standing) (question : Question) → question_of st ≡ Some question
      → stays_from answers point (suc visits) st ≡ option_and_then
      (λ answer. stays_from answers point visits (after st answer)) (answers point question)
  unfolding stays_from
  one_more visits st question is = ap (λ (o : Option Question). stays_by st o (λ asked. option_and_then
      (λ answer. stays_from answers point visits (after st answer)) (answers point asked))) is

  pub goes_to : (visits : ℕ) (st : Standing) (question : Question) (answer : Answer)
      → question_of st ≡ Some question → answers point question ≡ Some answer
      → stays_from answers point (suc visits) st ≡ stays_from answers point visits (after st answer)
  goes_to visits st question answer asks is = one_more visits st question asks
      ∙ ap (option_and_then (λ told. stays_from answers point visits (after st told))) is

  pub none_more : (st : Standing) (question : Question) → question_of st ≡ Some question
      → stays_from answers point zero st ≡ None
  unfolding stays_from
  none_more st question is = ap (λ (o : Option Question). stays_by st o (λ asked. None)) is

-- ---- over a sound state it is the plain walk
module _ (answers : Answering) (point : ℕ) (hook : Hook) (s : State)
    (same : IsAnsweredAs answers point hook s) where
  answered_so : (question : Question) → IsNoHead question → answers point question ≡ answer_of s question
  answered_so (heads_of other) is = absurd is
  answered_so (filter_of table mask values) is = same.filters table mask values
  answered_so (params_of serial) is = same.actions serial

  abbrev EndsSo : ℕ → Standing → Outcome → Type 0
  EndsSo visits st outcome = (end : Standing) × (stays_from answers point visits st ≡ Some end)
      × (outcome_of end ≡ Some outcome)

  ends_so : (visits : ℕ) (points : List ℕ) (st : Standing) (outcome : Outcome) (earlier now : Unit {0})
      → IsUnderway st → length points ≤ visits
      → IsWalk (AnsweredBy (λ at. s)) earlier st points now outcome → EndsSo visits st outcome
  ends_so visits [] st outcome earlier now underway few walk =
      (st, none_left answers point visits st (asks_no_more st outcome walk.1), walk.1)
  ends_so zero (p ∷ ps) st outcome earlier now underway few walk = absurd (omega (arith, few))
  ends_so (suc visits) (p ∷ ps) st outcome earlier now underway few walk =
      let told = answered_so walk.0 (no_head st walk.0 underway walk.3) ∙ walk.4 in
      let rest = ends_so visits ps (after st walk.1) outcome walk.2 now
      (goes_on st walk.0 walk.1 underway walk.3) (omega (arith, few)) walk.5 in
      (rest.0, goes_to answers point visits st walk.0 walk.1 walk.3 told ∙ rest.1, rest.2)

  one_question : (one other : Question) → Some one ≡ Some other → one ≡ other
  one_question one other is = cc is

  one_answer : (one other : Answer) → Some one ≡ Some other → one ≡ other
  one_answer one other is = cc is

  behind_head : (bytes : List ℕ) (answer : Answer) → answer_of s (heads_of hook) ≡ Some answer
      → IsUnderway (after (begun hook bytes) answer)
  behind_head bytes answer is =
      let heads = heads_on hook s in
      let told : told_heads heads ≡ answer = one_answer (told_heads heads) answer is in
      subst (λ (a : Answer). IsUnderway (after (begun hook bytes) a)) told
      (record { place = stop_behind 0 (ether_type_of bytes) heads; few = omega arith })

  begins : (bytes points : List ℕ) (visits : ℕ) (outcome : Outcome) (earlier now : Unit {0})
      → length points ≤ suc visits
      → IsWalk (AnsweredBy (λ at. s)) earlier (begun hook bytes) points now outcome
      → EndsSo (suc visits) (begun hook bytes) outcome
  begins bytes [] visits outcome earlier now few walk = absurd (cc walk.1)
  begins bytes (p ∷ ps) visits outcome earlier now few walk =
      let asked : heads_of hook ≡ walk.0 = one_question (heads_of hook) walk.0 walk.3 in
      let answered : answer_of s (heads_of hook) ≡ Some walk.1 =
      subst (λ (q : Question). answer_of s q ≡ Some walk.1) (sym asked) walk.4 in
      let rest = ends_so visits ps (after (begun hook bytes) walk.1) outcome walk.2 now
      (behind_head bytes walk.1 answered) (omega (arith, few)) walk.5 in (
        rest.0,
        goes_to answers point visits (begun hook bytes) (heads_of hook) walk.1 refl (same.tables ∙ answered)
            ∙ rest.1,
        rest.2,
      )

  pub plain_there : (bytes : List ℕ) → Sound s
      → fate_there answers hook bytes point ≡ Some (fate_of (plain_walk s hook bytes))
  plain_there bytes sound =
      let plain = leads_to_plain s sound hook bytes in
      let few : length plain.0 ≤ VISITS_MAX = few_points (AnsweredBy (λ at. s)) hook bytes plain.0 tt tt
      (plain_walk s hook bytes) plain.1 in
      let it = begins bytes plain.0 65535 (plain_walk s hook bytes) tt tt few plain.1 in
      ap (option_and_then fate_at_end) it.1 ∙ ap (option_map fate_of) it.2

-- ---- it is a way
not_above : (b : Bool) (low point : ℕ) → low ≤ point → (if b then max point low else low) ≤ point
not_above true low point least = omega (arith, least)
not_above false low point least = least

module _ (answers : Answering) (ceiling point : ℕ) (most : point ≤ ceiling) where
  record IsStaying (visits : ℕ) (st end : Standing) (low : Question → ℕ) : Type 0 where
    pub points : List ℕ
    pub told : List Answer
    pub few : length points ≤ visits
    pub walk : IsWalkFrom (walk_game answers) ceiling st low points told end

  stays_here : (visits : ℕ) (st end : Standing) (low : Question → ℕ) → question_of st ≡ None → st ≡ end
      → IsStaying visits st end low
  stays_here visits st end low asks is =
      record { points = []; told = []; few = omega arith; walk = (asks, refl, sym is) }

  one_end : (one other : Standing) → Some one ≡ Some other → one ≡ other
  one_end one other is = same_Some one other is

  goes_by : (visits : ℕ) (st end : Standing) (low : Question → ℕ) (question : Question) (answer : Answer)
      → ((asked : Question) → low asked ≤ point) → question_of st ≡ Some question
      → answers point question ≡ Some answer
      → IsStaying visits (after st answer) end (raised (walk_game answers) low question point)
      → IsStaying (suc visits) st end low
  goes_by visits st end low question answer least asks is rest = record {
    points = point ∷ rest.points;
    told = answer ∷ rest.told;
    few = (let few = rest.few in omega (arith, few));
    walk = (question, answer, rest.told, asks, least question, most, is, refl, rest.walk);
  }

  -- from behind whatever answer
  abbrev GoesOn : ℕ → Standing → Standing → Type 0
  GoesOn visits st end = (answer : Answer) (low : Question → ℕ) → ((asked : Question) → low asked ≤ point)
      → stays_from answers point visits (after st answer) ≡ Some end
      → IsStaying visits (after st answer) end low

  stays : (visits : ℕ) (st end : Standing) (low : Question → ℕ) → ((asked : Question) → low asked ≤ point)
      → stays_from answers point visits st ≡ Some end → IsStaying visits st end low
  stays zero st end low least is = by_question (question_of st) refl
    where
      by_question : (o : Option Question) → question_of st ≡ o → IsStaying zero st end low
      by_question None asks =
          stays_here zero st end low asks (one_end st end (sym (none_left answers point zero st asks) ∙ is))
      by_question (Some question) asks = absurd (cc (none_more answers point st question asks, is))
  stays (suc visits) st end low least is = by_question (question_of st) refl
      (λ answer later below rest. stays visits (after st answer) end later below rest)
    where
      by_answer : (question : Question) → question_of st ≡ Some question → (o : Option Answer)
          → answers point question ≡ o → GoesOn visits st end → IsStaying (suc visits) st end low
      by_answer question asks None none goes =
          let nowhere = one_more answers point visits st question asks
          ∙ ap (option_and_then (λ answer. stays_from answers point visits (after st answer))) none in
          absurd (cc (nowhere, is))
      by_answer question asks (Some answer) told goes =
          goes_by visits st end low question answer least asks told
          (goes answer (raised (walk_game answers) low question point)
          (λ asked. not_above (touches question asked) (low asked) point (least asked))
          (sym (goes_to answers point visits st question answer asks told) ∙ is))

      by_question : (o : Option Question) → question_of st ≡ o → GoesOn visits st end
          → IsStaying (suc visits) st end low
      by_question None asks goes = stays_here (suc visits) st end low asks
          (one_end st end (sym (none_left answers point (suc visits) st asks) ∙ is))
      by_question (Some question) asks goes = by_answer question asks (answers point question) refl goes

-- ---- and its fate is told
module _ (answers : Answering) (before ceiling : ℕ) (hook : Hook) (bytes : List ℕ) where
  abbrev all_ways : List (Way Standing Answer)
  all_ways = ways_of answers before ceiling hook bytes

  front_rises : AreRising (take WAYS_MAX all_ways)
  front_rises = take_stands Earlier WAYS_MAX all_ways
      (ways_rise (walk_game answers) ceiling VISITS_MAX (begun hook bytes) (λ question. before))

  abbrev pub IsToldOf : Fate → Type 0
  IsToldOf fate =
      (told : Told) × IsAmong told (told_fates answers before ceiling hook bytes) × (told.key ≡ fate)

  of_end : (point : ℕ) (end : Standing) (fate : Fate) → length all_ways ≤ WAYS_MAX → before ≤ point
      → point ≤ ceiling → stay_of answers hook bytes point ≡ Some end → fate_at_end end ≡ Some fate
      → IsToldOf fate
  of_end point end fate few least most stay is =
      let it = stays answers ceiling point most VISITS_MAX (begun hook bytes) end (λ question. before)
      (λ asked. least) stay in
      let way = walk_has_way (walk_game answers) ceiling (game_exact answers) VISITS_MAX (begun hook bytes) end
      (λ question. before) it.points it.told it.walk it.few in
      let there : IsAmong way.0 (take WAYS_MAX all_ways) =
      subst (λ (ways : List (Way Standing Answer)). IsAmong way.0 ways)
      (sym (take_all WAYS_MAX all_ways few)) way.1 in
      let told = told_for (take WAYS_MAX all_ways) front_rises way.0 fate there (ap fate_at_end way.3 ∙ is) in
      (told.told, told.there, told.same)

  pub stay_is_told : (point : ℕ) (fate : Fate)
      → length (ways_of answers before ceiling hook bytes) ≤ WAYS_MAX → before ≤ point → point ≤ ceiling
      → fate_there answers hook bytes point ≡ Some fate
      → (told : Told) × IsAmong told (told_fates answers before ceiling hook bytes) × (told.key ≡ fate)
  stay_is_told point fate few least most is = by_end (stay_of answers hook bytes point) refl
    where
      by_end : (o : Option Standing) → stay_of answers hook bytes point ≡ o → IsToldOf fate
      by_end None none = absurd (cc (ap (option_and_then fate_at_end) none, is))
      by_end (Some end) stay = of_end point end fate few least most stay
          (sym (ap (option_and_then fate_at_end) stay) ∙ is)
