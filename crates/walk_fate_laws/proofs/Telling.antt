-- The fates that are told are those that can be had.
use Rattle.std.proofs.Common.{◌≡◌, ◌∙◌, ℕ, zero, suc, ◌≤◌, List, [], ◌∷◌, length, take, Some, ◌⊎◌}
use Rattle.std.proofs.Common.{inl, inr, sym, ap, subst}
use Rattle.std.specs.Prelude.{◌≢◌}
use Rattle.std.specs.Option.{option_map}
use Rattle.std.proofs.lemmas.List.{take_all}
use Rattle.std.proofs.lemmas.Option.{same_Some}
use Rattle.tc_base.specs.declared.hook.Hook.{Hook}
use Rattle.filter_state.specs.States.{State}
use Rattle.walk_rules.specs.declared.limits.TheConstants.{VISITS_MAX}
use Rattle.walk_rules.specs.Questions.{Answer}
use Rattle.walk_rules.specs.Steps.{Standing, begun}
use Rattle.walk_rules.specs.Walks.{Outcome, outcome_of}
use Rattle.walk_fate_laws.specs.declared.limits.TheConstants.{WAYS_MAX}
use Rattle.walk_fate_laws.specs.Fates.{Fate, fate_of, same_fate}
use Rattle.walk_fate_laws.specs.Firsts.{IsAmong}
use Rattle.walk_fate_laws.specs.Order.{EachBefore, IsEarlier, IsNoLater}
use Rattle.walk_fate_laws.specs.Meeting.{IsMet, CanHave, IsWitness}
use Rattle.walk_fate_laws.specs.Ways.{Way, AreRising}
use Rattle.walk_fate_laws.specs.Walks.{answers_over, walk_game, ways_of}
use Rattle.walk_fate_laws.specs.Told.{Told, fate_at, first_fates, told_fates}
use Rattle.walk_fate_laws.proofs.Finding.{first_told, found, one_first, firsts_stand, firsts_differ}
use Rattle.walk_fate_laws.proofs.Rising.{ways_rise, no_later_still}
use Rattle.walk_fate_laws.proofs.Same.{fate_exact, fate_itself}
use Rattle.walk_fate_laws.proofs.Meeting.{way_is_met, met_has_way}

-- ---- the front of a list
in_take : {X : Type 0} (n : ℕ) (x : X) (xs : List X) → IsAmong x (take n xs) → IsAmong x xs
in_take zero x xs there = absurd there
in_take (suc n) x [] there = absurd there
in_take (suc n) x (y ∷ xs) there = elim there [
  | inl is ↦ inl is
  | inr rest ↦ inr (in_take n x xs rest)
]

pub take_stands : {X : Type 0} (R : X → X → Type 0) (n : ℕ) (xs : List X) → EachBefore R xs
    → EachBefore R (take n xs)
take_stands R zero xs rise = tt
take_stands R (suc n) [] rise = tt
take_stands R (suc n) (x ∷ xs) rise =
    ((λ y there. rise.0 y (in_take n y xs there)), take_stands R n xs rise.1)

front_or_later : {X : Type 0} (R : X → X → Type 0) (n : ℕ) (y : X) (xs : List X) → EachBefore R xs
    → IsAmong y xs
    → IsAmong y (take n xs) ⊎ ((x : X) → IsAmong x (take n xs) → R x y)
front_or_later R zero y xs rise there = inr (λ x none. absurd none)
front_or_later R (suc n) y [] rise there = absurd there
front_or_later {X = X} R (suc n) y (z ∷ xs) rise there = elim there [
  | inl is ↦ inl (inl is)
  | inr rest ↦ elim (front_or_later R n y xs rise.1 rest) [
    | inl front ↦ inl (inr front)
    | inr later ↦ inr (λ x at. elim at [
      | inl same ↦ subst (λ (v : X). R v y) (sym same) (rise.0 y rest)
      | inr more ↦ later x more
    ])
  ]
]

each_both : {X : Type 0} (R S : X → X → Type 0) (xs : List X) → EachBefore R xs → EachBefore S xs
    → EachBefore (λ (x y : X). R x y × S x y) xs
each_both R S [] one other = tt
each_both R S (x ∷ xs) one other =
    ((λ y there. (one.0 y there, other.0 y there)), each_both R S xs one.1 other.1)

abbrev pub Earlier : Way Standing Answer → Way Standing Answer → Type 0
Earlier one other = IsEarlier one.points other.points

fate_is : (way : Way Standing Answer) (outcome : Outcome) (fate : Fate) → outcome_of way.end ≡ Some outcome
    → fate_of outcome ≡ fate → fate_at way ≡ Some fate
fate_is way outcome fate ends is = ap (option_map fate_of) ends ∙ ap (λ (f : Fate). Some f) is

of_fate : (way : Way Standing Answer) (outcome : Outcome) (fate : Fate) → outcome_of way.end ≡ Some outcome
    → fate_at way ≡ Some fate → fate_of outcome ≡ fate
of_fate way outcome fate ends is = same_Some (fate_of outcome) fate (sym (ap (option_map fate_of) ends) ∙ is)

-- ---- the first of each fate among rising ways
module _ (ways : List (Way Standing Answer)) (rise : AreRising ways) where
  pub record IsToldFor (way : Way Standing Answer) (fate : Fate) : Type 0 where
    pub told : Told
    pub there : IsAmong told (first_fates ways)
    pub same : told.key ≡ fate
    pub first : (told.item ≡ way) ⊎ IsEarlier told.item.points way.points

  pub told_for : (way : Way Standing Answer) (fate : Fate) → IsAmong way ways → fate_at way ≡ Some fate
      → IsToldFor way fate
  told_for way fate there is =
      elim (found same_fate fate_at fate_exact Earlier [] ways way fate rise there is) [
        | inl none ↦ absurd none
        | inr it ↦ record { told = it.0; there = it.1; same = it.2; first = it.3 }
      ]

  -- the one that is told with a fate is no later than any way with it
  pub told_first : (told : Told) (way : Way Standing Answer) → IsAmong told (first_fates ways)
      → IsAmong way ways
      → fate_at way ≡ Some told.key → (told.item ≡ way) ⊎ IsEarlier told.item.points way.points
  told_first told way at there is =
      let it = told_for way told.key there is in
      let same : it.told ≡ told =
      one_first same_fate fate_at fate_itself [] ways it.told told it.there at it.same in
      subst (λ (t : Told). (t.item ≡ way) ⊎ IsEarlier t.item.points way.points) same it.first

-- ---- of a packet
module _ (states : ℕ → State) (before ceiling : ℕ) (hook : Hook) (bytes : List ℕ) where
  abbrev all_ways : List (Way Standing Answer)
  all_ways = ways_of (answers_over states) before ceiling hook bytes

  pub all_rise : AreRising (ways_of (answers_over states) before ceiling hook bytes)
  all_rise = ways_rise (walk_game (answers_over states)) ceiling VISITS_MAX (begun hook bytes)
      (λ question. before)

  front_rises : AreRising (take WAYS_MAX all_ways)
  front_rises = take_stands Earlier WAYS_MAX all_ways all_rise

  pub record IsHad (told : Told) : Type 0 where
    pub outcome : Outcome
    pub met : IsMet states before ceiling hook bytes told.item.points outcome
    pub fate : fate_of outcome ≡ told.key

  pub told_is_had : (told : Told) → IsAmong told (told_fates (answers_over states) before ceiling hook bytes)
      → IsHad told
  told_is_had told there =
      let it = first_told same_fate fate_at [] (take WAYS_MAX all_ways) told there in
      let met = way_is_met states before ceiling hook bytes told.item
      (in_take WAYS_MAX told.item all_ways it.there) in
      record { outcome = met.0; met = met.2; fate = of_fate told.item met.0 told.key met.1 it.key }

  pub can_have : (told : Told) → IsAmong told (told_fates (answers_over states) before ceiling hook bytes)
      → CanHave states before ceiling hook bytes told.key
  can_have told there =
      let it = told_is_had told there in
      record { points = told.item.points; outcome = it.outcome; met = it.met; has = it.fate }

  pub had_is_told : length (ways_of (answers_over states) before ceiling hook bytes) ≤ WAYS_MAX
      → (fate : Fate) → CanHave states before ceiling hook bytes fate
      → (told : Told) × IsAmong told (told_fates (answers_over states) before ceiling hook bytes)
      × (told.key ≡ fate)
  had_is_told few fate can =
      let way = met_has_way states before ceiling hook bytes can.points can.outcome can.met in
      let there : IsAmong way.0 (take WAYS_MAX all_ways) =
      subst (λ (ws : List (Way Standing Answer)). IsAmong way.0 ws)
      (sym (take_all WAYS_MAX all_ways few)) way.1 in
      let it = told_for (take WAYS_MAX all_ways) front_rises way.0 fate there
      (fate_is way.0 can.outcome fate way.2 can.has) in
      (it.told, it.there, it.same)

  -- ---- and each with its witness
  no_later : (told : Told) → IsAmong told (told_fates (answers_over states) before ceiling hook bytes)
      → (others : List ℕ) (other : Outcome) → IsMet states before ceiling hook bytes others other
      → fate_of other ≡ told.key → IsNoLater told.item.points others
  no_later told there others other met is =
      let way = met_has_way states before ceiling hook bytes others other met in
      let fate = fate_is way.0 other told.key way.2 is in
      let at = (first_told same_fate fate_at [] (take WAYS_MAX all_ways) told there).there in
      no_later_still told.item way.0 others
      (elim (front_or_later Earlier WAYS_MAX way.0 all_ways all_rise way.1) [
        | inl front ↦ told_first (take WAYS_MAX all_ways) front_rises told way.0 there front fate
        | inr later ↦ inr (later told.item at)
      ]) way.3

  pub told_is_witness : (told : Told)
      → IsAmong told (told_fates (answers_over states) before ceiling hook bytes)
      → (outcome : Outcome) × IsWitness states before ceiling hook bytes told.item.points outcome
      × (fate_of outcome ≡ told.key)
  told_is_witness told there =
      let it = told_is_had told there in (
        it.outcome,
        record {
          met = it.met;
          least = λ others other met same. no_later told there others other met (same ∙ it.fate);
        },
        it.fate,
      )

  -- ---- in the order of their points, each once
  abbrev pub AreOnce : List Told → Type 0
  AreOnce told = EachBefore (λ (one other : Told).
      IsEarlier one.item.points other.item.points × (one.key ≢ other.key)) told

  pub told_once : AreOnce (told_fates (answers_over states) before ceiling hook bytes)
  told_once =
      let front = take WAYS_MAX all_ways in
      each_both (λ (one other : Told). IsEarlier one.item.points other.item.points)
      (λ (one other : Told). one.key ≢ other.key) (first_fates front)
      (firsts_stand same_fate fate_at Earlier [] front front_rises)
      (firsts_differ same_fate fate_at fate_itself [] front)
