-- A place less that names an action; an action without references is gone.
use Rattle.std.proofs.Common.{◌≡◌, ℕ, zero, suc, ◌+◌, ◌-◌, ◌<◌, ◌≤◌, ◌==◌, ◌⊎◌, Bool, true, false, not, cond, if◌then◌else◌, List, [], ◌∷◌, ◌++◌, length, map, Option, Some, None, refl, sym, ◌∙◌, ap, arith, inl, inr, eq-eqb, eqb-true}
use Rattle.std.specs.Prelude.{filter}
use Rattle.std.proofs.lemmas.Bool.{false≢true, ne_eqb, not-true, not_from_false, eqb-false}
use Rattle.std.proofs.lemmas.Option.{none-some}
use Rattle.act_kinds.specs.declared.params.Kind.{Kind}
use Rattle.filter_state.specs.declared.refusal.Refusal.TheVariants as refusals
use Rattle.filter_state.specs.States.{Action}
use Rattle.filter_state.specs.Actions.{is_named, has_serial, less_bound, is_referred, unbound, all_unbound}
use Rattle.filter_state.specs.Tables.{first_where}
use Rattle.filter_state.specs.Refusals.{bound_by, when}
use Rattle.filter_state.specs.Sound.{Each, EachPair, StandApart}
use Rattle.filter_state.proofs.Pairs.{each_both, each_map, each_weaker, each_filter, each_passing, pairs_filter, any_filter, none_passes}
use Rattle.filter_state.proofs.Free.{length_filter_le}
use Rattle.state_laws.proofs.Free.{length_mapped}
use Rattle.filter_state.proofs.Times.{times, one_if, times_cons}
use Rattle.state_laws.proofs.Held.{IsCounted, AreHeld, HasReference}
use Rattle.state_laws.proofs.Names.{same_binds}
use Rattle.state_laws.proofs.Changes.{Keeps, keeps_where, apart_changed, live_changed}

-- ---- counts lowered
lowered_references : (references binds : ℕ) → 0 < binds → (references ≡ binds) ⊎ (references ≡ binds + 1) → (references - 1 ≡ binds - 1) ⊎ (references - 1 ≡ binds - 1 + 1)
lowered_references references binds some (inl e) = inl (omega arith)
lowered_references references binds some (inr e) = inr (omega arith)

unbound_either : (P : List ℕ) (made serial : ℕ) (x : Action) (b : Bool) → has_serial serial x ≡ b → IsCounted (serial ∷ P) made x → IsCounted P made (cond b (less_bound x) x)
unbound_either P made serial x true at c =
    let same = eqb-true x.serial serial at in
    let e = times_cons x.serial serial P ∙ ap (λ (b : Bool). one_if b + times x.serial P) (eq-eqb serial x.serial (sym same)) in
    let old = c.binds in record {
      serial = c.serial;
      index = c.index;
      params = c.params;
      binds = omega arith;
      references = lowered_references x.references x.binds (omega arith) c.references;
    }
unbound_either P made serial x false at c =
    let differs : (serial == x.serial) ≡ false = ne_eqb serial x.serial (λ e. false≢true (sym at ∙ eq-eqb x.serial serial (sym e))) in
    let e = times_cons x.serial serial P ∙ ap (λ (b : Bool). one_if b + times x.serial P) differs in
    let old = c.binds in record {
      serial = c.serial;
      index = c.index;
      params = c.params;
      binds = omega arith;
      references = c.references;
    }

-- ---- those that stay
at_least : (x : Action) (binds : ℕ) → x.binds ≡ binds → (x.references ≡ x.binds) ⊎ (x.references ≡ x.binds + 1) → 0 < binds → 0 < x.references
at_least x binds e (inl same) some = omega arith
at_least x binds e (inr same) some = omega arith

-- an action that a place names stays
stays : (P : List ℕ) (made n : ℕ) → 0 < times n P → (x : Action) → IsCounted P made x → has_serial n x ≡ true → is_referred x ≡ true
stays P made n some x c at =
    let same = eqb-true x.serial n at in
    let more = at_least x (times n P) (c.binds ∙ ap (λ k. times k P) same) c.references some in
    not_from_false (x.references == 0) (ne_eqb x.references 0 (λ e. absurd (omega arith)))

positive : (n : ℕ) → (n ≡ 0 → ⊥) → 1 ≤ n
positive zero differs = absurd (differs refl)
positive (suc n) differs = omega arith

has_reference : (x : Action) → is_referred x ≡ true → HasReference x
has_reference x is = let differs = eqb-false x.references 0 (not-true (x.references == 0) is) in positive x.references differs

pub held_unbound : (P : List ℕ) (made serial : ℕ) (actions : List Action) → AreHeld (serial ∷ P) made actions → AreHeld P made (unbound serial actions)
held_unbound P made serial actions h =
    let change : Action → Action = λ x. if has_serial serial x then less_bound x else x in
    let kept : (x : Action) → Keeps change x = keeps_where (has_serial serial) less_bound (λ x. (refl, refl, λ _. refl)) in
    let lowered : List Action = map change actions in
    let counted : Each (IsCounted P made) lowered = each_map (IsCounted P made) change actions
    (each_weaker (IsCounted (serial ∷ P) made) (λ x. IsCounted P made (change x)) (λ x c. unbound_either P made serial x (has_serial serial x) refl c) actions h.counted) in record {
      counted = each_filter (IsCounted P made) is_referred lowered counted;
      held = each_weaker (λ x. is_referred x ≡ true) HasReference has_reference (filter is_referred lowered) (each_passing is_referred lowered);
      apart = pairs_filter StandApart is_referred lowered (apart_changed change kept actions h.apart);
      live = λ n some. any_filter (has_serial n) is_referred lowered
          (each_weaker (IsCounted P made) (λ x. has_serial n x ≡ true → is_referred x ≡ true) (stays P made n some) lowered counted)
          (live_changed change kept n actions ∙ h.live n (let e = times_cons n serial P in omega arith));
    }

-- ---- place by place
pub held_all_unbound : (serials P : List ℕ) (made : ℕ) (actions : List Action) → AreHeld (serials ++ P) made actions → AreHeld P made (all_unbound serials actions)
held_all_unbound [] P made actions h = h
held_all_unbound (serial ∷ serials) P made actions h = held_all_unbound serials P made (unbound serial actions) (held_unbound (serials ++ P) made serial actions h)

pub length_all_unbound : (serials : List ℕ) (actions : List Action) → length (all_unbound serials actions) ≤ length actions
length_all_unbound [] actions = omega arith
length_all_unbound (serial ∷ serials) actions =
    let rest = length_all_unbound serials (unbound serial actions) in
    let change : Action → Action = λ x. if has_serial serial x then less_bound x else x in
    let kept = length_filter_le is_referred (map change actions) in
    let same = length_mapped change actions in
    omega arith

-- ---- an action without binds is taken out
some_none : {X : Type 0} (x : X) → Some x ≡ None → ⊥
some_none x e = none-some x (sym e)

not_bound : (first : Action) (b : Bool) → (first.binds == 0) ≡ b → bound_by (Some first) ≡ None → first.binds ≡ 0
not_bound first true is e = eqb-true first.binds 0 is
not_bound first false is e = absurd (some_none (refusals.ActionBound first.binds) (sym (ap (λ (b : Bool). when (not b) (refusals.ActionBound first.binds)) is) ∙ e))

unbound_named : (kind : Kind) (index : ℕ) (actions : List Action) → EachPair StandApart actions → (o : Option Action) → first_where (is_named kind index) actions ≡ o → bound_by o ≡ None
    → Each (λ x. is_named kind index x ≡ true → x.binds ≡ 0) actions
unbound_named kind index actions apart None is e =
    each_weaker (λ x. is_named kind index x ≡ false) (λ x. is_named kind index x ≡ true → x.binds ≡ 0) (λ x no named. absurd (false≢true (sym no ∙ named))) actions (none_passes (is_named kind index) actions is)
unbound_named kind index actions apart (Some first) is e =
    let none = not_bound first (first.binds == 0) refl e in
    each_weaker (λ x. is_named kind index x ≡ true → x.binds ≡ first.binds) (λ x. is_named kind index x ≡ true → x.binds ≡ 0) (λ x same named. same named ∙ none) actions
    (same_binds kind index actions first apart is)

unnamed_stays : (P : List ℕ) (made n : ℕ) (kind : Kind) (index : ℕ) → 0 < times n P → (x : Action) → IsCounted P made x → (is_named kind index x ≡ true → x.binds ≡ 0)
    → has_serial n x ≡ true → (b : Bool) → is_named kind index x ≡ b → not b ≡ true
unnamed_stays P made n kind index some x c free at true is =
    let none = free is in
    let old = c.binds ∙ ap (λ k. times k P) (eqb-true x.serial n at) in
    absurd (omega arith)
unnamed_stays P made n kind index some x c free at false is = refl

pub held_without : (P : List ℕ) (made : ℕ) (kind : Kind) (index : ℕ) (actions : List Action) → AreHeld P made actions → bound_by (first_where (is_named kind index) actions) ≡ None
    → AreHeld P made (filter (λ x. not (is_named kind index x)) actions)
held_without P made kind index actions h e =
    let keep : Action → Bool = λ x. not (is_named kind index x) in
    let free = unbound_named kind index actions h.apart (first_where (is_named kind index) actions) refl e in record {
      counted = each_filter (IsCounted P made) keep actions h.counted;
      held = each_filter HasReference keep actions h.held;
      apart = pairs_filter StandApart keep actions h.apart;
      live = λ n some. any_filter (has_serial n) keep actions
          (each_both (IsCounted P made) (λ x. is_named kind index x ≡ true → x.binds ≡ 0) (λ x. has_serial n x ≡ true → keep x ≡ true)
          (λ x c f at. unnamed_stays P made n kind index some x c f at (is_named kind index x) refl) actions h.counted free) (h.live n some);
    }
