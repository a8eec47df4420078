-- A place more that names an action.
use Rattle.std.proofs.Common.{◌≡◌, ℕ, ◌+◌, ◌<◌, ◌==◌, ◌⊎◌, Bool, true, false, cond, if◌then◌else◌, List, [], ◌∷◌, ◌++◌, Some, refl, sym, ◌∙◌, ap, arith, inl, inr, eq-eqb, eqb-true}
use Rattle.std.specs.List.{list_any}
use Rattle.std.proofs.lemmas.Bool.{false≢true, ne_eqb}
use Rattle.act_kinds.specs.declared.params.Kind.{Kind}
use Rattle.filter_state.specs.States.{Action}
use Rattle.filter_state.specs.Actions.{is_named, has_serial, serial_of, change_where, more_bound}
use Rattle.filter_state.proofs.Pairs.{each_both, each_map, each_weaker}
use Rattle.filter_state.proofs.Times.{times, one_if, times_push}
use Rattle.state_laws.proofs.Held.{IsCounted, AreHeld, HasReference}
use Rattle.state_laws.proofs.Names.{named_by_serial, serial_there}
use Rattle.state_laws.proofs.Changes.{Keeps, keeps_where, apart_changed, live_changed}

raised_references : (x : Action) → (x.references ≡ x.binds) ⊎ (x.references ≡ x.binds + 1) → (x.references + 1 ≡ x.binds + 1) ⊎ (x.references + 1 ≡ x.binds + 1 + 1)
raised_references x (inl e) = inl (omega arith)
raised_references x (inr e) = inr (omega arith)

bound_either : (P : List ℕ) (made serial : ℕ) (x : Action) (b : Bool) → has_serial serial x ≡ b → IsCounted P made x → IsCounted (P ++ serial ∷ []) made (cond b (more_bound x) x)
bound_either P made serial x true at c =
    let same = eqb-true x.serial serial at in
    let e = times_push x.serial P serial ∙ ap (λ (b : Bool). times x.serial P + one_if b) (eq-eqb serial x.serial (sym same)) in
    let old = c.binds in record {
      serial = c.serial;
      index = c.index;
      params = c.params;
      binds = omega arith;
      references = raised_references x c.references;
    }
bound_either P made serial x false at c =
    let differs : (serial == x.serial) ≡ false = ne_eqb serial x.serial (λ e. false≢true (sym at ∙ eq-eqb x.serial serial (sym e))) in
    let e = times_push x.serial P serial ∙ ap (λ (b : Bool). times x.serial P + one_if b) differs in
    let old = c.binds in record {
      serial = c.serial;
      index = c.index;
      params = c.params;
      binds = omega arith;
      references = c.references;
    }

reference_either : (b : Bool) (x : Action) → HasReference x → HasReference (cond b (more_bound x) x)
reference_either true x has = omega arith
reference_either false x has = has

-- the new place names the action that has its serial
live_either : (P : List ℕ) (serial n : ℕ) (actions : List Action) (b : Bool) → (serial == n) ≡ b → list_any (has_serial serial) actions ≡ true → (0 < times n P → list_any (has_serial n) actions ≡ true)
    → 0 < times n (P ++ serial ∷ []) → list_any (has_serial n) actions ≡ true
live_either P serial n actions true is there more some = ap (λ k. list_any (has_serial k) actions) (sym (eqb-true serial n is)) ∙ there
live_either P serial n actions false is there more some =
    let e = times_push n P serial ∙ ap (λ (b : Bool). times n P + one_if b) is in more (omega arith)

pub held_bound : (P : List ℕ) (made : ℕ) (kind : Kind) (index serial : ℕ) (actions : List Action) → AreHeld P made actions → serial_of kind index actions ≡ Some serial
    → AreHeld (P ++ serial ∷ []) made (change_where (is_named kind index) more_bound actions)
held_bound P made kind index serial actions h is =
    let change : Action → Action = λ x. if is_named kind index x then more_bound x else x in
    let kept : (x : Action) → Keeps change x = keeps_where (is_named kind index) more_bound (λ x. (refl, refl, λ _. refl)) in record {
      counted = each_map (IsCounted (P ++ serial ∷ []) made) change actions
          (each_both (IsCounted P made) (λ x. is_named kind index x ≡ has_serial serial x) (λ x. IsCounted (P ++ serial ∷ []) made (change x))
          (λ x c e. bound_either P made serial x (is_named kind index x) (sym e) c) actions h.counted (named_by_serial kind index serial actions h.apart is));
      held = each_map HasReference change actions (each_weaker HasReference (λ x. HasReference (change x)) (λ x has. reference_either (is_named kind index x) x has) actions h.held);
      apart = apart_changed change kept actions h.apart;
      live = λ n some. live_changed change kept n actions ∙ live_either P serial n actions (serial == n) refl (serial_there kind index serial actions is) (h.live n) some;
    }
