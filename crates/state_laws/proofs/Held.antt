-- Actions whose binds are how often a list of places names them.
use Rattle.std.proofs.Common.{◌≡◌, ℕ, zero, suc, ◌+◌, ◌<◌, ◌≤◌, ◌==◌, ◌⊎◌, Bool, true, false, cond, List, [], ◌∷◌, ◌++◌, refl, sym, ◌∙◌, ap, arith, eq-eqb, eqb-true}
use Rattle.std.specs.List.{list_any}
use Rattle.std.proofs.lemmas.Bool.{false≢true, ne_eqb, or_left, or_right}
use Rattle.std.proofs.lemmas.List.Folds.{list_any-append}
use Rattle.act_kinds.specs.declared.params.Params.{Params}
use Rattle.act_kinds.specs.Params.{kind_of}
use Rattle.act_kinds.specs.Ranges.{AreParams}
use Rattle.filter_state.specs.States.{Action}
use Rattle.filter_state.specs.Lines.{IsIndex}
use Rattle.filter_state.specs.Actions.{is_named, has_serial}
use Rattle.filter_state.specs.Sound.{Each, EachPair, StandApart}
use Rattle.filter_state.proofs.Pairs.{each_weaker, each_both, each_append, pairs_push, found, any_first}
use Rattle.state_laws.proofs.Tests.{named_from}
use Rattle.filter_state.proofs.Times.{times, times_push}

-- one action, apart from that it has a reference
pub record IsCounted (P : List ℕ) (made : ℕ) (action : Action) : Type 0 where
  pub serial : (1 ≤ action.serial) × (action.serial ≤ made)
  pub index : IsIndex action.index
  pub params : AreParams action.params
  pub binds : action.binds ≡ times action.serial P
  pub references : (action.references ≡ action.binds) ⊎ (action.references ≡ action.binds + 1)

abbrev pub HasReference : Action → Type 0
HasReference action = 1 ≤ action.references

-- and each place names one
pub record AreHeld (P : List ℕ) (made : ℕ) (actions : List Action) : Type 0 where
  pub counted : Each (IsCounted P made) actions
  pub held : Each HasReference actions
  pub apart : EachPair StandApart actions
  pub live : (serial : ℕ) → 0 < times serial P → list_any (has_serial serial) actions ≡ true

-- where one passes, what holds of each holds of one that passes
pub one_passes : {X : Type 0} (Q : X → Type 0) (test : X → Bool) (xs : List X) → Each Q xs → list_any test xs ≡ true → (y : X) × Q y × (test y ≡ true)
one_passes Q test xs all some =
    let first = any_first test xs some in
    let there = found Q test xs first.0 all first.1 in
    (first.0, there.0, there.1)

-- ---- the order of the places doesn't count
counted_same : (P Q : List ℕ) (made : ℕ) → ((n : ℕ) → times n Q ≡ times n P) → (x : Action) → IsCounted P made x → IsCounted Q made x
counted_same P Q made same x c =
    record { serial = c.serial; index = c.index; params = c.params; binds = c.binds ∙ sym (same x.serial); references = c.references }

pub held_same : (P Q : List ℕ) (made : ℕ) (actions : List Action) → ((n : ℕ) → times n Q ≡ times n P) → AreHeld P made actions → AreHeld Q made actions
held_same P Q made actions same h = record {
  counted = each_weaker (IsCounted P made) (IsCounted Q made) (counted_same P Q made same) actions h.counted;
  held = h.held;
  apart = h.apart;
  live = λ n some. h.live n (let e = same n in omega arith);
}

-- ---- a serial that wasn't given yet has no place
serial_within : (P : List ℕ) (made n : ℕ) (actions : List Action) → AreHeld P made actions → list_any (has_serial n) actions ≡ true → n ≤ made
serial_within P made n actions h some =
    let one = one_passes (IsCounted P made) (has_serial n) actions h.counted some in
    let at = eqb-true one.0.serial n one.2 in
    let low = one.1.serial in
    omega arith

fresh_from : (P : List ℕ) (made n : ℕ) (actions : List Action) → AreHeld P made actions → made < n → (k : ℕ) → times n P ≡ k → k ≡ 0
fresh_from P made n actions h more zero is = refl
fresh_from P made n actions h more (suc k) is = let low = serial_within P made n actions h (h.live n (omega arith)) in absurd (omega arith)

pub fresh : (P : List ℕ) (made n : ℕ) (actions : List Action) → AreHeld P made actions → made < n → times n P ≡ 0
fresh P made n actions h more = fresh_from P made n actions h more (times n P) refl

-- ---- an action more
abbrev pub new_action : ℕ → ℕ → Params → ℕ → Action
new_action serial index params binds = record { serial = serial; index = index; params = params; references = 1; binds = binds }

-- a list of places that has the new serial so many times more
abbrev pub NamesMore : List ℕ → List ℕ → ℕ → ℕ → Type 0
NamesMore P Q serial binds = (n : ℕ) → times n Q ≡ times n P + cond (serial == n) binds 0

counted_more : (P Q : List ℕ) (made binds : ℕ) → NamesMore P Q (made + 1) binds → (x : Action) → IsCounted P made x → IsCounted Q (made + 1) x
counted_more P Q made binds more x c =
    let low = c.serial in
    let differs : (made + 1 == x.serial) ≡ false = ne_eqb (made + 1) x.serial (λ e. absurd (omega arith)) in
    let e = more x.serial ∙ ap (λ (b : Bool). times x.serial P + cond b binds 0) differs in
    let old = c.binds in record {
      serial = (omega arith, omega arith);
      index = c.index;
      params = c.params;
      binds = omega arith;
      references = c.references;
    }

stands_apart : (P : List ℕ) (made index binds : ℕ) (params : Params) (x : Action) → IsCounted P made x → is_named (kind_of params) index x ≡ false
    → StandApart x (new_action (made + 1) index params binds)
stands_apart P made index binds params x c unnamed = let low = c.serial in record {
  rising = omega arith;
  names = λ of at. false≢true (sym unnamed ∙ named_from (kind_of params) index x of at);
}

live_more : (P Q : List ℕ) (made binds index : ℕ) (params : Params) (actions : List Action) → AreHeld P made actions → NamesMore P Q (made + 1) binds → (n : ℕ) (b : Bool) → (made + 1 == n) ≡ b
    → 0 < times n Q → list_any (has_serial n) (actions ++ new_action (made + 1) index params binds ∷ []) ≡ true
live_more P Q made binds index params actions h more n true is some =
    list_any-append (has_serial n) actions (new_action (made + 1) index params binds ∷ [])
    ∙ or_right (list_any (has_serial n) actions) (list_any (has_serial n) (new_action (made + 1) index params binds ∷ [])) (or_left (made + 1 == n) false is)
live_more P Q made binds index params actions h more n false is some =
    let e = more n ∙ ap (λ (b : Bool). times n P + cond b binds 0) is in
    list_any-append (has_serial n) actions (new_action (made + 1) index params binds ∷ [])
    ∙ or_left (list_any (has_serial n) actions) (list_any (has_serial n) (new_action (made + 1) index params binds ∷ [])) (h.live n (omega arith))

new_counted : (P Q : List ℕ) (made index binds : ℕ) (params : Params) (actions : List Action) → AreHeld P made actions → NamesMore P Q (made + 1) binds → IsIndex index → AreParams params
    → (1 ≡ binds) ⊎ (1 ≡ binds + 1) → IsCounted Q (made + 1) (new_action (made + 1) index params binds)
new_counted P Q made index binds params actions h more at given own =
    let none = fresh P made (made + 1) actions h (omega arith) in
    let here = more (made + 1) ∙ ap (λ (b : Bool). times (made + 1) P + cond b binds 0) (eq-eqb (made + 1) (made + 1) refl) in record {
      serial = (omega arith, omega arith);
      index = at;
      params = given;
      binds = omega arith;
      references = own;
    }

pub held_more : (P Q : List ℕ) (made index binds : ℕ) (params : Params) (actions : List Action) → AreHeld P made actions → NamesMore P Q (made + 1) binds → IsIndex index → AreParams params
    → (1 ≡ binds) ⊎ (1 ≡ binds + 1) → Each (λ x. is_named (kind_of params) index x ≡ false) actions
    → AreHeld Q (made + 1) (actions ++ new_action (made + 1) index params binds ∷ [])
held_more P Q made index binds params actions h more at given own unnamed =
    let new : Action = new_action (made + 1) index params binds in record {
      counted = each_append (IsCounted Q (made + 1)) actions (new ∷ [])
          (each_weaker (IsCounted P made) (IsCounted Q (made + 1)) (counted_more P Q made binds more) actions h.counted) (new_counted P Q made index binds params actions h more at given own, tt);
      held = each_append HasReference actions (new ∷ []) h.held (omega arith, tt);
      apart = pairs_push StandApart actions new h.apart
          (each_both (IsCounted P made) (λ x. is_named (kind_of params) index x ≡ false) (λ x. StandApart x new) (stands_apart P made index binds params) actions h.counted unnamed);
      live = λ n some. live_more P Q made binds index params actions h more n (made + 1 == n) refl some;
    }

-- one that a place names, and one that none does
pub names_one : (P : List ℕ) (serial : ℕ) → NamesMore P (P ++ serial ∷ []) serial 1
names_one P serial n = times_push n P serial

same_either : (b : Bool) (k : ℕ) → k ≡ k + cond b 0 0
same_either true k = omega arith
same_either false k = omega arith

pub names_none : (P : List ℕ) (serial : ℕ) → NamesMore P P serial 0
names_none P serial n = same_either (serial == n) (times n P)
