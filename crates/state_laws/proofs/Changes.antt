-- Changes of actions that keep serials and names: other parameters, and counts raised or lowered.
use Rattle.std.proofs.Common.{◌≡◌, ℕ, ◌==◌, Bool, true, false, cond, if◌then◌else◌, List, map, refl, sym, ◌∙◌, ap, arith}
use Rattle.std.specs.List.{list_any}
use Rattle.act_kinds.specs.declared.params.Kind.{Kind}
use Rattle.act_kinds.specs.declared.params.Params.{Params}
use Rattle.act_kinds.specs.Params.{kind_of}
use Rattle.act_kinds.specs.Ranges.{AreParams}
use Rattle.filter_state.specs.States.{Action}
use Rattle.filter_state.specs.Actions.{is_named, has_serial, change_where}
use Rattle.filter_state.specs.Sound.{EachPair, StandApart}
use Rattle.filter_state.proofs.Pairs.{each_of, each_map, each_weaker, pairs_map, any_map, any_same}
use Rattle.state_laws.proofs.Tests.{named}
use Rattle.state_laws.proofs.Held.{IsCounted, AreHeld, HasReference}

-- what the change leaves of an action
pub record Keeps (change : Action → Action) (x : Action) : Type 0 where
  pub serial : (change x).serial ≡ x.serial
  pub index : (change x).index ≡ x.index
  pub kind : kind_of (change x).params ≡ kind_of x.params

keeps_either : (b : Bool) (x y : Action) → (y.serial ≡ x.serial) × (y.index ≡ x.index) × (b ≡ true → kind_of y.params ≡ kind_of x.params)
    → ((cond b y x).serial ≡ x.serial) × ((cond b y x).index ≡ x.index) × (kind_of (cond b y x).params ≡ kind_of x.params)
keeps_either true x y kept = (kept.0, kept.1, kept.2 refl)
keeps_either false x y kept = (refl, refl, refl)

-- a change of those that pass a test
pub keeps_where : (test : Action → Bool) (change : Action → Action)
    → ((x : Action) → ((change x).serial ≡ x.serial) × ((change x).index ≡ x.index) × (test x ≡ true → kind_of (change x).params ≡ kind_of x.params))
    → (x : Action) → Keeps (λ x. if test x then change x else x) x
keeps_where test change kept x = let e = keeps_either (test x) x (change x) (kept x) in record { serial = e.0; index = e.1; kind = e.2 }

apart_kept : (change : Action → Action) → ((x : Action) → Keeps change x) → (x y : Action) → StandApart x y → StandApart (change x) (change y)
apart_kept change kept x y apart =
    let kx = kept x in
    let ky = kept y in
    let sx = kx.serial in
    let sy = ky.serial in
    let less = apart.rising in record {
      rising = omega arith;
      names = λ of at. apart.names (sym kx.kind ∙ of ∙ ky.kind) (sym kx.index ∙ at ∙ ky.index);
    }

pub apart_changed : (change : Action → Action) → ((x : Action) → Keeps change x) → (actions : List Action) → EachPair StandApart actions → EachPair StandApart (map change actions)
apart_changed change kept actions apart = pairs_map StandApart change (apart_kept change kept) actions apart

pub live_changed : (change : Action → Action) → ((x : Action) → Keeps change x) → (serial : ℕ) (actions : List Action) → list_any (has_serial serial) (map change actions) ≡ list_any (has_serial serial) actions
live_changed change kept serial actions =
    any_map (has_serial serial) change actions
    ∙ any_same (λ x. has_serial serial (change x)) (has_serial serial) actions
    (each_of (λ x. has_serial serial (change x) ≡ has_serial serial x) (λ x. let k = kept x in ap (λ n. n == serial) k.serial) actions)

-- ---- other parameters of one kind
abbrev pub put_params : Params → Action → Action
put_params params action = record action { params = params }

params_either : (P : List ℕ) (made : ℕ) (params : Params) → AreParams params → (b : Bool) (x : Action) → IsCounted P made x → IsCounted P made (cond b (put_params params x) x)
params_either P made params given true x c = record { serial = c.serial; index = c.index; params = given; binds = c.binds; references = c.references }
params_either P made params given false x c = c

reference_either : (params : Params) (b : Bool) (x : Action) → HasReference x → HasReference (cond b (put_params params x) x)
reference_either params true x has = has
reference_either params false x has = has

pub held_params : (P : List ℕ) (made : ℕ) (kind : Kind) (index : ℕ) (params : Params) (actions : List Action) → kind ≡ kind_of params → AreParams params → AreHeld P made actions
    → AreHeld P made (change_where (is_named kind index) (put_params params) actions)
held_params P made kind index params actions of given h =
    let change : Action → Action = λ x. if is_named kind index x then put_params params x else x in
    let kept : (x : Action) → Keeps change x =
    keeps_where (is_named kind index) (put_params params) (λ x. (refl, refl, λ is. let n = named kind index x is in sym of ∙ sym n.0)) in record {
      counted = each_map (IsCounted P made) change actions
          (each_weaker (IsCounted P made) (λ x. IsCounted P made (change x)) (λ x c. params_either P made params given (is_named kind index x) x c) actions h.counted);
      held = each_map HasReference change actions
          (each_weaker HasReference (λ x. HasReference (change x)) (λ x has. reference_either params (is_named kind index x) x has) actions h.held);
      apart = apart_changed change kept actions h.apart;
      live = λ n some. live_changed change kept n actions ∙ h.live n some;
    }
