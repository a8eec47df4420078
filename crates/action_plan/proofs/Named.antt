-- Which serial a kind and index have: binding changes no name, and a new action is one name more.
use Rattle.std.proofs.Common.{◌≡◌, ℕ, ◌+◌, ◌==◌, Bool, true, false, cond, ◌&&◌, ◌||◌, List, [], ◌∷◌, ◌++◌, Option, Some, None, refl, sym, ◌∙◌, ap}
use Rattle.std.specs.Prelude.{find, option_map, is_some, if◌then◌else◌}
use Rattle.act_kinds.specs.declared.params.Kind.{Kind}
use Rattle.act_kinds.specs.declared.params.Params.{Params}
use Rattle.act_kinds.specs.Params.{number_of_kind, kind_number}
use Rattle.act_registry.specs.declared.entry.Entry.{Entry}
use Rattle.act_registry.specs.Entries as entries
use Rattle.act_registry.specs.Kept as registries
use Rattle.filter_state.specs.States.{Action}
use Rattle.filter_state.specs.Actions.{kind_eq, is_named, is_live, change_where, more_bound, Made, serial_of}
use Rattle.action_plan.specs.declared.planned.PlannedAction.{PlannedAction}
use Rattle.action_plan.specs.Entries.{actions_of}
use Rattle.action_plan.specs.Plans.{made_of, carried_as, carried_one, carried, FitsAs, AreFit, is_to_make, serial_to_make}
use Rattle.action_plan.proofs.Entries.{same_name}

-- a serial, or else another
abbrev pub or_serial : Option ℕ → Option ℕ → Option ℕ
or_serial (Some serial) rest = Some serial
or_serial None rest = rest

or_none : (o : Option ℕ) → or_serial o None ≡ o
or_none None = refl
or_none (Some serial) = refl

grouped : (a b c : Option ℕ) → or_serial (or_serial a b) c ≡ or_serial a (or_serial b c)
grouped None b c = refl
grouped (Some serial) b c = refl

-- ---- the names of a registry's entries
serial_step : (b : Bool) (e : Entry Params) (found : Option (Entry Params)) (serial : Option ℕ) → option_map (λ (x : Entry Params). x.serial) found ≡ serial →
    option_map (λ (x : Entry Params). x.serial) (cond b (Some e) found) ≡ cond b (Some e.serial) serial
serial_step true e found serial same = refl
serial_step false e found serial same = same

pub serial_found : (kind : Kind) (index : ℕ) (es : List (Entry Params)) →
    option_map (λ (e : Entry Params). e.serial) (find (entries.is_named kind_number (number_of_kind kind) index) es) ≡ serial_of kind index (actions_of es)
serial_found kind index [] = refl
serial_found kind index (e ∷ es) =
    serial_step (entries.is_named kind_number (number_of_kind kind) index e) e (find (entries.is_named kind_number (number_of_kind kind) index) es)
    (serial_of kind index (actions_of es)) (serial_found kind index es)
    ∙ ap (λ b. cond b (Some e.serial) (serial_of kind index (actions_of es))) (same_name kind index e)

live_step : (b rest : Bool) (serial : ℕ) (first : Option ℕ) → rest ≡ is_some first → (b || rest) ≡ is_some (cond b (Some serial) first)
live_step true rest serial first e = refl
live_step false rest serial first e = e

pub live_serial : (kind : Kind) (index : ℕ) (actions : List Action) → is_live kind index actions ≡ is_some (serial_of kind index actions)
live_serial kind index [] = refl
live_serial kind index (a ∷ actions) =
    live_step (is_named kind index a) (is_live kind index actions) a.serial (serial_of kind index actions) (live_serial kind index actions)

-- ---- one part of a plan
bound_step : (b : Bool) (kind : Kind) (index : ℕ) (a : Action) (x y : Option ℕ) → x ≡ y →
    (if is_named kind index (if b then more_bound a else a) then Some (if b then more_bound a else a).serial else x) ≡ (if is_named kind index a then Some a.serial else y)
bound_step true kind index a x y e = ap (λ o. if is_named kind index a then Some a.serial else o) e
bound_step false kind index a x y e = ap (λ o. if is_named kind index a then Some a.serial else o) e

serial_bound : (test : Action → Bool) (kind : Kind) (index : ℕ) (actions : List Action) →
    serial_of kind index (change_where test more_bound actions) ≡ serial_of kind index actions
serial_bound test kind index [] = refl
serial_bound test kind index (a ∷ actions) =
    bound_step (test a) kind index a (serial_of kind index (change_where test more_bound actions)) (serial_of kind index actions) (serial_bound test kind index actions)

more_step : (b : Bool) (serial : ℕ) (rest o : Option ℕ) (x : Option ℕ) → rest ≡ or_serial o x → cond b (Some serial) rest ≡ or_serial (cond b (Some serial) o) x
more_step true serial rest o x e = refl
more_step false serial rest o x e = e

serial_more : (kind : Kind) (index : ℕ) (actions : List Action) (new : Action) →
    serial_of kind index (actions ++ (new ∷ [])) ≡ or_serial (serial_of kind index actions) (if is_named kind index new then Some new.serial else None)
serial_more kind index [] new = refl
serial_more kind index (a ∷ actions) new =
    more_step (is_named kind index a) a.serial (serial_of kind index (actions ++ (new ∷ []))) (serial_of kind index actions)
    (if is_named kind index new then Some new.serial else None) (serial_more kind index actions new)

serial_one : (kind : Kind) (index : ℕ) (m : Made) (p : PlannedAction) (given : Option Params) → FitsAs m p given →
    serial_of kind index (carried_as m p given).actions
    ≡ or_serial (serial_of kind index m.actions) (if is_some given && (kind_eq p.kind kind && p.index == index) then Some p.serial else None)
serial_one kind index m p None fits = serial_bound (is_named p.kind p.index) kind index m.actions ∙ sym (or_none (serial_of kind index m.actions))
serial_one kind index m p (Some params) fits =
    serial_more kind index m.actions (record { serial = m.made + 1; index = p.index; params = params; references = 1; binds = 1 })
    ∙ ap (λ k. or_serial (serial_of kind index m.actions) (if kind_eq k kind && p.index == index then Some (m.made + 1) else None)) fits.0
    ∙ ap (λ n. or_serial (serial_of kind index m.actions) (if kind_eq p.kind kind && p.index == index then Some n else None)) (sym fits.2)

-- ---- a plan
to_make_step : (b : Bool) (serial : ℕ) (rest : Option ℕ) → or_serial (if b then Some serial else None) rest ≡ (if b then Some serial else rest)
to_make_step true serial rest = refl
to_make_step false serial rest = refl

pub serial_carried : (kind : Kind) (index : ℕ) (m : Made) (plan : List PlannedAction) → AreFit m plan →
    serial_of kind index (carried m plan).actions ≡ or_serial (serial_of kind index m.actions) (serial_to_make kind index plan)
serial_carried kind index m [] fit = sym (or_none (serial_of kind index m.actions))
serial_carried kind index m (p ∷ plan) fit =
    serial_carried kind index (carried_one m p) plan fit.1
    ∙ ap (λ o. or_serial o (serial_to_make kind index plan)) (serial_one kind index m p p.params fit.0)
    ∙ grouped (serial_of kind index m.actions) (if is_to_make kind index p then Some p.serial else None) (serial_to_make kind index plan)
    ∙ ap (or_serial (serial_of kind index m.actions)) (to_make_step (is_to_make kind index p) p.serial (serial_to_make kind index plan))

-- ---- an entry that the registry found, or didn't
pub here_carried : (kind : Kind) (index number : ℕ) (r : registries.Kept Params) (plan : List PlannedAction) (e : Entry Params) → number ≡ number_of_kind kind →
    AreFit (made_of r) plan → Some e ≡ find (entries.is_named kind_number number index) r.entries →
    Some e.serial ≡ serial_of kind index (carried (made_of r) plan).actions
here_carried kind index number r plan e is fit found = from_here ∙ same
  where
    from_here : Some e.serial ≡ serial_of kind index (actions_of r.entries)
    from_here = ap (option_map (λ (x : Entry Params). x.serial)) (found ∙ ap (λ n. find (entries.is_named kind_number n index) r.entries) is) ∙ serial_found kind index r.entries

    same : serial_of kind index (actions_of r.entries) ≡ serial_of kind index (carried (made_of r) plan).actions
    same = sym from_here ∙ ap (λ o. or_serial o (serial_to_make kind index plan)) from_here ∙ sym (serial_carried kind index (made_of r) plan fit)

pub not_here_carried : (kind : Kind) (index number : ℕ) (r : registries.Kept Params) (plan : List PlannedAction) → number ≡ number_of_kind kind →
    AreFit (made_of r) plan → None ≡ find (entries.is_named kind_number number index) r.entries →
    serial_to_make kind index plan ≡ serial_of kind index (carried (made_of r) plan).actions
not_here_carried kind index number r plan is fit found =
    ap (λ o. or_serial o (serial_to_make kind index plan))
    (ap (option_map (λ (x : Entry Params). x.serial)) (found ∙ ap (λ n. find (entries.is_named kind_number n index) r.entries) is) ∙ serial_found kind index r.entries)
    ∙ sym (serial_carried kind index (made_of r) plan fit)
