-- Carrying out one part of a plan.
use Rattle.std.proofs.Common.{◌≡◌, ℕ, ◌+◌, ◌<◌, ◌≤◌, Bool, true, false, List, [], ◌∷◌, ◌++◌, length, Option, Some, None, Result, Ok, Err, refl, sym, ◌∙◌, ap, subst, arith}
use Rattle.std.specs.Prelude.{find, option_map, IfSome, IsSome, is_some, nat_le, if◌then◌else◌}
use Rattle.std.specs.Option.{ok_or}
use Rattle.std.proofs.lemmas.Bool.{true≢false, false≢true}
use Rattle.std.proofs.lemmas.Bool.Decides.{nat_tests}
use Rattle.std.proofs.lemmas.List.{length-map}
use Rattle.act_kinds.specs.declared.params.Kind.{Kind}
use Rattle.act_kinds.specs.declared.params.Kind.TheVariants as kinds
use Rattle.act_kinds.specs.declared.params.Params.{Params}
use Rattle.act_kinds.specs.Params.{kind_of, kind_number, number_of_kind}
use Rattle.act_registry.specs.declared.entry.Entry.{Entry}
use Rattle.act_registry.specs.declared.fault.RegistryFault.{RegistryFault}
use Rattle.act_registry.specs.declared.fault.RegistryFault.TheVariants as faults
use Rattle.act_registry.specs.Entries as entries
use Rattle.act_registry.specs.Kept as registries
use Rattle.filter_state.specs.States.{Action}
use Rattle.filter_state.specs.Sound.{Each}
use Rattle.filter_state.proofs.Pairs.{each_weaker}
use Rattle.filter_state.specs.Actions.{is_named, change_where, more_bound, Made, serial_of}
use Rattle.action_plan.specs.declared.planned.PlannedAction.{PlannedAction}
use Rattle.action_plan.specs.Entries.{action_of, actions_of}
use Rattle.action_plan.specs.Plans.{made_of, carried_as, carried_one, carried, FitsAs, AreFit, makes}
use Rattle.action_plan.proofs.Mapped.{change_mapped}
use Rattle.action_plan.proofs.Entries.{same_name, used_live}
use Rattle.action_plan.proofs.Named.{serial_found, live_serial}
use Rattle.action_plan.proofs.Counts.{one_longer}

-- ---- binding
found_step : (P : Action → Type 0) (b : Bool) (e : Entry Params) (found : Option (Entry Params)) → P (action_of e) → IfSome found (λ x. P (action_of x)) →
    IfSome (if b then Some e else found) (λ x. P (action_of x))
found_step P true e found here rest = here
found_step P false e found here rest = rest

found_each : (P : Action → Type 0) (test : Entry Params → Bool) (es : List (Entry Params)) → Each P (actions_of es) → IfSome (find test es) (λ x. P (action_of x))
found_each P test [] all = tt
found_each P test (e ∷ es) all = found_step P (test e) e (find test es) all.0 (found_each P test es all.1)

pub bind_room : (number index : ℕ) (es : List (Entry Params)) → Each (λ (action : Action). action.references < 4294967295) (actions_of es) →
    IfSome (find (entries.is_named kind_number number index) es) (λ e. e.references < 4294967295)
bind_room number index es all = found_each (λ (action : Action). action.references < 4294967295) (entries.is_named kind_number number index) es all

abbrev is_refused : {X : Type 0} → Result X RegistryFault → Bool
is_refused (Ok x) = false
is_refused (Err fault) = true

some_ok : (o : Option ℕ) → IsSome o → is_refused (ok_or o faults.NoSuchAction) ≡ false
some_ok (Some serial) some = refl
some_ok None some = absurd (false≢true some)

pub bind_found : (kind : Kind) (index number : ℕ) (es : List (Entry Params)) (fault : RegistryFault) → number ≡ number_of_kind kind → IsSome (serial_of kind index (actions_of es)) →
    Err fault ≡ ok_or (option_map (λ (e : Entry Params). e.serial) (find (entries.is_named kind_number number index) es)) faults.NoSuchAction → ⊥
bind_found kind index number es fault is there refused =
    let found : option_map (λ (e : Entry Params). e.serial) (find (entries.is_named kind_number number index) es) ≡ serial_of kind index (actions_of es) =
    ap (λ n. option_map (λ (e : Entry Params). e.serial) (find (entries.is_named kind_number n index) es)) is ∙ serial_found kind index es in
    true≢false (ap is_refused refused ∙ ap (λ o. is_refused (ok_or o faults.NoSuchAction)) found ∙ some_ok (serial_of kind index (actions_of es)) there)

pub bound_actions : (kind : Kind) (index number : ℕ) (es new : List (Entry Params)) → number ≡ number_of_kind kind →
    new ≡ entries.change_where (entries.is_named kind_number number index) entries.bound_more es →
    actions_of new ≡ change_where (is_named kind index) more_bound (actions_of es)
bound_actions kind index number es new is changed =
    ap actions_of (changed ∙ ap (λ n. entries.change_where (entries.is_named kind_number n index) entries.bound_more es) is)
    ∙ change_mapped action_of (entries.is_named kind_number (number_of_kind kind) index) (is_named kind index) entries.bound_more more_bound (same_name kind index) (λ e. refl) es

-- ---- making
room_step : (taken full counted : Bool) (spare : ℕ) (fault : RegistryFault) → taken ≡ false → full ≡ false → counted ≡ false → 0 < spare →
    registries.Told {T = ℕ × ℕ} (if taken then Some faults.ActionExists else (if full then Some faults.ActionsFull else (if counted then Some faults.CountersFull else None))) spare (Err fault) → ⊥
room_step true full counted spare fault new few in_run room told = absurd (true≢false new)
room_step false true counted spare fault new few in_run room told = absurd (true≢false few)
room_step false false true spare fault new few in_run room told = absurd (true≢false in_run)
room_step false false false spare fault new few in_run room told = absurd (omega (arith, room, told.1))

below : (most n : ℕ) → n < most → nat_le most n ≡ false
below most n less = grind (arith, nat_tests, less)

pub make_room : (params : Params) (index : ℕ) (r : registries.Kept Params) (fault : RegistryFault) → serial_of (kind_of params) index (actions_of r.entries) ≡ None →
    0 < r.spare → length r.entries < 1024 → r.made < 16384 →
    registries.Told {T = ℕ × ℕ} (registries.make_refusal kind_number (kind_number params) (Some index) r) r.spare (Err fault) → ⊥
make_room params index r fault new room few in_run told =
    room_step (entries.is_used kind_number (kind_number params) r.entries index) (nat_le 1024 (length r.entries)) (nat_le 16384 r.made) r.spare fault
    (used_live (kind_of params) r.entries index ∙ live_serial (kind_of params) index (actions_of r.entries) ∙ ap (λ (o : Option ℕ). is_some o) new)
    (below 1024 (length r.entries) few) (below 16384 r.made in_run) room told

-- ---- one part after the other
pub made_is : (m : Made) (r : registries.Kept Params) → actions_of r.entries ≡ m.actions → r.made ≡ m.made → made_of r ≡ m
made_is m r actions made =
    ap (λ (a : List Action). record { actions = a; made = r.made }) actions ∙ ap (λ (n : ℕ). record { actions = m.actions; made = n }) made

each_more : (P : Action → Type 0) (actions : List Action) (a : Action) → Each P actions → P a → Each P (actions ++ (a ∷ []))
each_more P [] a all new = (new, tt)
each_more P (b ∷ actions) a all new = (all.0, each_more P actions a all.1 new)

each_bound_step : (P : Action → Type 0) (b : Bool) (a : Action) → P a → P (more_bound a) → P (if b then more_bound a else a)
each_bound_step P true a same more = more
each_bound_step P false a same more = same

each_bound : (test : Action → Bool) (rest most : ℕ) (actions : List Action) → Each (λ (a : Action). a.references + (rest + 1) < most) actions →
    Each (λ (a : Action). a.references + rest < most) (change_where test more_bound actions)
each_bound test rest most [] all = tt
each_bound test rest most (a ∷ actions) all =
    (each_bound_step (λ (x : Action). x.references + rest < most) (test a) a (omega (arith, all.0)) (omega (arith, all.0)), each_bound test rest most actions all.1)

pub references_one : (m : Made) (p : PlannedAction) (given : Option Params) (rest : ℕ) → rest ≤ 16 →
    Each (λ (a : Action). a.references + (rest + 1) < 4294967295) m.actions → Each (λ (a : Action). a.references + rest < 4294967295) (carried_as m p given).actions
references_one m p None rest short all = each_bound (is_named p.kind p.index) rest 4294967295 m.actions all
references_one m p (Some params) rest short all =
    each_more (λ (a : Action). a.references + rest < 4294967295) m.actions (record { serial = m.made + 1; index = p.index; params = params; references = 1; binds = 1 })
    (each_weaker (λ (a : Action). a.references + (rest + 1) < 4294967295) (λ (a : Action). a.references + rest < 4294967295) (λ a less. omega (arith, less)) m.actions all)
    (omega (arith, short))

references_room : (rest : ℕ) (actions : List Action) → Each (λ (a : Action). a.references + (rest + 1) < 4294967295) actions → Each (λ (a : Action). a.references < 4294967295) actions
references_room rest actions all =
    each_weaker (λ (a : Action). a.references + (rest + 1) < 4294967295) (λ (a : Action). a.references < 4294967295) (λ a less. omega (arith, less)) actions all

pub one_more_entry : (r new : registries.Kept Params) (p : PlannedAction) → actions_of new.entries ≡ (carried_one (made_of r) p).actions → length new.entries ≡ length r.entries + makes p
one_more_entry r new p is =
    sym (length-map new.entries action_of) ∙ ap length is ∙ one_longer (made_of r) p p.params ∙ ap (λ n. n + makes p) (length-map r.entries action_of)

-- ---- the rest of a plan
pub next_fit : (m : Made) (p : PlannedAction) (parts rest : List PlannedAction) (new : registries.Kept Params) → parts ≡ p ∷ rest →
    made_of new ≡ carried_one m p → AreFit m parts → AreFit (made_of new) rest
next_fit m p parts rest new front is fit = subst (λ m'. AreFit m' rest) (sym is) (subst (AreFit m) front fit).1

pub next_fits : (m : Made) (p : PlannedAction) (parts rest : List PlannedAction) → parts ≡ p ∷ rest → AreFit m parts → FitsAs m p p.params
next_fits m p parts rest front fit = (subst (AreFit m) front fit).0

pub next_same : (m all : Made) (p : PlannedAction) (parts rest : List PlannedAction) (new : registries.Kept Params) → parts ≡ p ∷ rest →
    made_of new ≡ carried_one m p → carried m parts ≡ all → carried (made_of new) rest ≡ all
next_same m all p parts rest new front is same = ap (λ m'. carried m' rest) is ∙ ap (carried m) (sym front) ∙ same

pub references_next : (m : Made) (p : PlannedAction) (parts rest : List PlannedAction) (new : registries.Kept Params) → parts ≡ p ∷ rest → length rest ≤ 16 →
    made_of new ≡ carried_one m p → Each (λ (a : Action). a.references + length parts < 4294967295) m.actions →
    Each (λ (a : Action). a.references + length rest < 4294967295) (actions_of new.entries)
references_next m p parts rest new front short is all =
    subst (λ (m' : Made). Each (λ (a : Action). a.references + length rest < 4294967295) m'.actions) (sym is)
    (references_one m p p.params (length rest) short (subst (λ n. Each (λ (a : Action). a.references + n < 4294967295) m.actions) long all))
  where
    long : length parts ≡ length rest + 1
    long = ap length front ∙ omega arith

pub references_here : (actions : List Action) (p : PlannedAction) (parts rest : List PlannedAction) → parts ≡ p ∷ rest →
    Each (λ (a : Action). a.references + length parts < 4294967295) actions → Each (λ (a : Action). a.references < 4294967295) actions
references_here actions p parts rest front all =
    let long : length parts ≡ length rest + 1 = ap length front ∙ omega arith in
    references_room (length rest) actions (subst (λ n. Each (λ (a : Action). a.references + n < 4294967295) actions) long all)

-- what stands for a part behind a list's end
abbrev pub no_part : PlannedAction
no_part = record { kind = kinds.Gact; index = 0; serial = 0; params = None }
