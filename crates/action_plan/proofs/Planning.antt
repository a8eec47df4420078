-- Planning one action more is resolving one action more, and the plan still fits.
use Rattle.std.proofs.Common.{◌≡◌, ℕ, ◌+◌, List, [], ◌∷◌, ◌++◌, length, Option, Some, None, Result, Ok, Err, refl, sym, ◌∙◌, ap, subst}
use Rattle.std.specs.Prelude.{IfSome}
use Rattle.std.proofs.lemmas.List.{map-append, length-append}
use Rattle.act_kinds.specs.declared.params.Kind.{Kind}
use Rattle.act_kinds.specs.declared.params.Kind.TheVariants as kinds
use Rattle.act_kinds.specs.declared.params.Params.{Params}
use Rattle.act_kinds.specs.Params.{kind_of}
use Rattle.filter_state.specs.declared.action_line.ActionLine.{ActionLine}
use Rattle.filter_state.specs.declared.refusal.Refusal.{Refusal}
use Rattle.filter_state.specs.Lines.{IsFilterAction, IsOfFilter}
use Rattle.filter_state.specs.Actions.{Made, serial_of, index_or_free, Resolved, resolved_by, bound_or_made, resolved, and_then}
use Rattle.action_plan.specs.declared.planned.PlannedAction.{PlannedAction}
use Rattle.action_plan.proofs.Counts.{made_carried}
use Rattle.action_plan.specs.Plans.{carried_one, carried, FitsAs, AreFit, serials_of, made_by, made_or_refused, planned_at, planned_by, PlanTold, AddTold}

-- what is resolved where a plan was carried out
abbrev pub resolved_to : Made → List PlannedAction → Resolved
resolved_to m plan = record { so_far = carried m plan; serials = serials_of plan }

-- ---- one part behind a plan
pub carried_more : (m : Made) (plan : List PlannedAction) (p : PlannedAction) → carried m (plan ++ (p ∷ [])) ≡ carried_one (carried m plan) p
carried_more m [] p = refl
carried_more m (q ∷ plan) p = carried_more (carried_one m q) plan p

pub fit_more : (m : Made) (plan : List PlannedAction) (p : PlannedAction) → AreFit m plan → FitsAs (carried m plan) p p.params → AreFit m (plan ++ (p ∷ []))
fit_more m [] p fit fits = (fits, tt)
fit_more m (q ∷ plan) p fit fits = (fit.0, fit_more (carried_one m q) plan p fit.1 fits)

resolved_more : (m : Made) (plan : List PlannedAction) (p : PlannedAction) → resolved_to m (plan ++ (p ∷ [])) ≡ record { so_far = carried_one (carried m plan) p; serials = serials_of plan ++ (p.serial ∷ []) }
resolved_more m plan p =
    ap (λ (made : Made). record { so_far = made; serials = serials_of (plan ++ (p ∷ [])) }) (carried_more m plan p)
    ∙ ap (λ (serials : List ℕ). record { so_far = carried_one (carried m plan) p; serials = serials }) (map-append (λ (part : PlannedAction). part.serial) plan (p ∷ []))

-- ---- the part that a line gives
abbrev as_resolved : List ℕ → Made → Result PlannedAction Refusal → Result Resolved Refusal
as_resolved serials m (Ok p) = Ok (record { so_far = carried_one m p; serials = serials ++ (p.serial ∷ []) })
as_resolved serials m (Err refusal) = Err refusal

same_at : (m : Made) (serials : List ℕ) (line : ActionLine) (index : ℕ) (found : Option ℕ) (given : Option Params) →
    bound_or_made (record { so_far = m; serials = serials }) line index found given ≡ as_resolved serials m (planned_at m line.kind index found given)
same_at m serials line index (Some serial) given = refl
same_at m serials line index None (Some params) = refl
same_at m serials line index None None = refl

same_by : (m : Made) (serials : List ℕ) (line : ActionLine) → resolved_by (record { so_far = m; serials = serials }) line ≡ as_resolved serials m (planned_by m line)
same_by m serials line =
    let index : ℕ = index_or_free line.index line.kind m.actions in
    same_at m serials line index (serial_of line.kind index m.actions) line.params

abbrev as_err : Refusal → Result Resolved Refusal
as_err refusal = Err refusal

abbrev as_ok : Resolved → Result Resolved Refusal
as_ok r = Ok r

pub planned_ok : (m : Made) (plan : List PlannedAction) (line : ActionLine) (p : PlannedAction) → planned_by (carried m plan) line ≡ Ok p →
    resolved_by (resolved_to m plan) line ≡ Ok (resolved_to m (plan ++ (p ∷ [])))
planned_ok m plan line p is =
    same_by (carried m plan) (serials_of plan) line ∙ ap (as_resolved (serials_of plan) (carried m plan)) is ∙ ap as_ok (sym (resolved_more m plan p))

pub planned_err : (m : Made) (plan : List PlannedAction) (line : ActionLine) (why : Refusal) → planned_by (carried m plan) line ≡ Err why →
    resolved_by (resolved_to m plan) line ≡ Err why
planned_err m plan line why is = same_by (carried m plan) (serials_of plan) line ∙ ap (as_resolved (serials_of plan) (carried m plan)) is

-- ---- it fits
abbrev FitsIf : Made → Result PlannedAction Refusal → Type 0
FitsIf m (Ok p) = FitsAs m p p.params
FitsIf m (Err refusal) = Unit {0}

fits_at : (m : Made) (kind : Kind) (index : ℕ) (found : Option ℕ) (given : Option Params) → serial_of kind index m.actions ≡ found →
    IfSome given (λ params. kind_of params ≡ kind) → FitsIf m (planned_at m kind index found given)
fits_at m kind index (Some serial) given is full = is
fits_at m kind index None (Some params) is full = (full, is, refl)
fits_at m kind index None None is full = tt

in_full : (line : ActionLine) (given : Option Params) → IsOfFilter given line → IfSome given (λ params. kind_of params ≡ line.kind)
in_full line (Some params) is = sym is.0
in_full line None is = tt

pub planned_fits : (m : Made) (line : ActionLine) (p : PlannedAction) → IsFilterAction line → planned_by m line ≡ Ok p → FitsAs m p p.params
planned_fits m line p filter is =
    let index : ℕ = index_or_free line.index line.kind m.actions in
    subst (FitsIf m) is (fits_at m line.kind index (serial_of line.kind index m.actions) line.params refl (in_full line line.params filter))

-- ---- an action that isn't there
pub made_planned : (m : Made) (plan : List PlannedAction) (kind : Kind) (index serial made : ℕ) (given : Option Params) (params : Params) →
    given ≡ Some params → serial ≡ m.made + made + 1 → made ≡ made_by plan →
    Ok (record { kind = kind; index = index; serial = serial; params = Some params }) ≡ made_or_refused (carried m plan) kind index given
made_planned m plan kind index serial made given params is next so_many =
    let same : serial ≡ (carried m plan).made + 1 = next ∙ ap (λ n. m.made + n + 1) so_many ∙ ap (λ n. n + 1) (sym (made_carried m plan)) in
    ap (λ (n : ℕ). Ok (record { kind = kind; index = index; serial = n; params = Some params })) same
    ∙ ap (made_or_refused (carried m plan) kind index) (sym is)

-- ---- a line of a list
next_by : (m : Made) (plan new : List PlannedAction) (line : ActionLine) (lines : List ActionLine) (planned : Result PlannedAction Refusal) →
    planned_by (carried m plan) line ≡ planned → AddTold planned plan new (Ok tt) →
    resolved (resolved_to m plan) (line ∷ lines) ≡ resolved (resolved_to m new) lines
next_by m plan new line lines (Ok p) is told =
    ap (and_then (λ next. resolved next lines)) (planned_ok m plan line p is) ∙ ap (λ plan'. resolved (resolved_to m plan') lines) (sym told)
next_by m plan new line lines (Err why) is told = elim told [ ]

pub next_resolved : (m : Made) (plan new : List PlannedAction) (line : ActionLine) (lines rest : List ActionLine) (all : Result Resolved Refusal) → lines ≡ line ∷ rest →
    AddTold (planned_by (carried m plan) line) plan new (Ok tt) → resolved (resolved_to m plan) lines ≡ all → resolved (resolved_to m new) rest ≡ all
next_resolved m plan new line lines rest all front told same =
    sym (next_by m plan new line rest (planned_by (carried m plan) line) refl told) ∙ ap (resolved (resolved_to m plan)) (sym front) ∙ same

refused_by : (m : Made) (plan new : List PlannedAction) (line : ActionLine) (lines : List ActionLine) (planned : Result PlannedAction Refusal) (refusal : Refusal) →
    planned_by (carried m plan) line ≡ planned → AddTold planned plan new (Err refusal) → resolved (resolved_to m plan) (line ∷ lines) ≡ Err refusal
refused_by m plan new line lines (Ok p) refusal is told = elim told [ ]
refused_by m plan new line lines (Err why) refusal is told =
    ap (and_then (λ next. resolved next lines)) (planned_err m plan line why is) ∙ ap (λ (r : Refusal). as_err r) (sym told)

pub refused_told : (m : Made) (plan new : List PlannedAction) (line : ActionLine) (lines rest : List ActionLine) (all : Result Resolved Refusal) (refusal : Refusal) → lines ≡ line ∷ rest →
    AddTold (planned_by (carried m plan) line) plan new (Err refusal) → resolved (resolved_to m plan) lines ≡ all → PlanTold m all (Err refusal)
refused_told m plan new line lines rest all refusal front told same =
    subst (λ r. PlanTold m r (Err refusal))
    (sym (refused_by m plan new line rest (planned_by (carried m plan) line) refusal refl told) ∙ ap (resolved (resolved_to m plan)) (sym front) ∙ same) refl

longer_by : (plan new : List PlannedAction) (planned : Result PlannedAction Refusal) → AddTold planned plan new (Ok tt) → length new ≡ length plan + 1
longer_by plan new (Ok p) told = ap length told ∙ length-append plan (p ∷ [])
longer_by plan new (Err why) told = elim told [ ]

pub one_more_part : (plan new : List PlannedAction) (planned : Result PlannedAction Refusal) (count : ℕ) → AddTold planned plan new (Ok tt) → length plan ≡ count → length new ≡ count + 1
one_more_part plan new planned count told is = longer_by plan new planned told ∙ ap (λ n. n + 1) is

-- what stands for a line behind a list's end
abbrev pub no_line : ActionLine
no_line = record { kind = kinds.Gact; index = None; params = None }
