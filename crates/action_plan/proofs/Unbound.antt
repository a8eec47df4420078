-- Letting actions of a registry go, as those of a state.
use Rattle.std.proofs.Common.{◌≡◌, ℕ, List, ◌∷◌, refl, sym, ◌∙◌, ap, subst, arith}
use Rattle.std.specs.Prelude.{nat_lt, filter}
use Rattle.std.proofs.lemmas.Bool.Decides.{nat_tests}
use Rattle.act_kinds.specs.declared.params.Params.{Params}
use Rattle.act_registry.specs.declared.entry.Entry.{Entry}
use Rattle.act_registry.specs.Entries as entries
use Rattle.filter_state.specs.States.{Action}
use Rattle.filter_state.specs.Actions.{has_serial, less_bound, is_referred, unbound, all_unbound}
use Rattle.action_plan.specs.Entries.{action_of, actions_of}
use Rattle.action_plan.specs.Bound.{AreBound}
use Rattle.action_plan.proofs.Mapped.{change_mapped, filter_mapped}

same_held : (e : Entry Params) → nat_lt 0 e.references ≡ is_referred (action_of e)
same_held e = grind (arith, nat_tests)

pub unbound_same : (serial : ℕ) (es : List (Entry Params)) → actions_of (entries.unbound serial es) ≡ unbound serial (actions_of es)
unbound_same serial es =
    let changed : List (Entry Params) = entries.change_where (entries.has_serial serial) entries.bound_less es in
    filter_mapped action_of (λ e. nat_lt 0 e.references) is_referred same_held changed
    ∙ ap (filter is_referred) (change_mapped action_of (entries.has_serial serial) (has_serial serial) entries.bound_less less_bound (λ e. refl) (λ e. refl) es)

-- ---- one place after the other
pub next_bound : (serial : ℕ) (rest serials : List ℕ) (es new : List (Entry Params)) → serials ≡ serial ∷ rest → AreBound serials es → new ≡ entries.unbound serial es → AreBound rest new
next_bound serial rest serials es new front bound is = subst (AreBound rest) (sym is) (subst (λ places. AreBound places es) front bound).1

pub next_same : (serial : ℕ) (rest serials : List ℕ) (es new : List (Entry Params)) (all : List Action) → serials ≡ serial ∷ rest →
    all_unbound serials (actions_of es) ≡ all → new ≡ entries.unbound serial es → all_unbound rest (actions_of new) ≡ all
next_same serial rest serials es new all front same is =
    ap (λ es'. all_unbound rest (actions_of es')) is ∙ ap (all_unbound rest) (unbound_same serial es)
    ∙ ap (λ places. all_unbound places (actions_of es)) (sym front) ∙ same
