-- Places that are let go in two parts.
use Rattle.std.proofs.Common.{◌≡◌, ℕ, List, [], ◌∷◌, ◌++◌, map, refl, sym, ◌∙◌, ap, subst}
use Rattle.act_kinds.specs.declared.params.Params.{Params}
use Rattle.act_registry.specs.declared.entry.Entry.{Entry}
use Rattle.act_registry.specs.Entries as entries
use Rattle.filter_state.specs.States.{Action}
use Rattle.filter_state.specs.Actions.{unbound, all_unbound}
use Rattle.action_plan.specs.Entries.{actions_of}
use Rattle.action_plan.specs.Bound.{AreBound}
use Rattle.action_plan.proofs.Unbound.{unbound_same}

-- ---- entries are known by their actions
abbrev entry_for : Action → Entry Params
entry_for action = record {
  serial = action.serial;
  index = action.index;
  params = action.params;
  references = action.references;
  binds = action.binds;
}

entries_back : (es : List (Entry Params)) → map entry_for (actions_of es) ≡ es
entries_back [] = refl
entries_back (e ∷ es) = ap (λ more. e ∷ more) (entries_back es)

entries_same : (es fs : List (Entry Params)) → actions_of es ≡ actions_of fs → es ≡ fs
entries_same es fs same = sym (entries_back es) ∙ ap (map entry_for) same ∙ entries_back fs

-- ---- one part after the other
abbrev all_gone : List ℕ → List (Entry Params) → List (Entry Params)
all_gone [] es = es
all_gone (serial ∷ serials) es = all_gone serials (entries.unbound serial es)

gone_same : (serials : List ℕ) (es : List (Entry Params)) → actions_of (all_gone serials es) ≡ all_unbound serials (actions_of es)
gone_same [] es = refl
gone_same (serial ∷ serials) es = gone_same serials (entries.unbound serial es) ∙ ap (all_unbound serials) (unbound_same serial es)

bound_rest : (xs ys : List ℕ) (es : List (Entry Params)) → AreBound (xs ++ ys) es → AreBound ys (all_gone xs es)
bound_rest [] ys es bound = bound
bound_rest (x ∷ xs) ys es bound = bound_rest xs ys (entries.unbound x es) bound.1

pub bound_first : (xs ys : List ℕ) (es : List (Entry Params)) → AreBound (xs ++ ys) es → AreBound xs es
bound_first [] ys es bound = tt
bound_first (x ∷ xs) ys es bound = (bound.0, bound_first xs ys (entries.unbound x es) bound.1)

pub bound_then : (xs ys : List ℕ) (old new : List (Entry Params)) → actions_of new ≡ all_unbound xs (actions_of old) → AreBound (xs ++ ys) old → AreBound ys new
bound_then xs ys old new is bound = subst (AreBound ys) (sym (entries_same new (all_gone xs old) (is ∙ sym (gone_same xs old)))) (bound_rest xs ys old bound)

pub unbound_then : (xs ys : List ℕ) (actions : List Action) → all_unbound (xs ++ ys) actions ≡ all_unbound ys (all_unbound xs actions)
unbound_then [] ys actions = refl
unbound_then (x ∷ xs) ys actions = unbound_then xs ys (unbound x actions)
