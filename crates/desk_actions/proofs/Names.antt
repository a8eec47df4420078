-- The entry that a registry finds is the action that a state finds.
use Rattle.std.proofs.Common.{◌≡◌, ◌∙◌, ◌||◌, ℕ, Bool, true, false, cond, List, [], ◌∷◌, Option, Some, refl, sym, ap}
use Rattle.std.specs.Prelude.{find}
use Rattle.std.specs.Option.{option_map}
use Rattle.act_kinds.specs.declared.params.Kind.{Kind}
use Rattle.act_kinds.specs.declared.params.Params.{Params}
use Rattle.act_kinds.specs.Params.{number_of_kind, kind_number}
use Rattle.act_registry.specs.declared.entry.Entry.{Entry}
use Rattle.act_registry.specs.Entries as entries
use Rattle.filter_state.specs.States.{Action}
use Rattle.filter_state.specs.Actions.{is_named, is_live}
use Rattle.filter_state.specs.Tables.{first_where}
use Rattle.action_plan.specs.Entries.{action_of, actions_of}
use Rattle.action_plan.proofs.Entries.{same_name}

pub found_action : (kind : Kind) (index : ℕ) (es : List (Entry Params)) → first_where (is_named kind index) (actions_of es) ≡ option_map action_of (find (entries.is_named kind_number (number_of_kind kind) index) es)
found_action kind index [] = refl
found_action kind index (e ∷ es) = pick (is_named kind index (action_of e)) (entries.is_named kind_number (number_of_kind kind) index e) refl refl (found_action kind index es)
  where
    pick : (p q : Bool) → is_named kind index (action_of e) ≡ p → entries.is_named kind_number (number_of_kind kind) index e ≡ q
        → first_where (is_named kind index) (actions_of es) ≡ option_map action_of (find (entries.is_named kind_number (number_of_kind kind) index) es) → cond p (Some (action_of e)) (first_where (is_named kind index) (actions_of es)) ≡ option_map action_of (cond q (Some e) (find (entries.is_named kind_number (number_of_kind kind) index) es))
    pick true true a b rest = refl
    pick false false a b rest = rest
    pick true false a b rest = let same = same_name kind index e in absurd (cc (same, a, b))
    pick false true a b rest = let same = same_name kind index e in absurd (cc (same, a, b))

-- a live one is found
pub live_found : (kind : Kind) (index : ℕ) (xs : List Action) → is_live kind index xs ≡ true → (x : Action) × (first_where (is_named kind index) xs ≡ Some x)
live_found kind index [] e = absurd (cc e)
live_found kind index (x ∷ xs) e = pick (is_named kind index x) refl (live_found kind index xs)
  where
    pick : (t : Bool) → is_named kind index x ≡ t → (is_live kind index xs ≡ true → (z : Action) × (first_where (is_named kind index) xs ≡ Some z))
        → (z : Action) × (cond (is_named kind index x) (Some x) (first_where (is_named kind index) xs) ≡ Some z)
    pick true is rest = (x, ap (λ (b : Bool). cond b (Some x) (first_where (is_named kind index) xs)) is)
    pick false is rest = let more = rest (sym (ap (λ (b : Bool). b || is_live kind index xs) is) ∙ e) in
        (more.0, ap (λ (b : Bool). cond b (Some x) (first_where (is_named kind index) xs)) is ∙ more.1)

-- what a registry of these entries finds by the kind's number
pub found_entry : (kind : Kind) (index n : ℕ) (some_entries es : List (Entry Params)) (found : Option (Entry Params)) → n ≡ number_of_kind kind → some_entries ≡ es
    → found ≡ find (entries.is_named kind_number n index) some_entries → first_where (is_named kind index) (actions_of es) ≡ option_map action_of found
found_entry kind index n some_entries es found number same is = found_action kind index es
    ∙ sym (ap (option_map action_of) (is ∙ (ap (λ (m : ℕ). find (entries.is_named kind_number m index) some_entries) number
    ∙ ap (λ (l : List (Entry Params)). find (entries.is_named kind_number (number_of_kind kind) index) l) same)))
