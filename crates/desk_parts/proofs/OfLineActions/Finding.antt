-- The entry that a registry has of a serial is the action that the state has of it.
use Rattle.std.proofs.Common.{◌≡◌, ◌∙◌, ℕ, Bool, true, false, cond, List, [], ◌∷◌, Option, Some, refl, sym, ap, subst, eqb-true}
use Rattle.std.specs.Prelude.{find}
use Rattle.std.specs.Option.{option_map}
use Rattle.act_kinds.specs.declared.params.Params.{Params}
use Rattle.act_registry.specs.declared.entry.Entry.{Entry}
use Rattle.act_registry.specs.Entries as entries
use Rattle.filter_state.specs.Actions.{has_serial}
use Rattle.filter_state.specs.Tables.{first_where}
use Rattle.action_plan.specs.Entries.{action_of, actions_of}
use Rattle.action_plan.proofs.Mapped.{first_mapped}
use Rattle.hook_store_law.specs.Stated.{action_stated}

found_serial : (serial : ℕ) (es : List (Entry Params)) → first_where (has_serial serial) (actions_of es) ≡ option_map action_of (find (entries.has_serial serial) es)
found_serial serial es = sym (first_mapped action_of (entries.has_serial serial) (has_serial serial) (λ e. refl) es)

pub entry_terms : (serial : ℕ) (some_entries es : List (Entry Params)) (found : Option (Entry Params)) → some_entries ≡ es → found ≡ find (entries.has_serial serial) some_entries
    → option_map action_stated (first_where (has_serial serial) (actions_of es)) ≡ option_map action_stated (option_map action_of found)
entry_terms serial some_entries es found same is = ap (option_map action_stated) (found_serial serial es ∙ ap (option_map action_of) (sym (is ∙ ap (find (entries.has_serial serial)) same)))

pub entry_serial : (serial : ℕ) (es : List (Entry Params)) (e : Entry Params) → find (entries.has_serial serial) es ≡ Some e → e.serial ≡ serial
entry_serial serial [] e is = absurd (cc is)
entry_serial serial (x ∷ xs) e is = pick (entries.has_serial serial x) refl is (entry_serial serial xs e)
  where
    pick : (b : Bool) → entries.has_serial serial x ≡ b → cond b (Some x) (find (entries.has_serial serial) xs) ≡ Some e → (find (entries.has_serial serial) xs ≡ Some e → e.serial ≡ serial) → e.serial ≡ serial
    pick true passes found rest = let same : x ≡ e = cc found in subst (λ (z : Entry Params). z.serial ≡ serial) same (eqb-true x.serial serial passes)
    pick false passes found rest = rest found
