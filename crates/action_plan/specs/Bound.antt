-- Places that name actions, one after the other.
use Rattle.std.specs.Prelude.{ℕ, ◌<◌, List, [], ◌∷◌, find, IsSomeAnd}
use Rattle.act_kinds.specs.declared.params.Params.{Params}
use Rattle.act_registry.specs.declared.entry.Entry.{Entry}
use Rattle.act_registry.specs.Entries.{has_serial, unbound}

-- each place names an action that is bound still when the places before it are gone
abbrev pub AreBound : List ℕ → List (Entry Params) → Type 0
AreBound [] es = Unit {0}
AreBound (serial ∷ serials) es = IsSomeAnd (find (has_serial serial) es) (λ e. 0 < e.binds)
    × AreBound serials (unbound serial es)
