-- What follows a table, and the tables of a chain (this project's own).
use Rattle.std.specs.Prelude.{ℕ, Option, Some, None}
use Rattle.walk_rules.specs.Walks.{Outcome}
use Rattle.walk_rules.specs.Plain.{Carried, ends_with}
use Rattle.plain_walk.specs.declared.chains.ChainEnd.{ChainEnd}
use Rattle.plain_walk.specs.declared.chains.ChainEnd.TheVariants as ends

abbrev pub chain_end : (ℕ → ℕ → Carried → Outcome) → ChainEnd → ℕ → Carried → Outcome
chain_end restart (ends.Over verdict) left carried = ends_with verdict carried
chain_end restart (ends.Restart chain) left carried = restart chain left carried

abbrev pub table_end : (ℕ → ℕ → Carried → Outcome) → (ℕ → Carried → Outcome) → Option ChainEnd → ℕ → Carried
    → Outcome
table_end restart next (Some end) left carried = chain_end restart end left carried
table_end restart next None left carried = next left carried
