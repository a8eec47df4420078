-- The law of this hook holds of no commits, and stays when the base rises.
use Rattle.std.proofs.Common.{◌≡◌, ℕ, zero, suc, ◌≤◌, List, [], refl}
use Rattle.store_history.specs.declared.history.Commit.{Commit}
use Rattle.filter_state.specs.declared.edit.Edit.{Edit}
use Rattle.filter_state.specs.States.{no_state}
use Rattle.hook_law.specs.Meaning.{StartsEmpty}
use Rattle.hook_law.specs.Keeping.{Keeps}
use Rattle.hook_law.proofs.Opening.{keeps_opens}
use Rattle.hook_law.proofs.Pushing.{keeps_rises}
use Rattle.hook_meaning.specs.Stated.{tables_at, hook_meaning}
use Rattle.hook_meaning.specs.Blocks.{hook_codec}

no_tables : (hook : ℕ) → tables_at no_state hook ≡ []
no_tables zero = refl
no_tables (suc zero) = refl
no_tables (suc (suc more)) = refl

pub starts_empty : StartsEmpty hook_meaning
starts_empty = record { lawful = tt; heads = no_tables; params = λ a. refl }

pub hook_opens : Keeps hook_meaning hook_codec [] 0
hook_opens = keeps_opens hook_meaning hook_codec starts_empty

pub hook_rises : (h : List (Commit Edit)) (b c : ℕ) → b ≤ c → Keeps hook_meaning hook_codec h b → Keeps hook_meaning hook_codec h c
hook_rises = keeps_rises hook_meaning hook_codec
