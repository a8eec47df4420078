-- The tables of a hook at the points of a change (this project's own).
use Rattle.std.specs.Prelude.{◌≡◌, ℕ, nat_le, List, length, Option, Some, None, if◌then◌else◌}
use Rattle.tc_base.specs.declared.hook.Hook.{Hook}
use Rattle.filter_state.specs.declared.edit.Edit.{Edit}
use Rattle.filter_state.specs.Journals.{state_at}
use Rattle.slot_pasts.specs.declared.past.Change.{Change}
use Rattle.slot_pasts.specs.Pasts.{value_at}
use Rattle.walk_rules.specs.Questions.{Head}
use Rattle.walk_rules.specs.Heads.{heads_on}

-- the changes of a hook's tables from the point before a change on, up to the last one so far
pub record Heads : Type 0 where
  pub hook : Hook
  pub before : ℕ
  pub point : ℕ
  pub past : List (Change (List Head))

-- the tables that are told at a point
abbrev pub told_at : Heads → ℕ → Option (List Head)
told_at heads at = value_at at heads.past

-- the tables in the journal's state; nothing, where a point is before the change
abbrev pub heads_since : Hook → ℕ → List Edit → ℕ → Option (List Head)
heads_since hook before journal at =
    if nat_le before at then Some (heads_on hook (state_at at journal)) else None

-- THE TABLES ARE KNOWN at the points of a journal: at each from that before the change on, those of the state
-- there are told
pub record KnowsHeads (heads : Heads) (journal : List Edit) : Type 0 where
  pub point : heads.point ≡ length journal
  pub told : (at : ℕ) → told_at heads at ≡ heads_since heads.hook heads.before journal at
