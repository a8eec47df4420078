-- What is found for a line before any memory is taken.
use Rattle.std.specs.Prelude.{◌≡◌, ℕ, List, Option, None, Result, Ok, Err}
use Rattle.filter_state.specs.declared.edit.FilterLine.{FilterLine}
use Rattle.filter_state.specs.declared.refusal.Refusal.{Refusal}
use Rattle.filter_state.specs.States.{State}
use Rattle.filter_state.specs.Actions.{Made, Resolved}
use Rattle.filter_state.specs.Refusals.{or_else, protocol_clash, handle_taken, exists_but, tables_full}
use Rattle.filter_state.specs.Refusals.{masks_full, filters_full, actions_full, counters_full}
use Rattle.filter_state.specs.Steps.{filter_add, filter_added}
use Rattle.filter_tables.specs.Places.{place_where}
use Rattle.filter_tables.specs.Changes.{is_table}
use Rattle.filter_tables.specs.Rows.{tables_on}
use Rattle.action_plan.specs.declared.planned.PlannedAction.{PlannedAction}
use Rattle.action_plan.specs.Plans.{made_of, carried, serials_of, AreFit}
use Rattle.hook_lists.specs.declared.kept.Kept.{Kept}
use Rattle.hook_lists.specs.States.{both_of, state_of}
use Rattle.filter_lists.specs.declared.adding.looking.Found.{Found}

-- what the table that is there refuses
abbrev pub place_refusal : State → FilterLine → ℕ → Option Refusal
place_refusal s line pref =
    or_else (protocol_clash s line.hook line.chain pref line.protocol)
    (or_else (handle_taken s line.hook line.chain pref line.handle)
    (exists_but s line.hook line.chain pref None line.mask.words line.key.words))

-- what the limits refuse, where the actions come to those
abbrev pub limit_refusal : State → FilterLine → ℕ → Made → Option Refusal
limit_refusal s line pref next =
    or_else (tables_full s line.hook line.chain pref)
    (or_else (masks_full s line.hook line.chain pref line.mask.words)
    (or_else (filters_full s) (or_else (actions_full next) (counters_full next))))

-- the actions of a plan, as the state resolves them
abbrev pub resolved_by_plan : Made → List PlannedAction → Resolved
resolved_by_plan m plan = record { so_far = carried m plan; serials = serials_of plan }

-- nothing is refused, and the step adds the filter
pub record IsFound (kept : Kept) (line : FilterLine) (found : Found) : Type 0 where
  pub place : found.place ≡ place_where (is_table line.chain found.pref) (tables_on line.hook (both_of kept))
  pub placed : place_refusal (state_of kept) line found.pref ≡ None
  pub fit : AreFit (made_of kept.actions) found.actions
  pub limits : limit_refusal (state_of kept) line found.pref (carried (made_of kept.actions) found.actions)
      ≡ None
  pub accepted : filter_add (state_of kept) line
      ≡ filter_added (state_of kept) line found.pref (resolved_by_plan (made_of kept.actions) found.actions)

-- what was found, or the refusal
abbrev pub found_or : Found → Result (Unit {0}) Refusal → Result Found Refusal
found_or found (Ok done) = Ok found
found_or found (Err refusal) = Err refusal

-- the line is refused for the step's reason, or all that the filter stands on was found
abbrev pub LookTold : Kept → FilterLine → Result Found Refusal → Type 0
LookTold kept line (Ok found) = IsFound kept line found
LookTold kept line (Err refusal) = filter_add (state_of kept) line ≡ Err refusal
