-- How an accepted edit is going to be done, with the memory for it (this project's own). `h` is all commits
-- before it, and y is the edit.
use Rattle.std.specs.Prelude.{◌≡◌, ◌⊎◌, ℕ, ◌+◌, ◌-◌, ◌<◌, ◌^◌, List, true}
use Rattle.act_kinds.specs.declared.params.Kind.{Kind}
use Rattle.store_history.specs.declared.history.Commit.{Commit}
use Rattle.filter_state.specs.declared.action_line.ActionLine.{ActionLine}
use Rattle.filter_state.specs.declared.edit.Edit.{Edit}
use Rattle.filter_state.specs.declared.edit.Edit.TheVariants as edits
use Rattle.filter_state.specs.declared.edit.FilterLine.{FilterLine}
use Rattle.filter_state.specs.declared.refusal.Done.{Done}
use Rattle.filter_state.specs.Actions.{is_live}
use Rattle.filter_lists.specs.Ready.{Ready}
use Rattle.hook_store_law.specs.OfEdits.Premises.{now, next, IsOfFilters, IsAccepted}
use Rattle.desk_needs.specs.OfEditNeeds.Told.{blocks_anew, rows_anew}
use Rattle.desk_actions.specs.Kinds.{IsMaking, IsChanging}
use Rattle.desk_parts.specs.OfLineActions.Gone.{NamesGone}
use Rattle.desk_actions.specs.OfLedgers.Kept.{commits, base}
use Rattle.desk_parts.specs.declared.parts.Parts.{Parts}
use Rattle.desk_parts.specs.Desk.{IsDesk}
use Rattle.desk_parts.specs.OfPlainEdits.Kinds.{IsOfQdisc}
use Rattle.desk_parts.specs.declared.ways.way.Way.{Way}
use Rattle.desk_parts.specs.declared.ways.way.Way.TheVariants as ways
use Rattle.desk_parts.specs.OfWays.Ways.{IsWay, AreFew}
use Rattle.shared_hook.specs.OfDeskEdits.Spent.{HasRoom}
use Rattle.shared_hook.specs.OfDeskEdits.OfMoves.Rooms.{HasMaskRoom}
use Rattle.shared_hook.specs.declared.plans.means.Means.{Means}
use Rattle.shared_hook.specs.declared.plans.plan.Plan.{Plan}
use Rattle.shared_hook.specs.declared.plans.plan.Plan.TheVariants as plans
use Rattle.shared_hook.specs.OfPlans.Done.{Suffices}

-- so many filters the masks have that are laid anew whole: the one into which a filter goes, and the one that
-- it leaves
abbrev pub HaveFilters : Way → ℕ → ℕ → Type 0
HaveFilters (ways.OtherKey hook slot count) to from = to ≡ count
HaveFilters (ways.OtherMask hook slot count into others) to from = (to ≡ others + 1) × (from ≡ count - 1)
HaveFilters way to from = Unit {0}

-- the rooms are empty, and large enough for an edit that is done in this way
abbrev pub HasMeans : Way → Means → Type 0
HasMeans (ways.IntoMask slot count) m = HasRoom m.first.numbers 1 0
    × HasRoom m.second.numbers (blocks_anew count (count + 1)) (rows_anew count (count + 1))
HasMeans (ways.WithMask hook) m = HasRoom m.first.numbers 2 1
HasMeans (ways.InPlace slot later) m = HasRoom m.first.numbers (later + 1) 0
HasMeans (ways.OtherKey hook slot count) m = HasMaskRoom m.first count
HasMeans (ways.OtherMask hook slot count into others) m =
    HasMaskRoom m.first (others + 1) × HasMaskRoom m.second (count - 1)
HasMeans (ways.OutOfMask slot count later) m = HasRoom m.first.numbers later 0
    × HasRoom m.second.numbers (blocks_anew count (count - 1)) (rows_anew count (count - 1))
HasMeans (ways.Closes hook) m = Unit {0}

-- an edit of filters is done in this way, with these means
pub record IsOfWay (h : List (Commit Edit)) (y : Edit) (way : Way) (means : Means) : Type 0 where
  pub filters : IsOfFilters y
  pub is : IsWay h y way
  pub few : AreFew way
  pub gone : NamesGone (now h) y means.gone.items
  pub has : HasMeans way means

-- a live action is deleted
pub record IsDeleting (h : List (Commit Edit)) (y : Edit) : Type 0 where
  pub kind : Kind
  pub index : ℕ
  pub is : y ≡ edits.ActionDel kind index
  pub live : is_live kind index (now h).actions ≡ true

-- THE PLAN OF AN EDIT
abbrev pub IsPlan : List (Commit Edit) → Edit → Plan → Type 0
IsPlan h y plans.Mark = IsOfQdisc y
IsPlan h y plans.MakeAction = (line : ActionLine) × IsMaking (now h) line y
IsPlan h y plans.ChangeAction = (line : ActionLine) × IsChanging (now h) line y
IsPlan h y plans.DeleteAction = IsDeleting h y
IsPlan h y (plans.Filters way means) = IsOfWay h y way means

-- ---- what is asked
-- the edit says this line of a filter
abbrev pub IsOfLine : FilterLine → Edit → Type 0
IsOfLine line y = (y ≡ edits.FilterAdd line) ⊎ (y ≡ edits.FilterReplace line)

-- the edit was made ready on this desk, is accepted, and the pools suffice for it
pub record IsReadyFor (parts : Parts) (y : Edit) (prepared : Ready) : Type 0 where
  pub desk : IsDesk parts
  pub ready : parts.ledger.lists ≡ prepared.lists
  pub edit : prepared.edit ≡ y
  pub done : Done
  pub accepted : IsAccepted (commits parts.ledger) (base parts.ledger) y (next (commits parts.ledger) y) done
  pub few : parts.ledger.point + 1 < 2 ^ 32
  pub enough : Suffices parts y

-- and is one of filters, to be done in this way
pub record MayEdit (parts : Parts) (y : Edit) (prepared : Ready) (way : Way) (means : Means) : Type 0 where
  pub ready : IsReadyFor parts y prepared
  pub planned : IsOfWay (commits parts.ledger) y way means
