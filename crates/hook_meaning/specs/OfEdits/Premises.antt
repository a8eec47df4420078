-- What the law of commits asks of one edit, in this project's states (this project's own). `h` is the commits
-- before the edit.
use Rattle.std.specs.Prelude.{◌≡◌, ◌≢◌, ◌⊎◌, ℕ, ◌<◌, ◌≤◌, ◌==◌, not, List, length, filter, Option, Some, None}
use Rattle.std.specs.Prelude.{Ok}
use Rattle.std.specs.Option.{unwrap_or}
use Rattle.tc_base.specs.declared.hook.Hook.{Hook}
use Rattle.act_kinds.specs.declared.params.Params.{Params}
use Rattle.store_history.specs.declared.history.Commit.{Commit}
use Rattle.filter_state.specs.declared.edit.Edit.{Edit}
use Rattle.filter_state.specs.declared.edit.Edit.TheVariants as edits
use Rattle.filter_state.specs.declared.edit.FilterLine.{FilterLine}
use Rattle.filter_state.specs.declared.refusal.Done.{Done}
use Rattle.filter_state.specs.States.{Row, State}
use Rattle.filter_state.specs.Lines.{IsLine}
use Rattle.filter_state.specs.Tables.{filter_row}
use Rattle.filter_state.specs.Steps.{step}
use Rattle.filter_state.specs.Sound.{Each}
use Rattle.hook_law.specs.Records.{StatedFilter}
use Rattle.hook_law.specs.Meaning.{now_of, next_of, IsLive}
use Rattle.hook_law.specs.Changes.{KeepsParams, SwapsFilter, LosesFilter, TouchesAction}
use Rattle.hook_law.specs.Keeping.{Keeps}
use Rattle.miniq_pair.specs.Heads.{hook_number}
use Rattle.hook_meaning.specs.Stated.{hook_meaning, tables_at, filters_at, action_at}
use Rattle.hook_meaning.specs.Blocks.{hook_codec}
use Rattle.edit_effects.specs.OfEffects.Parts.{words_of}

-- the state that the commits have come to, and the one to which the edit leads from there
abbrev pub now : List (Commit Edit) → State
now h = now_of hook_meaning h

abbrev pub next : List (Commit Edit) → Edit → State
next h y = next_of hook_meaning h y

-- The commits keep the law, and the edit is one that a line can say and is accepted after them: it leads to
-- the state t, and this is what was done.
pub record IsAccepted (h : List (Commit Edit)) (b : ℕ) (y : Edit) (t : State) (done : Done) : Type 0 where
  pub keeps : Keeps hook_meaning hook_codec h b
  pub low : b ≤ length h
  pub line : IsLine y
  pub steps : step (now h) y ≡ Ok (t, done)

-- ---- kinds of edits
-- those that no walk can see
abbrev pub IsUnseen : Edit → Type 0
IsUnseen edits.HookAdd = Unit {0}
IsUnseen edits.HookDel = Unit {0}
IsUnseen (edits.ActionDel kind index) = Unit {0}
IsUnseen edit = ⊥

abbrev pub IsOfFilters : Edit → Type 0
IsOfFilters (edits.FilterAdd line) = Unit {0}
IsOfFilters (edits.FilterReplace line) = Unit {0}
IsOfFilters (edits.FilterDel hook protocol chain pref handle) = Unit {0}
IsOfFilters edit = ⊥

-- the filter that a line names
abbrev pub named_row : State → FilterLine → Option Row
named_row s line = filter_row line.hook line.chain (unwrap_or line.pref 0) (unwrap_or line.handle 0) s.rows

-- the edit adds the line's filter: a replace does so where the filter isn't there
abbrev pub IsAddOf : State → FilterLine → Edit → Type 0
IsAddOf s line y = (y ≡ edits.FilterAdd line) ⊎ ((y ≡ edits.FilterReplace line) × (named_row s line ≡ None))

-- ---- actions
-- no action comes
abbrev pub NoneComes : State → State → Type 0
NoneComes s t = (action : ℕ) → IsLive hook_meaning t action → IsLive hook_meaning s action

-- an action that comes has one of the serials that were given meanwhile
abbrev pub NewOnesCome : State → State → Type 0
NewOnesCome s t = (action : ℕ) → IsLive hook_meaning t action → IsLive hook_meaning s action
    ⊎ ((s.actions_made < action) × (action ≤ t.actions_made))

-- one action has this index and these parameters afterwards, and nothing else is otherwise than before
pub record SetsAction (serial index : ℕ) (params : Params) (s t : State) : Type 0 where
  pub touches : TouchesAction hook_meaning s t serial
  pub here : action_at t serial ≡ Some (record { index = index; params = params })

-- ---- filters
-- the filter of a line
abbrev pub filter_of_line : FilterLine → ℕ → List ℕ → StatedFilter
filter_of_line line handle serials = record { handle = handle; key = line.key.words; actions = serials }

-- without the filter of a handle
abbrev pub without : ℕ → List StatedFilter → List StatedFilter
without handle filters = filter (λ (f : StatedFilter). not (f.handle == handle)) filters

-- no filter of the list has the handle
abbrev pub HaveOthers : ℕ → List StatedFilter → Type 0
HaveOthers handle filters = Each (λ (f : StatedFilter). f.handle ≢ handle) filters

-- a filter takes the place of the one with its handle and key, which no other of the mask has
pub record Swaps (mask : ℕ) (new : StatedFilter) (s t : State) : Type 0 where
  pub earlier : List StatedFilter
  pub old : StatedFilter
  pub later : List StatedFilter
  pub handle : old.handle ≡ new.handle
  pub key : old.key ≡ new.key
  pub front : HaveOthers new.handle earlier
  pub back : HaveOthers new.handle later
  pub swaps : SwapsFilter hook_meaning s t mask earlier old new later

-- the filter of a handle goes, which no other of the mask has
pub record Loses (mask handle : ℕ) (s t : State) : Type 0 where
  pub earlier : List StatedFilter
  pub old : StatedFilter
  pub later : List StatedFilter
  pub handle_is : old.handle ≡ handle
  pub front : HaveOthers handle earlier
  pub back : HaveOthers handle later
  pub loses : LosesFilter hook_meaning s t mask earlier old later

-- ---- heads
-- The tables of one hook change, or their masks: those of every other hook number stay, all masks but those
-- that are concerned keep words and filters, and a live action keeps its index and parameters or goes.
pub record LeavesOtherHook (hook : Hook) (IsConcerned : ℕ → Type 0) (s t : State) : Type 0 where
  pub heads : (other : ℕ) → other ≢ hook_number hook → tables_at t other ≡ tables_at s other
  pub words : (mask : ℕ) → (IsConcerned mask → ⊥) → words_of t mask ≡ words_of s mask
  pub filters : (mask : ℕ) → (IsConcerned mask → ⊥) → filters_at t mask ≡ filters_at s mask
  pub params : KeepsParams hook_meaning s t

-- no table changes, of any hook
abbrev pub KeepsHeads : State → State → Type 0
KeepsHeads s t = (hook : ℕ) → tables_at t hook ≡ tables_at s hook

-- a mask has these words and filters
pub record IsMask (mask : ℕ) (words : List ℕ) (filters : List StatedFilter) (t : State) : Type 0 where
  pub words_are : words_of t mask ≡ words
  pub filters_are : filters_at t mask ≡ filters
