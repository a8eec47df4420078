-- What is asked of the lists after an edit (this project's own).
use Rattle.std.specs.Prelude.{◌≡◌, ◌≢◌, ℕ, List, [], ◌∷◌, map, Option, Some, None, option_map, is_some, if◌then◌else◌}
use Rattle.std.specs.List.{flat_map}
use Rattle.std.specs.Option.{unwrap_or}
use Rattle.flow_fields.specs.declared.key.Key.{Key}
use Rattle.act_kinds.specs.declared.params.Params.{Params}
use Rattle.filter_state.specs.declared.edit.Edit.{Edit}
use Rattle.filter_state.specs.declared.edit.Edit.TheVariants as edits
use Rattle.filter_state.specs.States.{Row, State}
use Rattle.filter_state.specs.Tables.{mask_row}
use Rattle.edit_effects.specs.OfEffects.Parts.{params_at}
use Rattle.slot_pasts.specs.declared.past.Change.{Change}
use Rattle.slot_pasts.specs.Pasts.{value_at, stood}
use Rattle.state_past_laws.specs.OfChanges.Among.{Has, listed}
use Rattle.state_past_laws.specs.OfChanges.Serials.{serial_named}
use Rattle.state_past.specs.declared.gone_filters.going.GoingFilter.{GoingFilter}
use Rattle.state_past.specs.declared.coming.Coming.{Coming}

-- the words that stood there, or none
abbrev pub words_or_none : Option (Key 14) → List ℕ
words_or_none None = []
words_or_none (Some key) = key.words

-- the words of a mask by its last change; none, where it didn't stand
abbrev pub words_told : Option (Option (Key 14)) → List ℕ
words_told change = words_or_none (stood change)

-- the name of a slot
abbrev pub named_slot : ℕ → List ℕ → List ℕ
named_slot mask key = mask ∷ key

abbrev pub slots_of : List GoingFilter → List (List ℕ)
slots_of going = map (λ (g : GoingFilter). named_slot g.mask g.key.words) going

abbrev pub masks_of : List GoingFilter → List ℕ
masks_of going = map (λ (g : GoingFilter). g.mask) going

abbrev pub actions_of_all : List GoingFilter → List ℕ
actions_of_all going = flat_map (λ (g : GoingFilter). g.actions) going

-- the words of the mask of a filter that went, where its table has a mask with these, and else none
abbrev pub words_left : State → GoingFilter → List ℕ
words_left s g =
    if is_some (mask_row g.hook g.chain g.pref g.words.words s.rows) then g.words.words else []

-- these are the words of each mask afterwards
abbrev pub AreLeft : State → List GoingFilter → (ℕ → List ℕ) → Type 0
AreLeft s going words = (g : GoingFilter) → Has g going → words_left s g ≡ words g.mask

-- the actions of these serials that are live have what their pasts tell of them
abbrev pub StayLive : State → ℕ → (ℕ → List (Change (Option Params))) → List ℕ → Type 0
StayLive s from past serials = (serial : ℕ) → Has serial serials → params_at s serial ≢ None
    → stood (value_at from (past serial)) ≡ params_at s serial

-- what is told of the row that comes
pub record IsOfRow (row : Row) (coming : Coming) : Type 0 where
  pub mask : coming.mask ≡ row.mask_serial
  pub words : coming.line.now.mask.words ≡ row.mask
  pub key : coming.line.now.key.words ≡ row.key
  pub hook : coming.line.now.hook ≡ row.hook
  pub chain : coming.line.now.chain ≡ row.chain
  pub pref : coming.pref ≡ row.pref
  pub handle : coming.handle ≡ row.handle
  pub actions : coming.serials.now ≡ row.actions

abbrev pub IsComingOf : Option Row → Option Coming → Type 0
IsComingOf None None = Unit {0}
IsComingOf (Some row) (Some coming) = IsOfRow row coming
IsComingOf row coming = ⊥

-- the slot, mask, words and actions of the row that comes, where one does
abbrev pub coming_slots : Option Coming → List (List ℕ)
coming_slots coming = map (λ (c : Coming). named_slot c.mask c.line.now.key.words) (listed coming)

abbrev pub coming_masks : Option Coming → List ℕ
coming_masks coming = map (λ (c : Coming). c.mask) (listed coming)

abbrev pub coming_actions : Option Coming → Option (List ℕ)
coming_actions coming = option_map (λ (c : Coming). c.serials.now) coming

abbrev pub coming_words : Option Coming → List ℕ
coming_words None = []
coming_words (Some coming) = coming.line.now.mask.words

-- the action that an edit names by kind and index
abbrev pub named_in : State → Edit → Option ℕ
named_in s (edits.ActionChange line) = serial_named s line.kind (unwrap_or line.index 0)
named_in s (edits.ActionDel kind index) = serial_named s kind index
named_in s edit = None
