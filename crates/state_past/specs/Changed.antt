-- What a step has changed of the pasts (this project's own).
use Rattle.std.specs.Prelude.{ℕ, ◌+◌, ◌++◌, List, Option, None}
use Rattle.flow_fields.specs.declared.key.Key.{Key}
use Rattle.act_kinds.specs.declared.params.Params.{Params}
use Rattle.filter_state.specs.States.{State}
use Rattle.edit_effects.specs.OfEffects.Parts.{words_of, params_at}
use Rattle.slot_pasts.specs.declared.past.Change.{Change}
use Rattle.slot_pasts.specs.Pasts.{stood}
use Rattle.slot_pasts.specs.Names.{SlotPast}
use Rattle.state_past_laws.specs.OfChanges.Among.{listed}
use Rattle.state_past.specs.declared.gone_filters.going.GoingFilter.{GoingFilter}
use Rattle.state_past.specs.declared.coming.Coming.{Coming}
use Rattle.state_past.specs.declared.following.StepBefore.{StepBefore}
use Rattle.state_past.specs.Serials.{serials_from}
use Rattle.state_past.specs.Brought.{Brought}
use Rattle.state_past.specs.Told.{words_told, slots_of, masks_of, actions_of_all, coming_slots, coming_masks}
use Rattle.state_past.specs.Told.{coming_actions, coming_words}

-- slots of rows that went have nothing, and then that of the row that comes has its actions
abbrev pub SlotsChanged : ℕ → List GoingFilter → Option Coming → (List ℕ → SlotPast (List ℕ)) → (List ℕ → SlotPast (List ℕ))
    → Type 0
SlotsChanged from going coming past after = (middle : List ℕ → SlotPast (List ℕ))
    × Brought from stood (λ name. None) (slots_of going) past middle
    × Brought from stood (λ name. coming_actions coming) (coming_slots coming) middle after

abbrev pub WordsPast : Type 0
WordsPast = List (Change (Option (Key 14)))

-- masks of rows that went have what they have in the state, and then that of the row that comes has its words
abbrev pub MasksChanged : State → ℕ → List GoingFilter → Option Coming → (ℕ → WordsPast) → (ℕ → WordsPast)
    → Type 0
MasksChanged t from going coming past after = (middle : ℕ → WordsPast)
    × Brought from words_told (words_of t) (masks_of going) past middle
    × Brought from words_told (λ mask. coming_words coming) (coming_masks coming) middle after

-- the serials that may have gone, and those that were made
abbrev pub serials_noted : StepBefore → ℕ → List ℕ
serials_noted before more =
    (actions_of_all before.going.items ++ listed before.named) ++ serials_from (before.made + 1) more

abbrev pub ActionsChanged : State → ℕ → StepBefore → ℕ → (ℕ → List (Change (Option Params)))
    → (ℕ → List (Change (Option Params))) → Type 0
ActionsChanged t from before more past after =
    Brought from stood (params_at t) (serials_noted before more) past after
