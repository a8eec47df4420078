-- The lines of a run's events. They are this project's own.
use Rattle.std.specs.Prelude.{ℕ, ◌+◌, List, [], ◌∷◌, ◌++◌, map, take, codes, decimal}
use Rattle.std.specs.List.{join_with_byte, enumerate_from}
use Rattle.line_texts.specs.Texts.{handle_text}
use Rattle.filter_state.specs.declared.refusal.Done.{Done}
use Rattle.filter_state.specs.declared.refusal.Done.TheVariants as dones
use Rattle.tc_report.specs.Refusals.{refusal_words, syntax_words, refused_line}
use Rattle.walk_texts.specs.Texts.{counted}
use Rattle.run_report.specs.declared.events.EventKind.{EventKind}
use Rattle.run_report.specs.declared.events.EventKind.TheVariants as kinds
use Rattle.run_report.specs.declared.events.Event.{Event}
use Rattle.run_report.specs.Counts.{accepted_count}

-- ---- what an edit did
-- serials with commas between, or `none`
abbrev pub serials_text : List ℕ → List ℕ
serials_text [] = codes "none"
serials_text (serial ∷ serials) = join_with_byte 44 (map decimal (serial ∷ serials))

-- `filter pref P handle 0xH`
unfoldable pub filter_name : ℕ → ℕ → List ℕ
filter_name pref handle = counted (codes "filter pref ") pref ++ codes " handle " ++ handle_text handle

-- the filter, and the serials of its actions
unfoldable pub filter_text : ℕ → ℕ → List ℕ → List ℕ
filter_text pref handle serials = filter_name pref handle ++ codes " actions " ++ serials_text serials

-- `action index I serial S`
unfoldable pub action_made_text : ℕ → ℕ → List ℕ
action_made_text index serial = counted (codes "action index ") index ++ counted (codes " serial ") serial

abbrev pub done_text : Done → List ℕ
done_text dones.Hooked = codes "hooked"
done_text dones.Unhooked = codes "unhooked"
done_text (dones.Filter pref handle serials) = filter_text pref handle serials
done_text dones.FilterGone = codes "filter gone"
done_text dones.TableGone = codes "table gone"
done_text (dones.ActionMade index serial) = action_made_text index serial
done_text dones.ActionChanged = codes "action changed"
done_text dones.ActionGone = codes "action gone"

-- ---- an event
-- `edit K control C line L `
unfoldable pub edit_place : ℕ → ℕ → ℕ → List ℕ
edit_place edits control line = counted (codes "edit ") edits ++ counted (codes " control ") control
    ++ counted (codes " line ") line ++ codes " "

abbrev pub edit_line : ℕ → ℕ → ℕ → Done → List ℕ
edit_line edits control line done = edit_place edits control line ++ done_text done ++ codes "\n"

-- an event before which so many edits were accepted: an accepted edit counts itself, a refused line doesn't
abbrev pub kind_line : ℕ → ℕ → ℕ → EventKind → List ℕ
kind_line before control line (kinds.Accepted done) = edit_line (before + 1) control line done
kind_line before control line (kinds.Refused refusal) =
    refused_line before control line (refusal_words refusal)
kind_line before control line (kinds.Syntax word) = refused_line before control line (syntax_words word)

abbrev pub event_line : ℕ → Event → List ℕ
event_line before event = kind_line before event.control event.line event.kind

-- a line for each event of a round before which so many edits were accepted: the event at a place stands
-- behind these edits and the accepted ones of the events before it
abbrev pub event_lines : ℕ → List Event → List (List ℕ)
event_lines before events = map (λ (placed : ℕ × Event). event_line
    (before + accepted_count (take placed.0 events)) placed.1) (enumerate_from 0 events)
