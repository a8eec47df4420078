-- What is known of the states of accepted edits, beside what they answer (this project's own).
use Rattle.std.specs.Prelude.{◌≡◌, ℕ, ◌-◌, List, slice_get, Option, Some, None}
use Rattle.filter_state.specs.States.{no_state}
use Rattle.filter_state.specs.Journals.{state_at}
use Rattle.edit_effects.specs.OfEffects.Parts.{words_of}
use Rattle.batch_run.specs.declared.made_action.MadeAction.{MadeAction}
use Rattle.lawful_runs.specs.Lawful.{made_by}
use Rattle.walk_rules.specs.Answers.{answer_of}
use Rattle.point_walks.specs.Over.{Answering}
use Rattle.filter_origins.specs.Passed.{Remembers, StatePast}
use Rattle.filter_origins.specs.declared.origins.Origins.{Origins}
use Rattle.filter_origins.specs.Entries.{Entry, edits_of}
use Rattle.filter_origins.specs.Origins.{origin_at, maker_at}
use Rattle.filter_origins.specs.Knows.{Knows}
use Rattle.trace_lines.specs.Names.{Names}

-- ---- actions
-- the names of the actions that the edits made, of which that with serial 1 is the first
abbrev pub made_in : List Entry → List MadeAction
made_in entries = made_by no_state (edits_of entries)

abbrev pub index_in : Option MadeAction → ℕ
index_in None = 0
index_in (Some action) = action.index

-- ---- the states
-- THE STATES OF THE EDITS ANSWER: at a point the state behind so many of them
abbrev pub answers_in : List Entry → Answering
answers_in entries point question = answer_of (state_at point (edits_of entries)) question

-- WHAT IS KNOWN of the states beside
abbrev pub names_of : List Entry → Names
names_of entries = record {
  words = λ point mask. words_of (state_at point (edits_of entries)) mask;
  filter = λ point mask key. origin_at entries point mask key;
  action = λ point serial. maker_at entries point serial;
  index = λ serial. index_in (slice_get (made_in entries) (serial - 1));
}

-- by a past, by origins, and by the actions' names
pub record AreKnown (entries : List Entry) (past : StatePast) (origins : Origins) (made : List MadeAction)
    : Type 0 where
  pub remembers : Remembers past (edits_of entries)
  pub knows : Knows origins entries
  pub made_is : made ≡ made_in entries
