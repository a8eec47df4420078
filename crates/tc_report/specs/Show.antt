-- The text that shows a state. Which lines it has, and their order, is this project's own; the lines of the
-- qdisc, of actions and of filters are batch lines (tc(8)).
use Rattle.std.specs.Prelude.{ℕ, ◌==◌, ◌&&◌, ◌||◌, nat_lt, Bool, true, false, List, [], ◌∷◌, ◌++◌, Option}
use Rattle.std.specs.Prelude.{Some, None, codes, if◌then◌else◌}
use Rattle.std.specs.List.{flat_map, join_with_byte}
use Rattle.std.specs.Fmt.{decimal}
use Rattle.act_kinds.specs.Params.{kind_of, number_of_kind}
use Rattle.filter_state.specs.declared.action_line.ActionLine.{ActionLine}
use Rattle.filter_state.specs.declared.edit.FilterLine.{FilterLine}
use Rattle.filter_state.specs.States.{Row, Action, State}
use Rattle.filter_state.specs.Actions.{has_serial}
use Rattle.filter_state.specs.Tables.{first_where}
use Rattle.tc_batch.specs.KindNames.{kind_text}
use Rattle.tc_print.specs.ActionWords.{action_words}
use Rattle.tc_print.specs.EditWords.{qdisc_words, filter_words}
use Rattle.row_laws.specs.OfOrder.Sorted.{sorted}
use Rattle.row_laws.specs.OfOrder.Rows.{row_before}

-- words with one space between, and a line end
abbrev pub text_line : List (List ℕ) → List ℕ
text_line words = join_with_byte 32 words ++ (10 ∷ [])

-- ---- the qdisc
abbrev pub hook_shown : State → List ℕ
hook_shown s = if s.hooked then text_line (qdisc_words (codes "add")) else []

-- ---- actions, by kind and then index
abbrev pub action_before : Action → Action → Bool
action_before a b =
    nat_lt (number_of_kind (kind_of a.params)) (number_of_kind (kind_of b.params))
    || (number_of_kind (kind_of a.params) == number_of_kind (kind_of b.params) && nat_lt a.index b.index)

abbrev pub counts_words : Action → List (List ℕ)
counts_words a =
    codes "counts" ∷ kind_text (kind_of a.params) ∷ codes "index" ∷ decimal a.index ∷ codes "serial"
    ∷ decimal a.serial
    ∷ codes "references" ∷ decimal a.references ∷ codes "binds" ∷ decimal a.binds ∷ []

-- the line that makes the action, and one with its counts
abbrev pub action_shown : Action → List ℕ
action_shown a =
    text_line (codes "actions" ∷ codes "add"
    ∷ action_words (record { kind = kind_of a.params; index = Some a.index; params = Some a.params }))
    ++ text_line (counts_words a)

-- ---- filters, in the order of the rows
-- each action by its kind and index
abbrev pub named : Option Action → List ActionLine
named None = []
named (Some a) = record { kind = kind_of a.params; index = Some a.index; params = None } ∷ []

abbrev pub line_of : State → Row → FilterLine
line_of s row = record {
  hook = row.hook;
  protocol = row.protocol;
  chain = row.chain;
  pref = Some row.pref;
  handle = Some row.handle;
  mask = record { words = row.mask };
  key = record { words = row.key };
  actions = flat_map (λ serial. named (first_where (has_serial serial) s.actions)) row.actions;
}

-- the line that adds the filter
abbrev pub filter_shown : State → Row → List ℕ
filter_shown s row = text_line (filter_words (codes "add") (line_of s row))

-- ---- all of it
abbrev pub show_of : State → List ℕ
show_of s =
    hook_shown s
    ++ (flat_map action_shown (sorted action_before s.actions)
    ++ (flat_map (filter_shown s) (sorted row_before s.rows)
    ++ text_line (codes "end" ∷ [])))
