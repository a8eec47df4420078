-- What is answered for the states of a journal (this project's own).
use Rattle.std.specs.Prelude.{ℕ, List, Option, Some, map}
use Rattle.filter_state.specs.declared.edit.Edit.{Edit}
use Rattle.filter_state.specs.Journals.{state_at}
use Rattle.filter_tables.specs.Rows.{tables_on}
use Rattle.hook_lists.specs.declared.kept.Kept.{Kept}
use Rattle.hook_lists.specs.States.{both_of}
use Rattle.walk_rules.specs.Questions.{Question, Answer, heads_of, filter_of, params_of, told_heads}
use Rattle.walk_rules.specs.Answers.{answer_of}
use Rattle.head_laws.specs.Heads.{head_of}

-- a journal, and lists that tell the tables
pub record Answerer : Type 0 where
  pub journal : List Edit
  pub lists : Kept

-- THE ANSWER at a point: of masks and actions that of the journal's state there, of the tables the lists' own,
-- whatever the point
abbrev pub answer_by : Answerer → ℕ → Question → Option Answer
answer_by by point (heads_of hook) = Some (told_heads (map head_of (tables_on hook (both_of by.lists))))
answer_by by point (filter_of table mask values) = answer_of (state_at point by.journal) (filter_of table mask values)
answer_by by point (params_of serial) = answer_of (state_at point by.journal) (params_of serial)
