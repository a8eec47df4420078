-- One visit at a point, and what its answer is told as (this project's own).
use Rattle.std.specs.Prelude.{◌≡◌, ℕ, length, Option, Some, None}
use Rattle.walk_rules.specs.Questions.{Question, heads_of, filter_of, params_of, Answer}
use Rattle.walk_rules.specs.Questions.{told_heads, told_no_filter, told_actions, told_params}
use Rattle.walk_rules.specs.Steps.{Standing, question_of, after}
use Rattle.point_walks.specs.declared.answered.Answered.{Answered}
use Rattle.point_walks.specs.declared.answered.Answered.TheVariants as answereds
use Rattle.point_walks.specs.declared.at_points.Thing.{Thing}
use Rattle.point_walks.specs.declared.at_points.Thing.TheVariants as things
use Rattle.point_walks.specs.Over.{Answering}

-- what an answer to a question is told as; an answer of another kind isn't told
abbrev pub answered_as : Question → Answer → Option Answered
answered_as (heads_of hook) (told_heads heads) = Some (answereds.Tables (length heads))
answered_as (filter_of table mask values) told_no_filter = Some (answereds.NoFilter mask)
answered_as (filter_of table mask values) (told_actions actions) = Some (answereds.Filter mask)
answered_as (params_of serial) (told_params params) = Some (answereds.Acted serial params)
answered_as question answer = None

abbrev pub answered_from : Option Question → Answer → Option Answered
answered_from None answer = None
answered_from (Some question) answer = answered_as question answer

-- what was asked for
abbrev pub thing_answered : Answered → Thing
thing_answered (answereds.Tables count) = things.Tables
thing_answered (answereds.NoFilter mask) = things.Mask mask
thing_answered (answereds.Filter mask) = things.Mask mask
thing_answered (answereds.Acted serial params) = things.Action serial

-- ONE VISIT AT A POINT: the walk asks, the point has an answer, that is told, and the walk goes on by it
pub record IsVisitAt (answers : Answering) (point : ℕ) (st now : Standing)
    (answered : Answered) : Type 0 where
  pub question : Question
  pub answer : Answer
  pub asks : question_of st ≡ Some question
  pub is : answers point question ≡ Some answer
  pub told : answered_as question answer ≡ Some answered
  pub goes : now ≡ after st answer
