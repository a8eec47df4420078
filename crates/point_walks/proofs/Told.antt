-- What is told of a visit.
use Rattle.std.proofs.Common.{◌≡◌, length, Option, Some, ap, sym}
use Rattle.walk_rules.specs.Questions.{Question, heads_of, filter_of, params_of, Answer, told_heads, told_no_filter, told_actions, told_params}
use Rattle.point_walks.specs.declared.answered.Answered.{Answered}
use Rattle.point_walks.specs.declared.answered.Answered.TheVariants as answereds
use Rattle.point_walks.specs.Answereds.{answered_as, thing_answered}
use Rattle.point_walks.specs.Visits.{thing_of}

one : (first told : Answered) → ◌≡◌ {A = Option Answered} (Some first) (Some told) → thing_answered told ≡ thing_answered first
one first told is = let same : first ≡ told = cc is in sym (ap thing_answered same)

pub thing_is : (question : Question) (answer : Answer) (told : Answered) → answered_as question answer ≡ Some told → thing_answered told ≡ thing_of question
thing_is (heads_of hook) (told_heads heads) told is = one (answereds.Tables (length heads)) told is
thing_is (heads_of hook) told_no_filter told is = absurd (cc is)
thing_is (heads_of hook) (told_actions actions) told is = absurd (cc is)
thing_is (heads_of hook) (told_params params) told is = absurd (cc is)
thing_is (filter_of table mask values) (told_heads heads) told is = absurd (cc is)
thing_is (filter_of table mask values) told_no_filter told is = one (answereds.NoFilter mask) told is
thing_is (filter_of table mask values) (told_actions actions) told is = one (answereds.Filter mask) told is
thing_is (filter_of table mask values) (told_params params) told is = absurd (cc is)
thing_is (params_of serial) (told_heads heads) told is = absurd (cc is)
thing_is (params_of serial) told_no_filter told is = absurd (cc is)
thing_is (params_of serial) (told_actions actions) told is = absurd (cc is)
thing_is (params_of serial) (told_params params) told is = one (answereds.Acted serial params) told is
