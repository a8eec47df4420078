-- The text that `show` writes for a batch (this project's own): the refused line, if there is one, and the
-- state that is left.
use Rattle.std.specs.Prelude.{ℕ, List, [], ◌++◌, Option, Some, None}
use Rattle.batch_run.specs.declared.stop.Stop.{Stop}
use Rattle.batch_run.specs.declared.stop.Stop.TheVariants as stops
use Rattle.batch_run.specs.Runs.{Ran}
use Rattle.tc_report.specs.Refusals.{refusal_words, syntax_words, refused_line}
use Rattle.tc_report.specs.Show.{show_of}

-- the refused line; the control is 1
abbrev pub stop_shown : ℕ → Option Stop → List ℕ
stop_shown accepted None = []
stop_shown accepted (Some (stops.Refused line refusal)) = refused_line accepted 1 line (refusal_words refusal)
stop_shown accepted (Some (stops.Syntax line word)) = refused_line accepted 1 line (syntax_words word)

abbrev pub shown : Ran → List ℕ
shown ran = stop_shown ran.accepted ran.stop ++ show_of ran.state
