-- The report of the worked run.
use Rattle.std.proofs.Common.{◌≡◌, refl}
use Rattle.std.specs.Fmt.{digits}
use Rattle.line_texts.specs.Texts.{handle_text}
use Rattle.run_report.specs.Passed.{counted, end_text, action_text, count_text, edits_text, verdicts_text}
use Rattle.run_report.specs.EventTexts.{filter_name, filter_text, edit_place}
use Rattle.run_report.specs.PacketTexts.{packet_name, points_text}
use Rattle.run_report.specs.Reports.{numbered_line, report_text}
use Rattle.lawful_runs.specs.WorkedRun.{worked_run, worked_report}

pub report_is : report_text worked_run ≡ worked_report
unfolding digits handle_text counted end_text action_text count_text edits_text verdicts_text filter_name filter_text edit_place packet_name points_text numbered_line
report_is = refl
