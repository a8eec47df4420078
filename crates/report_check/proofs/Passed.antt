-- Laws of the lines of reports, passed on.
pub use Rattle.report_laws.proofs.LineTexts.{end_head, kind_head, packet_head}
pub use Rattle.report_laws.proofs.OfLineCuts.Cutting.{cut_joined}
pub use Rattle.report_laws.proofs.OfNextLines.HeadOnce.{Headless, headless, same_at, same_cond, stop_headless}
pub use Rattle.report_laws.proofs.OfWholePaths.Cutting.{joined_cut}
pub use Rattle.report_laws.proofs.OnePath.{one_path}
pub use Rattle.report_laws.proofs.Paths.{run_path}
pub use Rattle.report_laws.proofs.ReportLines.{report_is_lines}
pub use Rattle.report_laws.proofs.ShortJournals.{journal_short}
pub use Rattle.report_laws.proofs.ShortRuns.{events_few, packets_few}
pub use Rattle.report_laws.proofs.Texts.{edits_cons, packets_are, packets_from, round_text, round_text_is}
pub use Rattle.report_laws.proofs.Texts.{rounds_from, rounds_lines_are}
pub use Rattle.run_counts.proofs.OfShortWalks.ShortRuns.{frame_short}
