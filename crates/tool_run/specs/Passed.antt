-- What a program says of jobs and their runs, passed on: who stands above needs no other crate for it.
pub use Rattle.run_report.specs.Counts.{events_in, packets_in}
pub use Rattle.run_report.specs.Reports.{report_text}
pub use Rattle.lawful_runs.specs.Given.{IsLoaded}
pub use Rattle.lawful_runs.specs.Lawful.{IsLawfulRun}
pub use Rattle.job_files.specs.Inputs.{FetchesInput}
