pub mod ShortRuns
