pub mod FirstBadLines
