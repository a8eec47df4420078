-- The texts of a walk, passed on: who stands above needs no other crate for them.
unfoldable pub use Rattle.walk_texts.specs.Texts.{action_text, count_text, counted, edits_text, end_text, verdicts_text}
