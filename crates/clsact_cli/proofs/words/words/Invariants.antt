use Rattle.std.proofs.Common.{◌≡◌, ◌+◌, ◌++◌, List, ℕ, drop, length}
use Rattle.std.specs.Prelude.{IfSome}
use Rattle.tool_words.specs.Command.{texts}
use Rattle.clsact_cli.proofs.words.words.Given as goal

abbrev pub invariant-loop-place : goal.invariant-loop-place
invariant-loop-place g l = record {
  counted : length l.words.items + 1 ≡ l.place;
  all : IfSome (g.A.Arguments.told l.arguments) (λ (words : List (List ℕ)). drop 1 words ≡ texts l.words.items ++ drop l.place words);
}
