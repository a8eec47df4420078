-- How many commands more a batch may have: what is left is told at the line where it is passed.
use Rattle.std.proofs.Common.{◌≡◌, ◌∙◌, ℕ, ◌+◌, ◌-◌, ◌<◌, Bool, true, false, List, ◌∷◌, length, get_or, Some, refl, sym, ap, subst, arith}
use Rattle.std.specs.Prelude.{◌==◌, not, if◌then◌else◌}
use Rattle.std.specs.Borrow.{Bor}
use Rattle.batch_run.specs.Commands.{Command, line_past}
use Rattle.batch_run.proofs.CommandLines.{nothing, words_at, left_at, command_at, blank_at, one_at}

-- commands that are left, of all, where there is room for so many more
pub record HasRoom (room : ℕ) (left all : List Command) : Type 0 where
  pub line : line_past room left ≡ line_past 262144 all
  pub counted : length left + 262144 ≡ length all + room

full : (room : ℕ) (command : Command) (commands : List Command) → room ≡ 0 → line_past room (command ∷ commands) ≡ Some command.line
full room command commands none = ap (λ (n : ℕ). line_past n (command ∷ commands)) none

taken : (room : ℕ) (command : Command) (commands : List Command) → (room ≡ 0 → ⊥) → line_past room (command ∷ commands) ≡ line_past (room - 1) commands
taken room command commands some = by_test (room == 0) refl
  where
    by_test : (b : Bool) → (room == 0) ≡ b → (if b then Some command.line else line_past (room - 1) commands) ≡ line_past (room - 1) commands
    by_test true is = absurd (some (grind arith))
    by_test false is = refl

one_less : (room : ℕ) (command : Command) (commands all : List Command) → (room ≡ 0 → ⊥) → HasRoom room (command ∷ commands) all → HasRoom (room - 1) commands all
one_less room command commands all some has =
    let counted : length (command ∷ commands) + 262144 ≡ length all + room = has.counted in
    record {
      line = sym (taken room command commands some) ∙ has.line;
      counted = omega arith;
    }

-- ---- at the lent lines
pub room_after_blank : (room i : ℕ) (lines : List (Bor (List ℕ))) (all : List Command) → i < length lines → not (length (words_at lines i) == 0) ≡ false
    → HasRoom room (left_at lines i) all → HasRoom room (left_at lines (i + 1)) all
room_after_blank room i lines all here is has = subst (λ (left : List Command). HasRoom room left all) (blank_at lines i here is) has

pub room_after_one : (room i : ℕ) (lines : List (Bor (List ℕ))) (all : List Command) → i < length lines → not (length (words_at lines i) == 0) ≡ true → (room ≡ 0 → ⊥)
    → HasRoom room (left_at lines i) all → HasRoom (room - 1) (left_at lines (i + 1)) all
room_after_one room i lines all here is some has =
    one_less room (command_at (i + 1) (get_or lines i nothing).now) (left_at lines (i + 1)) all some (subst (λ (left : List Command). HasRoom room left all) (one_at lines i here is) has)

pub passed_at : (room i : ℕ) (lines : List (Bor (List ℕ))) (all : List Command) → i < length lines → not (length (words_at lines i) == 0) ≡ true → room ≡ 0
    → HasRoom room (left_at lines i) all → Some (i + 1) ≡ line_past 262144 all
passed_at room i lines all here is none has =
    sym (full room (command_at (i + 1) (get_or lines i nothing).now) (left_at lines (i + 1)) none) ∙ ap (line_past room) (sym (one_at lines i here is)) ∙ has.line
