-- The numbers in the line of a packet (this project's own).
use Rattle.std.specs.Prelude.{◌≡◌, ℕ, ◌<◌, ◌^◌, Bool, nat_lt, List, ◌∷◌, ◌++◌, codes}
use Rattle.filter_state.specs.Sound.{Each}
use Rattle.run_report.specs.declared.outcomes.Outcome.{Outcome}
use Rattle.run_report.specs.PacketTexts.{packet_name, points_text}

-- below the digits, as a blank and the end of a line are
abbrev pub is_low : ℕ → Bool
is_low byte = nat_lt byte 48

-- its worker and its points are of 32 bits
pub record IsSmall (outcome : Outcome) : Type 0 where
  pub worker : outcome.worker < 2 ^ 32
  pub points : Each (λ point. point < 2 ^ 32) outcome.points

-- THE LINE SHOWS this packet, worker and points: `packet N worker W`, a blank, something, and the points
pub record ShowsPoints (line : List ℕ) (number worker : ℕ) (points : List ℕ) : Type 0 where
  pub middle : List ℕ
  pub worker_small : worker < 2 ^ 32
  pub points_small : Each (λ point. point < 2 ^ 32) points
  pub text : line ≡ packet_name number worker ++ (32 ∷ (middle ++ (points_text points ++ codes "\n")))
