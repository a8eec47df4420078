-- Serials in a row (this project's own).
use Rattle.std.specs.Prelude.{ℕ, ◌+◌, zero, suc, List, [], ◌∷◌, ◌++◌}

-- so many serials, from one on
abbrev pub serials_from : ℕ → ℕ → List ℕ
serials_from first zero = []
serials_from first (suc more) = serials_from first more ++ ((first + more) ∷ [])
