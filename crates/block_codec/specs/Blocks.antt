-- The forty words of a block (this project's own).
use Rattle.std.specs.Prelude.{◌≡◌, ℕ, ◌+◌, ◌-◌, ◌*◌, ◌^◌, ◌<◌, List, [], ◌∷◌, ◌++◌, length, replicate, Option}
use Rattle.std.specs.Prelude.{Some, None, IfSome, slice_range, All}

-- a word with these halves of 32 bits
abbrev pub both : ℕ → ℕ → ℕ
both low high = low + high * 2 ^ 32

-- a number plus 1, or 0 where there is none
abbrev pub plus_one : Option ℕ → ℕ
plus_one None = 0
plus_one (Some number) = number + 1

-- the words, and zeros behind them up to so many
abbrev pub padded : ℕ → List ℕ → List ℕ
padded count words = words ++ replicate (count - length words) 0

-- a block: the words that have a name, zeros behind them, and in the last word the link to the next block
abbrev pub block : List ℕ → Option ℕ → List ℕ
block named link = padded 39 named ++ plus_one link ∷ []

-- a link names a block by a number of 32 bits
abbrev pub IsLink : Option ℕ → Type 0
IsLink link = IfSome link (λ number. number < 2 ^ 32)

-- the answer is the one thing that is so, and None where nothing is
pub record IsTheOnly {Thing : Type 0} (Is : Thing → Type 0) (answer : Option Thing) : Type 0 where
  pub found : IfSome answer Is
  pub only : (thing : Thing) → Is thing → answer ≡ Some thing

-- the words from a place on are 0, but for the link
abbrev pub IsBlankFrom : ℕ → List ℕ → Type 0
IsBlankFrom at words = All (λ word. word ≡ 0) (slice_range words at 39)
