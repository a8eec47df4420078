-- What a process tells of the words that it was started with, its own name first (this project's own).
use Rattle.std.specs.Prelude.{◌≡◌, ◌⊎◌, ℕ, ◌+◌, ◌^◌, ◌<◌, ◌≤◌, List, [], ◌∷◌, drop, take, length, Option, Some, None, IfSome}
use Rattle.std.specs.Prelude.{Result, Ok, Err, String, string_bytes}
use Rattle.std.specs.Prelude.{IsUtf8}
use Rattle.std.specs.declared.alloc.Global.{Global}
use Rattle.std.specs.declared.env.FillError.{FillError}
use Rattle.clsact_cli.specs.declared.words.Found.{Found}
use Rattle.clsact_cli.specs.declared.words.Found.TheVariants as founds
use Rattle.std.specs.declared.env.FillError.TheVariants as faults

-- what may be answered for a place among the words, into room of some bytes: the word there, that there is none,
-- or that it is longer than the room
abbrev pub Answers : List (List ℕ) → ℕ → List ℕ → Result ℕ FillError → Type 0
Answers words place room (Ok n) = (behind : List (List ℕ)) × (drop place words ≡ take n room ∷ behind)
Answers words place room (Err faults.NotPresent) = drop place words ≡ []
Answers words place room (Err faults.TooLong) =
    (word : List ℕ) × (behind : List (List ℕ)) × (drop place words ≡ word ∷ behind) × (length room < length word)

-- the word at a place, or none where they have ended
abbrev pub IsFound : List (List ℕ) → ℕ → Option (String Global) → Type 0
IsFound words place None = drop place words ≡ []
IsFound words place (Some word) =
    (behind : List (List ℕ)) × (drop place words ≡ string_bytes word ∷ behind)

-- the same in some room, which a word may be longer than
abbrev pub IsFoundIn : List (List ℕ) → ℕ → ℕ → Found → Type 0
IsFoundIn words place room (founds.Word word) = IsFound words place (Some word)
IsFoundIn words place room founds.NoWord = IsFound words place None
IsFoundIn words place room founds.Longer =
    (word : List ℕ) × (behind : List (List ℕ)) × (drop place words ≡ word ∷ behind) × (room < length word)

-- ALL WORDS behind the process's own name, where it tells them
abbrev pub AreAll : Option (List (List ℕ)) → List (List ℕ) → Type 0
AreAll told texts = IfSome told (λ words. texts ≡ drop 1 words)

-- a word that no command has: it isn't text, or it is longer than any word that Linux gives (execve(2): 32 pages,
-- of 65,536 bytes at most)
abbrev pub IsNoWord : List ℕ → Type 0
IsNoWord word = (IsUtf8 word → ⊥) ⊎ (2 ^ 21 < length word)

-- one stands at the place
abbrev pub IsStrange : List (List ℕ) → ℕ → Type 0
IsStrange words place =
    (word : List ℕ) × (behind : List (List ℕ)) × (drop place words ≡ word ∷ behind) × IsNoWord word

-- NO COMMAND FOR WANT OF WORDS: one of them is such a word, or they are more than a machine's places
abbrev pub HasStrange : List (List ℕ) → Type 0
HasStrange words = ((place : ℕ) × IsStrange words place) ⊎ (2 ^ 64 ≤ length words + 1)
