-- For how many actions more there is room: as far as both lists, the entries and the names, have it. Each list
-- has a capacity and a length.
use Rattle.std.proofs.Common.{◌≡◌, ℕ, ◌+◌, ◌-◌, ◌<◌, ◌≤◌, min, arith}

-- where there is room, the entries have some
pub entries_room : (a b c d spare : ℕ) → min (a - b) (c - d) ≡ spare → 0 < spare → b < a
entries_room a b c d spare is some = omega arith

-- and so have the names
pub names_room : (a b c d spare : ℕ) → min (a - b) (c - d) ≡ spare → 0 < spare → d < c
names_room a b c d spare is some = omega arith

-- one more of both takes the room of one
pub less_room : (a b c d a' b' c' d' spare : ℕ) → min (a - b) (c - d) ≡ spare → 0 < spare → a' ≡ a → b' ≡ b + 1 → c' ≡ c → d' ≡ d + 1
    → min (a' - b') (c' - d') + 1 ≡ spare
less_room a b c d a' b' c' d' spare was some entries more_entries names more_names = omega arith

-- one less of both leaves no less room
pub more_room : (a b c d a' b' c' d' spare : ℕ) → min (a - b) (c - d) ≡ spare → a' ≡ a → b' + 1 ≡ b → c' ≡ c → d' + 1 ≡ d
    → spare ≤ min (a' - b') (c' - d')
more_room a b c d a' b' c' d' spare was entries less_entries names less_names = omega arith
