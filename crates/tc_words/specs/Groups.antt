-- Groups of hexadecimal digits, one behind the other.
use Rattle.std.specs.Prelude.{ℕ, ◌+◌, ◌*◌, ◌^◌, ◌==◌, nat_lt, List, length, fold, Option, Some, None}
use Rattle.std.specs.Prelude.{if◌then◌else◌}
use Rattle.std.specs.Option.{option_map}
use Rattle.tc_words.specs.Hexadecimal.{hex_of}

-- the number that a group of `least` to `most` digits spells
abbrev pub group_of : ℕ → ℕ → List ℕ → Option ℕ
group_of least most text = if nat_lt (length text) least then None else hex_of text most

-- a number, and behind it a group, which has the room of `most` digits
abbrev pub followed_by : ℕ → Option ℕ → Option ℕ → Option ℕ
followed_by most (Some number) (Some group) = Some (number * 16 ^ most + group)
followed_by most number group = None

-- the number that groups make, the highest first
abbrev pub groups_value : ℕ → ℕ → List (List ℕ) → Option ℕ
groups_value least most groups =
    fold (λ number group. followed_by most number (group_of least most group)) (Some 0) groups

-- how many groups there are, up to a greatest count, and the number that they make
abbrev pub groups_of : ℕ → ℕ → ℕ → List (List ℕ) → Option (ℕ × ℕ)
groups_of least most count groups = if nat_lt count (length groups) then None
    else option_map (λ number. (length groups, number)) (groups_value least most groups)

-- the number of groups of which there are just so many
abbrev pub of_just : ℕ → Option (ℕ × ℕ) → Option ℕ
of_just count None = None
of_just count (Some (found, number)) = if found == count then Some number else None
