-- How many buckets some filters get, this project's own.
use Rattle.std.specs.Prelude.{ℕ, ◌*◌, ◌==◌, Bool, nat_le, List, [], ◌∷◌, if◌then◌else◌}
use Rattle.std.specs.List.{list_any}

-- the sizes: the powers of two from 16 to 1,024
abbrev pub sizes : List ℕ
sizes = 16 ∷ 32 ∷ 64 ∷ 128 ∷ 256 ∷ 512 ∷ 1024 ∷ []

abbrev pub is_size : ℕ → Bool
is_size number = list_any (λ size. size == number) sizes

-- the first of some sizes of which the filters fill three quarters at most, and 1,024 where none is enough
abbrev pub first_with_room : ℕ → List ℕ → ℕ
first_with_room filters [] = 1024
first_with_room filters (size ∷ more) = if nat_le (4 * filters) (3 * size) then size
    else first_with_room filters more

abbrev pub size_of : ℕ → ℕ
size_of filters = first_with_room filters sizes
