-- Where a filter stands among slots of which some are empty, and an index that knows it (this project's own).
use Rattle.std.specs.Prelude.{◌≡◌, ℕ, suc, Bool, nat_eq, List, [], ◌∷◌, length, Option, Some, None, map}
use Rattle.std.specs.Prelude.{option_map, if◌then◌else◌}
use Rattle.std.specs.HashMap.{HashMap, get, hash_map_len}
use Rattle.filter_index.specs.declared.filter.Filter.{Filter}
use Rattle.filter_index.specs.Listed.{has_handle, AreApart, those_there}
use Rattle.filter_index.specs.Digests.{digest_of}

-- the place of the first value that passes the test
abbrev pub place_of : {X : Type 0} → (X → Bool) → List (Option X) → Option ℕ
place_of test [] = None
place_of test (Some x ∷ slots) = if test x then Some 0 else option_map suc (place_of test slots)
place_of test (None ∷ slots) = option_map suc (place_of test slots)

-- the digest of the key in a slot
abbrev pub digest_in : Option Filter → Option ℕ
digest_in slot = option_map (λ f. digest_of f.key.words) slot

-- the index has the place of each handle, and no other; the digests are those of the keys, slot for slot; and
-- no two filters have the same handle or key
pub record AreIndexed {S : Type 0} (handles : HashMap ℕ ℕ S) (digests : List (Option ℕ))
    (slots : List (Option Filter)) : Type 0 where
  pub handle_at : (handle : ℕ) → get nat_eq handles handle ≡ place_of (has_handle handle) slots
  pub even : digests ≡ map digest_in slots
  pub count : hash_map_len handles ≡ length (those_there slots)
  pub apart : AreApart (those_there slots)
