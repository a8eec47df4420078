-- Where things are kept, and what is told of them (this project's own).
use Rattle.std.specs.Prelude.{ℕ, ◌%◌, ◌==◌, ◌&&◌, List, Option, Some, None, IfSome, All, slice_index_or}
use Rattle.std.specs.Prelude.{if◌then◌else◌}
use Rattle.std.specs.Option.{option_map}
use Rattle.kept_records.specs.declared.things.kept.Kept.{Kept}

-- every 256th number has the same place
abbrev pub place_of : ℕ → ℕ
place_of number = number % 256

module _ {T : Type 0} where
  abbrev pub kept_as : ℕ → ℕ → Option T → Option (Kept T)
  kept_as number stamp thing = option_map (λ it. record { number = number; stamp = stamp; thing = it }) thing

  abbrev pub thing_as : ℕ → ℕ → Option (Kept T) → Option T
  thing_as number stamp None = None
  thing_as number stamp (Some kept) =
      if kept.number == number && kept.stamp == stamp then Some kept.thing else None

  -- the thing of that number that is kept with that stamp
  abbrev pub kept_at : List (Option (Kept T)) → ℕ → ℕ → Option T
  kept_at places number stamp = thing_as number stamp (slice_index_or places (place_of number) None)

  -- all that is kept has this
  abbrev pub AllKept : (Kept T → Type 0) → List (Option (Kept T)) → Type 0
  AllKept P places = All (λ kept. IfSome kept P) places
