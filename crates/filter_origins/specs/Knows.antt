-- What is known of a journal's lines (this project's own).
use Rattle.std.specs.Prelude.{◌≡◌, ℕ, List, slice_get, Option, option_map}
use Rattle.std.specs.Option.{option_and_then}
use Rattle.slot_pasts.specs.Pasts.{value_at, stood}
use Rattle.slot_pasts.specs.Names.{past_of}
use Rattle.slot_pasts.specs.Serials.{past_at}
use Rattle.state_past.specs.Told.{named_slot}
use Rattle.edit_lines.specs.declared.line.Origin.{Origin}
use Rattle.filter_origins.specs.declared.brought.Brought.{Brought}
use Rattle.filter_origins.specs.declared.origins.Origins.{Origins}
use Rattle.filter_origins.specs.Entries.{Entry}
use Rattle.filter_origins.specs.Origins.{origin_at, maker_at, brought_of}

abbrev pub origin_of : Brought → Origin
origin_of brought = record { handle = brought.handle; by = brought.by }

-- the origin of the filter with a place among those that were brought
abbrev pub origin_among : List Brought → Option ℕ → Option Origin
origin_among brought place = option_and_then (λ n. option_map origin_of (slice_get brought n)) place

-- IT KNOWS THE LINES of these entries: at each point the origins of filters and actions, and all filters that
-- were brought
pub record Knows (origins : Origins) (entries : List Entry) : Type 0 where
  pub filters : (point mask : ℕ) (key : List ℕ)
      → origin_among origins.brought.items
      (stood (value_at point (past_of origins.slots (named_slot mask key))))
      ≡ origin_at entries point mask key
  pub actions : (point serial : ℕ)
      → stood (value_at point (past_at origins.actions serial)) ≡ maker_at entries point serial
  pub brought : origins.brought.items ≡ brought_of entries
