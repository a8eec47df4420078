-- What is noted of the first edits of a journal (this project's own).
use Rattle.std.specs.Prelude.{◌≡◌, ℕ, ◌≤◌, ◌^◌, zero, suc, List, [], ◌∷◌, length, slice_get}
use Rattle.std.specs.Prelude.{Option, Some, None, option_map}
use Rattle.filter_state.specs.declared.edit.Edit.{Edit}
use Rattle.filter_state.specs.declared.edit.Edit.TheVariants as edits
use Rattle.filter_state.specs.States.{State}
use Rattle.filter_state.specs.Journals.{IsLawful, state_at}
use Rattle.std.specs.Option.{unwrap_or}
use Rattle.hook_lists.specs.declared.kept.Kept.{Kept}
use Rattle.filter_lists.specs.Spells.{Spells}
use Rattle.slot_pasts.specs.declared.past.Change.{Change}
use Rattle.slot_pasts.specs.Pasts.{value_at, UpTo, stood}
use Rattle.slot_pasts.specs.declared.named.NamedPast.{NamedPast}
use Rattle.slot_pasts.specs.Names.{past_of}
use Rattle.slot_pasts.specs.Serials.{past_at}
use Rattle.state_past_laws.specs.OfChanges.Serials.{serial_named}
use Rattle.state_past.specs.declared.gone_filters.going.GoingFilter.{GoingFilter}
use Rattle.state_past.specs.declared.coming.Coming.{Coming}
use Rattle.state_past.specs.Told.{named_slot}
use Rattle.edit_lines.specs.declared.line.Line.{Line}
use Rattle.filter_origins.specs.declared.brought.Brought.{Brought}
use Rattle.filter_origins.specs.declared.origins.Origins.{Origins}
use Rattle.filter_origins.specs.Entries.{Entry, edits_of}
use Rattle.filter_origins.specs.Brought.{brought_filter}
use Rattle.filter_origins.specs.Origins.{gone_by, brought_among, maker_at}

-- ---- what one edit brings and takes
-- the action that it changes by kind and index
abbrev pub changed_in : State → Edit → Option ℕ
changed_in s (edits.ActionChange line) = serial_named s line.kind (unwrap_or line.index 0)
changed_in s edit = None

-- the filter that it put
abbrev pub brought_by : Line → Option Coming → List Brought
brought_by by None = []
brought_by by (Some coming) = record {
  by = by;
  hook = coming.line.now.hook;
  chain = coming.line.now.chain;
  pref = coming.pref;
  protocol = coming.line.now.protocol;
  handle = coming.handle;
  gone = None;
} ∷ []

-- the place of the filter that stands in the slot of one that goes
abbrev pub place_at : ℕ → List (NamedPast ℕ) → GoingFilter → Option ℕ
place_at from slots going = stood (value_at from (past_of slots (named_slot going.mask going.key.words)))

-- the filter with a place went with the edit of that number
abbrev pub went : ℕ → Brought → Brought
went number brought = record brought { gone = Some number }

abbrev pub gone_at : ℕ → ℕ → List Brought → List Brought
gone_at number place [] = []
gone_at number zero (first ∷ brought) = went number first ∷ brought
gone_at number (suc place) (first ∷ brought) = first ∷ gone_at number place brought

abbrev pub taken_at : ℕ → Option ℕ → List Brought → List Brought
taken_at number None brought = brought
taken_at number (Some place) brought = gone_at number place brought

abbrev pub all_taken : ℕ → List (NamedPast ℕ) → List GoingFilter → List Brought → List Brought
all_taken number slots [] brought = brought
all_taken number slots (first ∷ going) brought =
    all_taken number slots going (taken_at number (place_at number slots first) brought)

-- ---- what is noted of the first so many edits
-- the past tells that at each point so far
pub record IsNoted {W : Type 0} (has : ℕ → Option W) (past : List (Change (Option W))) (count : ℕ)
    : Type 0 where
  pub told : (point : ℕ) → point ≤ count → stood (value_at point past) ≡ has point
  pub up_to : UpTo count past

-- the place, among all filters that were brought, of the one that the edit of a number brought
abbrev pub place_in : List Entry → ℕ → ℕ
place_in entries zero = 0
place_in entries (suc place) = length (brought_among entries (λ number row. None) place)

abbrev pub place_by : List Entry → ℕ → List ℕ → ℕ → Option ℕ
place_by entries mask key point =
    option_map (place_in entries) (brought_filter (edits_of entries) point mask key)

pub record Follows (origins : Origins) (lists : Kept) (entries : List Entry) (count : ℕ) : Type 0 where
  pub lawful : IsLawful (edits_of entries)
  pub few : length entries ≤ 2 ^ 31
  pub within : count ≤ length entries
  pub spells : Spells lists (state_at count (edits_of entries))
  pub slots : (mask : ℕ) (key : List ℕ)
      → IsNoted (place_by entries mask key) (past_of origins.slots (named_slot mask key)) count
  pub unnamed : past_of origins.slots [] ≡ []
  pub actions : (serial : ℕ)
      → IsNoted (λ point. maker_at entries point serial) (past_at origins.actions serial) count
  pub brought : origins.brought.items
      ≡ brought_among entries (λ number row. gone_by (edits_of entries) number row count) count

-- the edit behind so many others, and its line
pub record IsNext (entries : List Entry) (count : ℕ) (edit : Edit) (by : Line) : Type 0 where
  pub number : by.edit ≡ suc count
  pub entry : slice_get entries count ≡ Some (record { control = by.control; line = by.line; edit = edit })
