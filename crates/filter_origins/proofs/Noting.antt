-- What is noted of one edit more.
use Rattle.std.proofs.Common.{◌≡◌, ◌∙◌, ◌⊎◌, inl, inr, ℕ, zero, suc, ◌+◌, ◌-◌, ◌<◌, ◌≤◌, ◌==◌, ◌&&◌, Bool, true, false, List, [], ◌∷◌, ◌++◌, length, map, Option, Some, None, refl, sym, ap, subst, arith, eqb-true, eq-eqb}
use Rattle.std.specs.Prelude.{◌||◌, nat_lt, nat_le, slice_get, option_map, if◌then◌else◌}
use Rattle.std.specs.List.{list_any}
use Rattle.std.specs.Option.{option_and_then}
use Rattle.std.proofs.lemmas.Bool.{cases_lt, false_from_ne_true, and_parts, and_from, le-leb, leb-true}
use Rattle.std.proofs.lemmas.Option.{slice_get-map}
use Rattle.filter_state.specs.declared.edit.Edit.{Edit}
use Rattle.filter_state.specs.declared.edit.Edit.TheVariants as edits
use Rattle.filter_state.specs.States.{Row, State}
use Rattle.filter_state.specs.Sound.{EachPair, GoTogether}
use Rattle.filter_state.specs.Steps.{step}
use Rattle.filter_state.specs.Journals.{state_after, state_at, IsLawful}
use Rattle.slot_pasts.specs.declared.past.Change.{Change}
use Rattle.slot_pasts.specs.declared.named.NamedPast.{NamedPast}
use Rattle.slot_pasts.specs.Pasts.{value_at, UpTo, stood}
use Rattle.slot_pasts.specs.Names.{past_of}
use Rattle.state_past_laws.proofs.Longer.{settled}
use Rattle.state_past_laws.specs.OfChanges.Among.{Has, listed}
use Rattle.state_past_laws.specs.OfChanges.Moving.{GrowsFrom}
use Rattle.state_past_laws.proofs.OfChanges.Among.{has_left, has_right, has_append}
use Rattle.state_past_laws.proofs.OfChanges.Stood.{slot_from, slot_parts}
use Rattle.state_past.specs.declared.gone_filters.going.GoingFilter.{GoingFilter}
use Rattle.state_past.specs.declared.coming.Coming.{Coming}
use Rattle.state_past.specs.OfGoneFilters.Marks.{Mark, mark_of, marked}
use Rattle.state_past.specs.Serials.{serials_from}
use Rattle.state_past.specs.Brought.{Brought as AreBrought}
use Rattle.state_past.specs.Told.{named_slot, IsComingOf, coming_slots}
use Rattle.state_past.proofs.Bringing.{numbers, names, has_decided}
use Rattle.edit_lines.specs.declared.line.Line.{Line}
use Rattle.filter_origins.specs.Entries.{Entry, edits_of, line_of, line_at}
use Rattle.filter_origins.specs.Brought.{row_after, puts, brought_filter, makes, is_serial, changes, sets, sets_after, brought_action}
use Rattle.filter_origins.specs.Origins.{maker_at, is_filter, goes_after, or_later, gone_by, brought_among}
use Rattle.filter_origins.specs.Noted.{changed_in, place_at, taken_at, all_taken, gone_at, IsNoted, place_in, place_by, IsNext}
use Rattle.filter_origins.proofs.Comes.{same_row}
use Rattle.filter_origins.proofs.Standing.{brought_true, brought_false, filter_parts, named_itself, HasLine, has_line, stands_still, stands_yet}
use Rattle.filter_origins.proofs.Listed.{Gone, has_by, among_same, gone_is, gone_too}

-- ---- one past
module _ {W : Type 0} (has : ℕ → Option W) (past : List (Change (Option W))) (count : ℕ) (noted : IsNoted has past count) where
  pub noted_grows : (after : List (Change (Option W))) → GrowsFrom (suc count) past after → stood (value_at (suc count) after) ≡ has (suc count) → IsNoted has after (suc count)
  noted_grows after grows is = record { told = λ point most. by_point point (cases_lt point (suc count)) most; up_to = grows.up_to }
    where
      by_point : (point : ℕ) → (point < suc count) ⊎ (suc count ≤ point) → point ≤ suc count → stood (value_at point after) ≡ has point
      by_point point (inl low) most = ap stood (grows.before point low) ∙ noted.told point (omega (arith, low))
      by_point point (inr high) most = let at : suc count ≡ point = omega (arith, high, most) in subst (λ (n : ℕ). stood (value_at n after) ≡ has n) at is

  pub at_next : stood (value_at (suc count) past) ≡ has count
  at_next = ap stood (settled count (suc count) past noted.up_to (omega arith)) ∙ noted.told count (omega arith)

  pub up_to_next : UpTo (suc count) past
  up_to_next k d less = let early = noted.up_to k d less in omega (arith, early)

  pub noted_stays : (after : List (Change (Option W))) → after ≡ past → has (suc count) ≡ has count → IsNoted has after (suc count)
  noted_stays after same is = subst (λ (p : List (Change (Option W))). IsNoted has p (suc count)) (sym same)
      (noted_grows past (record { before = λ point less. refl; up_to = up_to_next }) (at_next ∙ sym is))

-- ---- the filter that comes
module _ (entries : List Entry) (count : ℕ) where
  abbrev journal : List Edit
  journal = edits_of entries

  slot_puts : (coming : Option Coming) → IsComingOf (row_after journal count) coming → (mask : ℕ) (key : List ℕ) → Has (named_slot mask key) (coming_slots coming) → puts mask key (row_after journal count) ≡ true
  slot_puts coming of mask key has = by_row (row_after journal count) coming of has
    where
      by_row : (o : Option Row) (coming : Option Coming) → IsComingOf o coming → Has (named_slot mask key) (coming_slots coming) → puts mask key o ≡ true
      by_row (Some row) (Some c) is (inl same) =
          let m = is.mask in let k = is.key in
          let one : c.mask ≡ mask = cc same in let other : c.line.now.key.words ≡ key = cc same in
          slot_from mask key row (sym m ∙ one) (sym k ∙ other)
      by_row (Some row) (Some c) is (inr none) = absurd none
      by_row (Some row) None is has = absurd is
      by_row None (Some c) is has = absurd is
      by_row None None is has = absurd has

  no_slot_puts : (coming : Option Coming) → IsComingOf (row_after journal count) coming → (mask : ℕ) (key : List ℕ) → (Has (named_slot mask key) (coming_slots coming) → ⊥) → puts mask key (row_after journal count) ≡ false
  no_slot_puts coming of mask key none = false_from_ne_true (puts mask key (row_after journal count)) (λ is. none (by_row (row_after journal count) coming of is))
    where
      by_row : (o : Option Row) (coming : Option Coming) → IsComingOf o coming → puts mask key o ≡ true → Has (named_slot mask key) (coming_slots coming)
      by_row (Some row) (Some c) is put =
          let parts = slot_parts mask key row put in let m = is.mask in let k = is.key in
          inl (ap (λ (n : ℕ). named_slot n c.line.now.key.words) (m ∙ parts.0) ∙ ap (λ (ns : List ℕ). named_slot mask ns) (k ∙ parts.1))
      by_row (Some row) None is put = absurd is
      by_row None coming is put = absurd (cc put)

  pub slot_noted : (past after : List ℕ → List (Change (Option ℕ))) (coming : Option Coming) (place : ℕ) → IsComingOf (row_after journal count) coming → place ≡ place_in entries (suc count)
      → AreBrought (suc count) stood (λ name. Some place) (coming_slots coming) past after → (mask : ℕ) (key : List ℕ)
      → IsNoted (place_by entries mask key) (past (named_slot mask key)) count → IsNoted (place_by entries mask key) (after (named_slot mask key)) (suc count)
  slot_noted past after coming place of at brought mask key noted = pick (has_decided names (named_slot mask key) (coming_slots coming))
    where
      pick : Has (named_slot mask key) (coming_slots coming) ⊎ (Has (named_slot mask key) (coming_slots coming) → ⊥) → IsNoted (place_by entries mask key) (after (named_slot mask key)) (suc count)
      pick (inl has) = noted_grows (place_by entries mask key) (past (named_slot mask key)) count noted (after (named_slot mask key)) (brought.grows (named_slot mask key))
          (brought.done (named_slot mask key) has ∙ ap (λ (n : ℕ). Some n) at ∙ sym (ap (option_map (place_in entries)) (brought_true journal count mask key (slot_puts coming of mask key has))))
      pick (inr none) = noted_stays (place_by entries mask key) (past (named_slot mask key)) count noted (after (named_slot mask key)) (brought.others (named_slot mask key) none)
          (ap (option_map (place_in entries)) (brought_false journal count mask key (no_slot_puts coming of mask key none)))

-- ---- actions
has_from : (n first more : ℕ) → first ≤ n → n < first + more → Has n (serials_from first more)
has_from n first zero least less = absurd (omega (arith, least, less))
has_from n first (suc more) least less = pick (cases_lt n (first + more)) (λ low. has_from n first more least low)
  where
    pick : (n < first + more) ⊎ (first + more ≤ n) → (n < first + more → Has n (serials_from first more)) → Has n (serials_from first more ++ ((first + more) ∷ []))
    pick (inl low) rest = has_left n (serials_from first more) ((first + more) ∷ []) (rest low)
    pick (inr high) rest = let same : first + more ≡ n = omega (arith, high, less) in has_right n (serials_from first more) ((first + more) ∷ []) (inl same)

from_has : (n first more : ℕ) → Has n (serials_from first more) → (first ≤ n) × (n < first + more)
from_has n first zero has = absurd has
from_has n first (suc more) has = pick (has_append n (serials_from first more) ((first + more) ∷ []) has) (λ own. from_has n first more own)
  where
    pick : Has n (serials_from first more) ⊎ Has n ((first + more) ∷ []) → (Has n (serials_from first more) → (first ≤ n) × (n < first + more)) → (first ≤ n) × (n < first + suc more)
    pick (inl own) rest = let range = rest own in (range.0, omega (arith, range.1))
    pick (inr (inl same)) rest = (omega (arith, same), omega (arith, same))
    pick (inr (inr none)) rest = absurd none

changes_is : (s : State) (edit : Edit) (serial : ℕ) → changes s edit serial ≡ is_serial serial (changed_in s edit)
changes_is s edits.HookAdd serial = refl
changes_is s edits.HookDel serial = refl
changes_is s (edits.FilterAdd line) serial = refl
changes_is s (edits.FilterReplace line) serial = refl
changes_is s (edits.FilterDel hook protocol chain pref handle) serial = refl
changes_is s (edits.ActionAdd line) serial = refl
changes_is s (edits.ActionChange line) serial = refl
changes_is s (edits.ActionDel kind index) serial = refl

serial_listed : (serial : ℕ) (o : Option ℕ) → is_serial serial o ≡ true → Has serial (listed o)
serial_listed serial None is = absurd (cc is)
serial_listed serial (Some other) is = inl (eqb-true other serial is)

listed_serial : (serial : ℕ) (o : Option ℕ) → Has serial (listed o) → is_serial serial o ≡ true
listed_serial serial None has = absurd has
listed_serial serial (Some other) (inl same) = eq-eqb other serial same
listed_serial serial (Some other) (inr none) = absurd none

or_parts : (a b : Bool) → (a || b) ≡ true → (a ≡ true) ⊎ (b ≡ true)
or_parts true b is = inl refl
or_parts false b is = inr is

or_left : (a b : Bool) → a ≡ true → (a || b) ≡ true
or_left true b is = refl
or_left false b is = absurd (cc is)

or_right : (a b : Bool) → b ≡ true → (a || b) ≡ true
or_right true b is = refl
or_right false b is = is

-- the serials that an edit sets
module _ (s t : State) (edit : Edit) (after : state_after s (step s edit) ≡ t) (made : ℕ) (made_is : made ≡ s.actions_made) (last : ℕ) (last_is : last ≡ t.actions_made) where
  abbrev keys : List ℕ
  keys = listed (changed_in s edit) ++ serials_from (made + 1) (last - made)

  sets_key : (serial : ℕ) → sets s edit serial ≡ true → Has serial keys
  sets_key serial is = pick (or_parts (makes s (state_after s (step s edit)) serial) (changes s edit serial) is)
    where
      pick : (makes s (state_after s (step s edit)) serial ≡ true) ⊎ (changes s edit serial ≡ true) → Has serial keys
      pick (inl makes_it) =
          let parts = and_parts (nat_lt s.actions_made serial) (nat_le serial t.actions_made) (ap (λ (u : State). makes s u serial) (sym after) ∙ makes_it) in
          let low : s.actions_made < serial = leb-true (suc s.actions_made) serial parts.0 in let high : serial ≤ t.actions_made = leb-true serial t.actions_made parts.1 in
          has_right serial (listed (changed_in s edit)) (serials_from (made + 1) (last - made)) (has_from serial (made + 1) (last - made) (omega (arith, low, made_is)) (omega (arith, low, high, made_is, last_is)))
      pick (inr changes_it) = has_left serial (listed (changed_in s edit)) (serials_from (made + 1) (last - made)) (serial_listed serial (changed_in s edit) (sym (changes_is s edit serial) ∙ changes_it))

  key_sets : (serial : ℕ) → Has serial keys → sets s edit serial ≡ true
  key_sets serial has = pick (has_append serial (listed (changed_in s edit)) (serials_from (made + 1) (last - made)) has)
    where
      pick : Has serial (listed (changed_in s edit)) ⊎ Has serial (serials_from (made + 1) (last - made)) → sets s edit serial ≡ true
      pick (inl changed) = or_right (makes s (state_after s (step s edit)) serial) (changes s edit serial) (changes_is s edit serial ∙ listed_serial serial (changed_in s edit) changed)
      pick (inr new) =
          let range = from_has serial (made + 1) (last - made) new in
          let low : s.actions_made < serial = omega (arith, range.0, made_is) in
          let high : serial ≤ t.actions_made = omega (arith, range.0, range.1, made_is, last_is) in
          or_left (makes s (state_after s (step s edit)) serial) (changes s edit serial)
          (ap (λ (u : State). makes s u serial) after ∙ and_from (nat_lt s.actions_made serial) (nat_le serial t.actions_made) (le-leb (suc s.actions_made) serial low) (le-leb serial t.actions_made high))

module _ (entries : List Entry) (count : ℕ) (edit : Edit) (by : Line) (next : IsNext entries count edit by) where
  pub edit_there : slice_get (edits_of entries) count ≡ Some edit
  edit_there = slice_get-map (λ (entry : Entry). entry.edit) entries count ∙ ap (option_map (λ (entry : Entry). entry.edit)) next.entry

  pub its_line : line_at entries (suc count) ≡ Some by
  its_line = let number = next.number in ap (option_map (line_of (suc count))) next.entry ∙ ap (λ (n : ℕ). Some (record by { edit = n })) (sym number)

module _ (entries : List Entry) (count : ℕ) (edit : Edit) (by : Line) (next : IsNext entries count edit by) (t : State) (after : state_after (state_at count (edits_of entries)) (step (state_at count (edits_of entries)) edit) ≡ t)
    (made : ℕ) (made_is : made ≡ (state_at count (edits_of entries)).actions_made) (last : ℕ) (last_is : last ≡ t.actions_made) where
  abbrev here : State
  here = state_at count (edits_of entries)

  sets_there : (serial : ℕ) → sets_after (edits_of entries) count serial (slice_get (edits_of entries) count) ≡ sets here edit serial
  sets_there serial = ap (sets_after (edits_of entries) count serial) (edit_there entries count edit by next)

  set_now : (serial : ℕ) → sets here edit serial ≡ true → maker_at entries (suc count) serial ≡ Some by
  set_now serial is =
      ap (λ (b : Bool). option_and_then (line_at entries) (if b then Some (suc count) else brought_action (edits_of entries) count serial)) (sets_there serial ∙ is) ∙ its_line entries count edit by next

  not_set : (serial : ℕ) → sets here edit serial ≡ false → maker_at entries (suc count) serial ≡ maker_at entries count serial
  not_set serial is =
      ap (λ (b : Bool). option_and_then (line_at entries) (if b then Some (suc count) else brought_action (edits_of entries) count serial)) (sets_there serial ∙ is)

  pub action_noted : (past after_past : ℕ → List (Change (Option Line))) → AreBrought (suc count) stood (λ serial. Some by) (listed (changed_in here edit) ++ serials_from (made + 1) (last - made)) past after_past
      → (serial : ℕ) → IsNoted (λ point. maker_at entries point serial) (past serial) count → IsNoted (λ point. maker_at entries point serial) (after_past serial) (suc count)
  action_noted past after_past brought serial noted = pick (has_decided numbers serial (listed (changed_in here edit) ++ serials_from (made + 1) (last - made)))
    where
      pick : Has serial (listed (changed_in here edit) ++ serials_from (made + 1) (last - made)) ⊎ (Has serial (listed (changed_in here edit) ++ serials_from (made + 1) (last - made)) → ⊥)
          → IsNoted (λ point. maker_at entries point serial) (after_past serial) (suc count)
      pick (inl has) = noted_grows (λ point. maker_at entries point serial) (past serial) count noted (after_past serial) (brought.grows serial)
          (brought.done serial has ∙ sym (set_now serial (key_sets here t edit after made made_is last last_is serial has)))
      pick (inr none) = noted_stays (λ point. maker_at entries point serial) (past serial) count noted (after_past serial) (brought.others serial none)
          (not_set serial (false_from_ne_true (sets here edit serial) (λ is. none (sets_key here t edit after made made_is last last_is serial is))))

-- ---- the filters that go
or_false : (b : Bool) → (b || false) ≡ b
or_false true = refl
or_false false = refl

or_assoc : (a b c : Bool) → ((a || b) || c) ≡ (a || (b || c))
or_assoc true b c = refl
or_assoc false b c = refl

or_none : (o : Option ℕ) → or_later o None ≡ o
or_none (Some n) = refl
or_none None = refl

module _ (entries : List Entry) (count : ℕ) (lawful : IsLawful (edits_of entries)) (within : count ≤ length (edits_of entries)) (slots : List (NamedPast ℕ))
    (noted : (mask : ℕ) (key : List ℕ) → IsNoted (place_by entries mask key) (past_of slots (named_slot mask key)) count) (pairs : EachPair GoTogether (state_at count (edits_of entries)).rows) where
  abbrev rows_here : List Row
  rows_here = (state_at count (edits_of entries)).rows

  place_of_row : (row : Row) (line : HasLine (edits_of entries) count row) → stood (value_at (suc count) (past_of slots (named_slot row.mask_serial row.key))) ≡ Some (place_in entries (suc line.place))
  place_of_row row line = at_next (place_by entries row.mask_serial row.key) (past_of slots (named_slot row.mask_serial row.key)) count (noted row.mask_serial row.key)
      ∙ ap (option_map (place_in entries)) line.brought

  place_of_going : (g : GoingFilter) (row : Row) → marked g ≡ mark_of row → (line : HasLine (edits_of entries) count row) → place_at (suc count) slots g ≡ Some (place_in entries (suc line.place))
  place_of_going g row same line =
      let mask : g.mask ≡ row.mask_serial = ap (λ (m : Mark). m.mask) same in
      let key : g.key.words ≡ row.key = ap (λ (m : Mark). m.key) same in
      ap (λ (n : ℕ). stood (value_at (suc count) (past_of slots (named_slot n g.key.words)))) mask ∙ ap (λ (k : List ℕ). stood (value_at (suc count) (past_of slots (named_slot row.mask_serial k)))) key
      ∙ place_of_row row line

  -- which of the filters went, where those that pass a test have gone now
  abbrev pub going_by : (Row → Bool) → Gone
  going_by test number row = or_later (gone_by (edits_of entries) number row count) (if test row then Some (suc count) else None)

  abbrev pub or_filter : (Row → Bool) → Row → Row → Bool
  or_filter test gone row = test row || is_filter row gone

  -- one goes
  module _ (test : Row → Bool) (row : Row) (line : HasLine (edits_of entries) count row) (has : Has row rows_here) (by : Line) (its : line_at entries (suc line.place) ≡ Some by) where
    abbrev taken : Gone
    taken = gone_too entries line.place row line.put by its (suc count) (going_by test)

    its_own : (other : Row) → row ≡ other → Some (suc count) ≡ going_by (or_filter test row) (suc line.place) other
    its_own other same =
        let none = stands_still (edits_of entries) lawful count within line.place row line.brought has in
        let passes : (test row || is_filter row row) ≡ true = or_right (test row) (is_filter row row) (named_itself row) in
        subst (λ (r : Row). Some (suc count) ≡ going_by (or_filter test row) (suc line.place) r) same
        (sym (ap (λ (o : Option ℕ). or_later o (if test row || is_filter row row then Some (suc count) else None)) none ∙ ap (λ (b : Bool). if b then Some (suc count) else None) passes))

    -- another of its name went before
    went_before : (place : ℕ) (other : Row) → place < count → row_after (edits_of entries) place ≡ Some other → (place ≡ line.place → ⊥) → is_filter other row ≡ true → (early : Option ℕ) → gone_by (edits_of entries) (suc place) other count ≡ early
        → or_later early (if test other then Some (suc count) else None) ≡ or_later early (if test other || is_filter other row then Some (suc count) else None)
    went_before place other less put apart named (Some point) is = refl
    went_before place other less put apart named None is =
        let own = stands_yet (edits_of entries) lawful count within place other less put is in
        let same : row ≡ other = same_row rows_here pairs row other (filter_parts other row named) has own.0 in
        let one : Some (suc line.place) ≡ Some (suc place) = sym line.brought ∙ ap (λ (r : Row). brought_filter (edits_of entries) count r.mask_serial r.key) same ∙ own.1 in
        let at : suc line.place ≡ suc place = cc one in
        absurd (apart (omega (arith, at)))

    others : (place : ℕ) (other : Row) → place < count → row_after (edits_of entries) place ≡ Some other → (place ≡ line.place → ⊥) → (b : Bool) → is_filter other row ≡ b
        → going_by test (suc place) other ≡ going_by (or_filter test row) (suc place) other
    others place other less put apart true is = went_before place other less put apart is (gone_by (edits_of entries) (suc place) other count) refl
    others place other less put apart false is =
        ap (λ (b : Bool). or_later (gone_by (edits_of entries) (suc place) other count) (if b then Some (suc count) else None)) (sym (ap (λ (c : Bool). test other || c) is ∙ or_false (test other)))

    each : (place : ℕ) (other : Row) → place < count → row_after (edits_of entries) place ≡ Some other → taken (suc place) other ≡ going_by (or_filter test row) (suc place) other
    each place other less put = by_test (suc place == suc line.place) refl
      where
        by_test : (b : Bool) → (suc place == suc line.place) ≡ b → (if b then Some (suc count) else going_by test (suc place) other) ≡ going_by (or_filter test row) (suc place) other
        by_test true is =
            let at : suc place ≡ suc line.place = eqb-true (suc place) (suc line.place) is in
            let down : place ≡ line.place = omega (arith, at) in
            let same : Some row ≡ Some other = sym line.put ∙ ap (row_after (edits_of entries)) (sym down) ∙ put in
            its_own other (cc same) ∙ ap (λ (n : ℕ). going_by (or_filter test row) n other) (sym at)
        by_test false is = others place other less put (λ same. cc (sym (eq-eqb (suc place) (suc line.place) (ap suc same)) ∙ is)) (is_filter other row) refl

    pub one_goes : gone_at (suc count) (place_in entries (suc line.place)) (brought_among entries (going_by test) count) ≡ brought_among entries (going_by (or_filter test row)) count
    one_goes = gone_is entries line.place row line.put by its (suc count) (going_by test) count line.before
        ∙ among_same entries taken (going_by (or_filter test row)) count each

  -- all go
  abbrev pub any_from : (Row → Bool) → List Row → Row → Bool
  any_from test [] row = test row
  any_from test (gone ∷ rows) row = any_from (or_filter test gone) rows row

  any_from_is : (test : Row → Bool) (rows : List Row) (row : Row) → any_from test rows row ≡ (test row || list_any (is_filter row) rows)
  any_from_is test [] row = sym (or_false (test row))
  any_from_is test (gone ∷ rows) row = any_from_is (or_filter test gone) rows row ∙ or_assoc (test row) (is_filter row gone) (list_any (is_filter row) rows)

  all_go : (going : List GoingFilter) (rows : List Row) (test : Row → Bool) → map marked going ≡ map mark_of rows → ((row : Row) → Has row rows → Has row rows_here)
      → all_taken (suc count) slots going (brought_among entries (going_by test) count) ≡ brought_among entries (going_by (any_from test rows)) count
  all_go [] [] test marks here = refl
  all_go [] (row ∷ rows) test marks here = absurd (cc marks)
  all_go (g ∷ going) [] test marks here = absurd (cc marks)
  all_go (g ∷ going) (row ∷ rows) test marks here =
      let first : marked g ≡ mark_of row = cc marks in
      let rest : map marked going ≡ map mark_of rows = cc marks in
      let has = here row (inl refl) in
      let line = has_line (edits_of entries) lawful count within row has in
      let by = has_by entries line.place row line.put in
      ap (λ (o : Option ℕ). all_taken (suc count) slots going (taken_at (suc count) o (brought_among entries (going_by test) count))) (place_of_going g row first line)
      ∙ ap (all_taken (suc count) slots going) (one_goes test row line has by.0 by.1)
      ∙ all_go going rows (or_filter test row) rest (λ r own. here r (inr own))

  -- as the definition has it
  pub went_now : (going : List GoingFilter) (rows : List Row) → map marked going ≡ map mark_of rows → ((row : Row) → Has row rows → Has row rows_here)
      → ((row : Row) → goes_after (edits_of entries) count row ≡ list_any (is_filter row) rows)
      → all_taken (suc count) slots going (brought_among entries (λ number row. gone_by (edits_of entries) number row count) count)
      ≡ brought_among entries (λ number row. gone_by (edits_of entries) number row (suc count)) count
  went_now going rows marks here goes =
      ap (all_taken (suc count) slots going) (among_same entries (λ number row. gone_by (edits_of entries) number row count) (going_by (λ row. false)) count
      (λ place row less put. sym (or_none (gone_by (edits_of entries) (suc place) row count))))
      ∙ all_go going rows (λ row. false) marks here
      ∙ among_same entries (going_by (any_from (λ row. false) rows)) (λ number row. gone_by (edits_of entries) number row (suc count)) count last
    where
      last : (place : ℕ) (row : Row) → place < count → row_after (edits_of entries) place ≡ Some row → going_by (any_from (λ r. false) rows) (suc place) row ≡ gone_by (edits_of entries) (suc place) row (suc count)
      last place row less put =
          let le : nat_le (suc place) count ≡ true = le-leb (suc place) count less in
          ap (λ (b : Bool). or_later (gone_by (edits_of entries) (suc place) row count) (if b then Some (suc count) else None)) (any_from_is (λ r. false) rows row ∙ sym (goes row))
          ∙ ap (λ (b : Bool). or_later (gone_by (edits_of entries) (suc place) row count) (if b && goes_after (edits_of entries) count row then Some (suc count) else None)) (sym le)
