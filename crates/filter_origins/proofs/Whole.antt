-- From no edits to all of them.
use Rattle.std.proofs.Common.{◌≡◌, ◌∙◌, ◌⊎◌, inl, inr, ℕ, zero, suc, ◌<◌, ◌≤◌, ◌^◌, Bool, true, false, List, [], ◌∷◌, length, Option, Some, None, refl, sym, ap, subst, arith}
use Rattle.std.specs.Prelude.{slice_get, option_map, if◌then◌else◌}
use Rattle.std.specs.Option.{option_and_then}
use Rattle.std.proofs.lemmas.Bool.{cases_lt}
use Rattle.std.proofs.lemmas.List.{length-map}
use Rattle.std.proofs.lemmas.Option.{slice_get_past}
use Rattle.filter_state.specs.declared.edit.Edit.{Edit}
use Rattle.filter_state.specs.States.{Row, no_state}
use Rattle.filter_state.specs.Steps.{step}
use Rattle.filter_state.specs.Journals.{state_at, IsLawful}
use Rattle.hook_lists.specs.declared.kept.Kept.{Kept}
use Rattle.filter_lists.specs.Spells.{Spells}
use Rattle.slot_pasts.specs.declared.past.Change.{Change}
use Rattle.slot_pasts.specs.declared.named.NamedPast.{NamedPast}
use Rattle.slot_pasts.specs.Pasts.{value_at, stood}
use Rattle.slot_pasts.specs.Names.{past_of}
use Rattle.slot_pasts.specs.Serials.{past_at}
use Rattle.state_past_laws.proofs.Longer.{settled}
use Rattle.state_past.specs.Told.{named_slot}
use Rattle.edit_lines.specs.declared.line.Line.{Line}
use Rattle.edit_lines.specs.declared.line.LinePlace.{LinePlace}
use Rattle.edit_lines.specs.declared.line.Origin.{Origin}
use Rattle.filter_origins.specs.declared.brought.Brought.{Brought}
use Rattle.filter_origins.specs.declared.origins.Origins.{Origins}
use Rattle.filter_origins.specs.Entries.{Entry, edits_of, entry_at, entries_of, line_at}
use Rattle.filter_origins.specs.Brought.{row_put, row_after, puts, brought_filter, sets_after, brought_action}
use Rattle.filter_origins.specs.Origins.{with_line, origin_by, origin_at, maker_at, gone_by, brought_among, brought_of}
use Rattle.filter_origins.specs.Noted.{IsNoted, place_in, place_by, Follows}
use Rattle.filter_origins.specs.Knows.{origin_of, origin_among, Knows}
use Rattle.filter_origins.proofs.Standing.{brought_true, brought_false}
use Rattle.filter_origins.proofs.Listed.{Gone, has_by, stands}

-- ---- entries
pub edits_are : (places : List LinePlace) (journal : List Edit) → length places ≡ length journal → edits_of (entries_of places journal) ≡ journal
edits_are [] [] long = refl
edits_are [] (edit ∷ journal) long = absurd (cc long)
edits_are (place ∷ places) [] long = absurd (cc long)
edits_are (place ∷ places) (edit ∷ journal) long = ap (λ (js : List Edit). edit ∷ js) (edits_are places journal (cc long))

pub entries_long : (places : List LinePlace) (journal : List Edit) → length places ≡ length journal → length (entries_of places journal) ≡ length journal
entries_long places journal long = sym (length-map (entries_of places journal) (λ (entry : Entry). entry.edit)) ∙ ap length (edits_are places journal long)

pub entry_is : (places : List LinePlace) (journal : List Edit) (count : ℕ) (place : LinePlace) (edit : Edit) → slice_get places count ≡ Some place → slice_get journal count ≡ Some edit
    → slice_get (entries_of places journal) count ≡ Some (entry_at place edit)
entry_is [] journal count place edit at is = absurd (cc at)
entry_is (p ∷ places) [] count place edit at is = absurd (cc is)
entry_is (p ∷ places) (e ∷ journal) zero place edit at is = let one : p ≡ place = cc at in let other : e ≡ edit = cc is in ap (λ (x : LinePlace). Some (entry_at x e)) one ∙ ap (λ (x : Edit). Some (entry_at place x)) other
entry_is (p ∷ places) (e ∷ journal) (suc count) place edit at is = entry_is places journal count place edit at is

-- ---- the beginning
none_noted : {W : Type 0} (has : ℕ → Option W) → has 0 ≡ None → (past : List (Change (Option W))) → past ≡ [] → IsNoted has past 0
none_noted has is past none = subst (λ (p : List (Change (Option _))). IsNoted has p 0) (sym none) (record { told = told; up_to = λ k d less. absurd (omega (arith, less)) })
  where
    told : (point : ℕ) → point ≤ 0 → stood (value_at point []) ≡ has point
    told zero most = sym is
    told (suc point) most = absurd (omega (arith, most))

pub begins : (origins : Origins) (lists : Kept) (places : List LinePlace) (journal : List Edit) → origins.slots ≡ [] → origins.actions ≡ [] → origins.brought.items ≡ [] → Spells lists no_state → IsLawful journal
    → length places ≡ length journal → length journal ≤ 2 ^ 31 → Follows origins lists (entries_of places journal) 0
begins origins lists places journal slots actions brought spells lawful long few =
    let entries : List Entry = entries_of places journal in
    let same = edits_are places journal long in
    record {
      lawful = subst IsLawful (sym same) lawful;
      few = subst (λ (n : ℕ). n ≤ 2 ^ 31) (sym (entries_long places journal long)) few;
      within = omega arith;
      spells = spells;
      slots = λ mask key. none_noted (place_by entries mask key) refl (past_of origins.slots (named_slot mask key)) (ap (λ (l : List (NamedPast ℕ)). past_of l (named_slot mask key)) slots);
      unnamed = ap (λ (l : List (NamedPast ℕ)). past_of l []) slots;
      actions = λ serial. none_noted (λ point. maker_at entries point serial) refl (past_at origins.actions serial) (ap (λ (l : List (List (Change (Option Line)))). past_at l serial) actions);
      brought = brought;
    }

-- ---- the end
later_same : {X : Type 0} (f : ℕ → X) (end : ℕ) → ((k : ℕ) → end ≤ k → f (suc k) ≡ f k) → (point : ℕ) → end ≤ point → f point ≡ f end
later_same f end same zero least = let at : zero ≡ end = omega (arith, least) in ap f at
later_same f end same (suc point) least = pick (cases_lt point end) (λ early. later_same f end same point early)
  where
    pick : (point < end) ⊎ (end ≤ point) → (end ≤ point → f point ≡ f end) → f (suc point) ≡ f end
    pick (inl low) rest = let at : suc point ≡ end = omega (arith, low, least) in ap f at
    pick (inr high) rest = same point high ∙ rest high

pub anywhere : {W : Type 0} (has : ℕ → Option W) (past : List (Change (Option W))) (end : ℕ) → IsNoted has past end → ((k : ℕ) → end ≤ k → has (suc k) ≡ has k) → (point : ℕ) → stood (value_at point past) ≡ has point
anywhere has past end noted same point = pick (cases_lt point end)
  where
    pick : (point < end) ⊎ (end ≤ point) → stood (value_at point past) ≡ has point
    pick (inl low) = noted.told point (omega (arith, low))
    pick (inr high) = ap stood (settled end point past noted.up_to high) ∙ noted.told end (omega arith) ∙ sym (later_same has end same point high)

module _ (entries : List Entry) where
  abbrev journal : List Edit
  journal = edits_of entries

  none_there : (place : ℕ) → length entries ≤ place → slice_get journal place ≡ None
  none_there place past = slice_get_past journal place (subst (λ (n : ℕ). n ≤ place) (sym (length-map entries (λ (entry : Entry). entry.edit))) past)

  filter_settled : (mask : ℕ) (key : List ℕ) (k : ℕ) → length entries ≤ k → place_by entries mask key (suc k) ≡ place_by entries mask key k
  filter_settled mask key k past =
      let none : row_after journal k ≡ None = ap (option_and_then (λ (edit : Edit). row_put edit (step (state_at k journal) edit))) (none_there k past) in
      ap (option_map (place_in entries)) (brought_false journal k mask key (ap (puts mask key) none))

  origin_settled : (mask : ℕ) (key : List ℕ) (k : ℕ) → length entries ≤ k → brought_filter journal (suc k) mask key ≡ brought_filter journal k mask key
  origin_settled mask key k past =
      let none : row_after journal k ≡ None = ap (option_and_then (λ (edit : Edit). row_put edit (step (state_at k journal) edit))) (none_there k past) in
      brought_false journal k mask key (ap (puts mask key) none)

  action_settled : (serial k : ℕ) → length entries ≤ k → maker_at entries (suc k) serial ≡ maker_at entries k serial
  action_settled serial k past =
      let none : sets_after journal k serial (slice_get journal k) ≡ false = ap (sets_after journal k serial) (none_there k past) in
      ap (λ (b : Bool). option_and_then (line_at entries) (if b then Some (suc k) else brought_action journal k serial)) none

  -- ---- the filter that was brought
  record IsPutBy (point number : ℕ) : Type 0 where
    pub place : ℕ
    pub at : number ≡ suc place
    pub row : Row
    pub put : row_after journal place ≡ Some row
    pub before : place < point

  put_by : (point mask : ℕ) (key : List ℕ) (number : ℕ) → brought_filter journal point mask key ≡ Some number → IsPutBy point number
  put_by zero mask key number is = absurd (cc is)
  put_by (suc last) mask key number is = by_put (puts mask key (row_after journal last)) refl (λ early. put_by last mask key number early)
    where
      by_row : (o : Option Row) → row_after journal last ≡ o → puts mask key o ≡ true → number ≡ suc last → IsPutBy (suc last) number
      by_row (Some row) put own at = record { place = last; at = at; row = row; put = put; before = omega arith }
      by_row None put own at = absurd (cc own)

      by_put : (b : Bool) → puts mask key (row_after journal last) ≡ b → (brought_filter journal last mask key ≡ Some number → IsPutBy last number) → IsPutBy (suc last) number
      by_put true put early = let same : Some (suc last) ≡ Some number = sym (brought_true journal last mask key put) ∙ is in by_row (row_after journal last) refl put (sym (cc same))
      by_put false put early =
          let it = early (sym (brought_false journal last mask key put) ∙ is) in
          let less = it.before in
          record { place = it.place; at = it.at; row = it.row; put = it.put; before = omega (arith, less) }

  its_origin : (f : Gone) (many point mask : ℕ) (key : List ℕ) → point ≤ many → (o : Option ℕ) → brought_filter journal point mask key ≡ o → origin_among (brought_among entries f many) (option_map (place_in entries) o) ≡ option_and_then (origin_by entries) o
  its_origin f many point mask key less None is = refl
  its_origin f many point mask key less (Some number) is =
      let it = put_by point mask key number is in
      let by = has_by entries it.place it.row it.put in
      let early = it.before in
      let own : slice_get (brought_among entries f many) (place_in entries (suc it.place)) ≡ Some _ = stands entries it.place it.row it.put by.0 by.1 f many (omega (arith, early, less)) in
      let told : Option Origin = Some (record { handle = it.row.handle; by = by.0 }) in
      let listed : option_map origin_of (slice_get (brought_among entries f many) (place_in entries (suc it.place))) ≡ told = ap (option_map origin_of) own in
      let defined : origin_by entries (suc it.place) ≡ told = ap (λ (r : Option Row). with_line r (line_at entries (suc it.place))) it.put ∙ ap (with_line (Some it.row)) by.1 in
      let at = it.at in
      ap (λ (n : ℕ). option_map origin_of (slice_get (brought_among entries f many) (place_in entries n))) at ∙ listed ∙ sym defined ∙ ap (origin_by entries) (sym at)

  -- past the end nothing is brought
  origin_early : (point mask : ℕ) (key : List ℕ) → origin_among (brought_of entries) (place_by entries mask key point) ≡ origin_at entries point mask key
  origin_early point mask key = pick (cases_lt point (length entries))
    where
      early : (least : ℕ) → least ≤ length entries → origin_among (brought_of entries) (place_by entries mask key least) ≡ origin_at entries least mask key
      early least less = its_origin (λ number row. gone_by journal number row (length entries)) (length entries) least mask key less (brought_filter journal least mask key) refl

      pick : (point < length entries) ⊎ (length entries ≤ point) → origin_among (brought_of entries) (place_by entries mask key point) ≡ origin_at entries point mask key
      pick (inl low) = early point (omega (arith, low))
      pick (inr high) =
          let same : brought_filter journal point mask key ≡ brought_filter journal (length entries) mask key =
          later_same (λ n. brought_filter journal n mask key) (length entries) (λ k past. origin_settled mask key k past) point high in
          ap (λ (o : Option ℕ). origin_among (brought_of entries) (option_map (place_in entries) o)) same ∙ early (length entries) (omega arith) ∙ ap (option_and_then (origin_by entries)) (sym same)

  pub whole : (origins : Origins) (lists : Kept) → Follows origins lists entries (length entries) → Knows origins entries
  whole origins lists follows = record {
    filters = λ point mask key. ap (origin_among origins.brought.items) (anywhere (place_by entries mask key) (past_of origins.slots (named_slot mask key)) (length entries) (follows.slots mask key) (λ k past. filter_settled mask key k past) point)
        ∙ ap (λ (l : List Brought). origin_among l (place_by entries mask key point)) follows.brought ∙ origin_early point mask key;
    actions = λ point serial. anywhere (λ p. maker_at entries p serial) (past_at origins.actions serial) (length entries) (follows.actions serial) (λ k past. action_settled serial k past) point;
    brought = follows.brought;
  }
