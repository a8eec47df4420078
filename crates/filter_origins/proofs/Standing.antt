-- What stands at each point of a lawful journal, and which edit put it there.
use Rattle.std.proofs.Common.{◌≡◌, ◌∙◌, ◌⊎◌, inl, inr, ℕ, zero, suc, ◌<◌, ◌≤◌, ◌&&◌, Bool, true, false, List, [], ◌∷◌, take, get_or, length, Option, Some, None, Ok, Err, refl, sym, ap, subst, arith}
use Rattle.std.specs.Prelude.{nat_le, ◌||◌, slice_get, if◌then◌else◌}
use Rattle.std.specs.List.{list_any}
use Rattle.std.specs.Option.{option_and_then}
use Rattle.std.proofs.lemmas.Bool.{cases_lt, and_parts, false_from_ne_true, le-leb, leb-true}
use Rattle.std.proofs.lemmas.Option.{slice_get_cases}
use Rattle.filter_state.specs.declared.edit.Edit.{Edit}
use Rattle.filter_state.specs.declared.refusal.Done.{Done}
use Rattle.filter_state.specs.Lines.{IsLine}
use Rattle.filter_state.specs.States.{Row, State, no_state}
use Rattle.filter_state.specs.Sound.{Sound, EachPair, GoTogether}
use Rattle.filter_state.specs.Steps.{Stepped, step}
use Rattle.filter_state.specs.Journals.{state_after, state_from, state_at, Accepts, IsLawfulFrom, IsLawful}
use Rattle.filter_state.specs.Tables.{in_table, has_handle}
use Rattle.filter_state.proofs.Pairs.{any_first}
use Rattle.state_laws.proofs.Steps.{journal_sound}
use Rattle.state_laws.proofs.Tests.{row_in_table}
use Rattle.state_past_laws.specs.OfChanges.Among.{Has}
use Rattle.state_past_laws.specs.OfChanges.Going.{rows_going}
use Rattle.state_past_laws.proofs.OfChanges.Among.{first_has}
use Rattle.state_past_laws.proofs.OfChanges.Stood.{slot_from, one_slot}
use Rattle.filter_origins.specs.Brought.{row_put, row_after, puts, brought_filter}
use Rattle.filter_origins.specs.Origins.{is_filter, rows_going_in, goes_after, or_later, gone_by}
use Rattle.filter_origins.proofs.Comes.{SameName, named_by, same_row, Came, came}
use Rattle.std.proofs.Common.{eqb-true}

-- ---- a place of a lawful journal
record IsTaken (s : State) (journal : List Edit) (place : ℕ) (edit : Edit) : Type 0 where
  pub line : IsLine edit
  pub accepts : Accepts (state_from s (take place journal)) edit (step (state_from s (take place journal)) edit)
  pub after : state_from s (take (suc place) journal) ≡ state_after (state_from s (take place journal)) (step (state_from s (take place journal)) edit)

taken_from : (s : State) (journal : List Edit) (place : ℕ) (edit : Edit) → IsLawfulFrom s journal → slice_get journal place ≡ Some edit → IsTaken s journal place edit
taken_from s [] place edit lawful is = absurd (cc is)
taken_from s (first ∷ journal) zero edit lawful is =
    let same : first ≡ edit = cc is in
    subst (IsTaken s (first ∷ journal) zero) same (record { line = lawful.0; accepts = lawful.1; after = refl })
taken_from s (first ∷ journal) (suc place) edit lawful is =
    let it = taken_from (state_after s (step s first)) journal place edit lawful.2 is in
    record { line = it.line; accepts = it.accepts; after = it.after }

pub record StepAt (journal : List Edit) (place : ℕ) (edit : Edit) : Type 0 where
  pub next : State
  pub done : Done
  pub line : IsLine edit
  pub steps : step (state_at place journal) edit ≡ Ok (next, done)
  pub after : state_at (suc place) journal ≡ next
  pub sound : Sound (state_at place journal)
  pub sound_after : Sound next

pub step_at : (journal : List Edit) (place : ℕ) (edit : Edit) → IsLawful journal → slice_get journal place ≡ Some edit → StepAt journal place edit
step_at journal place edit lawful is =
    let it = taken_from no_state journal place edit lawful is in
    by_step (step (state_at place journal) edit) refl it.line it.accepts it.after
  where
    by_step : (x : Stepped) → step (state_at place journal) edit ≡ x → IsLine edit → Accepts (state_at place journal) edit (step (state_at place journal) edit)
        → state_at (suc place) journal ≡ state_after (state_at place journal) (step (state_at place journal) edit) → StepAt journal place edit
    by_step (Ok (next, done)) steps line accepts after =
        let at : state_at (suc place) journal ≡ next = after ∙ ap (state_after (state_at place journal)) steps in
        record { next = next; done = done; line = line; steps = steps; after = at; sound = journal_sound journal place lawful; sound_after = subst Sound at (journal_sound journal (suc place) lawful) }
    by_step (Err refusal) steps line accepts after = absurd (subst (Accepts (state_at place journal) edit) steps accepts)

pub came_at : (journal : List Edit) (place : ℕ) (edit : Edit) → (st : StepAt journal place edit) → Came (state_at place journal) st.next edit st.done
came_at journal place edit st = came (state_at place journal) st.next edit st.done st.sound st.sound_after st.steps

pub row_after_is : (journal : List Edit) (place : ℕ) (edit : Edit) → slice_get journal place ≡ Some edit → (st : StepAt journal place edit) → (it : Came (state_at place journal) st.next edit st.done) → row_after journal place ≡ it.come
row_after_is journal place edit is st it =
    ap (option_and_then (λ (e : Edit). row_put e (step (state_at place journal) e))) is ∙ ap (row_put edit) st.steps ∙ it.put

pub goes_after_is : (journal : List Edit) (place : ℕ) (edit : Edit) → slice_get journal place ≡ Some edit → (row : Row) → goes_after journal place row ≡ list_any (is_filter row) (rows_going (state_at place journal) edit)
goes_after_is journal place edit is row = ap (λ (o : Option Edit). list_any (is_filter row) (rows_going_in (state_at place journal) o)) is

-- ---- tests
pub filter_parts : (row other : Row) → is_filter row other ≡ true → SameName other row
filter_parts row other is =
    let parts = and_parts (in_table row.hook row.chain row.pref other) (has_handle row.handle other) is in
    let at = row_in_table row.hook row.chain row.pref other parts.0 in
    (at.0, at.1, at.2, eqb-true other.handle row.handle parts.1)

pub any_has : (test : Row → Bool) (rows : List Row) (row : Row) → Has row rows → test row ≡ true → list_any test rows ≡ true
any_has test [] row has is = absurd has
any_has test (x ∷ rows) row (inl same) is = ap (λ (b : Bool). b || list_any test rows) (ap test same ∙ is)
any_has test (x ∷ rows) row (inr has) is = or_true (test x) (list_any test rows) (any_has test rows row has is)
  where
    or_true : (b c : Bool) → c ≡ true → (b || c) ≡ true
    or_true true c is = refl
    or_true false c is = is

-- of a state's rows the one with the name of one of them is that one
pub none_named : (rows going : List Row) (row : Row) → EachPair GoTogether rows → Has row rows → ((x : Row) → Has x going → Has x rows) → (Has row going → ⊥) → list_any (is_filter row) going ≡ false
none_named rows going row pairs has there none = false_from_ne_true (list_any (is_filter row) going) (λ any.
    let first = any_first (is_filter row) going any in
    let own = first_has (is_filter row) going first.0 first.1 in
    let same = same_row rows pairs first.0 row (filter_parts row first.0 own.1) (there first.0 own.0) has in
    none (subst (λ (x : Row). Has x going) same own.0))

pub named_itself : (row : Row) → is_filter row row ≡ true
named_itself row = named_by row row (refl, refl, refl, refl)

-- ---- the cases of a place more
pub brought_true : (journal : List Edit) (place mask : ℕ) (key : List ℕ) → puts mask key (row_after journal place) ≡ true → brought_filter journal (suc place) mask key ≡ Some (suc place)
brought_true journal place mask key is = ap (λ (b : Bool). if b then Some (suc place) else brought_filter journal place mask key) is

pub brought_false : (journal : List Edit) (place mask : ℕ) (key : List ℕ) → puts mask key (row_after journal place) ≡ false → brought_filter journal (suc place) mask key ≡ brought_filter journal place mask key
brought_false journal place mask key is = ap (λ (b : Bool). if b then Some (suc place) else brought_filter journal place mask key) is

puts_row : (journal : List Edit) (place : ℕ) (row : Row) → row_after journal place ≡ Some row → puts row.mask_serial row.key (row_after journal place) ≡ true
puts_row journal place row is = ap (puts row.mask_serial row.key) is ∙ slot_from row.mask_serial row.key row refl refl

-- a row put into the slot of one that stands behind it is that row
put_is : (rows : List Row) → EachPair GoTogether rows → (come : Option Row) (row : Row) → ((x : Row) → come ≡ Some x → Has x rows) → Has row rows → puts row.mask_serial row.key come ≡ true → come ≡ Some row
put_is rows pairs None row there has is = absurd (cc is)
put_is rows pairs (Some x) row there has is = ap (λ (r : Row). Some r) (one_slot row.mask_serial row.key rows pairs x row is (slot_from row.mask_serial row.key row refl refl) (there x refl) has)

pub early_gone : (journal : List Edit) (number : ℕ) (row : Row) (point : ℕ) → point ≤ number → gone_by journal number row point ≡ None
early_gone journal number row zero less = refl
early_gone journal number row (suc place) less =
    let late : nat_le number place ≡ false = false_from_ne_true (nat_le number place) (λ is. too_late number place is less) in
    ap (λ (o : Option ℕ). or_later o (if nat_le number place && goes_after journal place row then Some (suc place) else None)) (early_gone journal number row place (omega (arith, less)))
    ∙ ap (λ (b : Bool). if b && goes_after journal place row then Some (suc place) else None) late
  where
    too_late : (a b : ℕ) → nat_le a b ≡ true → suc b ≤ a → ⊥
    too_late a b is more = let le : a ≤ b = leb-true a b is in omega (arith, le, more)

-- a filter goes no further where it isn't gone
later_parts : (a b : Option ℕ) → or_later a b ≡ None → (a ≡ None) × (b ≡ None)
later_parts None b is = (refl, is)
later_parts (Some x) b is = absurd (cc is)

not_gone : (first goes : Bool) (number : ℕ) → first ≡ true → (if first && goes then Some number else None) ≡ None → goes ≡ false
not_gone true true number one is = absurd (cc is)
not_gone true false number one is = refl
not_gone false goes number one is = absurd (cc one)

pub le_true : (a b : ℕ) → a ≤ b → nat_le a b ≡ true
le_true a b le = let own : nat_le a b ≡ true = le-leb a b le in own

pub true_le : (a b : ℕ) → nat_le a b ≡ true → a ≤ b
true_le a b is = leb-true a b is

pub get_none : (journal : List Edit) (place : ℕ) → slice_get journal place ≡ None → suc place ≤ length journal → ⊥
get_none journal place is within = by_cases (slice_get_cases journal place)
  where
    by_cases : (slice_get journal place ≡ slice_get journal place) × (((x : Edit) × (place < length journal) × (slice_get journal place ≡ Some x) × (get_or journal place x ≡ x)) ⊎ ((length journal ≤ place) × (slice_get journal place ≡ None))) → ⊥
    by_cases (own, inl some) = cc (sym is ∙ some.2)
    by_cases (own, inr none) = omega (arith, none.0, within)

-- ---- HOW A ROW GOES OVER A PLACE
pub record Passes (journal : List Edit) (place : ℕ) (row : Row) : Type 0 where
  pub back : Has row (state_at (suc place) journal).rows → (row_after journal place ≡ Some row) ⊎ (Has row (state_at place journal).rows × (goes_after journal place row ≡ false))
  pub stays : Has row (state_at place journal).rows → goes_after journal place row ≡ false → Has row (state_at (suc place) journal).rows
  pub own : Has row (state_at (suc place) journal).rows → puts row.mask_serial row.key (row_after journal place) ≡ true → row_after journal place ≡ Some row
  pub anew : row_after journal place ≡ Some row → Has row (state_at place journal).rows → goes_after journal place row ≡ true
  pub comes : row_after journal place ≡ Some row → Has row (state_at (suc place) journal).rows

passes_edit : (journal : List Edit) → IsLawful journal → (place : ℕ) (edit : Edit) → slice_get journal place ≡ Some edit → (row : Row) → Passes journal place row
passes_edit journal lawful place edit is row =
    let st = step_at journal place edit lawful is in
    let it = came_at journal place edit st in
    let go = it.go in
    let after : row_after journal place ≡ it.come = row_after_is journal place edit is st it in
    let goes : goes_after journal place row ≡ list_any (is_filter row) (rows_going (state_at place journal) edit) = goes_after_is journal place edit is row in
    let there : Has row (state_at (suc place) journal).rows → Has row st.next.rows = subst (λ (s : State). Has row s.rows) st.after in
    let home : Has row st.next.rows → Has row (state_at (suc place) journal).rows = subst (λ (s : State). Has row s.rows) (sym st.after) in
    record {
      back = λ has. back it.come (rows_going (state_at place journal) edit) after goes st.sound.together (λ x own. go.there x own) (go.back row (there has));
      stays = λ has not. stays (rows_going (state_at place journal) edit) st.next.rows goes home not (go.stays row has);
      own = λ has put. after ∙ put_is st.next.rows st.sound_after.together it.come row (λ x same. go.comes x same) (there has) (ap (puts row.mask_serial row.key) (sym after) ∙ put);
      anew = λ put has. goes ∙ any_has (is_filter row) (rows_going (state_at place journal) edit) row (it.anew row (sym after ∙ put) has) (named_itself row);
      comes = λ put. home (go.comes row (sym after ∙ put));
    }
  where
    back : (come : Option Row) (going : List Row) → row_after journal place ≡ come → goes_after journal place row ≡ list_any (is_filter row) going → EachPair GoTogether (state_at place journal).rows
        → ((x : Row) → Has x going → Has x (state_at place journal).rows) → (come ≡ Some row) ⊎ (Has row (state_at place journal).rows × (Has row going → ⊥))
        → (row_after journal place ≡ Some row) ⊎ (Has row (state_at place journal).rows × (goes_after journal place row ≡ false))
    back come going after goes pairs sub (inl same) = inl (after ∙ same)
    back come going after goes pairs sub (inr own) = inr (own.0, goes ∙ none_named (state_at place journal).rows going row pairs own.0 sub own.1)

    stays : (going next : List Row) → goes_after journal place row ≡ list_any (is_filter row) going → (Has row next → Has row (state_at (suc place) journal).rows) → goes_after journal place row ≡ false
        → Has row going ⊎ Has row next → Has row (state_at (suc place) journal).rows
    stays going next goes home not (inl own) = absurd (cc (sym (goes ∙ any_has (is_filter row) going row own (named_itself row)) ∙ not))
    stays going next goes home not (inr has) = home has

pub passes : (journal : List Edit) → IsLawful journal → (place : ℕ) → suc place ≤ length journal → (row : Row) → Passes journal place row
passes journal lawful place within row = at_place (slice_get journal place) refl
  where
    at_place : (o : Option Edit) → slice_get journal place ≡ o → Passes journal place row
    at_place None is = absurd (get_none journal place is within)
    at_place (Some edit) is = passes_edit journal lawful place edit is row

-- ---- THE LINE OF A ROW that stands: the edit that put it is the last that put one into its slot
pub record HasLine (journal : List Edit) (point : ℕ) (row : Row) : Type 0 where
  pub place : ℕ
  pub before : place < point
  pub brought : brought_filter journal point row.mask_serial row.key ≡ Some (suc place)
  pub put : row_after journal place ≡ Some row

module _ (journal : List Edit) (lawful : IsLawful journal) where
  here : (place : ℕ) (row : Row) → row_after journal place ≡ Some row → HasLine journal (suc place) row
  here place row is = record { place = place; before = omega arith; brought = brought_true journal place row.mask_serial row.key (puts_row journal place row is); put = is }

  pub has_line : (point : ℕ) → point ≤ length journal → (row : Row) → Has row (state_at point journal).rows → HasLine journal point row
  has_line zero within row has = absurd has
  has_line (suc place) within row has =
      let pass = passes journal lawful place within row in
      by_back (puts row.mask_serial row.key (row_after journal place)) refl (λ put. pass.own has put) (λ own. has_line place (omega (arith, within)) row own) (pass.back has)
    where
      later : HasLine journal place row → puts row.mask_serial row.key (row_after journal place) ≡ false → HasLine journal (suc place) row
      later line not = let less = line.before in record { place = line.place; before = omega (arith, less); brought = brought_false journal place row.mask_serial row.key not ∙ line.brought; put = line.put }

      by_back : (b : Bool) → puts row.mask_serial row.key (row_after journal place) ≡ b → (puts row.mask_serial row.key (row_after journal place) ≡ true → row_after journal place ≡ Some row)
          → (Has row (state_at place journal).rows → HasLine journal place row) → (row_after journal place ≡ Some row) ⊎ (Has row (state_at place journal).rows × (goes_after journal place row ≡ false)) → HasLine journal (suc place) row
      by_back b put own line (inl is) = here place row is
      by_back true put own line (inr has) = here place row (own put)
      by_back false put own line (inr has) = later (line has.0) put

  -- ---- a row that stands isn't gone
  gone_still : (place last : ℕ) (row : Row) → gone_by journal (suc place) row last ≡ None → goes_after journal last row ≡ false → gone_by journal (suc place) row (suc last) ≡ None
  gone_still place last row early stays =
      ap (λ (o : Option ℕ). or_later o (if nat_le (suc place) last && goes_after journal last row then Some (suc last) else None)) early
      ∙ ap (λ (b : Bool). if nat_le (suc place) last && b then Some (suc last) else None) stays ∙ none_either (nat_le (suc place) last)
    where
      none_either : (b : Bool) → (if b && false then Some (suc last) else None) ≡ None
      none_either true = refl
      none_either false = refl

  pub stands_still : (point : ℕ) → point ≤ length journal → (place : ℕ) (row : Row) → brought_filter journal point row.mask_serial row.key ≡ Some (suc place) → Has row (state_at point journal).rows
      → gone_by journal (suc place) row point ≡ None
  stands_still zero within place row brought has = refl
  stands_still (suc last) within place row brought has =
      let pass = passes journal lawful last within row in
      by_put (puts row.mask_serial row.key (row_after journal last)) refl (λ own is. stands_still last (omega (arith, within)) place row own is) (pass.back has)
    where
      by_put : (b : Bool) → puts row.mask_serial row.key (row_after journal last) ≡ b
          → (brought_filter journal last row.mask_serial row.key ≡ Some (suc place) → Has row (state_at last journal).rows → gone_by journal (suc place) row last ≡ None)
          → (row_after journal last ≡ Some row) ⊎ (Has row (state_at last journal).rows × (goes_after journal last row ≡ false)) → gone_by journal (suc place) row (suc last) ≡ None
      by_put true put before back =
          let same : Some (suc last) ≡ Some (suc place) = sym (brought_true journal last row.mask_serial row.key put) ∙ brought in
          let at : suc last ≡ suc place = cc same in
          early_gone journal (suc place) row (suc last) (omega (arith, at))
      by_put false put before (inl is) = absurd (cc (sym (puts_row journal last row is) ∙ put))
      by_put false put before (inr own) = gone_still place last row (before (sym (brought_false journal last row.mask_serial row.key put) ∙ brought) own.0) own.1

  -- ---- one that isn't gone stands, and is the last that was put into its slot
  pub stands_yet : (point : ℕ) → point ≤ length journal → (place : ℕ) (row : Row) → place < point → row_after journal place ≡ Some row → gone_by journal (suc place) row point ≡ None
      → Has row (state_at point journal).rows × (brought_filter journal point row.mask_serial row.key ≡ Some (suc place))
  stands_yet zero within place row less put gone = absurd (omega (arith, less))
  stands_yet (suc last) within place row less put gone =
      let pass = passes journal lawful last within row in
      by_place (cases_lt place last) pass (λ low early. stands_yet last (omega (arith, within)) place row low put early)
    where
      later : Passes journal last row → goes_after journal last row ≡ false → Has row (state_at last journal).rows → brought_filter journal last row.mask_serial row.key ≡ Some (suc place)
          → Has row (state_at (suc last) journal).rows × (brought_filter journal (suc last) row.mask_serial row.key ≡ Some (suc place))
      later pass not has brought = (
        pass.stays has not,
        brought_false journal last row.mask_serial row.key
            (false_from_ne_true (puts row.mask_serial row.key (row_after journal last)) (λ is. cc (sym (pass.anew (pass.own (pass.stays has not) is) has) ∙ not))) ∙ brought,
      )

      by_place : (place < last) ⊎ (last ≤ place) → Passes journal last row
          → (place < last → gone_by journal (suc place) row last ≡ None → Has row (state_at last journal).rows × (brought_filter journal last row.mask_serial row.key ≡ Some (suc place)))
          → Has row (state_at (suc last) journal).rows × (brought_filter journal (suc last) row.mask_serial row.key ≡ Some (suc place))
      by_place (inl low) pass before =
          let parts = later_parts (gone_by journal (suc place) row last) (if nat_le (suc place) last && goes_after journal last row then Some (suc last) else None) gone in
          let own = before low parts.0 in
          let le : nat_le (suc place) last ≡ true = le_true (suc place) last (omega (arith, low)) in
          later pass (not_gone (nat_le (suc place) last) (goes_after journal last row) (suc last) le parts.1) own.0 own.1
      by_place (inr high) pass before =
          let at : place ≡ last = omega (arith, high, less) in
          let here : row_after journal last ≡ Some row = ap (row_after journal) (sym at) ∙ put in
          (pass.comes here, brought_true journal last row.mask_serial row.key (puts_row journal last row here) ∙ ap (λ (n : ℕ). Some (suc n)) (sym at))
