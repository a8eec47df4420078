-- What follows the first edits of a journal follows one more.
use Rattle.std.proofs.Common.{◌≡◌, ◌∙◌, ℕ, suc, ◌+◌, ◌-◌, ◌≤◌, List, [], ◌∷◌, ◌++◌, length, map, Option, Some, None, Ok, Err, refl, sym, ap, subst, arith}
use Rattle.std.specs.Prelude.{slice_get}
use Rattle.std.proofs.lemmas.List.{length-map}
use Rattle.std.proofs.lemmas.Option.{slice_get_within}
use Rattle.tc_base.specs.declared.hook.Hook.{Hook}
use Rattle.tc_base.specs.declared.hook.Proto.{Proto}
use Rattle.tc_base.specs.Memory.{no_memory}
use Rattle.filter_state.specs.declared.edit.Edit.{Edit}
use Rattle.filter_state.specs.declared.refusal.Done.{Done}
use Rattle.filter_state.specs.declared.refusal.Refusal.{Refusal}
use Rattle.filter_state.specs.declared.refusal.Refusal.TheVariants as refusals
use Rattle.filter_state.specs.Lines.{IsLine}
use Rattle.filter_state.specs.States.{Row, State}
use Rattle.filter_state.specs.Sound.{Sound}
use Rattle.filter_state.specs.Order.{SameState}
use Rattle.filter_state.specs.Steps.{Stepped, step}
use Rattle.filter_state.specs.Journals.{state_after, state_at}
use Rattle.hook_lists.specs.declared.kept.Kept.{Kept}
use Rattle.hook_lists.specs.States.{state_of, AreKept}
use Rattle.filter_lists.specs.Spells.{Spells}
use Rattle.filter_lists.specs.Edits.{IsStepped, MayStep}
use Rattle.slot_pasts.specs.declared.past.Change.{Change}
use Rattle.slot_pasts.specs.Pasts.{UpTo, stood}
use Rattle.slot_pasts.specs.Names.{past_of}
use Rattle.slot_pasts.specs.Serials.{past_at}
use Rattle.state_past_laws.specs.OfChanges.Among.{Has, listed}
use Rattle.state_past_laws.specs.OfChanges.Going.{rows_going, line_in, Comes}
use Rattle.state_past_laws.proofs.OfChanges.Among.{map_has}
use Rattle.state_past.specs.declared.gone_filters.going.GoingFilter.{GoingFilter}
use Rattle.state_past.specs.declared.coming.Coming.{Coming}
use Rattle.state_past.specs.OfGoneFilters.Marks.{mark_of, marked}
use Rattle.state_past.specs.Serials.{serials_from}
use Rattle.state_past.specs.Brought.{Brought as AreBrought, AllUpTo}
use Rattle.state_past.specs.Told.{named_slot, IsComingOf, coming_slots}
use Rattle.state_past.proofs.Bringing.{numbers, brought_then}
use Rattle.edit_lines.specs.declared.line.Line.{Line}
use Rattle.filter_origins.specs.declared.brought.Brought.{Brought}
use Rattle.filter_origins.specs.declared.origins.Origins.{Origins}
use Rattle.filter_origins.specs.Entries.{Entry, edits_of}
use Rattle.filter_origins.specs.Brought.{row_after}
use Rattle.filter_origins.specs.Origins.{maker_at, is_filter, gone_by, brought_row, brought_among}
use Rattle.filter_origins.specs.Noted.{changed_in, brought_by, all_taken, taken_at, place_at, place_in, place_by, Follows, IsNext}
use Rattle.filter_origins.proofs.Standing.{StepAt, step_at, came_at, row_after_is, goes_after_is, early_gone}
use Rattle.filter_origins.proofs.Listed.{none_gone, among_length, gone_length}
use Rattle.filter_origins.proofs.Noting.{up_to_next, slot_noted, edit_there, its_line, action_noted, went_now}
use Rattle.filter_origins.proofs.Going.{gone_there, same_going}
use Rattle.filter_origins.proofs.Few.{may_step}

-- ---- the step, as the lists did it
pub record HasStepped (next : Kept) (done : Done) (t : State) (said : Done) : Type 0 where
  pub answer : done ≡ said
  pub spells : Spells next t

has_stepped : (old next : Kept) (done said : Done) (x : Stepped) (t : State) → IsStepped old next (Ok done) x → x ≡ Ok (t, said) → HasStepped next done t said
has_stepped old next done said x t is steps = let own : IsStepped old next (Ok done) (Ok (t, said)) = subst (IsStepped old next (Ok done)) steps is in record { answer = own.0; spells = own.1 }

-- ---- the filter that came, as it is listed
abbrev brought_as : Line → Hook → ℕ → ℕ → Proto → ℕ → List Brought
brought_as by hook chain pref protocol handle = record { by = by; hook = hook; chain = chain; pref = pref; protocol = protocol; handle = handle; gone = None } ∷ []

came_listed : (by : Line) (o : Option Row) (coming : Option Coming) → IsComingOf o coming → ((row : Row) (c : Coming) → o ≡ Some row → coming ≡ Some c → c.line.now.protocol ≡ row.protocol)
    → (gone : Row → Option ℕ) → ((row : Row) → gone row ≡ None) → brought_by by coming ≡ brought_row (Some by) o gone
came_listed by None None is protocol gone not = refl
came_listed by (Some row) None is protocol gone not = absurd is
came_listed by None (Some c) is protocol gone not = absurd is
came_listed by (Some row) (Some c) is protocol gone not =
    let hook = is.hook in let chain = is.chain in let pref = is.pref in let handle = is.handle in
    ap (λ (h : Hook). brought_as by h c.line.now.chain c.pref c.line.now.protocol c.handle) hook
    ∙ ap (λ (n : ℕ). brought_as by row.hook n c.pref c.line.now.protocol c.handle) chain
    ∙ ap (λ (n : ℕ). brought_as by row.hook row.chain n c.line.now.protocol c.handle) pref
    ∙ ap (λ (p : Proto). brought_as by row.hook row.chain row.pref p c.handle) (protocol row c refl refl)
    ∙ ap (λ (n : ℕ). brought_as by row.hook row.chain row.pref row.protocol n) handle
    ∙ ap (λ (o : Option ℕ). record { by = by; hook = row.hook; chain = row.chain; pref = row.pref; protocol = row.protocol; handle = row.handle; gone = o } ∷ []) (sym (not row))

all_taken_length : (number : ℕ) (slots : _) (going : List GoingFilter) (brought : List Brought) → length (all_taken number slots going brought) ≡ length brought
all_taken_length number slots [] brought = refl
all_taken_length number slots (first ∷ going) brought = all_taken_length number slots going (taken_at number (place_at number slots first) brought) ∙ one (place_at number slots first)
  where
    one : (o : Option ℕ) → length (taken_at number o brought) ≡ length brought
    one None = refl
    one (Some place) = gone_length number place brought

pub all_taken_more : (number : ℕ) (slots : _) (going : List GoingFilter) (last : GoingFilter) (brought : List Brought) → all_taken number slots (going ++ (last ∷ [])) brought ≡ taken_at number (place_at number slots last) (all_taken number slots going brought)
all_taken_more number slots [] last brought = refl
all_taken_more number slots (first ∷ going) last brought = all_taken_more number slots going last (taken_at number (place_at number slots first) brought)

-- ---- before the step
module _ (old : Origins) (lists : Kept) (entries : List Entry) (count : ℕ) (follows : Follows old lists entries count) (edit : Edit) (by : Line) (next : IsNext entries count edit by) where
  abbrev journal : List Edit
  journal = edits_of entries

  there : slice_get journal count ≡ Some edit
  there = edit_there entries count edit by next

  abbrev its_step : StepAt journal count edit
  its_step = step_at journal count edit follows.lawful there

  short : length journal ≡ length entries
  short = length-map entries (λ (entry : Entry). entry.edit)

  pub its_edit : IsLine edit
  its_edit = let st = its_step in st.line

  pub its_room : MayStep lists
  its_room = let few = follows.few in may_step journal count lists follows.spells (subst (λ (n : ℕ). n ≤ 2147483648) (sym short) few)

  pub for_memory : (new : Kept) (refusal : Refusal) → ((s : State) → Spells lists s → IsStepped lists new (Err refusal) (step s edit)) → refusal ≡ refusals.NoMemory no_memory
  for_memory new refusal stepped =
      let st = its_step in
      (subst (IsStepped lists new (Err refusal)) st.steps (stepped (state_at count journal) follows.spells)).0

  pub slots_early : AllUpTo by.edit (past_of old.slots)
  slots_early [] = subst (UpTo by.edit) (sym follows.unnamed) (λ k d less. absurd (omega (arith, less)))
  slots_early (mask ∷ key) = let number = next.number in
      subst (λ (n : ℕ). UpTo n (past_of old.slots (named_slot mask key))) (sym number) (up_to_next (place_by entries mask key) (past_of old.slots (named_slot mask key)) count (follows.slots mask key))

  pub actions_early : AllUpTo by.edit (past_at old.actions)
  actions_early serial = let number = next.number in
      subst (λ (n : ℕ). UpTo n (past_at old.actions serial)) (sym number) (up_to_next (λ point. maker_at entries point serial) (past_at old.actions serial) count (follows.actions serial))

  -- ---- behind it
  pub followed : (new : Origins) (after : Kept) (done : Done) (going : List GoingFilter) (coming : Option Coming) (changed : Option ℕ) (made last : ℕ) (middle : ℕ → List (Change (Option Line))) → AreKept lists
      → ((s : State) → Spells lists s → IsStepped lists after (Ok done) (step s edit)) → map marked going ≡ map mark_of (rows_going (state_of lists) edit) → ((s : State) → Spells lists s → changed ≡ changed_in s edit)
      → made ≡ lists.actions.made → last ≡ after.actions.made
      → ((t : State) → Spells after t → Sound t → (come : Option Row) → Comes (line_in edit) done come → ((row : Row) → come ≡ Some row → Has row t.rows) → IsComingOf come coming)
      → ((c : Coming) → coming ≡ Some c → line_in edit ≡ Some c.line.now)
      → AreBrought by.edit stood (λ name. Some (length (all_taken by.edit old.slots going old.brought.items))) (coming_slots coming) (past_of old.slots) (past_of new.slots)
      → new.brought.items ≡ all_taken by.edit old.slots going old.brought.items ++ brought_by by coming
      → AreBrought by.edit stood (λ serial. Some by) (listed changed) (past_at old.actions) middle
      → AreBrought by.edit stood (λ serial. Some by) (serials_from (made + 1) (last - made)) middle (past_at new.actions)
      → Follows new after entries (suc count)
  followed new after done going coming changed made last middle kept stepped marks changed_is made_is last_is coming_is line_is slots brought changing making =
      let st = its_step in
      let s : State = state_at count journal in
      let number = next.number in
      let did = has_stepped lists after done st.done (step s edit) st.next (stepped s follows.spells) st.steps in
      let it = came_at journal count edit st in
      let put : row_after journal count ≡ it.come = row_after_is journal count edit there st it in
      let go = it.go in
      let comes : Comes (line_in edit) done it.come = subst (λ (d : Done). Comes (line_in edit) d it.come) (sym did.answer) it.comes in
      let here : IsComingOf it.come coming = coming_is st.next did.spells st.sound_after it.come comes (λ row is. go.comes row is) in
      let of : IsComingOf (row_after journal count) coming = subst (λ (o : Option Row). IsComingOf o coming) (sym put) here in
      let spells : Spells after (state_at (suc count) journal) = subst (Spells after) (sym st.after) did.spells in
      let same : SameState (state_of lists) s = follows.spells in
      let sound : Sound (state_of lists) = kept.sound in
      let within : count ≤ length journal = let least = follows.within in let long = short in omega (arith, least, long) in
      let taken : all_taken by.edit old.slots going old.brought.items ≡ brought_among entries (λ n row. gone_by journal n row (suc count)) count =
      ap (λ (n : ℕ). all_taken n old.slots going old.brought.items) number ∙ ap (all_taken (suc count) old.slots going) follows.brought
      ∙ went_now entries count follows.lawful within old.slots follows.slots st.sound.together going (rows_going (state_of lists) edit) marks
      (λ row has. gone_there (state_of lists) s edit same row has) (λ row. goes_after_is journal count edit there row ∙ same_going (state_of lists) s edit sound same (is_filter row)) in
      let place : length (all_taken by.edit old.slots going old.brought.items) ≡ place_in entries (suc count) =
      ap length taken ∙ among_length entries (λ n row. gone_by journal n row (suc count)) none_gone count in
      let before : made ≡ s.actions_made = let own = same.actions_made in made_is ∙ own in
      let behind : last ≡ st.next.actions_made = let own = did.spells in last_is ∙ own.actions_made in
      let keys : AreBrought (suc count) stood (λ serial. Some by) (listed (changed_in s edit) ++ serials_from (made + 1) (last - made)) (past_at old.actions) (past_at new.actions) =
      subst (λ (n : ℕ). AreBrought n stood (λ serial. Some by) (listed (changed_in s edit) ++ serials_from (made + 1) (last - made)) (past_at old.actions) (past_at new.actions)) number
      (subst (λ (o : Option ℕ). AreBrought by.edit stood (λ serial. Some by) (listed o ++ serials_from (made + 1) (last - made)) (past_at old.actions) (past_at new.actions)) (changed_is s follows.spells)
      (brought_then by.edit stood numbers (λ serial. Some by) (listed changed) (serials_from (made + 1) (last - made)) (past_at old.actions) middle (past_at new.actions) changing making)) in
      let placed : AreBrought (suc count) stood (λ name. Some (length (all_taken by.edit old.slots going old.brought.items))) (coming_slots coming) (past_of old.slots) (past_of new.slots) =
      subst (λ (n : ℕ). AreBrought n stood (λ name. Some (length (all_taken by.edit old.slots going old.brought.items))) (coming_slots coming) (past_of old.slots) (past_of new.slots)) number slots in
      record {
        lawful = follows.lawful;
        few = follows.few;
        within = slice_get_within entries count _ next.entry;
        spells = spells;
        slots = λ mask key. slot_noted entries count (past_of old.slots) (past_of new.slots) coming (length (all_taken by.edit old.slots going old.brought.items)) of place placed mask key (follows.slots mask key);
        unnamed = slots.others [] (λ has. no_name coming has) ∙ follows.unnamed;
        actions = λ serial. action_noted entries count edit by next st.next (ap (state_after s) st.steps) made before last behind (past_at old.actions) (past_at new.actions) keys serial (follows.actions serial);
        brought = brought ∙ ap (λ (l : List Brought). l ++ brought_by by coming) taken
            ∙ ap (λ (l : List Brought). brought_among entries (λ n row. gone_by journal n row (suc count)) count ++ l)
            (came_listed by (row_after journal count) coming of (λ row c is own. sym (it.protocol c.line.now row (line_is c own) (sym put ∙ is))) (λ row. gone_by journal (suc count) row (suc count)) (λ row. early_gone journal (suc count) row (suc count) (omega arith))
            ∙ ap (λ (o : Option Line). brought_row o (row_after journal count) (λ row. gone_by journal (suc count) row (suc count))) (sym (its_line entries count edit by next)));
      }
    where
      no_name : (coming : Option Coming) → Has [] (coming_slots coming) → ⊥
      no_name coming has = let m = map_has (λ (c : Coming). named_slot c.mask c.line.now.key.words) (listed coming) [] has in cc m.2
