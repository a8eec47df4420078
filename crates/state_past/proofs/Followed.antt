-- A past that followed a step remembers the longer journal.
use Rattle.std.proofs.Common.{true, ◌≡◌, ◌∙◌, ◌⊎◌, inl, inr, ℕ, zero, suc, ◌+◌, ◌-◌, ◌<◌, ◌≤◌, false, List, [], ◌∷◌, ◌++◌, length, map, Option, Some, None, is_some, option_map, Ok, Err, refl, sym, ap, subst, arith, eqb-true}
use Rattle.std.specs.Prelude.{◌≢◌, if◌then◌else◌}
use Rattle.std.specs.List.{flat_map, list_any}
use Rattle.std.proofs.lemmas.Bool.{cases_lt, false_from_ne_true}
use Rattle.std.proofs.lemmas.List.{take_all, length-append}
use Rattle.act_kinds.specs.declared.params.Params.{Params}
use Rattle.filter_state.specs.declared.edit.Edit.{Edit}
use Rattle.filter_state.specs.declared.edit.Edit.TheVariants as edits
use Rattle.filter_state.specs.declared.refusal.Done.{Done}
use Rattle.filter_state.specs.declared.refusal.Refusal.{Refusal}
use Rattle.filter_state.specs.declared.refusal.Refusal.TheVariants as refusals
use Rattle.filter_state.specs.Lines.{IsLine}
use Rattle.filter_state.specs.States.{Row, State, no_state}
use Rattle.filter_state.specs.Journals.{state_at, state_from, state_after, Accepts, IsLawfulFrom, IsLawful}
use Rattle.filter_state.specs.Order.{SameState, of_mask}
use Rattle.filter_state.specs.Sound.{Sound, IsRow, IsAction}
use Rattle.filter_state.specs.Steps.{Stepped, step}
use Rattle.filter_state.specs.Tables.{mask_row}
use Rattle.state_laws.proofs.Steps.{step_sound, journal_sound}
use Rattle.state_laws.proofs.OfOrder.States.{same_state_refl, same_state_sym, same_state_trans}
use Rattle.hook_lists.specs.declared.kept.Kept.{Kept}
use Rattle.hook_lists.specs.States.{state_of, AreKept}
use Rattle.filter_lists.specs.Spells.{Spells}
use Rattle.filter_lists.specs.Edits.{IsStepped}
use Rattle.edit_effects.specs.OfEffects.Parts.{words_of, params_at}
use Rattle.edit_effects.specs.OfEffects.Effects.{KeepsActions}
use Rattle.edit_effects.proofs.OfEffects.FilterActions.{filters_keep}
use Rattle.tc_base.specs.declared.hook.Proto.TheVariants as protocols
use Rattle.filter_state.specs.declared.edit.FilterLine.{FilterLine}
use Rattle.filter_state.specs.Actions.{has_serial}
use Rattle.filter_state.proofs.Pairs.{found, any_first}
use Rattle.slot_pasts.specs.declared.past.Change.{Change}
use Rattle.slot_pasts.specs.Pasts.{value_at, UpTo, stood}
use Rattle.slot_pasts.specs.Names.{SlotPast, past_of}
use Rattle.state_past_laws.specs.Slots.{is_slot, slot_in}
use Rattle.state_past_laws.specs.Telling.{Tells}
use Rattle.state_past_laws.proofs.Longer.{stays}
use Rattle.state_past_laws.specs.OfChanges.Among.{Has, listed}
use Rattle.state_past_laws.specs.OfChanges.Going.{rows_going, line_in, GoesOn, Comes}
use Rattle.state_past_laws.specs.OfChanges.Serials.{serials_going}
use Rattle.state_past_laws.specs.OfChanges.Moving.{GrowsFrom}
use Rattle.state_past_laws.proofs.OfChanges.Among.{has_left, has_right, has_map, map_has, each_has, flat_map_has}
use Rattle.state_past_laws.proofs.OfChanges.Going.{rows_go_on}
use Rattle.state_past_laws.proofs.OfChanges.Acting.{keeps_others, never_given}
use Rattle.state_past_laws.proofs.OfChanges.Stood.{slot_parts, slot_comes, slot_goes, slot_stays, words_come, words_go, words_left as words_kept, words_stay, slot_same, words_same}
use Rattle.state_past_laws.proofs.OfChanges.Moved.{up_to_more, told_on}
use Rattle.state_past.specs.declared.gone_filters.going.GoingFilter.{GoingFilter}
use Rattle.state_past.specs.OfGoneFilters.Marks.{Mark, mark_of, marked}
use Rattle.state_past.specs.declared.coming.Coming.{Coming}
use Rattle.state_past.specs.declared.following.StepBefore.{StepBefore}
use Rattle.state_past.specs.declared.past.StatePast.{StatePast}
use Rattle.slot_pasts.specs.Serials.{past_at}
use Rattle.state_past.specs.Serials.{serials_from}
use Rattle.state_past.specs.Brought.{Brought, AllUpTo}
use Rattle.state_past.specs.Told.{words_told, named_slot, slots_of, actions_of_all, words_left, AreLeft, StayLive, IsComingOf, coming_slots, coming_masks, coming_actions, coming_words, named_in}
use Rattle.state_past.specs.Changed.{WordsPast, SlotsChanged, MasksChanged, serials_noted, ActionsChanged}
use Rattle.state_past.specs.Remembering.{Remembers, IsFollowed}
use Rattle.state_past.proofs.Recalled.{told_anywhere}
use Rattle.state_past.proofs.Bringing.{numbers, names, has_decided}
use Rattle.tc_base.specs.Memory.{no_memory}

-- ---- the step that is followed
pub refused_followed : (old new : Kept) (refusal : Refusal) (x : Stepped) → IsStepped old new (Err refusal) x → IsFollowed old new (Err refusal) x
refused_followed old new refusal (Ok next) is = is.0
refused_followed old new refusal (Err said) is = inr is

pub unremembered : (old new : Kept) (done : Done) (x : Stepped) → IsStepped old new (Ok done) x → IsFollowed old new (Err (refusals.NoMemory no_memory)) x
unremembered old new done (Ok next) is = refl
unremembered old new done (Err said) is = absurd is

pub done_followed : (old new : Kept) (done : Done) (x : Stepped) → IsStepped old new (Ok done) x → IsFollowed old new (Ok done) x
done_followed old new done (Ok next) is = is
done_followed old new done (Err said) is = absurd is

accepted : (old new : Kept) (done : Done) (x : Stepped) → IsStepped old new (Ok done) x → (t : State) × (x ≡ Ok (t, done)) × Spells new t
accepted old new done (Ok (next, said)) is = (next, ap (λ (d : Done). Ok (next, d)) (sym is.0), is.1)
accepted old new done (Err said) is = absurd is

-- ---- a journal with one edit more
longer_state : (s : State) (journal : List Edit) (edit : Edit) → state_from s (journal ++ (edit ∷ [])) ≡ state_after (state_from s journal) (step (state_from s journal) edit)
longer_state s [] edit = refl
longer_state s (first ∷ journal) edit = longer_state (state_after s (step s first)) journal edit

accepts : (s t : State) (edit : Edit) (done : Done) (x : Stepped) → x ≡ Ok (t, done) → Accepts s edit x
accepts s t edit done (Ok next) is = tt
accepts s t edit done (Err refusal) is = absurd (cc is)

longer_lawful : (s t : State) (journal : List Edit) (edit : Edit) (done : Done) → IsLawfulFrom s journal → IsLine edit → step (state_from s journal) edit ≡ Ok (t, done) → IsLawfulFrom s (journal ++ (edit ∷ []))
longer_lawful s t [] edit done lawful line is = (line, accepts s t edit done (step s edit) is, tt)
longer_lawful s t (first ∷ journal) edit done lawful line is = (lawful.0, lawful.1, longer_lawful (state_after s (step s first)) t journal edit done lawful.2 line is)

sound_end : (journal : List Edit) → IsLawful journal → Sound (state_from no_state journal)
sound_end journal lawful = subst (λ (js : List Edit). Sound (state_from no_state js)) (take_all (length journal) journal (omega arith)) (journal_sound journal (length journal) lawful)

-- ---- what was copied is of the rows
map_marked : {K : Type 0} (f : GoingFilter → K) (h : Mark → K) → ((g : GoingFilter) → f g ≡ h (marked g)) → (gs : List GoingFilter) (rows : List Row) → map marked gs ≡ map mark_of rows → map f gs ≡ map (λ row. h (mark_of row)) rows
map_marked f h same gs rows is = twice f marked h same gs ∙ (ap (map h) is ∙ sym (twice (λ row. h (mark_of row)) mark_of h (λ row. refl) rows))
  where
    twice : {A B C : Type 0} (f : A → C) (g : A → B) (h : B → C) → ((a : A) → f a ≡ h (g a)) → (xs : List A) → map f xs ≡ map h (map g xs)
    twice f g h same [] = refl
    twice f g h same (x ∷ xs) = ap (λ c. c ∷ map f xs) (same x) ∙ ap (λ cs. h (g x) ∷ cs) (twice f g h same xs)

flat_marked : (gs : List GoingFilter) (rows : List Row) → map marked gs ≡ map mark_of rows → actions_of_all gs ≡ flat_map (λ (row : Row). row.actions) rows
flat_marked gs rows is = first gs ∙ (ap (flat_map (λ (m : Mark). m.actions)) is ∙ sym (second rows))
  where
    first : (xs : List GoingFilter) → actions_of_all xs ≡ flat_map (λ (m : Mark). m.actions) (map marked xs)
    first [] = refl
    first (x ∷ xs) = ap (λ (ns : List ℕ). x.actions ++ ns) (first xs)

    second : (xs : List Row) → flat_map (λ (row : Row). row.actions) xs ≡ flat_map (λ (m : Mark). m.actions) (map mark_of xs)
    second [] = refl
    second (x ∷ xs) = ap (λ (ns : List ℕ). x.actions ++ ns) (second xs)

abbrev row_name : Row → List ℕ
row_name row = named_slot row.mask_serial row.key

come_slots : (come : Option Row) (coming : Option Coming) → IsComingOf come coming → coming_slots coming ≡ map row_name (listed come)
come_slots None None is = refl
come_slots (Some row) (Some c) is = let mask = is.mask in let key = is.key in ap (λ (n : ℕ). named_slot n c.line.now.key.words ∷ []) mask ∙ ap (λ (k : List ℕ). named_slot row.mask_serial k ∷ []) key
come_slots None (Some c) is = absurd is
come_slots (Some row) None is = absurd is

come_masks : (come : Option Row) (coming : Option Coming) → IsComingOf come coming → coming_masks coming ≡ map (λ (row : Row). row.mask_serial) (listed come)
come_masks None None is = refl
come_masks (Some row) (Some c) is = let mask = is.mask in ap (λ (n : ℕ). n ∷ []) mask
come_masks None (Some c) is = absurd is
come_masks (Some row) None is = absurd is

come_actions : (come : Option Row) (coming : Option Coming) → IsComingOf come coming → coming_actions coming ≡ option_map (λ (row : Row). row.actions) come
come_actions None None is = refl
come_actions (Some row) (Some c) is = let actions = is.actions in ap (λ (ns : List ℕ). Some ns) actions
come_actions None (Some c) is = absurd is
come_actions (Some row) None is = absurd is

come_words : (come : Option Row) (coming : Option Coming) → IsComingOf come coming → (row : Row) → come ≡ Some row → coming_words coming ≡ row.mask
come_words (Some r) (Some c) is row same = let words = is.words in let own : r ≡ row = cc same in words ∙ ap (λ (x : Row). x.mask) own
come_words None coming is row same = absurd (cc same)
come_words (Some r) None is row same = absurd is

listed_is : {A : Type 0} (x : A) (o : Option A) → Has x (listed o) → o ≡ Some x
listed_is x (Some y) (inl same) = ap (λ z. Some z) same
listed_is x (Some y) (inr none) = absurd none
listed_is x None has = absurd has

is_listed : {A : Type 0} (x : A) (o : Option A) → o ≡ Some x → Has x (listed o)
is_listed x (Some y) is = inl (cc is)
is_listed x None is = absurd (cc is)

-- ---- serials
noted : (s : State) (edit : Edit) (n : ℕ) → Has n (serials_going s edit) → Has n (flat_map (λ (row : Row). row.actions) (rows_going s edit) ++ listed (named_in s edit))
noted s edits.HookAdd n has = absurd has
noted s edits.HookDel n has = absurd has
noted s (edits.FilterAdd line) n has = absurd has
noted s (edits.FilterReplace line) n has = has_left n (flat_map (λ (row : Row). row.actions) (rows_going s (edits.FilterReplace line))) [] has
noted s (edits.FilterDel hook protocol chain pref handle) n has = has_left n (flat_map (λ (row : Row). row.actions) (rows_going s (edits.FilterDel hook protocol chain pref handle))) [] has
noted s (edits.ActionAdd line) n has = absurd has
noted s (edits.ActionChange line) n has = has
noted s (edits.ActionDel kind index) n has = has

has_serial_from : (n first more : ℕ) → first ≤ n → n < first + more → Has n (serials_from first more)
has_serial_from n first zero least less = absurd (omega (arith, least, less))
has_serial_from n first (suc more) least less = pick (cases_lt n (first + more)) (λ low. has_serial_from n first more least low)
  where
    pick : (n < first + more) ⊎ (first + more ≤ n) → (n < first + more → Has n (serials_from first more)) → Has n (serials_from first more ++ ((first + more) ∷ []))
    pick (inl low) rest = has_left n (serials_from first more) ((first + more) ∷ []) (rest low)
    pick (inr high) rest = let same : first + more ≡ n = omega (arith, high, less) in has_right n (serials_from first more) ((first + more) ∷ []) (inl same)

-- ---- one past
module _ (journal : List Edit) (edit : Edit) where
  abbrev next : ℕ
  next = length journal + 1

  abbrev after : State
  after = state_from no_state (journal ++ (edit ∷ []))

  grows_twice : {V : Type 0} (past middle later : List (Change V)) → GrowsFrom next past middle → GrowsFrom next middle later → GrowsFrom next past later
  grows_twice past middle later one other = record { before = λ point less. other.before point less ∙ one.before point less; up_to = other.up_to }

  stays_told : {V W : Type 0} (has : State → W) (read : Option V → W) (past later : List (Change V)) → Tells has read past journal → later ≡ past → has after ≡ has (state_from no_state journal) → Tells has read later (journal ++ (edit ∷ []))
  stays_told has read past later tells same is = subst (λ (p : List (Change _)). Tells has read p (journal ++ (edit ∷ []))) (sym same) (stays journal edit _ _ has read past tells is)

-- ---- all pasts
module _ (journal : List Edit) (edit : Edit) (s t : State) (sound : Sound s) (sound_after : Sound t) (come : Option Row) (go : GoesOn s.rows t.rows (rows_going s edit) come)
    (same_before : SameState s (state_from no_state journal)) (same_after : SameState t (state_from no_state (journal ++ (edit ∷ [])))) where
  abbrev gone : List Row
  gone = rows_going s edit

  abbrev at_end : State
  at_end = state_from no_state (journal ++ (edit ∷ []))

  abbrev upto : ℕ
  upto = length journal + 1

  named_parts : (mask : ℕ) (key : List ℕ) (row : Row) → row_name row ≡ named_slot mask key → (row.mask_serial ≡ mask) × (row.key ≡ key)
  named_parts mask key row same = (cc same, cc same)

  not_slot : (mask : ℕ) (key : List ℕ) (row : Row) → (row_name row ≡ named_slot mask key → ⊥) → is_slot mask key row ≡ false
  not_slot mask key row other = false_from_ne_true (is_slot mask key row)
      (λ is. let parts = slot_parts mask key row is in other (ap (λ (n : ℕ). named_slot n row.key) parts.0 ∙ ap (λ (k : List ℕ). named_slot mask k) parts.1))

  abbrev SlotTells : ℕ → List ℕ → SlotPast (List ℕ) → List Edit → Type 0
  SlotTells mask key past js = Tells (λ (u : State). slot_in u.rows mask key) stood past js

  slots_told : (past middle later : List ℕ → SlotPast (List ℕ)) (coming : Option Coming) → IsComingOf come coming → Brought upto stood (λ name. None) (map row_name gone) past middle
      → Brought upto stood (λ name. coming_actions coming) (map row_name (listed come)) middle later → (mask : ℕ) (key : List ℕ) → SlotTells mask key (past (named_slot mask key)) journal
      → SlotTells mask key (later (named_slot mask key)) (journal ++ (edit ∷ []))
  slots_told past middle later coming of one other mask key tells = pick (has_decided names (named_slot mask key) (map row_name (listed come))) (has_decided names (named_slot mask key) (map row_name gone))
    where
      now_is : slot_in at_end.rows mask key ≡ slot_in t.rows mask key
      now_is = slot_same t at_end sound_after same_after mask key

      grows : GrowsFrom upto (past (named_slot mask key)) (later (named_slot mask key))
      grows = grows_twice journal edit (past (named_slot mask key)) (middle (named_slot mask key)) (later (named_slot mask key)) (one.grows (named_slot mask key)) (other.grows (named_slot mask key))

      comes : (row : Row) → come ≡ Some row → row_name row ≡ (named_slot mask key) → coming_actions coming ≡ slot_in t.rows mask key
      comes row is same = let parts = named_parts mask key row same in
          come_actions come coming of ∙ ap (option_map (λ (r : Row). r.actions)) is ∙ sym (slot_comes s.rows t.rows gone come go sound.together sound_after.together row is)
          ∙ ap (λ (n : ℕ). slot_in t.rows n row.key) parts.0 ∙ ap (λ (k : List ℕ). slot_in t.rows mask k) parts.1

      goes : (row : Row) → Has row gone → row_name row ≡ (named_slot mask key) → (Has (named_slot mask key) (map row_name (listed come)) → ⊥) → slot_in t.rows mask key ≡ None
      goes row has same none = let parts = named_parts mask key row same in
          sym (ap (λ (n : ℕ). slot_in t.rows n row.key) parts.0 ∙ ap (λ (k : List ℕ). slot_in t.rows mask k) parts.1)
          ∙ slot_goes s.rows t.rows gone come go sound.together sound_after.together row has
          (λ r is. not_slot row.mask_serial row.key r (λ alike. none (subst (λ (n : List ℕ). Has n (map row_name (listed come))) (alike ∙ same) (has_map row_name (listed come) r (is_listed r come is)))))

      pick : Has (named_slot mask key) (map row_name (listed come)) ⊎ (Has (named_slot mask key) (map row_name (listed come)) → ⊥) → Has (named_slot mask key) (map row_name gone) ⊎ (Has (named_slot mask key) (map row_name gone) → ⊥) → SlotTells mask key (later (named_slot mask key)) (journal ++ (edit ∷ []))
      pick (inl has) rest = let m = map_has row_name (listed come) (named_slot mask key) has in
          told_on _ _ (λ (u : State). slot_in u.rows mask key) stood (past (named_slot mask key)) (later (named_slot mask key)) journal edit tells grows (other.done (named_slot mask key) has ∙ comes m.0 (listed_is m.0 come m.1) m.2 ∙ sym now_is)
      pick (inr none) (inl has) = let m = map_has row_name gone (named_slot mask key) has in
          told_on _ _ (λ (u : State). slot_in u.rows mask key) stood (past (named_slot mask key)) (later (named_slot mask key)) journal edit tells grows
          (ap (λ (p : SlotPast (List ℕ)). stood (value_at upto p)) (other.others (named_slot mask key) none) ∙ one.done (named_slot mask key) has ∙ sym (goes m.0 m.1 m.2 none) ∙ sym now_is)
      pick (inr none) (inr not) = stays_told journal edit (λ (u : State). slot_in u.rows mask key) stood (past (named_slot mask key)) (later (named_slot mask key)) tells (other.others (named_slot mask key) none ∙ one.others (named_slot mask key) not)
          (now_is ∙ slot_stays s.rows t.rows gone come go sound.together sound_after.together mask key
          (λ g has. not_slot mask key g (λ same. not (subst (λ (n : List ℕ). Has n (map row_name gone)) same (has_map row_name gone g has))))
          (λ r is. not_slot mask key r (λ same. none (subst (λ (n : List ℕ). Has n (map row_name (listed come))) same (has_map row_name (listed come) r (is_listed r come is)))))
          ∙ sym (slot_same s (state_from no_state journal) sound same_before mask key))

  -- ---- masks
  abbrev its_serial : Row → ℕ
  its_serial row = row.mask_serial

  not_mask : (mask : ℕ) (row : Row) → (row.mask_serial ≡ mask → ⊥) → of_mask mask row ≡ false
  not_mask mask row other = false_from_ne_true (of_mask mask row) (λ is. other (eqb-true row.mask_serial mask is))

  abbrev MaskTells : ℕ → WordsPast → List Edit → Type 0
  MaskTells mask past js = Tells (λ (u : State). words_of u mask) words_told past js

  masks_told : (past middle later : ℕ → WordsPast) (coming : Option Coming) → IsComingOf come coming → Brought upto words_told (words_of t) (map its_serial gone) past middle
      → Brought upto words_told (λ mask. coming_words coming) (map its_serial (listed come)) middle later → (mask : ℕ) → MaskTells mask (past mask) journal → MaskTells mask (later mask) (journal ++ (edit ∷ []))
  masks_told past middle later coming of one other mask tells = pick (has_decided numbers mask (map its_serial (listed come))) (has_decided numbers mask (map its_serial gone))
    where
      now_is : words_of at_end mask ≡ words_of t mask
      now_is = words_same t at_end sound_after same_after mask

      grows : GrowsFrom upto (past mask) (later mask)
      grows = grows_twice journal edit (past mask) (middle mask) (later mask) (one.grows mask) (other.grows mask)

      comes : (row : Row) → come ≡ Some row → row.mask_serial ≡ mask → coming_words coming ≡ words_of t mask
      comes row is same = come_words come coming of row is ∙ sym (words_come s.rows t.rows gone come go sound.together sound_after.together row is) ∙ ap (λ (n : ℕ). words_of t n) same

      pick : Has mask (map its_serial (listed come)) ⊎ (Has mask (map its_serial (listed come)) → ⊥) → Has mask (map its_serial gone) ⊎ (Has mask (map its_serial gone) → ⊥) → MaskTells mask (later mask) (journal ++ (edit ∷ []))
      pick (inl has) rest = let m = map_has its_serial (listed come) mask has in
          told_on _ _ (λ (u : State). words_of u mask) words_told (past mask) (later mask) journal edit tells grows (other.done mask has ∙ comes m.0 (listed_is m.0 come m.1) m.2 ∙ sym now_is)
      pick (inr none) (inl has) =
          told_on _ _ (λ (u : State). words_of u mask) words_told (past mask) (later mask) journal edit tells grows
          (ap (λ (p : WordsPast). words_told (value_at upto p)) (other.others mask none) ∙ one.done mask has ∙ sym now_is)
      pick (inr none) (inr not) = stays_told journal edit (λ (u : State). words_of u mask) words_told (past mask) (later mask) tells (other.others mask none ∙ one.others mask not)
          (now_is ∙ words_stay s.rows t.rows gone come go sound.together sound_after.together mask
          (λ g has. not_mask mask g (λ same. not (subst (λ (n : ℕ). Has n (map its_serial gone)) same (has_map its_serial gone g has))))
          (λ r is. not_mask mask r (λ same. none (subst (λ (n : ℕ). Has n (map its_serial (listed come))) same (has_map its_serial (listed come) r (is_listed r come is)))))
          ∙ sym (words_same s (state_from no_state journal) sound same_before mask))

  -- the masks of the rows that went have what is left
  abbrev left_in : Mark → List ℕ
  left_in m = if is_some (mask_row m.hook m.chain m.pref m.words t.rows) then m.words else []

  left_of : (g : GoingFilter) (row : Row) → Has row gone → mark_of row ≡ marked g → words_left t g ≡ words_of t g.mask
  left_of g row has same = pick (mask_row row.hook row.chain row.pref row.mask t.rows) refl
    where
      pick : (o : Option Row) → mask_row row.hook row.chain row.pref row.mask t.rows ≡ o → words_left t g ≡ words_of t g.mask
      pick None is = ap left_in (sym same) ∙ ap (λ (p : Option Row). if is_some p then row.mask else []) is
          ∙ sym (words_go s.rows t.rows gone come go sound.together sound_after.together row has is) ∙ ap (λ (m : Mark). words_of t m.mask) same
      pick (Some r) is = ap left_in (sym same) ∙ ap (λ (p : Option Row). if is_some p then row.mask else []) is
          ∙ sym (words_kept s.rows t.rows gone come go sound.together sound_after.together row r has is) ∙ ap (λ (m : Mark). words_of t m.mask) same

  all_left : (going : List GoingFilter) → map marked going ≡ map mark_of gone → AreLeft t going (words_of t)
  all_left going is g has =
      let m = map_has mark_of gone (marked g) (subst (λ (ms : List Mark). Has (marked g) ms) is (has_map marked going g has)) in left_of g m.0 m.1 m.2

  -- ---- actions
  abbrev ParamsTells : ℕ → List (Change (Option Params)) → List Edit → Type 0
  ParamsTells serial past js = Tells (λ (u : State). params_at u serial) stood past js

  params_now : (u : State) (v : State) (serial : ℕ) → SameState u v → params_at v serial ≡ params_at u serial
  params_now u v serial same = ap (λ xs. params_at (record u { actions = xs }) serial) (sym same.actions)

  actions_told : (past later : ℕ → List (Change (Option Params))) (keys : List ℕ) (done : Done) → step s edit ≡ Ok (t, done) → Brought upto stood (params_at t) keys past later
      → ((n : ℕ) → Has n (serials_going s edit) → Has n keys) → ((n : ℕ) → s.actions_made < n → n ≤ t.actions_made → Has n keys) → (serial : ℕ) → ParamsTells serial (past serial) journal
      → ParamsTells serial (later serial) (journal ++ (edit ∷ []))
  actions_told past later keys done stepped brought going made serial tells = pick (has_decided numbers serial keys)
    where
      now_is : params_at at_end serial ≡ params_at t serial
      now_is = params_now t at_end serial same_after

      old_or_new : (Has serial keys → ⊥) → (serial < s.actions_made + 1) ⊎ (s.actions_made + 1 ≤ serial) → params_at t serial ≡ params_at s serial
      old_or_new none (inl low) = keeps_others s t edit done sound stepped serial (omega (arith, low)) (λ has. none (going serial has))
      old_or_new none (inr high) = by_made (cases_lt t.actions_made serial)
        where
          by_made : (t.actions_made < serial) ⊎ (serial ≤ t.actions_made) → params_at t serial ≡ params_at s serial
          by_made (inl above) = never_given t serial sound_after above ∙ sym (never_given s serial sound (omega (arith, high)))
          by_made (inr within) = absurd (none (made serial (omega (arith, high)) within))

      pick : Has serial keys ⊎ (Has serial keys → ⊥) → ParamsTells serial (later serial) (journal ++ (edit ∷ []))
      pick (inl has) = told_on _ _ (λ (u : State). params_at u serial) stood (past serial) (later serial) journal edit tells (brought.grows serial) (brought.done serial has ∙ sym now_is)
      pick (inr none) = stays_told journal edit (λ (u : State). params_at u serial) stood (past serial) (later serial) tells (brought.others serial none)
          (now_is ∙ old_or_new none (cases_lt serial (s.actions_made + 1)) ∙ sym (params_now s (state_from no_state journal) serial same_before))

-- an action of a row that goes, and that is live behind it, is as it was
kept_live : (s t : State) (edit : Edit) (done : Done) → Sound s → step s edit ≡ Ok (t, done) → (serial : ℕ) → Has serial (flat_map (λ (row : Row). row.actions) (rows_going s edit)) → KeepsActions s t
kept_live s t edits.HookAdd done sound e serial has = absurd has
kept_live s t edits.HookDel done sound e serial has = absurd has
kept_live s t (edits.FilterAdd line) done sound e serial has = absurd has
kept_live s t (edits.FilterReplace line) done sound e serial has = filters_keep s t (edits.FilterReplace line) done line line.hook None 0 0 None sound e (inr (inl refl))
kept_live s t (edits.FilterDel hook protocol chain pref handle) done sound e serial has = filters_keep s t (edits.FilterDel hook protocol chain pref handle) done no_line hook protocol chain pref handle sound e (inr (inr refl))
  where
    no_line : FilterLine
    no_line = record { hook = hook; protocol = protocols.All; chain = 0; pref = None; handle = None; mask = record { words = [] }; key = record { words = [] }; actions = [] }
kept_live s t (edits.ActionAdd line) done sound e serial has = absurd has
kept_live s t (edits.ActionChange line) done sound e serial has = absurd has
kept_live s t (edits.ActionDel kind index) done sound e serial has = absurd has

was_given : (s : State) → Sound s → (rows : List Row) → ((row : Row) → Has row rows → Has row s.rows) → (serial : ℕ) → Has serial (flat_map (λ (row : Row). row.actions) rows) → serial ≤ s.actions_made
was_given s sound rows there serial has =
    let at = flat_map_has (λ (row : Row). row.actions) rows serial has in
    let row = each_has (IsRow s) s.rows at.0 sound.rows (there at.0 at.1) in
    let live = each_has (λ n. list_any (has_serial n) s.actions ≡ true) at.0.actions serial row.live at.2 in
    let first = any_first (has_serial serial) s.actions live in let own = found (IsAction s) (has_serial serial) s.actions first.0 sound.actions first.1 in
    let range = own.0.serial.1 in let same : first.0.serial ≡ serial = eqb-true first.0.serial serial own.1 in omega (arith, range, same)

as_it_was : (s t : State) (serial : ℕ) → serial ≤ s.actions_made → KeepsActions s t → params_at t serial ≢ None → params_at s serial ≡ params_at t serial
as_it_was s t serial low keeps some = pick (params_at s serial) refl
  where
    pick : (o : Option Params) → params_at s serial ≡ o → params_at s serial ≡ params_at t serial
    pick (Some params) is = either (keeps.stays serial params is)
      where
        either : (params_at t serial ≡ Some params) ⊎ (params_at t serial ≡ None) → params_at s serial ≡ params_at t serial
        either (inl same) = is ∙ sym same
        either (inr none) = absurd (some none)
    pick None is = let above = keeps.comes serial is some in absurd (omega (arith, low, above))

told_live : (past : StatePast) (journal : List Edit) → Remembers past journal → (edit : Edit) (s t : State) (done : Done) → Sound s → step s edit ≡ Ok (t, done) → SameState s (state_from no_state journal)
    → (come : Option Row) → GoesOn s.rows t.rows (rows_going s edit) come → (going : List GoingFilter) → map marked going ≡ map mark_of (rows_going s edit) → StayLive t (past.point + 1) (past_at past.actions) (actions_of_all going)
told_live past journal remembers edit s t done sound stepped same come go going marks serial has some =
    let named : Has serial (flat_map (λ (row : Row). row.actions) (rows_going s edit)) = subst (λ (ns : List ℕ). Has serial ns) (flat_marked going (rows_going s edit) marks) has in
    let at = remembers.point in
    let ends : state_at (past.point + 1) journal ≡ state_from no_state journal = ap (state_from no_state) (take_all (past.point + 1) journal (omega (arith, at))) in
    sym (told_anywhere (λ (u : State). params_at u serial) stood (past_at past.actions serial) journal (remembers.actions serial) (past.point + 1))
    ∙ ap (λ (u : State). params_at u serial) ends ∙ ap (λ xs. params_at (record s { actions = xs }) serial) (sym same.actions)
    ∙ as_it_was s t serial (was_given s sound (rows_going s edit) (λ row goes. go.there row goes) serial named) (kept_live s t edit done sound stepped serial named) some

no_gone_name : (going : List GoingFilter) → Has [] (slots_of going) → ⊥
no_gone_name going has = let m = map_has (λ (g : GoingFilter). named_slot g.mask g.key.words) going [] has in cc m.2

no_name : (come : Option Row) (coming : Option Coming) → IsComingOf come coming → Has [] (coming_slots coming) → ⊥
no_name come coming of has = let m = map_has (λ (c : Coming). named_slot c.mask c.line.now.key.words) (listed coming) [] has in cc m.2

-- ---- the whole
pub remembered : (past later : StatePast) (lists new : Kept) (edit : Edit) (done : Done) (before : StepBefore) (coming : Option Coming) (journal : List Edit) → Remembers past journal → AreKept lists → IsLine edit
    → Spells lists (state_from no_state journal) → ((s : State) → Spells lists s → IsStepped lists new (Ok done) (step s edit))
    → map marked before.going.items ≡ map mark_of (rows_going (state_of lists) edit) → before.named ≡ named_in (state_of lists) edit → before.made ≡ lists.actions.made
    → ((t : State) → Spells new t → Sound t → (come : Option Row) → Comes (line_in edit) done come → ((row : Row) → come ≡ Some row → Has row t.rows) → IsComingOf come coming)
    → later.point ≡ past.point + 1 → SlotsChanged (past.point + 1) before.going.items coming (past_of past.slots) (past_of later.slots)
    → ((t : State) → Spells new t → AreLeft t before.going.items (words_of t) → MasksChanged t (past.point + 1) before.going.items coming (past_at past.masks) (past_at later.masks))
    → ((t : State) → Spells new t → StayLive t (past.point + 1) (past_at past.actions) (actions_of_all before.going.items) → ActionsChanged t (past.point + 1) before (new.actions.made - before.made) (past_at past.actions) (past_at later.actions))
    → Remembers later (journal ++ (edit ∷ [])) × Spells new (state_from no_state (journal ++ (edit ∷ [])))
remembered past later lists new edit done before coming journal remembers kept line spells stepped marks named_is made_is coming_is point slots masks actions =
    let s : State = state_of lists in
    let first = accepted lists new done (step s edit) (stepped s (same_state_refl s)) in
    let t : State = first.0 in
    let second = accepted lists new done (step (state_from no_state journal) edit) (stepped (state_from no_state journal) spells) in
    let lawful : IsLawful (journal ++ (edit ∷ [])) = longer_lawful no_state second.0 journal edit done remembers.lawful line second.1 in
    let ends : state_from no_state (journal ++ (edit ∷ [])) ≡ second.0 = longer_state no_state journal edit ∙ ap (state_after (state_from no_state journal)) second.1 in
    let spells_end : Spells new (state_from no_state (journal ++ (edit ∷ []))) = subst (Spells new) (sym ends) second.2 in
    let sound_after : Sound t = subst Sound (ap (state_after s) first.1) (step_sound s edit kept.sound line) in
    let same_after : SameState t (state_from no_state (journal ++ (edit ∷ []))) = same_state_trans (same_state_sym first.2) spells_end in
    let goes = rows_go_on s t edit done kept.sound first.1 in
    let go : GoesOn s.rows t.rows (rows_going s edit) goes.0 = goes.1 in
    let of : IsComingOf goes.0 coming = coming_is t first.2 sound_after goes.0 goes.2 (λ row is. go.comes row is) in
    let slots_from = subst (λ (n : ℕ). SlotsChanged (n + 1) before.going.items coming (past_of past.slots) (past_of later.slots)) remembers.point slots in
    let masks_from = subst (λ (n : ℕ). MasksChanged t (n + 1) before.going.items coming (past_at past.masks) (past_at later.masks)) remembers.point
    (masks t first.2 (all_left journal edit s t kept.sound sound_after goes.0 go spells same_after before.going.items marks)) in
    let actions_from = subst (λ (n : ℕ). ActionsChanged t (n + 1) before (new.actions.made - before.made) (past_at past.actions) (past_at later.actions)) remembers.point
    (actions t first.2 (λ serial has some. told_live past journal remembers edit s t done kept.sound first.1 spells goes.0 go before.going.items marks serial has some)) in
    let slot_keys = map_marked (λ (g : GoingFilter). named_slot g.mask g.key.words) (λ (m : Mark). named_slot m.mask m.key) (λ g. refl) before.going.items (rows_going s edit) marks in
    let mask_keys = map_marked (λ (g : GoingFilter). g.mask) (λ (m : Mark). m.mask) (λ g. refl) before.going.items (rows_going s edit) marks in
    let noted_keys : (actions_of_all before.going.items ++ listed before.named) ≡ flat_map (λ (row : Row). row.actions) (rows_going s edit) ++ listed (named_in s edit) =
    ap (λ (ns : List ℕ). ns ++ listed before.named) (flat_marked before.going.items (rows_going s edit) marks) ∙ ap (λ (o : Option ℕ). flat_map (λ (row : Row). row.actions) (rows_going s edit) ++ listed o) named_is in
    let made_after : new.actions.made ≡ t.actions_made = first.2.actions_made in (
      record {
        lawful = lawful;
        point = point ∙ ap (λ (n : ℕ). n + 1) remembers.point ∙ sym (length-append journal (edit ∷ []));
        slots = λ mask key. slots_told journal edit s t kept.sound sound_after goes.0 go spells same_after (past_of past.slots) slots_from.0 (past_of later.slots) coming of
            (subst (λ (ks : List (List ℕ)). Brought (length journal + 1) stood (λ name. None) ks (past_of past.slots) slots_from.0) slot_keys slots_from.1)
            (subst (λ (ks : List (List ℕ)). Brought (length journal + 1) stood (λ name. coming_actions coming) ks slots_from.0 (past_of later.slots)) (come_slots goes.0 coming of) slots_from.2)
            mask key (remembers.slots mask key);
        unnamed = slots_from.2.others [] (λ has. no_name goes.0 coming of has) ∙ slots_from.1.others [] (λ has. no_gone_name before.going.items has) ∙ remembers.unnamed;
        masks = λ mask. masks_told journal edit s t kept.sound sound_after goes.0 go spells same_after (past_at past.masks) masks_from.0 (past_at later.masks) coming of
            (subst (λ (ks : List ℕ). Brought (length journal + 1) words_told (words_of t) ks (past_at past.masks) masks_from.0) mask_keys masks_from.1)
            (subst (λ (ks : List ℕ). Brought (length journal + 1) words_told (λ mask. coming_words coming) ks masks_from.0 (past_at later.masks)) (come_masks goes.0 coming of) masks_from.2)
            mask (remembers.masks mask);
        actions = λ serial. actions_told journal edit s t kept.sound sound_after goes.0 go spells same_after (past_at past.actions) (past_at later.actions) (serials_noted before (new.actions.made - before.made)) done first.1 actions_from
            (λ n has. has_left n (actions_of_all before.going.items ++ listed before.named) (serials_from (before.made + 1) (new.actions.made - before.made)) (subst (λ (ks : List ℕ). Has n ks) (sym noted_keys) (noted s edit n has)))
            (λ n above within. has_right n (actions_of_all before.going.items ++ listed before.named) (serials_from (before.made + 1) (new.actions.made - before.made))
            (has_serial_from n (before.made + 1) (new.actions.made - before.made) (omega (arith, above, made_is)) (omega (arith, above, within, made_is, made_after))))
            serial (remembers.actions serial);
      },
      spells_end,
    )

-- what a past has up to a journal's end, it has up to the point behind it
module _ (past : StatePast) (journal : List Edit) (remembers : Remembers past journal) where
  one_more : {V : Type 0} (changes : List (Change V)) → UpTo (length journal) changes → UpTo (past.point + 1) changes
  one_more changes up = let at = remembers.point in up_to_more (length journal) (past.point + 1) changes (omega (arith, at)) up

  pub slots_up_to : AllUpTo (past.point + 1) (past_of past.slots)
  slots_up_to [] = subst (UpTo (past.point + 1)) (sym remembers.unnamed) (λ k d less. absurd (omega (arith, less)))
  slots_up_to (mask ∷ key) = let tells = remembers.slots mask key in one_more (past_of past.slots (named_slot mask key)) tells.up_to

  pub masks_up_to : AllUpTo (past.point + 1) (past_at past.masks)
  masks_up_to mask = let tells = remembers.masks mask in one_more (past_at past.masks mask) tells.up_to

  pub actions_up_to : AllUpTo (past.point + 1) (past_at past.actions)
  actions_up_to serial = let tells = remembers.actions serial in one_more (past_at past.actions serial) tells.up_to
