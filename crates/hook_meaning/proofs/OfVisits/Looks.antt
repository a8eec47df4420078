-- From what a look-up tells to the answer of the state of the visit's point.
use Rattle.std.proofs.Common.{max, cond, ◌||◌, filter, ◌≡◌, ◌≢◌, ◌∙◌, ℕ, zero, suc, ◌≤◌, Bool, true, false, List, [], ◌∷◌, length, map, take, drop, slice_get, Some, None, refl, sym, ap, subst, arith, le_refl}
use Rattle.std.proofs.lemmas.List.{take-append-drop}
use Rattle.std.specs.List.{list_any}
use Rattle.std.specs.Option.{option_map}
use Rattle.std.specs.Prelude.{IsTrue}
use Rattle.store_history.specs.declared.history.Commit.{Commit}
use Rattle.store_history.specs.History.{edits_of}
use Rattle.visit_room.specs.declared.names.ActionName.{ActionName}
use Rattle.filter_state.specs.Tables.{first_where}
use Rattle.filter_state.specs.declared.edit.Edit.{Edit}
use Rattle.filter_state.specs.States.{State, Row, Action}
use Rattle.filter_state.specs.Actions.{has_serial}
use Rattle.filter_state.specs.Order.{of_mask}
use Rattle.filter_state.specs.Sound.{Each, IsRow, Sound}
use Rattle.flow_fields.specs.Values.{values_of}
use Rattle.flow_mask.specs.Masks.{each_and}
use Rattle.edit_effects.specs.OfEffects.Parts.{Filter, filter_of, filters_of, words_in, words_of}
use Rattle.block_codec.specs.declared.filter.StoredFilter.{StoredFilter}
use Rattle.mask_table.specs.Buckets.{IsAnswer}
use Rattle.mask_table.specs.Told.{edits_by, LookedUp}
use Rattle.walk_rules.specs.Questions as questions
use Rattle.walk_rules.specs.Answers.{answer_of}
use Rattle.walk_steps.specs.Told.{filter_told, action_serials}
use Rattle.hook_law.specs.Records.{StatedFilter}
use Rattle.hook_law.specs.Meaning as law
use Rattle.hook_law.specs.Standing.{IsSlotOf}
use Rattle.hook_law.specs.Keeping.{Keeps}
use Rattle.hook_law.specs.Slots.{slot_of}
use Rattle.hook_law.proofs.Growing.{edits_parts, state_stable}
use Rattle.hook_law.proofs.Standing.{slot_longer}
use Rattle.hook_law.proofs.Slots.{slot_is}
use Rattle.hook_meaning.specs.Stated.{hook_meaning, action_stated, filter_stated, filters_at}
use Rattle.hook_meaning.specs.Blocks.{hook_codec}
use Rattle.hook_meaning.specs.Told.{action_name, state_after_edits, stands_at, words_after, with_slots, filters_after}
use Rattle.hook_meaning.proofs.States.{state_is, sound_after}
use Rattle.edit_effects.specs.OfMaskAnswers.Searched.{IsSearched, searched_told}
use Rattle.edit_effects.proofs.OfMaskAnswers.Searching.{search_answers}
use Rattle.hook_meaning.specs.OfVisits.Known.{MaskStood, ActionLived}
use Rattle.hook_meaning.proofs.OfVisits.Names.{edits_rise}

-- ---- lists
mapped_at : {A B : Type 0} (f : A → B) (xs : List A) (j : ℕ) (c : B) → slice_get (map f xs) j ≡ Some c → (x : A) × (slice_get xs j ≡ Some x) × (c ≡ f x)
mapped_at f [] j c e = absurd (cc e)
mapped_at f (x ∷ xs) zero c e = let same : f x ≡ c = cc e in (x, refl, sym same)
mapped_at f (x ∷ xs) (suc j) c e = mapped_at f xs j c e

at_mapped : {A B : Type 0} (f : A → B) (xs : List A) (j : ℕ) (x : A) → slice_get xs j ≡ Some x → slice_get (map f xs) j ≡ Some (f x)
at_mapped f [] j x e = absurd (cc e)
at_mapped f (y ∷ ys) zero x e = let same : y ≡ x = cc e in ap (λ z. Some (f z)) same
at_mapped f (y ∷ ys) (suc j) x e = at_mapped f ys j x e

-- the serials of names that were made of serials
serials_back : (h : List (Commit Edit)) (serials : List ℕ) → action_serials (map action_name (map (λ (a : ℕ). record { serial = a; slot = slot_of hook_codec h a }) serials)) ≡ serials
serials_back h [] = refl
serials_back h (a ∷ rest) = ap (λ (l : List ℕ). a ∷ l) (serials_back h rest)

-- ---- the answer
-- a filter as it is stored
abbrev stored : List (Commit Edit) → Filter → StoredFilter
stored h f = with_slots h (filter_stated f)

searched : (h : List (Commit Edit)) (fs : List Filter) (key : List ℕ) (found : Bool) (actions : List ActionName) → IsAnswer (map (with_slots h) (map filter_stated fs)) key found actions
    → IsSearched fs key found (action_serials actions)
searched h fs key true actions is = let one = mapped_at (with_slots h) (map filter_stated fs) is.1.0 is.0 is.1.1 in let two = mapped_at filter_stated fs is.1.0 one.0 one.1 in
    let whole : is.0 ≡ stored h two.0 = one.2 ∙ ap (with_slots h) two.2 in (
      two.0,
      (is.1.0, two.1),
      sym (ap (λ (f : StoredFilter). f.key.words) whole) ∙ is.2,
      ap action_serials (is.3 ∙ ap (λ (f : StoredFilter). f.actions) whole) ∙ serials_back h two.0.actions,
    )
searched h fs key false actions none = λ f place at e. none (stored h f) (place, at_mapped (with_slots h) (map filter_stated fs) place (filter_stated f) (at_mapped filter_stated fs place f at)) e

told_same : (found : Bool) (actions : List ActionName) → searched_told found (action_serials actions) ≡ filter_told found actions
told_same true actions = refl
told_same false actions = refl

-- a mask with words has a row
any_row : (mask : ℕ) (rows : List Row) → length (words_in (first_where (of_mask mask) rows)) ≡ 14 → list_any (of_mask mask) rows ≡ true
any_row mask [] long = absurd (cc long)
any_row mask (row ∷ rows) long = pick (of_mask mask row) refl (any_row mask rows) long
  where
    pick : (t : Bool) → of_mask mask row ≡ t → (length (words_in (first_where (of_mask mask) rows)) ≡ 14 → list_any (of_mask mask) rows ≡ true) → length (words_in (cond t (Some row) (first_where (of_mask mask) rows))) ≡ 14
        → (t || list_any (of_mask mask) rows) ≡ true
    pick true is rest e = refl
    pick false is rest e = rest e

look_answers : (h : List (Commit Edit)) (b point : ℕ) (mask table : ℕ) (key : List ℕ) (found : Bool) (actions : List ActionName) → Keeps hook_meaning hook_codec h b → b ≤ length h → length (words_after h point mask) ≡ 14 → length key ≡ 14
    → IsAnswer (filters_after h point mask) (each_and key (words_after h point mask)) found actions
    → answer_of (state_after_edits h point) (questions.filter_of table mask (values_of key)) ≡ Some (filter_told found actions)
look_answers h b point mask table key found actions keeps low words long is = let s = state_after_edits h point in
    search_answers s mask table key found (action_serials actions) (sound_after h b point keeps low) (any_row mask s.rows words) long
    (searched h (filters_of s mask) (each_and key (words_of s mask)) found actions is) ∙ ap Some (told_same found actions)

-- ---- actions
-- an action that a filter names is live
found_live : (serial : ℕ) (actions : List Action) → list_any (has_serial serial) actions ≡ true → option_map action_stated (first_where (has_serial serial) actions) ≢ None
found_live serial [] e none = absurd (cc e)
found_live serial (x ∷ xs) e none = pick (has_serial serial x) refl (found_live serial xs)
  where
    pick : (t : Bool) → has_serial serial x ≡ t → (list_any (has_serial serial) xs ≡ true → option_map action_stated (first_where (has_serial serial) xs) ≢ None) → ⊥
    pick true is rest = let there : Some (action_stated x) ≡ None = sym (ap (λ (b : Bool). option_map action_stated (cond b (Some x) (first_where (has_serial serial) xs))) is) ∙ none in absurd (cc there)
    pick false is rest = rest (sym (ap (λ (b : Bool). b || list_any (has_serial serial) xs) is) ∙ e) (sym (ap (λ (b : Bool). option_map action_stated (cond b (Some x) (first_where (has_serial serial) xs))) is) ∙ none)

-- each action of each filter of the mask is
abbrev AllLive : State → List StatedFilter → Type 0
AllLive s fs = Each (λ (f : StatedFilter). Each (λ (action : ℕ). law.IsLive hook_meaning s action) f.actions) fs

live_each : (s : State) (actions : List ℕ) → Each (λ serial. IsTrue (list_any (has_serial serial) s.actions)) actions → Each (λ (action : ℕ). law.IsLive hook_meaning s action) actions
live_each s [] all = tt
live_each s (a ∷ more) all = (λ none. found_live a s.actions all.0 none, live_each s more all.1)

live_rows : (s : State) (mask : ℕ) (rows : List Row) → Each (IsRow s) rows → AllLive s (map filter_stated (map filter_of (filter (of_mask mask) rows)))
live_rows s mask [] all = tt
live_rows s mask (row ∷ rows) all = pick (of_mask mask row) (live_rows s mask rows all.1)
  where
    pick : (t : Bool) → AllLive s (map filter_stated (map filter_of (filter (of_mask mask) rows))) → AllLive s (map filter_stated (map filter_of (cond t (row ∷ filter (of_mask mask) rows) (filter (of_mask mask) rows))))
    pick true rest = (live_each s row.actions all.0.live, rest)
    pick false rest = rest

all_live : (s : State) (mask : ℕ) → Sound s → AllLive s (filters_at s mask)
all_live s mask sound = live_rows s mask s.rows sound.rows

each_at : {X : Type 0} (P : X → Type 0) (xs : List X) (n : ℕ) (x : X) → Each P xs → slice_get xs n ≡ Some x → P x
each_at P [] n x all e = absurd (cc e)
each_at P (y ∷ ys) zero x all e = let same : y ≡ x = cc e in subst P same all.0
each_at P (y ∷ ys) (suc n) x all e = each_at P ys n x all.1 e

module _ (h : List (Commit Edit)) (b : ℕ) (low : b ≤ length h) (keeps : Keeps hook_meaning hook_codec h b) (at : ℕ) (late : b ≤ at) (made : at ≤ length h) where
  -- the state of that time
  pub state_there : state_after_edits h (edits_by h at) ≡ law.now_of hook_meaning (take at h)
  state_there = let k = edits_by h at in sym (state_is (edits_of h) k)
      ∙ (ap (λ (l : List Edit). law.state_at hook_meaning l k) (edits_parts at h) ∙ state_stable hook_meaning (edits_of (take at h)) (edits_of (drop at h)) k (le_refl k))

  slot_there : (a : ℕ) → law.IsLive hook_meaning (law.now_of hook_meaning (take at h)) a → IsSlotOf hook_codec (take at h) a (slot_of hook_codec h a)
  slot_there a live = let p = (keeps.present at late made).placed a live in
      let longer = subst (λ (l : List (Commit Edit)). IsSlotOf hook_codec l a p.0) (take-append-drop at h) (slot_longer hook_codec (take at h) (drop at h) a p.0 p.1) in
      subst (IsSlotOf hook_codec (take at h) a) (slot_is hook_meaning hook_codec h b a p.0 low keeps longer) p.1

  -- the names of actions that are live then
  names_there : (Q : ActionName → Type 0) → ((x : ActionName) → IsSlotOf hook_codec (take at h) x.serial x.slot → law.IsLive hook_meaning (law.now_of hook_meaning (take at h)) x.serial → Q x) → (serials : List ℕ)
      → Each (λ (a : ℕ). law.IsLive hook_meaning (law.now_of hook_meaning (take at h)) a) serials → Each Q (map action_name (map (λ (a : ℕ). record { serial = a; slot = slot_of hook_codec h a }) serials))
  names_there Q make [] all = tt
  names_there Q make (a ∷ rest) all = (make (record { serial = a; slot = slot_of hook_codec h a }) (slot_there a all.0) all.0, names_there Q make rest all.1)

  -- so are those that a look-up finds there
  found_there : (Q : ActionName → Type 0) → ((x : ActionName) → IsSlotOf hook_codec (take at h) x.serial x.slot → law.IsLive hook_meaning (law.now_of hook_meaning (take at h)) x.serial → Q x) → (mask : ℕ) (key : List ℕ) (actions : List ActionName)
      → IsAnswer (filters_after h (edits_by h at) mask) key true actions → Each Q actions
  found_there Q make mask key actions is = let s = state_after_edits h (edits_by h at) in let fs = filters_of s mask in
      let one = mapped_at (with_slots h) (map filter_stated fs) is.1.0 is.0 is.1.1 in let two = mapped_at filter_stated fs is.1.0 one.0 one.1 in
      let whole : is.0 ≡ stored h two.0 = one.2 ∙ ap (with_slots h) two.2 in
      let all = each_at (λ (f : StatedFilter). Each (λ (action : ℕ). law.IsLive hook_meaning s action) f.actions) (map filter_stated fs) is.1.0 one.0 (all_live s mask (sound_after h b (edits_by h at) keeps low)) one.1 in
      let live = subst (λ (f : StatedFilter). Each (λ (action : ℕ). law.IsLive hook_meaning s action) f.actions) two.2 all in
      let there = subst (λ (z : State). Each (λ (action : ℕ). law.IsLive hook_meaning z action) two.0.actions) state_there live in
      subst (Each Q) (sym (is.3 ∙ ap (λ (f : StoredFilter). f.actions) whole)) (names_there Q make two.0.actions there)

-- ---- a look-up of a mask that is known
module _ (h : List (Commit Edit)) (b floor slot serial : ℕ) (known : MaskStood h b floor slot serial) (key : List ℕ) (found : Bool) (actions : List ActionName) (point loads : ℕ)
    (l : LookedUp stands_at (λ k. words_after h k serial) (λ k. filters_after h k serial) h known.at slot serial key found actions point loads) where
  late_new : b ≤ l.at
  late_new = let a = known.late in let d = l.late in omega (arith, a, d)

  low_new : b ≤ length h
  low_new = let a = known.late in let m = known.made in omega (arith, a, m)

  up_to : max point floor ≤ edits_by h l.at
  up_to = let r = l.reached in let f = known.reached in let e = edits_rise h known.at l.at l.late in omega (arith, r, f, e)

  pub mask_known : MaskStood h b (max point floor) slot serial
  mask_known = record { at = l.at; late = late_new; made = l.made; there = l.there; reached = up_to }

  pub look_answered : (table : ℕ) → Keeps hook_meaning hook_codec h b → length key ≡ 14 → answer_of (state_after_edits h (max point floor)) (questions.filter_of table serial (values_of key)) ≡ Some (filter_told found actions)
  look_answered table keeps long = let low : point ≤ max point floor = omega arith in
      look_answers h b (max point floor) serial table key found actions keeps low_new (l.wide (max point floor) low up_to) long (l.answer (max point floor) low up_to)

  pub actions_known : Keeps hook_meaning hook_codec h b → found ≡ true → Each (λ (action : ActionName). ActionLived h b (max point floor) action.slot action.serial) actions
  actions_known keeps hit = found_there h b low_new keeps l.at late_new l.made (λ (action : ActionName). ActionLived h b (max point floor) action.slot action.serial)
      (λ x slot live. record { at = l.at; late = late_new; made = l.made; there = slot; live = live; reached = up_to }) serial (each_and key (words_after h (edits_by h l.at) serial)) actions
      (subst (λ (t : Bool). IsAnswer (filters_after h (edits_by h l.at) serial) (each_and key (words_after h (edits_by h l.at) serial)) t actions) hit (l.answer (edits_by h l.at) l.reached (le_refl (edits_by h l.at))))
