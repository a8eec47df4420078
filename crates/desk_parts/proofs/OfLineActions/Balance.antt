-- As many actions go as are told to go.
use Rattle.std.proofs.Common.{◌≡◌, ◌⊎◌, inl, inr, ℕ, zero, suc, ◌+◌, ◌-◌, ◌<◌, ◌≤◌, ◌&&◌, Bool, true, false, cond, eqb, List, [], ◌∷◌, ◌++◌, length, map, slice_get, Option, Some, None, Ok, refl, sym, ◌∙◌, ap, arith, eqb-true, length-append}
use Rattle.std.specs.List.{IsDistinct, range_with_len}
use Rattle.std.specs.Option.{option_map}
use Rattle.std.proofs.lemmas.Bool.{eqb-false}
use Rattle.std.proofs.lemmas.List.{length-map}
use Rattle.store_history.specs.declared.history.Commit.{Commit}
use Rattle.tc_base.specs.declared.hook.Hook.{Hook}
use Rattle.tc_base.specs.declared.hook.Proto.{Proto}
use Rattle.filter_state.specs.declared.edit.Edit.{Edit}
use Rattle.filter_state.specs.declared.edit.Edit.TheVariants as edits
use Rattle.filter_state.specs.declared.refusal.Done.{Done}
use Rattle.filter_state.specs.States.{Action, State, Row}
use Rattle.filter_state.specs.Actions.{has_serial}
use Rattle.filter_state.specs.Tables.{first_where}
use Rattle.filter_state.specs.declared.refusal.Done.TheVariants as dones
use Rattle.filter_state.specs.declared.refusal.Refusal.{Refusal}
use Rattle.filter_state.specs.Tables.{in_table, has_handle}
use Rattle.filter_state.specs.Refusals.{or_else, no_hook, protocol_clash_if, no_such_table, no_such_filter}
use Rattle.filter_state.specs.Steps.{taken_out, filter_del, step}
use Rattle.hook_store_law.proofs.OfEffects.Accepted.{not_unless, same_step}
use Rattle.desk_parts.proofs.OfLineActions.Living.{new_live, made_rises}
use Rattle.filter_state.specs.Sound.{Sound, Each, EachPair, StandApart, IsAction}
use Rattle.hook_law.specs.Meaning.{IsLive}
use Rattle.hook_law.specs.Standing.{IsIn}
use Rattle.hook_store_law.specs.Stated.{action_stated, hook_meaning}
use Rattle.hook_store_law.specs.OfEdits.Premises.{now, next, IsAccepted, IsOfFilters, NewOnesCome}
use Rattle.hook_store_law.proofs.OfEdits.Accepted.{sound, next_sound}
use Rattle.hook_store_law.proofs.OfEdits.OfFilters.{new_ones_come}
use Rattle.root_pool_laws.proofs.Apart.{in_append, in_left, in_right, distinct_append}
use Rattle.desk_pools.proofs.RootsOf.{range_in}
use Rattle.desk_parts.proofs.OfLineActions.Short.{not_longer}

-- ---- the serials of actions
abbrev serials : List Action → List ℕ
serials xs = map (λ (x : Action). x.serial) xs

later_serials : (x : Action) (xs : List Action) → Each (StandApart x) xs → (n : ℕ) → IsIn n (serials xs) → x.serial < n
later_serials x [] all n at = let e = at.1 in absurd (cc e)
later_serials x (y ∷ ys) all n at = go at.0 at.1 (later_serials x ys all.1 n)
  where
    go : (place : ℕ) → slice_get (y.serial ∷ serials ys) place ≡ Some n → (IsIn n (serials ys) → x.serial < n) → x.serial < n
    go zero e rest = let same : y.serial ≡ n = cc e in let up = all.0.rising in omega (arith, same, up)
    go (suc place) e rest = rest (place, e)

one_in : (x y : ℕ) → IsIn {A = ℕ} x (y ∷ []) → x ≡ y
one_in x y at = go at.0 at.1
  where
    go : (place : ℕ) → slice_get {X = ℕ} (y ∷ []) place ≡ Some x → x ≡ y
    go zero e = let same : y ≡ x = cc e in sym same
    go (suc place) e = absurd (cc e)

serials_differ : (xs : List Action) → EachPair StandApart xs → IsDistinct eqb (serials xs)
unfolding IsDistinct
serials_differ [] all = tt
serials_differ (x ∷ xs) all = distinct_append (x.serial ∷ []) (serials xs) (tt, tt) (serials_differ xs all.1)
    (λ n own later. let same = one_in n x.serial own in let up = later_serials x xs all.0 n later in omega (arith, same, up))

-- those that are live, and no others
live_in : (s : State) (xs : List Action) (a : ℕ) → (option_map action_stated (first_where (has_serial a) xs) ≡ None → ⊥) → IsIn a (serials xs)
live_in s [] a live = absurd (live refl)
live_in s (x ∷ xs) a live = pick (has_serial a x) refl (live_in s xs a)
  where
    pick : (t : Bool) → has_serial a x ≡ t → ((option_map action_stated (first_where (has_serial a) xs) ≡ None → ⊥) → IsIn a (serials xs)) → IsIn a (serials (x ∷ xs))
    pick true e rest = (0, ap Some (eqb-true x.serial a e))
    pick false e rest = let r = rest (λ none. live (ap (λ (b : Bool). option_map action_stated (cond b (Some x) (first_where (has_serial a) xs))) e ∙ none)) in (suc r.0, r.1)

in_live : (xs : List Action) (a : ℕ) → IsIn a (serials xs) → option_map action_stated (first_where (has_serial a) xs) ≡ None → ⊥
in_live [] a at none = let e = at.1 in cc e
in_live (x ∷ xs) a at none = pick (has_serial a x) refl (in_live xs a)
  where
    later : has_serial a x ≡ false → (place : ℕ) → slice_get (x.serial ∷ serials xs) place ≡ Some a → IsIn a (serials xs)
    later e zero same = let is : x.serial ≡ a = cc same in absurd (eqb-false x.serial a e is)
    later e (suc place) same = (place, same)

    pick : (t : Bool) → has_serial a x ≡ t → (IsIn a (serials xs) → option_map action_stated (first_where (has_serial a) xs) ≡ None → ⊥) → ⊥
    pick true e rest = let some : Some (action_stated x) ≡ None = sym (ap (λ (b : Bool). option_map action_stated (cond b (Some x) (first_where (has_serial a) xs))) e) ∙ none in cc some
    pick false e rest = rest (later e at.0 at.1) (sym (ap (λ (b : Bool). option_map action_stated (cond b (Some x) (first_where (has_serial a) xs))) e) ∙ none)

given_low : (s : State) (xs : List Action) → Each (IsAction s) xs → (a : ℕ) → IsIn a (serials xs) → a ≤ s.actions_made
given_low s [] all a at = let e = at.1 in absurd (cc e)
given_low s (x ∷ xs) all a at = go at.0 at.1 (given_low s xs all.1 a)
  where
    go : (place : ℕ) → slice_get (x.serial ∷ serials xs) place ≡ Some a → (IsIn a (serials xs) → a ≤ s.actions_made) → a ≤ s.actions_made
    go zero e rest = let same : x.serial ≡ a = cc e in let range = all.0.serial.1 in omega (arith, same, range)
    go (suc place) e rest = rest (place, e)

range_at : (n first j : ℕ) → j < n → slice_get (range_with_len first n) j ≡ Some (first + j)
range_at zero first j less = absurd (omega (arith, less))
range_at (suc n) first zero less = ap Some (omega arith)
range_at (suc n) first (suc j) less = range_at n (first + 1) j (omega (arith, less)) ∙ ap Some (omega arith)

range_differs : (n first : ℕ) → IsDistinct eqb (range_with_len first n)
unfolding IsDistinct
range_differs zero first = tt
range_differs (suc n) first = distinct_append (first ∷ []) (range_with_len (first + 1) n) (tt, tt) (range_differs n (first + 1))
    (λ x own later. let same = one_in x first own in let up = (range_in (first + 1) n later.0 x later.1).0 in omega (arith, same, up))

range_long : (n first : ℕ) → length (range_with_len first n) ≡ n
range_long zero first = refl
range_long (suc n) first = let rest = range_long n (first + 1) in omega (arith, rest)

module _ (h : List (Commit Edit)) (b : ℕ) (y : Edit) (done : Done) (gone : List ℕ) (a : IsAccepted h b y (next h y) done) (is : IsOfFilters y) (rises : (now h).actions_made ≤ (next h y).actions_made)
    (all_new : (n : ℕ) → (now h).actions_made < n → n ≤ (next h y).actions_made → IsLive hook_meaning (next h y) n) (once : IsDistinct eqb gone)
    (dead : (n : ℕ) → IsIn n gone → IsLive hook_meaning (now h) n × (IsLive hook_meaning (next h y) n → ⊥))
    (all : (n : ℕ) → IsLive hook_meaning (now h) n → (IsLive hook_meaning (next h y) n → ⊥) → IsIn n gone) where
  abbrev before : List ℕ
  before = serials (now h).actions

  abbrev after : List ℕ
  after = serials (next h y).actions

  abbrev given : List ℕ
  given = range_with_len ((now h).actions_made + 1) ((next h y).actions_made - (now h).actions_made)

  comes : NewOnesCome (now h) (next h y)
  comes = new_ones_come h b y (next h y) done a is

  before_differ : IsDistinct eqb (before ++ given)
  before_differ = distinct_append before given (serials_differ (now h).actions (sound h b y (next h y) done a).apart) (range_differs ((next h y).actions_made - (now h).actions_made) ((now h).actions_made + 1))
      (λ n own later. let low = given_low (now h) (now h).actions (sound h b y (next h y) done a).actions n own in
      let up = (range_in ((now h).actions_made + 1) ((next h y).actions_made - (now h).actions_made) later.0 n later.1).0 in omega (arith, low, up))

  after_differ : IsDistinct eqb (after ++ gone)
  after_differ = distinct_append after gone (serials_differ (next h y).actions (next_sound h b y (next h y) done a).apart) once (λ n own other. (dead n other).1 (in_live (next h y).actions n own))

  -- an action is live, or isn't
  live_or : (n : ℕ) (found : Option Action) → first_where (has_serial n) (next h y).actions ≡ found → IsLive hook_meaning (next h y) n ⊎ (IsLive hook_meaning (next h y) n → ⊥)
  live_or n None e = inr (λ live. live (ap (option_map action_stated) e))
  live_or n (Some x) e = inl (λ none. let some : option_map action_stated (first_where (has_serial n) (next h y).actions) ≡ Some (action_stated x) = ap (option_map action_stated) e in cc (some, none))

  there : (n : ℕ) → IsIn n (before ++ given) → IsIn n (after ++ gone)
  there n at = sort (in_append before given n at)
    where
      old : IsLive hook_meaning (now h) n → IsLive hook_meaning (next h y) n ⊎ (IsLive hook_meaning (next h y) n → ⊥) → IsIn n (after ++ gone)
      old live (inl still) = in_left after gone n (live_in (next h y) (next h y).actions n still)
      old live (inr went) = in_right after gone n (all n live went)

      sort : IsIn n before ⊎ IsIn n given → IsIn n (after ++ gone)
      sort (inl own) = old (in_live (now h).actions n own) (live_or n (first_where (has_serial n) (next h y).actions) refl)
      sort (inr new) = let r = range_in ((now h).actions_made + 1) ((next h y).actions_made - (now h).actions_made) new.0 n new.1 in let low = r.0 in let high = r.1 in
          in_left after gone n (live_in (next h y) (next h y).actions n (all_new n (omega (arith, low)) (omega (arith, high, rises))))

  back : (n : ℕ) → IsIn n (after ++ gone) → IsIn n (before ++ given)
  back n at = sort (in_append after gone n at)
    where
      came : IsLive hook_meaning (now h) n ⊎ (((now h).actions_made < n) × (n ≤ (next h y).actions_made)) → IsIn n (before ++ given)
      came (inl live) = in_left before given n (live_in (now h) (now h).actions n live)
      came (inr new) = let low = new.0 in let high = new.1 in let first : ℕ = (now h).actions_made + 1 in let place : ℕ = n - first in let back_to : first + place ≡ n = omega (arith, low) in
          in_right before given n (place, range_at ((next h y).actions_made - (now h).actions_made) first place (omega (arith, low, high)) ∙ ap Some back_to)

      sort : IsIn n after ⊎ IsIn n gone → IsIn n (before ++ given)
      sort (inl own) = came (comes n (in_live (next h y).actions n own))
      sort (inr went) = in_left before given n (live_in (now h) (now h).actions n (dead n went).0)

  pub balance : length (now h).actions + (next h y).actions_made ≡ length (next h y).actions + length gone + (now h).actions_made
  balance = let one = not_longer (before ++ given) (after ++ gone) before_differ there in let two = not_longer (after ++ gone) (before ++ given) after_differ back in
      let l1 = length-append before given in let l2 = length-append after gone in let m1 = length-map (now h).actions (λ (x : Action). x.serial) in let m2 = length-map (next h y).actions (λ (x : Action). x.serial) in
      let r = range_long ((next h y).actions_made - (now h).actions_made) ((now h).actions_made + 1) in omega (arith, one, two, l1, l2, m1, m2, r, rises)

-- ---- what an edit of filters gives
delete_made : (s t : State) (hook : Hook) (protocol : Option Proto) (chain pref : ℕ) (handle : Option ℕ) (done : Done) → filter_del s hook protocol chain pref handle ≡ Ok (t, done) → t.actions_made ≡ s.actions_made
delete_made s t hook protocol chain pref (Some handle) done e =
    let gone : Row → Bool = λ row. in_table hook chain pref row && has_handle handle row in
    let refused : Option Refusal = or_else (no_hook s) (or_else (protocol_clash_if s hook chain pref protocol) (or_else (no_such_table s hook chain pref) (no_such_filter s hook chain pref handle))) in
    let next_ = not_unless refused (Ok (taken_out s gone, dones.FilterGone)) (t, done) e in ap (λ (u : State). u.actions_made) (sym (same_step (taken_out s gone) t dones.FilterGone done next_.1).0)
delete_made s t hook protocol chain pref None done e =
    let gone : Row → Bool = in_table hook chain pref in
    let refused : Option Refusal = or_else (no_hook s) (or_else (protocol_clash_if s hook chain pref protocol) (no_such_table s hook chain pref)) in
    let next_ = not_unless refused (Ok (taken_out s gone, dones.TableGone)) (t, done) e in ap (λ (u : State). u.actions_made) (sym (same_step (taken_out s gone) t dones.TableGone done next_.1).0)

pub edit_rises : (s t : State) (y : Edit) (done : Done) → IsOfFilters y → step s y ≡ Ok (t, done) → s.actions_made ≤ t.actions_made
edit_rises s t (edits.FilterAdd line) done is e = made_rises s t (edits.FilterAdd line) done tt e
edit_rises s t (edits.FilterReplace line) done is e = made_rises s t (edits.FilterReplace line) done tt e
edit_rises s t (edits.FilterDel hook protocol chain pref handle) done is e = let same = delete_made s t hook protocol chain pref handle done e in omega (arith, same)
edit_rises s t edits.HookAdd done is e = absurd is
edit_rises s t edits.HookDel done is e = absurd is
edit_rises s t (edits.ActionAdd line) done is e = absurd is
edit_rises s t (edits.ActionChange line) done is e = absurd is
edit_rises s t (edits.ActionDel kind index) done is e = absurd is

pub edit_gives : (s t : State) (y : Edit) (done : Done) → Sound s → IsOfFilters y → step s y ≡ Ok (t, done) → (n : ℕ) → s.actions_made < n → n ≤ t.actions_made → IsLive hook_meaning t n
edit_gives s t (edits.FilterAdd line) done sound_ is e n low high = new_live s t (edits.FilterAdd line) done sound_ tt e n low high
edit_gives s t (edits.FilterReplace line) done sound_ is e n low high = new_live s t (edits.FilterReplace line) done sound_ tt e n low high
edit_gives s t (edits.FilterDel hook protocol chain pref handle) done sound_ is e n low high = let same = delete_made s t hook protocol chain pref handle done e in absurd (omega (arith, same, low, high))
edit_gives s t edits.HookAdd done sound_ is e n low high = absurd is
edit_gives s t edits.HookDel done sound_ is e n low high = absurd is
edit_gives s t (edits.ActionAdd line) done sound_ is e n low high = absurd is
edit_gives s t (edits.ActionChange line) done sound_ is e n low high = absurd is
edit_gives s t (edits.ActionDel kind index) done sound_ is e n low high = absurd is

pub actions_balance : (h : List (Commit Edit)) (b : ℕ) (y : Edit) (done : Done) (gone : List ℕ) → IsAccepted h b y (next h y) done → IsOfFilters y → IsDistinct eqb gone
    → ((n : ℕ) → IsIn n gone → IsLive hook_meaning (now h) n × (IsLive hook_meaning (next h y) n → ⊥))
    → ((n : ℕ) → IsLive hook_meaning (now h) n → (IsLive hook_meaning (next h y) n → ⊥) → IsIn n gone)
    → length (now h).actions + (next h y).actions_made ≡ length (next h y).actions + length gone + (now h).actions_made
actions_balance h b y done gone a is once dead all = balance h b y done gone a is (edit_rises (now h) (next h y) y done is a.steps)
    (edit_gives (now h) (next h y) y done (sound h b y (next h y) done a) is a.steps) once dead all
