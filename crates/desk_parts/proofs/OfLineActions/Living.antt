-- Each action that a filter's line makes is live afterwards.
use Rattle.std.proofs.Common.{◌≡◌, ◌⊎◌, inl, inr, ℕ, ◌+◌, ◌<◌, ◌≤◌, ◌&&◌, Bool, true, false, not, cond, ◌==◌, if◌then◌else◌, List, [], ◌∷◌, ◌++◌, map, Option, Some, None, Ok, refl, sym, ◌∙◌, ap, subst, arith, eq-eqb, eqb-true}
use Rattle.std.specs.Prelude.{filter}
use Rattle.std.specs.List.{list_any}
use Rattle.std.specs.Option.{option_map, unwrap_or}
use Rattle.std.proofs.lemmas.Bool.{ne_eqb}
use mathlib.Core.Logic.{dite}
use native.Mathlib.Decide.{dec_le}
use Rattle.act_kinds.specs.declared.params.Params.{Params}
use Rattle.filter_state.specs.declared.action_line.ActionLine.{ActionLine}
use Rattle.filter_state.specs.declared.edit.Edit.{Edit}
use Rattle.filter_state.specs.declared.edit.Edit.TheVariants as edits
use Rattle.filter_state.specs.declared.edit.FilterLine.{FilterLine}
use Rattle.filter_state.specs.declared.refusal.Done.{Done}
use Rattle.filter_state.specs.declared.refusal.Refusal.TheVariants as refusals
use Rattle.filter_state.specs.States.{Row, Action, State}
use Rattle.filter_state.specs.Actions.{is_named, has_serial, serial_of, change_where, more_bound, less_bound, is_referred, all_unbound, unbound, index_or_free, Made, made_more, Resolved, bound_more, made_bound, bound_or_made, resolved_by, resolved}
use Rattle.filter_state.specs.Tables.{first_where, in_table, has_handle}
use Rattle.filter_state.specs.Steps.{made_of, resolved_for, with_actions, with_replaced, filter_add, replace_or_add, filter_replace, step}
use Rattle.filter_state.specs.Sound.{Sound, Each, IsRow, IsAction}
use Rattle.filter_state.proofs.Pairs.{each_weaker, found, any_first}
use Rattle.state_laws.proofs.Answers.{same_ok, err_ok, and_then_ok}
use Rattle.hook_store_law.proofs.OfEffects.Adding.{adds}
use Rattle.hook_store_law.proofs.OfEffects.Replacing.{exchanged_actions, is_there, replaces}
use Rattle.hook_law.specs.Meaning.{IsLive}
use Rattle.hook_store_law.specs.Stated.{action_stated, hook_meaning}
use Rattle.desk_parts.specs.OfLineActions.Put.{IsOfLine}

-- ---- somebody holds the action with that serial
abbrev pub IsHeldIn : ℕ → List Action → Type 0
IsHeldIn a [] = ⊥
IsHeldIn a (x ∷ xs) = ((x.serial ≡ a) × (1 ≤ x.references)) ⊎ IsHeldIn a xs

pub held_left : (a : ℕ) (xs ys : List Action) → IsHeldIn a xs → IsHeldIn a (xs ++ ys)
held_left a [] ys h = absurd h
held_left a (x ∷ xs) ys (inl h) = inl h
held_left a (x ∷ xs) ys (inr h) = inr (held_left a xs ys h)

held_right : (a : ℕ) (xs ys : List Action) → IsHeldIn a ys → IsHeldIn a (xs ++ ys)
held_right a [] ys h = h
held_right a (x ∷ xs) ys h = inr (held_right a xs ys h)

pub held_map : (a : ℕ) (f : Action → Action) → ((x : Action) → x.serial ≡ a → 1 ≤ x.references → ((f x).serial ≡ a) × (1 ≤ (f x).references)) → (xs : List Action)
    → IsHeldIn a xs → IsHeldIn a (map f xs)
held_map a f keeps [] h = absurd h
held_map a f keeps (x ∷ xs) (inl h) = inl (keeps x h.0 h.1)
held_map a f keeps (x ∷ xs) (inr h) = inr (held_map a f keeps xs h)

referred : (n : ℕ) → 1 ≤ n → not (n == 0) ≡ true
referred n some = ap not (ne_eqb n 0 (λ e. absurd (omega (arith, e, some))))

either_held : (a : ℕ) (b : Bool) (x : Action) (xs : List Action) → IsHeldIn a xs → IsHeldIn a (cond b (x ∷ xs) xs)
either_held a true x xs h = inr h
either_held a false x xs h = h

held_referred : (a : ℕ) (xs : List Action) → IsHeldIn a xs → IsHeldIn a (filter is_referred xs)
held_referred a [] h = absurd h
held_referred a (x ∷ xs) (inl h) = subst (λ (b : Bool). IsHeldIn a (cond b (x ∷ filter is_referred xs) (filter is_referred xs))) (sym (referred x.references h.1)) (inl h)
held_referred a (x ∷ xs) (inr h) = either_held a (is_referred x) x (filter is_referred xs) (held_referred a xs h)

-- another action is let go
held_unbound : (a n : ℕ) (xs : List Action) → (n ≡ a → ⊥) → IsHeldIn a xs → IsHeldIn a (unbound n xs)
held_unbound a n xs other h = held_referred a (change_where (has_serial n) less_bound xs) (held_map a (λ x. if has_serial n x then less_bound x else x) keeps xs h)
  where
    keeps : (x : Action) → x.serial ≡ a → 1 ≤ x.references → ((if has_serial n x then less_bound x else x).serial ≡ a) × (1 ≤ (if has_serial n x then less_bound x else x).references)
    keeps x is some = subst (λ (b : Bool). ((if b then less_bound x else x).serial ≡ a) × (1 ≤ (if b then less_bound x else x).references))
        (sym (ne_eqb x.serial n (λ e. other (sym e ∙ is)))) (is, some)

pub held_all : (a : ℕ) (ns : List ℕ) (xs : List Action) → Each (λ n. n ≡ a → ⊥) ns → IsHeldIn a xs → IsHeldIn a (all_unbound ns xs)
held_all a [] xs others h = h
held_all a (n ∷ ns) xs others h = held_all a ns (unbound n xs) others.1 (held_unbound a n xs others.0 h)

-- one that is held is found
either_found : (b : Bool) (x : Action) (rest : Option Action) → (y : Action) × (rest ≡ Some y) → (y : Action) × (cond b (Some x) rest ≡ Some y)
either_found true x rest f = (x, refl)
either_found false x rest f = f

pub held_found : (a : ℕ) (xs : List Action) → IsHeldIn a xs → (x : Action) × (first_where (has_serial a) xs ≡ Some x)
held_found a [] h = absurd h
held_found a (x ∷ xs) (inl h) = (x, ap (λ (b : Bool). cond b (Some x) (first_where (has_serial a) xs)) (eq-eqb x.serial a h.0))
held_found a (x ∷ xs) (inr h) = either_found (has_serial a x) x (first_where (has_serial a) xs) (held_found a xs h)

-- ---- the serials that were given since so many are held
abbrev HasNew : ℕ → Made → Type 0
HasNew made m = (a : ℕ) → made < a → a ≤ m.made → IsHeldIn a m.actions

pub more_references : (test : Action → Bool) (a : ℕ) (x : Action) → x.serial ≡ a → 1 ≤ x.references → ((if test x then more_bound x else x).serial ≡ a) × (1 ≤ (if test x then more_bound x else x).references)
more_references test a x is some = pick (test x)
  where
    pick : (b : Bool) → ((if b then more_bound x else x).serial ≡ a) × (1 ≤ (if b then more_bound x else x).references)
    pick true = (is, omega (arith, some))
    pick false = (is, some)

new_made : (made : ℕ) (m : Made) (params : Params) (index binds : ℕ) → HasNew made m → HasNew made (made_more m params index binds)
new_made made m params index binds new a above most = dite (dec_le a m.made)
    (λ (low : a ≤ m.made). held_left a m.actions (last ∷ []) (new a above low))
    (λ (high : a ≤ m.made → ⊥). let is : m.made + 1 ≡ a = omega (arith, most, high) in held_right a m.actions (last ∷ []) (inl (is, omega arith)))
  where
    last : Action
    last = record { serial = m.made + 1; index = index; params = params; references = 1; binds = binds }

one_new : (made : ℕ) (r last : Resolved) (line : ActionLine) (index : ℕ) (serial : Option ℕ) (given : Option Params) → HasNew made r.so_far → bound_or_made r line index serial given ≡ Ok last
    → HasNew made last.so_far
one_new made r last line index (Some serial) given new e =
    subst (λ (z : Resolved). HasNew made z.so_far) (same_ok (bound_more r line.kind index serial) last e)
    (λ a above most. held_map a (λ x. if is_named line.kind index x then more_bound x else x) (more_references (is_named line.kind index) a) r.so_far.actions (new a above most))
one_new made r last line index None (Some params) new e = subst (λ (z : Resolved). HasNew made z.so_far) (same_ok (made_bound r params index) last e) (new_made made r.so_far params index 1 new)
one_new made r last line index None None new e = absurd (err_ok (refusals.NoSuchAction line.kind index) last e)

all_new : (made : ℕ) (r last : Resolved) (lines : List ActionLine) → HasNew made r.so_far → resolved r lines ≡ Ok last → HasNew made last.so_far
all_new made r last [] new e = subst (λ (z : Resolved). HasNew made z.so_far) (same_ok r last e) new
all_new made r last (line ∷ lines) new e =
    let first = and_then_ok (λ next. resolved next lines) (resolved_by r line) last e in
    let index : ℕ = index_or_free line.index line.kind r.so_far.actions in
    all_new made first.0 last lines (one_new made r first.0 line index (serial_of line.kind index r.so_far.actions) line.params new first.1) first.2

-- ---- an edit of a filter's line
abbrev AreNewIn : State → State → Type 0
AreNewIn s t = (a : ℕ) → s.actions_made < a → a ≤ t.actions_made → IsHeldIn a t.actions

line_new : (s : State) (line : FilterLine) (r : Resolved) → resolved_for s line.actions ≡ Ok r → HasNew s.actions_made r.so_far
line_new s line r e = all_new s.actions_made (record { so_far = made_of s; serials = [] }) r line.actions (λ a above most. absurd (omega (arith, above, most))) e

add_new : (s t : State) (line : FilterLine) (done : Done) → filter_add s line ≡ Ok (t, done) → AreNewIn s t
add_new s t line done e = let a = adds s t line done e in subst (AreNewIn s) a.after (line_new s line a.r a.resolves)

-- the old filter's actions have serials that were given before
old_given : (s : State) (row : Row) → Sound s → IsRow s row → (a : ℕ) → s.actions_made < a → Each (λ n. n ≡ a → ⊥) row.actions
old_given s row sound is a above = each_weaker (λ serial. list_any (has_serial serial) s.actions ≡ true) (λ n. n ≡ a → ⊥) given row.actions is.live
  where
    given : (n : ℕ) → list_any (has_serial n) s.actions ≡ true → n ≡ a → ⊥
    given n live same = let first = any_first (has_serial n) s.actions live in let f = found (IsAction s) (has_serial n) s.actions first.0 sound.actions first.1 in
        let range = f.0.serial.1 in let own : first.0.serial ≡ n = eqb-true first.0.serial n f.1 in omega (arith, range, own, same, above)

replace_case : (s t : State) (line : FilterLine) (o : Option Row) (done : Done) → Sound s → is_there s line ≡ o → filter_replace s line ≡ Ok (t, done) → AreNewIn s t
replace_case s t line None done sound is e = add_new s t line done (sym (ap (replace_or_add s line) is) ∙ e)
replace_case s t line (Some old) done sound is e =
    let a = replaces s t line old done is e in
    let next : State = with_actions (with_replaced s line old a.r.serials) (exchanged_actions old a.r) in
    let row = found (IsRow s) (λ row. in_table line.hook line.chain (unwrap_or line.pref 0) row && has_handle (unwrap_or line.handle 0) row) s.rows old sound.rows is in
    let after : AreNewIn s next = λ n above most. held_all n old.actions a.r.so_far.actions (old_given s old sound row.0 n above) (line_new s line a.r a.resolves n above most) in
    subst (AreNewIn s) a.after after

held_new : (s t : State) (y : Edit) (done : Done) → Sound s → IsOfLine y → step s y ≡ Ok (t, done) → AreNewIn s t
held_new s t (edits.FilterAdd line) done sound is e = add_new s t line done e
held_new s t (edits.FilterReplace line) done sound is e = replace_case s t line (is_there s line) done sound refl e
held_new s t (edits.FilterDel hook protocol chain pref handle) done sound is e = absurd is
held_new s t edits.HookAdd done sound is e = absurd is
held_new s t edits.HookDel done sound is e = absurd is
held_new s t (edits.ActionAdd line) done sound is e = absurd is
held_new s t (edits.ActionChange line) done sound is e = absurd is
held_new s t (edits.ActionDel kind index) done sound is e = absurd is

pub new_live : (s t : State) (y : Edit) (done : Done) → Sound s → IsOfLine y → step s y ≡ Ok (t, done) → (a : ℕ) → s.actions_made < a → a ≤ t.actions_made → IsLive hook_meaning t a
new_live s t y done sound is e a above most none = let f = held_found a t.actions (held_new s t y done sound is e a above most) in
    let some : option_map action_stated (first_where (has_serial a) t.actions) ≡ Some (action_stated f.0) = ap (option_map action_stated) f.1 in cc (some, none)

-- ---- serials are given one after the other
one_more_made : (r last : Resolved) (line : ActionLine) (index : ℕ) (serial : Option ℕ) (given : Option Params) → bound_or_made r line index serial given ≡ Ok last → r.so_far.made ≤ last.so_far.made
one_more_made r last line index (Some serial) given e = subst (λ (z : Resolved). r.so_far.made ≤ z.so_far.made) (same_ok (bound_more r line.kind index serial) last e) (omega arith)
one_more_made r last line index None (Some params) e = subst (λ (z : Resolved). r.so_far.made ≤ z.so_far.made) (same_ok (made_bound r params index) last e) (omega arith)
one_more_made r last line index None None e = absurd (err_ok (refusals.NoSuchAction line.kind index) last e)

all_more_made : (r last : Resolved) (lines : List ActionLine) → resolved r lines ≡ Ok last → r.so_far.made ≤ last.so_far.made
all_more_made r last [] e = subst (λ (z : Resolved). r.so_far.made ≤ z.so_far.made) (same_ok r last e) (omega arith)
all_more_made r last (line ∷ lines) e =
    let first = and_then_ok (λ next. resolved next lines) (resolved_by r line) last e in
    let index : ℕ = index_or_free line.index line.kind r.so_far.actions in
    let one = one_more_made r first.0 line index (serial_of line.kind index r.so_far.actions) line.params first.1 in
    let rest = all_more_made first.0 last lines first.2 in omega (arith, one, rest)

line_more : (s : State) (line : FilterLine) (r : Resolved) → resolved_for s line.actions ≡ Ok r → s.actions_made ≤ r.so_far.made
line_more s line r e = all_more_made (record { so_far = made_of s; serials = [] }) r line.actions e

add_more : (s t : State) (line : FilterLine) (done : Done) → filter_add s line ≡ Ok (t, done) → s.actions_made ≤ t.actions_made
add_more s t line done e = let a = adds s t line done e in subst (λ (u : State). s.actions_made ≤ u.actions_made) a.after (line_more s line a.r a.resolves)

replace_more : (s t : State) (line : FilterLine) (o : Option Row) (done : Done) → is_there s line ≡ o → filter_replace s line ≡ Ok (t, done) → s.actions_made ≤ t.actions_made
replace_more s t line None done is e = add_more s t line done (sym (ap (replace_or_add s line) is) ∙ e)
replace_more s t line (Some old) done is e = let a = replaces s t line old done is e in
    let next : State = with_actions (with_replaced s line old a.r.serials) (exchanged_actions old a.r) in
    let after : s.actions_made ≤ next.actions_made = line_more s line a.r a.resolves in subst (λ (u : State). s.actions_made ≤ u.actions_made) a.after after

pub made_rises : (s t : State) (y : Edit) (done : Done) → IsOfLine y → step s y ≡ Ok (t, done) → s.actions_made ≤ t.actions_made
made_rises s t (edits.FilterAdd line) done is e = add_more s t line done e
made_rises s t (edits.FilterReplace line) done is e = replace_more s t line (is_there s line) done refl e
made_rises s t (edits.FilterDel hook protocol chain pref handle) done is e = absurd is
made_rises s t edits.HookAdd done is e = absurd is
made_rises s t edits.HookDel done is e = absurd is
made_rises s t (edits.ActionAdd line) done is e = absurd is
made_rises s t (edits.ActionChange line) done is e = absurd is
made_rises s t (edits.ActionDel kind index) done is e = absurd is
