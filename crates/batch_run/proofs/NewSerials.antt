-- The serials that actions got since so many had been made.
use Rattle.std.proofs.Common.{◌≡◌, ◌∙◌, ℕ, zero, suc, ◌+◌, ◌<◌, ◌≤◌, Bool, true, false, cond, if◌then◌else◌, List, [], ◌∷◌, ◌++◌, map, refl, sym, ap, subst, arith, inl, inr, lt-ltb, le-ltb, eqb-true}
use Rattle.std.specs.Prelude.{filter, nat_lt}
use Rattle.std.specs.List.{range_with_len}
use Rattle.std.proofs.lemmas.Bool.{false≢true, cases_lt}
use Rattle.std.proofs.lemmas.List.{map-append}
use Rattle.std.proofs.lemmas.List.Elements.{filter-append}
use Rattle.act_kinds.specs.declared.params.Params.{Params}
use Rattle.filter_state.specs.States.{Action}
use Rattle.filter_state.specs.Actions.{has_serial, less_bound, is_referred, unbound, all_unbound, change_where, Made, made_more}
use Rattle.filter_state.specs.Sound.{Each}
use Rattle.filter_state.proofs.Pairs.{each_weaker, each_map, each_filter}
use Rattle.batch_run.specs.declared.made_action.MadeAction.{MadeAction}
use Rattle.batch_run.specs.Made.{name_of, is_later, later_names}

abbrev pub serials : List Action → List ℕ
serials actions = map (λ (action : Action). action.serial) actions

abbrev pub new_serials : ℕ → List Action → List ℕ
new_serials before actions = filter (nat_lt before) (serials actions)

-- ---- one serial
abbrev with_one : ℕ → ℕ → List ℕ → List ℕ
with_one before n ns = cond (nat_lt before n) (n ∷ ns) ns

one_new : (before n : ℕ) (ns : List ℕ) → before < n → with_one before n ns ≡ n ∷ ns
one_new before n ns more = ap (λ (b : Bool). cond b (n ∷ ns) ns) (lt-ltb before n more)

one_old : (before n : ℕ) (ns : List ℕ) → n ≤ before → with_one before n ns ≡ ns
one_old before n ns less = ap (λ (b : Bool). cond b (n ∷ ns) ns) (le-ltb before n less)

pub none_new : (before : ℕ) (actions : List Action) → Each (λ (action : Action). action.serial ≤ before) actions → new_serials before actions ≡ []
none_new before [] all = refl
none_new before (action ∷ actions) all = one_old before action.serial (new_serials before actions) all.0 ∙ none_new before actions all.1

-- those of the names that are put into the log
pub logged_serials : (before : ℕ) (actions : List Action) → map (λ (made : MadeAction). made.serial) (later_names before actions) ≡ new_serials before actions
logged_serials before [] = refl
logged_serials before (action ∷ actions) = by_test (nat_lt before action.serial) action (filter (is_later before) actions) (new_serials before actions) (logged_serials before actions)
  where
    by_test : (b : Bool) (action : Action) (kept : List Action) (ns : List ℕ) → map (λ (made : MadeAction). made.serial) (map name_of kept) ≡ ns
        → map (λ (made : MadeAction). made.serial) (map name_of (cond b (action ∷ kept) kept)) ≡ cond b (action.serial ∷ ns) ns
    by_test true action kept ns e = ap (λ (more : List ℕ). action.serial ∷ more) e
    by_test false action kept ns e = e

-- ---- numbers in a row
pub range_more : (a n : ℕ) → range_with_len a n ++ (a + n) ∷ [] ≡ range_with_len a (n + 1)
range_more a zero = ap (λ (m : ℕ). m ∷ []) (omega arith)
range_more a (suc n) =
    let at : a + suc n ≡ a + 1 + n = omega arith in
    let long : suc (n + 1) ≡ suc n + 1 = omega arith in
    ap (λ (m : ℕ). a ∷ (range_with_len (a + 1) n ++ m ∷ [])) at ∙ ap (λ (ns : List ℕ). a ∷ ns) (range_more (a + 1) n) ∙ ap (range_with_len a) long

pub range_append : (a n more : ℕ) → range_with_len a n ++ range_with_len (a + n) more ≡ range_with_len a (n + more)
range_append a zero more =
    let at : a + 0 ≡ a = omega arith in
    let long : more ≡ 0 + more = omega arith in
    ap (λ (m : ℕ). range_with_len m more) at ∙ ap (range_with_len a) long
range_append a (suc n) more =
    let at : a + suc n ≡ a + 1 + n = omega arith in
    let long : suc (n + more) ≡ suc n + more = omega arith in
    ap (λ (m : ℕ). a ∷ (range_with_len (a + 1) n ++ range_with_len m more)) at ∙ ap (λ (ns : List ℕ). a ∷ ns) (range_append (a + 1) n more) ∙ ap (range_with_len a) long

-- ---- the actions that were made since have the next serials, in order
pub record IsNumbered (before made : ℕ) (actions : List Action) : Type 0 where
  pub many : ℕ
  pub count : made ≡ before + many
  pub given : new_serials before actions ≡ range_with_len (before + 1) many

pub made_numbered : (before : ℕ) (m : Made) (params : Params) (index binds : ℕ) → IsNumbered before m.made m.actions → IsNumbered before (m.made + 1) (made_more m params index binds).actions
made_numbered before m params index binds is =
    let count = is.count in
    let serial : m.made + 1 ≡ before + 1 + is.many = omega arith in
    let new : Action = record { serial = m.made + 1; index = index; params = params; references = 1; binds = binds } in
    record {
      many = is.many + 1;
      count = omega arith;
      given = ap (filter (nat_lt before)) (map-append (λ (action : Action). action.serial) m.actions (new ∷ []))
          ∙ filter-append (nat_lt before) (serials m.actions) ((m.made + 1) ∷ [])
          ∙ ap (λ (ns : List ℕ). new_serials before m.actions ++ ns) (one_new before (m.made + 1) [] (omega arith))
          ∙ ap (λ (ns : List ℕ). ns ++ (m.made + 1) ∷ []) is.given
          ∙ ap (λ (n : ℕ). range_with_len (before + 1) is.many ++ n ∷ []) serial
          ∙ range_more (before + 1) is.many;
    }

-- a change of those that pass a test
pub changed_serials : (test : Action → Bool) (change : Action → Action) → ((x : Action) → (change x).serial ≡ x.serial) → (actions : List Action) → serials (change_where test change actions) ≡ serials actions
changed_serials test change keeps [] = refl
changed_serials test change keeps (x ∷ xs) =
    ap (λ (n : ℕ). n ∷ serials (change_where test change xs)) (either (test x) x (change x) (keeps x)) ∙ ap (λ (ns : List ℕ). x.serial ∷ ns) (changed_serials test change keeps xs)
  where
    either : (b : Bool) (x y : Action) → y.serial ≡ x.serial → (if b then y else x).serial ≡ x.serial
    either true x y e = e
    either false x y e = refl

pub changed_numbered : (before made : ℕ) (test : Action → Bool) (change : Action → Action) → ((x : Action) → (change x).serial ≡ x.serial) → (actions : List Action) → IsNumbered before made actions
    → IsNumbered before made (change_where test change actions)
changed_numbered before made test change keeps actions is =
    record { many = is.many; count = is.count; given = ap (filter (nat_lt before)) (changed_serials test change keeps actions) ∙ is.given }

-- ---- places of earlier actions are let go, and the later ones are held
abbrev pub AreHeldSince : ℕ → List Action → Type 0
AreHeldSince before actions = Each (λ (x : Action). before < x.serial → is_referred x ≡ true) actions

abbrev lowered : ℕ → Action → Action
lowered serial x = if has_serial serial x then less_bound x else x

lowered_serial : (serial : ℕ) (x : Action) → (lowered serial x).serial ≡ x.serial
lowered_serial serial x = either (has_serial serial x) x
  where
    either : (b : Bool) (x : Action) → (if b then less_bound x else x).serial ≡ x.serial
    either true x = refl
    either false x = refl

lowered_held : (before serial : ℕ) (x : Action) → serial ≤ before → (before < x.serial → is_referred x ≡ true) → (b : Bool) → has_serial serial x ≡ b → before < x.serial
    → is_referred (if b then less_bound x else x) ≡ true
lowered_held before serial x low held true is later = let same = eqb-true x.serial serial is in absurd (omega arith)
lowered_held before serial x low held false is later = held later

one_let_go : (before : ℕ) (x y : Action) (ys zs : List Action) (b : Bool) → y.serial ≡ x.serial → (before < x.serial → b ≡ true) → new_serials before ys ≡ new_serials before zs
    → new_serials before (cond b (y ∷ ys) ys) ≡ new_serials before (x ∷ zs)
one_let_go before x y ys zs true same held e = ap (λ (n : ℕ). with_one before n (new_serials before ys)) same ∙ ap (with_one before x.serial) e
one_let_go before x y ys zs false same held e =
    elim (cases_lt before x.serial) [
      | inl later ↦ absurd (false≢true (held later))
      | inr less ↦ e ∙ sym (one_old before x.serial (new_serials before zs) less)
    ]

let_go : (before serial : ℕ) → serial ≤ before → (actions : List Action) → AreHeldSince before actions → new_serials before (unbound serial actions) ≡ new_serials before actions
let_go before serial low [] all = refl
let_go before serial low (x ∷ xs) all =
    one_let_go before x (lowered serial x) (unbound serial xs) xs (is_referred (lowered serial x)) (lowered_serial serial x)
    (lowered_held before serial x low all.0 (has_serial serial x) refl) (let_go before serial low xs all.1)

still_held : (before serial : ℕ) → serial ≤ before → (actions : List Action) → AreHeldSince before actions → AreHeldSince before (unbound serial actions)
still_held before serial low actions all =
    let P : Action → Type 0 = λ x. before < x.serial → is_referred x ≡ true in
    each_filter P is_referred (change_where (has_serial serial) less_bound actions)
    (each_map P (lowered serial) actions
    (each_weaker P (λ x. P (lowered serial x))
    (λ x held later. lowered_held before serial x low held (has_serial serial x) refl (subst (λ (n : ℕ). before < n) (lowered_serial serial x) later)) actions all))

pub all_let_go : (before : ℕ) (places : List ℕ) → Each (λ serial. serial ≤ before) places → (actions : List Action) → AreHeldSince before actions
    → new_serials before (all_unbound places actions) ≡ new_serials before actions
all_let_go before [] low actions all = refl
all_let_go before (serial ∷ places) low actions all =
    all_let_go before places low.1 (unbound serial actions) (still_held before serial low.0 actions all) ∙ let_go before serial low.0 actions all
