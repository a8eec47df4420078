-- What the calls of a registry make of its entries, where the entry that they name stands at a place that was
-- found.
use Rattle.std.proofs.Common.{◌≡◌, ℕ, ◌-◌, ◌<◌, ◌≤◌, Bool, true, false, List, length, get_or, set, Option, Some, None, refl, sym, ap, ◌∙◌, subst, arith}
use Rattle.std.specs.Prelude.{find, filter, nat_lt, option_map, unwrap_or, IfSome, IsSomeAnd}
use Rattle.std.specs.List.{All, remove}
use Rattle.std.proofs.lemmas.Bool.Decides.{nat_tests}
use Rattle.std.proofs.lemmas.List.{get_or-set_same, get_or-set_other, length-set}
use Rattle.std.proofs.lemmas.List.Elements.{All-set, All-weaker}
use Rattle.act_registry.specs.declared.entry.Entry.{Entry}
use Rattle.act_registry.specs.declared.fault.RegistryFault.TheVariants.{ActionBound}
use Rattle.act_registry.specs.Entries.{IsLive, bound_more, bound_less, with_params, change_where, unbound, has_serial, is_named}
use Rattle.act_registry.specs.Kept.{delete_refusal}
use Rattle.act_registry.specs.Names.{name_of}
use Rattle.act_registry.specs.OnePlace.{OnlyAt, NoPlace}
use Rattle.act_registry.proofs.OnePlace.{none-find, only-find, only-map, only-out, all-filter, remove-set}

-- the entry that was read at the place
pub found : {P : Type 0} (test : Entry P → Bool) (es xs : List (Entry P)) (at : ℕ) (e : Entry P) → OnlyAt test es at → xs ≡ es → e ≡ get_or xs at e → find test es ≡ Some e
found test es xs at e only same read = only-find test es at e only ∙ ap (λ x. Some x) (ap (λ ys. get_or ys at e) (sym same) ∙ sym read)

pub found-if : {P : Type 0} (test : Entry P → Bool) (es : List (Entry P)) (e : Entry P) (Q : Entry P → Type 0) → find test es ≡ Some e → IfSome (find test es) Q → Q e
found-if {P} test es e Q is holds = let R : Option (Entry P) → Type 0 = λ o. IfSome o Q in subst R is holds

pub found-and : {P : Type 0} (test : Entry P → Bool) (es : List (Entry P)) (e : Entry P) (Q : Entry P → Type 0) → find test es ≡ Some e → IsSomeAnd (find test es) Q → Q e
found-and {P} test es e Q is holds = let R : Option (Entry P) → Type 0 = λ o. IsSomeAnd o Q in subst R is holds

pub none-and : {P : Type 0} (test : Entry P → Bool) (es : List (Entry P)) (Q : Entry P → Type 0) → NoPlace test es → IsSomeAnd (find test es) Q → ⊥
none-and {P} test es Q none holds = let R : Option (Entry P) → Type 0 = λ o. IsSomeAnd o Q in subst R (none-find test es none) holds

-- what was read twice at the place
pub found-twice : {P : Type 0} (o : Option (Entry P)) (a b : Entry P) → o ≡ Some a → o ≡ Some b → a.references ≡ b.references
found-twice o a b first second = ap (λ x. unwrap_or (option_map (λ e. e.references) x) 0) (sym first ∙ second)

-- the entry written back
pub changed : {P : Type 0} (test : Entry P → Bool) (change : Entry P → Entry P) (es xs : List (Entry P)) (at : ℕ) (e : Entry P) → OnlyAt test es at → xs ≡ es → e ≡ get_or xs at e →
    set xs at (change e) ≡ change_where test change es
changed test change es xs at e only same read =
    ap (λ ys. set ys at (change e)) same ∙ ap (λ x. set es at (change x)) (read ∙ ap (λ ys. get_or ys at e) same) ∙ sym (only-map test change es at e only)

pub live-at : {P : Type 0} (made : ℕ) (xs : List (Entry P)) (at : ℕ) (e : Entry P) → All (IsLive made) xs → at < length xs → e ≡ get_or xs at e → IsLive made e
live-at made xs at e all within read = subst (IsLive made) (sym read) (all at e within)

pub bound_more-live : {P : Type 0} (made : ℕ) (e : Entry P) → IsLive made e → IsLive made (bound_more e)
bound_more-live made e old =
    record {
      counted = old.counted;
      so_far = old.so_far;
      held = (let h = old.held in omega (arith, h));
      bound = (let b = old.bound in omega (arith, b));
    }

several-left : (n : ℕ) → 1 ≤ n → (n ≡ 1 → ⊥) → 1 ≤ n - 1
several-left n held several = grind arith

pub bound_less-live : {P : Type 0} (made : ℕ) (e : Entry P) → IsLive made e → (e.references ≡ 1 → ⊥) → IsLive made (bound_less e)
bound_less-live made e old several =
    record {
      counted = old.counted;
      so_far = old.so_far;
      held = (let h = old.held in several-left e.references h several);
      bound = (let b = old.bound in omega (arith, b));
    }

-- other parameters of the kind keep the name
pub same-name : {P : Type 0} (kind_of : P → ℕ) (index : ℕ) (params : P) (e : Entry P) → is_named kind_of (kind_of params) index e ≡ true → name_of kind_of (with_params params e) ≡ name_of kind_of e
same-name kind_of index params e named =
    let kind : kind_of params ≡ kind_of e.params = grind (arith, nat_tests) in
    ap (λ k. record { kind = k; index = e.index; serial = e.serial }) kind

-- why a found action is not deleted

pub delete-bound : {P : Type 0} (e : Entry P) (o : Option (Entry P)) → o ≡ Some e → 0 < e.binds → Some (ActionBound e.binds) ≡ delete_refusal o
delete-bound e o is bound = let test : nat_lt 0 e.binds ≡ true = grind (arith, nat_tests) in rw is (rw test refl)

pub delete-free : {P : Type 0} (e : Entry P) (o : Option (Entry P)) → o ≡ Some e → e.binds ≤ 0 → None ≡ delete_refusal o
delete-free e o is free = let test : nat_lt 0 e.binds ≡ false = grind (arith, nat_tests) in rw is (rw test refl)

-- one place fewer names the entry

live-held : {P : Type 0} (made : ℕ) (e : Entry P) → IsLive made e → nat_lt 0 e.references ≡ true
live-held made e live = let h = live.held in grind (arith, nat_tests)

pub unbound-kept : {P : Type 0} (made serial : ℕ) (es xs : List (Entry P)) (at : ℕ) (e : Entry P) → All (IsLive made) es → OnlyAt (has_serial serial) es at → xs ≡ es → e ≡ get_or xs at e →
    (e.references ≡ 1 → ⊥) → set xs at (bound_less e) ≡ unbound serial es
unbound-kept made serial es xs at e live only same read several =
    let here = live-at made es at e live only.0 (read ∙ ap (λ ys. get_or ys at e) same) in
    let all = All-set (λ x. nat_lt 0 x.references ≡ true) es at (bound_less e) (live-held made (bound_less e) (bound_less-live made e here several))
    (All-weaker (IsLive made) (λ x. nat_lt 0 x.references ≡ true) (live-held made) es live) in
    let after = changed (has_serial serial) bound_less es xs at e only same read in
    after ∙ sym (all-filter (λ x. nat_lt 0 x.references) (change_where (has_serial serial) bound_less es)
    (subst (All (λ x. nat_lt 0 x.references ≡ true)) (ap (λ ys. set ys at (bound_less e)) (sym same) ∙ after) all))

pub unbound-gone : {P : Type 0} (made serial : ℕ) (es xs : List (Entry P)) (at : ℕ) (e : Entry P) → All (IsLive made) es → OnlyAt (has_serial serial) es at → xs ≡ es → e ≡ get_or xs at e →
    e.references ≡ 1 → remove es at ≡ unbound serial es
unbound-gone {P} made serial es xs at e live only same read one =
    let after = sym (ap (λ ys. set ys at (bound_less e)) (sym same) ∙ changed (has_serial serial) bound_less es xs at e only same read) in
    let long = length-set es at (bound_less e) in
    let out : nat_lt 0 (get_or (set es at (bound_less e)) at e).references ≡ false =
    rw (get_or-set_same es at (bound_less e) e only.0) (grind (arith, nat_tests)) in
    let others : (k : ℕ) (x : Entry P) → k < length (set es at (bound_less e)) → (k ≡ at → ⊥) → nat_lt 0 (get_or (set es at (bound_less e)) k x).references ≡ true =
    λ k x inside other. rw (get_or-set_other es at k (bound_less e) x other) (live-held made (get_or es k x) (live k x (omega (arith, long, inside)))) in
    sym (remove-set es at (bound_less e))
    ∙ sym (only-out (λ x. nat_lt 0 x.references) (set es at (bound_less e)) at e (omega (arith, long, only.0)) out others)
    ∙ ap (λ ys. filter (λ x. nat_lt 0 x.references) ys) (sym after)

pub with_params-live : {P : Type 0} (made : ℕ) (params : P) (e : Entry P) → IsLive made e → IsLive made (with_params params e)
with_params-live made params e old =
    record { counted = old.counted; so_far = old.so_far; held = old.held; bound = old.bound }
