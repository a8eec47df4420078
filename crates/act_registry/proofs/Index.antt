-- What the names tell of the entries.
use Rattle.std.proofs.Common.{◌≡◌, ℕ, ◌<◌, Bool, true, List, [], ◌∷◌, length, get_or, Option, Some, None, sym, ap, ◌∙◌, inl, inr, subst, arith}
use Rattle.std.specs.Prelude.{IfSome}
use Rattle.std.specs.Option.{IfNone}
use Rattle.std.specs.List.{count_by}
use Rattle.std.proofs.lemmas.Bool.{cases_lt, false≢true}
use Rattle.std.proofs.lemmas.Bool.Decides.{nat_tests}
use Rattle.act_registry.specs.declared.entry.Entry.{Entry}
use Rattle.act_registry.specs.declared.names.Name.{Name}
use Rattle.act_registry.specs.Entries.{AreApart, has_serial, is_named}
use Rattle.act_registry.specs.Names.{AreNamesOf, AreIndexed, IsPlaceFor, name_of, has_name, is_name}
use Rattle.act_registry.specs.OnePlace.{OnlyAt, NoPlace}
use Rattle.act_registry.proofs.Counts.{Somewhere, count-all, none-count, some-count, count-map, count-none, count-some}
use Rattle.act_registry.proofs.Order.{name-at}
use Rattle.act_registry.proofs.Serials.{named-only}

pub as-many : {P : Type 0} (kind_of : P → ℕ) (es : List (Entry P)) (ns : List Name) → AreNamesOf kind_of es ns → length ns ≡ length es
as-many kind_of es ns same =
    sym (count-all ns) ∙ same (λ n. true) ∙ count-map (λ n. true) (name_of kind_of) es ∙ count-all es

-- a kind and index that no name has
pub none-named : {P : Type 0} (kind_of : P → ℕ) (kind index : ℕ) (es : List (Entry P)) (ns : List Name) → AreNamesOf kind_of es ns →
    count_by (has_name kind index) ns ≡ 0 → NoPlace (is_named kind_of kind index) es
none-named kind_of kind index es ns same none =
    none-count (is_named kind_of kind index) es
    (sym (count-map (has_name kind index) (name_of kind_of) es) ∙ sym (same (has_name kind index)) ∙ none)

-- an entry for each name
pub some-named : {P : Type 0} (kind_of : P → ℕ) (test : Name → Bool) (es : List (Entry P)) (ns : List Name) → AreNamesOf kind_of es ns →
    0 < count_by test ns → Somewhere (λ e. test (name_of kind_of e)) es
some-named kind_of test es ns same some =
    let e = same test ∙ count-map test (name_of kind_of) es in
    some-count (λ e. test (name_of kind_of e)) es (omega (arith, e, some))

-- and a name for each entry
pub named-some : {P : Type 0} (kind_of : P → ℕ) (test : Name → Bool) (es : List (Entry P)) (ns : List Name) → AreNamesOf kind_of es ns →
    0 < count_by (λ e. test (name_of kind_of e)) es → Somewhere test ns
named-some kind_of test es ns same some =
    let e = same test ∙ count-map test (name_of kind_of) es in
    some-count test ns (omega (arith, e, some))

name-serial : {P : Type 0} (kind_of : P → ℕ) (kind index serial : ℕ) (e : Entry P) → is_name kind index serial (name_of kind_of e) ≡ true → has_serial serial e ≡ true
name-serial kind_of kind index serial e is = grind (arith, nat_tests)

name-named : {P : Type 0} (kind_of : P → ℕ) (kind index serial : ℕ) (e : Entry P) → is_name kind index serial (name_of kind_of e) ≡ true → is_named kind_of kind index e ≡ true
name-named kind_of kind index serial e is = grind (arith, nat_tests)

-- the only place that passes is any place that passes
pub only-place : {X : Type 0} (test : X → Bool) (xs : List X) (at k : ℕ) (d : X) → OnlyAt test xs at → k < length xs → test (get_or xs k d) ≡ true → k ≡ at
only-place test xs at k d only within passes =
    let differ : (k ≡ at → ⊥) → ⊥ = λ other. false≢true (sym (only.2 k d within other) ∙ passes) in
    elim (cases_lt k at) [
      | inl less ↦ absurd (differ (λ e. omega arith))
      | inr up ↦ elim (cases_lt at k) [
        | inl more ↦ absurd (differ (λ e. omega arith))
        | inr le ↦ omega (arith, up, le)
      ]
    ]

-- the place of a name's serial is the place of its kind and index
pub named-here : {P : Type 0} (kind_of : P → ℕ) (kind index serial : ℕ) (es : List (Entry P)) (ns : List Name) (place : Option ℕ) →
    AreApart kind_of es → AreNamesOf kind_of es ns → 0 < count_by (is_name kind index serial) ns →
    IfSome place (OnlyAt (has_serial serial) es) → IfSome place (OnlyAt (is_named kind_of kind index) es)
named-here kind_of kind index serial es ns None apart same some here = tt
named-here {P} kind_of kind index serial es ns (Some at) apart same some here =
    let k = some-named kind_of (is_name kind index serial) es ns same some in
    named-only kind_of kind index es at apart here.0 (λ d.
    let e : k.0 ≡ at = only-place (has_serial serial) es at k.0 d here k.1 (name-serial kind_of kind index serial (get_or es k.0 d) (k.2 d)) in
    let Q : ℕ → Type 0 = λ n. is_named kind_of kind index (get_or es n d) ≡ true in
    subst Q e (name-named kind_of kind index serial (get_or es k.0 d) (k.2 d)))

-- and there is one
pub named-there : {P : Type 0} (kind_of : P → ℕ) (kind index serial : ℕ) (es : List (Entry P)) (ns : List Name) (place : Option ℕ) →
    AreNamesOf kind_of es ns → 0 < count_by (is_name kind index serial) ns →
    IfNone place (NoPlace (has_serial serial) es) → IfNone place (NoPlace (is_named kind_of kind index) es)
named-there kind_of kind index serial [] ns None same some none = let k = some-named kind_of (is_name kind index serial) [] ns same some in absurd (omega (arith, k.1))
named-there kind_of kind index serial (x ∷ es) ns None same some none =
    let k = some-named kind_of (is_name kind index serial) (x ∷ es) ns same some in
    absurd (false≢true (sym (none k.0 x k.1) ∙ name-serial kind_of kind index serial (get_or (x ∷ es) k.0 x) (k.2 x)))
named-there kind_of kind index serial es ns (Some at) same some none = tt

is-name : (kind index serial : ℕ) (n : Name) → is_name kind index serial n ≡ true → n ≡ record { kind = kind; index = index; serial = serial }
is-name kind index serial n is =
    let k : n.kind ≡ kind = grind (arith, nat_tests) in
    let i : n.index ≡ index = grind (arith, nat_tests) in
    let s : n.serial ≡ serial = grind (arith, nat_tests) in
    let a : n ≡ record { kind = kind; index = n.index; serial = n.serial } = ap (λ x. record { kind = x; index = n.index; serial = n.serial }) k in
    let b : n ≡ record { kind = kind; index = index; serial = n.serial } = a ∙ ap (λ x. record { kind = kind; index = x; serial = n.serial }) i in
    b ∙ ap (λ x. record { kind = kind; index = index; serial = x }) s

has-name : (kind index serial : ℕ) (n : Name) → is_name kind index serial n ≡ true → has_name kind index n ≡ true
has-name kind index serial n is = grind (arith, nat_tests)

itself : {P : Type 0} (kind_of : P → ℕ) (e : Entry P) → is_name (kind_of e.params) e.index e.serial (name_of kind_of e) ≡ true
itself kind_of e = grind (arith, nat_tests)

-- the place of an entry's name
pub name-place : {P : Type 0} (kind_of : P → ℕ) (es : List (Entry P)) (ns : List Name) (at place : ℕ) (e : Entry P) → AreIndexed kind_of es ns → at < length es → e ≡ get_or es at e →
    IsPlaceFor (kind_of e.params) e.index ns place → (place < length ns) × ((d : Name) → get_or ns place d ≡ name_of kind_of e)
name-place kind_of es ns at place e index within read point =
    let test = is_name (kind_of e.params) e.index e.serial in
    let here : test (name_of kind_of (get_or es at e)) ≡ true = ap (λ x. test (name_of kind_of x)) (sym read) ∙ itself kind_of e in
    let k = named-some kind_of test es ns index.same (count-some (λ x. test (name_of kind_of x)) es at e within here) in
    let d : Name = name_of kind_of e in
    let same : k.0 ≡ place = name-at (kind_of e.params) e.index ns place k.0 d index.sorted point k.1 (has-name (kind_of e.params) e.index e.serial (get_or ns k.0 d) (k.2 d)) in (
      omega (arith, same, k.1),
      λ x. is-name (kind_of e.params) e.index e.serial (get_or ns place x) (let Q : ℕ → Type 0 = λ n. test (get_or ns n x) ≡ true in subst Q same (k.2 x)),
    )

-- a kind and index that no entry has
pub named-none : {P : Type 0} (kind_of : P → ℕ) (kind index : ℕ) (es : List (Entry P)) (ns : List Name) → AreNamesOf kind_of es ns →
    NoPlace (is_named kind_of kind index) es → NoPlace (has_name kind index) ns
named-none kind_of kind index es ns same none =
    none-count (has_name kind index) ns
    (same (has_name kind index) ∙ count-map (has_name kind index) (name_of kind_of) es ∙ count-none (is_named kind_of kind index) es none)
