-- Names in their order.
use Rattle.std.proofs.Common.{◌≡◌, ℕ, ◌+◌, zero, suc, ◌<◌, ◌≤◌, true, false, List, [], ◌∷◌, length, get_or, sym, ◌∙◌, inl, inr, subst, arith}
use Rattle.std.specs.List.{AllPairs, insert, count_by}
use Rattle.std.specs.List.Sorted.{IsPartitionedBy}
use Rattle.std.proofs.lemmas.Bool.{cases_Bool, cases_lt, false≢true}
use Rattle.std.proofs.lemmas.Bool.Decides.{nat_tests}
use Rattle.std.proofs.lemmas.List.Edits.{length-insert, get_or-insert_below, get_or-insert_at, get_or-insert_above}
use Rattle.act_registry.specs.declared.names.Name.{Name}
use Rattle.act_registry.specs.Names.{ComesBefore, IsPlaceFor, is_before, has_name}
use Rattle.act_registry.specs.OnePlace.{NoPlace}
use Rattle.act_registry.proofs.Counts.{count-none, count-some}

before-trans : (kind index : ℕ) (a b : Name) → ComesBefore a b → is_before kind index b ≡ true → is_before kind index a ≡ true
before-trans kind index a b ab b_first = grind (arith, nat_tests)

before-other : (kind index : ℕ) (a : Name) → is_before kind index a ≡ true → has_name kind index a ≡ false
before-other kind index a first = grind (arith, nat_tests)

before-named : (kind index : ℕ) (a b : Name) → ComesBefore a b → has_name kind index b ≡ true → is_before kind index a ≡ true
before-named kind index a b ab named = grind (arith, nat_tests)

-- the name at the place is the only one with its kind and index, also one higher
after-named : (kind index : ℕ) (a b : Name) → ComesBefore a b → has_name kind index a ≡ true → is_before kind (index + 1) b ≡ false
after-named kind index a b ab named = grind (arith, nat_tests)

before-more : (kind index : ℕ) (a : Name) → is_before kind index a ≡ true → is_before kind (index + 1) a ≡ true
before-more kind index a first = grind (arith, nat_tests)

named-more : (kind index : ℕ) (a : Name) → has_name kind index a ≡ true → is_before kind (index + 1) a ≡ true
named-more kind index a named = grind (arith, nat_tests)

pub sorted-parts : (kind index : ℕ) (ns : List Name) → AllPairs ComesBefore ns → IsPartitionedBy (λ n. is_before kind index n) ns
sorted-parts kind index ns sorted = λ i j d le within first.
    elim (cases_lt i j) [
      | inl less ↦ before-trans kind index (get_or ns i d) (get_or ns j d) (sorted i j d less within) first
      | inr same ↦
          let e : j ≡ i = omega (arith, le, same) in
          let P : ℕ → Type 0 = λ k. is_before kind index (get_or ns k d) ≡ true in
          subst P e first
    ]

-- beside the place for a kind and index, no name has them
pub others : (kind index : ℕ) (ns : List Name) (at : ℕ) → AllPairs ComesBefore ns → IsPlaceFor kind index ns at →
    (k : ℕ) (d : Name) → k < length ns → (k ≡ at → ⊥) → has_name kind index (get_or ns k d) ≡ false
others kind index ns at sorted place k d within other =
    elim (cases_lt k at) [
      | inl less ↦ before-other kind index (get_or ns k d) (place.1.0 k d (omega arith) less)
      | inr up ↦ elim (cases_Bool (has_name kind index (get_or ns k d))) [
        | inl named ↦
            let more : at < k = elim (cases_lt at k) [ inl more ↦ more | inr le ↦ absurd (other (omega (arith, up, le))) ] in
            let first = before-named kind index (get_or ns at d) (get_or ns k d) (sorted at k d more within) named in
            absurd (false≢true (sym (place.1.1 at d (omega arith) (omega arith)) ∙ first))
        | inr unnamed ↦ unnamed
      ]
    ]

pub no-name : (kind index : ℕ) (ns : List Name) (at : ℕ) → AllPairs ComesBefore ns → IsPlaceFor kind index ns at →
    (at < length ns → (d : Name) → has_name kind index (get_or ns at d) ≡ false) → NoPlace (has_name kind index) ns
no-name kind index ns at sorted place not_here = λ k d within.
    elim (cases_lt k at) [
      | inl less ↦ others kind index ns at sorted place k d within (λ e. omega arith)
      | inr up ↦ elim (cases_lt at k) [
        | inl more ↦ others kind index ns at sorted place k d within (λ e. omega arith)
        | inr le ↦
            let e : at ≡ k = omega (arith, up, le) in
            let P : ℕ → Type 0 = λ n. has_name kind index (get_or ns n d) ≡ false in
            subst P e (not_here (omega (arith, e, within)) d)
      ]
    ]

-- the same as a count
pub no-count : (kind index : ℕ) (ns : List Name) (at : ℕ) → AllPairs ComesBefore ns → IsPlaceFor kind index ns at →
    (at < length ns → (d : Name) → has_name kind index (get_or ns at d) ≡ false) → count_by (has_name kind index) ns ≡ 0
no-count kind index ns at sorted place not_here =
    count-none (has_name kind index) ns (no-name kind index ns at sorted place not_here)

-- a name stands at the place for its kind and index
pub name-at : (kind index : ℕ) (ns : List Name) (at k : ℕ) (d : Name) → AllPairs ComesBefore ns → IsPlaceFor kind index ns at →
    k < length ns → has_name kind index (get_or ns k d) ≡ true → k ≡ at
name-at kind index ns at k d sorted place within named =
    let differ : (k ≡ at → ⊥) → ⊥ = λ other. false≢true (sym (others kind index ns at sorted place k d within other) ∙ named) in
    elim (cases_lt k at) [
      | inl less ↦ absurd (differ (λ e. omega arith))
      | inr up ↦ elim (cases_lt at k) [
        | inl more ↦ absurd (differ (λ e. omega arith))
        | inr le ↦ omega (arith, up, le)
      ]
    ]

-- behind a name is the place for the next index
pub next-place : (kind index : ℕ) (ns : List Name) (at : ℕ) → AllPairs ComesBefore ns → IsPlaceFor kind index ns at → at < length ns →
    ((d : Name) → has_name kind index (get_or ns at d) ≡ true) → IsPlaceFor kind (index + 1) ns (at + 1)
next-place kind index ns at sorted place within named = (
  omega (arith, within),
  (
    λ k d low less. elim (cases_lt k at) [
      | inl less ↦ before-more kind index (get_or ns k d) (place.1.0 k d (omega arith) less)
      | inr up ↦
          let e : at ≡ k = omega (arith, up, less) in
          let P : ℕ → Type 0 = λ n. is_before kind (index + 1) (get_or ns n d) ≡ true in
          subst P e (named-more kind index (get_or ns at d) (named d))
    ],
    λ k d up inside. after-named kind index (get_or ns at d) (get_or ns k d) (sorted at k d (omega (arith, up)) inside) (named d),
  ),
)

-- and that index is used, beside those below it
pub used-more : (kind index : ℕ) (ns : List Name) (at : ℕ) → at < length ns → ((d : Name) → has_name kind index (get_or ns at d) ≡ true) →
    ((lower : ℕ) → 1 ≤ lower → lower < index → 0 < count_by (has_name kind lower) ns) →
    (lower : ℕ) → 1 ≤ lower → lower < index + 1 → 0 < count_by (has_name kind lower) ns
used-more kind index [] at within named used lower from_one less = absurd (omega arith)
used-more kind index (n ∷ ns) at within named used lower from_one less =
    elim (cases_lt lower index) [
      | inl below ↦ used lower from_one below
      | inr up ↦
          let e : index ≡ lower = omega (arith, less, up) in
          let P : ℕ → Type 0 = λ k. 0 < count_by (has_name kind k) (n ∷ ns) in
          subst P e (count-some (has_name kind index) (n ∷ ns) at n within (named n))
    ]

comes-after : (n m : Name) → is_before n.kind n.index m ≡ false → has_name n.kind n.index m ≡ false → ComesBefore n m
comes-after n m behind other = grind (arith, nat_tests)

insert-from : (ns : List Name) (at : ℕ) (n : Name) → AllPairs ComesBefore ns → IsPlaceFor n.kind n.index ns at →
    NoPlace (has_name n.kind n.index) ns → (i j : ℕ) (d : Name) → i ≤ j → j < length ns → at ≤ j → at ≤ i →
    ComesBefore (get_or (insert ns at n) i d) (get_or ns j d)
insert-from ns at n sorted place new zero j d le within up high =
    let e : at ≡ zero = omega (arith, high) in
    let P : ℕ → Type 0 = λ k. ComesBefore (get_or (insert ns at n) k d) (get_or ns j d) in
    subst P e (rw (get_or-insert_at ns at n d place.0) (comes-after n (get_or ns j d) (place.1.1 j d up within) (new j d within)))
insert-from ns at n sorted place new (suc i) j d le within up high =
    elim (cases_lt i at) [
      | inl last ↦
          let e : at ≡ suc i = omega (arith, last, high) in
          let P : ℕ → Type 0 = λ k. ComesBefore (get_or (insert ns at n) k d) (get_or ns j d) in
          subst P e (rw (get_or-insert_at ns at n d place.0) (comes-after n (get_or ns j d) (place.1.1 j d up within) (new j d within)))
      | inr behind ↦
          let e : i + 1 ≡ suc i = omega arith in
          let P : ℕ → Type 0 = λ k. ComesBefore (get_or (insert ns at n) k d) (get_or ns j d) in
          subst P e (rw (get_or-insert_above ns at n d i behind place.0) (sorted i j d (omega arith) within))
    ]

-- a pair of which the second stands behind the new name
insert-behind : (ns : List Name) (at : ℕ) (n : Name) → AllPairs ComesBefore ns → IsPlaceFor n.kind n.index ns at →
    NoPlace (has_name n.kind n.index) ns → (i j : ℕ) (d : Name) → i ≤ j → j < length ns → at ≤ j →
    ComesBefore (get_or (insert ns at n) i d) (get_or (insert ns at n) (j + 1) d)
insert-behind ns at n sorted place new i j d le within up =
    rw (get_or-insert_above ns at n d j up place.0) (elim (cases_lt i at) [
      | inl low ↦ rw (get_or-insert_below ns at n d i low place.0) (sorted i j d (omega arith) within)
      | inr high ↦ insert-from ns at n sorted place new i j d le within up high
    ])

-- a pair of which the second is the new name or stands behind it
insert-above : (ns : List Name) (at : ℕ) (n : Name) → AllPairs ComesBefore ns → IsPlaceFor n.kind n.index ns at →
    NoPlace (has_name n.kind n.index) ns → (i j : ℕ) (d : Name) → i < j → j ≤ length ns → at ≤ j →
    ComesBefore (get_or (insert ns at n) i d) (get_or (insert ns at n) j d)
insert-above ns at n sorted place new i zero d less within up = absurd (omega arith)
insert-above ns at n sorted place new i (suc j) d less within up =
    elim (cases_lt j at) [
      | inl last ↦
          let e : at ≡ suc j = omega (arith, last, up) in
          let P : ℕ → Type 0 = λ k. ComesBefore (get_or (insert ns at n) i d) (get_or (insert ns at n) k d) in
          subst P e (rw (get_or-insert_at ns at n d place.0) (rw (get_or-insert_below ns at n d i (omega arith) place.0) (place.1.0 i d (omega arith) (omega arith))))
      | inr behind ↦
          let e : j + 1 ≡ suc j = omega arith in
          let P : ℕ → Type 0 = λ k. ComesBefore (get_or (insert ns at n) i d) (get_or (insert ns at n) k d) in
          subst P e (insert-behind ns at n sorted place new i j d (omega arith) (omega arith) behind)
    ]

-- a new name in its place
pub insert-sorted : (ns : List Name) (at : ℕ) (n : Name) → AllPairs ComesBefore ns → IsPlaceFor n.kind n.index ns at →
    NoPlace (has_name n.kind n.index) ns → AllPairs ComesBefore (insert ns at n)
insert-sorted ns at n sorted place new = λ i j d less within.
    let long = length-insert ns at n place.0 in
    elim (cases_lt j at) [
      | inl low ↦
          rw (get_or-insert_below ns at n d j low place.0) (rw (get_or-insert_below ns at n d i (omega arith) place.0) (sorted i j d less (omega (arith, place.0))))
      | inr up ↦ insert-above ns at n sorted place new i j d less (omega (arith, long, within)) up
    ]
