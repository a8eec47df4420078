-- The chains of slots after one slot more, and one fewer.
use Rattle.std.proofs.Common.{◌≡◌, ℕ, suc, ◌+◌, ◌-◌, ◌/◌, ◌^◌, ◌<◌, ◌≤◌, ◌⊎◌, ◌==◌, Bool, true, false, List, [], ◌∷◌, ◌++◌, length, get_or, set, Option, Some, None, sym, ap, ◌∙◌, subst, inl, inr, arith}
use Rattle.std.proofs.lemmas.Bool.{cases_Bool, eqb-true, eqb-false, eq-eqb}
use Rattle.std.proofs.lemmas.Nat.{and_le_r}
use Rattle.std.proofs.lemmas.List.{get_or-set_same, get_or-set_other, get_or_append_left, length-append, length-set}
use Rattle.std.proofs.Math.Seq.{get_or-append_seam}
use Rattle.filter_index.specs.Chains.{passes, last_of, chain_of, is_on, AreLinked, IsBehind}
use Rattle.filter_index.proofs.LastOf.{last_here, last_not_here, last_le, reaches, at_last, last_alike, last_kept, last_passed_on}

-- ---- chains
pub chain_within : (size digest : ℕ) → 0 < size → chain_of size digest < size
chain_within size digest some = omega (arith, and_le_r (digest / 2 ^ 32) (size - 1))

on_own : (size chain digest : ℕ) (o : Option ℕ) → o ≡ Some digest → chain ≡ chain_of size digest → passes (is_on size chain) o ≡ true
on_own size chain digest o is own = ap (passes (is_on size chain)) is ∙ eq-eqb (chain_of size digest) chain (sym own)

pub own_of : (size chain digest : ℕ) (o : Option ℕ) → o ≡ Some digest → passes (is_on size chain) o ≡ true → chain_of size digest ≡ chain
own_of size chain digest o is on = eqb-true (chain_of size digest) chain (sym (ap (passes (is_on size chain)) is) ∙ on)

not_on : (size chain digest : ℕ) (o : Option ℕ) → o ≡ Some digest → (chain_of size digest ≡ chain → ⊥) → passes (is_on size chain) o ≡ false
not_on size chain digest o is other = elim (cases_Bool (passes (is_on size chain) o)) [
  | inl on ↦ absurd (other (own_of size chain digest o is on))
  | inr not ↦ not
]

-- two numbers that differ
below_or : (a b : ℕ) → (a ≡ b → ⊥) → (a < b) ⊎ (b < a)
below_or a b other = grind arith

module _ (size : ℕ) (heads : List ℕ) (ds : List (Option ℕ)) (nexts : List ℕ) (linked : AreLinked size heads ds nexts) where
  -- ---- a slot more
  module _ (digest chain before number : ℕ) (own : chain ≡ chain_of size digest) (within : chain < size) (before_is : before ≡ get_or heads chain 0)
      (number_is : number ≡ length ds + 1) where
    longer : length (ds ++ (Some digest ∷ [])) ≡ suc (length ds)
    longer = omega (arith, length-append ds (Some digest ∷ []))

    seam : get_or (ds ++ (Some digest ∷ [])) (length ds) None ≡ Some digest
    seam = get_or-append_seam ds (Some digest) [] None

    front_alike : (test : ℕ → Bool) (n : ℕ) → n ≤ length ds → last_of test ds n ≡ last_of test (ds ++ (Some digest ∷ [])) n
    front_alike test n below = last_alike test ds (ds ++ (Some digest ∷ [])) n (λ k here. sym (get_or_append_left ds (Some digest ∷ []) None k (omega arith)))

    head_after : (c : ℕ) → c < size → get_or (set heads chain number) c 0 ≡ last_of (is_on size c) (ds ++ (Some digest ∷ [])) (length (ds ++ (Some digest ∷ [])))
    head_after c below = elim (cases_Bool (c == chain)) [
      | inl same ↦
          let here = eqb-true c chain same in
          ap (λ k. get_or (set heads chain number) k 0) here ∙ get_or-set_same heads chain number 0 (omega (arith, linked.sized, within))
          ∙ (let e : number ≡ suc (length ds) = omega (arith, number_is) in e)
          ∙ sym (last_here (is_on size c) (ds ++ (Some digest ∷ [])) (length ds) (on_own size c digest _ seam (here ∙ own)))
          ∙ sym (ap (last_of (is_on size c) (ds ++ (Some digest ∷ []))) longer)
      | inr differs ↦
          let other = eqb-false c chain differs in
          get_or-set_other heads chain c number 0 other ∙ linked.last c below ∙ front_alike (is_on size c) (length ds) (omega arith)
          ∙ sym (last_not_here (is_on size c) (ds ++ (Some digest ∷ [])) (length ds) (not_on size c digest _ seam (λ e. other (sym (own ∙ e)))))
          ∙ sym (ap (last_of (is_on size c) (ds ++ (Some digest ∷ []))) longer)
    ]

    some_same : (a b : ℕ) (o : Option ℕ) → o ≡ Some a → o ≡ Some b → a ≡ b
    some_same a b o e f = cc

    next_after : (slot d : ℕ) → slot < length (ds ++ (Some digest ∷ [])) → get_or (ds ++ (Some digest ∷ [])) slot None ≡ Some d →
        get_or (nexts ++ (before ∷ [])) slot 0 ≡ last_of (is_on size (chain_of size d)) (ds ++ (Some digest ∷ [])) slot
    next_after slot d below there = elim (cases_Bool (slot == length ds)) [
      | inl same ↦
          let here = eqb-true slot (length ds) same in
          let own_digest : digest ≡ d = some_same digest d _ seam (ap (λ k. get_or (ds ++ (Some digest ∷ [])) k None) (sym here) ∙ there) in
          ap (λ k. get_or (nexts ++ (before ∷ [])) k 0) (here ∙ sym linked.even) ∙ get_or-append_seam nexts before [] 0
          ∙ before_is ∙ linked.last chain within ∙ front_alike (is_on size chain) (length ds) (omega arith)
          ∙ ap (λ c. last_of (is_on size c) (ds ++ (Some digest ∷ [])) (length ds)) (own ∙ ap (chain_of size) own_digest)
          ∙ ap (last_of (is_on size (chain_of size d)) (ds ++ (Some digest ∷ []))) (sym here)
      | inr differs ↦
          let other = eqb-false slot (length ds) differs in
          let below_old : slot < length ds = omega (arith, longer, other) in
          get_or_append_left nexts (before ∷ []) 0 slot (omega (arith, linked.even))
          ∙ linked.before slot d below_old (sym (get_or_append_left ds (Some digest ∷ []) None slot below_old) ∙ there)
          ∙ front_alike (is_on size (chain_of size d)) slot (omega arith)
    ]

    pub linked_more : length ds < size → AreLinked size (set heads chain number) (ds ++ (Some digest ∷ [])) (nexts ++ (before ∷ []))
    linked_more room = record {
      sized = length-set heads chain number ∙ linked.sized;
      even = omega (arith, length-append nexts (before ∷ []), length-append ds (Some digest ∷ []), linked.even);
      room = omega (arith, longer);
      few = linked.few;
      last = head_after;
      before = next_after;
    }

  -- ---- a slot fewer
  module _ (digest chain before slot : ℕ) (own : chain ≡ chain_of size digest) (within : chain < size) (below : slot < length ds)
      (there : get_or ds slot None ≡ Some digest) (before_is : before ≡ get_or nexts slot 0) where
    before_last : before ≡ last_of (is_on size chain) ds slot
    before_last = before_is ∙ linked.before slot digest below there ∙ ap (λ c. last_of (is_on size c) ds slot) (sym own)

    -- a chain whose last slot it was is its own
    chain_is : (c n : ℕ) → last_of (is_on size c) ds n ≡ suc slot → c ≡ chain
    chain_is c n e = sym (own ∙ own_of size c digest _ there (at_last (is_on size c) ds n slot e))

    still_there : (j d : ℕ) → get_or (set ds slot None) j None ≡ Some d → (j ≡ slot → ⊥) × (get_or ds j None ≡ Some d)
    still_there j d is = elim (cases_Bool (j == slot)) [
      | inl same ↦
          let gone : None ≡ Some d = sym (get_or-set_same ds slot None None below) ∙ ap (λ k. get_or (set ds slot None) k None) (sym (eqb-true j slot same)) ∙ is in
          cc
      | inr differs ↦ (eqb-false j slot differs, sym (get_or-set_other ds slot j None None (eqb-false j slot differs)) ∙ is)
    ]

    on_chain : (j d : ℕ) → get_or ds j None ≡ Some d → chain_of size d ≡ chain → passes (is_on size chain) (get_or ds j None) ≡ true
    on_chain j d is same = on_own size chain d _ is (sym same)

    pub linked_first : last_of (is_on size chain) ds (length ds) ≡ suc slot → AreLinked size (set heads chain before) (set ds slot None) nexts
    linked_first none = record {
      sized = length-set heads chain before ∙ linked.sized;
      even = linked.even ∙ sym (length-set ds slot None);
      room = omega (arith, linked.room, length-set ds slot None);
      few = linked.few;
      last = λ c c_within. elim (cases_Bool (c == chain)) [
        | inl same ↦
            subst (λ k. get_or (set heads chain before) k 0 ≡ last_of (is_on size k) (set ds slot None) (length (set ds slot None))) (sym (eqb-true c chain same))
            (get_or-set_same heads chain before 0 (omega (arith, linked.sized, within)) ∙ before_last
            ∙ sym (last_passed_on (is_on size chain) ds slot below (length ds) none) ∙ ap (last_of (is_on size chain) (set ds slot None)) (sym (length-set ds slot None)))
        | inr differs ↦
            get_or-set_other heads chain c before 0 (eqb-false c chain differs) ∙ linked.last c c_within
            ∙ sym (last_kept (is_on size c) ds slot below (length ds) (λ e. eqb-false c chain differs (chain_is c (length ds) e)))
            ∙ ap (last_of (is_on size c) (set ds slot None)) (sym (length-set ds slot None))
      ];
      before = λ j d j_below is.
          let old = still_there j d is in
          let j_old : j < length ds = omega (arith, length-set ds slot None) in
          linked.before j d j_old old.1
          ∙ sym (last_kept (is_on size (chain_of size d)) ds slot below j (λ e.
          let reached = reaches (is_on size chain) ds j (length ds) j_old (on_chain j d old.1 (chain_is (chain_of size d) j e)) in
          let lower = last_le (is_on size (chain_of size d)) ds j in
          absurd (omega (arith, reached, none, lower, e))));
    }

    pub linked_behind : (f : ℕ) → IsBehind (is_on size chain) ds slot f → AreLinked size heads (set ds slot None) (set nexts f before)
    linked_behind f behind = record {
      sized = linked.sized;
      even = length-set nexts f before ∙ linked.even ∙ sym (length-set ds slot None);
      room = omega (arith, linked.room, length-set ds slot None);
      few = linked.few;
      last = λ c c_within.
          linked.last c c_within
          ∙ sym (last_kept (is_on size c) ds slot below (length ds) (λ e.
          let reached = reaches (is_on size chain) ds f (length ds) behind.there behind.on in
          let same = ap (λ k. last_of (is_on size k) ds (length ds)) (chain_is c (length ds) e) in
          let lower = last_le (is_on size chain) ds f in
          absurd (omega (arith, reached, same, lower, e, behind.before))))
          ∙ ap (last_of (is_on size c) (set ds slot None)) (sym (length-set ds slot None));
      before = λ j d j_below is.
          let old = still_there j d is in
          let j_old : j < length ds = omega (arith, length-set ds slot None) in
          elim (cases_Bool (j == f)) [
            | inl same ↦
                let here = eqb-true j f same in
                let chain_same : chain_of size d ≡ chain = own_of size chain d _ (ap (λ k. get_or ds k None) (sym here) ∙ old.1) behind.on in
                ap (λ k. get_or (set nexts f before) k 0) here ∙ get_or-set_same nexts f before 0 (omega (arith, linked.even, behind.there)) ∙ before_last
                ∙ sym (last_passed_on (is_on size chain) ds slot below f (let e : last_of (is_on size chain) ds f ≡ suc slot = omega (arith, behind.before) in e))
                ∙ ap (last_of (is_on size chain) (set ds slot None)) (sym here)
                ∙ ap (λ c. last_of (is_on size c) (set ds slot None) j) (sym chain_same)
            | inr differs ↦
                let other = eqb-false j f differs in
                get_or-set_other nexts f j before 0 other ∙ linked.before j d j_old old.1
                ∙ sym (last_kept (is_on size (chain_of size d)) ds slot below j (λ e.
                let chain_same = chain_is (chain_of size d) j e in
                let e_own = ap (λ k. last_of (is_on size k) ds j) chain_same in
                let j_on = on_chain j d old.1 chain_same in
                let j_lower = last_le (is_on size (chain_of size d)) ds j in
                let f_lower = last_le (is_on size chain) ds f in
                elim (below_or j f other) [
                  | inl before_f ↦ absurd (omega (arith, reaches (is_on size chain) ds j f before_f j_on, behind.before, e, j_lower))
                  | inr behind_f ↦ absurd (omega (arith, reaches (is_on size chain) ds f j behind_f behind.on, e_own, e, behind.before, f_lower))
                ]))
          ];
    }
