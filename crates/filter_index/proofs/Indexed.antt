-- The indexes of `Filters` after one filter more, one fewer, and one with other actions.
use Rattle.std.proofs.Common.{◌≡◌, ℕ, ◌==◌, ◌+◌, Bool, true, false, cond, List, [], ◌∷◌, ◌++◌, length, set, Option, Some, None, refl, sym, ap, ◌∙◌, subst, arith}
use Rattle.std.specs.Prelude.{nat_eq}
use Rattle.std.specs.List.{list_any}
use Rattle.std.specs.HashMap.{HashMap, get, hash_map_len}
use Rattle.std.proofs.lemmas.List.{length-append, length-map, map-append, map-set}
use Rattle.std.proofs.Math.Seq.{map-set_same}
use Rattle.filter_index.specs.declared.filter.Filter.{Filter}
use Rattle.filter_index.specs.Listed.{has_handle, has_key, AreApart, without, with_actions, those_there}
use Rattle.filter_index.specs.Places.{place_of, digest_in, AreIndexed}
use Rattle.filter_index.specs.Digests.{digest_of}
use Rattle.filter_index.proofs.Apart.{same_handle, handle_before, handle_behind, handle_apart, more_apart, fewer_apart, acting_all_apart}
use Rattle.filter_index.proofs.Cuts.{Cut, cut_set, cut_read, filter_one, map_one}
use Rattle.filter_index.proofs.Slots.{there_append, none_there, place_same, place_emptied, place_other, place_new}

-- ---- one filter more
pushed_at : (b : Bool) (test : Filter → Bool) (slots : List (Option Filter)) (f : Filter) (at : ℕ) (was now : Option ℕ) → at ≡ length slots → test f ≡ b → was ≡ place_of test slots →
    (b ≡ true → list_any test (those_there slots) ≡ false) → now ≡ cond b (Some at) was → now ≡ place_of test (slots ++ Some f ∷ [])
pushed_at true test slots f at was now end is was_is new now_is = now_is ∙ ap Some end ∙ sym (place_new test slots f (none_there test slots (new refl)) is)
pushed_at false test slots f at was now end is was_is new now_is = now_is ∙ was_is ∙ sym (place_other test slots f is)

module _ {S : Type 0} (handles : HashMap ℕ ℕ S) (digests : List (Option ℕ)) (slots : List (Option Filter)) (indexed : AreIndexed handles digests slots) where
  pub one_more : (f : Filter) (at : ℕ) (handles_now : HashMap ℕ ℕ S) → at ≡ length slots →
      list_any (has_handle f.handle) (those_there slots) ≡ false → list_any (has_key f.key.words) (those_there slots) ≡ false →
      ((q : ℕ) → get nat_eq handles_now q ≡ cond (nat_eq f.handle q) (Some at) (get nat_eq handles q)) →
      hash_map_len handles_now ≡ hash_map_len handles + 1 → AreIndexed handles_now (digests ++ (Some (digest_of f.key.words) ∷ [])) (slots ++ Some f ∷ [])
  one_more f at handles_now end handle key handles_are count =
      let there = there_append slots (Some f ∷ []) in
      record {
        handle_at = λ q. pushed_at (f.handle == q) (has_handle q) slots f at (get nat_eq handles q) (get nat_eq handles_now q) end refl (indexed.handle_at q)
            (λ same. subst (λ h. list_any (has_handle h) (those_there slots) ≡ false) (same_handle f.handle q same) handle) (handles_are q);
        even = ap (λ ds. ds ++ (Some (digest_of f.key.words) ∷ [])) indexed.even ∙ sym (map-append digest_in slots (Some f ∷ []));
        count = omega (arith, count, indexed.count, ap length there, length-append (those_there slots) (f ∷ []));
        apart = subst AreApart (sym there) (more_apart (those_there slots) f indexed.apart handle key);
      }

  -- ---- the same filters
  pub reordered : (handles_now : HashMap ℕ ℕ S) (digests_now : List (Option ℕ)) → ((q : ℕ) → get nat_eq handles_now q ≡ get nat_eq handles q) →
      digests_now ≡ digests → hash_map_len handles_now ≡ hash_map_len handles → AreIndexed handles_now digests_now slots
  reordered handles_now digests_now handles_are same count = record {
    handle_at = λ q. handles_are q ∙ indexed.handle_at q;
    even = same ∙ indexed.even;
    count = count ∙ indexed.count;
    apart = indexed.apart;
  }

-- ---- one filter fewer
emptied_at : (b : Bool) (test : Filter → Bool) (front back : List (Option Filter)) (f : Filter) (was now : Option ℕ) → test f ≡ b →
    was ≡ place_of test (front ++ Some f ∷ back) → (b ≡ true → list_any test (those_there front ++ those_there back) ≡ false) → now ≡ cond b None was →
    now ≡ place_of test (front ++ None ∷ back)
emptied_at true test front back f was now is was_is alone now_is =
    now_is ∙ sym (none_there test (front ++ None ∷ back) (ap (list_any test) (there_append front (None ∷ back)) ∙ alone refl))
emptied_at false test front back f was now is was_is alone now_is = now_is ∙ was_is ∙ sym (place_emptied test front back f is)

-- ---- the filters around the one of a handle
cut_apart : (slots : List (Option Filter)) (handle at : ℕ) (c : Cut (has_handle handle) slots at) → AreApart (those_there slots) →
    AreApart (those_there c.front ++ c.value ∷ those_there c.back)
cut_apart slots handle at c apart = subst AreApart (ap those_there c.is ∙ there_append c.front (Some c.value ∷ c.back)) apart

cut_before : (slots : List (Option Filter)) (handle at : ℕ) (c : Cut (has_handle handle) slots at) → AreApart (those_there slots) →
    list_any (has_handle handle) (those_there c.front) ≡ false
cut_before slots handle at c apart =
    subst (λ h. list_any (has_handle h) (those_there c.front) ≡ false) (same_handle c.value.handle handle c.passes)
    (handle_before (those_there c.front) c.value (those_there c.back) (cut_apart slots handle at c apart))

cut_behind : (slots : List (Option Filter)) (handle at : ℕ) (c : Cut (has_handle handle) slots at) → AreApart (those_there slots) →
    list_any (has_handle handle) (those_there c.back) ≡ false
cut_behind slots handle at c apart =
    subst (λ h. list_any (has_handle h) (those_there c.back) ≡ false) (same_handle c.value.handle handle c.passes)
    (handle_behind (those_there c.front) c.value (those_there c.back) (cut_apart slots handle at c apart))

module _ (slots : List (Option Filter)) (handle at : ℕ) (c : Cut (has_handle handle) slots at) (apart : AreApart (those_there slots)) (now : List Filter)
    (list : those_there slots ≡ now) where
  cut_list : those_there c.front ++ c.value ∷ those_there c.back ≡ now
  cut_list = sym (ap those_there c.is ∙ there_append c.front (Some c.value ∷ c.back)) ∙ list

  pub there_without : those_there (set slots at None) ≡ without handle now
  there_without =
      ap those_there (cut_set (has_handle handle) slots at None c) ∙ there_append c.front (None ∷ c.back)
      ∙ sym (filter_one (has_handle handle) (those_there c.front) (those_there c.back) c.value (cut_before slots handle at c apart) c.passes (cut_behind slots handle at c apart))
      ∙ ap (without handle) cut_list

  pub there_with : (actions : List ℕ) → those_there (set slots at (Some (record c.value { actions = actions }))) ≡ with_actions handle actions now
  there_with actions =
      ap those_there (cut_set (has_handle handle) slots at (Some (record c.value { actions = actions })) c)
      ∙ there_append c.front (Some (record c.value { actions = actions }) ∷ c.back)
      ∙ sym (map_one (has_handle handle) (λ f. record f { actions = actions }) (those_there c.front) (those_there c.back) c.value
      (cut_before slots handle at c apart) c.passes (cut_behind slots handle at c apart))
      ∙ ap (with_actions handle actions) cut_list

fewer : (slots : List (Option Filter)) (at handle : ℕ) (c : Cut (has_handle handle) slots at) (was now : ℕ) → was ≡ length (those_there slots) → now + 1 ≡ was →
    now ≡ length (those_there (set slots at None))
fewer slots at handle c was now was_is now_is =
    omega (
      arith,
      was_is,
      now_is,
      ap length (ap those_there (cut_set (has_handle handle) slots at None c) ∙ there_append c.front (None ∷ c.back)),
      ap length (ap those_there c.is ∙ there_append c.front (Some c.value ∷ c.back)),
      length-append (those_there c.front) (those_there c.back),
      length-append (those_there c.front) (c.value ∷ those_there c.back),
    )

-- ---- the indexes without that filter, and where it has other actions
module _ {S : Type 0} (handles : HashMap ℕ ℕ S) (digests : List (Option ℕ)) (slots : List (Option Filter)) (indexed : AreIndexed handles digests slots)
    (handle at : ℕ) (c : Cut (has_handle handle) slots at) where
  pub one_fewer : (handles_now : HashMap ℕ ℕ S) →
      ((q : ℕ) → get nat_eq handles_now q ≡ cond (nat_eq handle q) None (get nat_eq handles q)) →
      hash_map_len handles_now + 1 ≡ hash_map_len handles → AreIndexed handles_now (set digests at None) (set slots at None)
  one_fewer handles_now handles_are count =
      let apart = cut_apart slots handle at c indexed.apart in
      let emptied = cut_set (has_handle handle) slots at None c in
      let own : c.value.handle ≡ handle = same_handle c.value.handle handle c.passes in
      record {
        handle_at = λ q.
            emptied_at (handle == q) (has_handle q) c.front c.back c.value (get nat_eq handles q) (get nat_eq handles_now q) (ap (λ h. h == q) own)
            (indexed.handle_at q ∙ ap (place_of (has_handle q)) c.is)
            (λ same. subst (λ h. list_any (has_handle h) (those_there c.front ++ those_there c.back) ≡ false) (own ∙ same_handle handle q same)
            (handle_apart (those_there c.front) c.value (those_there c.back) apart)) (handles_are q)
            ∙ sym (ap (place_of (has_handle q)) emptied);
        even = ap (λ ds. set ds at None) indexed.even ∙ sym (map-set digest_in slots at None);
        count = fewer slots at handle c (hash_map_len handles) (hash_map_len handles_now) indexed.count count;
        apart = subst AreApart (sym (there_without slots handle at c indexed.apart (those_there slots) refl)) (fewer_apart handle (those_there slots) indexed.apart);
      }

  pub other_actions : (actions : List ℕ) → AreIndexed handles digests (set slots at (Some (record c.value { actions = actions })))
  other_actions actions =
      let changed : Filter = record c.value { actions = actions } in
      let moved = sym (cut_set (has_handle handle) slots at (Some changed) c) in
      let there = there_with slots handle at c indexed.apart (those_there slots) refl actions in
      record {
        handle_at = λ q. indexed.handle_at q ∙ ap (place_of (has_handle q)) c.is ∙ sym (place_same (has_handle q) c.front c.back c.value changed refl)
            ∙ ap (place_of (has_handle q)) moved;
        even = indexed.even
            ∙ sym (map-set_same digest_in slots at (Some changed) None (sym (ap digest_in (cut_read (has_handle handle) slots at None c))));
        count = indexed.count ∙ sym (ap length there ∙ length-map (those_there slots) (λ (f : Filter). cond (has_handle handle f) (record f { actions = actions }) f));
        apart = subst AreApart (sym there) (acting_all_apart handle actions (those_there slots) indexed.apart);
      }
