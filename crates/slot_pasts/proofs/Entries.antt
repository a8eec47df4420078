-- Entries by their names.
use Rattle.std.proofs.Common.{◌≡◌, ◌∙◌, ℕ, zero, suc, ◌<◌, Bool, true, false, List, [], ◌∷◌, ◌++◌, length, get_or, set, Option, Some, None, option_map, refl, sym, ap, subst, arith}
use Rattle.std.specs.Prelude.{if◌then◌else◌}
use Rattle.std.specs.Str.{bytes_eq}
use Rattle.std.proofs.lemmas.Slice.Eq.{bytes_eq-Decides}
use Rattle.slot_pasts.specs.declared.named.NamedPast.{NamedPast}
use Rattle.slot_pasts.specs.Names.{SlotPast, past_of, place_of}

-- ---- names
same_name : (a b other : List ℕ) → bytes_eq a b ≡ true → bytes_eq a other ≡ bytes_eq b other
same_name a b other is = ap (λ (n : List ℕ). bytes_eq n other) ((bytes_eq-Decides a b).0 is)

-- two names of one entry are one
apart_by : (first name other : List ℕ) → bytes_eq first name ≡ false → bytes_eq first other ≡ true → bytes_eq name other ≡ false
apart_by first name other differs same = by_value (bytes_eq name other) refl
  where
    by_value : (b : Bool) → bytes_eq name other ≡ b → b ≡ false
    by_value true is =
        let one : first ≡ other = (bytes_eq-Decides first other).0 same in
        let two : name ≡ other = (bytes_eq-Decides name other).0 is in
        absurd (cc (sym differs ∙ ap (λ (n : List ℕ). bytes_eq n name) (one ∙ sym two) ∙ (bytes_eq-Decides name name).1 refl))
    by_value false is = refl

push_by : (b : Bool) (o : Option ℕ) (c : Bool) (n : ℕ) → (b ≡ true → c ≡ false) → (if b then Some 0 else option_map suc (if c then Some n else o)) ≡ (if c then Some (suc n) else (if b then Some 0 else option_map suc o))
push_by true o c n apart = ap (λ (d : Bool). if d then Some (suc n) else Some 0) (sym (apart refl))
push_by false o true n apart = refl
push_by false o false n apart = refl

-- ---- the entry of a name
pub record IsThere {V : Type 0} (entries : List (NamedPast V)) (name : List ℕ) (place : ℕ) (d : NamedPast V) : Type 0 where
  pub within : place < length entries
  pub named : bytes_eq (get_or entries place d).name name ≡ true
  pub past : past_of entries name ≡ (get_or entries place d).past

module _ {V : Type 0} where
  deeper : (entry : NamedPast V) (entries : List (NamedPast V)) (name : List ℕ) (o : Option ℕ) (place : ℕ) (d : NamedPast V) → bytes_eq entry.name name ≡ false → place_of entries name ≡ o → option_map suc o ≡ Some place
      → ((before : ℕ) → place_of entries name ≡ Some before → IsThere entries name before d) → IsThere (entry ∷ entries) name place d
  deeper entry entries name None place d other is at rest = absurd (cc at)
  deeper entry entries name (Some before) place d other is at rest =
      let it = rest before is in
      let same : suc before ≡ place = cc at in
      let less = it.within in
      subst (λ (n : ℕ). IsThere (entry ∷ entries) name n d) same (record {
        within = omega (arith, less);
        named = it.named;
        past = ap (λ (b : Bool). if b then entry.past else past_of entries name) other ∙ it.past;
      })

  pub there : (entries : List (NamedPast V)) (name : List ℕ) (place : ℕ) (d : NamedPast V) → place_of entries name ≡ Some place → IsThere entries name place d
  there [] name place d is = absurd (cc is)
  there (entry ∷ entries) name place d is = by_test (bytes_eq entry.name name) refl is (λ before at. there entries name before d at)
    where
      by_test : (b : Bool) → bytes_eq entry.name name ≡ b → (if b then Some 0 else option_map suc (place_of entries name)) ≡ Some place
          → ((before : ℕ) → place_of entries name ≡ Some before → IsThere entries name before d) → IsThere (entry ∷ entries) name place d
      by_test true same is rest =
          let first : 0 ≡ place = cc is in
          subst (λ (n : ℕ). IsThere (entry ∷ entries) name n d) first (record { within = omega arith; named = same; past = ap (λ (b : Bool). if b then entry.past else past_of entries name) same })
      by_test false other is rest = deeper entry entries name (place_of entries name) place d other refl is rest

  no_past : (entry : NamedPast V) (entries : List (NamedPast V)) (name : List ℕ) (b : Bool) → bytes_eq entry.name name ≡ b → (if b then Some 0 else option_map suc (place_of entries name)) ≡ None
      → (place_of entries name ≡ None → past_of entries name ≡ []) → past_of (entry ∷ entries) name ≡ []
  no_past entry entries name true same is rest = absurd (cc is)
  no_past entry entries name false other is rest = ap (λ (b : Bool). if b then entry.past else past_of entries name) other ∙ rest (none_of (place_of entries name) is)
    where
      none_of : (o : Option ℕ) → option_map suc o ≡ None → o ≡ None
      none_of None is = refl
      none_of (Some n) is = absurd (cc is)

  pub nowhere : (entries : List (NamedPast V)) (name : List ℕ) → place_of entries name ≡ None → past_of entries name ≡ []
  nowhere [] name is = refl
  nowhere (entry ∷ entries) name is = no_past entry entries name (bytes_eq entry.name name) refl is (λ at. nowhere entries name at)

  -- ---- other changes of one entry

  either : (b c : Bool) (old past now was : SlotPast V) → (b ≡ true → c ≡ false) → now ≡ (if c then past else was) → (if b then old else now) ≡ (if c then past else (if b then old else was))
  either true c old past now was apart rest = ap (λ (d : Bool). if d then past else old) (sym (apart refl))
  either false c old past now was apart rest = rest

  changed_at : (entries : List (NamedPast V)) (name : List ℕ) (place : ℕ) (past : SlotPast V) (d : NamedPast V) → place_of entries name ≡ Some place → (other : List ℕ)
      → past_of (set entries place (record (get_or entries place d) { past = past })) other ≡ (if bytes_eq name other then past else past_of entries other)
  changed_at [] name place past d is other = absurd (cc is)
  changed_at (entry ∷ entries) name place past d is other = by_test (bytes_eq entry.name name) refl is (λ before at. changed_at entries name before past d at other)
    where
      after : (o : Option ℕ) → place_of entries name ≡ o → option_map suc o ≡ Some place → bytes_eq entry.name name ≡ false
          → ((before : ℕ) → place_of entries name ≡ Some before → past_of (set entries before (record (get_or entries before d) { past = past })) other ≡ (if bytes_eq name other then past else past_of entries other))
          → past_of (set (entry ∷ entries) place (record (get_or (entry ∷ entries) place d) { past = past })) other ≡ (if bytes_eq name other then past else past_of (entry ∷ entries) other)
      after None at is differs rest = absurd (cc is)
      after (Some before) at is differs rest =
          let same : suc before ≡ place = cc is in
          subst (λ (n : ℕ). past_of (set (entry ∷ entries) n (record (get_or (entry ∷ entries) n d) { past = past })) other ≡ (if bytes_eq name other then past else past_of (entry ∷ entries) other)) same
          (either (bytes_eq entry.name other) (bytes_eq name other) entry.past past (past_of (set entries before (record (get_or entries before d) { past = past })) other) (past_of entries other)
          (λ hit. apart_by entry.name name other differs hit) (rest before at))

      by_test : (b : Bool) → bytes_eq entry.name name ≡ b → (if b then Some 0 else option_map suc (place_of entries name)) ≡ Some place
          → ((before : ℕ) → place_of entries name ≡ Some before → past_of (set entries before (record (get_or entries before d) { past = past })) other ≡ (if bytes_eq name other then past else past_of entries other))
          → past_of (set (entry ∷ entries) place (record (get_or (entry ∷ entries) place d) { past = past })) other ≡ (if bytes_eq name other then past else past_of (entry ∷ entries) other)
      by_test true same is rest =
          let first : 0 ≡ place = cc is in
          subst (λ (n : ℕ). past_of (set (entry ∷ entries) n (record (get_or (entry ∷ entries) n d) { past = past })) other ≡ (if bytes_eq name other then past else past_of (entry ∷ entries) other)) first
          (ap (λ (b : Bool). if b then past else past_of entries other) (same_name entry.name name other same)
          ∙ here (bytes_eq name other) (bytes_eq entry.name other) (sym (same_name entry.name name other same)))
        where
          here : (b c : Bool) → b ≡ c → (if b then past else past_of entries other) ≡ (if b then past else (if c then entry.past else past_of entries other))
          here true c e = refl
          here false true e = absurd (cc e)
          here false false e = refl
      by_test false differs is rest = after (place_of entries name) refl is differs rest

  pushed_past : (entries : List (NamedPast V)) (entry : NamedPast V) → place_of entries entry.name ≡ None → (other : List ℕ) → past_of (entries ++ (entry ∷ [])) other ≡ (if bytes_eq entry.name other then entry.past else past_of entries other)
  pushed_past [] entry none other = refl
  pushed_past (first ∷ entries) entry none other = by_test (bytes_eq first.name entry.name) refl none (λ at. pushed_past entries entry at other)
    where
      none_of : (o : Option ℕ) → option_map suc o ≡ None → o ≡ None
      none_of None is = refl
      none_of (Some n) is = absurd (cc is)

      by_test : (b : Bool) → bytes_eq first.name entry.name ≡ b → (if b then Some 0 else option_map suc (place_of entries entry.name)) ≡ None
          → (place_of entries entry.name ≡ None → past_of (entries ++ (entry ∷ [])) other ≡ (if bytes_eq entry.name other then entry.past else past_of entries other))
          → past_of ((first ∷ entries) ++ (entry ∷ [])) other ≡ (if bytes_eq entry.name other then entry.past else past_of (first ∷ entries) other)
      by_test true same is rest = absurd (cc is)
      by_test false differs is rest =
          either (bytes_eq first.name other) (bytes_eq entry.name other) first.past entry.past (past_of (entries ++ (entry ∷ [])) other) (past_of entries other)
          (λ hit. apart_by first.name entry.name other differs hit) (rest (none_of (place_of entries entry.name) is))

  pub put_there : (entries : List (NamedPast V)) (name : List ℕ) (place : ℕ) (past : SlotPast V) (d : NamedPast V) → place_of entries name ≡ Some place → (other : List ℕ)
      → past_of (set entries place (record (get_or entries place d) { past = past })) other ≡ (if bytes_eq name other then past else past_of entries other)
  put_there entries name place past d is other = changed_at entries name place past d is other

  pub put_behind : (entries : List (NamedPast V)) (entry : NamedPast V) → place_of entries entry.name ≡ None → (other : List ℕ) → past_of (entries ++ (entry ∷ [])) other ≡ (if bytes_eq entry.name other then entry.past else past_of entries other)
  put_behind = pushed_past

  -- ---- places
  placed_alike : (x y : NamedPast V) (xs ys : List (NamedPast V)) (other : List ℕ) → x.name ≡ y.name → place_of xs other ≡ place_of ys other → place_of (x ∷ xs) other ≡ place_of (y ∷ ys) other
  placed_alike x y xs ys other same rest =
      ap (λ (n : List ℕ). if bytes_eq n other then Some 0 else option_map suc (place_of xs other)) same ∙ ap (λ (o : Option ℕ). if bytes_eq y.name other then Some 0 else option_map suc o) rest

  pub places_stay : (entries : List (NamedPast V)) (place : ℕ) (past : SlotPast V) (d : NamedPast V) (other : List ℕ) → place < length entries → place_of (set entries place (record (get_or entries place d) { past = past })) other ≡ place_of entries other
  places_stay [] place past d other within = absurd (omega (arith, within))
  places_stay (entry ∷ entries) zero past d other within = refl
  places_stay (entry ∷ entries) (suc place) past d other within = placed_alike entry entry (set entries place (record (get_or entries place d) { past = past })) entries other refl (places_stay entries place past d other (omega (arith, within)))

  pub places_push : (entries : List (NamedPast V)) (entry : NamedPast V) (other : List ℕ) → place_of entries entry.name ≡ None → place_of (entries ++ (entry ∷ [])) other ≡ (if bytes_eq entry.name other then Some (length entries) else place_of entries other)
  places_push [] entry other none = by_test (bytes_eq entry.name other)
    where
      by_test : (b : Bool) → (if b then Some 0 else option_map suc None) ≡ (if b then Some 0 else None)
      by_test true = refl
      by_test false = refl
  places_push (first ∷ entries) entry other none = by_test (bytes_eq first.name entry.name) refl none (λ at. places_push entries entry other at)
    where
      none_of : (o : Option ℕ) → option_map suc o ≡ None → o ≡ None
      none_of None is = refl
      none_of (Some n) is = absurd (cc is)

      by_test : (b : Bool) → bytes_eq first.name entry.name ≡ b → (if b then Some 0 else option_map suc (place_of entries entry.name)) ≡ None
          → (place_of entries entry.name ≡ None → place_of (entries ++ (entry ∷ [])) other ≡ (if bytes_eq entry.name other then Some (length entries) else place_of entries other))
          → place_of ((first ∷ entries) ++ (entry ∷ [])) other ≡ (if bytes_eq entry.name other then Some (suc (length entries)) else place_of (first ∷ entries) other)
      by_test true same is rest = absurd (cc is)
      by_test false differs is rest =
          ap (λ (o : Option ℕ). if bytes_eq first.name other then Some 0 else option_map suc o) (rest (none_of (place_of entries entry.name) is))
          ∙ push_by (bytes_eq first.name other) (place_of entries other) (bytes_eq entry.name other) (length entries) (λ hit. apart_by first.name entry.name other differs hit)
