-- Which serials the rows name that an edit takes away.
use Rattle.std.proofs.Common.{◌≡◌, ◌∙◌, ◌⊎◌, inl, inr, ℕ, arith, ◌&&◌, Bool, true, false, cond, List, [], ◌∷◌, ◌++◌, filter, Some, refl, sym, ap, subst}
use Rattle.std.specs.List.{flat_map}
use Rattle.std.proofs.lemmas.Bool.Decides.{nat_tests}
use Rattle.tc_base.specs.declared.hook.Hook.{Hook}
use Rattle.filter_state.specs.States.{Row}
use Rattle.filter_state.specs.Order.{SameRows, none, keep, exchange, joined}
use Rattle.filter_state.specs.Sound.{Each, EachPair, GoTogether}
use Rattle.filter_state.specs.Tables.{in_table, has_handle, first_where, filter_row}
use Rattle.state_laws.proofs.Tests.{row_in_table}
use Rattle.state_laws.proofs.OfOrder.Same.{filter_same, same_sym}
use Rattle.hook_law.specs.Standing.{IsIn}
use Rattle.root_pool_laws.proofs.Apart.{in_append, in_left, in_right}
use Rattle.desk_parts.specs.OfLineActions.Gone.{named_by}
use Rattle.desk_parts.specs.OfGoneSerials.Same.{HaveSame}

abbrev pub serials_of : List Row → List ℕ
serials_of rows = flat_map (λ (row : Row). row.actions) rows

nowhere : {A : Type 0} (x : A) → IsIn x [] → ⊥
nowhere x at = cc at.1

either_way : (xs ys zs : List ℕ) (n : ℕ) → IsIn n (xs ++ (ys ++ zs)) → IsIn n (ys ++ (xs ++ zs))
either_way xs ys zs n at = pick (in_append xs (ys ++ zs) n at)
  where
    rest : IsIn n ys ⊎ IsIn n zs → IsIn n (ys ++ (xs ++ zs))
    rest (inl one) = in_left ys (xs ++ zs) n one
    rest (inr other) = in_right ys (xs ++ zs) n (in_right xs zs n other)

    pick : IsIn n xs ⊎ IsIn n (ys ++ zs) → IsIn n (ys ++ (xs ++ zs))
    pick (inl one) = in_right ys (xs ++ zs) n (in_left xs zs n one)
    pick (inr other) = rest (in_append ys zs n other)

kept_in : (xs ys zs : List ℕ) (n : ℕ) → (IsIn n ys → IsIn n zs) → IsIn n (xs ++ ys) → IsIn n (xs ++ zs)
kept_in xs ys zs n goes at = pick (in_append xs ys n at)
  where
    pick : IsIn n xs ⊎ IsIn n ys → IsIn n (xs ++ zs)
    pick (inl one) = in_left xs zs n one
    pick (inr other) = in_right xs zs n (goes other)

-- rows in another order name the same
pub same_serials : {xs ys : List Row} → SameRows xs ys → (n : ℕ) → IsIn n (serials_of xs) → IsIn n (serials_of ys)
same_serials none n at = at
same_serials (keep {x = x} {xs = xs} {ys = ys} same) n at = kept_in x.actions (serials_of xs) (serials_of ys) n (same_serials same n) at
same_serials (exchange {x = x} {y = y} {xs = xs} other) n at = either_way x.actions y.actions (serials_of xs) n at
same_serials (joined one two) n at = same_serials two n (same_serials one n at)

-- ---- one filter
module _ (hook : Hook) (chain pref handle : ℕ) where
  abbrev test : Row → Bool
  test row = in_table hook chain pref row && has_handle handle row

  both : (b c : Bool) → (b && c) ≡ true → (b ≡ true) × (c ≡ true)
  both true c e = (refl, e)
  both false c e = absurd (cc e)

  -- two rows that go together aren't both of that handle
  not_two : (x y : Row) → GoTogether x y → test x ≡ true → test y ≡ true → ⊥
  not_two x y together one two =
      let a = both (in_table hook chain pref x) (has_handle handle x) one in let b = both (in_table hook chain pref y) (has_handle handle y) two in
      let p = row_in_table hook chain pref x a.0 in let q = row_in_table hook chain pref y b.0 in
      let first : x.handle ≡ handle = grind (arith, nat_tests, a.1) in let second : y.handle ≡ handle = grind (arith, nat_tests, b.1) in
      together.handles (together.one_table (p.0 ∙ sym q.0) (p.1 ∙ sym q.1) (p.2 ∙ sym q.2)) (first ∙ sym second)

  alone : (x : Row) (xs : List Row) → test x ≡ true → Each (GoTogether x) xs → filter test xs ≡ []
  alone x [] is each = refl
  alone x (y ∷ xs) is each = pick (test y) refl (alone x xs is each.1)
    where
      pick : (t : Bool) → test y ≡ t → filter test xs ≡ [] → filter test (y ∷ xs) ≡ []
      pick true two rest = absurd (not_two x y each.0 is two)
      pick false two rest = ap (λ (b : Bool). cond b (y ∷ filter test xs) (filter test xs)) two ∙ rest

  pub one_row : (rows : List Row) → EachPair GoTogether rows
      → serials_of (filter (λ row. in_table hook chain pref row && has_handle handle row) rows) ≡ named_by (filter_row hook chain pref handle rows)
  one_row [] together = refl
  one_row (x ∷ xs) together = pick (test x) refl (one_row xs together.1)
    where
      append_nil : (l : List ℕ) → l ++ [] ≡ l
      append_nil [] = refl
      append_nil (a ∷ l) = ap (λ m. a ∷ m) (append_nil l)

      pick : (t : Bool) → test x ≡ t → serials_of (filter test xs) ≡ named_by (filter_row hook chain pref handle xs) → serials_of (filter test (x ∷ xs)) ≡ named_by (filter_row hook chain pref handle (x ∷ xs))
      pick true is rest = ap (λ (b : Bool). serials_of (cond b (x ∷ filter test xs) (filter test xs))) is
          ∙ (ap (λ l. x.actions ++ serials_of l) (alone x xs is together.0)
          ∙ (append_nil x.actions ∙ sym (ap (λ (b : Bool). named_by (cond b (Some x) (first_where test xs))) is)))
      pick false is rest = ap (λ (b : Bool). serials_of (cond b (x ∷ filter test xs) (filter test xs))) is
          ∙ (rest ∙ sym (ap (λ (b : Bool). named_by (cond b (Some x) (first_where test xs))) is))

pub have_same : (xs ys : List ℕ) → xs ≡ ys → HaveSame xs ys
have_same xs ys same = record { there = λ n at. subst (IsIn n) same at; back = λ n at. subst (IsIn n) (sym same) at }

pub same_and : (xs ys zs : List ℕ) → xs ≡ ys → HaveSame ys zs → HaveSame xs zs
same_and xs ys zs same have = record { there = λ n at. have.there n (subst (IsIn n) same at); back = λ n at. subst (IsIn n) (sym same) (have.back n at) }

-- rows in another order, of one test
pub rows_have : (p : Row → Bool) {xs ys : List Row} → SameRows xs ys → HaveSame (serials_of (filter p xs)) (serials_of (filter p ys))
rows_have p same = record { there = same_serials (filter_same p same); back = same_serials (filter_same p (same_sym same)) }
