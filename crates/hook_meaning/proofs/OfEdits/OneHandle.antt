-- A filter of a mask is the only one there with its handle: what is in front of it and behind it.
use Rattle.std.proofs.Common.{◌≡◌, ◌≢◌, ℕ, ◌&&◌, Bool, true, false, not, cond, List, [], ◌∷◌, ◌++◌, map, Some, refl, sym, ◌∙◌, ap, subst, eqb-true, eq-eqb}
use Rattle.std.specs.Prelude.{filter}
use Rattle.std.proofs.lemmas.Bool.{eqb-false, and_parts, and_from, false_from_ne_true}
use Rattle.std.proofs.lemmas.Option.{same_Some}
use Rattle.filter_state.specs.States.{Row, State}
use Rattle.filter_state.specs.Tables.{first_where, has_handle}
use Rattle.filter_state.specs.Order.{of_mask}
use Rattle.filter_state.specs.Sound.{Sound, Each, EachPair, GoTogether}
use Rattle.filter_state.proofs.Pairs.{each_weaker, pairs_all, pairs_weaker, found, any_first}
use Rattle.state_laws.proofs.Places.{NotBoth, only_one}
use Rattle.state_laws.proofs.Room.{found_any}
use Rattle.row_laws.proofs.OfLookups.Heads.{head_of, filter_and}
use Rattle.walk_rules.proofs.Listed.{unkept}
use Rattle.edit_effects.specs.OfEffects.Parts.{Filter, filter_of, filters_of, is_handle, without}
use Rattle.edit_effects.specs.OfEffects.Effects.{with_actions}
use Rattle.edit_effects.proofs.OfEffects.Kept.{kept_of_mapped}

-- ---- the one row of a mask with a handle
abbrev of_handle : ℕ → ℕ → Row → Bool
of_handle mask handle x = of_mask mask x && has_handle handle x

not_both : (mask handle : ℕ) (x y : Row) → GoTogether x y → NotBoth (of_handle mask handle) x y
not_both mask handle x y go here there =
    let a = and_parts (of_mask mask x) (has_handle handle x) here in
    let b = and_parts (of_mask mask y) (has_handle handle y) there in
    go.handles (go.same_mask (eqb-true x.mask_serial mask a.0 ∙ sym (eqb-true y.mask_serial mask b.0))).0 (eqb-true x.handle handle a.1 ∙ sym (eqb-true y.handle handle b.1))

-- rows of one mask with one handle are the same
abbrev IsOne : Row → Row → Type 0
IsOne x y = x.mask_serial ≡ y.mask_serial → x.handle ≡ y.handle → x ≡ y

all_one : (rows : List Row) → EachPair GoTogether rows → Each (λ x. Each (IsOne x) rows) rows
all_one rows pairs =
    pairs_all IsOne (λ x mask handle. refl) (λ x y one mask handle. sym (one (sym mask) (sym handle))) rows
    (pairs_weaker GoTogether IsOne (λ x y go mask handle. absurd (go.handles (go.same_mask mask).0 handle)) rows pairs)

only_row : (test : Row → Bool) (rows : List Row) (row : Row) → EachPair GoTogether rows → first_where test rows ≡ Some row → filter (of_handle row.mask_serial row.handle) rows ≡ row ∷ []
only_row test rows row pairs is =
    let it : Row → Bool = of_handle row.mask_serial row.handle in
    let itself = and_from (of_mask row.mask_serial row) (has_handle row.handle row) (eq-eqb row.mask_serial row.mask_serial refl) (eq-eqb row.handle row.handle refl) in
    let first = any_first it rows (found_any test it rows row is itself) in
    let one = (found (λ x. Each (IsOne x) rows) test rows row (all_one rows pairs) is).0 in
    let has = found (IsOne row) it rows first.0 one first.1 in
    let parts = and_parts (of_mask row.mask_serial first.0) (has_handle row.handle first.0) has.1 in
    let same = has.0 (sym (eqb-true first.0.mask_serial row.mask_serial parts.0)) (sym (eqb-true first.0.handle row.handle parts.1)) in
    only_one it rows row (pairs_weaker GoTogether (NotBoth it) (not_both row.mask_serial row.handle) rows pairs) (first.1 ∙ ap (λ x. Some x) (sym same))

pub only_filter : (s : State) (test : Row → Bool) (row : Row) → Sound s → first_where test s.rows ≡ Some row →
    filter (is_handle row.handle) (filters_of s row.mask_serial) ≡ filter_of row ∷ []
only_filter s test row sound is =
    kept_of_mapped (is_handle row.handle) filter_of (filter (of_mask row.mask_serial) s.rows)
    ∙ ap (map filter_of) (sym (filter_and (of_mask row.mask_serial) (has_handle row.handle) s.rows) ∙ only_row test s.rows row sound.together is)

-- ---- around it
module _ (handle : ℕ) (serials : List ℕ) where
  abbrev put : Filter → Filter
  put f = record f { actions = serials }

  -- the list with the filter, with other actions in its place, and without it
  pub record Around (fs : List Filter) (f : Filter) : Type 0 where
    pub earlier : List Filter
    pub later : List Filter
    pub whole : fs ≡ earlier ++ f ∷ later
    pub changed : with_actions handle serials fs ≡ earlier ++ put f ∷ later
    pub left : without handle fs ≡ earlier ++ later
    pub front : Each (λ (g : Filter). g.handle ≢ handle) earlier
    pub back : Each (λ (g : Filter). g.handle ≢ handle) later

  none_of : (fs : List Filter) → filter (is_handle handle) fs ≡ [] → Each (λ f. is_handle handle f ≡ false) fs
  none_of fs none =
      each_weaker (λ f. is_handle handle f ≡ true → ⊥) (λ f. is_handle handle f ≡ false) (λ f differs. false_from_ne_true (is_handle handle f) differs) fs
      (unkept (λ f. ⊥) (is_handle handle) fs (subst (Each (λ f. ⊥)) (sym none) tt))

  untouched : (fs : List Filter) → Each (λ f. is_handle handle f ≡ false) fs → (with_actions handle serials fs ≡ fs) × (without handle fs ≡ fs)
  untouched [] all = (refl, refl)
  untouched (f ∷ fs) all = let rest = untouched fs all.1 in (
    ap (λ b. cond b (put f) f ∷ with_actions handle serials fs) all.0 ∙ ap (λ gs. f ∷ gs) rest.0,
    ap (λ b. cond (not b) (f ∷ without handle fs) (without handle fs)) all.0 ∙ ap (λ gs. f ∷ gs) rest.1,
  )

  abbrev tail_of : List Filter → List Filter
  tail_of [] = []
  tail_of (f ∷ fs) = fs

  around_step : (b : Bool) (g f : Filter) (fs : List Filter) → is_handle handle g ≡ b → (filter (is_handle handle) fs ≡ f ∷ [] → Around fs f)
      → cond b (g ∷ filter (is_handle handle) fs) (filter (is_handle handle) fs) ≡ f ∷ [] → Around (g ∷ fs) f
  around_step true g f fs is more e =
      let none = none_of fs (ap tail_of e) in
      let rest = untouched fs none in
      subst (Around (g ∷ fs)) (same_Some g f (ap head_of e))
      (record {
        earlier = [];
        later = fs;
        whole = refl;
        changed = ap (λ b. cond b (put g) g ∷ with_actions handle serials fs) is ∙ ap (λ gs. put g ∷ gs) rest.0;
        left = ap (λ b. cond (not b) (g ∷ without handle fs) (without handle fs)) is ∙ rest.1;
        front = tt;
        back = each_weaker (λ h. is_handle handle h ≡ false) (λ (h : Filter). h.handle ≢ handle) (λ h other. eqb-false h.handle handle other) fs none;
      })
  around_step false g f fs is more e = let a = more e in record {
    earlier = g ∷ a.earlier;
    later = a.later;
    whole = ap (λ gs. g ∷ gs) a.whole;
    changed = ap (λ b. cond b (put g) g ∷ with_actions handle serials fs) is ∙ ap (λ gs. g ∷ gs) a.changed;
    left = ap (λ b. cond (not b) (g ∷ without handle fs) (without handle fs)) is ∙ ap (λ gs. g ∷ gs) a.left;
    front = (eqb-false g.handle handle is, a.front);
    back = a.back;
  }

  pub around : (fs : List Filter) (f : Filter) → filter (is_handle handle) fs ≡ f ∷ [] → Around fs f
  around [] f e = absurd (cc e)
  around (g ∷ fs) f e = around_step (is_handle handle g) g f fs refl (around fs f) e
