-- A replace with another key or another mask, over the plain states.
use Rattle.std.proofs.Common.{◌≡◌, ◌≢◌, ◌∙◌, ℕ, ◌+◌, ◌<◌, ◌&&◌, ◌||◌, Bool, true, false, not, if◌then◌else◌, List, [], ◌∷◌, ◌++◌, length, Some, Ok, refl, sym, ap, subst, arith, length-append, eqb-true}
use Rattle.std.specs.Str.{bytes_eq}
use Rattle.std.specs.List.{list_any}
use Rattle.std.proofs.lemmas.Bool.{false≢true, false_from_ne_true, and_left, and_right, and_from, and_parts}
use Rattle.filter_state.specs.declared.edit.Edit.TheVariants as edits
use Rattle.filter_state.specs.declared.edit.FilterLine.{FilterLine}
use Rattle.filter_state.specs.declared.refusal.Done.{Done}
use Rattle.filter_state.specs.declared.refusal.Done.TheVariants as dones
use Rattle.filter_state.specs.States.{Row, State}
use Rattle.filter_state.specs.Order.{of_mask}
use Rattle.filter_state.specs.Sound.{Sound, Each}
use Rattle.filter_state.specs.Tables.{first_where, in_table, has_mask, mask_row, mask_or_next}
use Rattle.filter_state.specs.Steps.{step, filter_replace, with_row, with_actions, with_new_actions, without_row, mask_serial_for}
use Rattle.filter_state.proofs.Pairs.{each_both, each_append, each_filter, each_weaker}
use Rattle.state_laws.proofs.Tests.{bytes_eq_true, bytes_eq_from, row_in_table, row_in_table_from}
use Rattle.state_laws.proofs.Fits.{Akin, TableFits, MaskFits}
use Rattle.state_laws.proofs.Old.{is_old}
use Rattle.hook_store_law.specs.OfEffects.Parts.{Stands, filters_of, words_of, without}
use Rattle.hook_store_law.proofs.OfEffects.Adding.{line_filter}
use Rattle.hook_store_law.proofs.OfEffects.Replacing.{Replaces, replaces, moved_row, exchanged_actions}
use Rattle.hook_store_law.proofs.OfEffects.Moving.{MovesKey, MovesMask, Known, known}
use Rattle.hook_store_law.proofs.OfEffects.Moved.{replaced_key, replaced_mask}
use Rattle.hook_store_law.specs.OfEdits.Premises.{named_row}
use Rattle.hook_store_law.proofs.OfEdits.Words.{own_words}
use Rattle.desk_heads.proofs.OfHeadCommits.Standing.{filters_stand}
use Rattle.desk_needs.specs.Live.{count_of}
use Rattle.desk_needs.proofs.OfEditNeeds.Counted.{counted, one_more, one_less}
use Rattle.shared_hook.proofs.OfDeskEdits.Found.{counts}
use Rattle.shared_hook.specs.OfDeskEdits.OfMoves.Tells.{IsMaskIn}

-- ---- the first row that passes a test is of the mask
abbrev Tells : ℕ → (Row → Bool) → Row → Type 0
Tells m test x = (of_mask m x ≡ true → test x ≡ true) × (test x ≡ true → x.mask_serial ≡ m)

abbrev Found : ℕ → (Row → Bool) → List Row → Type 0
Found m test rows = (x : Row) × (first_where test rows ≡ Some x) × (x.mask_serial ≡ m)

first_of : (m : ℕ) (test : Row → Bool) (rows : List Row) → list_any (of_mask m) rows ≡ true → Each (Tells m test) rows → Found m test rows
first_of m test [] some each = absurd (cc some)
first_of m test (r ∷ rs) some each = pick (test r) refl (λ more. first_of m test rs more each.1)
  where
    rest : test r ≡ false → list_any (of_mask m) rs ≡ true
    rest fails = by (of_mask m r) refl some
      where
        by : (u : Bool) → of_mask m r ≡ u → ◌||◌ u (list_any (of_mask m) rs) ≡ true → list_any (of_mask m) rs ≡ true
        by true is e = absurd (false≢true (sym fails ∙ each.0.0 is))
        by false is e = e

    pick : (u : Bool) → test r ≡ u → (list_any (of_mask m) rs ≡ true → Found m test rs) → Found m test (r ∷ rs)
    pick true is more = (r, ap (λ (v : Bool). if v then Some r else first_where test rs) is, each.0.1 is)
    pick false is more = let f = more (rest is) in (f.0, ap (λ (v : Bool). if v then Some r else first_where test rs) is ∙ f.1, f.2)

no_bytes : (a b : List ℕ) → a ≢ b → bytes_eq a b ≡ false
no_bytes a b differ = false_from_ne_true (bytes_eq a b) (λ e. differ (bytes_eq_true a b e))

module _ (s t : State) (line : FilterLine) (done : Done) (row : Row) (sound : Sound s) (e : step s (edits.FilterReplace line) ≡ Ok (t, done)) (is : named_row s line ≡ Some row) where
  abbrev pub a : Replaces s line row t done
  a = replaces s t line row done is e

  k : Known s line row
  k = known s line row sound is a.agrees a.room

  abbrev pub serials : List ℕ
  serials = a.r.serials

  pub answer : done ≡ dones.Filter row.pref row.handle serials
  answer = sym a.answer

  steps : filter_replace s line ≡ Ok (t, dones.Filter row.pref row.handle serials)
  steps = subst (λ d. filter_replace s line ≡ Ok (t, d)) answer e

  abbrev new : Row
  new = moved_row s line row serials

  abbrev left : List Row
  left = without_row row s.rows

  abbrev test : List ℕ → Row → Bool
  test words x = in_table line.hook line.chain row.pref x && has_mask words x

  -- the one that moves comes last
  rows_are : (bytes_eq row.mask line.mask.words && bytes_eq row.key line.key.words) ≡ false → t.rows ≡ left ++ new ∷ []
  rows_are differs = sym (ap (λ (u : State). u.rows) a.after)
      ∙ ap (λ b. (with_actions (if b then record s { rows = with_new_actions row a.r.serials s.rows } else with_row (record s { rows = without_row row s.rows }) (moved_row s line row a.r.serials)) (exchanged_actions row a.r)).rows) differs

  passes : (words : List ℕ) (x : Row) → x.hook ≡ line.hook → x.chain ≡ line.chain → x.pref ≡ row.pref → x.mask ≡ words → test words x ≡ true
  passes words x h c p w = and_from (in_table line.hook line.chain row.pref x) (has_mask words x) (row_in_table_from line.hook line.chain row.pref x h c p) (bytes_eq_from x.mask words w)

  abbrev Passed : List ℕ → Row → Type 0
  Passed words x = (x.hook ≡ line.hook) × (x.chain ≡ line.chain) × (x.pref ≡ row.pref) × (x.mask ≡ words)

  passed : (words : List ℕ) (x : Row) → test words x ≡ true → Passed words x
  passed words x it = let parts = and_parts (in_table line.hook line.chain row.pref x) (has_mask words x) it in let at = row_in_table line.hook line.chain row.pref x parts.0 in
      (at.0, at.1, at.2, bytes_eq_true x.mask words parts.1)

  -- ---- the mask of the line
  to : ℕ
  to = mask_serial_for s line row

  to_tells : (x : Row) → TableFits line.hook line.chain row.pref line.protocol row.table x → MaskFits row.table line.mask.words (mask_serial_for s line row) x → Tells (mask_serial_for s line row) (test line.mask.words) x
  to_tells x f m = (
    λ of. let same = m.same (eqb-true x.mask_serial (mask_serial_for s line row) of) in let at = f.same same.0 in passes line.mask.words x at.0 at.1 at.2 same.1,
    λ it. let at = passed line.mask.words x it in m.one (f.one at.0 at.1 at.2) at.3,
  )

  to_found : (bytes_eq row.mask line.mask.words && bytes_eq row.key line.key.words) ≡ false → Stands t (mask_serial_for s line row) → IsMaskIn t line row.pref line.mask.words (mask_serial_for s line row)
  to_found differs stands =
      let m : ℕ = mask_serial_for s line row in
      let each = each_append (Tells m (test line.mask.words)) left (new ∷ [])
      (each_filter (Tells m (test line.mask.words)) (λ x. not (is_old row x)) s.rows
      (each_both (TableFits line.hook line.chain row.pref line.protocol row.table) (MaskFits row.table line.mask.words m) (Tells m (test line.mask.words)) to_tells s.rows k.tables k.masks))
      ((λ of. passes line.mask.words new refl refl refl refl, λ it. refl), tt) in
      let f = first_of m (test line.mask.words) t.rows stands (subst (Each (Tells m (test line.mask.words))) (sym (rows_are differs)) each) in
      record { row = f.0; there = f.1; serial_is = f.2 }

  -- ---- another key
  module _ (mask : row.mask ≡ line.mask.words) (key : row.key ≢ line.key.words) where
    key_differs : (bytes_eq row.mask line.mask.words && bytes_eq row.key line.key.words) ≡ false
    key_differs = and_right (bytes_eq row.mask line.mask.words) (bytes_eq row.key line.key.words) (no_bytes row.key line.key.words key)

    own : mask_serial_for s line row ≡ row.mask_serial
    own = ap (λ b. if b then row.mask_serial else mask_or_next (mask_row row.hook row.chain row.pref line.mask.words s.rows) s.masks_made) (bytes_eq_from row.mask line.mask.words mask)

    moves : MovesKey s line row row.handle serials t
    moves = replaced_key s t line row.pref row.handle serials row sound steps is mask key

    pub key_count : count_of t row.mask_serial ≡ count_of s row.mask_serial
    key_count =
        let filters = moves.0.filters_are in let now = counted t row.mask_serial ∙ ap length filters in let before = one_less s _ row sound is in
        let long = length-append (without row.handle (filters_of s row.mask_serial)) (line_filter line row.handle serials ∷ []) in omega (arith, now, before, long)

    pub key_some : 0 < count_of t row.mask_serial
    key_some = let same = key_count in let before = one_less s _ row sound is in omega (arith, same, before)

    pub key_words : words_of t row.mask_serial ≡ line.mask.words
    key_words = moves.0.words_are

    key_stands : Stands t row.mask_serial
    key_stands = filters_stand t row.mask_serial (let same = counts t row.mask_serial in let some = key_some in omega (arith, same, some))

    pub key_found : IsMaskIn t line row.pref line.mask.words row.mask_serial
    key_found = subst (IsMaskIn t line row.pref line.mask.words) own (to_found key_differs (subst (Stands t) (sym own) key_stands))

  -- ---- another mask
  module _ (mask : row.mask ≢ line.mask.words) where
    mask_differs : (bytes_eq row.mask line.mask.words && bytes_eq row.key line.key.words) ≡ false
    mask_differs = and_left (bytes_eq row.mask line.mask.words) (bytes_eq row.key line.key.words) (no_bytes row.mask line.mask.words mask)

    mask_moves : (m : ℕ) × (m ≢ row.mask_serial) × (m ≡ mask_or_next (mask_row line.hook line.chain row.pref line.mask.words s.rows) s.masks_made) × MovesMask s line row row.handle serials t m
    mask_moves = replaced_mask s t line row.pref row.handle serials row sound steps is mask

    abbrev target : ℕ
    target = mask_or_next (mask_row line.hook line.chain row.pref line.mask.words s.rows) s.masks_made

    changes : MovesMask s line row row.handle serials t target
    changes = subst (MovesMask s line row row.handle serials t) mask_moves.2 mask_moves.3

    pub target_apart : target ≢ row.mask_serial
    target_apart = subst (λ (m : ℕ). m ≢ row.mask_serial) mask_moves.2 mask_moves.1

    pub target_count : count_of t target ≡ count_of s target + 1
    target_count = one_more s t target target (line_filter line row.handle serials) changes.0.filters_are

    pub target_words : words_of t target ≡ line.mask.words
    target_words = changes.0.words_are

    pub from_count : count_of t row.mask_serial + 1 ≡ count_of s row.mask_serial
    from_count = let now = counted t row.mask_serial ∙ ap length changes.1 in let before = one_less s _ row sound is in omega (arith, now, before)

    own_target : mask_serial_for s line row ≡ target
    own_target =
        let i = k.is in
        ap (λ b. if b then row.mask_serial else mask_or_next (mask_row row.hook row.chain row.pref line.mask.words s.rows) s.masks_made) (no_bytes row.mask line.mask.words mask)
        ∙ (ap (λ hook. mask_or_next (mask_row hook row.chain row.pref line.mask.words s.rows) s.masks_made) i.hook
        ∙ ap (λ chain. mask_or_next (mask_row line.hook chain row.pref line.mask.words s.rows) s.masks_made) i.chain)

    target_stands : Stands t target
    target_stands = filters_stand t target (let same = counts t target in let some = target_count in omega (arith, same, some))

    pub target_found : IsMaskIn t line row.pref line.mask.words target
    target_found = subst (IsMaskIn t line row.pref line.mask.words) own_target (to_found mask_differs (subst (Stands t) (sym own_target) target_stands))

    from_tells : (x : Row) → Akin row x → Tells row.mask_serial (test row.mask) x
    from_tells x akin = let i = k.is in (
      λ of. let same = akin.same_mask (sym (eqb-true x.mask_serial row.mask_serial of)) in let at = akin.same_table same.0 in passes row.mask x (sym at.0 ∙ i.hook) (sym at.1 ∙ i.chain) (sym at.2) (sym same.1),
      λ it. let at = passed row.mask x it in sym (akin.one_mask (akin.one_table (i.hook ∙ sym at.0) (i.chain ∙ sym at.1) (sym at.2)) (sym at.3)),
    )

    pub from_found : Stands t row.mask_serial → IsMaskIn t line row.pref row.mask row.mask_serial
    from_found stands =
        let m : ℕ = row.mask_serial in let i = k.is in
        let each = each_append (Tells m (test row.mask)) left (new ∷ [])
        (each_filter (Tells m (test row.mask)) (λ x. not (is_old row x)) s.rows (each_weaker (Akin row) (Tells m (test row.mask)) from_tells s.rows i.akin))
        ((λ of. absurd (target_apart (sym own_target ∙ eqb-true (mask_serial_for s line row) m of)), λ it. absurd (mask (sym (passed row.mask new it).3))), tt) in
        let f = first_of m (test row.mask) t.rows stands (subst (Each (Tells m (test row.mask))) (sym (rows_are mask_differs)) each) in
        record { row = f.0; there = f.1; serial_is = f.2 }

    pub from_words : Stands t row.mask_serial → words_of t row.mask_serial ≡ row.mask
    from_words stands = own_words s t line row.pref row.handle serials row sound steps is mask stands
