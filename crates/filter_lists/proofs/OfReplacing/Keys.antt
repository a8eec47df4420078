-- The masks of a table differ in words, and the filters of a mask in keys.
use Rattle.std.proofs.Common.{◌≡◌, ℕ, ◌==◌, ◌||◌, not, Bool, true, false, cond, List, [], ◌∷◌, map, Option, Some, None, refl, sym, ◌∙◌, ap, subst}
use Rattle.std.specs.Prelude.{filter, find}
use Rattle.std.specs.List.{list_any, flat_map}
use Rattle.std.proofs.lemmas.List.{append-nil}
use Rattle.std.proofs.lemmas.Option.{none-some, same_Some}
use Rattle.tc_base.specs.declared.hook.Hook.{Hook}
use Rattle.filter_state.specs.Sound.{Each, EachPair, GoTogether}
use Rattle.filter_state.specs.Tables.{has_mask}
use Rattle.filter_index.specs.declared.filter.Filter.{Filter}
use Rattle.filter_index.specs.Listed as listed
use Rattle.filter_tables.specs.Plain.{PlainMask, PlainTable}
use Rattle.filter_tables.specs.Places.{item_at}
use Rattle.filter_tables.specs.Changes.{has_words}
use Rattle.filter_tables.specs.Whole.{IsFull}
use Rattle.filter_tables.specs.Rows.{row_of, rows_of_mask, rows_of_table}
use Rattle.row_laws.specs.OfLookups.Asked.{unless_left_out}
use Rattle.row_laws.proofs.OfLookups.Heads.{head_of, find_head}
use Rattle.filter_state.proofs.Pairs.{pairs_filter}
use Rattle.row_laws.proofs.OfLookups.Among.{NotBoth, among_at, among_found, one_kept}
use Rattle.row_laws.proofs.OfLookups.Matches.{words_apart}
use Rattle.row_laws.proofs.OfLookups.Masks.{words_kept}
use Rattle.row_laws.proofs.OfLookups.Together.{bytes_eq_true}

-- ---- masks
module _ (hook : Hook) (t : PlainTable) (full : IsFull t) (together : EachPair GoTogether (rows_of_table hook t)) where
  one_mask : (words : List ℕ) (at : ℕ) (m : PlainMask) → item_at t.masks at ≡ Some m → has_words words m ≡ true → filter (has_words words) t.masks ≡ m ∷ []
  one_mask words at m there has = one_kept (has_words words) m t.masks (among_at t.masks at m there) has (words_apart words hook t full together)

  -- two masks of the same words are one
  pub same_mask : (words : List ℕ) (at to : ℕ) (m n : PlainMask) → item_at t.masks at ≡ Some m → item_at t.masks to ≡ Some n → has_words words m ≡ true → has_words words n ≡ true → m ≡ n
  same_mask words at to m n here there has too = same_Some m n (ap head_of (sym (one_mask words at m here has) ∙ one_mask words to n there too))

  mask_together : (words : List ℕ) (at : ℕ) (m : PlainMask) → item_at t.masks at ≡ Some m → has_words words m ≡ true → EachPair GoTogether (rows_of_mask hook t m)
  mask_together words at m there has =
      subst (EachPair GoTogether) (words_kept hook t words ∙ ap (flat_map (rows_of_mask hook t)) (one_mask words at m there has) ∙ append-nil (rows_of_mask hook t m))
      (pairs_filter GoTogether (has_mask words) (rows_of_table hook t) together)

  -- ---- keys
  other_key : (m : PlainMask) (key : List ℕ) (f g : Filter) → GoTogether (row_of hook t m f) (row_of hook t m g) → NotBoth (listed.has_key key) f g
  other_key m key f g goes here there = goes.matches refl refl (bytes_eq_true f.key.words key here ∙ sym (bytes_eq_true g.key.words key there))

  each_key : (m : PlainMask) (key : List ℕ) (f : Filter) (fs : List Filter) → Each (GoTogether (row_of hook t m f)) (map (row_of hook t m) fs) → Each (NotBoth (listed.has_key key) f) fs
  each_key m key f [] all = tt
  each_key m key f (g ∷ fs) all = (other_key m key f g all.0, each_key m key f fs all.1)

  keys_apart : (m : PlainMask) (key : List ℕ) (fs : List Filter) → EachPair GoTogether (map (row_of hook t m) fs) → EachPair (NotBoth (listed.has_key key)) fs
  keys_apart m key [] pairs = tt
  keys_apart m key (f ∷ fs) pairs = (each_key m key f fs pairs.0, keys_apart m key fs pairs.1)

  pub keys_differ : (words key : List ℕ) (at : ℕ) (m : PlainMask) → item_at t.masks at ≡ Some m → has_words words m ≡ true → EachPair (NotBoth (listed.has_key key)) m.filters
  keys_differ words key at m there has = keys_apart m key m.filters (mask_together words at m there has)

-- ---- no other filter has the key
swap_step : {X : Type 0} (p q : X → Bool) (b d : Bool) (x : X) (ys zs : List X) → p x ≡ b → q x ≡ d → list_any p ys ≡ list_any q zs →
    list_any p (cond d (x ∷ ys) ys) ≡ list_any q (cond b (x ∷ zs) zs)
swap_step p q true true x ys zs is_p is_q more = ap (λ e. e || list_any p ys) is_p ∙ sym (ap (λ e. e || list_any q zs) is_q)
swap_step p q true false x ys zs is_p is_q more = more ∙ sym (ap (λ e. e || list_any q zs) is_q)
swap_step p q false true x ys zs is_p is_q more = ap (λ e. e || list_any p ys) is_p ∙ more
swap_step p q false false x ys zs is_p is_q more = more

any_swap : {X : Type 0} (p q : X → Bool) (xs : List X) → list_any p (filter q xs) ≡ list_any q (filter p xs)
any_swap p q [] = refl
any_swap p q (x ∷ xs) = swap_step p q (p x) (q x) x (filter q xs) (filter p xs) refl refl (any_swap p q xs)

none_from_head : {X : Type 0} (xs : List X) → head_of xs ≡ None → xs ≡ []
none_from_head [] e = refl
none_from_head (x ∷ xs) e = absurd (none-some x (sym e))

left_out : (b : Bool) (handle : ℕ) → cond b None (Some handle) ≡ None → b ≡ true
left_out true handle e = refl
left_out false handle e = absurd (none-some handle (sym e))

others_by : (handle : ℕ) (key : List ℕ) (fs : List Filter) (found : Option Filter) → EachPair (NotBoth (listed.has_key key)) fs → find (listed.has_key key) fs ≡ found →
    unless_left_out (Some handle) found ≡ None → list_any (λ f. not (listed.has_handle handle f)) (filter (listed.has_key key) fs) ≡ false
others_by handle key fs None apart found none =
    ap (list_any (λ f. not (listed.has_handle handle f))) (none_from_head (filter (listed.has_key key) fs) (sym (find_head (listed.has_key key) fs) ∙ found))
others_by handle key fs (Some g) apart found none =
    let of = among_found (listed.has_key key) fs g found in
    ap (list_any (λ f. not (listed.has_handle handle f))) (one_kept (listed.has_key key) g fs of.0 of.1 apart)
    ∙ ap (λ b. not b || false) (left_out (g.handle == handle) g.handle none)

pub no_other : (handle : ℕ) (key : List ℕ) (fs : List Filter) → EachPair (NotBoth (listed.has_key key)) fs → unless_left_out (Some handle) (find (listed.has_key key) fs) ≡ None →
    list_any (listed.has_key key) (listed.without handle fs) ≡ false
no_other handle key fs apart none = any_swap (listed.has_key key) (λ f. not (listed.has_handle handle f)) fs ∙ others_by handle key fs (find (listed.has_key key) fs) apart refl none
