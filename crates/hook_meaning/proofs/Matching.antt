-- No two filters of a mask have the same key.
use Rattle.std.proofs.Common.{◌≡◌, ℕ, zero, suc, ◌<◌, ◌≤◌, true, List, [], ◌∷◌, length, map, slice_get, Some, ap, sym, ◌∙◌, subst, arith, eqb-true}
use mathlib.Core.Logic.{dite}
use native.Mathlib.Decide.{dec_le}
use Rattle.std.specs.Prelude.{filter}
use Rattle.std.proofs.lemmas.Option.{slice_get-map}
use Rattle.store_history.specs.declared.history.Commit.{Commit}
use Rattle.filter_state.specs.declared.edit.Edit.{Edit}
use Rattle.filter_state.specs.States.{Row, State}
use Rattle.filter_state.specs.Order.{of_mask}
use Rattle.filter_state.specs.Sound.{Each, EachPair, GoTogether}
use Rattle.filter_state.proofs.Pairs.{pairs_filter, each_passing}
use Rattle.filter_state.proofs.Places.{each_at, pair_at}
use Rattle.edit_effects.specs.OfEffects.Parts.{filter_of, filters_of}
use Rattle.block_codec.specs.declared.filter.StoredFilter.{StoredFilter}
use Rattle.hook_law.specs.Keeping.{Keeps}
use Rattle.hook_meaning.specs.Stated.{filter_stated, filters_at, hook_meaning}
use Rattle.hook_meaning.specs.Blocks.{hook_codec}
use Rattle.hook_meaning.specs.Told.{state_after_edits, with_slots, filters_after}
use Rattle.hook_meaning.proofs.Reading.{some_of}
use Rattle.hook_meaning.proofs.States.{sound_after}

-- ---- places of a list
got : {X Y : Type 0} (f : X → Y) (xs : List X) (i : ℕ) (y : Y) → slice_get (map f xs) i ≡ Some y → (x : X) × (slice_get xs i ≡ Some x) × (f x ≡ y)
got f xs i y e = some_of f (slice_get xs i) y (sym (slice_get-map f xs i) ∙ e)

-- ---- rows of one mask
abbrev rows_at : State → ℕ → List Row
rows_at s mask = filter (of_mask mask) s.rows

keys_apart : (s : State) (mask i j : ℕ) (x y : Row) → EachPair GoTogether s.rows → slice_get (rows_at s mask) i ≡ Some x → slice_get (rows_at s mask) j ≡ Some y
    → x.key ≡ y.key → i < j → ⊥
keys_apart s mask i j x y pairs e f key less =
    let go = pair_at GoTogether (rows_at s mask) (pairs_filter GoTogether (of_mask mask) s.rows pairs) i j x y less e f in
    let passing = each_passing (of_mask mask) s.rows in
    let first = eqb-true x.mask_serial mask (each_at (λ (r : Row). of_mask mask r ≡ true) (rows_at s mask) i x passing e) in
    let second = eqb-true y.mask_serial mask (each_at (λ (r : Row). of_mask mask r ≡ true) (rows_at s mask) j y passing f) in
    let same = go.same_mask (first ∙ sym second) in go.matches same.0 same.1 key

row_at : (h : List (Commit Edit)) (k mask i : ℕ) (f : StoredFilter) → slice_get (filters_after h k mask) i ≡ Some f
    → (row : Row) × (slice_get (rows_at (state_after_edits h k) mask) i ≡ Some row) × (row.key ≡ f.key.words)
row_at h k mask i f e =
    let s = state_after_edits h k in let one = got (with_slots h) (filters_at s mask) i f e in
    let two = got filter_stated (filters_of s mask) i one.0 one.1 in let three = got filter_of (rows_at s mask) i two.0 two.1 in
    (three.0, three.1, ap (λ z. z.key) three.2 ∙ (ap (λ z. z.key) two.2 ∙ ap (λ (z : StoredFilter). z.key.words) one.2))

pub keys_distinct : (h : List (Commit Edit)) (b k mask one other : ℕ) (f g : StoredFilter) → Keeps hook_meaning hook_codec h b → b ≤ length h
    → slice_get (filters_after h k mask) one ≡ Some f → slice_get (filters_after h k mask) other ≡ Some g → f.key.words ≡ g.key.words → one ≡ other
keys_distinct h b k mask one other f g kept low e d key =
    let s = state_after_edits h k in let pairs = (sound_after h b k kept low).together in let x = row_at h k mask one f e in let y = row_at h k mask other g d in
    let same : x.0.key ≡ y.0.key = x.2 ∙ (key ∙ sym y.2) in
    dite (dec_le (suc one) other) (λ (less : suc one ≤ other). absurd (keys_apart s mask one other x.0 y.0 pairs x.1 y.1 same less))
    (λ (more : suc one ≤ other → ⊥). dite (dec_le (suc other) one)
    (λ (less : suc other ≤ one). absurd (keys_apart s mask other one y.0 x.0 pairs y.1 x.1 (sym same) less))
    (λ (no : suc other ≤ one → ⊥). omega arith))
