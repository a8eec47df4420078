-- The later filters of a bucket, by rows and as the law states them.
use Rattle.std.proofs.Common.{◌≡◌, ℕ, ◌+◌, ◌%◌, ◌==◌, Bool, true, false, cond, List, [], ◌∷◌, ◌++◌, map, length, Some, refl, sym, ◌∙◌, ap, arith, eq-eqb, ne_eqb, length-append}
use Rattle.std.specs.Prelude.{filter, if◌then◌else◌}
use Rattle.std.proofs.lemmas.Bool.{eqb-false}
use Rattle.std.proofs.lemmas.List.Elements.{filter-append}
use Rattle.tc_base.specs.declared.hook.Hook.{Hook}
use Rattle.flow_mask.specs.Hashes.{hash_of}
use Rattle.flow_mask.specs.Sizes.{size_of}
use Rattle.filter_state.specs.States.{Row, State}
use Rattle.filter_state.specs.Sound.{Sound}
use Rattle.filter_state.specs.Tables.{filter_row}
use Rattle.filter_state.specs.Order.{of_mask}
use Rattle.hook_store_law.specs.OfEffects.Parts.{filter_of, filters_of}
use Rattle.hook_store_law.proofs.OfEffects.Kept.{kept_of_mapped}
use Rattle.hook_law.specs.Records.{StatedFilter}
use Rattle.hook_law.specs.Chains.{bucket_of}
use Rattle.hook_store_law.specs.Stated.{filter_stated, filters_at}
use Rattle.hook_store_law.specs.OfEdits.Premises.{HaveOthers}
use Rattle.hook_store_law.proofs.OfEdits.OneHandle.{only_filter}
use Rattle.desk_masks.specs.OfFilterCommits.Edits.{HasLater}
use Rattle.desk_needs.specs.Live.{count_of}
use Rattle.desk_needs.specs.Needs.{behind, later}

abbrev stated : List Row → List StatedFilter
stated rows = map filter_stated (map filter_of rows)

-- ---- behind the one with the handle
module _ (handle : ℕ) where
  abbrev has : StatedFilter → Bool
  has f = f.handle == handle

  -- rows whose filters are these, of which one has the handle and none before it
  rest_behind : (rows : List Row) (earlier : List StatedFilter) (f : StatedFilter) (rest : List StatedFilter) → stated rows ≡ earlier ++ f ∷ rest → f.handle ≡ handle → HaveOthers handle earlier
      → stated (behind handle rows) ≡ rest
  rest_behind [] [] f rest e named front = absurd (cc e)
  rest_behind [] (x ∷ earlier) f rest e named front = absurd (cc e)
  rest_behind (row ∷ rows) [] f rest e named front =
      let same : filter_stated (filter_of row) ≡ f = cc e in
      let tail : stated rows ≡ rest = cc e in
      ap (λ b. stated (if b then rows else behind handle rows)) (eq-eqb row.handle handle (ap (λ (x : StatedFilter). x.handle) same ∙ named)) ∙ tail
  rest_behind (row ∷ rows) (x ∷ earlier) f rest e named front =
      let same : filter_stated (filter_of row) ≡ x = cc e in
      let tail : stated rows ≡ earlier ++ f ∷ rest = cc e in
      ap (λ b. stated (if b then rows else behind handle rows)) (ne_eqb row.handle handle (λ is. front.0 (sym (ap (λ (y : StatedFilter). y.handle) same) ∙ is)))
      ∙ rest_behind rows earlier f rest tail named front.1

  have_others : (xs : List StatedFilter) → filter has xs ≡ [] → HaveOthers handle xs
  have_others [] none = tt
  have_others (x ∷ xs) none = step (has x) refl (have_others xs) none
    where
      step : (b : Bool) → has x ≡ b → (filter has xs ≡ [] → HaveOthers handle xs) → cond b (x ∷ filter has xs) (filter has xs) ≡ [] → HaveOthers handle (x ∷ xs)
      step true is rest e = absurd (cc e)
      step false is rest e = (eqb-false x.handle handle is, rest e)

  -- where one filter alone has the handle, those before it have others
  record IsAlone (earlier : List StatedFilter) (f only : StatedFilter) : Type 0 where
    front : HaveOthers handle earlier
    same : f ≡ only

  alone : (earlier : List StatedFilter) (f : StatedFilter) (rest : List StatedFilter) (only : StatedFilter) → f.handle ≡ handle → filter has (earlier ++ f ∷ rest) ≡ only ∷ [] → IsAlone earlier f only
  alone earlier f rest only named e =
      let parts : filter has earlier ++ f ∷ filter has rest ≡ only ∷ [] = ap (λ b. filter has earlier ++ cond b (f ∷ filter has rest) (filter has rest)) (sym (eq-eqb f.handle handle named))
      ∙ sym (filter-append has earlier (f ∷ rest)) ∙ e in
      let none : filter has earlier ≡ [] = no_more (filter has earlier) f (filter has rest) parts in
      let first : f ∷ filter has rest ≡ only ∷ [] = ap (λ xs. xs ++ f ∷ filter has rest) (sym none) ∙ parts in
      record { front = have_others earlier none; same = cc first }
    where
      no_more : (xs : List StatedFilter) (y : StatedFilter) (ys : List StatedFilter) → xs ++ y ∷ ys ≡ only ∷ [] → xs ≡ []
      no_more [] y ys e = refl
      no_more (x ∷ []) y ys e = absurd (cc e)
      no_more (x ∷ z ∷ xs) y ys e = absurd (cc e)

-- ---- how many of a bucket
counted_of : (size k : ℕ) (rows : List Row) → length (bucket_of hash_of size k (stated rows)) ≡ length (filter (λ (row : Row). hash_of row.key % size == k) rows)
counted_of size k [] = refl
counted_of size k (row ∷ rows) =
    let same = length-append (bucket_of hash_of size k (stated rows)) (if hash_of row.key % size == k then filter_stated (filter_of row) ∷ [] else []) in
    same ∙ one (hash_of row.key % size == k) (counted_of size k rows)
  where
    one : (b : Bool) → length (bucket_of hash_of size k (stated rows)) ≡ length (filter (λ (row : Row). hash_of row.key % size == k) rows)
        → length (bucket_of hash_of size k (stated rows)) + length {A = StatedFilter} (if b then filter_stated (filter_of row) ∷ [] else [])
        ≡ length (cond b (row ∷ filter (λ (row : Row). hash_of row.key % size == k) rows) (filter (λ (row : Row). hash_of row.key % size == k) rows))
    one true e = omega (arith, e)
    one false e = omega (arith, e)

pub later_is : (s : State) (hook : Hook) (chain pref handle : ℕ) (row : Row) (count : ℕ) → Sound s → filter_row hook chain pref handle s.rows ≡ Some row
    → HasLater (size_of (count_of s row.mask_serial)) row.handle (filters_at s row.mask_serial) count → later s row ≡ count
later_is s hook chain pref handle row count sound is l =
    let mine : List Row = filter (of_mask row.mask_serial) s.rows in
    let size : ℕ = size_of (count_of s row.mask_serial) in
    let only : filter (has row.handle) (filters_at s row.mask_serial) ≡ filter_stated (filter_of row) ∷ [] =
    kept_of_mapped (has row.handle) filter_stated (filters_of s row.mask_serial) ∙ ap (map filter_stated) (only_filter s _ row sound is) in
    let it = alone row.handle l.earlier l.filter l.later (filter_stated (filter_of row)) l.named (ap (filter (has row.handle)) (sym l.whole) ∙ only) in
    let rest = rest_behind row.handle mine l.earlier l.filter l.later l.whole l.named it.front in
    sym (l.count_is ∙ ap (λ (f : StatedFilter). length (bucket_of hash_of size (hash_of f.key % size) l.later)) it.same
    ∙ ap (λ fs. length (bucket_of hash_of size (hash_of row.key % size) fs)) (sym rest) ∙ counted_of size (hash_of row.key % size) (behind row.handle mine))
