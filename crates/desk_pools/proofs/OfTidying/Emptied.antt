-- Commits that empty roots at which nothing stood since the base.
use Rattle.std.proofs.Common.{◌≡◌, ◌∙◌, ◌⊎◌, inl, inr, ℕ, zero, suc, ◌+◌, ◌-◌, ◌*◌, ◌<◌, ◌≤◌, List, [], ◌∷◌, ◌++◌, length, map, take, get_or, slice_get, Option, Some, None, Bool, true, false, eqb, eqb-true, refl, sym, ap, subst, arith, append_assoc, append-nil, length-append}
use Rattle.std.specs.List.{range_with_len, flat_map}
use Rattle.std.proofs.lemmas.List.{take_more}
use Rattle.std.proofs.lemmas.List.FromFn.{map-range_with_len_more}
use Rattle.store_history.specs.declared.history.Commit.{Commit}
use Rattle.store_history.specs.History.{root_of, edits_of}
use Rattle.filter_state.specs.declared.edit.Edit.{Edit}
use Rattle.hook_law.specs.Meaning.{point_of}
use Rattle.hook_law.specs.Standing.{IsUnused}
use Rattle.hook_law.specs.Keeping.{Keeps}
use Rattle.hook_store_law.specs.Kept.{KeepsHook, IsKeptAt}
use Rattle.root_word_laws.specs.Words.{StampsRise}
use Rattle.root_word_laws.proofs.Words.{more_rise}
use Rattle.store_history.specs.declared.history.Named.{Named}
use Rattle.store_history.proofs.Histories.{root_own, root_other}
use Rattle.std.proofs.lemmas.Bool.{eqb-false}
use Rattle.hook_law.specs.Unnumbered.{Empties, EmptiesAll}
use Rattle.hook_law.proofs.Sparing.{Spared, spares_keep, empties_spare}
use Rattle.hook_law.proofs.Lists.{root_of_none, root_of_empty}
use Rattle.hook_store_law.specs.Stated.{hook_meaning}
use Rattle.hook_store_law.specs.Blocks.{hook_codec}
use Rattle.hook_law.specs.Standing.{IsIn}
use Rattle.desk_pools.specs.Pools.{roots_of, IsFreeAt}
use Rattle.desk_pools.proofs.RootsOf.{range_in, in_roots}
use Rattle.desk_pools.specs.OfTidying.Tidied.{empty_at, emptying}

-- ---- lists
pub mapped_at : {A B : Type 0} (f : A → B) (xs : List A) (j : ℕ) (c : B) → slice_get (map f xs) j ≡ Some c → (x : A) × (slice_get xs j ≡ Some x) × (c ≡ f x)
mapped_at f [] j c e = absurd (cc e)
mapped_at f (x ∷ xs) zero c e = let same : f x ≡ c = cc e in (x, refl, sym same)
mapped_at f (x ∷ xs) (suc j) c e = mapped_at f xs j c e

pub at_mapped : {A B : Type 0} (f : A → B) (xs : List A) (j : ℕ) (x : A) → slice_get xs j ≡ Some x → slice_get (map f xs) j ≡ Some (f x)
at_mapped f [] j x e = absurd (cc e)
at_mapped f (y ∷ ys) zero x e = let same : y ≡ x = cc e in ap (λ z. Some (f z)) same
at_mapped f (y ∷ ys) (suc j) x e = at_mapped f ys j x e

-- ---- the roots of numbers
pub roots_more : (first width : ℕ) (xs : List ℕ) (n : ℕ) → roots_of first width (xs ++ n ∷ []) ≡ roots_of first width xs ++ range_with_len (first + width * n) width
roots_more first width [] n = append-nil (range_with_len (first + width * n) width)
roots_more first width (x ∷ xs) n = ap (λ (l : List ℕ). range_with_len (first + width * x) width ++ l) (roots_more first width xs n)
    ∙ sym (append_assoc (range_with_len (first + width * x) width) (roots_of first width xs) (range_with_len (first + width * n) width))

pub emptying_append : (point : ℕ) (xs ys : List ℕ) → emptying point (xs ++ ys) ≡ emptying point xs ++ emptying point ys
emptying_append point [] ys = refl
emptying_append point (x ∷ xs) ys = ap (λ (l : List (Commit Edit)). empty_at point x ∷ l) (emptying_append point xs ys)

-- ---- stamps
-- no root has a later stamp
abbrev AreEarly : List (Commit Edit) → ℕ → Type 0
AreEarly h point = (r : ℕ) → (root_of h r).stamp ≤ point

early_more : (h : List (Commit Edit)) (point root : ℕ) → AreEarly h point → AreEarly (h ++ empty_at point root ∷ []) point
early_more h point root early r = pick (eqb root r) refl
  where
    pick : (t : Bool) → eqb root r ≡ t → (root_of (h ++ empty_at point root ∷ []) r).stamp ≤ point
    pick true e = let own = ap (λ (n : Named). n.stamp) (sym (ap (root_of (h ++ empty_at point root ∷ [])) (eqb-true root r e)) ∙ root_own h (empty_at point root)) in omega (arith, own)
    pick false e = let same = ap (λ (n : Named). n.stamp) (root_other h (empty_at point root) r (eqb-false root r e)) in let low = early r in omega (arith, same, low)

emptied_stamps : (point : ℕ) (roots : List ℕ) (h : List (Commit Edit)) → StampsRise h → AreEarly h point → StampsRise (h ++ emptying point roots) × AreEarly (h ++ emptying point roots) point
emptied_stamps point [] h rise early = (subst (λ (l : List (Commit Edit)). StampsRise l) (sym (append-nil h)) rise, subst (λ (l : List (Commit Edit)). AreEarly l point) (sym (append-nil h)) early)
emptied_stamps point (r ∷ rs) h rise early = let c = empty_at point r in let more = emptied_stamps point rs (h ++ c ∷ []) (more_rise h c rise (inr (early r, refl))) (early_more h point r early) in
    (subst (λ (l : List (Commit Edit)). StampsRise l) (append_assoc h (c ∷ []) (emptying point rs)) more.0, subst (λ (l : List (Commit Edit)). AreEarly l point) (append_assoc h (c ∷ []) (emptying point rs)) more.1)

-- ---- the law
module _ (h : List (Commit Edit)) (b point : ℕ) (kept : IsKeptAt h b point) where
  abbrev pub AllUnused : List ℕ → Type 0
  AllUnused roots = (place root : ℕ) → slice_get roots place ≡ Some root → IsUnused hook_meaning hook_codec b h root

  empties : (roots : List ℕ) → AllUnused roots → EmptiesAll hook_meaning hook_codec b h (emptying point roots)
  empties roots unused j c at = let r = mapped_at (empty_at point) roots j c at in
      subst (Empties hook_meaning hook_codec b h) (sym r.2) (record { plain = refl; stamp = inl kept.point_is; unused = unused j r.0 r.1; chain = refl })

  pub emptied : (roots : List ℕ) → AllUnused roots → Spared hook_meaning hook_codec b h (emptying point roots)
  emptied roots unused = spares_keep hook_meaning hook_codec (emptying point roots) h b kept.low kept.keeps.law (empties_spare hook_meaning hook_codec h (emptying point roots) b (empties roots unused))

  pub emptied_kept : (roots : List ℕ) → AllUnused roots → IsKeptAt (h ++ emptying point roots) b point
  emptied_kept roots unused = let s = emptied roots unused in let t = emptied_stamps point roots h kept.keeps.stamps kept.early in record {
    low = let low = kept.low in omega (arith, low, length-append h (emptying point roots));
    keeps = record { law = s.keeps; stamps = t.0 };
    point_is = kept.point_is ∙ sym (ap length s.edits);
    early = t.1;
  }

  -- the roots of a range, one more
  pub range_more : (first k : ℕ) → AllUnused (range_with_len first (k + 1)) → KeepsHook ((h ++ emptying point (range_with_len first k)) ++ empty_at point (first + k) ∷ []) b
  range_more first k unused = subst (λ (l : List (Commit Edit)). KeepsHook l b) (range_is first k) (emptied_kept (range_with_len first (k + 1)) unused).keeps
    where
      range_is : (first k : ℕ) → h ++ emptying point (range_with_len first (k + 1)) ≡ (h ++ emptying point (range_with_len first k)) ++ empty_at point (first + k) ∷ []
      range_is first k = ap (λ (l : List (Commit Edit)). h ++ l) (map-range_with_len_more (empty_at point) first k (first + k) refl) ∙ sym (append_assoc h (emptying point (range_with_len first k)) (empty_at point (first + k) ∷ []))

pub range_unused : (h : List (Commit Edit)) (b first count k : ℕ) → k ≤ count → ((root : ℕ) → first ≤ root → root < first + count → IsUnused hook_meaning hook_codec b h root)
    → (place root : ℕ) → slice_get (range_with_len first k) place ≡ Some root → IsUnused hook_meaning hook_codec b h root
range_unused h b first count k le unused place root e = let r = range_in first k place root e in let c = r.1 in unused root r.0 (omega arith)

pub numbers_unused : (h : List (Commit Edit)) (b first width : ℕ) (numbers : List ℕ) → ((place number : ℕ) → slice_get numbers place ≡ Some number → IsFreeAt h b first width number)
    → (place root : ℕ) → slice_get (roots_of first width numbers) place ≡ Some root → IsUnused hook_meaning hook_codec b h root
numbers_unused h b first width numbers unused place root e = let r = in_roots first width numbers root (place, e) in
    subst (IsUnused hook_meaning hook_codec b h) (sym r.4) (unused r.1.0 r.0 r.1.1 r.2 r.3)

-- one commit more of a range
pub range_seen : (h g : List (Commit Edit)) (point first k : ℕ) → g ≡ h ++ emptying point (range_with_len first k) → g ++ empty_at point (first + k) ∷ [] ≡ h ++ emptying point (range_with_len first (k + 1))
range_seen h g point first k e = ap (λ (l : List (Commit Edit)). l ++ empty_at point (first + k) ∷ []) e
    ∙ (append_assoc h (emptying point (range_with_len first k)) (empty_at point (first + k) ∷ []) ∙ ap (λ (l : List (Commit Edit)). h ++ l) (sym (map-range_with_len_more (empty_at point) first k (first + k) refl)))

-- ---- the roots of the first numbers, and of one more
at_place : (numbers : List ℕ) (at : ℕ) → at < length numbers → slice_get numbers at ≡ Some (get_or numbers at 0)
at_place [] at less = absurd (omega (arith, less))
at_place (n ∷ ns) zero less = refl
at_place (n ∷ ns) (suc at) less = at_place ns at (omega (arith, less))

of_taken : (numbers : List ℕ) (at place n : ℕ) → slice_get (take at numbers) place ≡ Some n → slice_get numbers place ≡ Some n
of_taken numbers zero place n e = absurd (cc e)
of_taken [] (suc at) place n e = absurd (cc e)
of_taken (m ∷ ms) (suc at) zero n e = e
of_taken (m ∷ ms) (suc at) (suc place) n e = of_taken ms at place n e

take_one : (numbers : List ℕ) (at : ℕ) → at < length numbers → take (at + 1) numbers ≡ take at numbers ++ get_or numbers at 0 ∷ []
take_one numbers at less = take_more numbers at 0 less

pub part_within : (numbers : List ℕ) (first width at roots : ℕ) → at < length numbers → ((place number : ℕ) → slice_get numbers place ≡ Some number → first + width * number + width ≤ roots)
    → first + width * get_or numbers at 0 + width ≤ roots
part_within numbers first width at roots less within = within at (get_or numbers at 0) (at_place numbers at less)

module _ (h : List (Commit Edit)) (b point : ℕ) (kept : IsKeptAt h b point) (numbers : List ℕ) (first width at : ℕ) where
  abbrev part : List ℕ
  part = roots_of first width (take at numbers)

  part_spared : ((place number : ℕ) → slice_get numbers place ≡ Some number → IsFreeAt h b first width number) → Spared hook_meaning hook_codec b h (emptying point part)
  part_spared unused = emptied h b point kept part (numbers_unused h b first width (take at numbers) (λ place n e. unused place n (of_taken numbers at place n e)))

  pub part_kept : ((place number : ℕ) → slice_get numbers place ≡ Some number → IsFreeAt h b first width number) → (g : List (Commit Edit)) (c : ℕ) → g ≡ h ++ emptying point part → c ≡ b
      → IsKeptAt g c point
  part_kept unused g c seen base = subst (λ (n : ℕ). IsKeptAt g n point) (sym base) (subst (λ (l : List (Commit Edit)). IsKeptAt l b point) (sym seen)
      (emptied_kept h b point kept part (numbers_unused h b first width (take at numbers) (λ place n e. unused place n (of_taken numbers at place n e)))))

  pub part_unused : at < length numbers → ((place number : ℕ) → slice_get numbers place ≡ Some number → IsFreeAt h b first width number) → (g : List (Commit Edit)) (c : ℕ) → g ≡ h ++ emptying point part → c ≡ b
      → (root : ℕ) → first + width * get_or numbers at 0 ≤ root → root < first + width * get_or numbers at 0 + width → IsUnused hook_meaning hook_codec c g root
  part_unused less unused g c seen base root lo hi = let n = get_or numbers at 0 in let j : ℕ = root - (first + width * n) in
      let free = unused at n (at_place numbers at less) j (omega (arith, lo, hi)) in let is_root : first + width * n + j ≡ root = omega (arith, lo) in
      subst (λ (k : ℕ). IsUnused hook_meaning hook_codec k g root) (sym base)
      (subst (λ (l : List (Commit Edit)). IsUnused hook_meaning hook_codec b l root) (sym seen)
      (subst (IsUnused hook_meaning hook_codec b (h ++ emptying point part)) is_root ((part_spared unused).unused (first + width * n + j) free)))

pub part_seen : (h g : List (Commit Edit)) (point : ℕ) (numbers : List ℕ) (first width at : ℕ) → at < length numbers → g ≡ h ++ emptying point (roots_of first width (take at numbers))
    → g ++ emptying point (range_with_len (first + width * get_or numbers at 0) width) ≡ h ++ emptying point (roots_of first width (take (at + 1) numbers))
part_seen h g point numbers first width at less e = let done = roots_of first width (take at numbers) in let range = range_with_len (first + width * get_or numbers at 0) width in
    ap (λ (l : List (Commit Edit)). l ++ emptying point range) e
    ∙ (append_assoc h (emptying point done) (emptying point range)
    ∙ ap (λ (l : List (Commit Edit)). h ++ l) (sym (emptying_append point done range)
    ∙ ap (emptying point) (sym (roots_more first width (take at numbers) (get_or numbers at 0)) ∙ ap (roots_of first width) (sym (take_one numbers at less)))))
