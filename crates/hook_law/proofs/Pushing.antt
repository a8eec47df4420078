-- The law after one more commit and under a rising base, and what a root tells of that which stood.
use Rattle.std.proofs.Common.{◌≡◌, ◌≢◌, ℕ, zero, suc, ◌+◌, ◌-◌, ◌≤◌, Bool, true, false, eqb, List, [], ◌∷◌, ◌++◌, length, take, slice_get, Some, refl, ap, sym, ◌∙◌, subst, arith, length-append}
use mathlib.Core.Logic.{dite}
use native.Mathlib.Decide.{dec_le}
use Rattle.std.proofs.lemmas.List.{take-append-le, take_all}
use Rattle.std.proofs.lemmas.Option.{slice_get_within}
use Rattle.store_history.specs.declared.history.Commit.{Commit}
use Rattle.store_history.specs.declared.history.Named.{Named}
use Rattle.store_history.specs.History.{edits_of, root_of}
use Rattle.store_history.proofs.Lists.{get_before, get_last, take_next, get_some}
use Rattle.store_history.proofs.Histories.{root_other}
use Rattle.hook_law.specs.Records.{Codec}
use Rattle.hook_law.specs.Meaning.{Meaning, point_of}
use Rattle.hook_law.specs.Standing.{Role, Stands}
use Rattle.hook_law.specs.Telling.{Tells}
use Rattle.hook_law.specs.Keeping.{IsStamped, Present, Keeps}
use Rattle.hook_law.specs.Told.{Told}
use Rattle.hook_law.proofs.Points.{tells_all}

module _ {E S N P : Type 0} (K : Meaning E S N P) (R : Codec N P) where
  -- what is owed of one more commit, beside what holds of the history with it
  pub record Careful (b : ℕ) (h : List (Commit E)) (c : Commit E) : Type 0 where
    pub stamped : IsStamped (point_of h) c.edit c.named.stamp
    pub alone : (n : ℕ) (x : Role) → b ≤ n → n ≤ length h → Stands K R (take n h) c.root x → Stands K R (h ++ c ∷ []) c.root x
    pub apart : (n r : ℕ) (x y : Role) → b ≤ n → n ≤ length h → Stands K R (take n h) r x → Stands K R (h ++ c ∷ []) r y → x ≡ y

  pub keeps_rises : (h : List (Commit E)) (b c : ℕ) → b ≤ c → Keeps K R h b → Keeps K R h c
  keeps_rises h b c le k = record {
    present = λ n low high. k.present n (omega arith) high;
    stamped = k.stamped;
    alone = λ n m d x low. k.alone n m d x (omega arith);
    apart = λ n m r x y low. k.apart n m r x y (omega arith);
  }

  stands_at : (g h : List (Commit E)) (r : ℕ) (x : Role) → g ≡ h → Stands K R g r x → Stands K R h r x
  stands_at g h r x same s = subst (λ (z : List (Commit E)). Stands K R z r x) same s

  pub keeps_push : (h : List (Commit E)) (b : ℕ) (c : Commit E) → b ≤ length h → Keeps K R h b → Present K R (h ++ c ∷ []) → Careful b h c
      → Keeps K R (h ++ c ∷ []) b
  keeps_push h b c low k p w = record {
    present = λ n lown high. dite (dec_le n (length h))
        (λ (le : n ≤ length h). subst (Present K R) (sym (early n le)) (k.present n lown le))
        (λ (gt : n ≤ length h → ⊥). subst (Present K R) (sym (late n gt)) p);
    stamped = λ n d at. dite (dec_le (suc n) (length h))
        (λ (le : suc n ≤ length h). subst (λ (z : List (Commit E)). IsStamped (point_of z) d.edit d.named.stamp) (sym (early n (omega arith))) (k.stamped n d (sym (get_before h (c ∷ []) n le) ∙ at)))
        (λ (gt : suc n ≤ length h → ⊥). let is = at_last n d at gt in
        subst (λ (z : Commit E). IsStamped (point_of (take n (h ++ c ∷ []))) z.edit z.named.stamp) (last n d is at)
        (subst (λ (z : List (Commit E)). IsStamped (point_of z) c.edit c.named.stamp) (before n is) w.stamped));
    alone = λ n m d x lown le at s. dite (dec_le (suc m) (length h))
        (λ (l : suc m ≤ length h). stands_at (take (m + 1) h) (take (m + 1) (h ++ c ∷ [])) d.root x (sym (early (m + 1) (omega arith)))
        (k.alone n m d x lown le (sym (get_before h (c ∷ []) m l) ∙ at) (stands_at _ _ d.root x (early n (omega arith)) s)))
        (λ (gt : suc m ≤ length h → ⊥). let is = at_last m d at gt in stands_at (h ++ c ∷ []) (take (m + 1) (h ++ c ∷ [])) d.root x (sym (late (m + 1) (λ le. absurd (omega arith))))
        (alone n x lown (omega arith) d (last m d is at) (stands_at _ _ d.root x (early n (omega arith)) s)));
    apart = λ n m r x y lown le high s t. dite (dec_le m (length h))
        (λ (l : m ≤ length h). k.apart n m r x y lown le l (stands_at _ _ r x (early n (omega arith)) s) (stands_at _ _ r y (early m l) t))
        (λ (gt : m ≤ length h → ⊥). let t' = stands_at _ _ r y (late m gt) t in dite (dec_le n (length h))
        (λ (l : n ≤ length h). w.apart n r x y lown l (stands_at _ _ r x (early n l) s) t')
        (λ (g : n ≤ length h → ⊥). p.apart r x y (stands_at _ _ r x (late n g) s) t'));
  }
    where
      early : (n : ℕ) → n ≤ length h → take n (h ++ c ∷ []) ≡ take n h
      early n le = take-append-le n h (c ∷ []) le

      late : (n : ℕ) → (n ≤ length h → ⊥) → take n (h ++ c ∷ []) ≡ h ++ c ∷ []
      late n gt = take_all n (h ++ c ∷ []) (omega (arith, length-append h (c ∷ [])))

      before : (n : ℕ) → length h ≡ n → h ≡ take n (h ++ c ∷ [])
      before n is = sym (early n (omega arith) ∙ take_all n h (omega arith))

      at_last : (n : ℕ) (d : Commit E) → slice_get (h ++ c ∷ []) n ≡ Some d → (suc n ≤ length h → ⊥) → length h ≡ n
      at_last n d at gt = omega (arith, slice_get_within (h ++ c ∷ []) n d at, length-append h (c ∷ []))

      last : (n : ℕ) (d : Commit E) → length h ≡ n → slice_get (h ++ c ∷ []) n ≡ Some d → c ≡ d
      last n d is at = let e = get_last h c in let f : slice_get (h ++ c ∷ []) (length h) ≡ Some d = rw is at in cc (e, f)

      alone : (n : ℕ) (x : Role) → b ≤ n → n ≤ length h → (d : Commit E) → c ≡ d → Stands K R (take n h) d.root x → Stands K R (h ++ c ∷ []) d.root x
      alone n x lown le d same s = subst (λ (z : Commit E). Stands K R (h ++ c ∷ []) z.root x) same
          (w.alone n x lown le (subst (λ (z : Commit E). Stands K R (take n h) z.root x) (sym same) s))

  -- what stood after n commits stood at some time up to any later one with its root as it is at that later
  -- time
  pub last_stood : (h : List (Commit E)) (b n r : ℕ) (x : Role) (d : ℕ) → Keeps K R h b → b ≤ n → n + d ≤ length h → Stands K R (take n h) r x
      → (q : ℕ) × (n ≤ q) × (q ≤ n + d) × Stands K R (take q h) r x × (root_of (take (n + d) h) r ≡ root_of (take q h) r)
  last_stood h b n r x zero k low high s = let e : n + 0 ≡ n = omega arith in (n, omega arith, omega arith, s, ap (λ (z : ℕ). root_of (take z h) r) e)
  last_stood h b n r x (suc d) k low high s = let o = last_stood h b n r x d k low (omega arith) s in let c = get_some h (n + d) (omega arith) in
      let e : n + suc d ≡ suc (n + d) = omega arith in
      pick o c.0 c.1 (ap (λ (z : ℕ). take z h) e ∙ take_next h (n + d) c.0 c.1) (eqb c.0.root r) refl
    where
      Stood : ℕ → Type 0
      Stood far = (q : ℕ) × (n ≤ q) × (q ≤ n + far) × Stands K R (take q h) r x × (root_of (take (n + far) h) r ≡ root_of (take q h) r)

      pick : Stood d → (c : Commit E) → slice_get h (n + d) ≡ Some c → take (n + suc d) h ≡ take (n + d) h ++ c ∷ [] → (t : Bool) → eqb c.root r ≡ t
          → Stood (suc d)
      pick o c at more true e = let is : c.root ≡ r = grind (arith, e) in let one : n + d + 1 ≡ n + suc d = omega arith in
          let z = k.alone n (n + d) c x low (omega arith) at (subst (λ (w : ℕ). Stands K R (take n h) w x) (sym is) s) in
          (n + suc d, omega arith, omega arith, subst (λ (w : ℕ). Stands K R (take (n + suc d) h) w x) is (subst (λ (w : ℕ). Stands K R (take w h) c.root x) one z), refl)
      pick o c at more false e = let ne : c.root ≢ r = grind (arith, e) in let le = o.2 in
          (o.0, o.1, omega arith, o.3, ap (λ (z : List (Commit E)). root_of z r) more ∙ (root_other (take (n + d) h) c r ne ∙ o.4))

  -- with the end for the later time
  pub last_at_end : (h : List (Commit E)) (b n r : ℕ) (x : Role) → Keeps K R h b → b ≤ n → n ≤ length h → Stands K R (take n h) r x
      → (q : ℕ) × (n ≤ q) × (q ≤ length h) × Stands K R (take q h) r x × (root_of h r ≡ root_of (take q h) r)
  last_at_end h b n r x k low high s = let o = last_stood h b n r x (length h - n) k low (omega arith) s in let le = o.2 in
      let end : take (n + (length h - n)) h ≡ h = take_all (n + (length h - n)) h (omega arith) in
      (o.0, o.1, omega arith, o.3, sym (ap (λ (z : List (Commit E)). root_of z r) end) ∙ o.4)

  pub told : (h : List (Commit E)) (b n r : ℕ) (x : Role) → Keeps K R h b → b ≤ n → n ≤ length h → Stands K R (take n h) r x → Told K R h n r x
  told h b n r x k low high s = let o = last_at_end h b n r x k low high s in let late = o.1 in record {
    at = o.0;
    late = o.1;
    made = o.2;
    stood = o.3;
    same = o.4;
    tells = tells_all K R h o.0 x (root_of h r) (subst (λ (z : Named). Tells K R (edits_of (take o.0 h)) x z (point_of (take o.0 h))) (sym o.4) ((k.present o.0 (omega arith) o.2).tells r x o.3));
  }

  -- the root of what stood and doesn't stand any more, from some commit on, gets no commit from there on
  pub left_alone : (h : List (Commit E)) (b n since m r : ℕ) (x : Role) (c : Commit E) → Keeps K R h b → b ≤ n → n ≤ since → Stands K R (take n h) r x
      → ((later : ℕ) → since ≤ later → later ≤ length h → Stands K R (take later h) r x → ⊥) → since ≤ m → slice_get h m ≡ Some c → c.root ≢ r
  left_alone h b n since m r x c k low early s gone late at is = let inside = slice_get_within h m c at in
      gone (m + 1) (omega arith) (omega arith) (subst (λ (z : ℕ). Stands K R (take (m + 1) h) z x) is
      (k.alone n m c x low (omega arith) at (subst (λ (z : ℕ). Stands K R (take n h) z x) (sym is) s)))
