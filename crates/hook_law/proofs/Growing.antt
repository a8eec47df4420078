-- What one more commit makes of the edits and the state.
use Rattle.std.proofs.Common.{◌≡◌, ℕ, ◌+◌, ◌<◌, ◌≤◌, List, [], ◌∷◌, ◌++◌, length, take, drop, Option, Some, None, refl, ap, sym, ◌∙◌, subst, arith, le_refl}
use mathlib.Core.List.{append-nil}
use Rattle.std.specs.Prelude.{option_map}
use Rattle.std.specs.List.{cons_option}
use Rattle.std.proofs.lemmas.List.{length-append, take-append-le, take_all, take-append-drop}
use Rattle.std.proofs.lemmas.List.Elements.{filter_map-append}
use Rattle.store_history.specs.declared.history.Commit.{Commit}
use Rattle.store_history.specs.History.{edits_of, root_of}
use Rattle.store_history.proofs.Histories.{root_own}
use Rattle.hook_law.specs.Meaning.{Meaning, run, state_at, now_of, next_of}

module _ {E : Type 0} where
  -- the edit of one commit, as a list
  abbrev pub edits_in : Option (ℕ × E) → List E
  edits_in None = []
  edits_in (Some numbered) = numbered.1 ∷ []

  edits_push : (h : List (Commit E)) (c : Commit E) → edits_of (h ++ c ∷ []) ≡ edits_of h ++ edits_in c.edit
  edits_push h c = filter_map-append _ h (c ∷ []) ∙ ap (λ (ys : List E). edits_of h ++ ys) (one c.edit)
    where
      one : (e : Option (ℕ × E)) → cons_option (option_map (λ (numbered : ℕ × E). numbered.1) e) [] ≡ edits_in e
      one None = refl
      one (Some x) = refl

  -- after a commit without a number, and after one with a number
  pub edits_still : (h : List (Commit E)) (c : Commit E) → c.edit ≡ None → edits_of (h ++ c ∷ []) ≡ edits_of h
  edits_still h c none = edits_push h c ∙ (ap (λ (e : Option (ℕ × E)). edits_of h ++ edits_in e) none ∙ append-nil (edits_of h))

  pub edits_more : (h : List (Commit E)) (c : Commit E) (n : ℕ) (y : E) → c.edit ≡ Some (n, y) → edits_of (h ++ c ∷ []) ≡ edits_of h ++ y ∷ []
  edits_more h c n y number = edits_push h c ∙ ap (λ (e : Option (ℕ × E)). edits_of h ++ edits_in e) number

  pub edits_parts : (n : ℕ) (h : List (Commit E)) → edits_of h ≡ edits_of (take n h) ++ edits_of (drop n h)
  edits_parts n h = ap edits_of (sym (take-append-drop n h)) ∙ filter_map-append _ (take n h) (drop n h)

  pub root_same : (h : List (Commit E)) (c : Commit E) (r : ℕ) → c.root ≡ r → root_of (h ++ c ∷ []) r ≡ c.named
  root_same h c r is = subst (λ (z : ℕ). root_of (h ++ c ∷ []) z ≡ c.named) is (root_own h c)

  module _ {S N P : Type 0} (K : Meaning E S N P) where
    pub state_stable : (edits more : List E) (k : ℕ) → k ≤ length edits → state_at K (edits ++ more) k ≡ state_at K edits k
    state_stable edits more k le = ap (run K K.start) (take-append-le k edits more le)

    run_push : (s : S) (edits : List E) (y : E) → run K s (edits ++ y ∷ []) ≡ K.step (run K s edits) y
    run_push s [] y = refl
    run_push s (x ∷ xs) y = run_push (K.step s x) xs y

    pub state_pushed : (edits : List E) (y : E) (k : ℕ) → length edits < k
        → state_at K (edits ++ y ∷ []) k ≡ K.step (state_at K edits (length edits)) y
    state_pushed edits y k more = ap (run K K.start) (take_all k (edits ++ y ∷ []) (omega (arith, length-append edits (y ∷ []))))
        ∙ (run_push K.start edits y ∙ ap (λ (z : List E). K.step (run K K.start z) y) (sym (take_all (length edits) edits (le_refl (length edits)))))

    pub now_still : (h : List (Commit E)) (c : Commit E) → c.edit ≡ None → now_of K (h ++ c ∷ []) ≡ now_of K h
    now_still h c none = ap (λ (edits : List E). state_at K edits (length edits)) (edits_still h c none)

    pub now_next : (h : List (Commit E)) (c : Commit E) (n : ℕ) (y : E) → c.edit ≡ Some (n, y) → now_of K (h ++ c ∷ []) ≡ next_of K h y
    now_next h c n y number = ap (λ (edits : List E). state_at K edits (length edits)) (edits_more h c n y number)
        ∙ state_pushed (edits_of h) y (length (edits_of h ++ y ∷ [])) (omega (arith, length-append (edits_of h) (y ∷ [])))
