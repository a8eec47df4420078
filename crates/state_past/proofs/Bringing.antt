-- Pasts that are brought up to a point, key by key.
use Rattle.std.proofs.Common.{◌≡◌, ◌∙◌, ◌⊎◌, inl, inr, ℕ, zero, suc, ◌+◌, ◌<◌, ◌≤◌, ◌==◌, Bool, true, false, List, [], ◌∷◌, ◌++◌, length, take, map, get_or, Option, Some, Result, Ok, Err, refl, sym, ap, subst, arith, eqb-true, eq-eqb}
use Rattle.std.specs.Prelude.{if◌then◌else◌, OnOk}
use Rattle.std.specs.List.{flat_map}
use Rattle.std.specs.Str.{bytes_eq}
use Rattle.std.proofs.lemmas.Grind.{flat_map-append}
use Rattle.std.proofs.lemmas.List.{map-append, append-nil}
use Rattle.std.proofs.lemmas.Slice.Eq.{bytes_eq-Decides}
use Rattle.slot_pasts.specs.declared.past.Change.{Change}
use Rattle.slot_pasts.specs.Pasts.{value_at, stood}
use Rattle.state_past_laws.specs.OfChanges.Among.{Has}
use Rattle.state_past_laws.specs.OfChanges.Moving.{GrowsFrom}
use Rattle.state_past_laws.proofs.OfChanges.Among.{has_append, has_left, has_right}
use Rattle.state_past_laws.proofs.OfChanges.Moved.{grows_itself, grows_put, has_put}
use Rattle.act_kinds.specs.declared.params.Params.{Params}
use Rattle.filter_state.specs.States.{State}
use Rattle.edit_effects.specs.OfEffects.Parts.{params_at}
use Rattle.state_past.specs.Brought.{Brought, AllUpTo}
use Rattle.state_past.specs.Told.{StayLive}

pub on_ok : {A E : Type 0} (P Q : Type 0) (r : Result A E) → (P → Q) → OnOk r P → OnOk r Q
on_ok P Q (Ok a) goes p = goes p
on_ok P Q (Err e) goes p = tt

pub ok_told : {A E P : Type 0} (r : Result A E) → P → OnOk r P
ok_told (Ok a) p = p
ok_told (Err e) p = tt

-- ---- which keys are the same
abbrev pub Decided : Type 0 → Type 0
Decided K = (a b : K) → (a ≡ b) ⊎ (a ≡ b → ⊥)

pub numbers : Decided ℕ
numbers a b = pick (a == b) refl
  where
    pick : (t : Bool) → (a == b) ≡ t → (a ≡ b) ⊎ (a ≡ b → ⊥)
    pick true is = inl (eqb-true a b is)
    pick false is = inr (λ same. let own = eq-eqb a b same in absurd (cc (own, is)))

pub names : Decided (List ℕ)
names a b = pick (bytes_eq a b) refl
  where
    pick : (t : Bool) → bytes_eq a b ≡ t → (a ≡ b) ⊎ (a ≡ b → ⊥)
    pick true is = inl ((bytes_eq-Decides a b).0 is)
    pick false is = inr (λ same. let own = (bytes_eq-Decides a b).1 same in absurd (cc (own, is)))

pub has_decided : {K : Type 0} → Decided K → (k : K) (ks : List K) → Has k ks ⊎ (Has k ks → ⊥)
has_decided dec k [] = inr (λ has. has)
has_decided dec k (z ∷ ks) = pick (dec z k) (has_decided dec k ks)
  where
    pick : (z ≡ k) ⊎ (z ≡ k → ⊥) → Has k ks ⊎ (Has k ks → ⊥) → Has k (z ∷ ks) ⊎ (Has k (z ∷ ks) → ⊥)
    pick (inl same) rest = inl (inl same)
    pick (inr other) (inl has) = inl (inr has)
    pick (inr other) (inr none) = inr (λ has. neither has)
      where
        neither : (z ≡ k) ⊎ Has k ks → ⊥
        neither (inl same) = other same
        neither (inr has) = none has

module _ {K V W : Type 0} (from : ℕ) (read : Option V → W) where
  pub brought_up_to : (value : K → W) (keys : List K) (past after : K → List (Change V)) → Brought from read value keys past after → AllUpTo from after
  brought_up_to value keys past after b = λ key. let grows = b.grows key in grows.up_to

  pub brought_none : (value : K → W) (past : K → List (Change V)) → AllUpTo from past → Brought from read value [] past past
  brought_none value past up = record { grows = λ key. grows_itself from (past key) (up key); done = λ key has. absurd has; others = λ key none. refl }

  -- one key, of which nothing has to be put
  pub brought_still : (value : K → W) (key : K) (past : K → List (Change V)) → AllUpTo from past → read (value_at from (past key)) ≡ value key → Brought from read value (key ∷ []) past past
  brought_still value key past up is = record { grows = λ k. grows_itself from (past k) (up k); done = λ k has. done k has; others = λ k none. refl }
    where
      done : (k : K) → Has k (key ∷ []) → read (value_at from (past k)) ≡ value k
      done k (inl same) = subst (λ (z : K). read (value_at from (past z)) ≡ value z) same is
      done k (inr none) = absurd none

  -- one key, of which this is put
  module _ (value : K → W) (key : K) (test : K → Bool) (put : V) (past after : K → List (Change V)) (same_key : (k : K) → test k ≡ true → key ≡ k) (own_key : (k : K) → key ≡ k → test k ≡ true)
      (up : AllUpTo from past) (told : (k : K) → after k ≡ (if test k then past key ++ (record { from = from; value = put } ∷ []) else past k)) (is : read (Some put) ≡ value key) where
    by_test : (k : K) (b : Bool) → test k ≡ b → after k ≡ (if b then past key ++ (record { from = from; value = put } ∷ []) else past k)
    by_test k b at = told k ∙ ap (λ (c : Bool). if c then past key ++ (record { from = from; value = put } ∷ []) else past k) at

    put_grows : (k : K) (b : Bool) → test k ≡ b → GrowsFrom from (past k) (after k)
    put_grows k true at = subst (GrowsFrom from (past k)) (sym (by_test k true at))
        (subst (λ (z : K). GrowsFrom from (past z) (past key ++ (record { from = from; value = put } ∷ []))) (same_key k at) (grows_put from put (past key) (past key) (grows_itself from (past key) (up key))))
    put_grows k false at = subst (GrowsFrom from (past k)) (sym (by_test k false at)) (grows_itself from (past k) (up k))

    put_done : (k : K) → Has k (key ∷ []) → read (value_at from (after k)) ≡ value k
    put_done k (inl same) = ap (λ (p : List (Change V)). read (value_at from p)) (by_test k true (own_key k same)) ∙ ap read (has_put from put (past key)) ∙ is ∙ ap value same
    put_done k (inr none) = absurd none

    put_others : (k : K) (b : Bool) → test k ≡ b → (Has k (key ∷ []) → ⊥) → after k ≡ past k
    put_others k true at none = absurd (none (inl (same_key k at)))
    put_others k false at none = by_test k false at

    pub brought_put : Brought from read value (key ∷ []) past after
    brought_put = record { grows = λ k. put_grows k (test k) refl; done = put_done; others = λ k none. put_others k (test k) refl none }

  -- the same of one key, where that belongs there too
  pub brought_value : (value other : K → W) (key : K) (past after : K → List (Change V)) → value key ≡ other key → Brought from read value (key ∷ []) past after → Brought from read other (key ∷ []) past after
  brought_value value other key past after same b = record { grows = λ k. b.grows k; done = λ k has. done k has; others = λ k none. b.others k none }
    where
      done : (k : K) → Has k (key ∷ []) → read (value_at from (after k)) ≡ other k
      done k (inl own) = subst (λ (z : K). read (value_at from (after z)) ≡ other z) own (b.done key (inl refl) ∙ same)
      done k (inr none) = absurd none

  -- ---- some keys, and then some more
  module _ (dec : Decided K) (value : K → W) where
    pub brought_then : (ks ls : List K) (a b c : K → List (Change V)) → Brought from read value ks a b → Brought from read value ls b c → Brought from read value (ks ++ ls) a c
    brought_then ks ls a b c one other = record {
      grows = λ k. let first = one.grows k in let second = other.grows k in record { before = λ point less. second.before point less ∙ first.before point less; up_to = second.up_to };
      done = λ k has. done k (has_append k ks ls has) (has_decided dec k ls);
      others = λ k none. other.others k (λ has. none (has_right k ks ls has)) ∙ one.others k (λ has. none (has_left k ks ls has));
    }
      where
        done : (k : K) → Has k ks ⊎ Has k ls → Has k ls ⊎ (Has k ls → ⊥) → read (value_at from (c k)) ≡ value k
        done k either (inl has) = other.done k has
        done k (inl has) (inr none) = ap (λ (p : List (Change V)). read (value_at from p)) (other.others k none) ∙ one.done k has
        done k (inr has) (inr none) = absurd (none has)

    pub brought_keys : (ks ls : List K) (a b : K → List (Change V)) → ks ≡ ls → Brought from read value ks a b → Brought from read value ls a b
    brought_keys ks ls a b same brought = subst (λ (ms : List K). Brought from read value ms a b) same brought

pub take_more : {X : Type 0} (xs : List X) (k : ℕ) (d : X) → k < length xs → take (k + 1) xs ≡ take k xs ++ (get_or xs k d ∷ [])
take_more [] k d within = absurd (omega arith)
take_more (x ∷ xs) zero d within = refl
take_more (x ∷ xs) (suc k) d within =
    let next : suc k + 1 ≡ suc (k + 1) = omega arith in
    ap (λ n. take n (x ∷ xs)) next ∙ ap (λ ys. x ∷ ys) (take_more xs k d (omega arith))

pub take_whole : {X : Type 0} (xs : List X) (k : ℕ) → length xs ≤ k → take k xs ≡ xs
take_whole [] zero all = refl
take_whole [] (suc k) all = refl
take_whole (x ∷ xs) zero all = absurd (omega arith)
take_whole (x ∷ xs) (suc k) all = ap (λ ys. x ∷ ys) (take_whole xs k (omega arith))

-- the keys of one element more
pub map_more : {X K : Type 0} (f : X → K) (xs : List X) (k : ℕ) (x : X) → k < length xs → get_or xs k x ≡ x → map f (take k xs) ++ (f x ∷ []) ≡ map f (take (k + 1) xs)
map_more f xs k x within is = ap (λ y. map f (take k xs) ++ (f y ∷ [])) (sym is) ∙ sym (ap (map f) (take_more xs k x within) ∙ map-append f (take k xs) (get_or xs k x ∷ []))

pub flat_more : {X K : Type 0} (f : X → List K) (xs : List X) (k : ℕ) (x : X) → k < length xs → get_or xs k x ≡ x → flat_map f (take k xs) ++ f x ≡ flat_map f (take (k + 1) xs)
flat_more f xs k x within is = ap (λ y. flat_map f (take k xs) ++ f y) (sym is)
    ∙ sym (ap (flat_map f) (take_more xs k x within) ∙ (flat_map-append f (take k xs) (get_or xs k x ∷ []) ∙ ap (λ ys. flat_map f (take k xs) ++ ys) (append-nil (f (get_or xs k x)))))

pub has_at : {X : Type 0} (xs : List X) (k : ℕ) (x : X) → k < length xs → get_or xs k x ≡ x → Has x xs
has_at [] k x within is = absurd (omega arith)
has_at (z ∷ xs) zero x within is = inl is
has_at (z ∷ xs) (suc k) x within is = inr (has_at xs k x (omega arith) is)

pub has_get : {X : Type 0} (xs : List X) (k : ℕ) (d : X) → k < length xs → Has (get_or xs k d) xs
has_get [] k d within = absurd (omega arith)
has_get (z ∷ xs) zero d within = inl refl
has_get (z ∷ xs) (suc k) d within = inr (has_get xs k d (omega arith))

-- ---- actions that are live still
abbrev pub ParamsPasts : Type 0
ParamsPasts = ℕ → List (Change (Option Params))

pub one_live : (s : State) (from : ℕ) (past : ParamsPasts) (serials : List ℕ) (serial : ℕ) → Has serial serials → StayLive s from past serials → StayLive s from past (serial ∷ [])
one_live s from past serials serial has live n at some = pick at
  where
    pick : (serial ≡ n) ⊎ ⊥ → stood (value_at from (past n)) ≡ params_at s n
    pick (inl same) = live n (subst (λ (m : ℕ). Has m serials) same has) some
    pick (inr none) = absurd none

pub still_live : (s : State) (from : ℕ) (past middle : ParamsPasts) (keys serials : List ℕ) → StayLive s from past serials → Brought from stood (params_at s) keys past middle → StayLive s from middle serials
still_live s from past middle keys serials live brought serial has some = pick (has_decided numbers serial keys)
  where
    pick : Has serial keys ⊎ (Has serial keys → ⊥) → stood (value_at from (middle serial)) ≡ params_at s serial
    pick (inl at) = brought.done serial at
    pick (inr none) = ap (λ (p : List (Change (Option Params))). stood (value_at from p)) (brought.others serial none) ∙ live serial has some
