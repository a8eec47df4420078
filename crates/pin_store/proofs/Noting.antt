-- What the notes of pins say, as pins are raised and loaded.
use Rattle.std.proofs.Common.{◌≡◌, ℕ, zero, suc, ◌+◌, ◌%◌, ◌<◌, ◌≤◌, Bool, true, false, cond, List, [], ◌∷◌, length, get_or, Option, None, refl, sym, subst, arith, eq-eqb, ne_eqb, le_refl, min, replicate}
use Rattle.std.specs.Prelude.{◌&&◌}
use mathlib.Core.Logic.{dite}
use native.Mathlib.Decide.{ℕ_discrete}
use Rattle.pin_store.specs.declared.view.Floor.{Floor}
use Rattle.pin_store.specs.declared.note.Note.{Note}
use Rattle.pin_store.specs.declared.note.Note.TheVariants.{Unknown, Seen, Clear}
use Rattle.pin_store.specs.Notes.{IsFresh, IsSoundNote, is_clear, all_clear, noted, noted_odd, IsTaken}

fresh_none : (e : ℕ) (floor : Option Floor) → floor ≡ None → IsFresh e floor
fresh_none e floor is = subst (IsFresh e) (sym is) tt

noted_odd_ok : (e pin : ℕ) (floor : Option Floor) (n : Note) → IsSoundNote e pin floor n → IsSoundNote e pin floor (noted_odd n pin)
noted_odd_ok e pin floor Unknown k = (le_refl pin, λ ne. absurd (ne refl))
noted_odd_ok e pin floor Clear k = k
noted_odd_ok e pin floor (Seen c n) k = dite (ℕ_discrete c pin)
    (λ is. subst (λ (b : Bool). IsSoundNote e pin floor (cond b (Seen c (min (n + 1) 18446744073709551615)) Clear)) (sym (eq-eqb c pin is)) k)
    (λ ne. subst (λ (b : Bool). IsSoundNote e pin floor (cond b (Seen c (min (n + 1) 18446744073709551615)) Clear)) (sym (ne_eqb c pin ne)) (k.1 ne))

-- the note is right after the pin was loaded
pub noted_ok : (e pin : ℕ) (floor : Option Floor) (n : Note) → (pin % 2 ≡ 0 → floor ≡ None) → IsSoundNote e pin floor n → IsSoundNote e pin floor (noted n pin)
noted_ok e pin floor n even k = dite (ℕ_discrete (pin % 2) 0)
    (λ is. subst (λ (b : Bool). IsSoundNote e pin floor (cond b Clear (noted_odd n pin))) (sym (eq-eqb (pin % 2) 0 is)) (fresh_none e floor (even is)))
    (λ ne. subst (λ (b : Bool). IsSoundNote e pin floor (cond b Clear (noted_odd n pin))) (sym (ne_eqb (pin % 2) 0 ne)) (noted_odd_ok e pin floor n k))

-- where there is no floor, or the floor is the present epoch, the pin may be raised
pub note_raised : (e pin pin' : ℕ) (floor floor' : Option Floor) (n : Note) → pin ≤ pin' → IsFresh e floor' → IsSoundNote e pin floor n → IsSoundNote e pin' floor' n
note_raised e pin pin' floor floor' Unknown up f k = tt
note_raised e pin pin' floor floor' (Seen c n) up f k = let a = k.0 in (omega arith, λ _. f)
note_raised e pin pin' floor floor' Clear up f k = f

and_left : (a b : Bool) → (a && b) ≡ true → a ≡ true
and_left true b e = refl
and_left false b e = absurd (cc e)

and_right : (a b : Bool) → (a && b) ≡ true → b ≡ true
and_right true b e = e
and_right false b e = absurd (cc e)

pub clear_fresh : (e pin : ℕ) (floor : Option Floor) (n : Note) → is_clear n ≡ true → IsSoundNote e pin floor n → IsFresh e floor
clear_fresh e pin floor Unknown c k = absurd (cc c)
clear_fresh e pin floor (Seen a b) c k = absurd (cc c)
clear_fresh e pin floor Clear c k = k

pub clear_at : (ns : List Note) (i : ℕ) → all_clear ns ≡ true → i < length ns → is_clear (get_or ns i Unknown) ≡ true
clear_at [] i c h = absurd (omega arith)
clear_at (n ∷ ns) zero c h = and_left (is_clear n) (all_clear ns) c
clear_at (n ∷ ns) (suc i) c h = clear_at ns i (and_right (is_clear n) (all_clear ns) c) (omega arith)

pub same_replicated : (n i : ℕ) (a : Note) → get_or (replicate n a) i a ≡ a
same_replicated zero i a = refl
same_replicated (suc n) zero a = refl
same_replicated (suc n) (suc i) a = same_replicated n i a

pub all_clear_from : (ns : List Note) → ((j : ℕ) → j < length ns → is_clear (get_or ns j Unknown) ≡ true) → all_clear ns ≡ true
all_clear_from [] h = refl
all_clear_from (n ∷ ns) h = both (is_clear n) (all_clear ns) (h 0 (omega arith)) (all_clear_from ns (λ j l. h (suc j) (omega arith)))
  where
    both : (a b : Bool) → a ≡ true → b ≡ true → (a && b) ≡ true
    both true b e f = f
    both false b e f = absurd (cc e)

pub not_clear_yet : (ns : List Note) (i : ℕ) → i < length ns → is_clear (get_or ns i Unknown) ≡ false → all_clear ns ≡ false
not_clear_yet [] i l e = absurd (omega arith)
not_clear_yet (n ∷ ns) zero l e = go (is_clear n) e
  where
    go : (b : Bool) → b ≡ false → (b && all_clear ns) ≡ false
    go true f = absurd (cc f)
    go false f = refl
not_clear_yet (n ∷ ns) (suc i) l e = go (is_clear n) (not_clear_yet ns i (omega arith) e)
  where
    go : (b : Bool) → all_clear ns ≡ false → (b && all_clear ns) ≡ false
    go true f = f
    go false f = refl

taken_odd : (n : Note) (p : ℕ) → p % 2 ≡ 1 → IsTaken (noted_odd n p)
taken_odd Unknown p odd = odd
taken_odd (Seen c n) p odd = dite (ℕ_discrete c p)
    (λ is. subst (λ (b : Bool). IsTaken (cond b (Seen c (min (n + 1) 18446744073709551615)) Clear)) (sym (eq-eqb c p is)) (subst (λ (z : ℕ). z % 2 ≡ 1) (sym is) odd))
    (λ ne. subst (λ (b : Bool). IsTaken (cond b (Seen c (min (n + 1) 18446744073709551615)) Clear)) (sym (ne_eqb c p ne)) tt)
taken_odd Clear p odd = tt

pub taken : (n : Note) (p : ℕ) → IsTaken (noted n p)
taken n p = dite (ℕ_discrete (p % 2) 0)
    (λ is. subst (λ (b : Bool). IsTaken (cond b Clear (noted_odd n p))) (sym (eq-eqb (p % 2) 0 is)) tt)
    (λ ne. subst (λ (b : Bool). IsTaken (cond b Clear (noted_odd n p))) (sym (ne_eqb (p % 2) 0 ne)) (taken_odd n p (omega arith)))

pub taken_clear : (n : Note) → is_clear n ≡ true → IsTaken n
taken_clear Unknown e = absurd (cc e)
taken_clear (Seen c n) e = absurd (cc e)
taken_clear Clear e = tt

pub none_clear : (n : ℕ) → 0 < n → all_clear (replicate n Unknown) ≡ false
none_clear zero l = absurd (omega arith)
none_clear (suc n) l = refl
