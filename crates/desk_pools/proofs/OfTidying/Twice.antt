-- Two scans after a new epoch began.
use Rattle.std.proofs.Common.{◌≡◌, ◌≢◌, ℕ, ◌+◌, ◌<◌, ◌≤◌, ◌%◌, ◌⊎◌, inl, inr, Bool, true, false, cond, eqb, List, [], ◌∷◌, ◌++◌, length, get_or, replicate, refl, ap, sym, ◌∙◌, subst, arith, zero, suc}
use Rattle.pin_store.specs.declared.note.Note.{Note}
use Rattle.pin_store.specs.declared.note.Note.TheVariants.{Unknown, Seen, Clear}
use Rattle.pin_store.specs.declared.scan.Scan.{Scan}
use Rattle.pin_store.specs.declared.scan.Scan.TheVariants.{Quiet, Pinned}
use Rattle.pin_store.specs.Notes.{NotedFrom, noted, noted_odd, is_clear, all_clear}
use Rattle.pin_store.specs.Found.{FoundIn}
use Rattle.desk_pools.specs.OfTidying.Tidied.{IsTwiceIn}

-- a note that was Unknown, after one load
once : (m : Note) → NotedFrom Unknown m → (m ≡ Clear) ⊎ ((p : ℕ) × (m ≡ Seen p 1) × (p % 2 ≡ 1))
once m (inl x) = absurd (let e = x.0 in cc (e))
once m (inr x) = pick (eqb (x.1.0 % 2) 0) refl x.1.1
  where
    pick : (t : Bool) → eqb (x.1.0 % 2) 0 ≡ t → m ≡ cond t Clear (Seen x.1.0 1) → (m ≡ Clear) ⊎ ((p : ℕ) × (m ≡ Seen p 1) × (p % 2 ≡ 1))
    pick true e is = inl is
    pick false e is = let odd : x.1.0 % 2 ≢ 0 = grind (arith, e) in inr (x.1.0, is, omega arith)

-- after another
again : (p : ℕ) (m : Note) (c n : ℕ) → p % 2 ≡ 1 → NotedFrom (Seen p 1) m → m ≡ Seen c n → (c ≡ p) × (n ≡ 2)
again p m c n odd (inl x) is = absurd (let e = x.0 in cc (e))
again p m c n odd (inr x) is = pick (eqb (x.1.0 % 2) 0) x.1.1
  where
    same : (u : Bool) → m ≡ cond u (Seen p 2) Clear → (c ≡ p) × (n ≡ 2)
    same true e = (cc (e, is), cc (e, is))
    same false e = absurd (cc (e, is))

    pick : (t : Bool) → m ≡ cond t Clear (cond (eqb p x.1.0) (Seen p 2) Clear) → (c ≡ p) × (n ≡ 2)
    pick true e = absurd (cc (e, is))
    pick false e = same (eqb p x.1.0) e

pub twice : (m n : Note) (p k : ℕ) → NotedFrom Unknown m → NotedFrom m n → n ≡ Seen p k → (n ≡ Seen p 2) × (p % 2 ≡ 1)
twice m n p k first second is = pick (once m first)
  where
    clear : m ≡ Clear → NotedFrom m n → (n ≡ Seen p 2) × (p % 2 ≡ 1)
    clear e (inl x) = absurd (let f = x.1 in cc (e, f, is))
    clear e (inr x) = absurd (let f : is_clear m ≡ true = ap is_clear e in let g = x.0 in cc (f, g))

    pick : (m ≡ Clear) ⊎ ((q : ℕ) × (m ≡ Seen q 1) × (q % 2 ≡ 1)) → (n ≡ Seen p 2) × (p % 2 ≡ 1)
    pick (inl e) = clear e second
    pick (inr q) = let a = again q.0 n p k q.2 (subst (λ (z : Note). NotedFrom z n) q.1 second) is in let c = a.0 in let d = a.1 in let o = q.2 in (is ∙ ap (Seen p) d, subst (λ (z : ℕ). z % 2 ≡ 1) (sym c) o)

pub found_twice : (first last : List Note) (s : Scan) → length last ≡ length first → ((i : ℕ) → i < length first → NotedFrom Unknown (get_or first i Unknown)) → ((i : ℕ) → i < length first → NotedFrom (get_or first i Unknown) (get_or last i Unknown)) → FoundIn last s → IsTwiceIn last s
found_twice first last Quiet long one two f = tt
found_twice first last (Pinned r p) long one two f = let inside : f.0 < length first = let x = f.2.1 in omega arith in
    let t = twice (get_or first f.0 Unknown) (get_or last f.0 Unknown) p f.2.0 (one f.0 inside) (two f.0 inside) f.2.2 in (f.0, f.1, t.0, t.1)

pub unknown_all : (n i : ℕ) → get_or (replicate n Unknown) i Unknown ≡ Unknown
unknown_all zero i = refl
unknown_all (suc n) zero = refl
unknown_all (suc n) (suc i) = unknown_all n i

pub not_clear : (n : ℕ) → 0 < n → all_clear (replicate n Unknown) ≡ false
not_clear zero l = absurd (omega arith)
not_clear (suc n) l = refl

pub last_start : (xs : List ℕ) (n e : ℕ) → length xs ≡ e → get_or (xs ++ n ∷ []) e 0 ≡ n
last_start [] n e is = rw (← is) refl
last_start (x ∷ xs) n e is = rw (← is) (last_start xs n (length xs) refl)
