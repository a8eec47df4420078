-- The law holds of no commits.
use Rattle.std.proofs.Common.{◌≡◌, ℕ, zero, suc, ◌-◌, List, [], take, slice_get, Some, refl, ap, sym, subst, arith, le_refl}
use Rattle.store_history.specs.declared.history.Commit.{Commit}
use Rattle.store_history.specs.History.{root_of}
use Rattle.hook_law.specs.Records.{Codec}
use Rattle.hook_law.specs.Meaning.{Meaning, state_at, StartsEmpty}
use Rattle.hook_law.specs.Standing.{Region, Role, Head, Mask, Bucket, Action, IsMaskAt, IsSlotOf, Stands}
use Rattle.hook_law.specs.Telling.{Tells}
use Rattle.hook_law.specs.Keeping.{Present, Keeps}
use Rattle.hook_law.proofs.Points.{reads_at}

module _ {E S N P : Type 0} (K : Meaning E S N P) (R : Codec N P) where
  pub take_none : (n : ℕ) → take {A = Commit E} n [] ≡ []
  take_none zero = refl
  take_none (suc n) = refl

  nothing : (c : Commit E) (n : ℕ) → slice_get {X = Commit E} [] n ≡ Some c → ⊥
  nothing c n e = cc e

  pub no_slot : (a s : ℕ) → IsSlotOf {E = E} R [] a s → ⊥
  no_slot a s x = nothing x.commit x.place x.there

  pub no_mask : (m s : ℕ) → IsMaskAt {E = E} R [] m s → ⊥
  no_mask m s x = let e = x.there.1 in cc e

  pub no_bucket : (r : ℕ) (q : Region) (k : ℕ) → Stands K R [] r (Bucket q k) → ⊥
  no_bucket r q k s = no_mask q.mask q.slot s.1.at_mask

  -- only the heads stand
  opening_apart : (r : ℕ) (x y : Role) → Stands K R [] r x → Stands K R [] r y → x ≡ y
  opening_apart r (Head i) (Head j) s t = let e = s.1 in let f = t.1 in let g : i ≡ j = omega arith in ap Head g
  opening_apart r (Head i) (Mask m) s t = absurd (no_mask m t.0 t.1)
  opening_apart r (Head i) (Bucket q k) s t = absurd (no_bucket r q k t)
  opening_apart r (Head i) (Action a) s t = absurd (no_slot a t.0 t.1)
  opening_apart r (Mask m) y s t = absurd (no_mask m s.0 s.1)
  opening_apart r (Bucket q k) y s t = absurd (no_bucket r q k s)
  opening_apart r (Action a) y s t = absurd (no_slot a s.0 s.1)

  opening_tells : StartsEmpty K → (r : ℕ) (x : Role) → Stands K R [] r x → Tells K R [] x (root_of {E = E} [] r) 0
  opening_tells w r (Head i) s = record {
    early = le_refl 0;
    reads = λ k low high. let first : 0 ≡ k = omega arith in
        reads_at K R (Head i) [] _ _ _ _ (ap (λ (q : ℕ). state_at K [] (q - 1)) first) (ap (state_at K []) first) record { tables = []; read = refl; are = sym (w.heads i) };
  }
  opening_tells w r (Mask m) s = absurd (no_mask m s.0 s.1)
  opening_tells w r (Bucket q k) s = absurd (no_bucket r q k s)
  opening_tells w r (Action a) s = absurd (no_slot a s.0 s.1)

  pub keeps_opens : StartsEmpty K → Keeps K R [] 0
  keeps_opens w = record {
    present = λ n low high. subst (Present K R) (sym (take_none n)) record {
      lawful = w.lawful;
      tells = opening_tells w;
      slots = λ r q k fs f x s read inf inx. absurd (no_bucket r q k s);
      one_slot = λ a s t x y. absurd (no_slot a s x);
      placed = λ a live. absurd (live (w.params a));
      one_mask = λ m s t x y. absurd (no_mask m s x);
      apart = opening_apart;
    };
    stamped = λ n c at. absurd (nothing c n at);
    alone = λ n m c x low le at. absurd (nothing c m at);
    apart = λ n m r x y low le high s t. opening_apart r x y (subst (λ (z : List (Commit E)). Stands K R z r x) (take_none n) s) (subst (λ (z : List (Commit E)). Stands K R z r y) (take_none m) t);
  }
