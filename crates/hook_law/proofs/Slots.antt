-- The filters of a standing bucket are the state's, with the slots that the commits tell.
use Rattle.std.proofs.Common.{◌≡◌, ℕ, zero, suc, ◌-◌, ◌<◌, ◌≤◌, Bool, true, false, cond, nat_le, nat_lt, ◌&&◌, List, [], ◌∷◌, length, take, drop, map, slice_get, Option, Some, None, refl, ap, sym, ◌∙◌, subst, arith}
use Rattle.std.proofs.lemmas.Bool.Decides.{nat_tests}
use Rattle.std.proofs.lemmas.List.{take-append-drop}
use Rattle.store_history.specs.declared.history.Commit.{Commit}
use Rattle.store_history.specs.History.{root_of}
use Rattle.hook_law.specs.Places.{action_root, action_slots}
use Rattle.hook_law.specs.Records.{Slotted, FilterRecord, StatedFilter, ActionRecord, Codec, serials_of, stated_filter}
use Rattle.hook_law.specs.Chains.{read_first, read_all, bucket_of}
use Rattle.hook_law.specs.Meaning.{Meaning}
use Rattle.hook_law.specs.Standing.{Region, Bucket, PutsAction, IsSlotOf, Stands}
use Rattle.hook_law.specs.Keeping.{Keeps}
use Rattle.hook_law.specs.Slots.{has_serial, puts, slot_of, slotted}
use Rattle.hook_law.proofs.Standing.{present_end, slot_longer}

and_true : (a b c : Bool) → (a && (b && c)) ≡ true → (a ≡ true) × (b ≡ true) × (c ≡ true)
and_true true true true e = (refl, refl, refl)
and_true true true false e = absurd (cc e)
and_true true false c e = absurd (cc e)
and_true false b c e = absurd (cc e)

all_true : (a b c : Bool) → a ≡ true → b ≡ true → c ≡ true → (a && (b && c)) ≡ true
all_true true true true p q r = refl
all_true true true false p q r = r
all_true true false c p q r = q
all_true false b c p q r = p

module _ {P : Type 0} where
  serial_of : (o : Option (ActionRecord P)) (a : ℕ) → has_serial o a ≡ true → (put : ActionRecord P) × (o ≡ Some put) × (put.serial ≡ a)
  serial_of None a e = absurd (cc e)
  serial_of (Some put) a e = (put, refl, grind (arith, e))

  serial_true : (o : Option (ActionRecord P)) (put : ActionRecord P) (a : ℕ) → o ≡ Some put → put.serial ≡ a → has_serial o a ≡ true
  serial_true None put a e is = absurd (cc e)
  serial_true (Some d) put a e is = let same : d ≡ put = cc e in let s : d.serial ≡ a = ap (λ (z : ActionRecord P). z.serial) same ∙ is in grind (arith, s)

module _ {E N P : Type 0} (R : Codec N P) where
  -- the test of a commit says whether it puts the action
  puts_sound : (c : Commit E) (a : ℕ) → puts R c a ≡ true → PutsAction R c a (c.root - action_root 0)
  puts_sound c a e = let t = and_true (nat_le (action_root 0) c.root) (nat_lt c.root (action_root action_slots)) (has_serial (read_first R.action c.named.chain) a) e in
      let low : action_root 0 ≤ c.root = grind (arith, nat_tests, t.0) in let high : c.root < action_root action_slots = grind (arith, nat_tests, t.1) in
      let o = serial_of (read_first R.action c.named.chain) a t.2 in record { put = o.0; root = omega arith; small = omega arith; read = o.1; serial = o.2 }

  puts_complete : (c : Commit E) (a s : ℕ) → PutsAction R c a s → puts R c a ≡ true
  puts_complete c a s w = let root = w.root in let small = w.small in let low : action_root 0 ≤ c.root = omega arith in let high : c.root < action_root action_slots = omega arith in
      all_true (nat_le (action_root 0) c.root) (nat_lt c.root (action_root action_slots)) (has_serial (read_first R.action c.named.chain) a)
      (grind (arith, nat_tests, low)) (grind (arith, nat_tests, high)) (serial_true (read_first R.action c.named.chain) w.put a w.read w.serial)

  -- where some commit gives the action a slot, slot_of is one
  slot_found : (h : List (Commit E)) (a s : ℕ) → IsSlotOf R h a s → IsSlotOf R h a (slot_of R h a)
  slot_found [] a s w = absurd (let e = w.there in cc e)
  slot_found (c ∷ cs) a s w = pick (λ v. slot_found cs a s v) (puts R c a) refl (rest w.place w.there)
    where
      rest : (j : ℕ) → slice_get (c ∷ cs) j ≡ Some w.commit → puts R c a ≡ false → IsSlotOf R cs a s
      rest zero e unlike = let same : w.commit ≡ c = sym (cc e) in let like = puts_complete c a s (subst (λ (z : Commit E). PutsAction R z a s) same w.puts) in absurd (cc (like, unlike))
      rest (suc j) e unlike = record { place = j; commit = w.commit; there = e; puts = w.puts }

      pick : (IsSlotOf R cs a s → IsSlotOf R cs a (slot_of R cs a)) → (t : Bool) → puts R c a ≡ t → (puts R c a ≡ false → IsSlotOf R cs a s)
          → IsSlotOf R (c ∷ cs) a (cond t (c.root - action_root 0) (slot_of R cs a))
      pick more true e r = record { place = 0; commit = c; there = refl; puts = puts_sound c a e }
      pick more false e r = let o = more (r e) in record { place = suc o.place; commit = o.commit; there = o.there; puts = o.puts }

  names_slotted : (h : List (Commit E)) (xs : List Slotted) → ((j : ℕ) (x : Slotted) → slice_get xs j ≡ Some x → x.slot ≡ slot_of R h x.serial)
      → map (λ (a : ℕ). record { serial = a; slot = slot_of R h a }) (serials_of xs) ≡ xs
  names_slotted h [] ok = refl
  names_slotted h (x ∷ xs) ok = let one = ok 0 x refl in let rest = names_slotted h xs (λ j y e. ok (suc j) y e) in λ t. record { serial = x.serial; slot = sym one t } ∷ rest t

  filters_slotted : (h : List (Commit E)) (fs : List FilterRecord)
      → ((i j : ℕ) (f : FilterRecord) (x : Slotted) → slice_get fs i ≡ Some f → slice_get f.actions j ≡ Some x → x.slot ≡ slot_of R h x.serial)
      → map (slotted R h) (map stated_filter fs) ≡ fs
  filters_slotted h [] ok = refl
  filters_slotted h (f ∷ fs) ok = let one = names_slotted h f.actions (λ j x e. ok 0 j f x refl e) in let rest = filters_slotted h fs (λ i j g x e d. ok (suc i) j g x e d) in
      λ t. record { handle = f.handle; key = f.key; actions = one t } ∷ rest t

module _ {E S N P : Type 0} (K : Meaning E S N P) (R : Codec N P) where
  pub slot_is : (h : List (Commit E)) (b a s : ℕ) → b ≤ length h → Keeps K R h b → IsSlotOf R h a s → s ≡ slot_of R h a
  slot_is h b a s low k w = (present_end K R h b low k).one_slot a s (slot_of R h a) w (slot_found R h a s w)

  pub bucket_slotted : (h : List (Commit E)) (b n r : ℕ) (q : Region) (k : ℕ) (fs : List FilterRecord) (filters : List StatedFilter) → Keeps K R h b
      → b ≤ n → n ≤ length h → Stands K R (take n h) r (Bucket q k)
      → read_all R.filter (root_of (take n h) r).chain ≡ Some fs → map stated_filter fs ≡ bucket_of K.hash q.size k filters
      → fs ≡ map (slotted R h) (bucket_of K.hash q.size k filters)
  bucket_slotted h b n r q k fs filters kept low high s read are = sym (filters_slotted R h fs (λ i j f x e d. slot_is h b x.serial x.slot (omega arith) kept (whole f x (i, e) (j, d)))) ∙ ap (map (slotted R h)) are
    where
      whole : (f : FilterRecord) (x : Slotted) → (i : ℕ) × (slice_get fs i ≡ Some f) → (j : ℕ) × (slice_get f.actions j ≡ Some x)
          → IsSlotOf R h x.serial x.slot
      whole f x inf inx = subst (λ (z : List (Commit E)). IsSlotOf R z x.serial x.slot) (take-append-drop n h)
          (slot_longer R (take n h) (drop n h) x.serial x.slot ((kept.present n low high).slots r q k fs f x s read inf inx))
