-- Walking along a chain, and what its blocks read as.
use Rattle.std.proofs.Common.{◌≡◌, ◌≢◌, ◌∙◌, ℕ, zero, suc, ◌+◌, ◌-◌, ◌<◌, ◌≤◌, List, [], ◌∷◌, length, drop, slice_get, get_or, Option, Some, None, refl, ap, sym, subst, le_refl, arith}
use Rattle.std.proofs.lemmas.List.{take_all, ext_get_or}
use Rattle.store_history.specs.declared.history.Link.{Link}
use Rattle.store_history.specs.declared.history.Commit.{Commit}
use Rattle.store_history.specs.History.{root_of, first_block, first_number, IsNamed, IsLinked}
use Rattle.store_history.specs.Reads.{in_front, read_all, read_first}

-- where the next block's number is not 0, it is that of the block at the place, whose last word is the next
-- one's
pub next_at : (w : ℕ) (chain : List Link) (k n : ℕ) → n ≡ first_number (drop k chain) → n ≢ 0 → IsLinked w chain
    → (l : Link) × (slice_get chain k ≡ Some l) × (l.block + 1 ≡ n) × (get_or l.words (w - 1) 0 ≡ first_number (drop (suc k) chain)) × (k < length chain)
next_at w [] zero n e ne h = absurd (ne e)
next_at w [] (suc k) n e ne h = absurd (ne e)
next_at w (l ∷ []) zero n e ne h = (l, refl, sym e, h, omega arith)
next_at w (l ∷ m ∷ ls) zero n e ne h = (l, refl, sym e, h.0, omega arith)
next_at w (l ∷ []) (suc zero) n e ne h = absurd (ne e)
next_at w (l ∷ []) (suc (suc k)) n e ne h = absurd (ne e)
next_at w (l ∷ m ∷ ls) (suc k) n e ne h = let t = next_at w (m ∷ ls) k n e ne h.1 in (t.0, t.1, t.2, t.3, omega arith)

-- where there is none, all were passed
pub all_passed : (chain : List Link) (k : ℕ) → k ≤ length chain → 0 ≡ first_number (drop k chain) → k ≡ length chain
all_passed [] k le e = omega arith
all_passed (l ∷ ls) zero le e = absurd (omega arith)
all_passed (l ∷ ls) (suc k) le e = ap suc (all_passed ls k (omega arith) e)

pub first_is : (chain : List Link) (b : ℕ) → Some b ≡ first_block chain → b + 1 ≡ first_number chain
first_is [] b e = absurd (cc e)
first_is (l ∷ ls) b e = ap (λ (z : ℕ). z + 1) (cc e)

pub first_none : (chain : List Link) → None ≡ first_block chain → 0 ≡ first_number chain
first_none [] e = refl
first_none (l ∷ ls) e = absurd (cc e)

-- a block of what a root names at the end is named since any base
pub named_end : {E : Type 0} (b : ℕ) (h : List (Commit E)) (r k : ℕ) (l : Link) → b ≤ length h → slice_get (root_of h r).chain k ≡ Some l → IsNamed b h l
named_end {E} b h r k l low e = record {
  after = length h;
  root = r;
  place = k;
  late = low;
  made = le_refl (length h);
  there = subst (λ (x : List (Commit E)). slice_get (root_of x r).chain k ≡ Some l) (sym (take_all (length h) h (le_refl (length h)))) e;
}

-- lists of numbers of one length that agree at each place
pub same_words : (n : ℕ) (xs ys : List ℕ) → length xs ≡ n → length ys ≡ n → ((i : ℕ) → i < n → get_or xs i 0 ≡ get_or ys i 0) → xs ≡ ys
same_words n xs ys a b e = ext_get_or 0 xs ys (a ∙ sym b) (λ i l. e i (subst (λ (z : ℕ). i < z) a l))

module _ {A : Type 0} (read : List ℕ → Option A) where
  pushed : (o : Option A) (r : Option (List A)) (xs : List A) → in_front o r ≡ Some xs → (x : A) × (ys : List A) × (o ≡ Some x) × (r ≡ Some ys) × (xs ≡ x ∷ ys)
  pushed (Some x) (Some ys) xs e = (x, ys, refl, refl, cc (e))
  pushed (Some x) None xs e = absurd (cc (e))
  pushed None r xs e = absurd (cc (e))

  -- the thing at a place is what the block there reads as
  pub read_at : (chain : List Link) (xs : List A) (k : ℕ) (l : Link) → read_all read chain ≡ Some xs → slice_get chain k ≡ Some l → (x : A) × (read l.words ≡ Some x) × (slice_get xs k ≡ Some x)
  read_at [] xs k l e at = absurd (cc (at))
  read_at (d ∷ ds) xs zero l e at = let t = pushed (read d.words) (read_all read ds) xs e in let same : d ≡ l = cc (at) in
      (t.0, subst (λ (z : Link). read z.words ≡ Some t.0) same t.2, ap (λ (z : List A). slice_get z 0) t.4)
  read_at (d ∷ ds) xs (suc k) l e at = let t = pushed (read d.words) (read_all read ds) xs e in let r = read_at ds t.1 k l t.3 at in
      (r.0, r.1, ap (λ (z : List A). slice_get z (suc k)) t.4 ∙ r.2)

  -- there is one for each block
  pub read_length : (chain : List Link) (xs : List A) → read_all read chain ≡ Some xs → length xs ≡ length chain
  read_length [] xs e = let same : xs ≡ [] = cc (e) in ap length same
  read_length (d ∷ ds) xs e = let t = pushed (read d.words) (read_all read ds) xs e in ap length t.4 ∙ ap suc (read_length ds t.1 t.3)

  -- the first thing is what the first block reads as
  pub first_read : (chain : List Link) (l : Link) → slice_get chain 0 ≡ Some l → read_first read chain ≡ read l.words
  first_read [] l e = absurd (cc e)
  first_read (d ∷ ds) l e = let same : d ≡ l = cc e in ap (λ (z : Link). read z.words) same

  pub none_read : (chain : List Link) → 0 ≡ length chain → read_first read chain ≡ None
  none_read [] e = refl
  none_read (l ∷ ls) e = absurd (omega arith)
