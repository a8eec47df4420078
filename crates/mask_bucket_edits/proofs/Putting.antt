-- Blocks put in front of a chain, one after the other.
use Rattle.std.proofs.Common.{◌≡◌, ◌≢◌, ◌∙◌, ◌⊎◌, inl, inr, ℕ, zero, suc, ◌+◌, ◌<◌, List, [], ◌∷◌, ◌++◌, length, map, take, drop, get_or, slice_get, Option, Some, refl, sym, ap, subst, arith, append_assoc}
use Rattle.std.specs.List.{IsDistinct}
use Rattle.std.specs.Prelude.{eqb}
use Rattle.std.proofs.Math.Seq.{drop-cons}
use Rattle.std.proofs.lemmas.List.{drop_all, take-append-drop}
use Rattle.std.proofs.lemmas.List.{map-append}
use Rattle.store_history.specs.declared.history.Commit.{Commit}
use Rattle.pin_store.specs.declared.shape.Shape.{Shape}
use Rattle.pin_store.specs.Calls.{IsUnnamed}
use Rattle.block_codec.specs.declared.filter.StoredFilter.{StoredFilter}
use Rattle.mask_table.specs.Buckets.{bucket_for, IsAmong}
use Rattle.mask_table.specs.declared.mirrors.mirror.Mirror.{Mirror}
use Rattle.mask_table.specs.OfMirrors.Kept.{HasFilter, HoldsChain}
use Rattle.mask_table.specs.OfMirrors.Changes.{IsFilled}
use Rattle.mask_table.specs.OfMirrors.Lists.{kept_in}
use Rattle.mask_table.specs.OfMirrors.Given.{AreGiven}
use Rattle.mask_table.proofs.OfMirrors.Lasting.{kept_same}
use Rattle.mask_bucket_edits.specs.Putting.{AreApart, AreOfBucket, AreFilled, ArePut}
use Rattle.mask_bucket_edits.proofs.Among.{among_left, among_right, among_either, among_take, among_drop, different_left, different_right, different_apart}

-- none
pub put_none : (mirror : Mirror) (shape : Shape) (cells : List ℕ) (number : ℕ) → ArePut mirror mirror shape cells cells [] [] number number
put_none mirror shape cells number = record {
  filled = record { others = λ other out less. refl; slots = refl; first = refl; next = λ c out. refl; kept = λ c out. refl };
  have = refl;
  chain = λ size bucket tail apart of s. s;
}

-- one
pub put_one : (mirror mirror2 : Mirror) (shape : Shape) (old new : List ℕ) (b number age : ℕ) (filter : StoredFilter) → IsFilled mirror mirror2 shape old new b → kept_in mirror2 b ≡ (age, Some filter)
    → ((size : ℕ) (bs : List ℕ) → ((k c : ℕ) → slice_get bs k ≡ Some c → c ≢ b) → HoldsChain mirror shape old size (bucket_for size filter.key.words) number bs
    → HoldsChain mirror2 shape new size (bucket_for size filter.key.words) (b + 1) (b ∷ bs))
    → ArePut mirror mirror2 shape old new (b ∷ []) ((age, Some filter) ∷ []) number (b + 1)
put_one mirror mirror2 shape old new b number age filter f dated more = record {
  filled = record {
    others = λ other out less. f.others other (away other out) less;
    slots = f.slots;
    first = f.first;
    next = λ c out. f.next c (away c out);
    kept = λ c out. let ages = f.ages c (away c out) in let filters = f.filters c (away c out) in λ t. (ages t, filters t);
  };
  have = ap (λ (k : ℕ × Option StoredFilter). k ∷ []) dated;
  chain = λ size bucket tail apart of s. let is : bucket_for size filter.key.words ≡ bucket = of 0 age filter refl in
      subst (λ (k : ℕ). HoldsChain mirror2 shape new size k (b + 1) (b ∷ tail)) is
      (more size tail (λ k c e same. apart c (k, e) (0, ap Some (sym same))) (subst (λ (k : ℕ). HoldsChain mirror shape old size k number tail) (sym is) s));
}
  where
    away : (c : ℕ) → (IsAmong c (b ∷ []) → ⊥) → c ≢ b
    away c out same = out (0, ap Some (sym same))

-- some, and more in front of them
module _ (mirror middle mirror2 : Mirror) (shape : Shape) (old new new2 bs cs : List ℕ) (dated front : List (ℕ × Option StoredFilter)) (number start start2 : ℕ) (apart : AreApart bs cs)
    (first : ArePut mirror middle shape old new bs dated number start) (then : ArePut middle mirror2 shape new new2 cs front start start2) where
  out_left : (c : ℕ) → (IsAmong c (cs ++ bs) → ⊥) → IsAmong c cs → ⊥
  out_left c out (k, e) = out (among_left c cs bs k e)

  out_right : (c : ℕ) → (IsAmong c (cs ++ bs) → ⊥) → IsAmong c bs → ⊥
  out_right c out i = out (among_right c cs bs i)

  filled_both : AreFilled mirror mirror2 shape old new2 (cs ++ bs)
  filled_both = let one = first.filled in let two = then.filled in record {
    others = λ other out less. two.others other (out_left other out) less ∙ one.others other (out_right other out) less;
    slots = two.slots ∙ one.slots;
    first = two.first ∙ one.first;
    next = λ c out. two.next c (out_left c out) ∙ one.next c (out_right c out);
    kept = λ c out. two.kept c (out_left c out) ∙ one.kept c (out_right c out);
  }

  apart_both : (tail : List ℕ) → AreApart tail (cs ++ bs) → AreApart (bs ++ tail) cs
  apart_both tail away b (k, e) i = pick (among_either b bs tail k e)
    where
      pick : IsAmong b bs ⊎ IsAmong b tail → ⊥
      pick (inl here) = apart b here i
      pick (inr there) = away b there (among_left b cs bs i.0 i.1)

  pub put_both : ArePut mirror mirror2 shape old new2 (cs ++ bs) (front ++ dated) number start2
  put_both = record {
    filled = filled_both;
    have = map-append (kept_in mirror2) cs bs
        ∙ (λ t. then.have t ++ (kept_same middle mirror2 bs (λ k c e. then.filled.kept c (λ i. apart c (k, e) i)) ∙ first.have) t);
    chain = λ size bucket tail away of s.
        let inner = first.chain size bucket tail (λ b i j. away b i (among_right b cs bs j)) (λ k age f e. of_right size bucket of k age f e) s in
        let outer = then.chain size bucket (bs ++ tail) (apart_both tail away) (λ k age f e. of_left size bucket of k age f e) inner in
        subst (HoldsChain mirror2 shape new2 size bucket start2) (sym (append_assoc cs bs tail)) outer;
  }
    where
      of_left : (size bucket : ℕ) → AreOfBucket size bucket (front ++ dated) → AreOfBucket size bucket front
      of_left size bucket of k age f e = let r = among_left (age, Some f) front dated k e in of r.0 age f r.1

      of_right : (size bucket : ℕ) → AreOfBucket size bucket (front ++ dated) → AreOfBucket size bucket dated
      of_right size bucket of k age f e = let r = among_right (age, Some f) front dated (k, e) in of r.0 age f r.1

-- ---- a step of copying: the filters from a place on are copied, and one in front of them
pub put_step : (mirror middle mirror2 : Mirror) (shape : Shape) (old new new2 from given : List ℕ) (number start left place c b : ℕ) → left ≡ suc place → place < length from → length given ≡ length from
    → c ≡ get_or from place 0 → b ≡ get_or given place 0 → IsDistinct eqb given → AreApart from given
    → ArePut mirror middle shape old new (drop left given) (map (kept_in mirror) (drop left from)) number start → ArePut middle mirror2 shape new new2 (b ∷ []) (kept_in middle c ∷ []) start (b + 1)
    → ArePut mirror mirror2 shape old new2 (drop place given) (map (kept_in mirror) (drop place from)) number (b + 1)
put_step mirror middle mirror2 shape old new new2 from given number start left place c b step low long c_is b_is different apart put one =
    let given_is : drop place given ≡ b ∷ drop left given = drop-cons given place 0 (omega arith) ∙ (λ t. sym b_is t ∷ drop (sym step t) given) in
    let from_is : drop place from ≡ c ∷ drop left from = drop-cons from place 0 low ∙ (λ t. sym c_is t ∷ drop (sym step t) from) in
    let away : AreApart (drop left given) (b ∷ []) = λ x i j. different_apart (b ∷ []) (drop left given) (subst (IsDistinct eqb) given_is (different_drop place given different)) x j i in
    let c_there : IsAmong c from = among_drop c place from 0 (ap (λ (xs : List ℕ). slice_get xs 0) from_is) in
    let same : kept_in middle c ≡ kept_in mirror c = put.filled.kept c (λ i. apart c c_there (among_drop c left given i.0 i.1)) in
    let whole = put_both mirror middle mirror2 shape old new new2 (drop left given) (b ∷ []) (map (kept_in mirror) (drop left from)) (kept_in middle c ∷ []) number start (b + 1) away put one in
    subst (λ (bs : List ℕ). ArePut mirror mirror2 shape old new2 bs (map (kept_in mirror) (drop place from)) number (b + 1)) (sym given_is)
    (subst (λ (ks : List (ℕ × Option StoredFilter)). ArePut mirror mirror2 shape old new2 (b ∷ drop left given) ks number (b + 1)) ((λ t. same t ∷ map (kept_in mirror) (drop left from)) ∙ ap (map (kept_in mirror)) (sym from_is)) whole)
  where
    different_drop : (n : ℕ) (xs : List ℕ) → IsDistinct eqb xs → IsDistinct eqb (drop n xs)
    different_drop zero xs d = d
    different_drop (suc n) [] d = d
    different_drop (suc n) (x ∷ xs) d = different_drop n xs (different_right (x ∷ []) xs d)

-- ---- what stays as blocks are put
pub still_has : (mirror middle : Mirror) (shape : Shape) (old new bs : List ℕ) → AreFilled mirror middle shape old new bs → (b : ℕ) → (IsAmong b bs → ⊥) → HasFilter mirror.filters.items b → HasFilter middle.filters.items b
still_has mirror middle shape old new bs f b out has = record { pool = has.pool; filter = has.filter; kept = ap (λ (k : ℕ × Option StoredFilter). k.1) (f.kept b out) ∙ has.kept; storable = has.storable }

pub still_free : {E : Type 0} (base base2 : ℕ) (h h2 : List (Commit E)) (b : ℕ) → base2 ≡ base → h2 ≡ h → IsUnnamed base h b → IsUnnamed base2 h2 b
still_free base base2 h h2 b e f free = subst (λ (n : ℕ). IsUnnamed n h2 b) (sym e) (subst (λ (x : List (Commit _)). IsUnnamed base x b) (sym f) free)

-- the first ones of those that are given, and the last
pub given_ends : (n : ℕ) (given : List ℕ) → length given ≡ n + 1 → take n given ++ get_or given n 0 ∷ [] ≡ given
given_ends n given long = let end : drop n given ≡ get_or given n 0 ∷ [] = drop-cons given n 0 (omega arith) ∙ ap (λ (xs : List ℕ). get_or given n 0 ∷ xs) (drop_all (suc n) given (omega arith)) in
    ap (λ (xs : List ℕ). take n given ++ xs) (sym end) ∙ take-append-drop n given

pub given_first : {E : Type 0} (base base2 : ℕ) (h h2 : List (Commit E)) (n : ℕ) (given : List ℕ) → base2 ≡ base → h2 ≡ h → AreGiven base h given → AreGiven base2 h2 (take n given)
given_first base base2 h h2 n given e f g = record {
  different = different_left (take n given) (drop n given) (subst (IsDistinct eqb) (sym (take-append-drop n given)) g.different);
  pool = λ k b i. g.pool k b (among_take b n given k i);
  free = λ k b i. still_free base base2 h h2 b e f (g.free k b (among_take b n given k i));
}
