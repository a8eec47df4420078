-- Blocks that are followed from a number on: there is one such list, and it is no longer than the pool.
use mathlib.Core.List.{append-nil}
use Rattle.std.proofs.Common.{◌≡◌, ◌≢◌, ◌∙◌, ℕ, zero, suc, ◌+◌, ◌-◌, ◌<◌, ◌≤◌, Bool, true, false, List, [], ◌∷◌, ◌++◌, length, drop, get_or, slice_get, Some, eqb, ◌||◌, refl, sym, ap, subst, arith, append_assoc, eqb-true, length-append}
use Rattle.std.specs.List.{list_any, IsDistinct, AllByRecursion}
use Rattle.std.proofs.lemmas.Bool.{ne_eqb}
use Rattle.std.proofs.lemmas.Map.Steps.{length-le_from_distinct_below}
use Rattle.std.proofs.lemmas.Option.{slice_get_within}
use Rattle.store_history.specs.declared.places.TheConstants.{POOL_BLOCKS}
use Rattle.mask_table.specs.OfMirrors.Kept.{Spells}

-- there is one list
pub same_blocks : (next : List ℕ) (number other : ℕ) (bs cs : List ℕ) → number ≡ other → Spells next number bs → Spells next other cs → bs ≡ cs
same_blocks next number other [] [] e s t = refl
same_blocks next number other [] (c ∷ cs) e s t = let none = s in let some = t.0 in absurd (omega (arith, e))
same_blocks next number other (b ∷ bs) [] e s t = let some = s.0 in let none = t in absurd (omega (arith, e))
same_blocks next number other (b ∷ bs) (c ∷ cs) e s t = let left = s.0 in let right = t.0 in let one : b ≡ c = omega (arith, e) in
    let rest = same_blocks next (get_or next b 0) (get_or next c 0) bs cs (ap (λ (k : ℕ). get_or next k 0) one) s.2 t.2 in
    λ i. one i ∷ rest i

-- from each of its blocks on, it is the rest
spelled_from : (next : List ℕ) (number b place : ℕ) (bs : List ℕ) → Spells next number bs → slice_get bs place ≡ Some b → Spells next (b + 1) (drop place bs)
spelled_from next number b place [] s e = absurd (let low = slice_get_within [] place b e in omega arith)
spelled_from next number b zero (c ∷ cs) s e = let same : c ≡ b = cc in subst (λ (k : ℕ). Spells next (k + 1) (c ∷ cs)) same (refl, s.1, s.2)
spelled_from next number b (suc place) (c ∷ cs) s e = spelled_from next (get_or next c 0) b place cs s.2 e

-- so no block comes twice
not_again : (next : List ℕ) (number b : ℕ) (bs : List ℕ) → Spells next number (b ∷ bs) → (place : ℕ) → slice_get bs place ≡ Some b → ⊥
not_again next number b bs s place e =
    let same = same_blocks next (b + 1) number (drop place bs) (b ∷ bs) (sym s.0) (spelled_from next (get_or next b 0) b place bs s.2 e) s in
    let long = ap length same in let cut = length_drop_le place bs in absurd (omega arith)
  where
    length_drop_le : (n : ℕ) (xs : List ℕ) → length (drop n xs) ≤ length xs
    length_drop_le zero xs = omega arith
    length_drop_le (suc n) [] = omega arith
    length_drop_le (suc n) (x ∷ xs) = let less = length_drop_le n xs in omega arith

all_others : (b : ℕ) (bs : List ℕ) → ((place : ℕ) → slice_get bs place ≡ Some b → ⊥) → AllByRecursion (λ c. eqb b c ≡ false) bs
all_others b [] never = tt
all_others b (c ∷ cs) never = (ne_eqb b c (λ e. never 0 (ap Some (sym e))), all_others b cs (λ place e. never (suc place) e))

pub all_different : (next : List ℕ) (number : ℕ) (bs : List ℕ) → Spells next number bs → IsDistinct eqb bs
unfolding IsDistinct
all_different next number [] s = tt
all_different next number (b ∷ bs) s = (all_others b bs (not_again next number b bs s), all_different next (get_or next b 0) bs s.2)

pub all_low : (next : List ℕ) (number : ℕ) (bs : List ℕ) → Spells next number bs → (q : ℕ) → list_any (eqb q) bs ≡ true → q < POOL_BLOCKS
all_low next number [] s q e = absurd (cc e)
all_low next number (b ∷ bs) s q e = pick (all_low next (get_or next b 0) bs s.2 q) (eqb q b) refl e
  where
    pick : (list_any (eqb q) bs ≡ true → q < POOL_BLOCKS) → (t : Bool) → eqb q b ≡ t → (t || list_any (eqb q) bs) ≡ true → q < POOL_BLOCKS
    pick rest true is e = let same = eqb-true q b is in let low = s.1 in omega arith
    pick rest false is e = rest e

-- and there are no more than the pool has
pub few_blocks : (next : List ℕ) (number : ℕ) (bs : List ℕ) → Spells next number bs → length bs ≤ POOL_BLOCKS
few_blocks next number bs s = length-le_from_distinct_below bs POOL_BLOCKS (all_different next number bs s) (all_low next number bs s)

-- behind 0 there are none
pub none_at_zero : (next : List ℕ) (number : ℕ) (bs : List ℕ) → Spells next number bs → number ≡ 0 → bs ≡ []
none_at_zero next number bs s e = same_blocks next number 0 bs [] e s refl

-- ---- a step along the chain
-- what is ahead while the chain is followed: `done` are the blocks so far, behind those that were there
-- before
pub record IsAhead (next : List ℕ) (start number : ℕ) (before done : List ℕ) : Type 0 where
  pub rest : List ℕ
  pub ahead : Spells next number rest
  pub few : length done + length rest ≤ 16385
  pub whole : (blocks : List ℕ) → Spells next start blocks → done ++ rest ≡ before ++ blocks

pub ahead_first : (next : List ℕ) (start : ℕ) (before blocks : List ℕ) → Spells next start blocks → length before + length blocks ≤ 16385 → IsAhead next start start before before
ahead_first next start before blocks s few = record {
  rest = blocks;
  ahead = s;
  few = few;
  whole = λ others t. ap (λ (bs : List ℕ). before ++ bs) (same_blocks next start start blocks others refl s t);
}

-- one block further on
pub record IsStep (next : List ℕ) (start number : ℕ) (before done : List ℕ) : Type 0 where
  pub low : number ≤ POOL_BLOCKS
  pub room : length done < 16385
  pub ahead : IsAhead next start (get_or next (number - 1) 0) before (done ++ (number - 1) ∷ [])

pub ahead_more : (next : List ℕ) (start number : ℕ) (before done : List ℕ) → IsAhead next start number before done → number ≢ 0 → IsStep next start number before done
ahead_more next start number before done a some = pick a.rest a.ahead a.few a.whole
  where
    pick : (rest : List ℕ) → Spells next number rest → length done + length rest ≤ 16385 → ((blocks : List ℕ) → Spells next start blocks → done ++ rest ≡ before ++ blocks)
        → IsStep next start number before done
    pick [] s few whole = absurd (some s)
    pick (b ∷ bs) s few whole = let is : number - 1 ≡ b = let first = s.0 in omega arith in let first = s.0 in let small = s.1 in
        let more = length-append done ((number - 1) ∷ []) in record {
          low = omega arith;
          room = omega arith;
          ahead = record {
            rest = bs;
            ahead = subst (λ (k : ℕ). Spells next (get_or next k 0) bs) (sym is) s.2;
            few = omega arith;
            whole = λ blocks t. append_assoc done ((number - 1) ∷ []) bs ∙ (ap (λ (k : ℕ). done ++ k ∷ bs) is ∙ whole blocks t);
          };
        }

pub ahead_last : (next : List ℕ) (start number : ℕ) (before done : List ℕ) → IsAhead next start number before done → number ≡ 0 → (blocks : List ℕ) → Spells next start blocks → done ≡ before ++ blocks
ahead_last next start number before done a over blocks s =
    sym (append-nil done) ∙ (ap (λ (rest : List ℕ). done ++ rest) (sym (none_at_zero next number a.rest a.ahead over)) ∙ a.whole blocks s)
