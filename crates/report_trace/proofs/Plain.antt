-- The plain lines at the front of a report's bytes.
use Rattle.std.proofs.Common.{◌≡◌, ◌∙◌, ℕ, zero, suc, ◌+◌, true, false, List, [], ◌∷◌, ◌++◌, length, take, drop, Option, refl, sym, ap, ap₂, subst, arith, append_assoc, append-nil}
use Rattle.std.proofs.lemmas.List.Concat.{flat_map-append}
use Rattle.std.proofs.Math.Seq.{take-append_seam}
use Rattle.tc_base.specs.Outside.{Appended, AppendsUpTo}
use Rattle.tc_base.proofs.Appends.{Appended-then, AppendsUpTo-then, AppendsUpTo-front}
use Rattle.walk_texts.specs.Texts.{joined}
use Rattle.report_check.specs.Passed.{cut}
use Rattle.report_check.proofs.Passed.{joined_cut}
use Rattle.report_check.specs.OfEvents.Cursors.{IsLineAt}
use Rattle.report_trace.specs.Writing.{is_plain, ArePlain, IsWritten, IsBehind}

-- some of the plain lines are gone
pub record LeftAt (bytes : List ℕ) (at : ℕ) (plain : List (List ℕ)) (line : List ℕ) (lines : List (List ℕ)) : Type 0 where
  pub gone : List (List ℕ)
  pub left : List (List ℕ)
  pub plain_is : plain ≡ gone ++ left
  pub each : ArePlain left
  pub front : take at bytes ≡ joined gone
  pub rest : cut (drop at bytes) ≡ left ++ (line ∷ lines)

pub all_left : (bytes : List ℕ) (plain : List (List ℕ)) (line : List ℕ) (lines : List (List ℕ)) → ArePlain plain → cut bytes ≡ plain ++ (line ∷ lines) → LeftAt bytes 0 plain line lines
all_left bytes plain line lines each is = record { gone = []; left = plain; plain_is = refl; each = each; front = refl; rest = is }

take_plus : (a b : ℕ) (xs : List ℕ) → take (a + b) xs ≡ take a xs ++ take b (drop a xs)
take_plus zero b xs = let same : zero + b ≡ b = omega arith in ap (λ (n : ℕ). take n xs) same
take_plus (suc a) b [] = nothing_taken (suc a + b) ∙ sym (nothing_taken b)
  where
    nothing_taken : (n : ℕ) → ◌≡◌ {A = List ℕ} (take n []) []
    nothing_taken zero = refl
    nothing_taken (suc n) = refl
take_plus (suc a) b (x ∷ xs) = let same : suc a + b ≡ suc (a + b) = omega arith in ap (λ (n : ℕ). take n (x ∷ xs)) same ∙ ap (λ (ys : List ℕ). x ∷ ys) (take_plus a b xs)

pub heads_same : (a b : List ℕ) (xs ys : List (List ℕ)) → a ∷ xs ≡ b ∷ ys → a ≡ b
heads_same a b xs ys is = cc is

pub tails_same : (a b : List ℕ) (xs ys : List (List ℕ)) → a ∷ xs ≡ b ∷ ys → xs ≡ ys
tails_same a b xs ys is = cc is

module _ (bytes : List ℕ) (at : ℕ) (line : List ℕ) (lines : List (List ℕ)) (last : is_plain line ≡ false) (next : List ℕ) (is_next : IsLineAt bytes at next) where
  -- a plain line goes
  front_more : take (at + length next) bytes ≡ take at bytes ++ next
  front_more =
      let text : drop at bytes ≡ next ++ joined (cut (drop (at + length next) bytes)) = sym (joined_cut (drop at bytes)) ∙ ap joined is_next.first in
      take_plus at (length next) bytes ∙ ap (λ (bs : List ℕ). take at bytes ++ take (length next) bs) text ∙ ap (λ (bs : List ℕ). take at bytes ++ bs) (take-append_seam next (joined (cut (drop (at + length next) bytes))))

  pub left_more : (plain : List (List ℕ)) → is_plain next ≡ true → LeftAt bytes at plain line lines → LeftAt bytes (at + length next) plain line lines
  left_more plain holds it = by_left it.left it.plain_is it.each it.rest
    where
      by_left : (left : List (List ℕ)) → plain ≡ it.gone ++ left → ArePlain left → cut (drop at bytes) ≡ left ++ (line ∷ lines) → LeftAt bytes (at + length next) plain line lines
      by_left [] plain_is each rest =
          let same : next ≡ line = heads_same next line (cut (drop (at + length next) bytes)) lines (sym is_next.first ∙ rest) in
          absurd (let both : true ≡ false = sym holds ∙ ap is_plain same ∙ last in cc both)
      by_left (first ∷ left) plain_is each rest =
          let same : next ≡ first = heads_same next first (cut (drop (at + length next) bytes)) (left ++ (line ∷ lines)) (sym is_next.first ∙ rest) in
          record {
            gone = it.gone ++ (first ∷ []);
            left = left;
            plain_is = plain_is ∙ sym (append_assoc it.gone (first ∷ []) left);
            each = each.1;
            front = front_more ∙ ap₂ (λ (xs ys : List ℕ). xs ++ ys) it.front (same ∙ sym (append-nil first)) ∙ sym (flat_map-append (λ (l : List ℕ). l) it.gone (first ∷ []));
            rest = tails_same next first (cut (drop (at + length next) bytes)) (left ++ (line ∷ lines)) (sym is_next.first ∙ rest);
          }

  -- all are gone
  pub none_left : (plain : List (List ℕ)) → is_plain next ≡ false → LeftAt bytes at plain line lines → (take at bytes ≡ joined plain) × (cut (drop at bytes) ≡ line ∷ lines)
  none_left plain fails it = by_left it.left it.plain_is it.each it.rest
    where
      by_left : (left : List (List ℕ)) → plain ≡ it.gone ++ left → ArePlain left → cut (drop at bytes) ≡ left ++ (line ∷ lines) → (take at bytes ≡ joined plain) × (cut (drop at bytes) ≡ line ∷ lines)
      by_left [] plain_is each rest = (it.front ∙ ap joined (sym (plain_is ∙ append-nil it.gone)), rest)
      by_left (first ∷ left) plain_is each rest =
          let same : next ≡ first = heads_same next first (cut (drop (at + length next) bytes)) (left ++ (line ∷ lines)) (sym is_next.first ∙ rest) in
          absurd (let both : true ≡ false = sym each.0 ∙ ap is_plain (sym same) ∙ fails in cc both)

-- the line that isn't plain is still there
pub some_left : (bytes : List ℕ) (at : ℕ) (plain : List (List ℕ)) (line : List ℕ) (lines : List (List ℕ)) → LeftAt bytes at plain line lines → cut (drop at bytes) ≡ [] → ⊥
some_left bytes at plain line lines it none = by_left it.left (sym none ∙ it.rest)
  where
    by_left : (left : List (List ℕ)) → [] ≡ left ++ (line ∷ lines) → ⊥
    by_left [] is = cc is
    by_left (first ∷ left) is = cc is

-- ---- what is written
pub wrote_plain : (first a b : Option (List ℕ)) (whole bytes piece rest : List ℕ) (lines : List (List ℕ)) (it : IsBehind first a whole bytes lines rest) → piece ≡ joined it.plain → Appended a b piece → IsWritten first b whole rest
wrote_plain first a b whole bytes piece rest lines it same wrote = record {
  gone = it.written.gone ++ joined it.plain;
  wrote = Appended-then first a b it.written.gone (joined it.plain) it.written.wrote (subst (Appended a b) same wrote);
  whole_is = it.written.whole_is ∙ sym (append_assoc it.written.gone (joined it.plain) rest);
}

pub up_to_plain : (first a b : Option (List ℕ)) (whole bytes piece rest : List ℕ) (lines : List (List ℕ)) (it : IsBehind first a whole bytes lines rest) → piece ≡ joined it.plain → AppendsUpTo a b piece → AppendsUpTo first b whole
up_to_plain first a b whole bytes piece rest lines it same wrote =
    subst (AppendsUpTo first b) (sym it.written.whole_is) (AppendsUpTo-then first a b it.written.gone (joined it.plain) rest it.written.wrote (subst (AppendsUpTo a b) same wrote))

-- ---- a front that is written
pub up_to_now : (first now : Option (List ℕ)) (whole rest : List ℕ) → IsWritten first now whole rest → AppendsUpTo first now whole
up_to_now first now whole rest it = subst (AppendsUpTo first now) (sym it.whole_is) (AppendsUpTo-front first now it.gone rest it.wrote)

pub wrote_more : (first a b : Option (List ℕ)) (whole piece rest : List ℕ) → IsWritten first a whole (piece ++ rest) → Appended a b piece → IsWritten first b whole rest
wrote_more first a b whole piece rest it wrote = record {
  gone = it.gone ++ piece;
  wrote = Appended-then first a b it.gone piece it.wrote wrote;
  whole_is = it.whole_is ∙ sym (append_assoc it.gone piece rest);
}

pub up_to_more : (first a b : Option (List ℕ)) (whole piece rest : List ℕ) → IsWritten first a whole (piece ++ rest) → AppendsUpTo a b piece → AppendsUpTo first b whole
up_to_more first a b whole piece rest it wrote = subst (AppendsUpTo first b) (sym it.whole_is) (AppendsUpTo-then first a b it.gone piece rest it.wrote wrote)
