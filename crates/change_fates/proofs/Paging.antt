-- A text that is written page by page.
use Rattle.std.proofs.Common.{◌≡◌, ◌∙◌, ℕ, List, [], ◌++◌, Option, sym, ap, subst, append_assoc}
use Rattle.std.specs.Prelude.{Result, Ok, Err, OnOk}
use Rattle.tc_base.specs.Outside.{Appended, AppendsUpTo}
use Rattle.tc_base.proofs.Appends.{Appended-nil, Appended-then, AppendsUpTo-front, AppendsUpTo-last, AppendsUpTo-more}
use Rattle.change_fates.specs.Paging.{IsOnPage}

-- what comes next is put on the page
pub on_more : (first now : Option (List ℕ)) (whole page new more rest : List ℕ) → new ≡ page ++ more → IsOnPage first now whole page (more ++ rest) → IsOnPage first now whole new rest
on_more first now whole page new more rest is at = record {
  gone = at.gone;
  wrote = at.wrote;
  whole_is = at.whole_is ∙ ap (λ (xs : List ℕ). at.gone ++ xs) (sym (append_assoc page more rest) ∙ ap (λ (xs : List ℕ). xs ++ rest) (sym is));
}

-- the page is written, and the next one begins
pub on_turned : (first middle now : Option (List ℕ)) (whole page new rest : List ℕ) → Appended middle now page → new ≡ [] → IsOnPage first middle whole page rest → IsOnPage first now whole new rest
on_turned first middle now whole page new rest wrote none at = record {
  gone = at.gone ++ page;
  wrote = Appended-then first middle now at.gone page at.wrote wrote;
  whole_is = at.whole_is ∙ sym (append_assoc at.gone page rest) ∙ ap (λ (xs : List ℕ). (at.gone ++ page) ++ (xs ++ rest)) (sym none);
}

-- so far a front of the text is written
pub on_front : (first now : Option (List ℕ)) (whole page rest : List ℕ) → IsOnPage first now whole page rest → AppendsUpTo first now whole
on_front first now whole page rest at = subst (AppendsUpTo first now) (sym at.whole_is) (AppendsUpTo-front first now at.gone (page ++ rest) at.wrote)

-- of the page a front was written
pub on_up_to : (first middle now : Option (List ℕ)) (whole page rest : List ℕ) → AppendsUpTo middle now page → IsOnPage first middle whole page rest → AppendsUpTo first now whole
on_up_to first middle now whole page rest front at =
    subst (AppendsUpTo first now) (append_assoc at.gone page rest ∙ sym at.whole_is)
    (AppendsUpTo-more first now (at.gone ++ page) rest (AppendsUpTo-last first middle now at.gone page at.wrote front))

-- a piece is written with nothing on the page
pub on_piece : (first middle now : Option (List ℕ)) (whole piece rest : List ℕ) → Appended middle now piece → IsOnPage first middle whole [] (piece ++ rest) → IsOnPage first now whole [] rest
on_piece first middle now whole piece rest wrote at = record {
  gone = at.gone ++ piece;
  wrote = Appended-then first middle now at.gone piece at.wrote wrote;
  whole_is = at.whole_is ∙ sym (append_assoc at.gone piece rest);
}

pub on_result : {T E : Type 0} (result : Result T E) (middle now : Option (List ℕ)) (piece : List ℕ) → OnOk result (Appended middle now piece)
    → OnOk result ((first : Option (List ℕ)) (whole rest : List ℕ) → IsOnPage first middle whole [] (piece ++ rest) → IsOnPage first now whole [] rest)
on_result (Ok done) middle now piece wrote = λ first whole rest at. on_piece first middle now whole piece rest wrote at
on_result (Err refused) middle now piece wrote = tt

pub on_piece_front : (first middle now : Option (List ℕ)) (whole piece rest : List ℕ) → AppendsUpTo middle now piece → IsOnPage first middle whole [] (piece ++ rest) → AppendsUpTo first now whole
on_piece_front first middle now whole piece rest front at =
    subst (AppendsUpTo first now) (append_assoc at.gone piece rest ∙ sym at.whole_is)
    (AppendsUpTo-more first now (at.gone ++ piece) rest (AppendsUpTo-last first middle now at.gone piece at.wrote front))

-- all that is left is on the page
pub on_last : (first middle now : Option (List ℕ)) (whole page new piece : List ℕ) → new ≡ page ++ piece → Appended middle now new → IsOnPage first middle whole page piece → Appended first now whole
on_last first middle now whole page new piece is wrote at =
    subst (Appended first now) (ap (λ (xs : List ℕ). at.gone ++ xs) is ∙ sym at.whole_is) (Appended-then first middle now at.gone new at.wrote wrote)

pub last_result : {T E : Type 0} (result : Result T E) (middle now : Option (List ℕ)) (page new piece text : List ℕ) → new ≡ page ++ piece → text ≡ new → OnOk result (Appended middle now text)
    → OnOk result ((first : Option (List ℕ)) (whole : List ℕ) → IsOnPage first middle whole page piece → Appended first now whole)
last_result (Ok done) middle now page new piece text is same wrote = λ first whole at. on_last first middle now whole page new piece is (subst (Appended middle now) same wrote) at
last_result (Err refused) middle now page new piece text is same wrote = tt

pub on_last_front : (first middle now : Option (List ℕ)) (whole page new piece : List ℕ) → new ≡ page ++ piece → AppendsUpTo middle now new → IsOnPage first middle whole page piece → AppendsUpTo first now whole
on_last_front first middle now whole page new piece is front at =
    subst (AppendsUpTo first now) (ap (λ (xs : List ℕ). at.gone ++ xs) is ∙ sym at.whole_is) (AppendsUpTo-last first middle now at.gone new at.wrote front)

-- nothing was written yet
pub on_start : (first : Option (List ℕ)) (whole rest : List ℕ) → whole ≡ rest → IsOnPage first first whole [] rest
on_start first whole rest is = record { gone = []; wrote = Appended-nil first; whole_is = is }
