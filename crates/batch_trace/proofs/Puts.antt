-- What is written page by page: what was put, and what isn't written yet.
use Rattle.std.proofs.Common.{◌≡◌, ◌∙◌, ℕ, List, ◌++◌, append_assoc, Option, Result, Ok, Err, OnOk, sym, ap, subst}
use Rattle.tc_base.specs.Outside.{Appended, AppendsUpTo}
use Rattle.tc_base.proofs.Appends.{Appended-then, AppendsUpTo-then, AppendsUpTo-front, AppendsUpTo-last}

-- what was put is a front of all
pub front_put : (a b : Option (List ℕ)) (put page text rest : List ℕ) → Appended a b put → put ++ page ≡ text → AppendsUpTo a b (text ++ rest)
front_put a b put page text rest wrote is =
    subst (AppendsUpTo a b) (sym (append_assoc put page rest) ∙ ap (λ (t : List ℕ). t ++ rest) is) (AppendsUpTo-front a b put (page ++ rest) wrote)

-- and so is what is written behind it
pub more_put : (a b d : Option (List ℕ)) (put page lent one text rest : List ℕ) → Appended a b put → put ++ page ≡ text → lent ≡ one → AppendsUpTo b d (page ++ lent) → AppendsUpTo a d (text ++ (one ++ rest))
more_put a b d put page lent one text rest wrote is same more =
    subst (AppendsUpTo a d)
    (ap (λ (t : List ℕ). put ++ (t ++ rest)) (ap (λ (t : List ℕ). page ++ t) same) ∙ ap (λ (t : List ℕ). put ++ t) (append_assoc page one rest)
    ∙ sym (append_assoc put page (one ++ rest)) ∙ ap (λ (t : List ℕ). t ++ (one ++ rest)) is)
    (AppendsUpTo-then a b d put (page ++ lent) rest wrote more)

-- what was put twice, and what isn't yet
pub both_put : (put more page next lent one text : List ℕ) → put ++ page ≡ text → more ++ next ≡ page ++ lent → lent ≡ one → (put ++ more) ++ next ≡ text ++ one
both_put put more page next lent one text is behind same =
    append_assoc put more next ∙ ap (λ (t : List ℕ). put ++ t) (behind ∙ ap (λ (t : List ℕ). page ++ t) same)
    ∙ sym (append_assoc put page one) ∙ ap (λ (t : List ℕ). t ++ one) is

-- at the end all is
pub last_put : {T E : Type 0} (result : Result T E) (a b d : Option (List ℕ)) (put page lent text whole : List ℕ) → Appended a b put → put ++ page ≡ text → lent ≡ page → whole ≡ text
    → OnOk result (Appended b d lent) → OnOk result (Appended a d whole)
last_put (Ok done) a b d put page lent text whole wrote is same all rest =
    subst (Appended a d) (ap (λ (t : List ℕ). put ++ t) same ∙ is ∙ sym all) (Appended-then a b d put lent wrote rest)
last_put (Err refused) a b d put page lent text whole wrote is same all rest = tt

pub last_up_to : (a b d : Option (List ℕ)) (put page lent text whole : List ℕ) → Appended a b put → put ++ page ≡ text → lent ≡ page → whole ≡ text
    → AppendsUpTo b d lent → AppendsUpTo a d whole
last_up_to a b d put page lent text whole wrote is same all rest =
    subst (AppendsUpTo a d) (ap (λ (t : List ℕ). put ++ t) same ∙ is ∙ sym all) (AppendsUpTo-last a b d put lent wrote rest)
