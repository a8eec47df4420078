-- NAMES that are asked for one after the other.
use Rattle.std.proofs.Common.{◌≡◌, ◌∙◌, inl, inr, ℕ, ◌+◌, ◌<◌, List, [], ◌∷◌, ◌++◌, get_or, length, take, Option, Result, Ok, Err, sym, ap, subst}
use Rattle.std.proofs.lemmas.List.{append-nil, take-append-drop}
use Rattle.std.proofs.lemmas.Grind.{flat_map-append}
use Rattle.tc_base.specs.Outside.{Held, Asked, AsksFor, Appended, AppendsUpTo}
use Rattle.tc_base.proofs.Appends.{Appended-then, AppendsUpTo-then, AppendsUpTo-all, AppendsUpTo-last, AppendsUpTo-more, AppendsUpTo-front}
use Rattle.job_lines.specs.declared.job.Job.{Job}
use Rattle.job_lines.specs.declared.job.Round.{Round}
use Rattle.job_files.specs.Holdings.{HasJobFile}
use Rattle.job_files.specs.Inputs.{FetchesInput, input_names}
use Rattle.job_files.proofs.Reached.{one_more}
use Rattle.tool_run.specs.Asks.{output_name, output_names, PutsOutput}

-- a front was asked for, however the call ended
pub asks_some : {T E : Type 0} → (a b : Asked) (names : List (List ℕ)) (result : Result T E)
    → AsksFor a b names result → AppendsUpTo a b names
asks_some a b names (Ok done) all = AppendsUpTo-all a b names all
asks_some a b names (Err fault) some = some

-- ---- a batch, and then a capture
pub one_done : (a b : Asked) (x : List ℕ) → Appended a b (x ∷ []) → AppendsUpTo a b (x ∷ [])
one_done a b x p = AppendsUpTo-all a b (x ∷ []) p

pub first_asked : (a b : Asked) (x y : List ℕ) → AppendsUpTo a b (x ∷ []) → AppendsUpTo a b (x ∷ y ∷ [])
first_asked a b x y p = AppendsUpTo-more a b (x ∷ []) (y ∷ []) p

pub first_done : (a b : Asked) (x y : List ℕ) → Appended a b (x ∷ []) → AppendsUpTo a b (x ∷ y ∷ [])
first_done a b x y p = AppendsUpTo-front a b (x ∷ []) (y ∷ []) p

pub second_asked : (a b c : Asked) (x y : List ℕ) → Appended a b (x ∷ []) → AppendsUpTo b c (y ∷ [])
    → AppendsUpTo a c (x ∷ y ∷ [])
second_asked a b c x y p q = AppendsUpTo-last a b c (x ∷ []) (y ∷ []) p q

pub second_done : (a b c : Asked) (x y : List ℕ) → Appended a b (x ∷ []) → Appended b c (y ∷ [])
    → AppendsUpTo a c (x ∷ y ∷ [])
second_done a b c x y p q = AppendsUpTo-all a c (x ∷ y ∷ []) (Appended-then a b c (x ∷ []) (y ∷ []) p q)

-- ---- a job with its files, and then a report
pub job_then_more : (told : Option Held) (a b : Asked) (job : List ℕ) (more : List (List ℕ))
    → FetchesInput told a b job [] → FetchesInput told a b job more
job_then_more told a b job more (inl own) = inl own
job_then_more told a b job more (inr files) =
    inr (
      files.0,
      files.1,
      AppendsUpTo-more a b (input_names job files.0) more
          (subst (λ (names : List (List ℕ)). AppendsUpTo a b names) (append-nil (input_names job files.0)) files.2),
    )

pub report_asked : (told : Option Held) (a b c : Asked) (job report : List ℕ) (said : Job)
    → HasJobFile told job said → Appended a b (input_names job said) → AppendsUpTo b c (report ∷ [])
    → FetchesInput told a c job (report ∷ [])
report_asked told a b c job report said has p q =
    inr (said, has, AppendsUpTo-last a b c (input_names job said) (report ∷ []) p q)

pub report_done : (told : Option Held) (a b c : Asked) (job report : List ℕ) (said : Job)
    → HasJobFile told job said → Appended a b (input_names job said) → Appended b c (report ∷ [])
    → FetchesInput told a c job (report ∷ [])
report_done told a b c job report said has p q =
    report_asked told a b c job report said has p (AppendsUpTo-all b c (report ∷ []) q)

-- ---- the four files of a workload
pub four_put : (a b c d e : Asked) (w x y z : List ℕ) → Appended a b (w ∷ []) → Appended b c (x ∷ [])
    → Appended c d (y ∷ []) → AppendsUpTo d e (z ∷ []) → AppendsUpTo a e (w ∷ x ∷ y ∷ z ∷ [])
four_put a b c d e w x y z p q r s =
    AppendsUpTo-last a d e (w ∷ x ∷ y ∷ []) (z ∷ [])
    (Appended-then a c d (w ∷ x ∷ []) (y ∷ []) (Appended-then a b c (w ∷ []) (x ∷ []) p q) r) s

pub three_put : (a b c d : Asked) (w x y z : List ℕ) → Appended a b (w ∷ []) → Appended b c (x ∷ [])
    → AppendsUpTo c d (y ∷ []) → AppendsUpTo a d (w ∷ x ∷ y ∷ z ∷ [])
three_put a b c d w x y z p q r =
    AppendsUpTo-then a c d (w ∷ x ∷ []) (y ∷ []) (z ∷ []) (Appended-then a b c (w ∷ []) (x ∷ []) p q) r

pub two_put : (a b c : Asked) (w x y z : List ℕ) → Appended a b (w ∷ []) → AppendsUpTo b c (x ∷ [])
    → AppendsUpTo a c (w ∷ x ∷ y ∷ z ∷ [])
two_put a b c w x y z p q = AppendsUpTo-then a b c (w ∷ []) (x ∷ []) (y ∷ z ∷ []) p q

pub one_put : (a b : Asked) (w x y z : List ℕ) → AppendsUpTo a b (w ∷ []) → AppendsUpTo a b (w ∷ x ∷ y ∷ z ∷ [])
one_put a b w x y z p = AppendsUpTo-more a b (w ∷ []) (x ∷ y ∷ z ∷ []) p

-- ---- outputs, round by round
pub outputs_more : (rounds : List Round) (i : ℕ) (round : Round) → i < length rounds → round ≡ get_or rounds i round
    → output_names (take (i + 1) rounds) ≡ output_names (take i rounds) ++ output_name round.capture
outputs_more rounds i round here is =
    ap output_names (one_more rounds i round here is)
    ∙ flat_map-append (λ (r : Round). output_name r.capture) (take i rounds) (round ∷ [])
    ∙ ap (λ (names : List (List ℕ)). output_names (take i rounds) ++ names) (append-nil (output_name round.capture))

pub output_then : (a b c : Asked) (rounds : List Round) (i : ℕ) (round : Round) → i < length rounds
    → round ≡ get_or rounds i round → Appended a b (output_names (take i rounds))
    → Appended b c (output_name round.capture) → Appended a c (output_names (take (i + 1) rounds))
output_then a b c rounds i round here is p q =
    subst (λ (names : List (List ℕ)). Appended a c names) (sym (outputs_more rounds i round here is))
    (Appended-then a b c (output_names (take i rounds)) (output_name round.capture) p q)

-- the outputs up to a round are a front of all
pub outputs_front : (a b : Asked) (rounds : List Round) (i : ℕ) → AppendsUpTo a b (output_names (take i rounds))
    → AppendsUpTo a b (output_names rounds)
outputs_front a b rounds i p =
    subst (λ (all : List Round). AppendsUpTo a b (output_names all)) (take-append-drop i rounds)
    (subst (λ (names : List (List ℕ)). AppendsUpTo a b names)
    (sym (flat_map-append (λ (r : Round). output_name r.capture) (take i rounds) _))
    (AppendsUpTo-more a b (output_names (take i rounds)) _ p))

pub output_not_put : (a b c : Asked) (rounds : List Round) (i : ℕ) (round : Round) → i < length rounds
    → round ≡ get_or rounds i round → Appended a b (output_names (take i rounds))
    → AppendsUpTo b c (output_name round.capture) → AppendsUpTo a c (output_names rounds)
output_not_put a b c rounds i round here is p q =
    outputs_front a c rounds (i + 1)
    (subst (λ (names : List (List ℕ)). AppendsUpTo a c names) (sym (outputs_more rounds i round here is))
    (AppendsUpTo-last a b c (output_names (take i rounds)) (output_name round.capture) p q))

pub outputs_put : (a b : Asked) (rounds : List Round) (i : ℕ) → Appended a b (output_names (take i rounds))
    → AppendsUpTo a b (output_names rounds)
outputs_put a b rounds i p = outputs_front a b rounds i (AppendsUpTo-all a b (output_names (take i rounds)) p)

-- what was put behind the loading of a job is what that job names
pub outputs_of_held : (told : Option Held) (a b c : Asked) (name : List ℕ) (job : Job) → HasJobFile told name job
    → b ≡ a → AppendsUpTo b c (output_names job.rounds) → PutsOutput told a c name
outputs_of_held told a b c name job has same put =
    inr (job, has, subst (λ (before : Asked). AppendsUpTo before c (output_names job.rounds)) same put)
