-- A walk that goes on has visits left, and one that doesn't asks nothing.
use Rattle.std.proofs.Common.{◌≡◌, ◌∙◌, ℕ, ◌<◌, nat_lt, true, List, ◌++◌, length, take, Option, Some, None, refl, sym, ap, arith}
use Rattle.std.proofs.Math.Seq.{take-append_seam}
use Rattle.std.proofs.lemmas.Bool.Decides.{nat_tests}
use Rattle.walk_rules.specs.declared.limits.TheConstants.{VISITS_MAX}
use Rattle.walk_rules.specs.Questions.{Question}
use Rattle.walk_rules.specs.Steps.{Standing, question_of}
use Rattle.walk_rules.proofs.Agreeing.{asked_at}
use Rattle.walk_steps.specs.declared.walk.Progress.{Progress}
use Rattle.walk_steps.specs.declared.walk.Progress.TheVariants as progresses
use Rattle.walk_steps.specs.Walking.{IsOnWay, progress_at, progress_of}

under : (n m : ℕ) → n ≡ m → nat_lt n VISITS_MAX ≡ true → m < VISITS_MAX
under n m same less = grind (arith, nat_tests, same, less)

pub visits_left : (st : Standing) (visits : ℕ) → st.visits ≡ visits → IsOnWay st → visits < VISITS_MAX
visits_left st visits count (question, asks) = under st.visits visits count (asked_at st question asks).0

pub asks_nothing : (st : Standing) (progress : Progress) → progress ≡ progress_of st → (progress ≡ progresses.Going → ⊥) → question_of st ≡ None
asks_nothing st progress is none = by_question (question_of st) refl
  where
    by_question : (o : Option Question) → question_of st ≡ o → o ≡ None
    by_question None asks = refl
    by_question (Some question) asks = absurd (none (is ∙ ap progress_at asks))

pub never_over : (st end : Standing) → st ≡ end → IsOnWay st → question_of end ≡ None → ⊥
never_over st end same (question, asks) over = let both : ◌≡◌ {A = Option Question} (Some question) None = sym asks ∙ ap question_of same ∙ over in cc both

-- what was told too early is taken back
pub cut_back : (page text between cut lines : List ℕ) → text ≡ page → between ≡ page ++ lines → cut ≡ take (length text) between → cut ≡ page
cut_back page text between cut lines same more is =
    is ∙ ap (λ (t : List ℕ). take (length t) between) same ∙ ap (take (length page)) more ∙ take-append_seam page lines
