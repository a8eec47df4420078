-- One visit more, of any kind.
use Rattle.std.proofs.Common.{◌≡◌, ◌∙◌, ℕ, List, [], ◌∷◌, ◌++◌, None, refl, sym}
use Rattle.std.proofs.lemmas.Option.{none-some}
use Rattle.walk_rules.specs.Questions.{Question, heads_of, filter_of, params_of, Answer}
use Rattle.walk_rules.specs.OfPoints.Points.{Visit}
use Rattle.hook_reader.specs.Seats.{HookSeat}
use Rattle.hook_reader.specs.Told.{WalkTold}
use Rattle.worker_rounds.specs.OfPoints.Walked.{HasVisited}
use Rattle.worker_rounds.proofs.OfPoints.Following.{mask_follows, action_follows, head_follows}

pub visit_follows : (old new : HookSeat) (visits : List Visit) (question : Question) (answer : Answer) (point : ℕ) → HasVisited old visits → WalkTold old question answer point new
    → HasVisited new (visits ++ (record { question = question; point = point } ∷ []))
visit_follows old new visits (heads_of hook) answer point has t = head_follows old new visits point has hook answer t
visit_follows old new visits (filter_of table mask values) answer point has t = mask_follows old new visits point has table mask values answer t
visit_follows old new visits (params_of serial) answer point has t = action_follows old new visits point has serial answer t

-- as a walk begins
pub none_visited : (r : HookSeat) → r.head ≡ None → HasVisited r []
none_visited r none = record {
  none = λ is. refl;
  some = λ is. none;
  first = λ v there. absurd (none-some v there);
  latest = λ place v there. absurd (none-some v there);
  one = λ heads first is. absurd (none-some first (sym none ∙ is));
  masks = λ place v first table mask values there asks is alone. absurd (none-some first (sym none ∙ is));
  actions = λ place v serial there asks. absurd (none-some v there);
}
