-- What an accepted edit tells of the states, and that it may be made.
use Rattle.std.proofs.Common.{◌≡◌, ℕ, List, [], ◌∷◌, ◌++◌, length, Ok, sym, ◌∙◌, ap, subst, le_refl}
use Rattle.store_history.specs.declared.history.Commit.{Commit}
use Rattle.store_history.specs.History.{edits_of}
use Rattle.filter_state.specs.declared.edit.Edit.{Edit}
use Rattle.filter_state.specs.declared.refusal.Done.{Done}
use Rattle.filter_state.specs.States.{State, no_state}
use Rattle.filter_state.specs.Lines.{IsLine}
use Rattle.filter_state.specs.Steps.{step}
use Rattle.filter_state.specs.Journals.{Accepts, state_after, state_from, IsLawful, IsLawfulFrom}
use Rattle.filter_state.specs.Sound.{Sound}
use Rattle.state_laws.proofs.Steps.{step_sound}
use Rattle.std.proofs.lemmas.List.{take_all}
use Rattle.hook_law.specs.Meaning.{point_of}
use Rattle.hook_law.proofs.Standing.{present_end}
use Rattle.hook_meaning.specs.Stated.{hook_meaning}
use Rattle.hook_meaning.specs.Blocks.{hook_codec}
use Rattle.hook_meaning.proofs.States.{state_is, sound_after}
use Rattle.hook_meaning.specs.OfEdits.Premises.{now, next, IsAccepted}

-- ---- one edit more
accepted : (s t : State) (y : Edit) (done : Done) → step s y ≡ Ok (t, done) → Accepts s y (step s y)
accepted s t y done e = subst (Accepts s y) (sym e) tt

lawful_more : (s : State) (ys : List Edit) (y : Edit) → IsLawfulFrom s ys → IsLine y → Accepts (state_from s ys) y (step (state_from s ys) y)
    → IsLawfulFrom s (ys ++ y ∷ [])
lawful_more s [] y lawful line accepts = (line, accepts, tt)
lawful_more s (x ∷ ys) y lawful line accepts = (lawful.0, lawful.1, lawful_more (state_after s (step s x)) ys y lawful.2 line accepts)

now_is : (h : List (Commit Edit)) → now h ≡ state_from no_state (edits_of h)
now_is h = state_is (edits_of h) (point_of h) ∙ ap (state_from no_state) (take_all (length (edits_of h)) (edits_of h) (le_refl (length (edits_of h))))

module _ (h : List (Commit Edit)) (b : ℕ) (y : Edit) (t : State) (done : Done) (a : IsAccepted h b y t done) where
  pub leads : next h y ≡ t
  leads = ap (state_after (now h)) a.steps

  pub lawful : IsLawful (edits_of h ++ y ∷ [])
  lawful =
      lawful_more no_state (edits_of h) y (present_end hook_meaning hook_codec h b a.low a.keeps).lawful a.line
      (subst (λ s. Accepts s y (step s y)) (now_is h) (accepted (now h) t y done a.steps))

  pub sound : Sound (now h)
  sound = subst Sound (sym (state_is (edits_of h) (point_of h))) (sound_after h b (point_of h) a.keeps a.low)

  pub next_sound : Sound (next h y)
  next_sound = step_sound (now h) y sound a.line

  -- what holds of the state to which the step leads
  pub at_next : (P : State → Type 0) → P t → P (next h y)
  at_next P holds = subst P (sym leads) holds
