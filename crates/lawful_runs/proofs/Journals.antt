-- Lawful journals, put together of shorter ones.
use Rattle.std.proofs.Common.{◌≡◌, List, [], ◌∷◌, ◌++◌, Ok, sym, subst}
use Rattle.filter_state.specs.declared.edit.Edit.{Edit}
use Rattle.filter_state.specs.declared.refusal.Done.{Done}
use Rattle.filter_state.specs.Lines.{IsLine}
use Rattle.filter_state.specs.States.{State}
use Rattle.filter_state.specs.Steps.{Stepped, step}
use Rattle.filter_state.specs.Journals.{state_after, state_from, Accepts, IsLawfulFrom}

-- an accepted edit, and those behind it
pub lawful_cons : (s next : State) (done : Done) (edit : Edit) (edits : List Edit) → IsLine edit → step s edit ≡ Ok (next, done) → IsLawfulFrom next edits → IsLawfulFrom s (edit ∷ edits)
lawful_cons s next done edit edits line stepped rest =
    (line, subst (Accepts s edit) (sym stepped) tt, subst (λ (after : Stepped). IsLawfulFrom (state_after s after) edits) (sym stepped) rest)

pub lawful_append : (s : State) (before edits : List Edit) → IsLawfulFrom s before → IsLawfulFrom (state_from s before) edits → IsLawfulFrom s (before ++ edits)
lawful_append s [] edits first rest = rest
lawful_append s (edit ∷ before) edits first rest = (first.0, first.1, lawful_append (state_after s (step s edit)) before edits first.2 rest)
