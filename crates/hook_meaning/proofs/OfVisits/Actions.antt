-- From the record of an action to the answer of the state of the visit's point.
use Rattle.std.proofs.Common.{max, ◌≡◌, ◌∙◌, ℕ, ◌<◌, ◌≤◌, List, length, Option, Some, None, IfSome, refl, sym, ap, subst, arith}
use Rattle.std.specs.Option.{ForSome}
use Rattle.std.proofs.lemmas.Option.{none-some, same_Some}
use Rattle.act_kinds.specs.declared.params.VlanOp.{VlanOp}
use Rattle.act_kinds.specs.declared.params.VlanOp.TheVariants as ops
use Rattle.act_kinds.specs.declared.params.Params.{Params}
use Rattle.act_kinds.specs.declared.params.Params.TheVariants as params
use Rattle.act_kinds.specs.Ranges.{IsVlanOp, IsVlanPriority, AreParams}
use Rattle.act_kinds.specs.Acts.{FitsTag, FitsFrames}
use Rattle.store_history.specs.declared.history.Commit.{Commit}
use Rattle.store_history.specs.History.{root_of, edits_of}
use Rattle.store_history.specs.Reads.{read_first}
use Rattle.filter_state.specs.declared.edit.Edit.{Edit}
use Rattle.filter_state.specs.States.{Action, State}
use Rattle.filter_state.specs.Actions.{has_serial}
use Rattle.filter_state.specs.Tables.{first_where}
use Rattle.filter_state.specs.Sound.{IsAction, Sound}
use Rattle.filter_state.proofs.Pairs.{found}
use Rattle.walk_rules.specs.Questions as questions
use Rattle.walk_rules.specs.Questions.{told_params}
use Rattle.walk_rules.specs.Answers.{params_answer, answer_of}
use Rattle.block_codec.specs.declared.action.StoredAction.{StoredAction}
use Rattle.block_codec.specs.OfReadings.Read.{action_of_words}
use Rattle.mask_table.specs.Told.{edits_by}
use Rattle.hook_law.specs.Places.{action_root}
use Rattle.hook_law.specs.Records.{ActionRecord}
use Rattle.hook_law.specs.Meaning as law
use Rattle.hook_law.specs.Standing.{Stands}
use Rattle.hook_law.specs.Standing as standing
use Rattle.hook_law.specs.Telling.{ReadsAction}
use Rattle.hook_law.specs.Told.{Told}
use Rattle.hook_law.specs.Keeping.{Keeps}
use Rattle.hook_law.proofs.Pushing.{told}
use Rattle.hook_meaning.specs.Stated.{ActionTerms, hook_meaning, action_at, action_stated}
use Rattle.hook_meaning.specs.Blocks.{action_record, hook_codec}
use Rattle.hook_meaning.specs.Told.{state_after_edits}
use Rattle.hook_meaning.proofs.Reading.{some_of, first_mapped}
use Rattle.hook_meaning.proofs.States.{state_is, sound_after}
use Rattle.hook_meaning.specs.OfVisits.Known.{ActionLived}
use Rattle.hook_meaning.proofs.OfVisits.Names.{edits_rise, edits_all}

-- ---- parameters in their ranges fit frames
priority_fits : (priority : Option ℕ) → IfSome priority IsVlanPriority → ForSome priority (λ p. p < 8)
priority_fits None range = λ p given. absurd (none-some p given)
priority_fits (Some n) range = λ p given. let same = same_Some n p given in omega (arith, range, same)

tag_fits : (op : VlanOp) → IsVlanOp op → FitsTag op
tag_fits (ops.Push tpid id priority) range = (omega (arith, range.1), omega (arith, range.2))
tag_fits ops.Pop range = tt
tag_fits (ops.Modify tpid id priority) range = (omega (arith, range.1), priority_fits priority range.2)

params_fit : (given : Params) → AreParams given → FitsFrames given
params_fit (params.Gact control) range = tt
params_fit (params.Vlan op control) range = tag_fits op range.0
params_fit (params.Skbedit priority mark queue control) range = tt

-- ---- an action of a state
module _ (s : State) (serial : ℕ) (terms : ActionTerms) (there : action_at s serial ≡ Some terms) where
  one : (action : Action) × (first_where (has_serial serial) s.actions ≡ Some action) × (action_stated action ≡ terms)
  one = some_of action_stated (first_where (has_serial serial) s.actions) terms there

  pub state_answers : answer_of s (questions.params_of serial) ≡ Some (told_params terms.params)
  state_answers = ap params_answer one.1 ∙ ap (λ (t : ActionTerms). Some (told_params t.params)) one.2

  pub state_fits : Sound s → FitsFrames terms.params
  state_fits sound = let f = found (IsAction s) (has_serial serial) s.actions one.0 sound.actions one.1 in
      subst (λ (t : ActionTerms). FitsFrames t.params) one.2 (params_fit one.0.params f.0.params)

-- ---- a visit of an action that is known
module _ (h : List (Commit Edit)) (b floor slot serial : ℕ) (keeps : Keeps hook_meaning hook_codec h b) (known : ActionLived h b floor slot serial) where
  abbrev point : ℕ
  point = max (root_of h (action_root slot)).stamp floor

  tells : Told hook_meaning hook_codec h known.at (action_root slot) (standing.Action serial)
  tells = told hook_meaning hook_codec h b known.at (action_root slot) (standing.Action serial) keeps known.late known.made (slot, known.there, refl, known.live)

  reached : point ≤ edits_by h tells.at
  reached = let t = tells.tells in let early = t.early in let f = known.reached in let e = edits_rise h known.at tells.at tells.late in omega (arith, early, f, e)

  reads : ReadsAction hook_meaning hook_codec serial (root_of h (action_root slot)).chain (law.state_at hook_meaning (edits_of h) point)
  reads = let t = tells.tells in t.reads point (omega arith) reached

  pub action_answered : (action : StoredAction) × (read_first action_of_words (root_of h (action_root slot)).chain ≡ Some action)
      × (answer_of (state_after_edits h point) (questions.params_of serial) ≡ Some (told_params action.params)) × FitsFrames action.params × (point ≤ law.point_of h)
  action_answered =
      let read = first_mapped action_record action_of_words (root_of h (action_root slot)).chain reads.action reads.read in
      let low : b ≤ length h = (let a = known.late in let m = known.made in omega (arith, a, m)) in
      let are : action_at (state_after_edits h point) serial ≡ Some reads.action.params = subst (λ (s : State). action_at s serial ≡ Some reads.action.params) (state_is (edits_of h) point) reads.are in
      let same : reads.action.params.params ≡ read.0.params = ap (λ (r : ActionRecord ActionTerms). r.params.params) (sym read.2) in (
        read.0,
        read.1,
        state_answers (state_after_edits h point) serial reads.action.params are ∙ ap (λ (p : Params). Some (told_params p)) same,
        subst FitsFrames same (state_fits (state_after_edits h point) serial reads.action.params are (sound_after h b point keeps low)),
        (let r = reached in let all = edits_all h tells.at tells.made in omega (arith, r, all)),
      )
