-- What an edit of a filter is answered with.
use Rattle.std.proofs.Common.{◌≡◌, ◌∙◌, ℕ, List, Some, Ok, sym, ap}
use Rattle.filter_state.specs.declared.edit.Edit.{Edit}
use Rattle.filter_state.specs.declared.edit.Edit.TheVariants as edits
use Rattle.filter_state.specs.declared.edit.FilterLine.{FilterLine}
use Rattle.filter_state.specs.declared.refusal.Done.{Done}
use Rattle.filter_state.specs.declared.refusal.Done.TheVariants as dones
use Rattle.filter_state.specs.States.{Row, State}
use Rattle.filter_state.specs.Steps.{step, pref_for}
use Rattle.hook_store_law.proofs.OfEffects.Replacing.{replaces}
use Rattle.desk_parts.proofs.OfWays.Needed as told
use Rattle.hook_store_law.specs.OfEdits.Premises.{IsAddOf, named_row}

-- the filter has this pref, and some handle and actions
pub record IsFilterAt (done : Done) (pref : ℕ) : Type 0 where
  pub handle : ℕ
  pub serials : List ℕ
  pub is : done ≡ dones.Filter pref handle serials

-- that of an add has the pref to which the line leads
pub answered : (s t : State) (y : Edit) (line : FilterLine) (done : Done) (pref : ℕ) → IsAddOf s line y → pref_for s line.hook line.chain line.pref ≡ Ok pref → step s y ≡ Ok (t, done)
    → IsFilterAt done pref
answered s t y line done pref add chosen e =
    let a = told.answered s t y line done add e in
    let same = told.same_ok s line.hook line.chain line.pref a.pref pref a.chosen chosen in
    record { handle = a.handle; serials = a.serials; is = a.is ∙ ap (λ (p : ℕ). dones.Filter p a.handle a.serials) same }

-- that of a replaced filter keeps pref and handle
pub exchanged : (s t : State) (y : Edit) (line : FilterLine) (row : Row) (done : Done) → y ≡ edits.FilterReplace line → named_row s line ≡ Some row → step s y ≡ Ok (t, done)
    → (serials : List ℕ) × (done ≡ dones.Filter row.pref row.handle serials)
exchanged s t y line row done is there e = let all = replaces s t line row done there (sym (ap (step s) is) ∙ e) in (all.r.serials, sym all.answer)
