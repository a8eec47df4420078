-- Edits of filters that change the tables of a hook, or a mask as a whole.
use Rattle.std.proofs.Common.{◌≡◌, ◌≢◌, ◌⊎◌, ℕ, ◌+◌, List, [], ◌∷◌, ◌++◌, map, Option, Some, None, Ok, sym, ◌∙◌, ap, subst}
use Rattle.tc_base.specs.declared.hook.Hook.{Hook}
use Rattle.tc_base.specs.declared.hook.Proto.{Proto}
use Rattle.store_history.specs.declared.history.Commit.{Commit}
use Rattle.filter_state.specs.declared.edit.Edit.{Edit}
use Rattle.filter_state.specs.declared.edit.Edit.TheVariants as edits
use Rattle.filter_state.specs.declared.edit.FilterLine.{FilterLine}
use Rattle.filter_state.specs.declared.refusal.Done.{Done}
use Rattle.filter_state.specs.declared.refusal.Done.TheVariants as dones
use Rattle.filter_state.specs.States.{Row, State}
use Rattle.filter_state.specs.Tables.{mask_row, filter_row, mask_or_next}
use Rattle.filter_state.specs.Steps.{step}
use Rattle.filter_state.specs.Sound.{Sound}
use Rattle.edit_effects.specs.OfEffects.Parts.{Stands, Filter, filters_of}
use Rattle.edit_effects.specs.OfEffects.Parts.{without as parts_without}
use Rattle.hook_law.specs.Changes.{KeepsParams}
use Rattle.hook_meaning.specs.Stated.{filter_stated, filters_at, hook_meaning}
use Rattle.edit_effects.specs.OfEffects.Effects.{HasMask, ChangesHook}
use Rattle.edit_effects.proofs.OfEffects.Added.{added_to_new}
use Rattle.edit_effects.proofs.OfEffects.Adding.{line_filter}
use Rattle.edit_effects.proofs.OfEffects.Deleting.{table_deleted}
use Rattle.edit_effects.proofs.OfEffects.Moved.{replaced_key, replaced_mask}
use Rattle.hook_meaning.specs.OfEdits.Premises.{now, next, IsAccepted, IsAddOf, named_row, filter_of_line, without, LeavesOtherHook, KeepsHeads, IsMask}
use Rattle.hook_meaning.proofs.OfEdits.Accepted.{sound, at_next}
use Rattle.hook_meaning.proofs.OfEdits.Stating.{same_heads}
use Rattle.hook_meaning.proofs.OfEdits.Masks.{stated_without, leaves_other_hook, is_mask_with}
use Rattle.hook_meaning.proofs.OfEdits.OfFilters.{params_to}
use Rattle.hook_meaning.proofs.OfEdits.OneMask.{add_params, adds_line, row_hook_changes}
use Rattle.hook_meaning.proofs.OfEdits.Words.{own_words}

-- ---- added with a new mask
abbrev AddsMask : State → FilterLine → ℕ → List ℕ → State → Type 0
AddsMask s line handle serials t = IsMask (s.masks_made + 1) line.mask.words (filter_of_line line handle serials ∷ []) t
    × LeavesOtherHook line.hook (λ mask. mask ≡ s.masks_made + 1) s t × (Stands s (s.masks_made + 1) → ⊥)

pub new_mask_after : (h : List (Commit Edit)) (b : ℕ) (y : Edit) (t : State) (line : FilterLine) (pref handle : ℕ) (serials : List ℕ)
    → IsAccepted h b y t (dones.Filter pref handle serials) → IsAddOf (now h) line y → mask_row line.hook line.chain pref line.mask.words (now h).rows ≡ None
    → AddsMask (now h) line handle serials (next h y)
new_mask_after h b y t line pref handle serials a is none =
    let s : State = now h in
    let done : Done = dones.Filter pref handle serials in
    let made = added_to_new s t line pref handle serials (sound h b y t done a) (adds_line h b y t line pref handle serials a is) none in
    let has = made.0 in
    at_next h b y t done a (AddsMask s line handle serials) (
      is_mask_with t (s.masks_made + 1) line.mask.words [] (line_filter line handle serials) has,
      leaves_other_hook s t line.hook (λ mask. mask ≡ s.masks_made + 1) made.1 (add_params h b y t line pref handle serials a is),
      made.2,
    )

-- ---- replaced with another key
abbrev MovesInMask : State → FilterLine → ℕ → ℕ → List ℕ → State → Type 0
MovesInMask s line mask handle serials t = IsMask mask line.mask.words (without handle (filters_at s mask) ++ filter_of_line line handle serials ∷ []) t
    × LeavesOtherHook line.hook (λ other. other ≡ mask) s t × KeepsHeads s t

-- a mask's filters without one, and one more
mask_without : (s t : State) (mask of handle : ℕ) (words : List ℕ) (f : Filter) → HasMask mask words (parts_without handle (filters_of s of) ++ f ∷ []) t
    → IsMask mask words (without handle (filters_at s of) ++ filter_stated f ∷ []) t
mask_without s t mask of handle words f has =
    subst (λ fs. IsMask mask words (fs ++ filter_stated f ∷ []) t) (stated_without handle (filters_of s of))
    (is_mask_with t mask words (parts_without handle (filters_of s of)) f has)

pub other_key_after : (h : List (Commit Edit)) (b : ℕ) (t : State) (line : FilterLine) (pref handle : ℕ) (serials : List ℕ) (row : Row)
    → IsAccepted h b (edits.FilterReplace line) t (dones.Filter pref handle serials) → named_row (now h) line ≡ Some row
    → row.mask ≡ line.mask.words → row.key ≢ line.key.words → MovesInMask (now h) line row.mask_serial handle serials (next h (edits.FilterReplace line))
other_key_after h b t line pref handle serials row a is mask key =
    let s : State = now h in
    let y : Edit = edits.FilterReplace line in
    let done : Done = dones.Filter pref handle serials in
    let moved = replaced_key s t line pref handle serials row (sound h b y t done a) a.steps is mask key in
    let tables = moved.2 in
    at_next h b y t done a (MovesInMask s line row.mask_serial handle serials) (
      mask_without s t row.mask_serial row.mask_serial handle line.mask.words (line_filter line handle serials) moved.0,
      leaves_other_hook s t line.hook (λ other. other ≡ row.mask_serial) moved.1 (params_to h b y t done a tt),
      same_heads s t tables.heads,
    )

-- ---- replaced with another mask; t is where the step leads
abbrev MovesToMask : State → State → FilterLine → Row → ℕ → ℕ → List ℕ → State → Type 0
MovesToMask s t line row mask handle serials u = (mask ≢ row.mask_serial)
    × IsMask mask line.mask.words (filters_at s mask ++ filter_of_line line handle serials ∷ []) u
    × (Stands t row.mask_serial → IsMask row.mask_serial row.mask (without handle (filters_at s row.mask_serial)) u)
    × LeavesOtherHook line.hook (λ other. (other ≡ mask) ⊎ (other ≡ row.mask_serial)) s u
    × (Stands s mask → Stands t row.mask_serial → KeepsHeads s u)

moves_to : (s t : State) (line : FilterLine) (pref handle : ℕ) (serials : List ℕ) (row : Row) → Sound s → step s (edits.FilterReplace line) ≡ Ok (t, dones.Filter pref handle serials)
    → named_row s line ≡ Some row → row.mask ≢ line.mask.words → KeepsParams hook_meaning s t
    → (mask : ℕ) × (mask ≡ mask_or_next (mask_row line.hook line.chain pref line.mask.words s.rows) s.masks_made) × MovesToMask s t line row mask handle serials t
moves_to s t line pref handle serials row s_sound e is differs params =
    let moved = replaced_mask s t line pref handle serials row s_sound e is differs in
    let mask : ℕ = moved.0 in
    let left : filters_at t row.mask_serial ≡ without handle (filters_at s row.mask_serial) = ap (map filter_stated) moved.3.1 ∙ stated_without handle (filters_of s row.mask_serial) in (
      mask,
      moved.2,
      (
        moved.1,
        is_mask_with t mask line.mask.words (filters_of s mask) (line_filter line handle serials) moved.3.0,
        λ stands. record { words_are = own_words s t line pref handle serials row s_sound e is differs stands; filters_are = left },
        leaves_other_hook s t line.hook (λ other. (other ≡ mask) ⊎ (other ≡ row.mask_serial)) moved.3.2 params,
        λ stood stands. let tables = moved.3.3 stood stands in same_heads s t tables.heads,
      ),
    )

pub other_mask_after : (h : List (Commit Edit)) (b : ℕ) (t : State) (line : FilterLine) (pref handle : ℕ) (serials : List ℕ) (row : Row) (mask : ℕ)
    → IsAccepted h b (edits.FilterReplace line) t (dones.Filter pref handle serials) → named_row (now h) line ≡ Some row
    → row.mask ≢ line.mask.words → mask ≡ mask_or_next (mask_row line.hook line.chain pref line.mask.words (now h).rows) (now h).masks_made
    → MovesToMask (now h) t line row mask handle serials (next h (edits.FilterReplace line))
other_mask_after h b t line pref handle serials row mask a is differs at =
    let s : State = now h in
    let y : Edit = edits.FilterReplace line in
    let done : Done = dones.Filter pref handle serials in
    let moved = moves_to s t line pref handle serials row (sound h b y t done a) a.steps is differs (params_to h b y t done a tt) in
    at_next h b y t done a (MovesToMask s t line row mask handle serials) (subst (λ m. MovesToMask s t line row m handle serials t) (moved.1 ∙ sym at) moved.2)

-- ---- deleted with its mask, or a table
pub mask_gone_after : (h : List (Commit Edit)) (b : ℕ) (hook : Hook) (protocol : Option Proto) (chain pref handle : ℕ) (t : State) (done : Done) (row : Row)
    → IsAccepted h b (edits.FilterDel hook protocol chain pref (Some handle)) t done → filter_row hook chain pref handle (now h).rows ≡ Some row
    → LeavesOtherHook hook (λ mask. mask ≡ row.mask_serial) (now h) (next h (edits.FilterDel hook protocol chain pref (Some handle)))
mask_gone_after h b hook protocol chain pref handle t done row a is =
    let s : State = now h in
    let y : Edit = edits.FilterDel hook protocol chain pref (Some handle) in
    let IsIt : ℕ → Type 0 = λ mask. mask ≡ row.mask_serial in
    at_next h b y t done a (LeavesOtherHook hook IsIt s)
    (leaves_other_hook s t hook IsIt (row_hook_changes s t hook protocol chain pref handle done (sound h b y t done a) a.steps row is) (params_to h b y t done a tt))

-- a mask that is gone, by its filters in the law's words or in the state's
abbrev IsGone : State → State → ℕ → Type 0
IsGone s t mask = (filters_at t mask ≡ []) × Stands s mask

gone_alike : (hook : Hook) (s t : State) → ChangesHook hook (λ mask. (filters_of t mask ≡ []) × Stands s mask) s t → ChangesHook hook (IsGone s t) s t
gone_alike hook s t c = record { heads = c.heads; others = λ mask free. c.others mask (λ is. free (ap (map filter_stated) is.0, is.1)) }

pub table_gone_after : (h : List (Commit Edit)) (b : ℕ) (hook : Hook) (protocol : Option Proto) (chain pref : ℕ) (t : State) (done : Done)
    → IsAccepted h b (edits.FilterDel hook protocol chain pref None) t done → LeavesOtherHook hook (IsGone (now h) t) (now h) (next h (edits.FilterDel hook protocol chain pref None))
table_gone_after h b hook protocol chain pref t done a =
    let s : State = now h in
    let y : Edit = edits.FilterDel hook protocol chain pref None in
    at_next h b y t done a (LeavesOtherHook hook (IsGone s t) s)
    (leaves_other_hook s t hook (IsGone s t) (gone_alike hook s t (table_deleted s t hook protocol chain pref done (sound h b y t done a) a.steps)) (params_to h b y t done a tt))
