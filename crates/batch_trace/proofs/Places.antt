-- One edit more with its place.
use Rattle.std.proofs.Common.{◌≡◌, List, [], ◌∷◌, ◌++◌, length, refl, ap, arith}
use Rattle.filter_state.specs.declared.edit.Edit.{Edit}
use Rattle.edit_lines.specs.declared.line.LinePlace.{LinePlace}
use Rattle.filter_origins.specs.Entries.{Entry, entry_at, entries_of}

pub entries_push : (places : List LinePlace) (journal : List Edit) (place : LinePlace) (edit : Edit) → length places ≡ length journal
    → entries_of (places ++ (place ∷ [])) (journal ++ (edit ∷ [])) ≡ entries_of places journal ++ (entry_at place edit ∷ [])
entries_push [] [] place edit each = refl
entries_push [] (other ∷ journal) place edit each = absurd (omega (arith, each))
entries_push (there ∷ places) [] place edit each = absurd (omega (arith, each))
entries_push (there ∷ places) (other ∷ journal) place edit each =
    ap (λ (es : List Entry). entry_at there other ∷ es) (entries_push places journal place edit (omega (arith, each)))
