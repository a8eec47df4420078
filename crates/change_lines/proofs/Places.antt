-- Where the accepted edits were read.
use Rattle.std.proofs.Common.{◌≡◌, ◌∙◌, ℕ, Bool, true, false, List, [], ◌∷◌, ◌++◌, refl, sym, ap, append-nil}
use Rattle.std.specs.Prelude.{map, filter}
use Rattle.std.proofs.lemmas.List.Elements.{filter-append}
use Rattle.std.proofs.lemmas.List.{map-append}
use Rattle.edit_lines.specs.declared.line.LinePlace.{LinePlace}
use Rattle.journal_replay.specs.Passed.{Event}
use Rattle.journal_replay.specs.Passed.{EventKind}
use Rattle.journal_replay.specs.Passed.event_kinds as kinds
use Rattle.journal_replay.specs.Passed.{is_accepted}
use Rattle.journal_replay.specs.Placed.{place_of, places_of}

pub places_append : (xs ys : List Event) → places_of (xs ++ ys) ≡ places_of xs ++ places_of ys
places_append xs ys =
    let kept : Event → Bool = λ (e : Event). is_accepted e.kind in
    ap (map place_of) (filter-append kept xs ys) ∙ map-append place_of (filter kept xs) (filter kept ys)

-- a line adds its place where its edit is accepted
pub placed_one : (kind : EventKind) (control line : ℕ) (old new : List LinePlace) → (is_accepted kind ≡ true → new ≡ old ++ (record { control = control; line = line } ∷ [])) → (is_accepted kind ≡ false → new ≡ old)
    → new ≡ old ++ places_of (record { control = control; line = line; kind = kind } ∷ [])
placed_one (kinds.Accepted done) control line old new met unmet = met refl
placed_one (kinds.Refused refusal) control line old new met unmet = unmet refl ∙ sym (append-nil old)
placed_one (kinds.Syntax word) control line old new met unmet = unmet refl ∙ sym (append-nil old)
