-- What is told before a visit goes by what is told of the place.
use Rattle.std.proofs.Common.{◌≡◌, ◌∙◌, ℕ, List, ◌++◌, refl, ap}
use Rattle.std.specs.Prelude.{Some, None, not}
use Rattle.frame_edit.specs.Tags.{ether_type_of}
use Rattle.flow_dissect.specs.Fields.{frame_values}
use Rattle.walk_rules.specs.Steps.{Place, at_head, at_mask, at_action, ended, Standing}
use Rattle.walk_steps.specs.declared.stand.Stand.{Stand}
use Rattle.walk_steps.specs.Stands.{stand_of}
use Rattle.trace_lines.specs.declared.told.Told.{Told}
use Rattle.trace_lines.specs.Lines.{joined, lines_before, table_lines, frame_lines, Seen, seen_after, needs_visit}
use Rattle.trace_lines.specs.Parts.{table_lines_at, frame_lines_at, seen_at, is_over}
use Rattle.trace_lines.proofs.Grown.{lines_more}

pub table_is : (told : Told) (place : Place) → table_lines_at told (stand_of place) ≡ table_lines told place
table_is told at_head = refl
table_is told (at_mask head masks tables) = refl
table_is told (at_action head actions position jumps tables) = refl
table_is told (ended verdict) = refl

pub frame_is : (told : Told) (seen : Seen) (st : Standing) (place : Place)
    → frame_lines_at told seen (stand_of place) (ether_type_of st.frame.bytes) (frame_values st.frame.bytes) ≡ frame_lines told seen st place
frame_is told seen st at_head = refl
frame_is told None st (at_mask head masks tables) = refl
frame_is told (Some (ether, values)) st (at_mask head masks tables) = refl
frame_is told seen st (at_action head actions position jumps tables) = refl
frame_is told seen st (ended verdict) = refl

pub seen_is : (seen : Seen) (st : Standing) (place : Place)
    → seen_at seen (stand_of place) (ether_type_of st.frame.bytes) (frame_values st.frame.bytes) ≡ seen_after seen st place
seen_is seen st at_head = refl
seen_is seen st (at_mask head masks tables) = refl
seen_is seen st (at_action head actions position jumps tables) = refl
seen_is seen st (ended verdict) = refl

pub over_is : (place : Place) → is_over (stand_of place) ≡ not (needs_visit place)
over_is at_head = refl
over_is (at_mask head masks tables) = refl
over_is (at_action head actions position jumps tables) = refl
over_is (ended verdict) = refl

-- the lines before a visit
pub before_lines : (told : Told) (seen : Seen) (st : Standing) (stand : Stand) (ether : ℕ) (values text once new : List ℕ)
    → stand ≡ stand_of st.place → ether ≡ ether_type_of st.frame.bytes → values ≡ frame_values st.frame.bytes
    → once ≡ text ++ joined (table_lines_at told stand) → new ≡ once ++ joined (frame_lines_at told seen stand ether values)
    → new ≡ text ++ joined (lines_before told seen st)
before_lines told seen st stand ether values text once new is types fields first second =
    lines_more text once new (table_lines_at told stand) (frame_lines_at told seen stand ether values) first second
    ∙ ap (λ (lines : List (List ℕ)). text ++ joined (lines ++ frame_lines_at told seen stand ether values)) (ap (table_lines_at told) is ∙ table_is told st.place)
    ∙ ap (λ (lines : List (List ℕ)). text ++ joined (table_lines told st.place ++ lines))
    (ap (λ (s : Stand). frame_lines_at told seen s ether values) is
    ∙ ap (λ e. frame_lines_at told seen (stand_of st.place) e values) types
    ∙ ap (frame_lines_at told seen (stand_of st.place) (ether_type_of st.frame.bytes)) fields
    ∙ frame_is told seen st st.place)

pub before_seen : (seen new : Seen) (st : Standing) (stand : Stand) (ether : ℕ) (values : List ℕ)
    → stand ≡ stand_of st.place → ether ≡ ether_type_of st.frame.bytes → values ≡ frame_values st.frame.bytes
    → new ≡ seen_at seen stand ether values → new ≡ seen_after seen st st.place
before_seen seen new st stand ether values is types fields told =
    told ∙ ap (λ (s : Stand). seen_at seen s ether values) is
    ∙ ap (λ e. seen_at seen (stand_of st.place) e values) types
    ∙ ap (seen_at seen (stand_of st.place) (ether_type_of st.frame.bytes)) fields ∙ seen_is seen st st.place
