-- How the ends of packets lie in 4 bytes each, with what was noted of some beside (this project's own).
use Rattle.capture_walk.specs.declared.end_words.TheConstants.{DROPPED, NOTED}
use Rattle.std.specs.Prelude.{◌≡◌, ℕ, ◌-◌, Bool, true, false, List, [], ◌∷◌, length, nat_le, count_by}
use Rattle.std.specs.Prelude.{if◌then◌else◌}
use Rattle.frame_edit.specs.declared.meta.Meta.{Meta}
use Rattle.frame_edit.specs.Metadata.{no_meta}
use Rattle.walk_rules.specs.declared.verdict.Verdict.{Verdict}
use Rattle.walk_rules.specs.declared.verdict.Verdict.TheVariants as verdicts
use Rattle.capture_walk.specs.declared.ends.PacketEnd.{PacketEnd}

-- a number without a mark that is added to it, if it has it
abbrev pub without : ℕ → ℕ → ℕ
without mark word = if nat_le mark word then word - mark else word

-- ---- what a word says: a length, to which 2^30 is added where metadata is noted beside, and 2^31 where the
-- packet was dropped
abbrev pub is_noted : ℕ → Bool
is_noted word = nat_le NOTED (without DROPPED word)

abbrev pub verdict_in : ℕ → Verdict
verdict_in word = if nat_le DROPPED word then verdicts.Drop else verdicts.Pass

abbrev pub end_in : ℕ → Meta → PacketEnd
end_in word meta = record {
  verdict = verdict_in word;
  length = without NOTED (without DROPPED word);
  meta = meta;
}

-- ---- the notes, in the order of the packets that have one
-- the first of them, where there is one for this packet
abbrev pub noted_meta : Bool → List Meta → Meta
noted_meta true (meta ∷ notes) = meta
noted_meta true [] = no_meta
noted_meta false notes = no_meta

-- those that are left for the packets behind it
abbrev pub notes_left : Bool → List Meta → List Meta
notes_left true (meta ∷ notes) = notes
notes_left true [] = []
notes_left false notes = notes

-- the ends that words and notes say
abbrev pub ends_in : List ℕ → List Meta → List PacketEnd
ends_in [] notes = []
ends_in (word ∷ words) notes =
    end_in word (noted_meta (is_noted word) notes) ∷ ends_in words (notes_left (is_noted word) notes)

-- each packet whose word says so has a note
abbrev pub AreNoted : List ℕ → List Meta → Type 0
AreNoted words notes = count_by is_noted words ≡ length notes
