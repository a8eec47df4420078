-- The lines that are told of a change and of its packets (this project's own).
use Rattle.std.specs.Prelude.{ℕ, Bool, List, [], ◌∷◌, ◌++◌, codes, if◌then◌else◌}
use Rattle.line_texts.specs.Texts.{four_digits}
use Rattle.walk_rules.specs.declared.verdict.Verdict.{Verdict}
use Rattle.walk_texts.specs.Texts.{counted, verdict_text, meta_text}
use Rattle.change_lines.specs.Passed.{points_text}
use Rattle.walk_fate_laws.specs.declared.kinds.When.{When}
use Rattle.walk_fate_laws.specs.declared.kinds.When.TheVariants as whens
use Rattle.walk_fate_laws.specs.declared.kinds.Kind.{Kind}
use Rattle.walk_fate_laws.specs.declared.kinds.Kind.TheVariants as kinds
use Rattle.fate_search.specs.Found.{Found}
use Rattle.change_fates.specs.declared.tags.Tag.{Tag}
use Rattle.change_fates.specs.declared.counts.KindCounts.{KindCounts}
use Rattle.change_fates.specs.Tags.{tags_of}

-- ---- the change
-- `change from B to A`
unfoldable pub change_line : ℕ → ℕ → List ℕ
change_line before after = counted (codes "change from ") before ++ (counted (codes " to ") after ++ codes "\n")

-- ---- a packet
abbrev pub kind_text : Kind → List ℕ
kind_text kinds.Steady = codes " steady ways "
kind_text kinds.Moved = codes " moved ways "
kind_text kinds.Between = codes " between ways "
kind_text kinds.Mixed = codes " mixed ways "
kind_text kinds.Open = codes " open ways "

abbrev pub more_text : Bool → List ℕ
more_text more = if more then codes " more\n" else codes "\n"

-- `packet N KIND ways W [ more ]`
unfoldable pub packet_line : ℕ → Kind → ℕ → Bool → List ℕ
packet_line number kind ways more =
    counted (codes "packet ") number ++ (counted (kind_text kind) ways ++ more_text more)

-- ---- a fate
abbrev pub when_text : When → List ℕ
when_text whens.Before = codes " before"
when_text whens.After = codes " after"
when_text whens.Both = codes " both"
when_text whens.Between = codes " between"
when_text whens.Mixed = codes " mixed"

-- `TPID:TCI`, each in four hexadecimal digits
unfoldable pub tag_text : Tag → List ℕ
tag_text tag = four_digits tag.tpid ++ (codes ":" ++ four_digits tag.tci)

-- the first behind a label, and the others behind commas
abbrev pub tags_behind : List ℕ → List Tag → List ℕ
tags_behind label [] = []
tags_behind label (tag ∷ tags) = label ++ (tag_text tag ++ tags_behind (codes ",") tags)

-- ` tags T,T..`, where a frame has any
abbrev pub tags_text : List ℕ → List ℕ
tags_text bytes = tags_behind (codes " tags ") (tags_of bytes)

-- ` V length L [ tags T,T.. ] [ priority H:H mark M queue Q ]`
unfoldable pub fate_end : Found → List ℕ
fate_end found = counted (verdict_text found.verdict) found.length ++ (tags_text found.bytes ++ meta_text found.meta)

-- `fate N WHEN`, how it ends, and `points P P ..`
unfoldable pub fate_line : ℕ → When → Found → List ℕ
fate_line number when found = counted (codes "fate ") number ++ (when_text when
    ++ (fate_end found ++ (points_text found.points ++ codes "\n")))

-- ---- the end
-- ` steady S moved M between B mixed X open O`
unfoldable pub kinds_text : KindCounts → List ℕ
kinds_text counts = counted (codes " steady ") counts.steady ++ (counted (codes " moved ") counts.moved
    ++ (counted (codes " between ") counts.between ++ (counted (codes " mixed ") counts.mixed
    ++ counted (codes " open ") counts.left_open)))

-- `foreseen packets P`, and how many of them are of each kind
unfoldable pub summary_line : ℕ → KindCounts → List ℕ
summary_line packets counts = counted (codes "foreseen packets ") packets ++ (kinds_text counts ++ codes "\n")
