-- The fates that are kept, and one more.
use Rattle.std.proofs.Common.{◌≡◌, ◌∙◌, ℕ, zero, suc, ◌-◌, ◌<◌, ◌≤◌, true, List, [], ◌∷◌, ◌++◌, map}
use Rattle.std.proofs.Common.{length, get_or, take, drop, refl, ap, arith}
use Rattle.std.specs.List.{All, AllByRecursion}
use Rattle.std.proofs.lemmas.List.{take-append-le, drop-append-le, take_all, length-append, length-drop}
use Rattle.std.proofs.lemmas.List.Elements.{recursion_from_All}
use Rattle.std.proofs.Math.Seq.{drop-append_seam}
use Rattle.frame_edit.specs.EditedFrame.{EditedFrame}
use Rattle.walk_rules.specs.declared.verdict.Verdict.{Verdict}
use Rattle.walk_fate_laws.specs.Fates.{same_fate}
use Rattle.fate_search.specs.declared.fates.KeptFate.{KeptFate}
use Rattle.fate_search.specs.Found.{Found, kept_bytes, found_with, fate_found, is_known}
use Rattle.fate_search.specs.Kept.{cut, found_in, IsKept}
use Rattle.fate_search.proofs.Rows.{or_left, or_right}

cut_longer : (numbers more : List ℕ) (from to : ℕ) → from ≤ to → to ≤ length numbers
    → cut (numbers ++ more) from to ≡ cut numbers from to
cut_longer numbers more from to ordered there =
    let left = length-drop from numbers in
    ap (take (to - from)) (drop-append-le from numbers more (omega (arith, ordered, there)))
    ∙ take-append-le (to - from) (drop from numbers) more (omega (arith, ordered, there, left))

pub cut_new : (numbers more : List ℕ) → cut (numbers ++ more) (length numbers) (length (numbers ++ more)) ≡ more
cut_new numbers more =
    let all = length-append numbers more in
    ap (take (length (numbers ++ more) - length numbers)) (drop-append_seam numbers more)
    ∙ take_all (length (numbers ++ more) - length numbers) more (omega (arith, all))

found_longer : (bytes more points others : List ℕ) (kept : KeptFate) → IsKept bytes points kept
    → found_in (bytes ++ more) (points ++ others) kept ≡ found_in bytes points kept
found_longer bytes more points others kept is =
    ap (λ (bs : List ℕ). record {
      verdict = kept.verdict;
      length = kept.length;
      meta = kept.meta;
      bytes = bs;
      points = cut (points ++ others) kept.points_from kept.points_to;
    }) (cut_longer bytes more kept.bytes_from kept.bytes_to is.bytes_ordered is.bytes_there)
    ∙ ap (λ (ps : List ℕ). record {
      verdict = kept.verdict;
      length = kept.length;
      meta = kept.meta;
      bytes = cut bytes kept.bytes_from kept.bytes_to;
      points = ps;
    }) (cut_longer points others kept.points_from kept.points_to is.points_ordered is.points_there)

all_longer : (bytes more points others : List ℕ) (kept : List KeptFate) → AllByRecursion (IsKept bytes points) kept
    → map (found_in (bytes ++ more) (points ++ others)) kept ≡ map (found_in bytes points) kept
all_longer bytes more points others [] are = refl
all_longer bytes more points others (one ∷ kept) are =
    ap (λ (f : Found). f ∷ map (found_in (bytes ++ more) (points ++ others)) kept)
    (found_longer bytes more points others one are.0)
    ∙ ap (λ (fs : List Found). found_in bytes points one ∷ fs) (all_longer bytes more points others kept are.1)

map_joined : {X Y : Type 0} (f : X → Y) (xs ys : List X) → map f (xs ++ ys) ≡ map f xs ++ map f ys
map_joined f [] ys = refl
map_joined f (x ∷ xs) ys = ap (λ (rest : List _). f x ∷ rest) (map_joined f xs ys)

-- one more, whose bytes and points are put behind those of the others
pub one_kept : (bytes more now points others later : List ℕ) (kept all : List KeptFate) (one : KeptFate) (found : Found)
    → All (IsKept bytes points) kept → now ≡ bytes ++ more → later ≡ points ++ others → all ≡ kept ++ (one ∷ [])
    → found_in (bytes ++ more) (points ++ others) one ≡ found
    → map (found_in now later) all ≡ map (found_in bytes points) kept ++ (found ∷ [])
one_kept bytes more now points others later kept all one found are bytes_are points_are all_are is =
    ap (λ (bs : List ℕ). map (found_in bs later) all) bytes_are
    ∙ ap (λ (ps : List ℕ). map (found_in (bytes ++ more) ps) all) points_are
    ∙ ap (map (found_in (bytes ++ more) (points ++ others))) all_are
    ∙ map_joined (found_in (bytes ++ more) (points ++ others)) kept (one ∷ [])
    ∙ ap (λ (fs : List Found). fs ++ (found_in (bytes ++ more) (points ++ others) one ∷ []))
    (all_longer bytes more points others kept (recursion_from_All (IsKept bytes points) kept are))
    ∙ ap (λ (f : Found). map (found_in bytes points) kept ++ (f ∷ [])) is

-- what is told of it
pub found_there : (bytes more points others : List ℕ) (one : KeptFate) (verdict : Verdict) (frame : EditedFrame)
    → one.verdict ≡ verdict → one.length ≡ length frame.bytes → one.meta ≡ frame.meta
    → one.bytes_from ≡ length bytes → one.bytes_to ≡ length (bytes ++ more) → one.points_from ≡ length points
    → one.points_to ≡ length (points ++ others) → more ≡ kept_bytes verdict frame.bytes
    → found_in (bytes ++ more) (points ++ others) one ≡ found_with others verdict frame
found_there bytes more points others one verdict frame its long meta from to points_from points_to kept =
    let all_bytes : cut (bytes ++ more) one.bytes_from one.bytes_to ≡ kept_bytes verdict frame.bytes =
    ap (λ (n : ℕ). cut (bytes ++ more) n one.bytes_to) from
    ∙ ap (λ (n : ℕ). cut (bytes ++ more) (length bytes) n) to ∙ cut_new bytes more ∙ kept in
    let all_points : cut (points ++ others) one.points_from one.points_to ≡ others =
    ap (λ (n : ℕ). cut (points ++ others) n one.points_to) points_from
    ∙ ap (λ (n : ℕ). cut (points ++ others) (length points) n) points_to ∙ cut_new points others in
    λ x. record {
      verdict = its x;
      length = long x;
      meta = meta x;
      bytes = all_bytes x;
      points = all_points x;
    }

-- ---- one of them is it
pub known_at : (bytes points : List ℕ) (kept : List KeptFate) (found : Found) (place : ℕ) (d : KeptFate)
    → place < length kept
    → same_fate (fate_found found) (fate_found (found_in bytes [] (get_or kept place d))) ≡ true
    → is_known (map (found_in bytes points) kept) found ≡ true
known_at bytes points [] found place d less is = absurd (omega (arith, less))
known_at bytes points (one ∷ kept) found zero d less is =
    or_left (same_fate (fate_found found) (fate_found (found_in bytes points one)))
    (is_known (map (found_in bytes points) kept) found) is
known_at bytes points (one ∷ kept) found (suc place) d less is =
    or_right (same_fate (fate_found found) (fate_found (found_in bytes points one)))
    (is_known (map (found_in bytes points) kept) found)
    (known_at bytes points kept found place d (omega (arith, less)) is)
