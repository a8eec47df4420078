-- The tags of a frame, one after the other.
use Rattle.std.proofs.Common.{◌≡◌, ◌∙◌, ℕ, zero, suc, ◌+◌, ◌≤◌, Bool, true, false, List, [], ◌∷◌, ◌++◌, length, Option, Some, None, refl, sym, ap, append_assoc, append-nil, arith}
use Rattle.std.proofs.lemmas.Option.{same_Some}
use Rattle.std.specs.Prelude.{codes, if◌then◌else◌, nat_le, ◌&&◌}
use Rattle.frame_edit.specs.Tags.{is_tag_type, two_at}
use Rattle.change_fates.specs.declared.tags.Tag.{Tag}
use Rattle.change_fates.specs.Tags.{is_tag_at, tag_at, tags_from}
use Rattle.change_fates.specs.Texts.{tag_text, tags_behind, tags_text}

-- from a place on the tags are left, behind a label
pub record AreLeft (bytes out label : List ℕ) (at : ℕ) (whole : List ℕ) : Type 0 where
  pub most : ℕ
  pub enough : length bytes ≤ most + at
  pub text : out ++ tags_behind label (tags_from most bytes at) ≡ whole

pub all_left : (bytes out : List ℕ) → AreLeft bytes out (codes " tags ") 12 (out ++ tags_text bytes)
all_left bytes out = record { most = length bytes; enough = omega arith; text = refl }

-- a tag stands within the frame
within : (type_ last : Bool) → (type_ && last) ≡ true → last ≡ true
within true last is = is
within false last is = absurd (cc is)

le_of : (m n : ℕ) → nat_le m n ≡ true → m ≤ n
le_of m n is = grind (arith, Rattle.std.proofs.lemmas.Bool.Decides.nat_tests)

pub tag_within : (bytes : List ℕ) (at : ℕ) → is_tag_at bytes at ≡ true → at + 6 ≤ length bytes
tag_within bytes at is = le_of (at + 6) (length bytes) (within (is_tag_type (two_at bytes at)) (nat_le (at + 6) (length bytes)) is)

one_off : (most : ℕ) (bytes : List ℕ) (at : ℕ) → is_tag_at bytes at ≡ true → length bytes ≤ most + at → (rest : ℕ) × (most ≡ suc rest)
one_off zero bytes at is enough = let here = tag_within bytes at is in absurd (omega (arith, here, enough))
one_off (suc rest) bytes at is enough = (rest, refl)

pub one_more : (bytes out label new whole : List ℕ) (at : ℕ) → is_tag_at bytes at ≡ true → new ≡ (out ++ label) ++ tag_text (tag_at bytes at) → AreLeft bytes out label at whole
    → AreLeft bytes new (codes ",") (at + 4) whole
one_more bytes out label new whole at is put left =
    let (rest, most) = one_off left.most bytes at is left.enough in
    let enough = left.enough in
    let more = tags_behind (codes ",") (tags_from rest bytes (at + 4)) in
    let first : tags_from left.most bytes at ≡ tag_at bytes at ∷ tags_from rest bytes (at + 4) =
    ap (λ (n : ℕ). tags_from n bytes at) most ∙ ap (λ (b : Bool). if b then tag_at bytes at ∷ tags_from rest bytes (at + 4) else []) is in
    record {
      most = rest;
      enough = omega (arith, enough, most);
      text = ap (λ (xs : List ℕ). xs ++ more) put ∙ append_assoc (out ++ label) (tag_text (tag_at bytes at)) more
          ∙ append_assoc out label (tag_text (tag_at bytes at) ++ more)
          ∙ ap (λ (ts : List Tag). out ++ tags_behind label ts) (sym first) ∙ left.text;
    }

none_off : (most : ℕ) (bytes label : List ℕ) (at : ℕ) → is_tag_at bytes at ≡ false → tags_behind label (tags_from most bytes at) ≡ []
none_off zero bytes label at is = refl
none_off (suc most) bytes label at is = ap (λ (b : Bool). tags_behind label (if b then tag_at bytes at ∷ tags_from most bytes (at + 4) else [])) is

pub none_left : (bytes out label whole : List ℕ) (at : ℕ) → is_tag_at bytes at ≡ false → AreLeft bytes out label at whole → out ≡ whole
none_left bytes out label whole at is left =
    sym (append-nil out) ∙ ap (λ (xs : List ℕ). out ++ xs) (sym (none_off left.most bytes label at is)) ∙ left.text

-- ---- a tag that was read, and none
pub read_tag : (b : Bool) (this tag : Tag) (o : Option Tag) → o ≡ (if b then Some this else None) → o ≡ Some tag → (b ≡ true) × (tag ≡ this)
read_tag true this tag o is some = (refl, same_Some tag this (sym some ∙ is))
read_tag false this tag o is some = absurd (cc (sym some ∙ is))

pub no_tag : (b : Bool) (this : Tag) (o : Option Tag) → o ≡ (if b then Some this else None) → ((tag : Tag) → o ≡ Some tag → ⊥) → b ≡ false
no_tag true this o is none = absurd (none this is)
no_tag false this o is none = refl
