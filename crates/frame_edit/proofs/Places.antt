-- The bytes of a frame in its buffer, after a write to them, and four places on.
use Rattle.std.proofs.Common.{◌≡◌, ℕ, ◌+◌, ◌-◌, ◌≤◌, Bool, true, List, ◌++◌, length, take, drop, sym, ap, ◌∙◌, refl, cond, arith}
use Rattle.std.specs.declared.vec.Vec.{Vec}
use Rattle.std.specs.Vec.{with_items}
use Rattle.std.specs.List.{between}
use Rattle.std.proofs.lemmas.List.{length-append, length-take-le, length-drop, drop-drop, with_items_is}
use Rattle.std.proofs.lemmas.List.Edits.{take-paste, drop-paste}
use Rattle.std.proofs.lemmas.Slice.{between_is, between-put_mid}
use borrow.Rule.Slice.PartMut.{put_mid}
use lib.Seq.{paste}
use Rattle.frame_edit.specs.declared.meta.Meta.{Meta}
use Rattle.frame_edit.specs.Metadata.{no_meta}
use Rattle.frame_edit.specs.Tags.{with_tag, without_tag, retagged, is_tagged, pushed, popped}
use Rattle.frame_edit.specs.EditedFrame.{EditedFrame, loaded_frame}

-- a part that was written over holds what was written
pub between-written : {Z : Type 0} (buffer : Vec ℕ Z) (a e : ℕ) (xs ys : List ℕ) → xs ≡ buffer.items → a ≤ e → e ≤ length xs → length ys ≡ e - a
    → between a e (with_items buffer (put_mid a (e - a) xs ys)).items ≡ ys
between-written buffer a e xs ys same ordered inside len =
    let front = length-take-le a xs (omega arith) in
    let rest = length-append ys (drop (e - a) (drop a xs)) in
    let behind = length-drop (e - a) (drop a xs) in
    let from = length-drop a xs in
    let total = length-append (take a xs) (ys ++ drop (e - a) (drop a xs)) in
    let all = buffer.ok.0 in
    let len_same = ap length same in
    let whole : length (put_mid a (e - a) xs ys) ≡ buffer.len = omega arith in
    ap (between a e) (with_items_is buffer (put_mid a (e - a) xs ys) whole) ∙ between-put_mid a (e - a) xs ys e (omega arith) len

-- the same part from four places on
pub between-behind : (xs : List ℕ) (a e : ℕ) → between (a + 4) e xs ≡ drop 4 (between a e xs)
between-behind xs a e =
    between_is xs (a + 4) e ∙ sym (drop-drop 4 a (take e xs)) ∙ ap (drop 4) (sym (between_is xs a e))

-- the addresses four places down, and a tag behind them
pub retagged-moved_down : (room : List ℕ) (tpid tci : ℕ) → 16 ≤ length room → retagged (paste room 0 (drop 4 room) 12) tpid tci ≡ with_tag (drop 4 room) tpid tci
retagged-moved_down room tpid tci long =
    let len = length-drop 4 room in
    let front : take 12 (paste room 0 (drop 4 room) 12) ≡ take 12 (drop 4 room) = take-paste room 0 (drop 4 room) 12 (omega arith) (omega arith) in
    let rest : drop 12 (paste room 0 (drop 4 room) 12) ≡ drop 12 room = drop-paste room 0 (drop 4 room) 12 (omega arith) (omega arith) in
    let behind : drop 16 (paste room 0 (drop 4 room) 12) ≡ drop 12 (drop 4 room) =
    sym (drop-drop 4 12 (paste room 0 (drop 4 room) 12)) ∙ ap (drop 4) rest ∙ drop-drop 4 12 room ∙ sym (drop-drop 12 4 room) in
    rw (front, behind) refl

pub pushed_is : (bytes : List ℕ) (tpid tci : ℕ) → 14 ≤ length bytes → pushed bytes tpid tci ≡ with_tag bytes tpid tci
pushed_is bytes tpid tci long = grind arith

pub popped_is : (bytes : List ℕ) → is_tagged bytes ≡ true → popped bytes ≡ without_tag bytes
popped_is bytes tagged = ap (λ (b : Bool). cond b (without_tag bytes) bytes) tagged

-- a frame is loaded where its three parts are so
pub loaded_frame_is : (frame : EditedFrame) (bytes : List ℕ) → frame.bytes ≡ bytes → frame.loaded ≡ length bytes → frame.meta ≡ no_meta → frame ≡ loaded_frame bytes
loaded_frame_is frame bytes content loaded unset =
    let at_bytes : List ℕ → EditedFrame = λ bs. record { bytes = bs; loaded = frame.loaded; meta = frame.meta } in
    let at_loaded : ℕ → EditedFrame = λ n. record { bytes = bytes; loaded = n; meta = frame.meta } in
    let at_meta : Meta → EditedFrame = λ m. record { bytes = bytes; loaded = length bytes; meta = m } in
    ap at_bytes content ∙ ap at_loaded loaded ∙ ap at_meta unset
