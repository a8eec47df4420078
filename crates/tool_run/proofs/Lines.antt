-- The lines of a text, one more at a time.
use Rattle.std.proofs.Common.{◌≡◌, ℕ, ◌+◌, ◌-◌, ◌≤◌, List, [], ◌∷◌, ◌++◌, length, take, drop, sym, ap, ◌∙◌, append_assoc, arith}
use Rattle.std.specs.Prelude.{codes}
use Rattle.std.specs.List.{slice_range}
use Rattle.std.proofs.lemmas.List.{take-append-drop, append-nil}
use Rattle.std.proofs.lemmas.List.Concat.{flat_map-cons}
use Rattle.std.proofs.Math.Seq.{take-add}
use Rattle.std.proofs.lemmas.List.Folds.{drop_split}
use Rattle.std.proofs.lemmas.Grind.{flat_map-append}
use Rattle.capture_walk.specs.declared.ends.PacketEnd.{PacketEnd}
use Rattle.walk_texts.specs.Texts.{joined, counted, end_text}
use Rattle.batch_walk.specs.Texts.{packet_line, packet_lines}
use Rattle.tool_run.specs.Endings.{ending_of}

-- a text is what stands before a place, the piece from there, and what stands behind the piece
pub text_split : (text : List ℕ) (start end : ℕ) → start ≤ end → text ≡ take start text
    ++ (slice_range text start end ++ drop end text)
text_split text start end le =
    sym (take-append-drop start text) ∙ ap (λ (x : List ℕ). take start text ++ x)
    (drop_split text start end le)

-- what stands up to the end of a piece
pub text_more : (text : List ℕ) (start end : ℕ) → start ≤ end → take end text ≡ take start text
    ++ slice_range text start end
text_more text start end le =
    let e : end ≡ start + (end - start) = omega arith in
    ap (λ (n : ℕ). take n text) e ∙ take-add start (end - start) text

packet_lines-push : (n : ℕ) (ends : List PacketEnd) (o : PacketEnd)
    → packet_lines n (ends ++ o ∷ []) ≡ packet_lines n ends ++ packet_line (n + length ends) o ∷ []
packet_lines-push n [] o =
    let e : n ≡ n + 0 = omega arith in
    ap (λ (k : ℕ). packet_line k o ∷ []) e
packet_lines-push n (q ∷ ends) o =
    let e : n + 1 + length ends ≡ n + length (q ∷ ends) = omega arith in
    ap (λ (rest : List (List ℕ)). packet_line n q ∷ rest)
    (packet_lines-push (n + 1) ends o ∙ ap (λ (k : ℕ). packet_lines (n + 1) ends ++ packet_line k o ∷ []) e)

-- the lines of some packets, with that of one more
pub packets_more : (ends : List PacketEnd) (o : PacketEnd)
    → joined (packet_lines 1 (ends ++ o ∷ [])) ≡ joined (packet_lines 1 ends)
    ++ packet_line (1 + length ends) o
packets_more ends o =
    ap joined (packet_lines-push 1 ends o)
    ∙ flat_map-append (λ (line : List ℕ). line) (packet_lines 1 ends) (packet_line (1 + length ends) o ∷ [])
    ∙ ap (λ (x : List ℕ). joined (packet_lines 1 ends) ++ x)
    (flat_map-cons (λ (line : List ℕ). line) (packet_line (1 + length ends) o) []
    ∙ append-nil (packet_line (1 + length ends) o))

packet_lines-append : (n : ℕ) (ends more : List PacketEnd)
    → packet_lines n (ends ++ more) ≡ packet_lines n ends ++ packet_lines (n + length ends) more
packet_lines-append n [] more =
    let e : n ≡ n + 0 = omega arith in
    ap (λ (k : ℕ). packet_lines k more) e
packet_lines-append n (o ∷ ends) more =
    let e : n + 1 + length ends ≡ n + length (o ∷ ends) = omega arith in
    ap (λ (rest : List (List ℕ)). packet_line n o ∷ rest)
    (packet_lines-append (n + 1) ends more ∙ ap (λ (k : ℕ). packet_lines (n + 1) ends ++ packet_lines k more)
    e)

-- the text of all packets: the lines of some, that of one more, and what comes behind it
pub packets_rest : (ends : List PacketEnd) (o : PacketEnd) (rest : List PacketEnd)
    → joined (packet_lines 1 (ends ++ o ∷ rest)) ≡ joined (packet_lines 1 ends)
    ++ (packet_line (1 + length ends) o ++ joined (packet_lines (1 + length ends + 1) rest))
packets_rest ends o rest =
    ap joined (packet_lines-append 1 ends (o ∷ rest))
    ∙ flat_map-append (λ (line : List ℕ). line) (packet_lines 1 ends)
    (packet_lines (1 + length ends) (o ∷ rest))
    ∙ ap (λ (x : List ℕ). joined (packet_lines 1 ends) ++ x)
    (flat_map-cons (λ (line : List ℕ). line) (packet_line (1 + length ends) o)
    (packet_lines (1 + length ends + 1) rest))

-- a line in two parts
pub line_parts : (number : ℕ) (end : PacketEnd)
    → counted (codes "packet ") number ++ ending_of end ≡ packet_line number end
line_parts number end =
    sym (append_assoc (counted (codes "packet ") number) (end_text end.verdict end.length end.meta)
    (codes "\n"))
