-- A packet's line as its label, its number and its end.
use Rattle.std.proofs.Common.{◌≡◌, ℕ, ◌+◌, List, ◌++◌, length, refl, sym, ap, ap₂, ◌∙◌, append_assoc}
use Rattle.std.specs.Prelude.{codes, decimal}
use Rattle.std.proofs.lemmas.List.{length-append}
use Rattle.capture_walk.specs.declared.ends.PacketEnd.{PacketEnd}
use Rattle.walk_texts.specs.Texts.{counted}
use Rattle.batch_walk.specs.Texts.{packet_line}
use Rattle.tool_run.specs.Endings.{ending_of}
use Rattle.tool_run.proofs.Lines.{line_parts}

abbrev pub label : List ℕ
label = codes "packet "

counted_is : (number : ℕ) → counted label number ≡ label ++ decimal number
unfolding counted
counted_is number = refl

pub length_counted : (number : ℕ) → length (counted label number) ≡ 7 + length (decimal number)
length_counted number = ap length (counted_is number) ∙ length-append label (decimal number)

pub line_of : (text : List ℕ) (m n : ℕ) (d e : PacketEnd) → text ≡ packet_line m d → m ≡ n → d ≡ e → text
    ≡ packet_line n e
line_of text m n d e is number end = is ∙ ap₂ packet_line number end

pub line_in_three : (number : ℕ) (end : PacketEnd) → packet_line number end ≡ label ++ (decimal number
    ++ ending_of end)
line_in_three number end =
    sym (line_parts number end) ∙ ap (λ xs. xs ++ ending_of end) (counted_is number)
    ∙ append_assoc label (decimal number) (ending_of end)
