use Rattle.std.proofs.Common.{ℕ, ◌+◌, ◌<◌, drop, slice_index, arith}
use Rattle.std.proofs.lemmas.List.{get_or-drop, length-drop}
use Rattle.pcap_io.proofs.Stretches.{word_bytes}
use Rattle.pcap_io.proofs.excerpt.number_stands.Goals as goal

pub returns : goal.returns
returns c =
    let bytes = c.args.bytes.now in
    let at = c.args.at in
    let below : (i : ℕ) → slice_index (drop at bytes) i < 256 = λ i. omega (arith, get_or-drop at bytes i 0, c.type_inv.bytes (at + i)) in
    word_bytes c.args.big (drop at bytes) (omega (arith, length-drop at bytes)) (below 0) (below 1) (below 2) (below 3)
