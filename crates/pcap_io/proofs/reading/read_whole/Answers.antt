use Rattle.std.proofs.Common.{ℕ, List, subst}
use Rattle.std.proofs.lemmas.Result.{err_from_is_err_and}
use Rattle.pcap_io.specs.Captures.{IsHeader}
use Rattle.pcap_io.proofs.Faults.{fault_behind}
use Rattle.pcap_io.proofs.reading.read_whole.Goals as goal

pub returns-in_err-packets-clause-fault : goal.returns-in_err-packets-clause-fault
returns-in_err-packets-clause-fault c =
    let p = err_from_is_err_and c.from_residual-in_err-packets.result c.from_residual-in_err-packets.ensures.1 in
    let header = subst (λ (bytes : List ℕ). IsHeader bytes c.in_ok-big.big c.in_ok-big.nanos) c.deref.ensures.value c.in_ok-big.ensures in
    rw (p.1, p.2) (fault_behind c.args.bytes.items c.in_ok-big.big c.in_ok-big.nanos c.in_err-packets.field-0.0 header c.in_err-packets.ensures.fault)
