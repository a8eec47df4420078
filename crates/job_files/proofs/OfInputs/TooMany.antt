-- A capture of too many packets has a break.
use Rattle.std.proofs.Common.{inl, inr, ℕ, List, Option, length, refl, sym, subst}
use Rattle.tc_base.specs.Outside.{Held}
use Rattle.pcap_io.specs.declared.capture.Capture.{Capture}
use Rattle.pcap_io.specs.Captures.{IsCapture}
use Rattle.tool_words.specs.declared.status.Status.{Status}
use Rattle.job_files.specs.OfInputs.Broken.{IsTooMany}
use Rattle.job_files.specs.OfInputs.Holdings.{Holds}
use Rattle.job_files.specs.OfInputs.Failures.{CaptureFails}

pub too_many_told : {S : Type 0} (held : S → Option Held) (read_faults : S → ℕ)
    (failed_name : S → Option (List ℕ)) (old new : S) (room : ℕ) (name bytes : List ℕ) (capture : Capture)
    → Holds (held old) name bytes → IsCapture bytes capture → (status : Status)
    → IsTooMany room name (length capture.packets) status
    → CaptureFails held read_faults failed_name old new room name status
too_many_told held read_faults failed_name old new room name bytes capture holds is status (over, inl none) =
    subst (λ (s : Status). CaptureFails held read_faults failed_name old new room name s) (sym none) tt
too_many_told held read_faults failed_name old new room name bytes capture holds is status (over, inr told) =
    subst (λ (s : Status). CaptureFails held read_faults failed_name old new room name s) (sym told)
    (refl, record { bytes = bytes; held = holds; is = inr (refl, refl, (capture, is, over)) })
