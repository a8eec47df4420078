-- The line on standard error, without its end; the two lines of a report that isn't lawful. The texts are this project's own.
use Rattle.std.specs.Prelude.{ℕ, List, [], ◌++◌, Option, Some, None, codes, decimal}
use Rattle.tool_words.specs.declared.status.Status.{Status}
use Rattle.tool_words.specs.declared.status.Status.TheVariants as statuses
use Rattle.tool_words.specs.Reasons.{words_of}

-- the eight commands, and the words of each
abbrev pub usage : List ℕ
usage = codes "usage: walk HOOK BATCH CAPTURE OUT | show BATCH | run JOB | recheck JOB REPORT | trace HOOK BATCH CAPTURE | trace JOB REPORT | foresee HOOK BATCH CHANGE CAPTURE [ force ] | gen N PREFIX"

-- the text of a status. Of one that names a file nothing is said, since control characters of a name are escaped.
abbrev pub message_of : Status → Option (List ℕ)
message_of statuses.Done = Some []
message_of (statuses.LinesRefused count) = Some (decimal count ++ codes " lines refused")
message_of statuses.Usage = Some usage
message_of (statuses.BadInput name place kind) = None
message_of (statuses.ReadFault name) = None
message_of statuses.WriteFault = Some (codes "cannot write")
message_of (statuses.NoMemory memory) = Some (codes "no memory")
message_of (statuses.NotLawful line reason) =
    Some (codes "report not lawful at line " ++ (decimal line ++ (codes "\nline " ++ (decimal line
    ++ (codes ": no lawful report goes on so: " ++ words_of reason)))))
message_of (statuses.NotHitless count) = Some (decimal count ++ codes " packets not hitless")
