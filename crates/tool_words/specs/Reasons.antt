-- Why a report isn't lawful, in words (this project's own).
use Rattle.std.specs.Prelude.{ℕ, List, codes}
use Rattle.tool_words.specs.declared.reason.Reason.{Reason}
use Rattle.tool_words.specs.declared.reason.Reason.TheVariants as reasons

abbrev pub words_of : Reason → List ℕ
words_of reasons.Cut = codes "the end is missing"
words_of reasons.Title = codes "not a report's title"
words_of reasons.Round = codes "another line of a round is due"
words_of reasons.Event = codes "the event of a command is due"
words_of reasons.Result = codes "another result of its command"
words_of reasons.Packet = codes "the next packet is due"
words_of reasons.Worker = codes "the worker's number"
words_of reasons.Floor = codes "a point below the floor"
words_of reasons.Early = codes "a point below the walk's first"
words_of reasons.Late = codes "a point past the journal"
words_of reasons.Mask = codes "a mask that had left"
words_of reasons.Action = codes "an action that isn't there"
words_of reasons.Falling = codes "points of one mask or action fall"
words_of reasons.TooMany = codes "too many points"
words_of reasons.TooFew = codes "too few points"
words_of reasons.Verdict = codes "another verdict"
words_of reasons.Frame = codes "another length or metadata"
words_of reasons.Counter = codes "another counter"
words_of reasons.Summary = codes "another summary"
words_of reasons.End = codes "the last line is due"
words_of reasons.Behind = codes "a line behind the end"
