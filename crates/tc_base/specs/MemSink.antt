-- What a sink in memory shows. This project's own.
use Rattle.std.specs.Prelude.{ℕ, List, Bool}
use Rattle.tc_base.specs.declared.mem_sink.MemSink.{MemSink}
use Rattle.tc_base.specs.Counts.{one_more, is_listed}

-- all bytes written so far
abbrev pub written_of : MemSink → List ℕ
written_of sink = sink.bytes.items

-- how many calls of write_all were made
abbrev pub calls_of : MemSink → ℕ
calls_of sink = sink.calls.made

-- the numbers of the calls that are to fail
abbrev pub fails_of : MemSink → List ℕ
fails_of sink = sink.calls.fails

-- how many calls failed
abbrev pub faults_of : MemSink → ℕ
faults_of sink = sink.faults

-- the number of the write that comes next
abbrev pub next_call : MemSink → ℕ
next_call sink = one_more (calls_of sink)

-- the write that comes next is to fail
abbrev pub fails_next : MemSink → Bool
fails_next sink = is_listed (fails_of sink) (next_call sink)
