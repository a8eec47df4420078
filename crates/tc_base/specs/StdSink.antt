-- What the standard output shows. This project's own.
use Rattle.std.specs.Prelude.{ℕ, List}
use Rattle.std.specs.Io.Buffered.{writer_buffer}
use Rattle.tc_base.specs.declared.std_sink.StdSink.{StdSink}

-- the bytes that were written and not yet handed on
abbrev pub bytes_kept : {P : Type 0} → StdSink P → List ℕ
bytes_kept sink = writer_buffer sink.out
