-- Want of memory. This project's own.
use Rattle.tc_base.specs.declared.no_memory.NoMemory.{NoMemory}

-- the one value that says so: nothing more is known of it
abbrev pub no_memory : NoMemory
no_memory = record { refused = tt }
