-- The kinds of actions by name (tc-actions(8)): the one table by which lines are read and printed.
use Rattle.std.specs.Prelude.{ℕ, List, codes}
use Rattle.act_kinds.specs.declared.params.Kind.{Kind}
use Rattle.act_kinds.specs.declared.params.Kind.TheVariants as kinds

-- the module of tc that a kind is named after
abbrev pub kind_text : Kind → List ℕ
kind_text kinds.Gact = codes "gact"
kind_text kinds.Vlan = codes "vlan"
kind_text kinds.Skbedit = codes "skbedit"
