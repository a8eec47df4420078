-- The tables of a hook of lists are what each state that the lists spell answers.
use Rattle.std.proofs.Common.{◌≡◌, Some, sym, ap}
use Rattle.std.specs.Prelude.{map}
use Rattle.tc_base.specs.declared.hook.Hook.{Hook}
use Rattle.filter_state.specs.States.{State}
use Rattle.filter_tables.specs.Rows.{tables_on}
use Rattle.hook_lists.specs.declared.kept.Kept.{Kept}
use Rattle.hook_lists.specs.States.{both_of, AreKept}
use Rattle.filter_lists.specs.Spells.{Spells}
use Rattle.walk_rules.specs.Questions.{heads_of, told_heads}
use Rattle.walk_rules.specs.Answers.{answer_of}
use Rattle.head_laws.specs.Heads.{head_of}
use Rattle.head_laws.proofs.ListedHeads.{heads_listed}

pub heads_answered : (kept : Kept) (hook : Hook) (s : State) → AreKept kept → Spells kept s → answer_of s (heads_of hook) ≡ Some (told_heads (map head_of (tables_on hook (both_of kept))))
heads_answered kept hook s is spelled = ap (λ heads. Some (told_heads heads)) (sym (heads_listed kept s hook is spelled))
