use Rattle.std.proofs.Common.{subst}
use Rattle.tc_base.specs.declared.hook.Hook.{Hook}
use Rattle.tc_base.specs.declared.hook.Hook.TheVariants as hooks
use Rattle.pin_store.specs.Calls.{seen_by}
use Rattle.miniq_pair.specs.Heads.{head_root}
use Rattle.hook_reader.specs.KeptHeads.{IsKept}
use Rattle.hook_reader.proofs.Copies.{kept_longer}
use Rattle.hook_reader.proofs.telling.tell_hook.Goals as goal

pub returns-in-Ingress-clause-kept : goal.returns-in-Ingress-clause-kept
returns-in-Ingress-clause-kept c = let e = c.tell_head.ensures in let h = seen_by c.tell_head.new.reader.place in (
  subst (λ (hook : Hook). IsKept h (head_root hook) c.tell_head.new.kept) c.in-Ingress.is e.kept,
  kept_longer (seen_by c.args.reader.now.place) h (head_root hooks.Egress) c.args.egress.now e.longer c.requires.kept.1,
)

pub returns-in-Egress-clause-kept : goal.returns-in-Egress-clause-kept
returns-in-Egress-clause-kept c = let e = c.tell_head-in-Egress.ensures in let h = seen_by c.tell_head-in-Egress.new.reader.place in (
  kept_longer (seen_by c.args.reader.now.place) h (head_root hooks.Ingress) c.args.ingress.now e.longer c.requires.kept.0,
  subst (λ (hook : Hook). IsKept h (head_root hook) c.tell_head-in-Egress.new.kept) c.in-Egress.is e.kept,
)
