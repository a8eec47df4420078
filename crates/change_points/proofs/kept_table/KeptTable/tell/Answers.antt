use Rattle.std.proofs.Common.{◌∙◌, ◌++◌, ◌∷◌, [], List, ℕ, ap}
use Rattle.visit_room.specs.declared.table_head.TableHead.{TableHead}
use Rattle.visit_room.specs.Heads.{last_masks}
use Rattle.walk_rules.specs.Questions.{Head}
use Rattle.walk_steps.specs.Told.{heads_told}
use Rattle.classify_walk.specs.Heads.{with_masks_behind}
use Rattle.classify_walk.proofs.Telling.{last_pushed, told_pushed}
use Rattle.change_points.proofs.kept_table.KeptTable.tell.Goals as goal

pub tell_masks-requires-clause-bare : goal.tell_masks-requires-clause-bare
tell_masks-requires-clause-bare c =
    let t = c.self.inside in
    ap last_masks c.push.ensures.tables
    ∙ last_pushed c.args.into.now.tables t.serial t.chain t.pref t.protocol

pub returns : goal.returns
returns c =
    let t = c.self.inside in
    let before = c.args.into.now.tables in
    let serials = c.as_slice.result.now in
    c.tell_masks.ensures
    ∙ ap (λ (hs : List TableHead). with_masks_behind serials (heads_told hs)) c.push.ensures.tables
    ∙ told_pushed before t.serial t.chain t.pref t.protocol serials
    ∙ ap (λ (ns : List ℕ). heads_told before ++ (record {
      serial = t.serial;
      chain = t.chain;
      pref = t.pref;
      protocol = t.protocol;
      masks = ns;
    } ∷ [])) c.as_slice.ensures.value
    ∙ ap (λ (h : Head). heads_told before ++ (h ∷ [])) c.self.view_is
