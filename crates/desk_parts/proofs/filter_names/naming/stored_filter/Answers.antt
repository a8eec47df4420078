use Rattle.std.proofs.Common.{◌≡◌, ◌∙◌, ◌≤◌, List, ℕ, length, sym, ap, subst}
use Rattle.std.specs.Prelude.{All}
use Rattle.act_registry.specs.declared.limits.TheConstants.{MADE_MAX}
use Rattle.filter_state.specs.declared.refusal.Done.{Done}
use Rattle.filter_state.specs.declared.refusal.Done.TheVariants as dones
use Rattle.block_codec.specs.declared.filter.StoredFilter.{StoredFilter}
use Rattle.desk_masks.specs.OfFilterCommits.Edits.{IsOfLine}
use Rattle.desk_parts.specs.OfFilterNames.Named.{named}
use Rattle.desk_parts.proofs.OfFilterNames.Storable.{few_serials, made_serials, line_stored}
use Rattle.desk_parts.proofs.filter_names.naming.stored_filter.Goals as goal

-- what one answer tells
same_handle : (pref handle pref2 handle2 : ℕ) (serials serials2 : List ℕ) (done : Done) → done ≡ dones.Filter pref handle serials → done ≡ dones.Filter pref2 handle2 serials2 → handle ≡ handle2
same_handle pref handle pref2 handle2 serials serials2 done one two = let both : dones.Filter pref handle serials ≡ dones.Filter pref2 handle2 serials2 = sym one ∙ two in cc both

same_serials : (pref handle pref2 handle2 : ℕ) (serials serials2 : List ℕ) (done : Done) → done ≡ dones.Filter pref handle serials → done ≡ dones.Filter pref2 handle2 serials2 → serials ≡ serials2
same_serials pref handle pref2 handle2 serials serials2 done one two = let both : dones.Filter pref handle serials ≡ dones.Filter pref2 handle2 serials2 = sym one ∙ two in cc both

pub names_of-requires-clause-few : goal.names_of-requires-clause-few
names_of-requires-clause-few c = let t = c.requires.stands in let f = c.in-Filter in
    let same = same_serials f.pref f.handle t.2 t.3 f.serials t.4 c.args.done.now f.is t.5 in
    subst (λ (l : List ℕ). length l ≤ 16) (sym (c.as_slice.ensures ∙ same)) (few_serials t.0 t.1 c.args.places.now c.args.line.now t.3 t.4 t.6)

pub names_of-requires-clause-made : goal.names_of-requires-clause-made
names_of-requires-clause-made c = let t = c.requires.stands in let f = c.in-Filter in
    let same = same_serials f.pref f.handle t.2 t.3 f.serials t.4 c.args.done.now f.is t.5 in
    subst (λ (l : List ℕ). All (λ a. a ≤ MADE_MAX) l) (sym (c.as_slice.ensures ∙ same)) (made_serials t.0 t.1 c.args.places.now c.args.line.now t.3 t.4 t.6)

pub returns : goal.returns
returns c = record {
  stored = λ h s pref handle serials is can. let f = c.in-Filter in let placed = c.args.places.now in let line = c.args.line.now in
      let own = same_handle f.pref f.handle pref handle f.serials serials c.args.done.now f.is is in
      let same = same_serials f.pref f.handle pref handle f.serials serials c.args.done.now f.is is in
      let key = ap length (sym c.words_of-words.ensures.words) ∙ c.words_of-words.ensures.count in
      let actions = ap (named placed) (sym (c.as_slice.ensures ∙ same)) ∙ sym c.names_of.ensures in
      let made : ◌≡◌ {A = StoredFilter} (record { handle = handle; key = line.key; actions = named placed serials }) (record { handle = f.handle; key = line.key; actions = c.names_of.result }) =
      λ t. record { handle = sym own t; key = line.key; actions = actions t } in
      subst (IsOfLine h line handle serials) made (line_stored h s placed line handle serials can key);
}
