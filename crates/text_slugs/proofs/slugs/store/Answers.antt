use Rattle.std.proofs.Common.{◌+◌, cond, Some, string_bytes, ap, ◌∙◌}
use Rattle.std.proofs.lemmas.Map.Text.{btree_map_updates_text}
use Rattle.std.specs.BTreeMap.{btree_map_len}
use Rattle.std.specs.Option.{is_some}
use Rattle.text_slugs.proofs.Taken.{slugs_added}
use Rattle.text_slugs.proofs.slugs.store.Goals as goal

pub returns-clause-numbers : goal.returns-clause-numbers
returns-clause-numbers g c = λ slugs held is_new.
    slugs_added _ _ slugs (string_bytes c.args.free) held is_new
    (btree_map_updates_text (string_bytes c.args.free) c.args.numbers.now c.insert.new.self (Some 0) c.in_ok-insert.ensures.updates)
    (c.in_ok-insert.ensures.len
    ∙ ap (λ found. btree_map_len c.args.numbers.now + cond (is_some found) 0 1) c.in_ok-insert.ensures.old)
