use Rattle.std.proofs.Common.{◌-◌, refl, ap, sym, ◌∙◌, map}
use Rattle.std.proofs.lemmas.List.{take-map}
use Rattle.inline_runs.proofs.Prelude.{opener_view}
use Rattle.inline_runs.proofs.Floors.{known_taken}
use Rattle.inline_runs.proofs.openers.Openers.take.Goals as goal

pub returns-clause-openers : goal.returns-clause-openers
returns-clause-openers g c = ap (map opener_view) c.truncate.ensures.items ∙ sym (take-map opener_view (c.args.count - 1) c.args.self.now.openers.items)

pub returns-clause-known : goal.returns-clause-known
returns-clause-known g c = λ n known. known_taken c.args.self.now _ (c.args.count - 1) n c.truncate.ensures.items refl known
