use Rattle.std.proofs.Common.{◌++◌, sym, ap, ◌∙◌, subst}
use Rattle.block_targets.proofs.Prelude.{append-nil, HasContents, piece_lines}
use Rattle.block_targets.proofs.NoDefinition.{no_lines}
use Rattle.block_targets.proofs.contents.DefinitionContents.row.Goals as goal

pub returns-then-not-takes_lines : goal.returns-then-not-takes_lines
returns-then-not-takes_lines g c =
    let none = no_lines c.args.row (piece_lines c.args.lines.now) (sym c.takes_lines.ensures ∙ c.if-not-takes_lines.true) in
    record {
      size = none.0;
      read = λ ds h. subst (HasContents c.args.self.now) (sym (append-nil ds) ∙ ap (λ more. ds ++ more) (sym none.1)) h;
    }
