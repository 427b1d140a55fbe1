use Rattle.std.proofs.Common.{sym, ap, ◌∙◌, Some, drop}
use Rattle.std.proofs.lemmas.Bool.{cond-true}
use Rattle.markdown_options.specs.declared.beside.Kind.TheVariants.{Whitespace}
use Rattle.definition_block.specs.ContainerLine.{container_line}
use Rattle.definition_block.specs.ListItem.{is_inside}
use Rattle.block_starts.specs.View.{rest_of}
use Rattle.block_starts.proofs.MarkLemmas.{outdented_inside}
use Rattle.block_starts.proofs.list_item.item_continues.Goals as goal

pub returns-then-is_inside : goal.returns-then-is_inside
returns-then-is_inside c =
    let rest = rest_of c.args.rest in
    let inside = sym c.is_inside.ensures ∙ c.if-is_inside.true in
    ap (λ left. Some (container_line left Whitespace)) (c.outdent.ensures ∙ outdented_inside c.args.size c.args.began_blank rest inside)
    ∙ sym (cond-true (is_inside c.args.size c.args.began_blank rest) (Some (container_line (drop c.args.size rest) Whitespace)) _ inside)
