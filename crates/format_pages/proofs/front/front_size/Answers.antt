use Rattle.std.proofs.Common.{◌∙◌}
use Rattle.format_pages.proofs.Fronts.{left_size}
use Rattle.format_pages.proofs.front.front_size.Goals as goal

pub returns : goal.returns
returns c =
    let left = c.without_frontmatter.ensures in
    c.saturating_sub.ensures ∙ left_size _ c.args.text.now _ _ c.every_construct.ensures c.without_mark-before.ensures.text left.all left.left
