use Rattle.std.proofs.Common.{map, sym, ap, ◌∙◌}
use Rattle.std.specs.List.{fold}
use Rattle.inline_rows.specs.View.{line_leaf, row_view}
use Rattle.inline_leaves.specs.Leaves.{parts_of}
use Rattle.inline_rows.specs.declared.row.InlineRow.{InlineRow}
use Rattle.html_heading_text.specs.HeadingRows.{silent_after}
use Rattle.html_heading_text.proofs.HeadingTexts.{leaf_open, text_open}
use Rattle.html_heading_text.proofs.heading_text.silent_after.Goals as goal

pub returns-in-Text-clause-after : goal.returns-in-Text-clause-after
returns-in-Text-clause-after c = λ at.
    text_open c.args.silent c.in-Text.field-0.now ∙ sym (ap (λ (r : InlineRow). fold silent_after c.args.silent (row_view at r)) c.in-Text.is)

pub returns-in-Verbatim-clause-after : goal.returns-in-Verbatim-clause-after
returns-in-Verbatim-clause-after c = λ at.
    leaf_open c.args.silent (map line_leaf c.in-Verbatim.field-0.text.now)
    ∙ sym (ap (λ (r : InlineRow). fold silent_after c.args.silent (row_view at r)) c.in-Verbatim.is)

pub returns-in-Leaf-clause-after : goal.returns-in-Leaf-clause-after
returns-in-Leaf-clause-after c = λ at.
    leaf_open c.args.silent (parts_of c.in-Leaf.field-0) ∙ sym (ap (λ (r : InlineRow). fold silent_after c.args.silent (row_view at r)) c.in-Leaf.is)
