use Rattle.std.proofs.Common.{◌≡◌, ◌++◌, List, ℕ, map, OnOk, string_bytes, sym, ap, ◌∙◌, subst}
use Rattle.std.specs.List.{flat_map}
use Rattle.definition_inline.specs.Inline.{Data}
use Rattle.inline_leaves.specs.Leaves.{parts_of}
use Rattle.inline_rows.specs.View.{line_leaf, row_view}
use Rattle.inline_rows.specs.declared.row.InlineRow.{InlineRow}
use Rattle.html_heading_text.specs.HeadingRows.{row_says}
use Rattle.html_heading_text.proofs.HeadingTexts.{data_said, parts_said}
use Rattle.html_heading_text.proofs.heading_text.push_row.Goals as goal

pub returns-in-Text : goal.returns-in-Text
returns-in-Text g c = λ at.
    let endings = c.args.endings in
    let text = c.in-Text.text.now in
    subst (λ (s : List ℕ). OnOk c.push_raw.result (string_bytes c.push_raw.new.out ≡ string_bytes c.args.out.now ++ s))
    (sym (ap (λ (r : InlineRow). flat_map (row_says endings) (row_view at r)) c.in-Text.is
    ∙ parts_said endings (map Data text)
    ∙ data_said endings text))
    c.push_raw.ensures

pub returns-in-Verbatim : goal.returns-in-Verbatim
returns-in-Verbatim g c = λ at.
    let endings = c.args.endings in
    let text = c.in-Verbatim.verbatim.text.now in
    subst (λ (s : List ℕ). OnOk c.push_lines.result (string_bytes c.push_lines.new.out ≡ string_bytes c.args.out.now ++ s))
    (sym (ap (λ (r : InlineRow). flat_map (row_says endings) (row_view at r)) c.in-Verbatim.is
    ∙ parts_said endings (map line_leaf text)))
    c.push_lines.ensures

pub returns-in-Leaf : goal.returns-in-Leaf
returns-in-Leaf g c = λ at.
    let endings = c.args.endings in
    subst (λ (s : List ℕ). OnOk c.push_part.result (string_bytes c.push_part.new.out ≡ string_bytes c.args.out.now ++ s))
    (sym (ap (λ (r : InlineRow). flat_map (row_says endings) (row_view at r)) c.in-Leaf.is ∙ parts_said endings (parts_of c.in-Leaf.part)))
    c.push_part.ensures
