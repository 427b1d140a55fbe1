use Rattle.std.proofs.Common.{◌∙◌, ap, sym, subst}
use Rattle.std.specs.Str.{IsCharBoundary}
use Rattle.std.specs.List.{position_or_len}
use Rattle.definition_text.specs.Lines.{ends_line}
use Rattle.text_lines.proofs.Ascii.{boundary_content}
use Rattle.text_lines.proofs.line.split_content.Goals as goal

pub split_at-requires : goal.split_at-requires
split_at-requires c =
    let t = c.args.text.now in
    let e = c.content_len-end.ensures ∙ ap (position_or_len ends_line) c.as_bytes.ensures.value in
    subst (IsCharBoundary t) (sym e) (boundary_content t)
