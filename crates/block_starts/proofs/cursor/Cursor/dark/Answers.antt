use Rattle.std.proofs.Common.{◌+◌, sym, ap, ◌∙◌, drop}
use Rattle.definition_text.specs.Columns.{codes_from, indent, bytes_of}
use Rattle.text_lines.proofs.Codes.{bytes_of_codes}
use Rattle.block_starts.specs.View.{rest_of}
use Rattle.block_starts.proofs.Views.{bare_view}
use Rattle.block_starts.proofs.cursor.Cursor.dark.Goals as goal

pub returns-clause-view : goal.returns-clause-view
unfolding rest_of
returns-clause-view c =
    let s = c.args.self in
    let t = s.text.now in
    let after = s.column + indent (codes_from s.column t) in
    let front = c.without_white.ensures ∙ ap (λ n. drop n t) s.front in
    c.bytes_only.ensures.same
    ∙ sym (bytes_of_codes after c.without_white.result.now c.bytes_only.ensures.bytes)
    ∙ ap (λ bytes. bytes_of (codes_from after bytes)) front
    ∙ sym (ap bytes_of (bare_view s.owed s.column t))
