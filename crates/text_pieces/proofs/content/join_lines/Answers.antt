use Rattle.std.proofs.Common.{◌≡◌, ◌++◌, ◌∷◌, [], Option, sym, ap, ◌∙◌, take, get_or, ◌+◌}
use Rattle.std.specs.Prelude.{map}
use Rattle.std.proofs.lemmas.List.{map_more}
use Rattle.markdown_options.specs.declared.line_ending.LineEnding.{LineEnding}
use Rattle.definition_text.specs.Lines.{ending_text}
use Rattle.definition_text.specs.Columns.{code_byte}
use Rattle.definition_text.specs.BlockLines.{BlockLine, last_ending}
use Rattle.text_pieces.specs.Pieces.{piece_line, piece_lines}
use Rattle.text_pieces.proofs.Pieces.{no_piece}
use Rattle.text_pieces.proofs.OwnLines.{last_ending_more, lines_more}
use Rattle.definition_text.specs.Content.{content_text}
use Rattle.text_pieces.proofs.content.join_lines.Goals as goal

pub loop-line-preserved : goal.loop-line-preserved
loop-line-preserved g c =
    let lines = c.args.lines.now in
    let i = c.loop-line.line-index in
    let before = piece_lines (take i lines) in
    let line : BlockLine = piece_line (get_or lines i no_piece) in
    let k = c.loop-line.invariant in
    let more : piece_lines (take (i + 1) lines) ≡ before ++ line ∷ [] = map_more piece_line lines i _ c.loop-line-test.true in
    record {
      so_far =
          c.in_ok-push_line.ensures
          ∙ ap (λ x. x ++ map code_byte line.codes) (c.in_ok-push_ending.ensures ∙ ap (λ x. x ++ ending_text c.loop-line.waiting) k.so_far)
          ∙ ap (λ (e : Option LineEnding). (content_text before ++ ending_text e) ++ map code_byte line.codes) k.waits
          ∙ sym (lines_more (map code_byte) before line)
          ∙ ap content_text (sym more);
      waits = sym (ap last_ending more ∙ last_ending_more before line);
    }
