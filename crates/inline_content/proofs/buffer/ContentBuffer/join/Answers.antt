use Rattle.std.proofs.Common.{◌≡◌, ◌++◌, ◌∷◌, [], ◌+◌, Option, sym, ap, ◌∙◌, length, take, get_or, string_bytes, arith}
use Rattle.inline_content.proofs.Prelude.{BlockLine, code_byte, codes_with_marks, content_text, ending_text, flat_map, last_ending, length-append, line_text}
use Rattle.inline_content.proofs.Prelude.{LineEnding, map, mark_of, marks_of, piece_lines}
use Rattle.std.proofs.lemmas.List.{map_more, take_all}
use Rattle.text_pieces.specs.Pieces.{piece_line}
use Rattle.text_pieces.proofs.Pieces.{no_piece}
use Rattle.text_pieces.proofs.OwnLines.{last_ending_more, lines_more, with_last_ending}
use Rattle.inline_content.proofs.Lined.{content_is, content_lines_apart, lines_agree, marks_more}
use Rattle.inline_content.proofs.buffer.ContentBuffer.join.Goals as goal

pub loop-line-preserved : goal.loop-line-preserved
loop-line-preserved g c =
    let lines = c.args.lines.now in
    let i = c.loop-line.line-index in
    let before = piece_lines (take i lines) in
    let line : BlockLine = piece_line (get_or lines i no_piece) in
    let k = c.loop-line.invariant in
    let more : piece_lines (take (i + 1) lines) ≡ before ++ line ∷ [] = map_more piece_line lines i _ c.loop-line-test.true in
    let ended : string_bytes c.push_ending.new.content ≡ content_text before ++ ending_text (last_ending before) =
    c.in_ok-push_ending.ensures ∙ ap (λ x. x ++ ending_text c.loop-line.waiting) k.so_far
    ∙ ap (λ (e : Option LineEnding). content_text before ++ ending_text e) k.waits in
    let place : c.len.result ≡ 0 + length (flat_map line_text before) =
    let e = c.len.ensures in let f = ap length ended in let h = ap length (with_last_ending (map code_byte) before) in omega (arith, e, f, h) in
    let grown = ap length c.in_ok-push_line.ensures in
    let sizes = length-append (string_bytes c.push_ending.new.content) (map code_byte line.codes) in
    let long = c.len.ensures in
    record {
      so_far = c.in_ok-push_line.ensures ∙ ap (λ x. x ++ map code_byte line.codes) ended ∙ sym (lines_more (map code_byte) before line)
          ∙ ap content_text (sym more);
      marks =
          c.in_ok-push_mark.ensures.marked
          ∙ ap (λ ms. ms ++ mark_of c.len.result line.before) k.marks
          ∙ ap (λ n. marks_of 0 before ++ mark_of n line.before) place
          ∙ sym (marks_more 0 before line)
          ∙ ap (marks_of 0) (sym more);
      before = λ j d lt. let up = c.push_mark.ensures.before j d lt in omega (arith, up, grown, sizes, long);
      ordered = c.push_mark.ensures.ordered;
      waits = sym (ap last_ending more ∙ last_ending_more before line);
    }

pub returns : goal.returns
returns g c = λ p end h.
    let lines = c.args.lines.now in
    let ls = piece_lines lines in
    let i = c.loop-line.line-index in
    let k = c.loop-line.invariant in
    let all : take i lines ≡ lines = take_all i lines (omega (arith, c.loop-line-test.false)) in
    let apart = content_lines_apart ls h in
    ap (λ ms. codes_with_marks p end ms (string_bytes c.loop-line.self.text)) k.marks
    ∙ ap (codes_with_marks p end (marks_of 0 (piece_lines (take i lines)))) k.so_far
    ∙ ap (λ xs. codes_with_marks p end (marks_of 0 (piece_lines xs)) (content_text (piece_lines xs))) all
    ∙ content_is p end (marks_of 0 ls) ls apart (lines_agree p ls apart)
