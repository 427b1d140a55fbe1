use Rattle.std.proofs.Common.{◌≡◌, ◌++◌, ◌∷◌, [], ℕ, false, List, Option, string_bytes, sym, ap, ◌∙◌, take, get_or, ◌+◌}
use Rattle.html_leaves.proofs.Prelude.{BlockLine, bytes_of, ending_text, html_of, last_ending, last_ending_more, LineEnding, lines_printed, map_more, no_piece}
use Rattle.html_leaves.proofs.Prelude.{own_lines, piece_line, piece_lines, raw_bytes}
use Rattle.html_leaves.proofs.html_flow.push_html_lines.Goals as goal

pub loop-line-preserved : goal.loop-line-preserved
loop-line-preserved g c =
    let lines = c.args.lines.now in
    let options = c.args.options.now in
    let i = c.loop-line.line-index in
    let start = string_bytes c.args.out.now in
    let before = piece_lines (take i lines) in
    let piece = get_or lines i no_piece in
    let line : BlockLine = piece_line piece in
    let body : List ℕ → List ℕ = λ codes. raw_bytes false options (bytes_of codes) in
    let k = c.loop-line.invariant in
    let more : piece_lines (take (i + 1) lines) ≡ before ++ line ∷ [] = map_more piece_line lines i _ c.loop-line-test.true in
    record {
      printed =
          c.in_ok-push_html_line.ensures piece.owed
          ∙ ap (λ x. x ++ body line.codes) (c.in_ok-push_ending.ensures ∙ ap (λ x. x ++ ending_text c.loop-line.waiting) k.printed)
          ∙ ap (λ (e : Option LineEnding). ((start ++ html_of options (own_lines before)) ++ ending_text e) ++ body line.codes) k.waits
          ∙ lines_printed body start before line
          ∙ ap (λ ls. start ++ html_of options (own_lines ls)) (sym more);
      waits = sym (ap last_ending more ∙ last_ending_more before line);
    }
