use Rattle.std.proofs.Common.{◌≡◌, ◌++◌, ◌∷◌, [], ℕ, List, Option, string_bytes, sym, ap, ◌∙◌, take, get_or, ◌+◌}
use Rattle.html_leaves.proofs.Prelude.{BlockLine, code_byte, code_of, encode, ending_text, last_ending, last_ending_more, LineEnding, lines_printed, map}
use Rattle.html_leaves.proofs.Prelude.{map_more, no_piece, own_lines, piece_line, piece_lines}
use Rattle.html_leaves.proofs.code_lines.push_code_lines.Goals as goal

pub loop-line-preserved : goal.loop-line-preserved
loop-line-preserved g c =
    let lines = c.args.lines.now in
    let i = c.loop-line.line-index in
    let start = string_bytes c.args.out.now in
    let before = piece_lines (take i lines) in
    let line : BlockLine = piece_line (get_or lines i no_piece) in
    let body : List ℕ → List ℕ = λ codes. encode (map code_byte codes) in
    let k = c.loop-line.invariant in
    let more : piece_lines (take (i + 1) lines) ≡ before ++ line ∷ [] = map_more piece_line lines i _ c.loop-line-test.true in
    record {
      printed =
          c.in_ok-push_code.ensures
          ∙ ap (λ x. x ++ body line.codes) (c.in_ok-push_ending.ensures ∙ ap (λ x. x ++ ending_text c.loop-line.waiting) k.printed)
          ∙ ap (λ (e : Option LineEnding). ((start ++ code_of (own_lines before)) ++ ending_text e) ++ body line.codes) k.waits
          ∙ lines_printed body start before line
          ∙ ap (λ ls. start ++ code_of (own_lines ls)) (sym more);
      waits = sym (ap last_ending more ∙ last_ending_more before line);
    }
