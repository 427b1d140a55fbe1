use Rattle.std.proofs.Common.{◌∷◌, sym, ◌∙◌, ap, length, arith}
use Rattle.std.specs.List.{position_or_len}
use Rattle.std.proofs.lemmas.List.{length-take, length-drop}
use Rattle.text_lines.proofs.FirstLine.{first_line_is, next_lines, shorter_rest}
use Rattle.definition_text.specs.Lines.{ends_line, lines, text_line}
use Rattle.text_lines.proofs.line.next_line.Goals as goal

pub returns-clause-first : goal.returns-clause-first
returns-clause-first c =
    let ending = c.split_ending-ending.result.0 in
    ap (λ content. text_line content ending) c.split_content.ensures.content
    ∙ sym (first_line_is c.args.text.now c.split_content.result.1.now ending c.split_ending-ending.result.1.now c.split_content.ensures.after
    c.split_ending-ending.ensures)

pub returns-clause-shorter : goal.returns-clause-shorter
returns-clause-shorter c =
    let text = c.args.text.now in
    let ending = c.split_ending-ending.result.0 in
    omega (
      arith,
      shorter_rest c.split_content.result.1.now ending c.split_ending-ending.result.1.now c.split_ending-ending.ensures,
      ap length c.split_content.ensures.after,
      length-drop (position_or_len ends_line text) text,
      ap length c.split_content.ensures.content,
      length-take (position_or_len ends_line text) text,
    )

pub returns-clause-rest : goal.returns-clause-rest
returns-clause-rest c = λ some.
    let ending = c.split_ending-ending.result.0 in
    let rest = c.split_ending-ending.result.1.now in
    next_lines c.args.text.now c.split_content.result.1.now ending rest some c.split_content.ensures.after c.split_ending-ending.ensures
    ∙ ap (λ content. text_line content ending ∷ lines rest) (sym c.split_content.ensures.content)
