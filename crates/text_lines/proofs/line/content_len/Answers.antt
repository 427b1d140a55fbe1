use Rattle.text_lines.proofs.line.content_len.Goals as goal

pub returns : goal.returns
returns c = c.next_far.ensures
