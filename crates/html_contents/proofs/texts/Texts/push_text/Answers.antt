use Rattle.text_pieces.specs.Pieces.{piece_lines}
use Rattle.html_contents.proofs.Contents.{content_lines}
use Rattle.html_contents.proofs.texts.Texts.push_text.Goals as goal

pub returns : goal.returns
returns g c = λ ds known are default. c.push_lines.ensures ds known (content_lines (piece_lines c.args.lines.now) are) default
