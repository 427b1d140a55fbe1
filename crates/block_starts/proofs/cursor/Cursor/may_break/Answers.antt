use Rattle.std.proofs.Common.{◌+◌, ◌<◌, length, sym, ap, ◌∙◌, arith}
use Rattle.std.proofs.lemmas.Bool.{leb-false}
use Rattle.std.proofs.lemmas.List.{length-drop}
use Rattle.definition_block.specs.ThematicBreak.{is_break_text}
use Rattle.block_starts.proofs.cursor.Cursor.may_break.Goals as goal

pub returns : goal.returns
returns c = λ long.
    let s = c.args.self in
    let t = s.text.now in
    let same = ap length c.dark.ensures.same in
    let less = length-drop s.white t in
    let more : s.tail + s.white < length t = omega (arith, same, less, leb-false _ _ long) in
    ap is_break_text (sym c.dark.ensures.view ∙ c.dark.ensures.same) ∙ s.breaks s.white more
