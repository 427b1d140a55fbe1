use Rattle.std.proofs.Common.{ap, ◌∙◌, drop, arith}
use Rattle.std.proofs.lemmas.List.{drop-drop}
use Rattle.definition_text.specs.Columns.{indent}
use Rattle.block_starts.specs.View.{rest_of}
use Rattle.block_starts.proofs.Views.{indent_dropped}
use Rattle.block_starts.proofs.cursor.Cursor.outdent.Goals as goal

pub without_column-rest-requires : goal.without_column-rest-requires
without_column-rest-requires c =
    let left = indent_dropped c.loop.counter (rest_of c.args.self) (omega (arith, c.indent.ensures.same)) in
    let same = ap indent c.loop.invariant in
    omega (arith, left, same, c.indent.ensures.same)

pub loop-preserved : goal.loop-preserved
loop-preserved c = c.without_column-rest.ensures ∙ ap (drop 1) c.loop.invariant ∙ drop-drop 1 c.loop.counter (rest_of c.args.self)
