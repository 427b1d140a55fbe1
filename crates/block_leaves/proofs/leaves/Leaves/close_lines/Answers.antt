use Rattle.std.proofs.Common.{[], sym, subst}
use Rattle.block_leaves.proofs.Prelude.{AreRead, Blocks, definition_cut, DefinitionCut, join, join-assoc, on_ok_weaker, paragraph_of, spine, Text}
use Rattle.block_leaves.proofs.Prelude.{with_paragraph}
use Rattle.block_leaves.proofs.DefinitionLemmas.{cut_clean}
use Rattle.block_leaves.proofs.leaves.Leaves.close_lines.Goals as goal

pub returns-then-not-may_define : goal.returns-then-not-may_define
returns-then-not-may_define g c =
    on_ok_weaker c.close_paragraph.result (λ reads. λ ls clean known containers around kids h.
    let uncut = c.may_define.ensures.uncut c.if-not-may_define.true containers around kids ls clean h in
    subst (λ (parts : DefinitionCut). AreRead c.close_paragraph.new.self containers (spine around (join kids (with_paragraph parts)) (Text []))) (sym uncut)
    (reads ls clean known containers around kids h))
    c.close_paragraph.ensures

pub returns : goal.returns
returns g c =
    on_ok_weaker c.close_paragraph-2.result (λ reads. λ ls clean _ containers around kids h.
    let parts = definition_cut c.args.on.now ls in
    subst (λ (bs : Blocks). AreRead c.close_paragraph-2.new.self containers (spine around bs (Text []))) (join-assoc kids parts.definitions (paragraph_of parts.left))
    (reads parts.left (cut_clean c.args.on.now ls clean) tt containers around (join kids parts.definitions) (c.in_ok-cut_definitions.ensures ls clean containers around kids h)))
    c.close_paragraph-2.ensures
