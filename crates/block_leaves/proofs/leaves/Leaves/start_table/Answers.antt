use Rattle.std.proofs.Common.{◌-◌, ◌++◌, ◌∷◌, [], ◌∙◌, refl, subst, take, drop, length}
use Rattle.block_leaves.proofs.Prelude.{AreRead, Blocks, definition_cut, join, join-assoc, join-nil, on_ok_weaker, OpenTable, paragraph_of, rest_line, rest_of}
use Rattle.block_leaves.proofs.Prelude.{spine, Text}
use Rattle.block_leaves.proofs.leaves.Leaves.start_table.Goals as goal

pub returns : goal.returns
returns g c =
    on_ok_weaker c.table_row.result (λ more. λ ls clean containers around kids h.
    let parts = definition_cut c.args.on.now ls in
    let n = length parts.left - 1 in
    let front = paragraph_of (take n parts.left) in
    let head = drop n parts.left in
    let row = rest_line (rest_of c.args.rest.now) c.args.beside in
    let k = c.in_ok-close_before_head.ensures parts.left containers around (join kids parts.definitions)
    (c.in_ok-cut_definitions.ensures ls clean containers around kids h) in
    subst (λ (bs : Blocks). AreRead c.table_row.new.self containers (spine around bs (OpenTable (head ++ row ∷ []))))
    (join-nil (join (join kids parts.definitions) front) ∙ join-assoc kids parts.definitions front)
    (more (Text head) head refl containers around (join (join kids parts.definitions) front) k))
    c.table_row.ensures
