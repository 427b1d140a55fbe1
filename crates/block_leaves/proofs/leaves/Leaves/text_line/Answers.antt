use Rattle.std.proofs.Common.{◌++◌, ◌∷◌, [], subst}
use Rattle.block_leaves.proofs.Prelude.{AreRead, BlockLine, on_ok_weaker, spine, Text}
use Rattle.block_leaves.proofs.leaves.Leaves.text_line.Goals as goal

pub returns : goal.returns
returns g c =
    on_ok_weaker c.add_line.result (λ more. λ containers around kids ls h.
    subst (λ (l : BlockLine). AreRead c.add_line.new.self containers (spine around kids (Text (ls ++ l ∷ [])))) c.piece.ensures (more containers around kids ls h))
    c.add_line.ensures
