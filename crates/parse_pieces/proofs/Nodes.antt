-- Nodes of pieces, joined.
use Rattle.std.proofs.Common.{◌≡◌, ℕ, ◌+◌, List, sym, ap, ap₂, ◌∙◌, arith}
use Rattle.event_definition.specs.Pieces.{Pieces, Nil, Cons, join}
use Rattle.event_grammar.specs.Trees.{Nodes}
use Rattle.parse_output.proofs.Forests.{append-assoc}
use Rattle.parse_output.specs.Forest.{append}
use Rattle.parse_pieces.specs.Nodes.{nodes, piece_nodes}
use Rattle.parse_pieces.specs.Sizes.{columns, piece_size, pieces_size}
use Rattle.parse_pieces.proofs.Sizes.{columns_join}

pub nodes_join : (text : List ℕ) (before : ℕ) (ps qs : Pieces) (after : ℕ)
    → nodes text before (join ps qs) after ≡ append (nodes text before ps (columns qs after)) (nodes text (before + pieces_size ps) qs after)
nodes_join text before Nil qs after = let same : before ≡ before + 0 = omega arith in ap (λ (k : ℕ). nodes text k qs after) same
nodes_join text before (Cons p ps) qs after =
    let size : (before + piece_size p) + pieces_size ps ≡ before + (piece_size p + pieces_size ps) = omega arith in
    let more = nodes_join text (before + piece_size p) ps qs after ∙ ap (λ (k : ℕ). append (nodes text (before + piece_size p) ps (columns qs after)) (nodes text k qs after)) size in
    ap₂ (λ (k : ℕ) (ns : Nodes). append (piece_nodes text before p k) ns) (columns_join ps qs after) more
    ∙ sym (append-assoc (piece_nodes text before p (columns ps (columns qs after))) (nodes text (before + piece_size p) ps (columns qs after))
    (nodes text (before + (piece_size p + pieces_size ps)) qs after))
