-- What is open after some lines, with another line ending in place of each LF.
use Rattle.laws_endings.proofs.Prelude.{At, Beside, blocks_with, Fenced, if_ending_with, Indented, Inside, LineEnding, lines_with, OpenHtml, Opening, OpenLeaf}
use Rattle.laws_endings.proofs.Prelude.{OpenTable, Text, Tree, tree}

-- an open leaf
abbrev pub leaf_with : LineEnding → OpenLeaf → OpenLeaf
leaf_with e (Text ls) = Text (lines_with e ls)
leaf_with e (Indented ls pending) = Indented (lines_with e ls) (lines_with e pending)
leaf_with e (Fenced fence ending ls) = Fenced fence (if_ending_with e ending) (lines_with e ls)
leaf_with e (OpenHtml kind ls) = OpenHtml kind (lines_with e ls)
leaf_with e (OpenTable ls) = OpenTable (lines_with e ls)

-- what is open
abbrev pub opening_with : LineEnding → Opening → Opening
opening_with e (At leaf) = At (leaf_with e leaf)
opening_with e (Inside c kids inner) = Inside c (blocks_with e kids) (opening_with e inner)

-- a tree
abbrev pub tree_with : LineEnding → Tree → Tree
tree_with e t = tree (blocks_with e t.done) (opening_with e t.now)

-- what stands beside the rest of a line
abbrev pub beside_with : LineEnding → Beside → Beside
beside_with e beside = record { before = beside.before; ending = if_ending_with e beside.ending }
