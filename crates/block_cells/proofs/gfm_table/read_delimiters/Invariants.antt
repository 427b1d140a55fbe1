use Rattle.std.proofs.Common.{◌≡◌, ◌++◌, length}
use Rattle.block_cells.proofs.Prelude.{alignments_of, cells, cells_left, option_map, piece_line}
use Rattle.markdown_options.specs.declared.beside.Kind.TheVariants.{Whitespace}
use Rattle.block_cells.proofs.gfm_table.read_delimiters.Given as goal

-- all cells so far are delimiters
abbrev pub invariant-loop-cell : goal.invariant-loop-cell
invariant-loop-cell g l =
    alignments_of (cells Whitespace (piece_line l.line).codes) ≡ option_map (λ more. l.aligns.items ++ more) (alignments_of (cells_left l.cells))

abbrev pub decreases-loop-cell : goal.decreases-loop-cell
decreases-loop-cell g l = length (cells_left l.cells)
