use Rattle.std.proofs.Common.{List, ℕ, ◌<◌, get_or, sym, ap, arith}
use Rattle.definition_text.specs.BlockLines.{block_line}
use Rattle.markdown_options.specs.declared.beside.Kind.TheVariants.{Whitespace}
use Rattle.text_pieces.proofs.Pieces.{only_bytes}
use Rattle.text_lines.proofs.Codes.{block_codes_whole}
use Rattle.block_state.proofs.whole_lines.whole_piece.Goals as goal

pub returns-clause-rest : goal.returns-clause-rest
returns-clause-rest c =
    ap (λ (codes : List ℕ). block_line codes c.args.ending Whitespace) (sym (block_codes_whole c.args.text.now (λ k. omega (arith, c.type_inv.text k))))

pub returns-clause-bytes : goal.returns-clause-bytes
returns-clause-bytes c =
    let bytes : (k : ℕ) → get_or c.args.text.now k 0 < 256 = λ k. omega (arith, c.type_inv.text k) in
    only_bytes c.args.text.now bytes
