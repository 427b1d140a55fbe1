use Rattle.std.proofs.Common.{◌≡◌, ◌+◌, true, false, ◌&&◌, ◌==◌, sym, ap, ◌∙◌, length, arith}
use Rattle.block_parser.proofs.Prelude.{At, container_views, eq-eqb, Inside, is_nothing, is_one_blank_row, leaf_lines, ne_eqb, piece_lines, spine_at}
use Rattle.block_parser.proofs.Closing as closing
use Rattle.block_parser.proofs.Descending as descending
use Rattle.block_parser.proofs.parser.Parser.began_blank.Goals as goal

pub returns-then-depth-len : goal.returns-then-depth-len
returns-then-depth-len g c = λ around kids inner_kids holder inner deep h.
    let p = c.args.self.now in
    let s = spine_at around kids (Inside holder inner_kids inner) in
    let opened = container_views p.open.items in
    let count = closing.views_length p.open.items in
    let blank = p.leaves.rows.bare && is_one_blank_row p.leaves.rows.waiting.items in
    let other : (length around + 1 == length opened) ≡ false =
    ne_eqb (length around + 1) (length opened) (λ e. c.if-depth-len.true (omega (arith, e, deep, c.len.ensures, p.open.ok.0, count))) in
    sym (ap (λ x. x && is_nothing (At s.leaf) && blank) other)
    ∙ descending.began_is p.leaves.rows.rows.items p.leaves.rows.waiting.items p.leaves.rows.bare (piece_lines p.leaves.pieces.items) opened around kids inner_kids holder inner
    (leaf_lines s.leaf) h.written h.opened

pub returns-then-is_nothing : goal.returns-then-is_nothing
returns-then-is_nothing g c = λ around kids inner_kids holder inner deep h.
    let p = c.args.self.now in
    let s = spine_at around kids (Inside holder inner_kids inner) in
    let opened = container_views p.open.items in
    let count = closing.views_length p.open.items in
    let blank = p.leaves.rows.bare && is_one_blank_row p.leaves.rows.waiting.items in
    let last : (length around + 1 == length opened) ≡ true =
    eq-eqb (length around + 1) (length opened) (omega (arith, deep, c.if-depth-len.false, c.len.ensures, p.open.ok.0, count)) in
    let nothing_open : is_nothing (At s.leaf) ≡ true = sym (c.is_nothing.ensures opened s h) ∙ c.if-is_nothing.true in
    c.began_blank.ensures ∙ sym (ap (λ x. x && is_nothing (At s.leaf) && blank) last ∙ ap (λ x. x && blank) nothing_open)
    ∙ descending.began_is p.leaves.rows.rows.items p.leaves.rows.waiting.items p.leaves.rows.bare (piece_lines p.leaves.pieces.items) opened around kids inner_kids holder inner
    (leaf_lines s.leaf) h.written h.opened
