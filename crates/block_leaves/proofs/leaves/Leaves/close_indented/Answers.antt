use Rattle.std.proofs.Common.{◌-◌, ◌+◌, ◌++◌, ◌∷◌, [], List, sym, ap, ◌∙◌, refl, take, drop, get_or, arith}
use Rattle.block_leaves.proofs.Prelude.{close_leaf, Indented, join, leaf_state, length-drop, map, Piece, piece_lines, take_all}
use Rattle.block_leaves.proofs.Changes as changes
use Rattle.block_leaves.proofs.leaves.Leaves.close_indented.Goals as goal

pub loop-i-preserved : goal.loop-i-preserved
loop-i-preserved g c =
    let k = c.loop-i.invariant in
    let p = c.args.self.now in
    let i = c.loop-i.i in
    let piece = c.index.result.now in
    let before = c.loop-i.self.rows.waiting.items in
    record {
      waiting = changes.blanks_more c.ending.new.self.waiting.items before c.blank.new.self.waiting.items p.pieces.items (p.lines_in_rows + c.args.count) i piece
          (omega (arith, c.loop-i.auto.i)) (omega (arith, c.loop-i-test.true, c.len-i-end.ensures, p.pieces.ok.0)) k.waiting
          (c.in_ok-blank.ensures.waiting ∙ ap (λ (x : Piece). before ++ changes.blank_row x ∷ [])
          (c.index.ensures ∙ ap (λ (ps : List Piece). get_or ps i piece) k.items));
      rows = c.blank.ensures.rows ∙ k.rows;
      bare = c.blank.ensures.bare ∙ k.bare;
      pieces = k.pieces;
      items = k.items;
      same_count = k.same_count;
      leaf = k.leaf;
    }

pub returns : goal.returns
returns g c = λ switches ls pending all last containers around kids h.
    let p = c.args.self.now in
    let n = p.lines_in_rows + c.args.count in
    let items = p.pieces.items in
    let k = c.loop-i.invariant in
    let blanks_are =
    k.waiting
    ∙ ap (λ (ps : List Piece). c.ending.new.self.waiting.items ++ map changes.blank_row ps)
    (take_all (c.loop-i.i - n) (drop n items) (omega (arith, length-drop n items, c.loop-i-test.false, c.len-i-end.ensures, p.pieces.ok.0))) in
    let w = changes.written_indented switches p.rows.rows.items p.rows.waiting.items p.rows.bare items around kids ls pending h.written
    (changes.enough_lines p) p.rows.none
    c.args.count n c.args.ending all last (ap (λ t. t + c.args.count) p.counted)
    c.loop-i.self.rows.rows.items c.block.new.self.waiting.items c.ending.new.self.waiting.items c.loop-i.self.rows.waiting.items c.loop-i.self.rows.bare
    (k.rows ∙ c.ending.ensures.rows ∙ c.in_ok-block.ensures.rows) c.in_ok-block.ensures.waiting c.in_ok-ending.ensures.waiting blanks_are
    (k.bare ∙ c.ending.ensures.bare ∙ c.in_ok-block.ensures.bare) (sym c.loop-i.self.counted ∙ k.same_count) in
    let pool = ap piece_lines (c.truncate.ensures.items ∙ ap (λ m. take m c.loop-i.self.pieces.items) k.same_count ∙ ap (take n) k.items) in
    record {
      written = changes.written_as c.loop-i.self.rows.rows.items c.loop-i.self.rows.rows.items c.loop-i.self.rows.waiting.items c.loop-i.self.rows.waiting.items
          c.loop-i.self.rows.bare c.loop-i.self.rows.bare
          (piece_lines (take n items)) (piece_lines c.truncate.new.self.items) around
          (join kids (close_leaf switches (Indented ls pending))) [] [] refl refl refl pool refl w;
      opened = h.opened;
      same_state = ap leaf_state k.leaf;
    }
