use Rattle.std.proofs.Common.{◌≡◌, ◌++◌, ◌∷◌, [], List, None, refl, ap}
use Rattle.block_leaves.proofs.Prelude.{Container, Footnote, piece_lines, spaced_line}
use Rattle.block_leaves.proofs.Changes as changes
use Rattle.block_leaves.proofs.leaves.Leaves.enter_footnote.Goals as goal

pub returns : goal.returns
returns g c = λ containers around kids h.
    let p = c.args.self.now in
    let pool = piece_lines p.pieces.items in
    let pool2 = piece_lines c.push.new.self.items in
    let label = c.args.label.now in
    let holder = Footnote label in
    let l = spaced_line label None in
    let pushed : pool2 ≡ pool ++ l ∷ [] = changes.piece_pushed p.pieces.items _ c.push.new.self.items l c.in_ok-push.ensures.items c.whole_piece.ensures.line in
    let longer = changes.written_as p.rows.rows.items p.rows.rows.items p.rows.waiting.items p.rows.waiting.items p.rows.bare p.rows.bare
    (pool ++ l ∷ []) pool2 around kids (l ∷ []) (l ∷ [])
    refl refl refl pushed refl (changes.longer p.rows.rows.items p.rows.waiting.items p.rows.bare pool around kids [] h.written l (changes.enough_lines p)) in
    record {
      written = changes.entered_as p.rows.rows.items p.rows.waiting.items p.rows.bare pool2 around kids (l ∷ []) longer holder p.rows.none refl
          c.enter.new.self.rows.items c.enter.new.self.waiting.items c.enter.new.self.bare [] c.in_ok-enter.ensures.rows c.in_ok-enter.ensures.waiting
          c.in_ok-enter.ensures.bare refl;
      opened = ap (λ (cs : List Container). cs ++ holder ∷ []) h.opened;
      same_state = h.same_state;
    }
