use Rattle.std.proofs.Common.{◌++◌, ◌∷◌, [], sym, ap, refl}
use Rattle.block_leaves.proofs.Prelude.{Fenced, InFenced, last_ending_or-more, piece_line, piece_lines}
use Rattle.block_leaves.proofs.Changes as changes
use Rattle.block_leaves.proofs.leaves.Leaves.push_code.Goals as goal

pub returns-clause-read : goal.returns-clause-read
returns-clause-read g c = λ fence last containers around kids opening ls h.
    let p = c.args.self.now in
    let l = piece_line c.args.line in
    changes.shows_line p.rows.rows.items p.rows.waiting.items p.rows.bare containers (piece_lines p.pieces.items)
    (piece_lines c.push.new.self.items) (InFenced fence last) (InFenced fence l.ending) around kids (Fenced fence opening ls)
    (Fenced fence opening (ls ++ l ∷ [])) l (changes.enough_lines p)
    (changes.piece_pushed p.pieces.items c.args.line c.push.new.self.items l c.in_ok-push.ensures.items refl) refl
    (ap (InFenced fence) (sym (last_ending_or-more opening ls l))) h
