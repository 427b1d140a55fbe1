use Rattle.std.proofs.Common.{◌≡◌, ◌++◌, ◌∷◌, [], arith, sym, ap, ◌∙◌, refl, take, drop}
use Rattle.block_leaves.proofs.Prelude.{last_ending, on_ok_weaker, piece_lines, Text}
use Rattle.block_rows.specs.declared.row.Row.TheVariants as row
use Rattle.block_leaves.proofs.Changes as changes
use Rattle.block_leaves.proofs.leaves.Leaves.take_lines.Goals as goal

pub returns-clause-read : goal.returns-clause-read
returns-clause-read g c =
    on_ok_weaker c.ending.result (λ waits. λ ls b is other containers around kids h.
    let p = c.args.self.now in
    let pool = piece_lines p.pieces.items in
    let count = c.args.count in
    let left : ls ≡ drop p.lines_in_rows pool = changes.lines_of p containers around kids (Text ls) h in
    let last : c.last_ending-ending.result ≡ last_ending (take count ls) =
    c.last_ending-ending.ensures ∙ ap last_ending
    (sym (changes.lines_first p containers around kids (Text ls) h c.deref.result.now c.deref.ensures.value count _ (omega arith))) in
    record {
      written = changes.written_ended p.rows.rows.items p.rows.waiting.items p.rows.bare pool around kids ls h.written c.args.row b
          (last_ending (take count ls)) p.rows.none is other
          c.ending.new.self.rows.items c.block.new.self.waiting.items c.ending.new.self.waiting.items c.ending.new.self.bare (drop count ls)
          (c.ending.ensures.rows ∙ c.in_ok-block.ensures.rows) c.in_ok-block.ensures.waiting
          (waits ∙ ap (λ e. c.block.new.self.waiting.items ++ row.Ending e ∷ []) last) (c.ending.ensures.bare ∙ c.in_ok-block.ensures.bare)
          (ap (λ n. drop n ls) (sym c.requires.size));
      opened = h.opened;
      same_state = refl;
    })
    c.ending.ensures.waiting
