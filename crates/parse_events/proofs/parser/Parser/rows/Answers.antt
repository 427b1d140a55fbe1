use Rattle.std.proofs.Common.{◌+◌, rules, List, arith, drop, refl, subst}
use Rattle.std.proofs.lemmas.List.{drop_all}
use Rattle.parse_events.proofs.Prelude.{IsAmongRows, piece_lines, reading_by, Row, taken_more}
use Rattle.block_rows.specs.declared.row.Row.TheVariants.{Paragraph}
use Rattle.parse_events.proofs.Blocks.{row_written}
use Rattle.parse_events.proofs.Held.{kept_both}
use Rattle.parse_events.proofs.parser.Parser.rows.Goals as goal

pub loop-row-init : goal.loop-row-init
loop-row-init g c = record { enough = search rules; kept = record { around = refl; held = c.requires.held }; written = λ ds knows text front all was. was }

pub loop-row-preserved : goal.loop-row-preserved
loop-row-preserved g c =
    let rows = c.args.rows.now in
    let pieces = c.args.pieces.now in
    let i = c.loop-row.row-index in
    let taken = c.loop-row.taken in
    let k = c.loop-row.invariant in
    let fits = taken_more rows i (Paragraph 0) c.loop-row-test.true in
    record {
      enough = omega (arith, k.enough, c.size.ensures, fits);
      kept = kept_both c.args.self.now c.loop-row.self c.row.new.self k.kept c.in_ok-row.ensures.kept;
      written = λ ds knows text front all was.
          row_written (reading_by g.T.Tables c.args.texts.now ds) text front all rows pieces i taken (taken + c.size.result) (Paragraph 0) c.loop-row.self
          c.row.new.self c.loop-row-test.true (omega (arith, c.size.ensures)) (omega (arith, k.enough, c.size.ensures, fits))
          (c.in_ok-row.ensures.goes_on ds knows) (k.written ds knows text front all was);
    }

pub returns-clause-written : goal.returns-clause-written
returns-clause-written g c = λ ds knows text front all was.
    let lines = piece_lines (drop c.loop-row.taken c.args.pieces.now) in (
      lines,
      subst (λ (rows : List Row). IsAmongRows (reading_by g.T.Tables c.args.texts.now ds) text front all rows lines c.loop-row.self)
          (drop_all c.loop-row.row-index c.args.rows.now c.loop-row-test.false) (c.loop-row.invariant.written ds knows text front all was),
    )

pub returns-clause-kept : goal.returns-clause-kept
returns-clause-kept g c = c.loop-row.invariant.kept

pub row-requires : goal.row-requires
row-requires g c = record { held = c.loop-row.invariant.kept.held }
