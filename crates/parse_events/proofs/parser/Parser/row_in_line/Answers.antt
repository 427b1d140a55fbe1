use Rattle.std.proofs.Common.{sym, ap, subst}
use Rattle.parse_events.proofs.Prelude.{BlockRow, first_codes, GoesOnInLine, on_ok_weaker, piece_lines, reading_by, Row, row_value}
use Rattle.parse_events.proofs.LeafRows.{leaf_row, no_ending}
use Rattle.parse_events.proofs.parser.Parser.row_in_line.Goals as goal

pub returns-in-Blank-clause-kept : goal.returns-in-Blank-clause-kept
returns-in-Blank-clause-kept g c = c.blank.ensures.kept

pub returns-in-Blank-clause-goes_on : goal.returns-in-Blank-clause-goes_on
returns-in-Blank-clause-goes_on g c =
    let ls = piece_lines c.args.lines.now in
    on_ok_weaker c.blank.result
    (λ goes ds knows of other.
    let r = reading_by g.T.Tables c.args.texts.now ds in
    subst (λ (b : BlockRow). GoesOnInLine r b c.args.self.now c.blank.new.self) (sym (ap (λ (x : Row). row_value x ls) c.in-Blank.is))
    (goes r c.in-Blank.field-0))
    c.blank.ensures.goes_on

pub returns-in-EnterQuote-clause-kept : goal.returns-in-EnterQuote-clause-kept
returns-in-EnterQuote-clause-kept g c = c.enter_quote.ensures.kept

pub returns-in-EnterQuote-clause-goes_on : goal.returns-in-EnterQuote-clause-goes_on
returns-in-EnterQuote-clause-goes_on g c =
    let ls = piece_lines c.args.lines.now in
    on_ok_weaker c.enter_quote.result
    (λ goes ds knows of other.
    let r = reading_by g.T.Tables c.args.texts.now ds in
    subst (λ (b : BlockRow). GoesOnInLine r b c.args.self.now c.enter_quote.new.self) (sym (ap (λ (x : Row). row_value x ls) c.in-EnterQuote.is)) (goes r))
    c.enter_quote.ensures.goes_on

pub returns-in-EnterFootnote-clause-kept : goal.returns-in-EnterFootnote-clause-kept
returns-in-EnterFootnote-clause-kept g c = c.enter_footnote.ensures.kept

pub returns-in-EnterFootnote-clause-goes_on : goal.returns-in-EnterFootnote-clause-goes_on
returns-in-EnterFootnote-clause-goes_on g c =
    let ls = piece_lines c.args.lines.now in
    on_ok_weaker c.enter_footnote.result
    (λ goes ds knows of other.
    let r = reading_by g.T.Tables c.args.texts.now ds in
    subst (λ (b : BlockRow). GoesOnInLine r b c.args.self.now c.enter_footnote.new.self) (sym (ap (λ (x : Row). row_value x ls) c.in-EnterFootnote.is))
    (goes r (first_codes ls)))
    c.enter_footnote.ensures.goes_on

pub returns-in-EnterItem-clause-kept : goal.returns-in-EnterItem-clause-kept
returns-in-EnterItem-clause-kept g c = c.enter_item.ensures.kept

pub returns-in-EnterItem-clause-goes_on : goal.returns-in-EnterItem-clause-goes_on
returns-in-EnterItem-clause-goes_on g c =
    let ls = piece_lines c.args.lines.now in
    on_ok_weaker c.enter_item.result
    (λ goes ds knows of other.
    let r = reading_by g.T.Tables c.args.texts.now ds in
    subst (λ (b : BlockRow). GoesOnInLine r b c.args.self.now c.enter_item.new.self) (sym (ap (λ (x : Row). row_value x ls) c.in-EnterItem.is))
    (goes r _ c.in-EnterItem.number c.list.ensures.name))
    c.enter_item.ensures.goes_on

pub returns-in-Exit-clause-kept : goal.returns-in-Exit-clause-kept
returns-in-Exit-clause-kept g c = c.exit.ensures.kept

pub returns-in-Exit-clause-goes_on : goal.returns-in-Exit-clause-goes_on
returns-in-Exit-clause-goes_on g c =
    let ls = piece_lines c.args.lines.now in
    on_ok_weaker c.exit.result
    (λ goes ds knows of other.
    let r = reading_by g.T.Tables c.args.texts.now ds in
    subst (λ (b : BlockRow). GoesOnInLine r b c.args.self.now c.exit.new.self) (sym (ap (λ (x : Row). row_value x ls) c.in-Exit.is)) (goes r))
    c.exit.ensures.goes_on

pub returns-in_default-clause-kept : goal.returns-in_default-clause-kept
returns-in_default-clause-kept g c = c.leaf.ensures.kept

pub returns-in_default-clause-goes_on : goal.returns-in_default-clause-goes_on
returns-in_default-clause-goes_on g c =
    let ls = piece_lines c.args.lines.now in
    let row = c.args.row in
    let arms = c.in_default in
    on_ok_weaker c.leaf.result
    (λ goes ds knows of other.
    let r = reading_by g.T.Tables c.args.texts.now ds in
    let is = leaf_row row ls (no_ending row ls other) arms.not-Blank arms.not-EnterQuote arms.not-EnterFootnote arms.not-EnterItem arms.not-Exit in
    subst (λ (b : BlockRow). GoesOnInLine r b c.args.self.now c.leaf.new.self) (sym is.1) (goes ds is.0 knows of is.1))
    c.leaf.ensures.goes_on
