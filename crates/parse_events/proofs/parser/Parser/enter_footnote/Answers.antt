use Rattle.std.proofs.Common.{refl}
use Rattle.parse_events.specs.declared.opened.Opened.TheVariants as held
use Rattle.parse_events.proofs.Held.{start_kept}
use Rattle.parse_events.proofs.StartRows.{footnote_started}
use Rattle.parse_events.proofs.parser.Parser.enter_footnote.Goals as goal

pub returns-clause-kept : goal.returns-clause-kept
returns-clause-kept g c =
    start_kept c.open_if.result held.Footnote c.in_ok-starts.starts c.args.self.now c.begin_block.new.self
    (record c.begin_block.new.self { walk = c.start_footnote.new.self }) c.open_if.new.self c.in_ok-begin_block.ensures.kept refl c.in_ok-starts.ensures.open
    c.open_if.ensures

pub returns-clause-goes_on : goal.returns-clause-goes_on
returns-clause-goes_on g c =
    footnote_started c.open_if.result c.args.self.now c.begin_block.new.self c.open_if.new.self c.start_footnote.new.self c.in_ok-starts.starts
    c.in_ok-begin_block.ensures.stays c.in_ok-starts.ensures.starts c.in_ok-starts.ensures.written c.open_if.ensures
