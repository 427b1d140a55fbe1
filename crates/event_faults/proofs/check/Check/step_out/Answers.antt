use Rattle.event_faults.proofs.Passes.{stands_next}
use Rattle.event_faults.proofs.check.Check.step_out.Goals as goal

pub returns-clause-stands : goal.returns-clause-stands
returns-clause-stands g c = λ _.
    stands_next (g.T.Tables.reference_of c.args.tables.now) c.args.bytes.now c.args.self.now.spot c.spot_of-at.result c.exit.new.self.spot
    c.args.self.now.known c.exit.new.self.known c.requires.stands
    (c.is_next.ensures.place c.args.bytes.now c.requires.front c.requires.stands.there c.if-not-is_next.false)
    (c.exit.ensures.spot c.if-not-exit.false) c.exit.ensures.known
