use Rattle.markdown_engine.proofs.Prelude.{read_with, source, view_config}
use Rattle.markdown_engine.proofs.Push.{at_once}
use Rattle.markdown_engine.proofs.Total.{has_whole_run}
use Rattle.markdown_engine.proofs.tokenizer.Tokenizer.read_at_once.Goals as goal

pub returns-clause-reads : goal.returns-clause-reads
returns-clause-reads g c = at_once g.M.Machine.seen (g.M.Machine.step (read_with c.args.self.now)) c.args.self.now c.finish.new.self c.args.state
    c.finish.result c.requires.fresh c.finish.ensures.reads

pub returns-clause-total : goal.returns-clause-total
returns-clause-total g c =
    let old = c.args.self.now in
    let x = read_with old in
    has_whole_run (source old) (g.M.Machine.valid x) (g.M.Machine.step x) (g.M.Machine.rank x) (g.met.M.Machine.lawful x) (view_config g.M.Machine.seen old)
    c.args.state c.requires.valid

pub returns-then-self-clause-total : goal.returns-then-self-clause-total
returns-then-self-clause-total g c =
    let old = c.args.self.now in
    let x = read_with old in
    has_whole_run (source old) (g.M.Machine.valid x) (g.M.Machine.step x) (g.M.Machine.rank x) (g.met.M.Machine.lawful x) (view_config g.M.Machine.seen old)
    c.args.state c.requires.valid
