use Rattle.std.proofs.Common.{◌≡◌, ◌∙◌, refl, sym, true, false}
use Rattle.markdown_engine.proofs.Prelude.{found_in, read_with, source, text_to, view_config}
use Rattle.markdown_engine.proofs.Push.{not_refused, same_read, unless_refused}
use Rattle.markdown_engine.proofs.Resolves.{read_well, settled_at, completed_all, completed_if, completed_none, all_at, halts_well}
use Rattle.markdown_engine.proofs.tokenizer.Tokenizer.complete.Goals as goal
use Rattle.markdown_engine.proofs.tokenizer.Tokenizer.complete.Goals.{then-resolve+in_ok-resolve_all, else-resolve}

pub resolve_all-requires : goal.resolve_all-requires
resolve_all-requires g c =
    let old = c.args.self.now in
    let mid = c.finish.new.self in
    let x = read_with old in
    let resolving = g.met.M.Machine.resolving x in
    let well = read_well g.M.Machine.seen (g.M.Machine.valid x) (text_to (source old) c.args.to)
    (g.M.Machine.step x) c.args.state old mid c.finish.result resolving.well
    (not_refused c.finish.result c.in_default.not-Error) c.finish.ensures.valid c.finish.ensures.reads in
    let at : read_with mid ≡ x = same_read old mid c.finish.ensures.parse_state in
    record {
      settled = settled_at g.M.Machine.settled x (read_with mid) _ mid.resolvers.items (sym at) (resolving.begins (view_config g.M.Machine.seen mid) well.0);
      nothing = c.in_ok-found.ensures.found;
    }

pub returns : goal.returns
returns g c =
    let old = c.args.self.now in
    let mid = c.finish.new.self in
    let x = read_with old in
    let resolving = g.met.M.Machine.resolving x in
    let well = read_well g.M.Machine.seen (g.M.Machine.valid x) (text_to (source old) c.args.to)
    (g.M.Machine.step x) c.args.state old mid c.finish.result resolving.well
    (not_refused c.finish.result c.in_default.not-Error) c.finish.ensures.valid c.finish.ensures.reads in
    let at : read_with mid ≡ x = same_read old mid c.finish.ensures.parse_state in
    elim c.if-resolve.branch [
      | then-resolve+in_ok-resolve_all w ↦ rw (
        w.self-is,
        w.found-is,
      ) (let said = all_at g.M.Machine.resolved (read_with mid) x (view_config g.M.Machine.seen mid)
          (view_config g.M.Machine.seen w.resolve_all.new.self) (found_in w.resolve_all.new.found) at w.in_ok-resolve_all.ensures.resolved.config
          w.in_ok-resolve_all.ensures.resolved.found in record {
            completed = completed_if g.M.Machine.seen (text_to (source old) c.args.to) (g.M.Machine.step x)
                (g.M.Machine.resolved x) c.args.state old w.resolve_all.new.self (found_in w.resolve_all.new.found) true c.args.resolve (sym w.if-resolve.true)
                (completed_all g.M.Machine.seen (text_to (source old) c.args.to) (g.M.Machine.step x)
                (g.M.Machine.resolved x) c.args.state old mid w.resolve_all.new.self (found_in w.resolve_all.new.found) well.1 said.0 said.1);
            halts = λ e. absurd (let f : true ≡ false = sym w.if-resolve.true ∙ e in cc);
            done = w.in_ok-resolve_all.ensures.done ∙ c.in_ok-found.ensures.done;
            whole = w.in_ok-resolve_all.ensures.whole;
            memory = tt;
          })
      | else-resolve w ↦ rw (w.self-is, w.found-is) (record {
        completed = completed_if g.M.Machine.seen (text_to (source old) c.args.to) (g.M.Machine.step x) (g.M.Machine.resolved x) c.args.state old mid
            (found_in c.in_ok-found.found) false c.args.resolve (sym w.if-resolve.false)
            (completed_none g.M.Machine.seen (text_to (source old) c.args.to) (g.M.Machine.step x) (g.M.Machine.resolved x) c.args.state old mid mid
            (found_in c.in_ok-found.found) well.1 refl c.in_ok-found.ensures.found);
        halts = λ e. halts_well g.M.Machine.seen (g.M.Machine.valid x) g.M.Machine.step g.M.Machine.rank c.args.to c.args.state old mid c.finish.result
            resolving.well (not_refused c.finish.result c.in_default.not-Error) c.finish.ensures.valid c.finish.ensures.reads c.finish.ensures.halts;
        done = c.in_ok-found.ensures.done;
        whole = unless_refused c.finish.result (not_refused c.finish.result c.in_default.not-Error) c.finish.ensures.whole;
        memory = tt;
      })
    ]
