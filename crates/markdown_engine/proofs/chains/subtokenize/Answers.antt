use Rattle.std.proofs.Common.{length}
use Rattle.std.specs.Option.{option_copied}
use Rattle.markdown_engine.proofs.Prelude.{chains, context, edits_of, found_in, IsOrdered}
use Rattle.markdown_engine.proofs.ChainLaws.{divides_ordered, links_lead}
use Rattle.markdown_engine.proofs.ChainSteps.{divides_as}
use Rattle.markdown_engine.proofs.Computing.{chains_read}
use Rattle.markdown_engine.proofs.Weaving.{stays_balanced}
use Rattle.markdown_engine.proofs.chains.subtokenize.Goals as goal

pub consume-requires : goal.consume-requires
consume-requires g c =
    let x = context c.args.parse_state.now in
    let events = c.args.events.now.items in
    let filter = option_copied c.args.filter in
    let all = edits_of c.divide_chains.new.map in
    let total = found_in c.in_ok-found.found in
    let divides = divides_as (g.M.Machine.step x) (g.M.Machine.resolved x) x.bytes
    (g.M.Machine.seen c.args.machine) c.deref.result.now events c.copied.result filter
    (edits_of c.new-map.result) all total c.deref.ensures.value c.copied.ensures c.new-map.ensures c.in_ok-found.ensures.divides in
    let ordered : IsOrdered 0 all (length events) =
    divides_ordered (g.M.Machine.step x) (g.M.Machine.resolved x) x.bytes (g.M.Machine.seen c.args.machine) events (chains filter events) all total
    (length events) divides c.requires.readable.apart in
    rw c.args.events.now.ok.0 ordered

pub returns-clause-read : goal.returns-clause-read
returns-clause-read g c =
    let x = context c.args.parse_state.now in
    let events = c.args.events.now.items in
    let filter = option_copied c.args.filter in
    let all = edits_of c.divide_chains.new.map in
    record {
      edits = all;
      divides = divides_as (g.M.Machine.step x) (g.M.Machine.resolved x) x.bytes
          (g.M.Machine.seen c.args.machine) c.deref.result.now events c.copied.result filter (edits_of c.new-map.result) all
          (found_in c.in_ok-found.found) c.deref.ensures.value c.copied.ensures c.new-map.ensures c.in_ok-found.ensures.divides;
      edited = c.in_ok-consume.ensures.edited;
    }

pub returns-clause-evaluated : goal.returns-clause-evaluated
returns-clause-evaluated g c =
    let x = context c.args.parse_state.now in
    chains_read x g.M.Machine.valid g.M.Machine.step g.M.Machine.rank g.M.Machine.resolved (g.M.Machine.seen c.args.machine)
    (option_copied c.args.filter) c.args.events.now.items c.consume.new.events.items (found_in c.in_ok-found.found)
    (g.met.M.Machine.lawful x) c.requires.readable c.requires.begins (returns-clause-read g c)

pub returns-clause-links : goal.returns-clause-links
returns-clause-links g c =
    let x = context c.args.parse_state.now in
    links_lead (g.M.Machine.step x) (g.M.Machine.resolved x) c.args.parse_state.now.bytes.now (g.M.Machine.seen c.args.machine)
    (option_copied c.args.filter) c.args.events.now.items c.consume.new.events.items (found_in c.in_ok-found.found) c.requires.readable.apart

pub returns-clause-balanced : goal.returns-clause-balanced
returns-clause-balanced g c =
    let x = context c.args.parse_state.now in
    stays_balanced (g.M.Machine.valid x) (g.M.Machine.step x) (g.M.Machine.rank x) (g.M.Machine.resolved x) (g.M.Machine.settled x) x.bytes
    (g.M.Machine.seen c.args.machine) c.args.events.now.items (g.met.M.Machine.lawful x) (g.met.M.Machine.resolving x) c.requires.readable.places
    (option_copied c.args.filter) c.consume.new.events.items (found_in c.in_ok-found.found) c.requires.readable.apart c.requires.begins
