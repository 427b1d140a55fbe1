use Rattle.std.proofs.Common.{refl}
use Rattle.parse_events.proofs.Held.{in_no_list, kept_both}
use Rattle.parse_events.proofs.parser.Parser.begin_block.Goals as goal

pub loop-self-init : goal.loop-self-init
loop-self-init g c = record { kept = record { around = refl; held = c.requires.held }; stays = λ none. refl }

pub close-requires : goal.close-requires
close-requires g c = record { held = c.loop-self.invariant.kept.held }

pub loop-self-preserved : goal.loop-self-preserved
loop-self-preserved g c =
    let k = c.loop-self.invariant in
    record {
      kept = kept_both c.args.self.now c.loop-self.self c.close.new.self k.kept c.in_ok-close.ensures.kept;
      stays = λ none.
          absurd (in_no_list c.args.self.now c.loop-self.self c.is_in_list.result c.loop-self-test.true c.is_in_list.ensures.list (k.stays none) none);
    }

pub returns-clause-kept : goal.returns-clause-kept
returns-clause-kept g c = c.loop-self.invariant.kept
