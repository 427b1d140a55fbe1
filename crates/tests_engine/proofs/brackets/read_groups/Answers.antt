use Rattle.std.proofs.Common.{ℕ, List, [], ◌∷◌, length}
use Rattle.std.specs.Option.{option_copied}
use Rattle.engine_events.specs.declared.event.Event.{Event}
use Rattle.markdown_engine.specs.Chains.{Chain, MayBegin, chains, place_at}
use Rattle.markdown_engine.specs.Resolving.{HoldsUnresolved}
use Rattle.tests_engine.specs.declared.brackets.Brackets.{Brackets}
use Rattle.tests_engine.specs.Brackets.{brackets_valid}
use Rattle.tests_engine.specs.BracketsLaws.{begins_with}
use Rattle.tests_engine.proofs.brackets.read_groups.Goals as goal

may_begin : (size : ℕ) (machine : Brackets) (events : List Event) (cs : List Chain) → MayBegin (HoldsUnresolved (brackets_valid size)) machine events cs
may_begin size machine events [] = tt
may_begin size machine events (c ∷ cs) = (begins_with size machine (place_at events c.0) c.1, may_begin size machine events cs)

pub read_chains-requires : goal.read_chains-requires
read_chains-requires g c =
    record {
      begins = may_begin (length c.args.parse_state.now.bytes.now) c.args.machine c.args.events.now.items
          (chains (option_copied c.args.filter) c.args.events.now.items);
    }
