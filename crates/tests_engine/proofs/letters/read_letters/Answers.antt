use Rattle.std.proofs.Common.{List, [], ◌∷◌, refl}
use Rattle.std.specs.Option.{option_copied}
use Rattle.engine_events.specs.declared.event.Event.{Event}
use Rattle.markdown_engine.specs.Chains.{Chain, MayBegin, chains, place_at}
use Rattle.markdown_engine.specs.OrderLaws.{fresh_tidy}
use Rattle.markdown_engine.specs.Resolving.{HoldsUnresolved}
use Rattle.tests_engine.specs.declared.letters.Letters.{Letters}
use Rattle.tests_engine.specs.Letters.{reads_letters}
use Rattle.tests_engine.proofs.letters.read_letters.Goals as goal

may_begin : (machine : Letters) (events : List Event) (cs : List Chain) → MayBegin (HoldsUnresolved reads_letters) machine events cs
may_begin machine events [] = tt
may_begin machine events (c ∷ cs) =
    (((refl, record { tidy = fresh_tidy (place_at events c.0) machine; closed = refl }), (refl, refl)), may_begin machine events cs)

pub read_chains-requires : goal.read_chains-requires
read_chains-requires g c = record { begins = may_begin c.args.machine c.args.events.now.items (chains (option_copied c.args.filter) c.args.events.now.items) }
