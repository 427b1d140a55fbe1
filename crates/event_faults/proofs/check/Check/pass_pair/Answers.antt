use Rattle.std.proofs.Common.{◌∙◌, sym, ap}
use Rattle.event_faults.proofs.Prelude.{is_not, map, open_view, reverse, taken_view}
use Rattle.std.specs.Option.{option_map}
use Rattle.event_grammar.proofs.Alone.{alone}
use Rattle.event_grammar.proofs.NameRules.{void_is}
use Rattle.event_faults.proofs.Passes.{passes_taken, passes_between, stands_on}
use Rattle.event_faults.proofs.Spaces.{held_takes_none, not_taken, stands_as}
use Rattle.event_faults.proofs.check.Check.pass_pair.Goals as goal

pub take_alone-requires : goal.take_alone-requires
take_alone-requires g c =
    (alone c.args.enter.now.name (void_is c.args.enter.now.name (ap is_not (sym c.void_of-void.ensures) ∙ (sym c.is_not.ensures ∙ c.if-is_not.false)))).cell

pub returns-then-is_between-clause-stands : goal.returns-then-is_between-clause-stands
returns-then-is_between-clause-stands g c =
    let bytes = c.args.bytes.now in
    let front = c.requires.front in
    stands_on (g.T.Tables.reference_of c.args.tables.now) bytes c.args.self.now.spot c.spot_of-start.result c.spot_of-end.result c.args.self.now.known
    c.requires.stands
    (c.is_next.ensures.place bytes front c.requires.stands.there c.if-not-is_next.false) (c.is_place.ensures.place bytes front c.if-not-is_place.false)

pub returns-else-not-is_fact_between-2-clause-stands : goal.returns-else-not-is_fact_between-2-clause-stands
returns-else-not-is_fact_between-2-clause-stands g c =
    let bytes = c.args.bytes.now in
    let front = c.requires.front in
    stands_on (g.T.Tables.reference_of c.args.tables.now) bytes c.args.self.now.spot c.spot_of-start.result c.spot_of-end.result c.args.self.now.known
    c.requires.stands
    (c.is_next.ensures.place bytes front c.requires.stands.there c.if-not-is_next.false) (c.is_place.ensures.place bytes front c.if-not-is_place.false)

pub returns-then-is_between-clause-passed : goal.returns-then-is_between-clause-passed
returns-then-is_between-clause-passed g c =
    let bytes = c.args.bytes.now in
    let front = c.requires.front in
    let old = c.args.self.now in
    let name = c.args.enter.now.name in
    let outer = map open_view (reverse old.outer.items) in
    let stands = stands_as old.inner.around name c.void_of-void.result c.void_of-void.ensures (sym c.stands_as.ensures ∙ c.if-not-stands_as.false) in
    λ _. passes_between (g.T.Tables.reference_of c.args.tables.now) bytes old.leaf (open_view old.inner) outer old.spot
    c.spot_of-start.result c.spot_of-end.result c.args.enter.now c.args.exit.now c.requires.leaf c.spot_of-start.ensures c.spot_of-end.ensures c.requires.pair
    (void_is name (ap is_not (sym c.void_of-void.ensures) ∙ (sym c.is_not.ensures ∙ c.if-is_not.false)))
    (not_taken old.inner.rest.now name (held_takes_none old.leaf (open_view old.inner) outer old.spot c.requires.spaces) stands.1) stands.0
    (c.is_next.ensures.place bytes front c.requires.stands.there c.if-not-is_next.false) (c.is_place.ensures.place bytes front c.if-not-is_place.false)
    (sym c.is_fact_between.ensures ∙ c.if-not-is_fact_between.false)

pub returns-else-not-is_fact_between-2-clause-passed : goal.returns-else-not-is_fact_between-2-clause-passed
returns-else-not-is_fact_between-2-clause-passed g c =
    let bytes = c.args.bytes.now in
    let front = c.requires.front in
    let old = c.args.self.now in
    let name = c.args.enter.now.name in
    λ _. passes_taken (g.T.Tables.reference_of c.args.tables.now) bytes old.leaf (open_view old.inner) (open_view c.take_alone.new.self)
    (map open_view (reverse old.outer.items)) old.spot c.spot_of-start.result c.spot_of-end.result c.args.enter.now c.args.exit.now (taken_view c.in-Some.taken)
    c.requires.leaf c.spot_of-start.ensures c.spot_of-end.ensures c.requires.pair
    (void_is name (ap is_not (sym c.void_of-void.ensures) ∙ (sym c.is_not.ensures ∙ c.if-is_not.false)))
    (sym c.take_child.ensures ∙ ap (option_map taken_view) c.in-Some.is) c.take_alone.ensures
    (c.is_next.ensures.place bytes front c.requires.stands.there c.if-not-is_next.false) (c.is_place.ensures.place bytes front c.if-not-is_place.false)
    (sym c.is_fact_between-in-Some.ensures ∙ c.if-not-is_fact_between-2.false)

pub returns-then-is_between-clause-void : goal.returns-then-is_between-clause-void
returns-then-is_between-clause-void g c =
    λ _. void_is c.args.enter.now.name (ap is_not (sym c.void_of-void.ensures) ∙ (sym c.is_not.ensures ∙ c.if-is_not.false))

pub returns-else-not-is_fact_between-2-clause-void : goal.returns-else-not-is_fact_between-2-clause-void
returns-else-not-is_fact_between-2-clause-void g c =
    λ _. void_is c.args.enter.now.name (ap is_not (sym c.void_of-void.ensures) ∙ (sym c.is_not.ensures ∙ c.if-is_not.false))
