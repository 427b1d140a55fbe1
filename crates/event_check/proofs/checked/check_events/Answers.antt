use Rattle.std.proofs.Common.{◌∙◌, sym}
use Rattle.event_check.proofs.Prelude.{event_fault, MatchesGrammar}
use Rattle.event_faults.specs.declared.fault.FaultKind.TheVariants as kinds
use Rattle.event_check.proofs.Joined.{first_is, reference_is, holds, not_both}
use Rattle.event_check.proofs.Matching.{in_matches, matches_in}
use Rattle.event_check.proofs.checked.check_events.Goals as goal

pub returns-in-Some-clause-passes : goal.returns-in-Some-clause-passes
returns-in-Some-clause-passes g c =
    let names = g.T.Tables.reference_of c.args.tables.now in
    let bytes = c.args.bytes.now in
    λ (h : MatchesGrammar names bytes c.args.events.now).
    not_both names bytes _ c.args.events.now c.in-Some.found (first_is names bytes c.args.events.now c.in-Some.found (sym c.in_ok-found.ensures.fault ∙ c.in-Some.is))
    (matches_in names bytes c.args.events.now h)

pub returns-in-Some-2-clause-passes : goal.returns-in-Some-2-clause-passes
returns-in-Some-2-clause-passes g c =
    let names = g.T.Tables.reference_of c.args.tables.now in
    let bytes = c.args.bytes.now in
    λ (h : MatchesGrammar names bytes c.args.events.now).
    not_both names bytes _ c.args.events.now (event_fault kinds.Reference c.in-Some-2.index)
    (reference_is names bytes c.args.events.now c.in-Some-2.index (sym c.in_ok-found.ensures.fault ∙ c.in_default.is) (sym c.in_ok-index.ensures ∙ c.in-Some-2.is))
    (matches_in names bytes c.args.events.now h)

pub returns-in-Some-2-clause-fault : goal.returns-in-Some-2-clause-fault
returns-in-Some-2-clause-fault g c =
    reference_is (g.T.Tables.reference_of c.args.tables.now) c.args.bytes.now c.args.events.now c.in-Some-2.index (sym c.in_ok-found.ensures.fault ∙ c.in_default.is)
    (sym c.in_ok-index.ensures ∙ c.in-Some-2.is)

pub returns-clause-right : goal.returns-clause-right
returns-clause-right g c =
    in_matches (g.T.Tables.reference_of c.args.tables.now) c.args.bytes.now c.args.events.now
    (holds (g.T.Tables.reference_of c.args.tables.now) c.args.bytes.now c.args.events.now (sym c.in_ok-found.ensures.fault ∙ c.in_default.is)
    (sym c.in_ok-index.ensures ∙ c.in_default-2.is))
