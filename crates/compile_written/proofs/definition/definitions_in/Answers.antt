use Rattle.std.proofs.Common.{◌∙◌, ◌+◌, ◌++◌, ◌∷◌, [], sym, subst, List}
use Rattle.compile_written.proofs.Prelude.{definition_after, Event, HasDefinitions, take_rest}
use Rattle.compile_written.proofs.DefinitionLoops.{front_same, front_more, none_defined}
use Rattle.compile_written.proofs.definition.definitions_in.Goals as goal
use Rattle.compile_written.proofs.definition.definitions_in.Goals.{then-starts_definition+in_ok-read, else-starts_definition}

pub loop-index-preserved : goal.loop-index-preserved
loop-index-preserved g c =
    let names = g.T.Tables.reference_of c.args.tables.now in
    let bytes = c.args.bytes.now in
    let events = c.args.events.now in
    let i = c.loop-index.index in
    let before = c.loop-index.invariant in
    elim c.if-starts_definition.branch [
      | then-starts_definition+in_ok-read w ↦ rw w.found-is
          (front_more names bytes events i w.read.new.self before.0 c.loop-index-test.true (sym c.starts_definition.ensures ∙ w.if-starts_definition.true)
          (subst (λ (z : List Event). HasDefinitions w.read.new.self (before.0 ++ definition_after names bytes z ∷ [])) (take_rest events (i + 1))
          (w.in_ok-read.ensures before.0 before.1))
          before.2)
      | else-starts_definition w ↦ rw w.found-is
          (front_same names bytes events i c.loop-index.found c.loop-index-test.true (sym c.starts_definition.ensures ∙ w.if-starts_definition.false) before)
    ]

pub returns-then-not-has_definition : goal.returns-then-not-has_definition
returns-then-not-has_definition g c =
    subst (HasDefinitions c.in_ok-found.found)
    (sym (none_defined (g.T.Tables.reference_of c.args.tables.now) c.args.bytes.now c.args.events.now
    (sym c.has_definition.ensures ∙ c.if-not-has_definition.true)))
    c.in_ok-found.ensures
