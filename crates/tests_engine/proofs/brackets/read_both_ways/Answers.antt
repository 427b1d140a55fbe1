use Rattle.std.proofs.Common.{◌≡◌, ◌∙◌, List, ℕ, ap, sym}
use Rattle.engine_events.specs.declared.event.Event.{Event}
use Rattle.markdown_engine.specs.Reading.{Config}
use Rattle.markdown_engine.specs.ReadingLaws.{one_outcome}
use Rattle.tests_engine.specs.declared.brackets.Brackets.{Brackets}
use Rattle.tests_engine.specs.Brackets.{IsBracketsReading}
use Rattle.tests_engine.proofs.brackets.read_both_ways.Goals as goal

same_events : (bytes : List ℕ) (machine : Brackets) (a b : List Event) → IsBracketsReading bytes machine a → IsBracketsReading bytes machine b → a ≡ b
same_events bytes machine a b h k = h.read ∙ (ap (λ (z : Config Brackets). z.events) (one_outcome h.runs k.runs).0 ∙ sym k.read)

pub returns-clause-same : goal.returns-clause-same
returns-clause-same g c = same_events c.args.parse_state.now.bytes.now c.args.machine c.in_ok-whole.whole.items c.in_ok-parts.parts.items
    c.in_ok-whole.ensures.reads c.in_ok-parts.ensures.reads
