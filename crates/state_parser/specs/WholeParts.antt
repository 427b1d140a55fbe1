-- What is promised of the events of a text: those of which the tests hold are balanced, in order, and end with the text.
use Rattle.std.proofs.Common.{◌≡◌, ℕ, true, List, length}
use Rattle.engine_events.specs.declared.event.Event.{Event}
use Rattle.engine_events.specs.declared.place.Point.{Point}
use Rattle.markdown_engine.specs.Chains.{ArePlaces}
use Rattle.markdown_engine.specs.Order.{AreInOrder, IsBalanced}
use Rattle.state_resolvers.specs.Whole.{is_whole}
use Rattle.state_resolvers.specs.WholeLaws.{whole}
use Rattle.state_parser.specs.Events.{end_of}

-- each event is at a place of the text, and the last at its end
pub record ArePlaced (bytes : List ℕ) (events : List Event) : Type 0 where
  pub places : ArePlaces bytes events
  pub end : (end_of events).index ≡ length bytes

pub whole_balanced : (es : List Event) (to : Point) → is_whole es to ≡ true → IsBalanced es
whole_balanced es to h = (whole es to h).0

pub whole_in_order : (es : List Event) (to : Point) → is_whole es to ≡ true → AreInOrder es
whole_in_order es to h = (to, (whole es to h).1)
