-- What was put together is merged.
use Rattle.std.proofs.Common.{◌≡◌, ◌∙◌, ℕ, Bool, List, length, sym, ap, subst}
use Rattle.engine_events.specs.declared.event.Event.{Event}
use Rattle.engine_events.specs.declared.place.Point.{Point}
use Rattle.markdown_engine.specs.Order.{AreInOrder, IsBalanced}
use Rattle.state_reader.specs.declared.span.Span.{Span}
use Rattle.state_parser.specs.LastLines.{AreLastLines, filled_lines, is_last_blank}
use Rattle.state_parser.specs.Merge.{IsMerged, put_together, steps}
use Rattle.state_parser.specs.MergedLaws.{steps_whole}

module _ (document flow : List Event) (spans : List Span) (end : Point) where
  pub is_merged : (lines last : List ℕ) (blank : Bool) (events : List Event) → lines ≡ filled_lines flow end → AreLastLines lines spans last
      → blank ≡ is_last_blank lines end → events ≡ put_together document flow spans last blank end → IsMerged document flow spans end events
  is_merged lines last blank events filled late is_blank same =
      let whole = steps_whole (steps document flow spans last (length document) 0 0 0) blank end in
      record {
        last = last;
        lines = subst (λ (ls : List ℕ). AreLastLines ls spans last) filled late;
        list = same ∙ ap (λ (b : Bool). put_together document flow spans last b end) (is_blank ∙ ap (λ (ls : List ℕ). is_last_blank ls end) filled);
        balanced = subst IsBalanced (sym same) whole.0;
        order = subst AreInOrder (sym same) whole.1;
      }
