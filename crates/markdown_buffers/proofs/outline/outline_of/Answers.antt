use Rattle.std.proofs.Common.{ℕ, List, string_bytes, subst, sym}
use Rattle.engine_events.specs.declared.event.Event.{Event}
use Rattle.event_check.specs.Matches.{MatchesGrammar}
use Rattle.markdown_tables.specs.Builtin.{builtin_tables}
use Rattle.markdown_outline.specs.Listed.{HasHeadings, outline_of}
use Rattle.markdown_buffers.proofs.ListedOutline.{from_ok}
use Rattle.markdown_buffers.proofs.outline.outline_of.Goals as goal

pub returns : goal.returns
returns g c =
    let events = c.in_ok-events.events.items in
    let names = builtin_tables.names in
    let bytes = c.as_bytes.result.now in
    let grammar : MatchesGrammar names bytes c.deref.result.now =
    subst (λ (it : List Event). MatchesGrammar names bytes it) (sym c.deref.ensures.value)
    (subst (λ (it : List ℕ). MatchesGrammar names it events) (sym c.as_bytes.ensures.value) c.in_ok-events.ensures.grammar) in
    from_ok c.outline.result _ _ (λ found listed. record {
      events = events;
      are = c.in_ok-events.ensures;
      listed =
          subst (λ (it : List ℕ). HasHeadings (string_bytes found.texts) found.headings.items (outline_of names it events)) c.as_bytes.ensures.value
          (subst (λ (it : List Event). HasHeadings (string_bytes found.texts) found.headings.items (outline_of names bytes it)) c.deref.ensures.value listed);
    }) (c.outline.ensures.listed grammar)
