use Rattle.std.proofs.Common.{true, Some, refl, ap, ◌∙◌, sym, subst}
use Rattle.parse_lines.proofs.Prelude.{CodeContainer, container_start, container_view, container_views, rest_of, standing, Standing, started_if, StartsOf}
use Rattle.parse_lines.proofs.Prelude.{with_container}
use Rattle.markdown_options.specs.declared.container.Container.TheVariants as code
use Rattle.engine_events.specs.declared.event.Name.TheVariants.{GfmFootnoteDefinition}
use Rattle.parse_lines.proofs.Starts.{container_written}
use Rattle.parse_lines.specs.Kinds.{is_footnote}
use Rattle.parse_lines.proofs.Containers.{quotes_other}
use Rattle.parse_lines.proofs.Steps.{container_starts}
use Rattle.parse_lines.proofs.walk.Walk.start_footnote.Goals as goal

pub returns-clause-starts : goal.returns-clause-starts
returns-clause-starts g c =
    let old = c.args.self.now in
    let s = c.in-Some-Footnote-default in
    let k = container_view (code.Footnote s.label) in
    let found = sym c.starts.ensures ∙ ap started_if s.is
    ∙ ap (λ (x : CodeContainer). Some (container_start (container_view x) (rest_of s.line.rest) s.line.before)) s.field-0-0-is in
    let same = c.in_ok-footnote_prefix.ensures.stays ∙ c.in_ok-enter.ensures.stays ∙ c.in_ok-_bare.ensures.stays in
    let new = c.in_ok-start.ensures.stays ∙ ap (λ (x : Standing). with_container x k (rest_of s.line.rest)) same in
    subst (λ (x : Standing). StartsOf is_footnote (standing old) true x) (sym new) (
    container_starts is_footnote (standing old) k (rest_of s.line.rest) s.line.before old.quotes_end found
    (quotes_other old.quotes_end (container_views old.open.items) k refl)
    )

pub returns-clause-written : goal.returns-clause-written
returns-clause-written g c =
    let old = c.args.self.now in
    let s = c.in-Some-Footnote-default in
    let white = c.in_ok-_bare.ensures in
    let enter = c.in_ok-enter.ensures in
    let prefix = c.in_ok-footnote_prefix.ensures in
    let start = c.in_ok-start.ensures in
    let rest = rest_of s.line.rest in
    let found = sym c.starts.ensures ∙ ap started_if s.is
    ∙ ap (λ (x : CodeContainer). Some (container_start (container_view x) rest s.line.before)) s.field-0-0-is in
    container_written GfmFootnoteDefinition (container_view (code.Footnote s.label)) s.line.before rest old c.white.new.self c.enter.new.self
    c.footnote_prefix.new.self c.start.new.self is_footnote found
    white.written white.end white.stays enter.enters enter.end enter.stays
    prefix.marked
    (ap (λ (x : Standing). x.line_end) prefix.stays) start.out (ap (λ (x : Standing). x.line_end) start.stays) (ap (λ (x : Standing). x.rest) start.stays)
