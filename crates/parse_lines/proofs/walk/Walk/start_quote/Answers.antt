use Rattle.std.proofs.Common.{◌≡◌, true, Some, ap, ◌∙◌, sym, subst, arith, length}
use Rattle.parse_lines.proofs.Prelude.{CodeContainer, container_start, container_view, container_views, is_quote, length-map, Quote, rest_of, standing}
use Rattle.parse_lines.proofs.Prelude.{Standing, started_if, StartsOf, with_container}
use Rattle.engine_events.specs.declared.event.Name.TheVariants.{BlockQuote}
use Rattle.parse_lines.proofs.Containers.{quotes_last}
use Rattle.parse_lines.proofs.Starts.{container_written}
use Rattle.parse_lines.proofs.Steps.{container_starts}
use Rattle.parse_lines.proofs.walk.Walk.start_quote.Goals as goal

pub returns-clause-starts : goal.returns-clause-starts
returns-clause-starts g c =
    let old = c.args.self.now in
    let s = c.in-Some-Quote-default in
    let n = c.saturating_add-self.result in
    let found = sym c.starts.ensures ∙ ap started_if s.is
    ∙ ap (λ (x : CodeContainer). Some (container_start (container_view x) (rest_of s.line.rest) s.line.before)) s.field-0-0-is in
    let entered = c.in_ok-enter.ensures.stays ∙ c.in_ok-_bare.ensures.stays in
    let quotes = λ (x : Standing). record x { quotes_end = n } in
    let same = c.in_ok-quote_prefix.ensures.stays ∙ ap quotes entered in
    let new = c.in_ok-start.ensures.stays ∙ ap (λ (x : Standing). with_container x Quote (rest_of s.line.rest)) same in
    let open_same : length (container_views c.enter.new.self.open.items) ≡ length (container_views old.open.items) =
    ap (λ (x : Standing). length x.outermost) entered in
    let size = length-map c.enter.new.self.open.items container_view in
    subst (λ (x : Standing). StartsOf is_quote (standing old) true x) (sym new) (
    container_starts is_quote (standing old) Quote (rest_of s.line.rest) s.line.before n found
    (λ before. quotes_last n (container_views old.open.items) Quote (omega arith))
    )

pub returns-clause-written : goal.returns-clause-written
returns-clause-written g c =
    let old = c.args.self.now in
    let s = c.in-Some-Quote-default in
    let white = c.in_ok-_bare.ensures in
    let enter = c.in_ok-enter.ensures in
    let prefix = c.in_ok-quote_prefix.ensures in
    let start = c.in_ok-start.ensures in
    let rest = rest_of s.line.rest in
    let found = sym c.starts.ensures ∙ ap started_if s.is
    ∙ ap (λ (x : CodeContainer). Some (container_start (container_view x) rest s.line.before)) s.field-0-0-is in
    container_written BlockQuote Quote s.line.before rest old c.white.new.self c.enter.new.self c.quote_prefix.new.self c.start.new.self is_quote found
    white.written white.end white.stays enter.enters enter.end enter.stays
    prefix.marked
    (ap (λ (x : Standing). x.line_end) prefix.stays) start.out (ap (λ (x : Standing). x.line_end) start.stays) (ap (λ (x : Standing). x.rest) start.stays)
