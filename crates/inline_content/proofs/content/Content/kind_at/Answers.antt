use Rattle.std.proofs.Common.{rules, of_calls, nat_lt, arith}
use Rattle.std.proofs.lemmas.Fn.{always_returns_same}
use Rattle.markdown_options.specs.declared.beside.Kind.TheVariants.{Whitespace}
use Rattle.inline_content.proofs.Prelude.{Mark}
use Rattle.inline_content.proofs.Marked.{parted, kind_found, kind_missing}
use Rattle.inline_content.proofs.content.Content.kind_at.Goals.{else-found-self-via-then-found-self+else-self-found, else-found-self-via-else-found-self}
use Rattle.inline_content.proofs.content.Content.kind_at.Goals as goal

abbrev none : Mark
none = record { place = 0; kind = Whitespace }

pub returns-then-self-found : goal.returns-then-self-found
returns-then-self-found c =
    let marks = c.args.self.marks.now in
    let place = c.args.place in
    let n = c.partition_point-found.result in
    let point = c.partition_point-found.ensures.partitioned (λ m. nat_lt m.place place) (always_returns_same _ _ _ (λ a r f k. search (rules, of_calls)))
    (parted marks place c.args.self.ordered) in
    kind_found marks place n none (λ k lt. point.0 k none (omega arith) lt) c.if-found-self.true c.if-self-found.true

pub returns : goal.returns
returns c =
    let marks = c.args.self.marks.now in
    let place = c.args.place in
    let n = c.partition_point-found.result in
    let point = c.partition_point-found.ensures.partitioned (λ m. nat_lt m.place place) (always_returns_same _ _ _ (λ a r f k. search (rules, of_calls)))
    (parted marks place c.args.self.ordered) in
    kind_missing marks place n none c.args.self.ordered point
    (λ lt is.
    elim c.else-found-self.branch [
      | else-found-self-via-then-found-self+else-self-found w ↦ w.if-self-found.false is
      | else-found-self-via-else-found-self w ↦ omega (arith, w.if-found-self.false, lt)
    ])
