use Rattle.std.proofs.Common.{◌-◌, ◌<◌, length, ap, sym, ◌∙◌, arith}
use Rattle.block_parser.proofs.Prelude.{container_view, container_views, get_or-map, is_quote, Quote}
use Rattle.block_parser.proofs.Closing as closing
use Rattle.block_parser.proofs.Quotes as quotes
use Rattle.block_parser.proofs.parser.quotes_end.Goals as goal

pub loop-depth-init : goal.loop-depth-init
loop-depth-init c = record {
  within = omega arith;
  none = λ k from to. absurd (omega (arith, from, to, closing.views_length c.args.containers.now));
}

pub loop-depth-preserved : goal.loop-depth-preserved
loop-depth-preserved c =
    let cs = c.args.containers.now in
    let depth = c.loop-depth.depth in
    let k = c.loop-depth.invariant in
    let lt : depth - 1 < length cs = omega (arith, k.within, c.loop-depth-test.true) in
    record {
      within = omega (arith, k.within);
      none = quotes.no_quote_before (depth - 1) (container_views cs)
          (ap is_quote (get_or-map container_view cs (depth - 1) _ Quote lt) ∙ sym c.is_quote.ensures ∙ c.if-not-is_quote.true)
          (λ i from to. k.none i (omega (arith, from, c.loop-depth-test.true)) to);
    }
