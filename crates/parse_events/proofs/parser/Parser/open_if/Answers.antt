use Rattle.std.proofs.Common.{Bool, refl, sym, ap, ◌∙◌}
use Rattle.parse_events.proofs.Prelude.{more_if}
use Rattle.parse_events.proofs.parser.Parser.open_if.Goals as goal

pub returns-then-not-starts : goal.returns-then-not-starts
returns-then-not-starts g c = record {
  walk = refl;
  lists = ap (λ (b : Bool). more_if b c.args.opened c.args.self.now.open.items) (sym c.if-not-starts.true);
  items = refl;
  places = refl;
  first = refl;
}

pub returns : goal.returns
returns g c = record {
  walk = refl;
  lists = c.in_ok-push.ensures.items ∙ ap (λ (b : Bool). more_if b c.args.opened c.args.self.now.open.items) (sym c.if-not-starts.false);
  items = refl;
  places = refl;
  first = refl;
}
