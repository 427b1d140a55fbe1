use Rattle.std.proofs.Common.{◌≡◌, ◌∙◌, ◌≤◌, refl, sym, subst, true, false, inl, inr, length, arith}
use Rattle.markdown_engine.proofs.Prelude.{is_before, place_in, Point, Reaches, reaches_on, remaining, stays, Walks}
use Rattle.markdown_engine.proofs.Starts.{start_less, start_reaches}
use Rattle.markdown_engine.proofs.tokenizer.Tokenizer.move_to.Goals as goal

pub returns-else-is_before : goal.returns-else-is_before
returns-else-is_before g c =
    record {
      point = c.args.self.now.point;
      begins = inl (subst (λ (z : Point). is_before c.args.from z ≡ false) c.place-place.ensures (sym c.is_before.ensures ∙ c.if-is_before.false), refl);
      forward = omega arith;
      order = stays c.args.self.now.point;
      config = refl;
      attempts = refl;
      same = record { parse_state = refl; skips = refl };
    }

pub returns-then-is_before : goal.returns-then-is_before
returns-then-is_before g c =
    let old = c.args.self.now in
    let less = start_less (length old.parse_state.now.bytes.now) old.skips.entries old.point in
    let first : remaining (length old.parse_state.now.bytes.now) c.place_over-self.result ≤ remaining (length old.parse_state.now.bytes.now)
    (place_in old.skips.entries old.point) =
    subst (λ (z : Point). remaining (length old.parse_state.now.bytes.now) c.place_over-self.result ≤ remaining (length old.parse_state.now.bytes.now) z)
    c.place-place.ensures c.place_over-self.ensures.forward in
    record {
      point = c.place_over-self.result;
      begins = inr (
        subst (λ (z : Point). is_before c.args.from z ≡ true) c.place-place.ensures (sym c.is_before.ensures ∙ c.if-is_before.true),
        subst (λ (z : Point). Walks old.parse_state.now.bytes.now c.args.from z c.place_over-self.result) c.place-place.ensures c.place_over-self.ensures.walks,
      );
      forward = omega (arith, less, first);
      order = reaches_on old.point (place_in old.skips.entries old.point) c.place_over-self.result (start_reaches old.skips.entries old.point)
          (subst (λ (z : Point). Reaches z c.place_over-self.result) c.place-place.ensures c.place_over-self.ensures.order);
      config = refl;
      attempts = refl;
      same = record { parse_state = refl; skips = refl };
    }
