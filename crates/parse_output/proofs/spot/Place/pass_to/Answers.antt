use Rattle.std.proofs.Common.{◌≡◌, arith, sym, ap, ◌∙◌}
use Rattle.parse_output.proofs.Prelude.{columns_before, end_at, end_columns, index_spot, spot_at}
use Rattle.parse_output.proofs.Ends.{place_index, place_reached, spot_reached}
use Rattle.parse_output.proofs.spot.Place.pass_to.Goals as goal

pub returns-then-vs-self-clause-end : goal.returns-then-vs-self-clause-end
returns-then-vs-self-clause-end c = λ from at follows.
    let text = c.args.text.now in
    let self = c.args.self in
    let to = end_at c.args.index c.args.owed in
    let here : to.index ≡ from.index =
    omega (arith, c.if-to-self.true, follows.forward, follows.within, place_index text from to self at follows) in
    let spot_is : self.spot ≡ index_spot text to.index = ap (λ p. p.spot) at ∙ ap (index_spot text) (sym here) in
    place_reached text from to self.spot c.columns_before-vs.result follows spot_is c.columns_before-vs.ensures.columns

pub returns-else-vs-self-clause-end : goal.returns-else-vs-self-clause-end
returns-else-vs-self-clause-end c = λ from at follows.
    let text = c.args.text.now in
    let self = c.args.self in
    let to = end_at c.args.index c.args.owed in
    let here : to.index ≡ from.index =
    omega (arith, c.if-to-self.true, follows.forward, follows.within, place_index text from to self at follows) in
    let spot_is : self.spot ≡ index_spot text to.index = ap (λ p. p.spot) at ∙ ap (index_spot text) (sym here) in
    let before : self.vs ≡ end_columns text from = ap (λ p. p.vs) at in
    let after : end_columns text to ≡ columns_before self.spot to.owed = ap (λ s. columns_before s to.owed) (sym spot_is) in
    place_reached text from to self.spot self.vs follows spot_is
    (λ owes. omega (arith, c.if-vs-self.false, c.columns_before-vs.ensures.columns owes, follows.columns here, before, after))

pub returns-clause-end : goal.returns-clause-end
returns-clause-end c = λ from at follows.
    let text = c.args.text.now in
    let self = c.args.self in
    let to = end_at c.args.index c.args.owed in
    let s = c.pass_to-spot.result in
    let here : s.index ≡ to.index =
    omega (arith, c.pass_to-spot.ensures.index, follows.forward, follows.within, place_index text from to self at follows) in
    let is : s ≡ spot_at text to.index self.spot =
    c.pass_to-spot.ensures.same ∙ ap (λ k. spot_at text k self.spot) (sym c.pass_to-spot.ensures.index ∙ here) in
    place_reached text from to s c.columns_before.result follows (spot_reached text from to self s at follows is) c.columns_before.ensures.columns
