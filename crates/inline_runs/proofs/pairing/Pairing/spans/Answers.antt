use Rattle.std.proofs.Common.{◌<◌, sym, ap, ◌∙◌, subst, length}
use Rattle.inline_runs.proofs.Prelude.{IsEnds, IsLaid}
use Rattle.inline_runs.proofs.Views.{closed_is, opened_is, rows_are}
use Rattle.inline_runs.proofs.pairing.Pairing.spans.Goals as goal

pub returns-clause-closed : goal.returns-clause-closed
returns-clause-closed g c = λ runs paired.
    let s = c.args.self.now in
    let ps = s.pairs.pairs.items in
    let e = c.index-ends.result.now in
    let run : c.args.place < length s.pairs.ends.items = subst (λ n. c.args.place < n) (sym c.requires.complete.runs) c.requires.place in
    let ends : IsEnds ps c.args.place e = subst (IsEnds ps c.args.place) (sym c.index-ends.ensures) (c.requires.complete.threads.ends c.args.place e run) in
    closed_is runs ps c.deref.result.now c.args.place e ends c.deref.ensures.value paired.pairs

pub returns-clause-opened : goal.returns-clause-opened
returns-clause-opened g c = λ runs paired.
    let s = c.args.self.now in
    let ps = s.pairs.pairs.items in
    let l = c.index-laid.result.now in
    let laid : IsLaid ps c.args.place s.opened.opened.items l =
    subst (IsLaid ps c.args.place s.opened.opened.items) (sym c.index-laid.ensures) (c.requires.complete.laid c.args.place l c.requires.place) in
    opened_is runs ps s.opened.opened.items c.deref-2.result.now c.args.place l laid c.deref-2.ensures.value paired.pairs

pub returns-clause-rows : goal.returns-clause-rows
returns-clause-rows g c = λ runs paired d.
    let s = c.args.self.now in
    let ps = s.pairs.pairs.items in
    let l = c.index-laid.result.now in
    let text = ap (λ x. x.text) c.index-laid.ensures ∙ paired.texts c.args.place l c.requires.place in
    rows_are runs ps _ _ c.args.place l.text d paired.pairs (subst (λ n. c.args.place < n) paired.count c.requires.place)
    (returns-clause-closed g c runs paired) (returns-clause-opened g c runs paired) text
