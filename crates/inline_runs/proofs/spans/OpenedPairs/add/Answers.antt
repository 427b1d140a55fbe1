use Rattle.std.proofs.Common.{◌≡◌, ◌++◌, ◌∷◌, [], sym, ap, ◌∙◌, subst, get_or, length, reverse, refl}
use Rattle.inline_runs.proofs.Prelude.{AreLaid, AreTexts, IsEnds, IsLast, opened_by, text_at}
use Rattle.inline_runs.proofs.Texts.{text_is, text_pushed, laid_pushed}
use Rattle.inline_runs.proofs.spans.OpenedPairs.add.Given.{Over}
use Rattle.inline_runs.proofs.spans.OpenedPairs.add.Goals as goal

-- the ends of the run
ends_of : (g : Over) (c : goal.In_ok-push g) → IsEnds c.args.pairs.now.pairs.items (length c.args.self.now.laid.items) c.index-ends.result.now
ends_of g c =
    let place = length c.args.self.now.laid.items in
    let e = c.index-ends.result.now in
    let at : c.len.result ≡ place = c.len.ensures ∙ c.args.self.now.laid.ok.0 in
    subst (IsEnds c.args.pairs.now.pairs.items place) (sym (c.index-ends.ensures ∙ ap (λ k. get_or c.args.pairs.now.ends.items k e) at))
    (c.requires.threads.ends place e c.requires.run)

-- what is opened then
opened_then : (g : Over) (c : goal.In_ok-push g) → c.open_pairs.new.self.opened.items
    ≡ c.args.self.now.opened.items ++ reverse (opened_by (length c.args.self.now.laid.items) c.args.pairs.now.pairs.items)
opened_then g c =
    let place = length c.args.self.now.laid.items in
    let ends = ends_of g c in
    let last : IsLast place c.deref.result.now c.index-ends.result.now.last_opened =
    subst (λ qs. IsLast place qs c.index-ends.result.now.last_opened) (sym c.deref.ensures.value) ends.opened in
    c.in_ok-open_pairs.ensures.opened place last ∙ ap (λ qs. c.args.self.now.opened.items ++ reverse (opened_by place qs)) c.deref.ensures.value

-- what is laid out then
laid_then : (g : Over) (c : goal.In_ok-push g) → c.push.new.self.items
    ≡ c.args.self.now.laid.items ++ record { text = c.left_after-text.result; start = c.len-start.result; end = c.len-end.result } ∷ []
laid_then g c = c.in_ok-push.ensures.items ∙ ap (λ v. v.items ++ record {
  text = c.left_after-text.result;
  start = c.len-start.result;
  end = c.len-end.result;
} ∷ []) c.in_ok-open_pairs.ensures.laid

pub returns-clause-laid : goal.returns-clause-laid
returns-clause-laid g c = λ laid.
    let s = c.args.self.now in
    let ps = c.args.pairs.now.pairs.items in
    let more = reverse (opened_by (length s.laid.items) ps) in
    let end : c.len-end.result ≡ length (s.opened.items ++ more) = c.len-end.ensures ∙ c.open_pairs.new.self.opened.ok.0 ∙ ap length (opened_then g c) in
    subst (λ now. AreLaid ps now c.push.new.self.items) (sym (opened_then g c))
    (subst (AreLaid ps (s.opened.items ++ more)) (sym (laid_then g c))
    (laid_pushed ps s.opened.items more s.laid.items _ laid refl (c.len-start.ensures ∙ s.opened.ok.0) end))

pub returns-clause-texts : goal.returns-clause-texts
returns-clause-texts g c = λ sizes is texts.
    let s = c.args.self.now in
    let ps = c.args.pairs.now.pairs.items in
    let place = length s.laid.items in
    let text : c.left_after-text.result ≡ text_at ps place c.args.size =
    text_is ps s.opened.items c.deref-2.result.now c.deref-3.result.now place c.args.size c.len-start.result c.left_after.result c.left_after-text.result _
    (ends_of g c) c.deref-2.ensures.value (c.deref-3.ensures.value ∙ opened_then g c)
    (c.len-start.ensures ∙ s.opened.ok.0) c.left_after.ensures c.left_after-text.ensures in
    subst (AreTexts ps sizes) (sym (laid_then g c)) (text_pushed ps sizes s.laid.items _ (text ∙ ap (text_at ps place) is) texts)
