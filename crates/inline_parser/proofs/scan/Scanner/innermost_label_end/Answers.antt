use Rattle.std.proofs.Common.{◌≡◌, ◌-◌, ap, ap₂, subst, sym, ◌∙◌, length, drop, List, Option, None, Some}
use Rattle.std.specs.Prelude.{IfOk}
use Rattle.std.specs.List.{slice_get}
use Rattle.inline_parser.proofs.Prelude.{content_codes, context_by, ended_here, formed_at, IsFormed, labels_of, LinkOrCall, OpenLabel, start_view}
use Rattle.definition_text.specs.Content.{text_before}
use Rattle.inline_reading.proofs.Ended as ended
use Rattle.inline_parser.proofs.scan.Scanner.innermost_label_end.Goals as goal

last_of : (xs ys : List OpenLabel) (o : Option OpenLabel) → xs ≡ ys → o ≡ slice_get xs (length xs - 1) → o ≡ slice_get ys (length ys - 1)
last_of xs ys o e is = is ∙ ap (λ zs. slice_get zs (length zs - 1)) e

pub returns-then-not-may_form-clause-read : goal.returns-then-not-may_form-clause-read
returns-then-not-may_form-clause-read g c leads at r names ds has h =
    let s = c.args.self.now.reading in
    let options = c.args.source.now.options.now in
    let o = c.in-Some.label.now in
    let last = sym (last_of c.deref.result.now s.labels.items (Some o) c.deref.ensures.value c.in-Some.ensures.value) in
    let none : ended_here (context_by options names ds) (content_codes c.args.self.now.rest.now) r.open_labels r.now ≡ None =
    ended.last_may_not leads at (context_by options names ds) (content_codes c.args.self.now.rest.now) s.rows.items s.runs.items s.slots.items s.labels.items _
    o r.open_labels r.now s.holds_link
    (ended.innermost s.labels.items o last) h.holds_link (sym c.may_form.ensures ∙ c.if-not-may_form.true) h.by in
    subst (λ (e : Option LinkOrCall). IsFormed (labels_of ds.definitions) c.args.after.now None e) (sym none) tt

pub returns-else-not-may_form-clause-read : goal.returns-else-not-may_form-clause-read
returns-else-not-may_form-clause-read g c leads at r names ds has h =
    let s = c.args.self.now.reading in
    let options = c.args.source.now.options.now in
    let rest = c.args.self.now.rest.now in
    let after = c.args.after.now in
    let o = c.in-Some.label.now in
    let last = sym (last_of c.deref.result.now s.labels.items (Some o) c.deref.ensures.value c.in-Some.ensures.value) in
    let text : text_before (content_codes o.from.now) (content_codes rest) ≡ content_codes c.text_before-text.result.now =
    ended.before_bracket o.from.now rest after (ended.innermost_rest rest s.labels.items o last c.requires.placed) c.requires.bracket
    ∙ ap content_codes (sym c.text_before-text.ensures) in
    let behind : drop 1 (content_codes rest) ≡ content_codes after = ap (λ xs. drop 1 (content_codes xs)) c.requires.bracket in
    let found : ended_here (context_by options names ds) (content_codes rest) r.open_labels r.now
    ≡ formed_at (context_by options names ds) (start_view o.start) (content_codes c.text_before-text.result.now) (content_codes after) =
    ended.last_may leads at (context_by options names ds) (content_codes rest) s.rows.items s.runs.items s.slots.items s.labels.items _ o r.open_labels r.now
    s.holds_link
    (ended.innermost s.labels.items o last) h.holds_link (sym c.may_form.ensures ∙ c.if-not-may_form.false) h.by
    ∙ ap₂ (λ a b. formed_at (context_by options names ds) (start_view o.start) a b) text behind in
    subst (λ (e : Option LinkOrCall). IfOk c.formed_at.result (λ found. IsFormed (labels_of ds.definitions) after found e)) (sym found)
    (c.formed_at.ensures.read names ds has)

pub returns-in-None-clause-read : goal.returns-in-None-clause-read
returns-in-None-clause-read g c leads at r names ds has h =
    let s = c.args.self.now.reading in
    let options = c.args.source.now.options.now in
    let content = content_codes c.args.self.now.rest.now in
    let nothing = ended.none_last s.labels.items (last_of c.deref.result.now s.labels.items None c.deref.ensures.value c.in-None.ensures.value) in
    let none : ended_here (context_by options names ds) content r.open_labels r.now ≡ None =
    ended.none_ends leads at (context_by options names ds) content s.rows.items s.runs.items s.slots.items s.labels.items r.open_labels r.now nothing h.by in
    subst (λ (e : Option LinkOrCall). IsFormed (labels_of ds.definitions) c.args.after.now None e) (sym none) tt
