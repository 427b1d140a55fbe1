use Rattle.std.proofs.Common.{sym, ap, ◌∙◌, subst, take, drop, length, ◌-◌}
use Rattle.block_leaves.proofs.Prelude.{AreLines, content_text, DefinitionCut, is_some_line, spine, Text}
use Rattle.block_leaves.proofs.DefinitionLemmas.{more_left}
use Rattle.block_leaves.proofs.Changes as changes
use Rattle.block_leaves.proofs.leaves.Leaves.leaves_text.Goals as goal

pub returns-then-not-may_define-clause-left : goal.returns-then-not-may_define-clause-left
returns-then-not-may_define-clause-left g c = λ containers around kids ls clean h.
    c.has_text.ensures containers (spine around kids (Text ls)) h ∙ ap (λ (x : DefinitionCut). is_some_line x.left)
    (sym (c.may_define.ensures.uncut c.if-not-may_define.true containers around kids ls clean h))

pub returns-clause-left : goal.returns-clause-left
returns-clause-left g c = λ containers around kids ls clean h.
    let p = c.args.self.now in
    let on = c.args.on.now in
    let same = changes.lines_here p containers around kids (Text ls) h c.deref.result.now c.deref.ensures.value in
    let here = changes.lines_here p containers around kids (Text ls) h c.deref-2.result.now c.deref-2.ensures.value in
    let content = c.as_bytes.ensures.value ∙ c.in_ok-join_lines.ensures ∙ ap content_text (sym same ∙ here) in
    c.has_more.ensures (subst AreLines here clean) content
    ∙ more_left on ls (take (length c.deref-2.result.now - p.lines_in_rows) (drop p.lines_in_rows c.deref-2.result.now))
    (c.may_define.ensures.on c.if-not-may_define.false) here
