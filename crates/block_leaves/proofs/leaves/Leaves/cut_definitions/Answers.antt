use Rattle.std.proofs.Common.{◌≡◌, ◌+◌, ℕ, List, None, refl, sym, ap, ◌∙◌, subst, take, drop, length, string_bytes, arith}
use Rattle.block_leaves.proofs.Prelude.{AreLines, AreRead, BlockLine, Blocks, content_of, content_text, Definition, definition_at, DefinitionCut, drop-drop}
use Rattle.block_leaves.proofs.Prelude.{join, join-nil, Leaf, length-drop, own_lines, spine, Text}
use Rattle.std.proofs.lemmas.List.{take_rest}
use Rattle.block_leaves.proofs.DefinitionLemmas.{Cutting, none_yet, ends_as, row_of_definition, one_more, all_cut}
use Rattle.block_leaves.proofs.Changes as changes
use Rattle.block_leaves.proofs.leaves.Leaves.cut_definitions.Goals as goal

pub returns-then-not-may_define : goal.returns-then-not-may_define
returns-then-not-may_define g c = λ ls clean containers around kids h.
    let p = c.args.self.now in
    subst (λ (x : DefinitionCut). AreRead p containers (spine around (join kids x.definitions) (Text x.left)))
    (sym (c.may_define.ensures.uncut c.if-not-may_define.true containers around kids ls clean h))
    (subst (λ (bs : Blocks). AreRead p containers (spine around bs (Text ls))) (sym (join-nil kids)) h)

pub loop-end-init : goal.loop-end-init
loop-end-init g c = record {
  within = omega arith;
  cuts = λ containers around kids ls clean h.
      let here = changes.lines_here c.args.self.now containers around kids (Text ls) h c.deref.result.now c.deref.ensures.value in
      none_yet _ _ containers around kids ls h clean (c.in_ok-join_lines.ensures ∙ ap content_text (sym here));
}

pub loop-end-preserved : goal.loop-end-preserved
loop-end-preserved g c =
    let before = c.loop-end.self in
    let all = string_bytes before.content in
    let at = c.loop-end.at in
    let end = c.in-Some.end in
    let content = drop at all in
    let bytes = take_rest c.as_bytes.result.now at ∙ ap (drop at) c.as_bytes.ensures.value in
    let same_content = ap string_bytes c.in_ok-take_lines.ensures.content in
    record {
      within = omega (arith, c.loop-end.invariant.within, c.in-Some.ensures.bytes, ap length bytes, length-drop at all, ap length same_content);
      cuts = λ containers around kids ls clean h.
          let k = c.loop-end.invariant.cuts containers around kids ls clean h in
          let here = changes.lines_here before containers around (join kids k.definitions)
          (Text k.left) k.reads c.deref-in-loop-end.result.now c.deref-in-loop-end.ensures.value in
          let found = c.in-Some.ensures.found (subst AreLines here k.clean) (bytes ∙ k.rest ∙ ap content_text here) in
          let ends = ends_as _ content _ k.left end bytes here found in
          let leaf = Definition (own_lines (take end.lines k.left)) ends.read.label ends.read.destination ends.read.title in
          let reads = c.in_ok-take_lines.ensures.read k.left (Leaf leaf)
          (row_of_definition content k.left end k.clean ends) refl containers around (join kids k.definitions) k.reads in
          subst (λ (x : List ℕ). Cutting c.take_lines.new.self x containers around kids ls) (drop-drop end.bytes at all ∙ ap (drop (at + end.bytes)) (sym same_content))
          (one_more before c.take_lines.new.self content containers around kids ls k end ends reads);
    }

pub returns : goal.returns
returns g c = λ ls clean containers around kids h.
    let last = c.loop-end.self in
    let at = c.loop-end.at in
    let k = c.loop-end.invariant.cuts containers around kids ls clean h in
    let bytes = take_rest c.as_bytes.result.now at ∙ ap (drop at) c.as_bytes.ensures.value in
    let here = changes.lines_here last containers around (join kids k.definitions) (Text k.left) k.reads c.deref-in-loop-end.result.now c.deref-in-loop-end.ensures.value in
    let none = c.in_default.ensures.found (subst AreLines here k.clean) (bytes ∙ k.rest ∙ ap content_text here) in
    let nothing : definition_at (content_of (own_lines k.left)) ≡ None = ap (λ (x : List BlockLine). definition_at (content_of (own_lines x))) here ∙ none in
    all_cut c.args.on.now last (drop at (string_bytes last.content)) containers around kids ls k (c.may_define.ensures.on c.if-not-may_define.false) nothing
