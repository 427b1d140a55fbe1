use Rattle.std.proofs.Common.{◌∙◌, List, ap, string_bytes, subst, sym}
use Rattle.markdown_links.specs.Definition.{definitions_from}
use Rattle.markdown_links.specs.Listed.{HasParts, joined, targets_of}
use Rattle.markdown_links.specs.declared.link.Range.{Range}
use Rattle.markdown_links.specs.declared.span.Span.{Span}
use Rattle.markdown_links.proofs.ListedLinks.{links_are}
use Rattle.markdown_links.proofs.list.links.Goals as goal

pub returns : goal.returns
returns g c =
    let names = g.T.Tables.reference_of c.args.tables.now in
    let bytes = c.args.bytes.now in
    let events = c.args.events.now in
    let out = string_bytes c.push_targets.new.out in
    let one = c.deref.result.now in
    let two = c.deref-2.result.now in
    let found = c.in_ok-spans.ensures in
    let targets = targets_of names bytes events two in
    let parts : HasParts out c.deref-3.result.now targets =
    subst (λ (it : List Range). HasParts out it targets) (sym c.deref-3.ensures.value) c.in_ok-ranges.ensures in
    record {
      listed =
          links_are names bytes events out c.in_ok-links.links.items one two c.deref-4.result.now (c.deref.ensures.value ∙ found)
          (c.deref-2.ensures.value ∙ found) (c.deref-4.ensures.value ∙ found)
          (c.in_ok-links.ensures out targets (definitions_from bytes events 0 one) parts c.in_ok-definitions.ensures);
      whole = parts.whole ∙ ap (λ (it : List Span). joined (targets_of names bytes events it)) (c.deref-2.ensures.value ∙ found);
    }
