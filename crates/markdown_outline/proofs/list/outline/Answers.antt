use Rattle.std.proofs.Common.{◌+◌, ◌∙◌, [], string_bytes, refl, sym, subst}
use Rattle.std.proofs.lemmas.List.{append-nil}
use Rattle.event_grammar.specs.Trees.{events_of}
use Rattle.compile_html.proofs.Checked.{checked_sound}
use Rattle.compile_strings.specs.Columns.{AreCounted}
use Rattle.markdown_outline.proofs.Begun.{AllBegin, all_begin}
use Rattle.markdown_outline.proofs.ListedHeadings.{HasFront, front_begun, front_more, front_same, no_front, rest_is}
use Rattle.markdown_outline.proofs.list.outline.Goals.{then-begins_heading+in_ok-heading+in_ok-push, else-begins_heading}
use Rattle.markdown_outline.proofs.list.outline.Goals as goal

pub loop-index-init : goal.loop-index-init
loop-index-init g c =
    let names = g.T.Tables.reference_of c.args.tables.now in
    let bytes = c.args.bytes.now in
    let events = c.args.events.now in (
      c.in_ok-reader.ensures.counted bytes,
      λ m.
          no_front names bytes events c.in_ok-reader.reader.slugs (string_bytes c.in_ok-reader.reader.texts) c.new-headings.result.items
          c.in_ok-reader.ensures.slugs c.in_ok-reader.ensures.texts c.new-headings.ensures.items
          (subst (AllBegin bytes) (append-nil (events_of m.nodes) ∙ sym m.nested) (all_begin bytes m.nodes [] (checked_sound names bytes events m) tt)),
    )

pub loop-index-preserved : goal.loop-index-preserved
loop-index-preserved g c =
    let names = g.T.Tables.reference_of c.args.tables.now in
    let bytes = c.args.bytes.now in
    let events = c.args.events.now in
    let i = c.loop-index.index in
    let before = c.loop-index-test.true in
    let old = c.loop-index.reader in
    let headings = c.loop-index.headings.items in
    let rest = rest_is events i in
    elim c.if-begins_heading.branch [
      | then-begins_heading+in_ok-heading+in_ok-push w ↦ (
        subst (λ reader. AreCounted bytes reader.columns) (sym w.reader-is) w.read.ensures.counted,
        λ m.
            let h = c.loop-index.invariant.1 m in
            let is = sym c.begins_heading.ensures ∙ w.if-begins_heading.true in
            let begun = front_begun names bytes events old.slugs (string_bytes old.texts) headings i _ before h _ rest is in
            let labels = c.in_ok-definitions.ensures in
            let more = front_more names bytes events old.slugs (string_bytes old.texts) headings i _ before h _ rest w.read.new.self.slugs
            (string_bytes w.read.new.self.texts) w.push.new.self.items _ is (w.in_ok-heading.ensures.slugs refl labels begun)
            (w.in_ok-heading.ensures.listed refl labels begun) w.in_ok-push.ensures.items in
            subst (λ reader. HasFront names bytes events reader.slugs (string_bytes reader.texts) c.if-begins_heading.headings.items (i + 1)) (sym w.reader-is)
            (subst (λ all. HasFront names bytes events w.read.new.self.slugs (string_bytes w.read.new.self.texts) all.items (i + 1)) (sym w.headings-is) more),
      )
      | else-begins_heading w ↦ (
        subst (λ reader. AreCounted bytes reader.columns) (sym w.reader-is) c.loop-index.invariant.0,
        λ m.
            let h = c.loop-index.invariant.1 m in
            let same = front_same names bytes events old.slugs (string_bytes old.texts) headings i _ before h
            (sym c.begins_heading.ensures ∙ w.if-begins_heading.false) in
            subst (λ reader. HasFront names bytes events reader.slugs (string_bytes reader.texts) c.if-begins_heading.headings.items (i + 1)) (sym w.reader-is)
            (subst (λ all. HasFront names bytes events old.slugs (string_bytes old.texts) all.items (i + 1)) (sym w.headings-is) same),
      )
    ]
