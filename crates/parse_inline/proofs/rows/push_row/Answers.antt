use Rattle.std.proofs.Common.{length, OnOk, sym, ap, subst}
use Rattle.parse_inline.proofs.Prelude.{IsUtf8, on_ok_weaker, PassesRow}
use Rattle.parse_inline.proofs.Calls.{on_ok_both}
use Rattle.parse_inline.proofs.InRows.{call_passes, image_passes, leaf_passes, link_passes, span_passes, spelled_passes, text_passes}
use Rattle.parse_inline.proofs.rows.push_row.Goals as goal

pub returns-in-Text-clause-written : goal.returns-in-Text-clause-written
returns-in-Text-clause-written g c =
    let reading = c.args.reading.now in
    let names = g.T.Tables.reference_of reading.tables.now in
    let held = c.args.open.now.items in
    let old = c.args.walk.now in
    let new = c.data.new.self in
    subst (λ row. OnOk c.data.result (PassesRow reading.on.now names reading.content.now row held held old new)) (sym c.in-Text.is)
    (on_ok_both c.data.result
    (λ stays written. record {
      passes = λ s first rows by st.
          text_passes s first c.in-Text.text _ rows held old new (ap length c.as_bytes.ensures.value)
          (subst IsUtf8 c.as_bytes.ensures.value c.as_bytes.ensures.utf8) (stays, written) st;
    })
    c.data.ensures.stays c.data.ensures.written)

pub returns-in-Verbatim-clause-written : goal.returns-in-Verbatim-clause-written
returns-in-Verbatim-clause-written g c =
    let reading = c.args.reading.now in
    let names = g.T.Tables.reference_of reading.tables.now in
    let held = c.args.open.now.items in
    let old = c.args.walk.now in
    let new = c.push_verbatim.new.walk in
    subst (λ row. OnOk c.push_verbatim.result (PassesRow reading.on.now names reading.content.now row held held old new)) (sym c.in-Verbatim.is)
    (on_ok_weaker c.push_verbatim.result (λ does. record { passes = λ s first rows by st. does.passes s first rows held by st })
    c.push_verbatim.ensures.written)

pub returns-in-Leaf-clause-written : goal.returns-in-Leaf-clause-written
returns-in-Leaf-clause-written g c =
    let reading = c.args.reading.now in
    let names = g.T.Tables.reference_of reading.tables.now in
    let held = c.args.open.now.items in
    let old = c.args.walk.now in
    let new = c.push_leaf.new.walk in
    subst (λ row. OnOk c.push_leaf.result (PassesRow reading.on.now names reading.content.now row held held old new)) (sym c.in-Leaf.is)
    (on_ok_weaker c.push_leaf.result
    (λ does. record { passes = λ s first rows by st. leaf_passes s first c.in-Leaf.part rows held old new reading.content.now by.over does st })
    c.push_leaf.ensures.written)

pub returns-in-Spelled-clause-written : goal.returns-in-Spelled-clause-written
returns-in-Spelled-clause-written g c =
    let reading = c.args.reading.now in
    let names = g.T.Tables.reference_of reading.tables.now in
    let held = c.args.open.now.items in
    let old = c.args.walk.now in
    let new = c.push_spelled.new.walk in
    subst (λ row. OnOk c.push_spelled.result (PassesRow reading.on.now names reading.content.now row held held old new)) (sym c.in-Spelled.is)
    (on_ok_weaker c.push_spelled.result
    (λ does. record { passes = λ s first rows by st. spelled_passes s first c.in-Spelled.leaf rows held old new reading.content.now by.over does st })
    c.push_spelled.ensures.written)

pub returns-in-EnterSpan-clause-written : goal.returns-in-EnterSpan-clause-written
returns-in-EnterSpan-clause-written g c =
    let reading = c.args.reading.now in
    let names = g.T.Tables.reference_of reading.tables.now in
    let held = c.args.open.now.items in
    let after = c.enter_span.new.open.items in
    let old = c.args.walk.now in
    let new = c.enter_span.new.walk in
    subst (λ row. OnOk c.enter_span.result (PassesRow reading.on.now names reading.content.now row held after old new)) (sym c.in-EnterSpan.is)
    (on_ok_weaker c.enter_span.result
    (λ does. record { passes = λ s first rows by st. span_passes s first c.in-EnterSpan.span rows held after old new reading.content.now by.over does st })
    c.enter_span.ensures.written)

pub returns-in-EnterLink-clause-written : goal.returns-in-EnterLink-clause-written
returns-in-EnterLink-clause-written g c =
    let reading = c.args.reading.now in
    let names = g.T.Tables.reference_of reading.tables.now in
    let held = c.args.open.now.items in
    let after = c.enter_link.new.open.items in
    let old = c.args.walk.now in
    let new = c.enter_link.new.walk in
    subst (λ row. OnOk c.enter_link.result (PassesRow reading.on.now names reading.content.now row held after old new)) (sym c.in-EnterLink.is)
    (on_ok_both c.enter_link.result
    (λ opened written. record {
      passes = λ s first rows by st.
          link_passes s first c.in-EnterLink.field-0 rows held after old new (λ content stands whole. written s.text content s.stop stands whole) opened st;
    })
    c.enter_link.ensures.opened c.enter_link.ensures.written)

pub returns-in-EnterImage-clause-written : goal.returns-in-EnterImage-clause-written
returns-in-EnterImage-clause-written g c =
    let reading = c.args.reading.now in
    let names = g.T.Tables.reference_of reading.tables.now in
    let held = c.args.open.now.items in
    let after = c.enter_image.new.open.items in
    let old = c.args.walk.now in
    let new = c.enter_image.new.walk in
    subst (λ row. OnOk c.enter_image.result (PassesRow reading.on.now names reading.content.now row held after old new)) (sym c.in-EnterImage.is)
    (on_ok_both c.enter_image.result
    (λ opened written. record {
      passes = λ s first rows by st.
          image_passes s first c.in-EnterImage.field-0 rows held after old new (λ content stands whole. written s.text content s.stop stands whole) opened st;
    })
    c.enter_image.ensures.opened c.enter_image.ensures.written)

pub returns-in-Call-clause-written : goal.returns-in-Call-clause-written
returns-in-Call-clause-written g c =
    let reading = c.args.reading.now in
    let names = g.T.Tables.reference_of reading.tables.now in
    let held = c.args.open.now.items in
    let old = c.args.walk.now in
    let new = c.push_call.new.walk in
    subst (λ row. OnOk c.push_call.result (PassesRow reading.on.now names reading.content.now row held held old new)) (sym c.in-Call.is)
    (on_ok_weaker c.push_call.result
    (λ does. record {
      passes = λ s first rows by st.
          call_passes s first c.in-Call.label rows held old new reading.content.now by.over
          (λ from to left codes stands. does s.context s.text left from to s.stop by.read_on by.read_names codes stands) st;
    })
    c.push_call.ensures.written)
