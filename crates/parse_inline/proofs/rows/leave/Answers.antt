use Rattle.std.proofs.Common.{OnOk, sym, subst}
use Rattle.parse_inline.proofs.Prelude.{on_ok_weaker, StandsInText}
use Rattle.parse_inline.specs.Rows.{PassesExit}
use Rattle.parse_inline.proofs.Exits.{image_exits, link_exits, span_exits}
use Rattle.parse_inline.proofs.rows.leave.Goals as goal

pub returns-in-Span-clause-written : goal.returns-in-Span-clause-written
returns-in-Span-clause-written g c =
    let reading = c.args.reading.now in
    let old = c.args.walk.now in
    let new = c.leave_span.new.walk in
    subst
    (λ o. OnOk c.leave_span.result (PassesExit reading.on.now (g.T.Tables.reference_of reading.tables.now) reading.content.now o old new)) (sym c.in-Span.is)
    (on_ok_weaker c.leave_span.result
    (λ does. record {
      passes = λ others. record {
        passes = λ s first rows by st. span_exits s first rows others old new c.in-Span.span c.in-Span.size does st;
      };
    })
    c.leave_span.ensures.written)

pub returns-in-Link-clause-written : goal.returns-in-Link-clause-written
returns-in-Link-clause-written g c =
    let reading = c.args.reading.now in
    let old = c.args.walk.now in
    let new = c.leave_label.new.walk in
    subst
    (λ o. OnOk c.leave_label.result (PassesExit reading.on.now (g.T.Tables.reference_of reading.tables.now) reading.content.now o old new)) (sym c.in-Link.is)
    (on_ok_weaker c.leave_label.result
    (λ does. record {
      passes = λ others. record {
        passes = λ s first rows by st.
            link_exits s first rows others old new by.texts
            (λ target content inside from to ends stands.
            does s.context target s.text content inside from to s.stop by.read_on by.read_names ends
            (subst (λ all. StandsInText s.text all content from s.stop old) by.over stands))
            st;
      };
    })
    c.leave_label.ensures.written)

pub returns-in-Image-clause-written : goal.returns-in-Image-clause-written
returns-in-Image-clause-written g c =
    let reading = c.args.reading.now in
    let old = c.args.walk.now in
    let new = c.leave_label-in-Image.new.walk in
    subst
    (λ o. OnOk c.leave_label-in-Image.result (PassesExit reading.on.now (g.T.Tables.reference_of reading.tables.now) reading.content.now o old new))
    (sym c.in-Image.is)
    (on_ok_weaker c.leave_label-in-Image.result
    (λ does. record {
      passes = λ others. record {
        passes = λ s first rows by st.
            image_exits s first rows others old new by.texts
            (λ target content inside from to ends stands.
            does s.context target s.text content inside from to s.stop by.read_on by.read_names ends
            (subst (λ all. StandsInText s.text all content from s.stop old) by.over stands))
            st;
      };
    })
    c.leave_label-in-Image.ensures.written)
