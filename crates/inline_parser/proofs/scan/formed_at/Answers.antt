use Rattle.std.proofs.Common.{sym, subst, IfOk}
use Rattle.inline_parser.proofs.Prelude.{content_codes, context_by, formed_at, IsFormed, labels_of, LabelStart, start_view}
use Rattle.inline_parser.proofs.scan.formed_at.Goals as goal

pub returns-in-Link-clause-read : goal.returns-in-Link-clause-read
returns-in-Link-clause-read g c names ds has =
    let context = context_by c.args.source.now.options.now names ds in
    subst
    (λ (s : LabelStart).
    IfOk c.call_or_link.result
    (λ found. IsFormed (labels_of ds.definitions) c.args.after.now found (formed_at context (start_view s) (content_codes c.args.text.now)
    (content_codes c.args.after.now))))
    (sym c.in-Link.is) (c.call_or_link.ensures.read (labels_of ds.definitions) ds.footnotes has.defined has.noted)
