use Rattle.std.proofs.Common.{◌≡◌, refl, sym, ap₂, ◌∙◌, drop}
use Rattle.inline_rows.specs.declared.row.SpelledLeaf.TheVariants as spelled
use Rattle.parse_inline.proofs.Prelude.{both_ok, raw_bytes_law}
use Rattle.parse_inline.proofs.LeafParts.{spelled_from}
use Rattle.parse_inline.proofs.RawSpans.{raw_characters}
use Rattle.parse_inline.proofs.leaf.push_spelled.Goals as goal

pub returns-in-Code-clause-written : goal.returns-in-Code-clause-written
returns-in-Code-clause-written g c =
    both_ok c.push_raw.result
    (λ written same context text bytes from to stop ahead laid at st whole.
    let here : c.bytes_from-bytes.result.now ≡ bytes =
    c.bytes_from-bytes.ensures.rest ∙ ap₂ drop c.place.ensures c.as_bytes.ensures.value ∙ sym ahead in
    spelled_from context text bytes c.bytes_from-bytes.result.now c.args.leaf (spelled.Code c.in-Code.field-0) from to stop _ _ here c.in-Code.is laid at st
    (λ form there stands. written context.options.constructs context.names text _ to stop (raw_bytes_law.0 _ _ from to form there)
    (raw_characters _ c.place.result 96 _ _ to (raw_bytes_law.0 _ _ from to form there) c.bytes_from-bytes.ensures.rest refl c.as_bytes.ensures.utf8)
    stands whole))
    c.push_raw.ensures.written c.push_raw.ensures.open

pub returns-in-Math-clause-written : goal.returns-in-Math-clause-written
returns-in-Math-clause-written g c =
    both_ok c.push_raw-in-Math.result
    (λ written same context text bytes from to stop ahead laid at st whole.
    let here : c.bytes_from-bytes.result.now ≡ bytes =
    c.bytes_from-bytes.ensures.rest ∙ ap₂ drop c.place.ensures c.as_bytes.ensures.value ∙ sym ahead in
    spelled_from context text bytes c.bytes_from-bytes.result.now c.args.leaf (spelled.Math c.in-Math.field-0) from to stop _ _ here c.in-Math.is laid at st
    (λ form there stands. written context.options.constructs context.names text _ to stop (raw_bytes_law.1 _ _ from to form there)
    (raw_characters _ c.place.result 36 _ _ to (raw_bytes_law.1 _ _ from to form there) c.bytes_from-bytes.ensures.rest refl c.as_bytes.ensures.utf8)
    stands whole))
    c.push_raw-in-Math.ensures.written c.push_raw-in-Math.ensures.open

pub returns-in-Check-clause-written : goal.returns-in-Check-clause-written
returns-in-Check-clause-written g c = λ context text bytes from to stop ahead laid at st whole.
    spelled_from context text bytes bytes c.args.leaf (spelled.Check c.in-Check.field-0) from to stop _ _ refl c.in-Check.is laid at st
    (λ form there stands. absurd form)
