use Rattle.std.proofs.Common.{◌≡◌, ◌<◌, refl, sym, ap, ap₂, subst, ◌∙◌, drop, take, length}
use Rattle.parse_inline.proofs.Prelude.{both_ok, bytes_drop, IsUtf8, raw_bytes_law, slice_index, utf8_bytes}
use Rattle.std.proofs.Common.{true}
use Rattle.event_tokens.specs.Tokens.{is_token}
use Rattle.inline_leaves.specs.Leaves.{kind_view}
use Rattle.parse_written.specs.Written.{is_literal}
use Rattle.inline_leaves.specs.declared.leaf.LeafPart.TheVariants as leaf
use Rattle.parse_inline.proofs.LeafParts.{autolink_part, break_part, data_part, escape_part, escaped_break_part, html_part, line_end_part}
use Rattle.parse_inline.proofs.LeafParts.{literal_part, nothing_part, part_from}
use Rattle.parse_inline.proofs.LeavesOn.{character_on, escapes_on, html_on, number_on}
use Rattle.parse_inline.proofs.RawSpans.{raw_characters}
use Rattle.parse_inline.proofs.leaf.push_leaf.Goals as goal

pub returns-in-Escape-clause-written : goal.returns-in-Escape-clause-written
returns-in-Escape-clause-written g c =
    both_ok c.push_escapes.result
    (λ written same context text bytes from to stop ahead laid at st whole.
    let here : c.bytes_from-bytes.result.now ≡ bytes =
    c.bytes_from-bytes.ensures.rest ∙ ap₂ drop c.place.ensures c.as_bytes.ensures.value ∙ sym ahead in
    part_from context text bytes c.bytes_from-bytes.result.now c.args.part (leaf.Escape c.in-Escape.text) from to stop _ _ here c.in-Escape.is laid at st
    (λ form there stands. escape_part context.options.constructs context.names text _ from to stop _ _ there stands whole c.in-Escape.text.now form
    (λ content marks next outside. written context.options.constructs context.names text c.in-Escape.text.now content stop refl
    (escapes_on context c.args.part c.in-Escape.text from to c.in-Escape.is laid) marks next outside)))
    c.push_escapes.ensures.written c.push_escapes.ensures.open

pub returns-in-Unclosed-clause-written : goal.returns-in-Unclosed-clause-written
returns-in-Unclosed-clause-written g c =
    both_ok c.data.result
    (λ written same context text bytes from to stop ahead laid at st whole.
    let here : c.bytes_from-bytes.result.now ≡ bytes =
    c.bytes_from-bytes.ensures.rest ∙ ap₂ drop c.place.ensures c.as_bytes.ensures.value ∙ sym ahead in
    part_from context text bytes c.bytes_from-bytes.result.now c.args.part (leaf.Unclosed c.in-Unclosed.text) from to stop _ _ here c.in-Unclosed.is laid at st
    (λ form there stands. data_part context.options.constructs context.names text _ from to stop _ _ there stands whole c.in-Unclosed.text.now _
    (ap length c.as_bytes-in-Unclosed.ensures.value) (subst IsUtf8 c.as_bytes-in-Unclosed.ensures.value c.as_bytes-in-Unclosed.ensures.utf8) form same
    (written text)))
    c.data.ensures.written c.data.ensures.stays

pub returns-in-Autolink-clause-written : goal.returns-in-Autolink-clause-written
returns-in-Autolink-clause-written g c =
    both_ok c.push_autolink.result
    (λ written same context text bytes from to stop ahead laid at st whole.
    let here : c.bytes_from-bytes.result.now ≡ bytes =
    c.bytes_from-bytes.ensures.rest ∙ ap₂ drop c.place.ensures c.as_bytes.ensures.value ∙ sym ahead in
    part_from context text bytes c.bytes_from-bytes.result.now c.args.part
    (leaf.Autolink c.in-Autolink.email c.in-Autolink.text) from to stop _ _ here c.in-Autolink.is laid
    at st
    (λ form there stands. autolink_part context.options.constructs context.names text _ from to stop _ _ there stands whole c.in-Autolink.email c.in-Autolink.text.now
    (subst IsUtf8 c.as_bytes-in-Autolink.ensures.value c.as_bytes-in-Autolink.ensures.utf8) form
    (λ content some dark target utf8 next outside. written context.options.constructs context.names text c.in-Autolink.text.now content stop
    (ap length c.as_bytes-in-Autolink.ensures.value) some dark target utf8 next outside)))
    c.push_autolink.ensures.written c.push_autolink.ensures.open

pub returns-in-Literal-clause-written : goal.returns-in-Literal-clause-written
returns-in-Literal-clause-written g c =
    both_ok c.text.result
    (λ written same context text bytes from to stop ahead laid at st whole.
    let here : c.bytes_from-bytes.result.now ≡ bytes =
    c.bytes_from-bytes.ensures.rest ∙ ap₂ drop c.place.ensures c.as_bytes.ensures.value ∙ sym ahead in
    part_from context text bytes c.bytes_from-bytes.result.now c.args.part
    (leaf.Literal c.in-Literal.kind c.in-Literal.text) from to stop _ _ here c.in-Literal.is laid at st
    (λ form there stands. literal_part context.options.constructs context.names text _ from to stop _ _ there stands whole c.in-Literal.kind c.literal_name.result c.in-Literal.text.now
    c.literal_name.ensures.kind
    (λ is. subst (λ xs. is_token c.literal_name.result xs ≡ true) c.as_bytes-in-Literal.ensures.value
    (c.literal_name.ensures.may (ap (is_literal (kind_view c.in-Literal.kind)) c.as_bytes-in-Literal.ensures.value ∙ is) c.as_bytes-in-Literal.ensures.utf8))
    form same (written text)))
    c.text.ensures.written c.text.ensures.stays

pub returns-in-Html-clause-written : goal.returns-in-Html-clause-written
returns-in-Html-clause-written g c =
    both_ok c.push_html.result
    (λ written same context text bytes from to stop ahead laid at st whole.
    let here : c.bytes_from-bytes.result.now ≡ bytes =
    c.bytes_from-bytes.ensures.rest ∙ ap₂ drop c.place.ensures c.as_bytes.ensures.value ∙ sym ahead in
    part_from context text bytes c.bytes_from-bytes.result.now c.args.part (leaf.Html c.in-Html.text) from to stop _ _ here c.in-Html.is laid at st
    (λ form there stands. html_part context.options.constructs context.names text _ from to stop _ _ there stands whole c.in-Html.text.now c.bytes_up_to.result.now
    (subst IsUtf8 c.as_bytes-in-Html.ensures.value c.as_bytes-in-Html.ensures.utf8)
    (λ k. subst (λ xs. slice_index xs k < 256) c.as_bytes-in-Html.ensures.value (utf8_bytes c.as_bytes-in-Html.result.now c.as_bytes-in-Html.ensures.utf8 k))
    (λ k. subst (λ xs. slice_index xs k < 256) (sym c.bytes_from-bytes.ensures.rest)
    (bytes_drop c.place.result c.as_bytes.result.now (utf8_bytes c.as_bytes.result.now c.as_bytes.ensures.utf8) k)) (c.bytes_up_to.ensures ∙ ap
    (λ xs. take (length xs) c.bytes_from-bytes.result.now) c.as_bytes-in-Html.ensures.value)
    form (λ front content closed opened utf8 cut next outside. written context.options.constructs context.names text front content stop
    (html_on context c.args.part c.in-Html.text from to c.in-Html.is laid) closed opened utf8 cut next outside)))
    c.push_html.ensures.written c.push_html.ensures.open

pub returns-in-EscapedBreak-clause-written : goal.returns-in-EscapedBreak-clause-written
returns-in-EscapedBreak-clause-written g c =
    both_ok c.text-in-EscapedBreak.result
    (λ written same context text bytes from to stop ahead laid at st whole.
    let here : c.bytes_from-bytes.result.now ≡ bytes =
    c.bytes_from-bytes.ensures.rest ∙ ap₂ drop c.place.ensures c.as_bytes.ensures.value ∙ sym ahead in
    part_from context text bytes c.bytes_from-bytes.result.now c.args.part leaf.EscapedBreak from to stop _ _ here c.in-EscapedBreak.is laid at st
    (λ form there stands. escaped_break_part context.options.constructs context.names text _ from to stop _ _ there stands whole form same (written text)))
    c.text-in-EscapedBreak.ensures.written c.text-in-EscapedBreak.ensures.stays

pub returns-in-TrailingBreak-clause-written : goal.returns-in-TrailingBreak-clause-written
returns-in-TrailingBreak-clause-written g c =
    both_ok c.text-in-TrailingBreak.result
    (λ written same context text bytes from to stop ahead laid at st whole.
    let here : c.bytes_from-bytes.result.now ≡ bytes =
    c.bytes_from-bytes.ensures.rest ∙ ap₂ drop c.place.ensures c.as_bytes.ensures.value ∙ sym ahead in
    part_from context text bytes c.bytes_from-bytes.result.now c.args.part leaf.TrailingBreak from to stop _ _ here c.in-TrailingBreak.is laid at st
    (λ form there stands. break_part context.options.constructs context.names text _ from to stop _ _ there stands whole c.white_size.result c.white_size.ensures.size form same
    (written text)))
    c.text-in-TrailingBreak.ensures.written c.text-in-TrailingBreak.ensures.stays

pub returns-in-LineEnd-clause-written : goal.returns-in-LineEnd-clause-written
returns-in-LineEnd-clause-written g c =
    both_ok c.push_line_end.result
    (λ written same context text bytes from to stop ahead laid at st whole.
    let here : c.bytes_from-bytes.result.now ≡ bytes =
    c.bytes_from-bytes.ensures.rest ∙ ap₂ drop c.place.ensures c.as_bytes.ensures.value ∙ sym ahead in
    part_from context text bytes c.bytes_from-bytes.result.now c.args.part (leaf.LineEnd c.in-LineEnd.ending) from to stop _ _ here c.in-LineEnd.is laid at st
    (λ form there stands. line_end_part context.options.constructs context.names text _ from to stop _ _ there stands whole c.in-LineEnd.ending
    (λ k. subst (λ xs. slice_index xs k < 256) (sym c.bytes_from-bytes.ensures.rest)
    (bytes_drop c.place.result c.as_bytes.result.now (utf8_bytes c.as_bytes.result.now c.as_bytes.ensures.utf8) k)) form
    (λ rest parts apart next outside. written context.options.constructs context.names text rest c.in-LineEnd.ending stop (ap length c.as_str.ensures) parts apart next outside)))
    c.push_line_end.ensures.written c.push_line_end.ensures.open

pub returns-in-Spaces-clause-written : goal.returns-in-Spaces-clause-written
returns-in-Spaces-clause-written g c = λ context text bytes from to stop ahead laid at st whole.
    part_from context text bytes bytes c.args.part leaf.Spaces from to stop c.args.walk.now c.args.walk.now refl c.in-Spaces.is laid at st
    (λ form there stands. nothing_part context.options.constructs context.names text bytes from to stop c.args.walk.now c.args.walk.now there stands whole form)

pub returns-in-Code-clause-written : goal.returns-in-Code-clause-written
returns-in-Code-clause-written g c =
    both_ok c.push_raw.result
    (λ written same context text bytes from to stop ahead laid at st whole.
    let here : c.bytes_from-bytes.result.now ≡ bytes =
    c.bytes_from-bytes.ensures.rest ∙ ap₂ drop c.place.ensures c.as_bytes.ensures.value ∙ sym ahead in
    part_from context text bytes c.bytes_from-bytes.result.now c.args.part (leaf.Code c.in-Code.field-0) from to stop _ _ here c.in-Code.is laid at st
    (λ form there stands. written context.options.constructs context.names text _ to stop (raw_bytes_law.0 _ _ from to form there)
    (raw_characters _ c.place.result 96 _ _ to (raw_bytes_law.0 _ _ from to form there) c.bytes_from-bytes.ensures.rest refl c.as_bytes.ensures.utf8)
    stands whole))
    c.push_raw.ensures.written c.push_raw.ensures.open

pub returns-in-Math-clause-written : goal.returns-in-Math-clause-written
returns-in-Math-clause-written g c =
    both_ok c.push_raw-in-Math.result
    (λ written same context text bytes from to stop ahead laid at st whole.
    let here : c.bytes_from-bytes.result.now ≡ bytes =
    c.bytes_from-bytes.ensures.rest ∙ ap₂ drop c.place.ensures c.as_bytes.ensures.value ∙ sym ahead in
    part_from context text bytes c.bytes_from-bytes.result.now c.args.part (leaf.Math c.in-Math.field-0) from to stop _ _ here c.in-Math.is laid at st
    (λ form there stands. written context.options.constructs context.names text _ to stop (raw_bytes_law.1 _ _ from to form there)
    (raw_characters _ c.place.result 36 _ _ to (raw_bytes_law.1 _ _ from to form there) c.bytes_from-bytes.ensures.rest refl c.as_bytes.ensures.utf8)
    stands whole))
    c.push_raw-in-Math.ensures.written c.push_raw-in-Math.ensures.open

pub returns-in-Character-clause-written : goal.returns-in-Character-clause-written
returns-in-Character-clause-written g c =
    both_ok c.push_character.result
    (λ written same context text bytes from to stop ahead laid at st whole.
    let here : c.bytes_from-bytes.result.now ≡ bytes =
    c.bytes_from-bytes.ensures.rest ∙ ap₂ drop c.place.ensures c.as_bytes.ensures.value ∙ sym ahead in
    part_from context text bytes c.bytes_from-bytes.result.now c.args.part
    (leaf.Character c.in-Character.field-0) from to stop _ _ here c.in-Character.is laid at st
    (λ form there stands. written context text _ from to stop (character_on context c.args.part c.in-Character.field-0 from to c.in-Character.is laid) form there
    stands whole))
    c.push_character.ensures.written c.push_character.ensures.open

pub returns-in-Number-clause-written : goal.returns-in-Number-clause-written
returns-in-Number-clause-written g c =
    both_ok c.push_character-in-Number.result
    (λ written same context text bytes from to stop ahead laid at st whole.
    let here : c.bytes_from-bytes.result.now ≡ bytes =
    c.bytes_from-bytes.ensures.rest ∙ ap₂ drop c.place.ensures c.as_bytes.ensures.value ∙ sym ahead in
    part_from context text bytes c.bytes_from-bytes.result.now c.args.part
    (leaf.Number c.in-Number.radix c.in-Number.digits) from to stop _ _ here c.in-Number.is laid at st
    (λ form there stands. written context text _ from to stop
    (number_on context c.args.part c.in-Number.radix c.in-Number.digits from to c.in-Number.is laid) form there stands whole))
    c.push_character-in-Number.ensures.written c.push_character-in-Number.ensures.open
