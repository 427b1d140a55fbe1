use Rattle.std.proofs.Common.{◌≡◌, false, true, drop, slice_index, refl, sym, ap, ◌∙◌, rules}
use borrow.Author.Tests.{tests}
use Rattle.parse_strings.proofs.Prelude.{is_x}
use Rattle.parse_strings.proofs.References.{marked_one, marked_x, unmarked, x_of}
use Rattle.parse_strings.proofs.character_reference.push_markers.Goals as goal

pub returns-then-first-ne35-clause-written : goal.returns-then-first-ne35-clause-written
returns-then-first-ne35-clause-written g c = λ text marks after line is are st.
    unmarked text c.args.walk.now c.args.bytes.now marks after line (λ hash. c.if-first-ne35.true (c.first.ensures ∙ hash)) is are st

pub returns-in_ok-text-in-120-clause-written : goal.returns-in_ok-text-in-120-clause-written
returns-in_ok-text-in-120-clause-written g c = λ text marks after line is are st.
    let bytes = c.args.bytes.now in
    let hash : slice_index bytes 0 ≡ 35 = sym c.first.ensures ∙ c.if-first-ne35.false in
    let hexadecimal : is_x (slice_index (drop 1 bytes) 0) ≡ true =
    ap (λ xs. is_x (slice_index xs 0)) (sym c.bytes_from.ensures.rest) ∙ ap is_x (sym c.first-2.ensures) ∙ x_of c.first-2.result c.in-120.is in
    marked_x text c.args.walk.now _ _ bytes marks after line hash hexadecimal is are st
    (λ front others one. c.in_ok-text.ensures.written text front others one refl)
    (λ front others one. c.in_ok-text-in-120.ensures.written text front others one refl)

pub returns-in_default-clause-written : goal.returns-in_default-clause-written
returns-in_default-clause-written g c = λ text marks after line is are st.
    let bytes = c.args.bytes.now in
    let hash : slice_index bytes 0 ≡ 35 = sym c.first.ensures ∙ c.if-first-ne35.false in
    let other : is_x c.first-2.result ≡ false = search (rules, tests) in
    let plain : is_x (slice_index (drop 1 bytes) 0) ≡ false =
    ap (λ xs. is_x (slice_index xs 0)) (sym c.bytes_from.ensures.rest) ∙ ap is_x (sym c.first-2.ensures) ∙ other in
    marked_one text c.args.walk.now _ bytes marks after line hash plain is are st
    (λ front others one. c.in_ok-text.ensures.written text front others one refl)
