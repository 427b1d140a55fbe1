use Rattle.std.proofs.Common.{◌≡◌, suc, drop, ap, subst, ◌∙◌, arith}
use Rattle.parse_inline.proofs.Prelude.{IsUtf8, utf8_bytes}
use Rattle.parse_inline.proofs.Places.{byte_at, cut_after}
use Rattle.parse_inline.proofs.reading.Reading.rest.Goals as goal

pub returns-clause-after : goal.returns-clause-after
returns-clause-after g c before b content place at ascii =
    let all = c.args.self.now.content.now in
    let is : c.args.place ≡ suc before = omega (arith, place) in
    let utf8 : IsUtf8 all = subst IsUtf8 c.as_bytes-bytes.ensures.value c.as_bytes-bytes.ensures.utf8 in
    let here = byte_at all before b content at in
    c.from.ensures.rest (cut_after all before c.args.place b content utf8 is at ascii) ∙ ap (λ n. drop n all) is ∙ here.after

pub returns-clause-bytes : goal.returns-clause-bytes
returns-clause-bytes g c k =
    utf8_bytes c.args.self.now.content.now (subst IsUtf8 c.as_bytes-bytes.ensures.value c.as_bytes-bytes.ensures.utf8) k
