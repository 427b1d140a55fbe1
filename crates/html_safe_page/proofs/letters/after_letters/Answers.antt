use Rattle.std.proofs.Common.{◌∙◌, ap, sym, arith, length}
use Rattle.html_safe_page.specs.Machine.{after_letters}
use Rattle.html_safe_page.proofs.Passed.{stops, letters_plain, plain_stops, plain_shorter, letters_reference, reference_shorter, letters_end}
use Rattle.html_safe_page.proofs.letters.after_letters.Goals as goal

pub loop-next-init : goal.loop-next-init
loop-next-init c =
    let bytes = c.args.bytes.now in (
      ap after_letters c.after_plain-rest.ensures ∙ letters_plain bytes,
      ap stops c.after_plain-rest.ensures ∙ plain_stops bytes,
    )

pub loop-next-preserved : goal.loop-next-preserved
loop-next-preserved c =
    let rest = c.loop-next.rest.now in
    let next = c.in-Some.next.now in (
      ap after_letters c.after_plain-rest-in-Some.ensures
          ∙ letters_plain next
          ∙ sym (letters_reference rest next c.in-Some.ensures)
          ∙ c.loop-next.invariant.0,
      ap stops c.after_plain-rest-in-Some.ensures ∙ plain_stops next,
    )

pub loop-next-smaller : goal.loop-next-smaller
loop-next-smaller c =
    let rest = c.loop-next.rest.now in
    let next = c.in-Some.next.now in
    let less = reference_shorter rest next c.in-Some.ensures in
    let most = plain_shorter next in
    let same = ap length c.after_plain-rest-in-Some.ensures in
    omega (arith, less, most, same)

pub returns : goal.returns
returns c = sym (letters_end c.loop-next.rest.now c.loop-next.invariant.1 c.in_default.ensures) ∙ c.loop-next.invariant.0
