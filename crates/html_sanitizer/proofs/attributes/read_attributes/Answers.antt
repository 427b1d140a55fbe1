use Rattle.std.proofs.Common.{◌++◌, length, arith, sym, ap, ◌∙◌, rules}
use Rattle.std.specs.Option.{option_copied}
use Rattle.html_sanitizer.specs.Attributes.{attribute_of, attributes_of, cut, split, split_of}
use Rattle.html_sanitizer.proofs.Cutting.{start_shorter, split_shorter}
use Rattle.html_sanitizer.proofs.Reading.{one_read, attributes_push}
use Rattle.html_sanitizer.proofs.attributes.read_attributes.Goals as goal

pub loop-start-smaller : goal.loop-start-smaller
loop-start-smaller g c =
    let rest = c.loop-start.rest.now in
    let start = c.in-Some.start.now in
    let found = split (attribute_of c.in-Some-split_attribute.attribute) c.in-Some-split_attribute.after.now in
    let less = start_shorter rest start (sym c.attribute_start.ensures ∙ ap option_copied c.in-Some.is) in
    let most = split_shorter start found (sym c.split_attribute.ensures ∙ ap split_of c.in-Some-split_attribute.is) in
    omega (arith, less, most)

pub loop-start-preserved : goal.loop-start-preserved
loop-start-preserved g c =
    let rest = c.loop-start.rest.now in
    let start = c.in-Some.start.now in
    let attribute = c.in-Some-split_attribute.attribute in
    let after = c.in-Some-split_attribute.after.now in
    let found = split (attribute_of attribute) after in
    let items = c.loop-start.written.items in
    let more = one_read (attributes_of items) rest start found (sym c.attribute_start.ensures ∙ ap option_copied c.in-Some.is)
    (sym c.split_attribute.ensures ∙ ap split_of c.in-Some-split_attribute.is) in (
      search rules,
      ap (λ l. l ++ cut (length after) after) (ap attributes_of c.in_ok-push.ensures.items ∙ attributes_push items attribute)
          ∙ more.0 ∙ c.loop-start.invariant.1,
      more.1 ∙ c.loop-start.invariant.2,
    )
