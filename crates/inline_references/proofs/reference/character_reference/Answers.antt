use Rattle.std.proofs.Common.{◌<◌, ◌+◌, ◌++◌, ◌∷◌, drop, get_or, arith, subst, sym, ap, ◌∙◌}
use Rattle.std.proofs.lemmas.Str.{IsCharBoundary-after_ascii}
use Rattle.inline_references.specs.Markers.{IsDecodable}
use Rattle.inline_references.specs.Places.{IsPlaced}
use Rattle.inline_references.proofs.Marked.{decodable_at, parts_at}
use Rattle.inline_references.proofs.reference.character_reference.Goals as goal

pub range_from-requires : goal.range_from-requires
range_from-requires c =
    let text = c.args.text.now in
    let place = subst (λ s. IsPlaced s c.in_ok-found.found) c.as_bytes.ensures.value c.in_ok-found.ensures.place in
    let ascii : get_or text c.in_ok-found.found.end 0 < 128 = omega (arith, place.semicolon) in
    λ _. IsCharBoundary-after_ascii text c.in_ok-found.found.end c.utf8.text place.within ascii

pub returns-clause-cut : goal.returns-clause-cut
returns-clause-cut c =
    let place = subst (λ s. IsPlaced s c.in_ok-found.found) c.as_bytes.ensures.value c.in_ok-found.ensures.place in
    record {
      marker = place.marker;
      parts =
          parts_at c.args.text.now c.in_ok-found.found place
          ∙ ap (λ v. v ++ 59 ∷ drop (c.in_ok-found.found.end + 1) c.args.text.now) (sym c.range.ensures.value)
          ∙ ap (λ rest. c.range.result.now ++ 59 ∷ rest) (sym c.range_from.ensures.value);
    }

pub returns-clause-value : goal.returns-clause-value
returns-clause-value c =
    let place = subst (λ s. IsPlaced s c.in_ok-found.found) c.as_bytes.ensures.value c.in_ok-found.ensures.place in
    subst (IsDecodable c.in_ok-found.found.marker) (sym c.range.ensures.value) (decodable_at c.args.text.now c.in_ok-found.found place)
