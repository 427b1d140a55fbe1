use Rattle.std.proofs.Common.{◌≡◌, ◌∙◌, ◌∷◌, [], ap, refl, subst, map}
use Rattle.inline_addresses.proofs.Prelude.{Data, data_rows, found_parts, IsFound, IsUtf8, kind_view, Literal, Part, with_addresses}
use Rattle.inline_addresses.proofs.Walks.{address_rows, found_end, rest_rows}
use Rattle.inline_addresses.proofs.walk.push_addresses.Goals as goal

pub text_between-requires-clause-end : goal.text_between-requires-clause-end
text_between-requires-clause-end g c =
    let found = c.in-Some.found in
    found_end c.loop-found.rest.now found (subst IsUtf8 c.as_bytes.ensures.value c.as_bytes.ensures.utf8)
    (subst (λ bs. IsFound bs found) c.as_bytes.ensures.value c.in-Some.ensures.place)

pub rest_from-rest-requires : goal.rest_from-rest-requires
rest_from-rest-requires g c =
    let found = c.in-Some.found in
    found_end c.loop-found.rest.now found (subst IsUtf8 c.as_bytes.ensures.value c.as_bytes.ensures.utf8)
    (subst (λ bs. IsFound bs found) c.as_bytes.ensures.value c.in-Some.ensures.place)

pub loop-found-preserved : goal.loop-found-preserved
loop-found-preserved g c =
    let rest = c.loop-found.rest.now in
    let found = c.in-Some.found in (
      c.rest_from-rest.utf8,
      λ at.
          address_rows at c.loop-found.rows.items c.push.new.self.items c.push-in-Some.new.self.items _ _ rest c.rest_from-rest.result.now found
          c.in_ok-push.ensures.items c.in_ok-push-2.ensures.items
          (ap data_rows c.text_before.ensures)
          (ap (λ text. Part (Literal (kind_view found.kind) text) ∷ []) c.text_between.ensures)
          c.rest_from-rest.ensures
          (subst (λ bs. with_addresses bs ≡ found_parts bs found) c.as_bytes.ensures.value c.in-Some.ensures.parts)
          ∙ c.loop-found.invariant.1 at,
    )

pub returns : goal.returns
returns g c at =
    rest_rows at c.loop-found.rows.items c.push-2.new.self.items _ c.loop-found.rest.now c.in_ok-push-3.ensures.items refl
    (subst (λ bs. with_addresses bs ≡ map Data bs) c.as_bytes.ensures.value c.in_default.ensures.parts)
    ∙ c.loop-found.invariant.1 at
