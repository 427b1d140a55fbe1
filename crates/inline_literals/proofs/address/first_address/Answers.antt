use Rattle.std.proofs.Common.{◌≡◌, ◌+◌, ◌-◌, ◌<◌, ◌≤◌, ◌++◌, ◌∷◌, get_or, length, take, drop, map, Some, sym, ap, ◌∙◌, arith, subst}
use Rattle.std.specs.Option.{option_map}
use Rattle.std.proofs.lemmas.List.{length-take-le, length-drop, get_or-take, get_or-drop}
use Rattle.definition_inline.specs.Inline.{Data, Literal}
use Rattle.definition_inline.specs.GfmAutolinkLiteral.{address_at, with_addresses}
use Rattle.inline_leaves.specs.Leaves.{kind_view}
use Rattle.inline_literals.specs.Addresses.{address_view}
use Rattle.inline_literals.proofs.Addresses.{other_code, found_address, no_address}
use Rattle.inline_literals.proofs.address.first_address.Goals.{then-b-eq64+in_default, else-b-eq64}
use Rattle.inline_literals.proofs.address.first_address.Goals as goal

pub returns-in-Some-clause-parts : goal.returns-in-Some-clause-parts
returns-in-Some-clause-parts c =
    let text = c.args.text.now in
    let n = c.loop-at.at in
    let found = c.in-Some.found in
    let inside : n < length text = c.loop-at-test.true in
    let size : length (take n text) ≡ n = length-take-le n text (omega (arith, inside)) in
    let le : found.before ≤ n = omega (arith, size, c.in-Some.ensures.place.user_within) in
    let end : found.before + (1 + found.after) ≡ (n + 1 + found.after) - (n - found.before) = omega (arith, le) in
    let more : n + (1 + found.after) ≡ n + 1 + found.after = omega arith in
    let is : address_at (take n text) (drop (n + 1) text) ≡ Some (address_view found) =
    ap (address_at (take n text)) (sym c.from.ensures) ∙ sym c.address_at.ensures.read ∙ ap (option_map address_view) c.in-Some.is in
    c.loop-at.invariant
    ∙ found_address n text (address_view found) inside c.if-b-eq64.true le is
    ∙ ap (λ k. map Data (take (n - found.before) text) ++ Literal (kind_view found.kind) (take k (drop (n - found.before) text)) ∷ with_addresses
    (drop (n + (1 + found.after)) text)) end
    ∙ ap (λ k. map Data (take (n - found.before) text) ++ Literal (kind_view found.kind)
    (take ((n + 1 + found.after) - (n - found.before)) (drop (n - found.before) text)) ∷ with_addresses (drop k text)) more

pub returns-in-Some-clause-place : goal.returns-in-Some-clause-place
returns-in-Some-clause-place c =
    let text = c.args.text.now in
    let n = c.loop-at.at in
    let found = c.in-Some.found in
    let place = c.in-Some.ensures.place in
    let inside : n < length text = c.loop-at-test.true in
    let size : length (take n text) ≡ n = length-take-le n text (omega (arith, inside)) in
    let left : length c.from.result.now ≡ length text - (n + 1) = ap length c.from.ensures ∙ length-drop (n + 1) text in
    let le : found.before ≤ n = omega (arith, size, place.user_within) in
    let end : n + 1 + (found.after - 1) ≡ (n + 1 + found.after) - 1 = omega (arith, place.host_some) in
    record {
      some = omega (arith, le);
      within = omega (arith, left, place.host_within, inside);
      first = subst (λ b. b < 128)
          (ap (λ k. get_or (take n text) (k - found.before) 0) size ∙ get_or-take n text (n - found.before) 0 (omega (arith, le, place.some))) place.first;
      last = subst (λ b. b < 128) (ap (λ l. get_or l (found.after - 1) 0) c.from.ensures ∙ get_or-drop (n + 1) text (found.after - 1) 0
          ∙ ap (λ k. get_or text k 0) end) place.last;
    }

pub loop-at-preserved : goal.loop-at-preserved
loop-at-preserved c =
    let text = c.args.text.now in
    let n = c.loop-at.at in
    let inside : n < length text = c.loop-at-test.true in
    elim c.if-b-eq64.branch [
      | then-b-eq64+in_default w ↦
          c.loop-at.invariant ∙ no_address n text inside w.if-b-eq64.true (ap (address_at (take n text)) (sym w.from.ensures) ∙ sym w.address_at.ensures.read
          ∙ ap (option_map address_view) w.in_default.is)
      | else-b-eq64 w ↦ c.loop-at.invariant ∙ other_code n text inside w.if-b-eq64.false
    ]
