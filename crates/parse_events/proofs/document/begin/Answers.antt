use Rattle.std.proofs.Common.{◌<◌, ◌≤◌, ℕ, List, arith, get_or, length, subst}
use Rattle.std.proofs.lemmas.Str.{is_utf8-from_IsUtf8}
use Rattle.parse_events.proofs.Prelude.{Kind, StandsBefore, TEXT_MAX, without_mark}
use Rattle.parse_events.proofs.Fronts.{after_mark}
use Rattle.parse_events.proofs.document.begin.Goals as goal

pub returns-clause-begins : goal.returns-clause-begins
returns-clause-begins g c =
    let value = c.args.value.now in
    let on = c.args.options.now.constructs in
    let mark = c.without_mark-before in
    let before = mark.result.0 in
    let rest = mark.result.1.now in
    let begun = c.in_ok-walk.ensures in
    let marked = c.in_ok-token.ensures in
    let fits : length value ≤ TEXT_MAX = omega (arith, c.requires.size) in
    let bytes : (k : ℕ) → get_or value k 0 < 256 = λ k. omega (arith, c.type_inv.value k) in
    subst (λ (k : Kind). StandsBefore on value k (without_mark value) c.push_front.new.walk) mark.ensures.kind (
    subst (λ (left : List ℕ). StandsBefore on value before left c.push_front.new.walk) mark.ensures.text (
    c.in_ok-push_front.ensures.begins value
    (after_mark on value before rest c.saturating_sub.result c.in_ok-walk.walk c.token.new.self fits bytes mark.ensures.text c.saturating_sub.ensures
    begun.constructs
    begun.size begun.left begun.begins begun.written (begun.order value (is_utf8-from_IsUtf8 value c.utf8.value)) (begun.forest value) begun.outside marked.stays marked.end marked.written)))
