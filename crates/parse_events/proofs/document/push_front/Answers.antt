use Rattle.std.proofs.Common.{◌≡◌, ◌+◌, ℕ, sym, ap, subst, ◌∙◌, arith, length, length-append, take}
use Rattle.std.specs.Str.{IsCharBoundary}
use Rattle.std.proofs.Math.Seq.{take-append_seam}
use Rattle.parse_events.proofs.Prelude.{joined, on_ok_weaker}
use Rattle.std.proofs.lemmas.Str.{IsCharBoundary-at_seam}
use Rattle.parse_events.proofs.FrontLines.{no_front, some_front}
use Rattle.parse_events.proofs.Fronts.{before_all, before_others}
use Rattle.parse_events.proofs.document.push_front.Goals as goal

pub returns-then-size-eq0-clause-begins : goal.returns-then-size-eq0-clause-begins
returns-then-size-eq0-clause-begins g c = λ value was.
    let on = c.args.on.now in
    let rest = c.args.text.now in
    let left = c.after_front-left.result.now in
    before_all on value c.args.before rest c.args.walk.now
    (no_front on rest left c.after_front-left.ensures.left (omega (arith, c.saturating_sub-size.ensures, c.if-size-eq0.true))) was

pub returns-clause-begins : goal.returns-clause-begins
returns-clause-begins g c =
    let on = c.args.on.now in
    let rest = c.args.text.now in
    let left = c.after_front-left.result.now in
    let size = c.saturating_sub-size.result in
    let own = c.up_to.result.now in
    let some = some_front on rest left c.after_front-left.ensures.all c.after_front-left.ensures.left
    (omega (arith, c.saturating_sub-size.ensures, c.if-size-eq0.false)) in
    let front = joined some.parts.front in
    let long : length rest ≡ length front + length left = ap length some.parts.bytes ∙ length-append front left in
    let same : size ≡ length front = omega (arith, c.saturating_sub-size.ensures, long) in
    let cut : IsCharBoundary rest size =
    subst (λ (k : ℕ). IsCharBoundary rest k) (sym same) (IsCharBoundary-at_seam rest front left some.parts.bytes c.after_front-left.utf8) in
    let is : own ≡ front =
    c.up_to.ensures.front cut ∙ ap (λ (k : ℕ). take k rest) same ∙ ap (take (length front)) some.parts.bytes ∙ take-append_seam front left in
    on_ok_weaker c.push_frontmatter.result
    (λ writes. λ value was. before_others on value c.args.before rest left own c.args.walk.now c.push_frontmatter.new.walk some is writes was)
    c.push_frontmatter.ensures.written
