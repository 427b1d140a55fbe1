use Rattle.std.proofs.Common.{◌≡◌, ◌+◌, ◌∷◌, ◌∙◌, ap, sym, drop, get_or, arith, refl}
use Rattle.std.proofs.lemmas.List.{get_or_past}
use Rattle.inline_links.proofs.Prelude.{content_codes}
use Rattle.inline_links.proofs.Cuts.{cut_at, one_code, two_bytes}
use Rattle.inline_links.proofs.code.next_code.Goals as goal
use Rattle.inline_links.proofs.code.next_code.Goals.{else-byte-eq13-via-then-byte-eq13+then-at-content-2+else-content-at-eq10}
use Rattle.inline_links.proofs.code.next_code.Goals.{else-byte-eq13-via-then-byte-eq13+else-at-content-2, else-byte-eq13-via-else-byte-eq13}

pub returns-then-content-at-eq10 : goal.returns-then-content-at-eq10
returns-then-content-at-eq10 c =
    let xs = c.args.content.now in
    let at = c.args.at in
    let feed : get_or xs (at + 1) 0 ≡ 10 = c.if-content-at-eq10.true in
    record {
      codes = two_bytes xs at (omega arith) c.if-byte-eq13.true feed;
      forward = omega arith;
      within = omega arith;
      cut = cut_at xs (at + 2) (at + 1) (omega arith) (λ return. absurd (omega (arith, feed, return)));
    }

pub returns : goal.returns
returns c =
    let xs = c.args.content.now in
    let at = c.args.at in
    let apart : get_or xs at 0 ≡ 13 → get_or xs (at + 1) 0 ≡ 10 → ⊥ =
    elim c.else-byte-eq13.branch [
      | else-byte-eq13-via-then-byte-eq13+then-at-content-2+else-content-at-eq10 w ↦ λ return feed. w.if-content-at-eq10.false feed
      | else-byte-eq13-via-then-byte-eq13+else-at-content-2 w ↦ λ return feed. omega (arith, get_or_past xs (at + 1) 0 (omega arith), feed)
      | else-byte-eq13-via-else-byte-eq13 w ↦ λ return feed. w.if-byte-eq13.false return
    ] in
    record {
      codes = one_code xs at (omega arith) apart ∙ ap (λ b. b ∷ content_codes (drop (at + 1) xs)) (sym c.from.ensures);
      forward = omega arith;
      within = omega arith;
      cut = cut_at xs (at + 1) at refl apart;
    }
