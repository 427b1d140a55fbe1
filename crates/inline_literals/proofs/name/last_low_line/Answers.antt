use Rattle.std.proofs.Common.{◌≡◌, ◌<◌, ◌+◌, ◌-◌, drop, reverse, take, sym, ap, ◌∙◌, arith, get_or}
use Rattle.std.proofs.lemmas.List.{length-drop}
use Rattle.definition_inline.specs.GfmAutolinkLiteral.{low_line_in}
use Rattle.inline_literals.proofs.Names.{low_line_none, low_line_found, low_line_dot, low_line_other, rest_last}
use Rattle.inline_literals.proofs.name.last_low_line.Goals as goal

pub returns-in-95 : goal.returns-in-95
returns-in-95 c =
    let end = c.loop-end.end in
    let domain = c.args.domain.now in
    let now = c.loop-end.invariant in
    let some : 0 < end = c.loop-end-test.true in
    let back : end - 1 + 1 ≡ end = omega (arith, some) in
    let nothing : end - end ≡ 0 = omega arith in
    record {
      within = omega (arith, now.within, some);
      byte = c.in-95.is;
      refused = λ k le. now.rests k (omega (arith, le))
          ∙ low_line_found c.loop-end.parts (end - k) (drop k domain) c.if-parts-gt0.true (omega (arith, le, some))
          (omega (arith, now.within, length-drop k domain))
          (rest_last end k domain (omega (arith, le, some)) ∙ c.in-95.is);
      last = ap (λ k. low_line_in 2 (reverse (drop k domain))) back
          ∙ now.rests end (omega arith) ∙ ap (λ n. low_line_in c.loop-end.parts (reverse (take n (drop end domain)))) nothing ∙ low_line_none c.loop-end.parts;
    }

pub loop-end-preserved-in-46 : goal.loop-end-preserved-in-46
loop-end-preserved-in-46 c =
    let end = c.loop-end.end in
    let parts = c.loop-end.parts in
    let domain = c.args.domain.now in
    let now = c.loop-end.invariant in
    let some : 0 < end = c.loop-end-test.true in
    record {
      within = omega (arith, now.within);
      same = now.same ∙ low_line_dot parts end domain c.if-parts-gt0.true some now.within c.in-46.is;
      rests = λ k le. now.rests k (omega (arith, le))
          ∙ low_line_dot parts (end - k) (drop k domain) c.if-parts-gt0.true (omega (arith, le, some)) (omega (arith, now.within, length-drop k domain))
          (rest_last end k domain (omega (arith, le, some)) ∙ c.in-46.is)
          ∙ ap (λ n. low_line_in (parts - 1) (reverse (take n (drop k domain)))) (omega arith);
    }

pub loop-end-preserved : goal.loop-end-preserved
loop-end-preserved c =
    let end = c.loop-end.end in
    let parts = c.loop-end.parts in
    let domain = c.args.domain.now in
    let now = c.loop-end.invariant in
    let some : 0 < end = c.loop-end-test.true in
    let low : get_or domain (end - 1) 0 ≡ 95 → ⊥ = λ e. grind (arith, e) in
    let dot : get_or domain (end - 1) 0 ≡ 46 → ⊥ = λ e. grind (arith, e) in
    record {
      within = omega (arith, now.within);
      same = now.same ∙ low_line_other parts end domain c.if-parts-gt0.true some now.within low dot;
      rests = λ k le. now.rests k (omega (arith, le))
          ∙ low_line_other parts (end - k) (drop k domain) c.if-parts-gt0.true (omega (arith, le, some)) (omega (arith, now.within, length-drop k domain))
          (λ e. low (sym (rest_last end k domain (omega (arith, le, some))) ∙ e)) (λ e. dot (sym (rest_last end k domain (omega (arith, le, some))) ∙ e))
          ∙ ap (λ n. low_line_in parts (reverse (take n (drop k domain)))) (omega arith);
    }
