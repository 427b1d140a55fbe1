use Rattle.std.proofs.Common.{◌++◌, ◌∷◌, string_bytes, sym, ap, ◌∙◌, arith, length, subst}
use Rattle.html_inline.proofs.Prelude.{content_codes, ends, length-drop, line_ending_code}
use Rattle.inline_leaves.specs.Leaves.{ReadsEnding}
use Rattle.html_inline.proofs.html_text.push_ending.Goals as goal

pub returns : goal.returns
returns g c =
    let xs = c.args.text.now in
    let found = c.in-Some.found in
    let out = string_bytes c.args.out.now in
    let rest = c.cut_after.result.now in
    let reads = subst (λ s. ReadsEnding s found) c.as_bytes.ensures.value c.in-Some.ensures in
    let size = ap length c.cut_after.ensures.rest in
    ends (record {
      ending = found.ending;
      codes = reads.codes ∙ ap (λ s. line_ending_code found.ending ∷ content_codes s) (sym c.cut_after.ensures.rest);
      shorter = omega (arith, size, reads.some, reads.within, length-drop found.size xs);
    }) (c.in_ok-push_str.ensures.bytes ∙ ap (λ s. out ++ s) c.as_str.ensures)
