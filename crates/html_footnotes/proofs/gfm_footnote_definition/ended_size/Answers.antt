use Rattle.std.proofs.Common.{◌≡◌, ◌≤◌, ◌<◌, ◌-◌, ℕ, List, true, false, length, get_or, sym, ◌∙◌, arith}
use Rattle.std.specs.List.{suffix_len}
use Rattle.std.proofs.lemmas.List.Sums.{suffix_len_is}
use Rattle.html_footnotes.proofs.Prelude.{ends_line}
use Rattle.definition_page.specs.GfmFootnoteDefinition.{ended_size}
use Rattle.html_footnotes.proofs.gfm_footnote_definition.ended_size.Goals as goal

-- what is left out ends at a byte that is none
stops : (html : List ℕ) (size : ℕ) → size ≤ length html → ((k : ℕ) → size ≤ k → k < length html → ends_line (get_or html k 0) ≡ true)
    → (0 < size → ends_line (get_or html (size - 1) 0) ≡ false) → size ≡ ended_size html
stops html size within left_out stop =
    let found : suffix_len ends_line html ≡ length html - size = suffix_len_is ends_line html size 0 within left_out stop in
    omega (arith, found, within)

pub returns-else-ends_line-clause-size : goal.returns-else-ends_line-clause-size
returns-else-ends_line-clause-size c =
    let k = c.loop-size.invariant in
    stops c.args.html.now c.loop-size.size k.within k.left_out (λ _. sym c.ends_line.ensures ∙ c.if-ends_line.false)

pub returns-after-loop-size-clause-size : goal.returns-after-loop-size-clause-size
returns-after-loop-size-clause-size c =
    let k = c.loop-size.invariant in
    stops c.args.html.now c.loop-size.size k.within k.left_out (λ some. absurd (omega (arith, some, c.loop-size-test.false)))
