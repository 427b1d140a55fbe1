use Rattle.std.proofs.Common.{◌≡◌, ◌<◌, ◌≤◌, ◌+◌, ◌∷◌, ℕ, List, drop, string_bytes, sym, ap, ◌∙◌, subst, arith}
use Rattle.std.proofs.lemmas.List.{drop_all, drop_more}
use Rattle.std.specs.List.{fold}
use Rattle.inline_rows.specs.View.{row_view}
use Rattle.inline_rows.specs.declared.row.InlineRow.{InlineRow}
use Rattle.html_heading_text.specs.HeadingRows.{silent_after}
use Rattle.html_heading_text.proofs.HeadingTexts.{SaysAll, all_said, none_said, one_said}
use Rattle.html_heading_text.proofs.heading_text.push_rows.Goals.{then-silent-eq0+in_ok-push_row, else-silent-eq0}
use Rattle.html_heading_text.proofs.heading_text.push_rows.Goals as goal

pub loop-row-preserved : goal.loop-row-preserved
loop-row-preserved g c =
    let endings = c.args.endings in
    let rows = c.args.rows.now in
    let i = c.loop-row.row-index in
    let r = c.row-item.result in
    let left = drop (i + 1) rows in
    let before = string_bytes c.args.out.now in
    let out = string_bytes c.loop-row.out in
    let silent = c.loop-row.silent in
    let after = c.silent_after-silent.result in
    let next : drop i rows ≡ r ∷ left =
    drop_more rows i r c.loop-row-test.true ∙ ap (λ (x : InlineRow). x ∷ left) (sym c.row-item.is) in
    let here : SaysAll endings before out silent (r ∷ left) rows =
    subst (λ (rs : List InlineRow). SaysAll endings before out silent rs rows) next c.loop-row.invariant.0 in
    let fits : after ≤ i + 1 = omega (arith, c.loop-row.invariant.1, c.silent_after-silent.ensures.fits) in
    elim c.if-silent-eq0.branch [
      | then-silent-eq0+in_ok-push_row w ↦
          let none : silent ≡ 0 = omega (arith, w.if-silent-eq0.true) in
          let said = one_said endings before out (string_bytes w.push_row.new.out) after r left rows
          (subst (λ (n : ℕ). SaysAll endings before out n (r ∷ left) rows) none here) w.in_ok-push_row.ensures
          (λ at. c.silent_after-silent.ensures.after at ∙ ap (λ (n : ℕ). fold silent_after n (row_view at r)) none) in
          (subst (λ bytes. SaysAll endings before (string_bytes bytes) after left rows) (sym w.out-is) said, fits)
      | else-silent-eq0 w ↦
          let some : 0 < silent = omega (arith, w.if-silent-eq0.false) in
          let said = none_said endings before out silent after r left rows some here c.silent_after-silent.ensures.after in
          (subst (λ bytes. SaysAll endings before (string_bytes bytes) after left rows) (sym w.out-is) said, fits)
    ]

pub returns : goal.returns
returns g c = λ at.
    let endings = c.args.endings in
    let rows = c.args.rows.now in
    let before = string_bytes c.args.out.now in
    let out = string_bytes c.loop-row.out in
    all_said endings before out c.loop-row.silent rows
    (subst (λ (rs : List InlineRow). SaysAll endings before out c.loop-row.silent rs rows) (drop_all c.loop-row.row-index rows c.loop-row-test.false)
    c.loop-row.invariant.0)
    at
