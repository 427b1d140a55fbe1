use Rattle.std.proofs.Common.{◌≡◌, ◌++◌, ◌∙◌, ℕ, List, ap, subst, string_bytes, false}
use Rattle.compile_strings.proofs.Prelude.{replicate, valid}
use Rattle.std.specs.Prelude.{OnOk}
use Rattle.compile_strings.proofs.RawLoops.{is_cut, cut_chunk, whole_chunk, cut, uncut_start, uncut_index}
use Rattle.compile_strings.proofs.raw_text.push_chunk.Goals as goal
use Rattle.compile_strings.proofs.raw_text.push_chunk.Goals.{else-from-ne0-via-then-from-ne0+else-from-to, else-from-ne0-via-else-from-ne0}

pub returns-then-from-to-clause-text : goal.returns-then-from-to-clause-text
returns-then-from-to-clause-text g c =
    let bytes = c.args.bytes.now in
    let from = c.spot_of-from.result in
    let to = c.exit_spot-to.result in
    subst (λ (z : List ℕ). OnOk c.push_columns.result (string_bytes c.push_columns.new.content ≡ string_bytes c.args.out.now ++ z))
    (cut_chunk bytes c.args.events.now from to c.saturating_sub.result c.in-len1-up.len_at_least c.spot_of-from.ensures c.exit_spot-to.ensures
    c.saturating_sub.ensures (cut bytes from to c.if-from-ne0.true c.if-from-to.true))
    c.push_columns.ensures

pub returns-clause-text : goal.returns-clause-text
returns-clause-text g c =
    let bytes = c.args.bytes.now in
    let from = c.spot_of-from.result in
    let to = c.exit_spot-to.result in
    let uncut : is_cut bytes from to ≡ false =
    elim c.else-from-ne0.branch [
      | else-from-ne0-via-then-from-ne0+else-from-to w ↦ uncut_index bytes from to w.if-from-to.false
      | else-from-ne0-via-else-from-ne0 w ↦ uncut_start bytes from to w.if-from-ne0.false
    ] in
    subst (λ (z : List ℕ). OnOk c.push_columns-3.result (string_bytes c.push_columns-3.new.content ≡ z))
    (ap (λ (z : List ℕ). z ++ replicate c.saturating_sub-2.result 32)
    (c.in_ok-push_bytes.ensures ∙ ap (λ (z : List ℕ). z ++ valid c.text_first.result.now) c.in_ok-push_columns.ensures)
    ∙ whole_chunk bytes c.args.events.now from to c.after.result c.saturating_sub-2.result c.text_first.result.now (string_bytes c.args.out.now)
    c.in-len1-up.len_at_least c.spot_of-from.ensures c.exit_spot-to.ensures c.after.ensures.columns c.text_first.ensures c.saturating_sub-2.ensures uncut)
    c.push_columns-3.ensures
