use Rattle.inline_constructs.proofs.Prelude.{boundary_after_byte, content_codes, Data, IsRun, leaf, marker_byte, option_map, raw_part, run, run_of}
use Rattle.inline_constructs.proofs.Prelude.{size_before}
use Rattle.std.proofs.Common.{◌≡◌, ◌∷◌, [], None, Some, IfSome, false, arith, drop, take, map, ap, sym, ◌∙◌, subst}
use Rattle.inline_constructs.proofs.RawTextLemmas.{raw, run_here, after_it, raw_off, raw_none, raw_unclosed, raw_closed, open_end, close_end, boundary_at_run}
use Rattle.inline_constructs.proofs.raw_text.raw_text_at.Goals as goal

pub returns-then-not-may_open-clause-read : goal.returns-then-not-may_open-clause-read
returns-then-not-may_open-clause-read g c =
    let m = marker_byte c.args.marker in
    sym (raw_off m (raw c.args.marker) c.args.may_open c.args.rest.now c.if-not-may_open.true)

pub returns-then-size-eq0-clause-read : goal.returns-then-size-eq0-clause-read
returns-then-size-eq0-clause-read g c =
    let m = marker_byte c.args.marker in
    let size = c.run-size.ensures.size ∙ ap (λ b. run b c.as_bytes.result.now) c.byte.ensures ∙ ap (run m) c.as_bytes.ensures.value in
    sym (raw_none m (raw c.args.marker) c.args.may_open c.args.rest.now c.run-size.result size c.if-size-eq0.true)

pub cut_after-text-requires : goal.cut_after-text-requires
cut_after-text-requires g c =
    let m = marker_byte c.args.marker in
    let size = c.run-size.ensures.size ∙ ap (λ b. run b c.as_bytes.result.now) c.byte.ensures ∙ ap (run m) c.as_bytes.ensures.value in
    open_end m (raw c.args.marker) c.args.rest.now c.run-size.result (run_here m c.args.rest.now c.run-size.result size) (omega arith)

pub closing_run-requires-clause-outside : goal.closing_run-requires-clause-outside
closing_run-requires-clause-outside g c =
    let m = marker_byte c.args.marker in
    let xs = c.args.rest.now in
    let size = c.run-size.ensures.size ∙ ap (λ b. run b c.as_bytes.result.now) c.byte.ensures ∙ ap (run m) c.as_bytes.ensures.value in
    ap (run m) (c.as_bytes-2.ensures.value ∙ c.cut_after-text.ensures.rest ∙ ap (λ k. drop k xs) size) ∙ after_it m xs

pub text_before-requires : goal.text_before-requires
text_before-requires g c =
    let m = marker_byte c.args.marker in
    let xs = c.args.rest.now in
    let n = c.run-size.result in
    let size = c.run-size.ensures.size ∙ ap (λ b. run b c.as_bytes.result.now) c.byte.ensures ∙ ap (run m) c.as_bytes.ensures.value in
    let end = open_end m (raw c.args.marker) xs n (run_here m xs n size) (omega arith) in
    boundary_after_byte xs n c.utf8.rest end.some end.within end.ascii

pub text_before-requires-in-Some : goal.text_before-requires-in-Some
text_before-requires-in-Some g c =
    let m = marker_byte c.args.marker in
    let n = c.run-size.result in
    let run = subst (λ o. IfSome o (λ end. IsRun m c.as_bytes-2.result.now end n)) c.in-Some.is c.in_ok-closing_run.ensures.run in
    let there = subst (λ s. IsRun m s c.in-Some.end n) c.as_bytes-2.ensures.value run in
    boundary_at_run m (raw c.args.marker) c.cut_after-text.result.now c.in-Some.end n there (omega arith)

pub cut_after-requires : goal.cut_after-requires
cut_after-requires g c =
    let m = marker_byte c.args.marker in
    let xs = c.args.rest.now in
    let n = c.run-size.result in
    let size = c.run-size.ensures.size ∙ ap (λ b. run b c.as_bytes.result.now) c.byte.ensures ∙ ap (run m) c.as_bytes.ensures.value in
    let first = run_here m xs n size in
    let run = subst (λ o. IfSome o (λ end. IsRun m c.as_bytes-2.result.now end n)) c.in-Some.is c.in_ok-closing_run.ensures.run in
    let there = subst (λ s. IsRun m s c.in-Some.end n) (c.as_bytes-2.ensures.value ∙ c.cut_after-text.ensures.rest) run in
    close_end m (raw c.args.marker) xs n c.in-Some.end (omega (arith, first.within)) there (omega arith)

pub returns-in-None-clause-read : goal.returns-in-None-clause-read
returns-in-None-clause-read g c =
    let m = marker_byte c.args.marker in
    let xs = c.args.rest.now in
    let n = c.run-size.result in
    let rest = c.cut_after-text.result.now in
    let size = c.run-size.ensures.size ∙ ap (λ b. run b c.as_bytes.result.now) c.byte.ensures ∙ ap (run m) c.as_bytes.ensures.value in
    let text = c.as_bytes-2.result.now in
    let read = subst (λ o. option_map (λ end. drop end text) o ≡ run_of m n false text) c.in-None.is c.in_ok-closing_run.ensures.read in
    let none = subst (λ s. None ≡ run_of m n false s) (c.as_bytes-2.ensures.value ∙ c.cut_after-text.ensures.rest) read in
    ap (λ text. Some (leaf (map Data text) (size_before xs rest))) c.text_before.ensures
    ∙ raw_unclosed m (raw c.args.marker) c.args.may_open xs rest n size c.if-not-may_open.false (omega arith) c.cut_after-text.ensures.rest none

pub returns-in-Some-clause-read : goal.returns-in-Some-clause-read
returns-in-Some-clause-read g c =
    let m = marker_byte c.args.marker in
    let xs = c.args.rest.now in
    let n = c.run-size.result in
    let at = c.in-Some.end in
    let rest = c.cut_after.result.now in
    let size = c.run-size.ensures.size ∙ ap (λ b. run b c.as_bytes.result.now) c.byte.ensures ∙ ap (run m) c.as_bytes.ensures.value in
    let same = c.as_bytes-2.ensures.value ∙ c.cut_after-text.ensures.rest in
    let text = c.as_bytes-2.result.now in
    let run = subst (λ o. IfSome o (λ end. IsRun m text end n)) c.in-Some.is c.in_ok-closing_run.ensures.run in
    let read = subst (λ o. option_map (λ end. drop end text) o ≡ run_of m n false text) c.in-Some.is c.in_ok-closing_run.ensures.read in
    let there = subst (λ s. IsRun m s at n) same run in
    let found = subst (λ s. Some (drop at s) ≡ run_of m n false s) same read in
    ap (λ parts. Some (leaf parts (size_before xs rest))) c.part.ensures
    ∙ ap (λ text. Some (leaf (raw_part m (content_codes text) ∷ []) (size_before xs rest)))
    (c.text_before-in-Some.ensures ∙ ap (take at) c.cut_after-text.ensures.rest)
    ∙ raw_closed m (raw c.args.marker) c.args.may_open xs rest n at size c.if-not-may_open.false (omega arith) c.cut_after.ensures.rest there found
