use Rattle.std.proofs.Common.{◌≡◌, ◌++◌, [], ◌∷◌, ℕ, List, Fits, w8, string_bytes, ap, sym, ◌∙◌, arith, get_or, length, ◌<◌, ◌≤◌, ◌-◌, ◌+◌, take, drop, subst}
use Rattle.std.proofs.Common.{below_more, inl, inr}
use Rattle.std.proofs.lemmas.Bool.{cases_lt}
use Rattle.std.proofs.lemmas.List.{append-nil}
use Rattle.std.specs.Str.{IsCharBoundary}
use Rattle.std.specs.List.{prefix_len}
use Rattle.std.proofs.lemmas.Str.{IsCharBoundary-after_ascii}
use Rattle.definition_page.specs.Urls.{sanitize}
use Rattle.html_escape.specs.Tools.{is_plain_byte, url_byte}
use Rattle.html_escape.proofs.Escapes.{sanitized_more, run_ascii, run_waits}
use Rattle.html_escape.proofs.Waiting.{IsPrintedAt, printed_else, printed_as_is}
use Rattle.html_escape.proofs.url.push_sanitized.Goals as goal
use Rattle.html_escape.proofs.url.push_sanitized.Goals.{in-Some+in_ok-push_slice+in_ok-push_str, in_default}

-- what holds at a place holds after the run that begins there
record IsAt (url before out : List ℕ) (start at : ℕ) : Type 0 where
  in_order : start ≤ at
  within : at ≤ length url
  kept : (k : ℕ) → start ≤ k → k < at → get_or url k 0 < 128
  printed : IsPrintedAt sanitize url before out start at

after_run : (url before out : List ℕ) (start at end : ℕ) → ((k : ℕ) → Fits w8 (get_or url k 0)) → IsAt url before out start at
    → end ≡ at + prefix_len is_plain_byte (drop at url) → end ≤ length url → IsAt url before out start end
after_run url before out start at end fits here is within = record {
  in_order = omega (arith, here.in_order, is);
  within = within;
  kept = λ k from to. elim (cases_lt k at) [ inl early ↦ here.kept k from early | inr late ↦ run_ascii url fits at k late (omega (arith, is, to)) ];
  printed = subst (IsPrintedAt sanitize url before out start) (sym is) (run_waits url fits at before out start here.within here.in_order here.printed);
}

pub push_slice-requires-clause-end : goal.push_slice-requires-clause-end
push_slice-requires-clause-end g c waits =
    let url = c.args.url.now in
    let at = c.loop-at.at in
    let lt : at < length url = subst (λ (s : List ℕ). at < length s) c.as_bytes-bytes.ensures.value c.loop-at-test.true in
    let last : at - 1 + 1 ≡ at = omega arith in
    subst (IsCharBoundary url) last (IsCharBoundary-after_ascii url (at - 1) c.utf8.url (omega arith)
    (c.loop-at.invariant.kept (at - 1) (omega arith) (omega arith)))

pub loop-at-init : goal.loop-at-init
loop-at-init g c =
    let url = c.args.url.now in
    let out = string_bytes c.args.out.now in
    let here = after_run url out out 0 0 c.after_plain-at.result c.type_inv.url
    (record { in_order = omega arith; within = omega arith; kept = λ k from to. absurd (omega arith); printed = ap (λ x. x ++ sanitize url) (append-nil out) })
    (subst (λ (s : List ℕ). c.after_plain-at.result ≡ 0 + prefix_len is_plain_byte (drop 0 s)) c.as_bytes-bytes.ensures.value c.after_plain-at.ensures.end)
    (subst (λ (s : List ℕ). c.after_plain-at.result ≤ length s) c.as_bytes-bytes.ensures.value c.after_plain-at.ensures.within) in
    record { in_order = here.in_order; within = here.within; kept = here.kept; printed = here.printed }

pub loop-at-preserved : goal.loop-at-preserved
loop-at-preserved g c =
    let url = c.args.url.now in
    let i = c.loop-at.at in
    let start = c.loop-at.start in
    let before = string_bytes c.args.out.now in
    let out = string_bytes c.loop-at.out in
    let bytes = c.as_bytes-bytes.ensures.value in
    let lt : i < length url = subst (λ (s : List ℕ). i < length s) bytes c.loop-at-test.true in
    let next : IsAt url before (string_bytes c.match-replacement.out) c.match-replacement.start (i + 1) =
    elim c.match-replacement.branch [
      | in-Some+in_ok-push_slice+in_ok-push_str w ↦
          let is = subst (λ (s : List ℕ). url_byte (get_or s i 0) (take (length s - (i + 1)) (drop (i + 1) s)) ≡ w.in-Some.printed.now) bytes
          w.in-Some.ensures.printed in
          let pushed : string_bytes c.match-replacement.out ≡ (out ++ take (i - start) (drop start url)) ++ w.in-Some.printed.now =
          ap string_bytes w.out-is ∙ w.in_ok-push_str.ensures.bytes ∙ ap (λ x. x ++ w.in-Some.printed.now) w.in_ok-push_slice.ensures in
          record {
            in_order = omega (arith, w.start-is);
            within = omega (arith, lt);
            kept = λ k from to. absurd (omega (arith, from, to, w.start-is));
            printed =
                printed_else sanitize url_byte sanitized_more url before out start i
                (string_bytes c.match-replacement.out) c.match-replacement.start w.in-Some.printed.now lt w.start-is
                c.loop-at.invariant.printed is pushed;
          }
      | in_default w ↦
          let is = subst (λ (s : List ℕ). url_byte (get_or s i 0) (take (length s - (i + 1)) (drop (i + 1) s)) ≡ get_or s i 0 ∷ []) bytes
          w.in_default.ensures.printed in
          let ascii : get_or url i 0 < 128 = subst (λ (s : List ℕ). get_or s i 0 < 128) bytes w.in_default.ensures.ascii in
          let kept = printed_as_is sanitize url_byte sanitized_more url before out start i lt c.loop-at.invariant.in_order c.loop-at.invariant.printed is in
          record {
            in_order = omega (arith, w.start-is, c.loop-at.invariant.in_order);
            within = omega (arith, lt);
            kept = λ k from to. below_more (λ j. start ≤ j → get_or url j 0 < 128) i (λ j lower upper. c.loop-at.invariant.kept j upper lower) (λ _. ascii) k to
                (omega (arith, from, w.start-is));
            printed = rw (w.out-is, w.start-is) kept;
          }
    ] in
    let here = after_run url before (string_bytes c.match-replacement.out) c.match-replacement.start
    (i + 1) c.after_plain-at-in-loop-at.result c.type_inv.url next
    (subst (λ (s : List ℕ). c.after_plain-at-in-loop-at.result ≡ i + 1 + prefix_len is_plain_byte (drop (i + 1) s)) bytes
    c.after_plain-at-in-loop-at.ensures.end)
    (subst (λ (s : List ℕ). c.after_plain-at-in-loop-at.result ≤ length s) bytes c.after_plain-at-in-loop-at.ensures.within) in
    record { in_order = here.in_order; within = here.within; kept = here.kept; printed = here.printed }
