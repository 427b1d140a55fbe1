use Rattle.std.proofs.Common.{◌≡◌, ◌++◌, [], ◌∷◌, ℕ, List, string_bytes, refl, sym, ap, ◌∙◌, arith, get_or, length, ◌<◌, ◌≤◌, ◌-◌, ◌+◌, take, drop, subst}
use Rattle.std.specs.List.{position_or_len}
use Rattle.std.specs.Str.{IsCharBoundary}
use Rattle.std.proofs.lemmas.List.{append-nil, take_rest}
use Rattle.std.proofs.lemmas.Str.{IsCharBoundary-start, IsCharBoundary-after_ascii}
use Rattle.html_escape.specs.Replaced.{replace_bytes}
use Rattle.text_search.specs.declared.set.ByteSet.{ByteSet}
use Rattle.text_search.specs.Sets.{holds}
use Rattle.html_escape.proofs.Waiting.{IsPrintedAt, printed_else, printed_as_is, is_within, passed_over}
use Rattle.html_escape.proofs.replaced.push_replaced.Goals as goal
use Rattle.html_escape.proofs.replaced.push_replaced.Goals.{in-Some+in_ok-push_str+in_ok-push_str-2, in_default}

pub loop-at-init : goal.loop-at-init
loop-at-init g c =
    let text = c.args.text.now in
    let at = g.R.Replacement.printed c.args.tool.now in
    let set = c.candidates-candidates.result in
    let next : c.next_of-at.result ≡ position_or_len (holds set) text =
    c.next_of-at.ensures ∙ ap (position_or_len (holds set)) c.as_bytes-bytes.ensures.value in
    let before = string_bytes c.args.out.now in
    record {
      within = omega (arith, is_within (holds set) text 0 c.next_of-at.result (omega arith) next);
      in_order = omega arith;
      boundary = IsCharBoundary-start text c.utf8.text;
      printed =
          subst (IsPrintedAt (replace_bytes at) text before before 0) (omega arith)
          (passed_over set (replace_bytes at) at (λ b bs. refl) text before before 0 0 c.next_of-at.result c.candidates-candidates.ensures (omega arith)
          (omega arith) next
          (ap (λ x. x ++ replace_bytes at text) (append-nil before)));
    }

next_is : (set : ByteSet) (text bytes : List ℕ) (i next : ℕ) → bytes ≡ text
    → next ≡ position_or_len (holds set) (take (length bytes - (i + 1)) (drop (i + 1) bytes)) → next ≡ position_or_len (holds set) (drop (i + 1) text)
next_is set text bytes i next same is = is ∙ ap (position_or_len (holds set)) (take_rest bytes (i + 1) ∙ ap (drop (i + 1)) same)

room : (set : ByteSet) (bytes : List ℕ) (i next : ℕ) → i < length bytes → next
    ≡ position_or_len (holds set) (take (length bytes - (i + 1)) (drop (i + 1) bytes)) → i + 1 + next ≤ length bytes
room set bytes i next lt is = is_within (holds set) bytes (i + 1) next (omega arith) (next_is set bytes bytes i next refl is)

pub overflow_add-at : goal.overflow_add-at
overflow_add-at g c = record {
  fits = omega (arith, room c.candidates-candidates.result _ c.loop-at.at c.next_of.result c.loop-at-test.true c.next_of.ensures, c.as_bytes-bytes.ensures.len);
}

pub overflow_add-at-in-loop-at : goal.overflow_add-at-in-loop-at
overflow_add-at-in-loop-at g c = record {
  fits = omega (arith, room c.candidates-candidates.result _ c.loop-at.at c.next_of.result c.loop-at-test.true c.next_of.ensures, c.as_bytes-bytes.ensures.len);
}

pub loop-at-preserved : goal.loop-at-preserved
loop-at-preserved g c =
    let text = c.args.text.now in
    let at = g.R.Replacement.printed c.args.tool.now in
    let set = c.candidates-candidates.result in
    let i = c.loop-at.at in
    let start = c.loop-at.start in
    let before = string_bytes c.args.out.now in
    let out = string_bytes c.loop-at.out in
    let bytes = c.as_bytes-bytes.ensures.value in
    let lt : i < length text = subst (λ (s : List ℕ). i < length s) bytes c.loop-at-test.true in
    let next = next_is set text _ i c.next_of.result bytes c.next_of.ensures in
    let bound = is_within (holds set) text (i + 1) c.next_of.result (omega arith) next in
    let place : i + 1 + c.next_of.result ≡ i + (1 + c.next_of.result) = omega arith in
    elim c.match-replacement.branch [
      | in-Some+in_ok-push_str+in_ok-push_str-2 w ↦
          let ascii = subst (λ (s : List ℕ). get_or s i 0 < 128) bytes w.in-Some.ensures.ascii in
          let is = subst (λ (s : List ℕ). at (get_or s i 0) (take (length s - (i + 1)) (drop (i + 1) s)) ≡ w.in-Some.printed.now) bytes
          w.in-Some.ensures.printed in
          let pushed : string_bytes c.match-replacement.out ≡ (out ++ take (i - start) (drop start text)) ++ w.in-Some.printed.now =
          ap string_bytes w.out-is ∙ w.in_ok-push_str-2.ensures.bytes
          ∙ ap (λ x. x ++ w.in-Some.printed.now) (w.in_ok-push_str.ensures.bytes ∙ ap (λ y. out ++ y) w.range.ensures.value) in
          let here : IsPrintedAt (replace_bytes at) text before (string_bytes c.match-replacement.out) c.match-replacement.start (i + 1) =
          printed_else (replace_bytes at) at (λ b bs. refl) text before out start i
          (string_bytes c.match-replacement.out) c.match-replacement.start w.in-Some.printed.now lt w.start-is
          c.loop-at.invariant.printed is pushed in
          record {
            within = omega (arith, bound);
            in_order = omega (arith, w.start-is);
            boundary = subst (IsCharBoundary text) (sym w.start-is) (IsCharBoundary-after_ascii text i c.utf8.text lt ascii);
            printed =
                subst (IsPrintedAt (replace_bytes at) text before (string_bytes c.match-replacement.out) c.match-replacement.start) place
                (passed_over set (replace_bytes at) at (λ b bs. refl) text before (string_bytes c.match-replacement.out) c.match-replacement.start
                (i + 1) c.next_of.result c.candidates-candidates.ensures
                (omega arith) (omega (arith, w.start-is)) next here);
          }
      | in_default w ↦
          let is = subst (λ (s : List ℕ). at (get_or s i 0) (take (length s - (i + 1)) (drop (i + 1) s)) ≡ get_or s i 0 ∷ []) bytes
          w.in_default.ensures.printed in
          let here : IsPrintedAt (replace_bytes at) text before out start (i + 1) =
          printed_as_is (replace_bytes at) at (λ b bs. refl) text before out start i lt c.loop-at.invariant.in_order c.loop-at.invariant.printed is in
          let kept = subst (IsPrintedAt (replace_bytes at) text before out start) place
          (passed_over set (replace_bytes at) at (λ b bs. refl) text before out start (i + 1) c.next_of.result c.candidates-candidates.ensures
          (omega arith) (omega (arith, c.loop-at.invariant.in_order)) next here) in
          record {
            within = omega (arith, bound);
            in_order = omega (arith, w.start-is, c.loop-at.invariant.in_order);
            boundary = subst (IsCharBoundary text) (sym w.start-is) c.loop-at.invariant.boundary;
            printed = rw (w.out-is, w.start-is) kept;
          }
    ]
