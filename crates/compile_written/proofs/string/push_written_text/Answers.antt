use Rattle.std.proofs.Common.{◌≡◌, ◌<◌, ◌++◌, [], ◌∷◌, ℕ, List, string_bytes, sym, ap, ◌∙◌, arith, get_or, length, ◌-◌, take, drop, subst}
use Rattle.compile_written.proofs.Prelude.{append-nil, IsCharBoundary, written, written_byte}
use Rattle.std.proofs.lemmas.Str.{IsCharBoundary-start, IsCharBoundary-after_ascii}
use Rattle.compile_written.proofs.Waiting.{written_else, written_as_is}
use Rattle.compile_written.proofs.string.push_written_text.Goals as goal
use Rattle.compile_written.proofs.string.push_written_text.Goals.{in-Some+in_ok-push_str+in_ok-push_str-2, in_default}

pub loop-index-init : goal.loop-index-init
loop-index-init g c = record {
  in_order = omega arith;
  boundary = IsCharBoundary-start c.args.text.now c.utf8.text;
  written = ap (λ x. x ++ written c.args.text.now) (append-nil (string_bytes c.args.out.now));
}

pub loop-index-preserved : goal.loop-index-preserved
loop-index-preserved g c =
    let text = c.args.text.now in
    let i = c.loop-index.index in
    let start = c.loop-index.start in
    let before = string_bytes c.args.out.now in
    let out = string_bytes c.loop-index.out in
    let bytes = c.as_bytes-byte-items.ensures.value in
    let lt : i < length text = subst (λ (s : List ℕ). i < length s) bytes c.loop-index-test.true in
    elim c.match-told_text.branch [
      | in-Some+in_ok-push_str+in_ok-push_str-2 w ↦
          let ascii = subst (λ (s : List ℕ). get_or s i 0 < 128) bytes w.in-Some.ensures.ascii in
          let is = subst (λ (s : List ℕ). written_byte (get_or s i 0) ≡ w.in-Some.reference.now) bytes w.in-Some.ensures.written in
          let pushed : string_bytes c.match-told_text.out ≡ (out ++ take (i - start) (drop start text)) ++ w.in-Some.reference.now =
          ap string_bytes w.out-is ∙ w.in_ok-push_str-2.ensures.bytes
          ∙ ap (λ x. x ++ w.in-Some.reference.now) (w.in_ok-push_str.ensures.bytes ∙ ap (λ y. out ++ y) w.range.ensures.value) in
          record {
            in_order = omega (arith, w.start-is);
            boundary = subst (IsCharBoundary text) (sym w.start-is) (IsCharBoundary-after_ascii text i c.utf8.text lt ascii);
            written =
                written_else text before out start i (string_bytes c.match-told_text.out) c.match-told_text.start w.in-Some.reference.now lt w.start-is
                c.loop-index.invariant.written is pushed;
          }
      | in_default w ↦
          let is = subst (λ (s : List ℕ). written_byte (get_or s i 0) ≡ get_or s i 0 ∷ []) bytes w.in_default.ensures.written in
          let kept = written_as_is text before out start i lt c.loop-index.invariant.in_order c.loop-index.invariant.written is in
          record {
            in_order = omega (arith, w.start-is, c.loop-index.invariant.in_order);
            boundary = subst (IsCharBoundary text) (sym w.start-is) c.loop-index.invariant.boundary;
            written = rw (w.out-is, w.start-is) kept;
          }
    ]
