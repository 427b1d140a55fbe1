use Rattle.std.proofs.Common.{◌≡◌, ℕ, ◌<◌, ◌==◌, true, false, Some, List, [], ◌∷◌, get_or, length, drop, sym, ap, ◌∙◌, subst, arith}
use Rattle.inline_content.proofs.Prelude.{content_codes, eqb-true, first_kind, is_marker, IsUtf8, line_rest, prefix_len, run_between, true≢false}
use Rattle.definition_inline.specs.Attention.{Run}
use Rattle.inline_content.proofs.Runs.{no_run, a_run, run_boundary}
use Rattle.inline_content.proofs.content.Content.run_at.Goals.{then-is_empty-via-then-is_empty, then-is_empty-via-else-is_empty+then-not-is_marker}
use Rattle.inline_content.proofs.content.Content.run_at.Goals as goal

pub returns-then-is_empty : goal.returns-then-is_empty
returns-then-is_empty g c = record {
  read =
      no_run (g.T.Tables.punctuation_of c.args.tables.now) c.args.self.after c.args.self.marks.now c.args.options.now c.args.self.text.now c.args.rest.now
      c.requires
      (λ some.
      elim c.then-is_empty.branch [
        | then-is_empty-via-then-is_empty w ↦ absurd
            (omega (
              arith,
              some,
              eqb-true (length c.as_bytes-bytes.result.now) 0 (sym c.is_empty.ensures ∙ w.if-is_empty.true),
              ap length c.as_bytes-bytes.ensures.value,
            ))
        | then-is_empty-via-else-is_empty+then-not-is_marker w ↦ ap (λ l. is_marker c.args.options.now (get_or l 0 0)) (sym c.as_bytes-bytes.ensures.value)
            ∙ sym w.is_marker.ensures ∙ w.if-not-is_marker.true
      ]);
  front = tt;
}

abbrev pub is_some : (xs : List ℕ) → (length xs == 0) ≡ false → 0 < length xs
is_some [] h = absurd (true≢false h)
is_some (x ∷ xs) h = omega arith

pub range_from-requires : goal.range_from-requires
range_from-requires g c = λ some.
    let rest = c.args.rest.now in
    let value : c.as_bytes-bytes.result.now ≡ rest = c.as_bytes-bytes.ensures.value in
    let marker : is_marker c.args.options.now (get_or rest 0 0) ≡ true =
    ap (λ l. is_marker c.args.options.now (get_or l 0 0)) (sym value) ∙ sym c.if-not-is_marker.ensures in
    let size : c.run-size.result ≡ prefix_len (λ x. x == get_or rest 0 0) rest =
    c.run-size.ensures.size ∙ ap (λ l. prefix_len (λ x. x == get_or l 0 0) l) value in
    run_boundary c.args.options.now rest c.run-size.result (subst IsUtf8 value c.as_bytes-bytes.ensures.utf8) marker size some

pub returns : goal.returns
returns g c =
    let rest = c.args.rest.now in
    let p = g.T.Tables.punctuation_of c.args.tables.now in
    let value : c.as_bytes-bytes.result.now ≡ rest = c.as_bytes-bytes.ensures.value in
    let some : 0 < length rest = is_some rest (ap (λ l. length l == 0) (sym value) ∙ sym c.is_empty.ensures ∙ c.if-is_empty.false) in
    let marker : is_marker c.args.options.now (get_or rest 0 0) ≡ true =
    ap (λ l. is_marker c.args.options.now (get_or l 0 0)) (sym value) ∙ sym c.if-not-is_marker.ensures in
    let size : c.run-size.result ≡ prefix_len (λ x. x == get_or rest 0 0) rest =
    c.run-size.ensures.size ∙ ap (λ l. prefix_len (λ x. x == get_or l 0 0) l) value in
    let after : c.first_kind-after.result ≡ first_kind p c.args.self.after (line_rest (content_codes (drop c.run-size.result rest))) =
    c.first_kind-after.ensures ∙ ap (λ l. first_kind p c.args.self.after (line_rest (content_codes l))) c.range_from.ensures.value in
    let first : get_or rest 0 0 ≡ c.run_between.result.marker =
    sym (ap (λ (r : Run). r.marker) c.run_between.ensures ∙ ap (λ l. get_or l 0 0) value) in
    let count : c.run_between.result.size ≡ c.run-size.result = ap (λ (r : Run). r.left) c.run_between.ensures in
    record {
      read =
          ap Some (c.run_between.ensures ∙ ap (λ l. run_between c.args.options.now
          (get_or l 0 0) c.run-size.result c.kind_before-before.result c.first_kind-after.result) value)
          ∙ a_run p c.args.self.after c.args.self.marks.now c.args.options.now c.args.self.text.now rest c.run-size.result c.kind_before-before.result
          c.first_kind-after.result
          c.requires some marker size (c.kind_before-before.ensures (content_codes rest)) after;
      front = record {
        some = some;
        first = first;
        marks = ap (is_marker c.args.options.now) (sym first) ∙ marker;
        size = count ∙ size ∙ ap (λ m. prefix_len (λ x. x == m) rest) first;
      };
    }
