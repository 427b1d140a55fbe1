use Rattle.std.proofs.Common.{◌+◌, ◌<◌, ◌≤◌, eqb, get_or, length, drop, sym, ap, ◌∙◌, arith}
use Rattle.std.proofs.lemmas.Bool.{le-ltb}
use Rattle.std.specs.List.{prefix_len}
use Rattle.std.proofs.lemmas.List.{drop_more}
use Rattle.definition_text.specs.Columns.{codes_from, indent, is_white}
use Rattle.block_starts.specs.Marks.{begins_with_caret}
use Rattle.block_starts.specs.View.{rest_of}
use Rattle.block_starts.proofs.ContainerLemmas.{caret_code, first_dark, nothing_dark}
use Rattle.block_starts.proofs.Views.{bare_view}
use Rattle.block_starts.proofs.cursor.Cursor.caret_follows.Goals as goal

pub returns-then-self-bytes : goal.returns-then-self-bytes
unfolding rest_of
returns-then-self-bytes c =
    let s = c.args.self.now in
    let t = s.text.now in
    let bytes = c.as_bytes-bytes.ensures.value in
    let le : length t ≤ prefix_len is_white t = omega (arith, s.front, ap length bytes, c.if-self-bytes.true) in
    sym (ap (λ rest. begins_with_caret (drop 1 rest)) (bare_view s.owed s.column t
    ∙ nothing_dark (s.column + indent (codes_from s.column t)) t (prefix_len is_white t) le))

pub returns-then-next-bytes : goal.returns-then-next-bytes
unfolding rest_of
returns-then-next-bytes c =
    let s = c.args.self.now in
    let t = s.text.now in
    let n = prefix_len is_white t in
    let bytes = c.as_bytes-bytes.ensures.value in
    let lt : n < length t = omega (arith, s.front, ap length bytes, c.if-next-bytes.true) in
    let next : n + 1 < length t = omega (arith, s.front, ap length bytes, c.if-next-bytes.true) in
    let column = s.column + indent (codes_from s.column t) in
    ap (λ bs. eqb (get_or bs (s.white + 1) 0) 94) bytes
    ∙ ap (λ k. eqb (get_or t (k + 1) 0) 94) s.front
    ∙ sym (ap begins_with_caret (ap (codes_from (column + 1)) (drop_more t (n + 1) 0 next))
    ∙ caret_code (column + 1) (get_or t (n + 1) 0) (drop (n + 1 + 1) t))
    ∙ sym (ap (λ rest. begins_with_caret (drop 1 rest)) (bare_view s.owed s.column t ∙ first_dark column t lt))

pub returns-else-next-bytes : goal.returns-else-next-bytes
unfolding rest_of
returns-else-next-bytes c =
    let s = c.args.self.now in
    let t = s.text.now in
    let n = prefix_len is_white t in
    let bytes = c.as_bytes-bytes.ensures.value in
    let lt : n < length t = omega (arith, s.front, ap length bytes, c.if-self-bytes.false) in
    let le : length t ≤ n + 1 = omega (arith, s.front, ap length bytes, c.if-next-bytes.false) in
    let column = s.column + indent (codes_from s.column t) in
    le-ltb (s.white + 1) (length c.as_bytes-bytes.result.now) (omega (arith, c.if-next-bytes.false))
    ∙ sym (ap begins_with_caret (nothing_dark (column + 1) t (n + 1) le))
    ∙ sym (ap (λ rest. begins_with_caret (drop 1 rest)) (bare_view s.owed s.column t ∙ first_dark column t lt))
