use Rattle.std.proofs.Common.{◌+◌, ◌<◌, ◌≤◌, eqb, get_or, length, sym, ap, ◌∙◌, arith}
use Rattle.std.proofs.lemmas.Bool.{le-ltb}
use Rattle.std.specs.List.{prefix_len}
use Rattle.definition_text.specs.Columns.{codes_from, indent, is_white}
use Rattle.block_starts.specs.Marks.{begins_with_bracket}
use Rattle.block_starts.specs.View.{rest_of}
use Rattle.block_starts.proofs.ContainerLemmas.{first_dark, nothing_dark}
use Rattle.block_starts.proofs.Views.{bare_view}
use Rattle.block_starts.proofs.cursor.Cursor.begins_with_bracket.Goals as goal

pub returns-then-self-bytes : goal.returns-then-self-bytes
unfolding rest_of
returns-then-self-bytes c =
    let s = c.args.self.now in
    let t = s.text.now in
    let bytes = c.as_bytes-bytes.ensures.value in
    let lt : prefix_len is_white t < length t = omega (arith, s.front, ap length bytes, c.if-self-bytes.true) in
    ap (λ bs. eqb (get_or bs s.white 0) 91) bytes
    ∙ ap (λ n. eqb (get_or t n 0) 91) s.front
    ∙ sym (ap begins_with_bracket (first_dark (s.column + indent (codes_from s.column t)) t lt))
    ∙ sym (ap begins_with_bracket (bare_view s.owed s.column t))

pub returns-else-self-bytes : goal.returns-else-self-bytes
unfolding rest_of
returns-else-self-bytes c =
    let s = c.args.self.now in
    let t = s.text.now in
    let bytes = c.as_bytes-bytes.ensures.value in
    let le : length t ≤ prefix_len is_white t = omega (arith, s.front, ap length bytes, c.if-self-bytes.false) in
    le-ltb s.white (length c.as_bytes-bytes.result.now) (omega (arith, c.if-self-bytes.false))
    ∙ sym (ap begins_with_bracket (nothing_dark (s.column + indent (codes_from s.column t)) t (prefix_len is_white t) le))
    ∙ sym (ap begins_with_bracket (bare_view s.owed s.column t))
