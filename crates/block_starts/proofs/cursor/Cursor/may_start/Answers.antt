use Rattle.std.proofs.Common.{◌+◌, ◌<◌, ◌≤◌, get_or, length, sym, ap, ◌∙◌, arith}
use Rattle.std.proofs.lemmas.Bool.{le-ltb}
use Rattle.std.specs.List.{prefix_len}
use Rattle.definition_text.specs.Columns.{codes_from, indent, is_white}
use Rattle.block_starts.specs.Marks.{begins_container, may_start}
use Rattle.block_starts.specs.View.{rest_of}
use Rattle.block_starts.proofs.ContainerLemmas.{first_dark, nothing_dark}
use Rattle.block_starts.proofs.Views.{bare_view}
use Rattle.block_starts.proofs.cursor.Cursor.may_start.Goals as goal

pub returns-then-self-bytes : goal.returns-then-self-bytes
unfolding rest_of
returns-then-self-bytes c =
    let s = c.args.self.now in
    let t = s.text.now in
    let bytes = c.as_bytes-bytes.ensures.value in
    let lt : prefix_len is_white t < length t = omega (arith, s.front, ap length bytes, c.if-self-bytes.true) in
    c.begins_container.ensures
    ∙ ap (λ bs. begins_container (get_or bs s.white 0)) bytes
    ∙ ap (λ n. begins_container (get_or t n 0)) s.front
    ∙ sym (ap may_start (first_dark (s.column + indent (codes_from s.column t)) t lt))
    ∙ sym (ap may_start (bare_view s.owed s.column t))

pub returns-else-self-bytes : goal.returns-else-self-bytes
unfolding rest_of
returns-else-self-bytes c =
    let s = c.args.self.now in
    let t = s.text.now in
    let bytes = c.as_bytes-bytes.ensures.value in
    let le : length t ≤ prefix_len is_white t = omega (arith, s.front, ap length bytes, c.if-self-bytes.false) in
    le-ltb s.white (length c.as_bytes-bytes.result.now) (omega (arith, c.if-self-bytes.false))
    ∙ sym (ap may_start (nothing_dark (s.column + indent (codes_from s.column t)) t (prefix_len is_white t) le))
    ∙ sym (ap may_start (bare_view s.owed s.column t))
