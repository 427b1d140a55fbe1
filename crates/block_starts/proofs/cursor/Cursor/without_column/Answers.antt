use Rattle.std.proofs.Common.{◌≡◌, ◌+◌, ◌-◌, ◌++◌, length, get_or, drop, replicate, sym, ap, ◌∙◌, subst, arith}
use Rattle.std.specs.List.{prefix_len}
use Rattle.std.proofs.lemmas.List.{length-drop}
use Rattle.std.proofs.lemmas.List.Sums.{prefix_len-le-length}
use Rattle.definition_text.specs.Columns.{codes_from, indent, is_white, tab_column}
use Rattle.block_starts.specs.Widths.{width}
use Rattle.block_starts.specs.ThematicBreak.{BreaksWithin}
use Rattle.block_starts.specs.View.{rest_of}
use Rattle.block_starts.proofs.White.{column_taken, white_taken, indent_taken}
use Rattle.block_starts.proofs.Views.{column_owed, some_white, view_none}
use Rattle.block_starts.proofs.ThematicBreakLemmas.{breaks_after}
use Rattle.block_starts.proofs.cursor.Cursor.without_column.Goals as goal

pub returns-then-self-gt0 : goal.returns-then-self-gt0
unfolding rest_of
returns-then-self-gt0 c = let s = c.args.self in column_owed s.owed s.column s.text.now c.if-self-gt0.true

pub bounds-as_bytes-0 : goal.bounds-as_bytes-0
bounds-as_bytes-0 c =
    let s = c.args.self in
    let same = ap length c.as_bytes.ensures.value in
    let some = some_white s c.if-self-gt0.false c.requires in
    omega (arith, same, some, prefix_len-le-length is_white s.text.now)

pub without_white-requires : goal.without_white-requires
without_white-requires c = let some = some_white c.args.self c.if-self-gt0.false c.requires in omega (arith, some)

pub overflow_sub-result-2 : goal.overflow_sub-result-2
overflow_sub-result-2 c = let s = c.args.self in let some = some_white s c.if-self-gt0.false c.requires in omega (arith, some, s.front)

pub overflow_sub-result-3 : goal.overflow_sub-result-3
overflow_sub-result-3 c =
    let s = c.args.self in
    let t = s.text.now in
    let some = some_white s c.if-self-gt0.false c.requires in
    let wide = c.width-wide.ensures.same ∙ ap (λ bs. width s.column (get_or bs 0 0)) c.as_bytes.ensures.value in
    omega (arith, indent_taken s.column t c.width-wide.result some wide, s.wide)

pub invariant_of-result : goal.invariant_of-result
invariant_of-result c =
    let s = c.args.self in
    let t = s.text.now in
    let some = some_white s c.if-self-gt0.false c.requires in
    let wide = c.width-wide.ensures.same ∙ ap (λ bs. width s.column (get_or bs 0 0)) c.as_bytes.ensures.value in
    let less = ap length c.without_white.ensures ∙ length-drop 1 t in
    let within = prefix_len-le-length is_white t in
    let front : s.white - 1 ≡ prefix_len is_white (drop 1 t) = omega (arith, white_taken t some, s.front) in
    let ahead : s.columns - c.width-wide.result ≡ indent (codes_from (s.column + c.width-wide.result) (drop 1 t)) =
    omega (arith, indent_taken s.column t c.width-wide.result some wide, s.wide) in
    record {
      fits = omega (arith, less, within, some, c.width-wide.ensures.few, s.fits);
      few = omega (arith, c.width-wide.ensures.few);
      front = front ∙ ap (prefix_len is_white) (sym c.without_white.ensures);
      wide = ahead ∙ ap (λ r. indent (codes_from (s.column + c.width-wide.result) r)) (sym c.without_white.ensures);
      breaks = subst (BreaksWithin s.tail) (sym c.without_white.ensures) (breaks_after s.tail t 1 s.breaks);
    }

pub returns : goal.returns
unfolding rest_of
returns c =
    let s = c.args.self in
    let t = s.text.now in
    let some = some_white s c.if-self-gt0.false c.requires in
    let wide = c.width-wide.ensures.same ∙ ap (λ bs. width s.column (get_or bs 0 0)) c.as_bytes.ensures.value in
    ap (λ r. replicate (c.width-wide.result - 1) tab_column ++ codes_from (s.column + c.width-wide.result) r) c.without_white.ensures
    ∙ sym (column_taken s.column t c.width-wide.result some wide)
    ∙ ap (drop 1) (sym (view_none s.owed s.column t c.if-self-gt0.false))
