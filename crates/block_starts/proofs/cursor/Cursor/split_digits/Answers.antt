use Rattle.std.proofs.Common.{◌+◌, sym, ap, ◌∙◌, subst, take, drop, arith}
use Rattle.std.specs.Str.{IsUtf8}
use Rattle.std.specs.List.{prefix_len}
use Rattle.std.proofs.lemmas.List.Sums.{prefix_len_passes, prefix_len-le-length}
use Rattle.definition_text.specs.Columns.{codes_from}
use Rattle.definition_block.specs.ListItem.{is_digit}
use Rattle.text_bytes.proofs.Ascii.{boundary_after}
use Rattle.block_starts.specs.ThematicBreak.{BreaksWithin}
use Rattle.block_starts.specs.View.{rest_of}
use Rattle.block_starts.proofs.Views.{no_digits_owed, digits_taken, digits_dropped, digit_ascii, view_none}
use Rattle.block_starts.proofs.ThematicBreakLemmas.{breaks_after}
use Rattle.block_starts.proofs.cursor.Cursor.split_digits.Goals as goal

pub returns-then-self-gt0-clause-digits : goal.returns-then-self-gt0-clause-digits
unfolding rest_of
returns-then-self-gt0-clause-digits c =
    let s = c.args.self in
    sym (ap (λ n. take n (rest_of s)) (no_digits_owed s.owed s.column s.text.now c.if-self-gt0.true))

pub returns-then-self-gt0-clause-rest : goal.returns-then-self-gt0-clause-rest
unfolding rest_of
returns-then-self-gt0-clause-rest c =
    let s = c.args.self in
    sym (ap (λ n. drop n (rest_of s)) (no_digits_owed s.owed s.column s.text.now c.if-self-gt0.true))

pub range_from-requires : goal.range_from-requires
range_from-requires c =
    let t = c.args.self.text.now in
    let e = c.digits-count.ensures.same ∙ ap (prefix_len is_digit) c.as_bytes.ensures.value in
    let utf8 = subst IsUtf8 c.as_bytes.ensures.value c.as_bytes.ensures.utf8 in
    let within = prefix_len-le-length is_digit t in
    λ pos. boundary_after t c.digits-count.result utf8 (omega arith) (λ k f. digit_ascii _ (prefix_len_passes is_digit t k 0 (omega arith)))

pub at-rest-requires-clause-breaks : goal.at-rest-requires-clause-breaks
at-rest-requires-clause-breaks c =
    let s = c.args.self in
    subst (BreaksWithin s.tail) (sym c.range_from.ensures.value) (breaks_after s.tail s.text.now c.digits-count.result s.breaks)

pub returns-clause-digits : goal.returns-clause-digits
unfolding rest_of
returns-clause-digits c =
    let s = c.args.self in
    let t = s.text.now in
    let e = c.digits-count.ensures.same ∙ ap (prefix_len is_digit) c.as_bytes.ensures.value in
    ap (take c.digits-count.result) c.as_bytes-2.ensures.value ∙ ap (λ n. take n t) e ∙ digits_taken s.column t
    ∙ sym (ap (λ r. take (prefix_len is_digit r) r) (view_none s.owed s.column t c.if-self-gt0.false))

pub returns-clause-rest : goal.returns-clause-rest
unfolding rest_of
returns-clause-rest c =
    let s = c.args.self in
    let t = s.text.now in
    let e = c.digits-count.ensures.same ∙ ap (prefix_len is_digit) c.as_bytes.ensures.value in
    c.at-rest.ensures ∙ ap (codes_from (s.column + c.digits-count.result)) c.range_from.ensures.value ∙ ap (λ n. codes_from (s.column + n) (drop n t)) e
    ∙ digits_dropped s.column t
    ∙ sym (ap (λ r. drop (prefix_len is_digit r) r) (view_none s.owed s.column t c.if-self-gt0.false))
