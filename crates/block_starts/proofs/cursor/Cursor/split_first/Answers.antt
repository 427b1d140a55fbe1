use Rattle.std.proofs.Common.{◌<◌, ◌+◌, ◌∷◌, length, get_or, drop, sym, ap, ◌∙◌, subst, arith}
use Rattle.std.specs.Str.{IsUtf8}
use Rattle.std.proofs.lemmas.Bool.{eqb-true, eqb-false}
use Rattle.std.proofs.lemmas.Str.{IsCharBoundary-after_ascii}
use Rattle.definition_text.specs.Columns.{codes_from}
use Rattle.block_starts.specs.View.{rest_of}
use Rattle.block_starts.specs.Marks.{NoMark, is_mark}
use Rattle.block_starts.specs.ThematicBreak.{BreaksWithin}
use Rattle.block_starts.proofs.Views.{no_mark_owed, no_mark_nothing, no_mark_byte, mark_ascii, mark_first, view_none}
use Rattle.block_starts.proofs.ThematicBreakLemmas.{breaks_after}
use Rattle.block_starts.proofs.cursor.Cursor.split_first.Goals as goal
use Rattle.block_starts.proofs.cursor.Cursor.split_first.Goals.{then-self-gt0-via-then-self-gt0, then-self-gt0-via-else-self-gt0+then-is_empty}

pub returns-then-self-gt0 : goal.returns-then-self-gt0
unfolding rest_of
returns-then-self-gt0 c =
    let s = c.args.self in
    let t = s.text.now in
    elim c.then-self-gt0.branch [
      | then-self-gt0-via-then-self-gt0 w ↦ no_mark_owed s.owed s.column t w.if-self-gt0.true
      | then-self-gt0-via-else-self-gt0+then-is_empty w ↦
          let none = eqb-true (length t) 0 (sym w.is_empty.ensures ∙ w.if-is_empty.true) in
          subst NoMark (sym (view_none s.owed s.column t w.if-self-gt0.false)) (no_mark_nothing s.column t none)
    ]

pub returns-then-not-is_mark : goal.returns-then-not-is_mark
unfolding rest_of
returns-then-not-is_mark c =
    let s = c.args.self in
    let t = s.text.now in
    let some : 0 < length t = omega (arith, eqb-false (length t) 0 (sym c.is_empty.ensures ∙ c.if-is_empty.false)) in
    let none = ap (λ bs. is_mark (get_or bs 0 0)) (sym c.as_bytes.ensures.value) ∙ sym c.is_mark.ensures ∙ c.if-not-is_mark.true in
    subst NoMark (sym (view_none s.owed s.column t c.if-self-gt0.false)) (no_mark_byte s.column t some none)

pub range_from-requires : goal.range_from-requires
range_from-requires c =
    let t = c.args.self.text.now in
    let some : 0 < length t = omega (arith, eqb-false (length t) 0 (sym c.is_empty.ensures ∙ c.if-is_empty.false)) in
    let mark = ap (λ bs. is_mark (get_or bs 0 0)) (sym c.as_bytes.ensures.value) ∙ sym c.is_mark.ensures ∙ c.if-not-is_mark.false in
    let utf8 = subst IsUtf8 c.as_bytes.ensures.value c.as_bytes.ensures.utf8 in
    λ pos. IsCharBoundary-after_ascii t 0 utf8 some (mark_ascii (get_or t 0 0) mark).1

pub at-rest-requires-clause-breaks : goal.at-rest-requires-clause-breaks
at-rest-requires-clause-breaks c =
    let s = c.args.self in
    subst (BreaksWithin s.tail) (sym c.range_from.ensures.value) (breaks_after s.tail s.text.now 1 s.breaks)

pub returns : goal.returns
unfolding rest_of
returns c =
    let s = c.args.self in
    let t = s.text.now in
    let some : 0 < length t = omega (arith, eqb-false (length t) 0 (sym c.is_empty.ensures ∙ c.if-is_empty.false)) in
    let same = ap (λ bs. get_or bs 0 0) c.as_bytes.ensures.value in
    let mark = ap is_mark (sym same) ∙ sym c.is_mark.ensures ∙ c.if-not-is_mark.false in
    view_none s.owed s.column t c.if-self-gt0.false
    ∙ mark_first s.column t some (mark_ascii (get_or t 0 0) mark).0
    ∙ ap (λ b. b ∷ codes_from (s.column + 1) (drop 1 t)) (sym same)
    ∙ ap (λ r. get_or c.as_bytes.result.now 0 0 ∷ codes_from (s.column + 1) r) (sym c.range_from.ensures.value)
    ∙ ap (λ r. get_or c.as_bytes.result.now 0 0 ∷ r) (sym c.at-rest.ensures)
