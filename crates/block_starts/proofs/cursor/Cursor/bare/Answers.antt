use Rattle.std.proofs.Common.{◌+◌, sym, ap, ◌∙◌, subst, drop, length, arith}
use Rattle.std.proofs.lemmas.List.{length-drop}
use Rattle.definition_text.specs.Columns.{codes_from, indent}
use Rattle.block_starts.specs.ThematicBreak.{BreaksWithin}
use Rattle.block_starts.specs.View.{rest_of}
use Rattle.block_starts.proofs.Views.{bare_view, white_view}
use Rattle.block_starts.proofs.ThematicBreakLemmas.{breaks_after}
use Rattle.block_starts.proofs.cursor.Cursor.bare.Goals as goal

pub overflow_add-self : goal.overflow_add-self
overflow_add-self c = let s = c.args.self in omega (arith, white_view s, s.fits)

pub at-requires-clause-fits : goal.at-requires-clause-fits
at-requires-clause-fits c =
    let s = c.args.self in
    let less = ap length c.without_white-text.ensures ∙ length-drop s.white s.text.now in
    omega (arith, white_view s, less, s.fits)

pub at-requires-clause-breaks : goal.at-requires-clause-breaks
at-requires-clause-breaks c =
    let s = c.args.self in
    subst (BreaksWithin s.tail) (sym c.without_white-text.ensures) (breaks_after s.tail s.text.now s.white s.breaks)

pub returns : goal.returns
unfolding rest_of
returns c =
    let s = c.args.self in
    let t = s.text.now in
    c.at.ensures
    ∙ ap (codes_from (s.column + s.columns)) c.without_white-text.ensures
    ∙ ap (λ n. codes_from (s.column + n) (drop s.white t)) s.wide
    ∙ ap (λ n. codes_from (s.column + indent (codes_from s.column t)) (drop n t)) s.front
    ∙ sym (bare_view s.owed s.column t)
