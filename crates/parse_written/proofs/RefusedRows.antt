-- Rows that aren't laid in a content.
use Rattle.std.proofs.Common.{inl, inr, ◌≡◌, ℕ, List, [], ◌∷◌, None, Some, codes, sym, ap, subst}
use Rattle.std.specs.Borrow.{Bor}
use Rattle.std.specs.Prelude.{◌==◌}
use Rattle.std.proofs.lemmas.Bool.{false≢true}
use Rattle.markdown_options.specs.Defaults.{default_constructs}
use Rattle.definition_inline.specs.Inline.{leaf}
use Rattle.inline_leaves.specs.declared.leaf.LeafPart.TheVariants.{Spaces}
use Rattle.inline_rows.specs.declared.row.InlineRow.{InlineRow}
use Rattle.inline_rows.specs.declared.row.InlineRow.TheVariants.{Text, Leaf, EnterSpan, EnterLink, Exit}
use Rattle.inline_rows.specs.declared.row.LinkTarget.{LinkTarget}
use Rattle.inline_runs.specs.declared.pair.Span.TheVariants.{Emphasis}
use Rattle.parse_written.specs.Laid.{MayBeSpaces}
use Rattle.parse_written.specs.Written.{AreCodes}
use Rattle.parse_written.specs.RefusedRows.{plain_context, content_of, AreRefused, RefusedRows}
use Rattle.parse_written.specs.Rows.{IsEnd}

-- `a` is no end
not_at_end : MayBeSpaces default_constructs (content_of (codes "a")) [] → ⊥
not_at_end (inl same) = absurd cc
not_at_end (inr spaces) = let none : None ≡ Some (leaf [] spaces.size) = spaces.here in absurd cc

no_row : AreRefused (codes "a") []
no_row p = not_at_end p

no_spaces : AreRefused (codes "a") (Leaf Spaces ∷ [])
no_spaces (after, next, (same, here), end) =
    let left = subst (λ os. IsEnd plain_context os next []) same end in
    not_at_end (subst (λ x. MayBeSpaces default_constructs x []) (sym here) left)

no_other_text : (text : Bor (List ℕ)) → text.now ≡ codes "b" → AreRefused (codes "a") (Text text ∷ [])
no_other_text text is (after, next, (same, bytes), end) =
    let wrong : AreCodes (codes "b") (content_of (codes "a")) next = subst (λ xs. AreCodes xs (content_of (codes "a")) next) is bytes.codes in
    false≢true (ap (λ x. x == 98) wrong.0)

no_link : (target : LinkTarget) (rows : List InlineRow) → AreRefused (codes "a") (EnterLink target ∷ rows)
no_link target rows (after, next, enters, more) = false≢true (ap (λ x. x == 91) enters.codes.0)

no_open_end : AreRefused (codes "*") (EnterSpan Emphasis ∷ [])
no_open_end (after, next, enters, end) = subst (λ os. IsEnd plain_context os next []) enters.opened end

no_end : AreRefused (codes "*") (Exit ∷ [])
no_end (after, next, p, end) = p

pub refused_rows : RefusedRows
refused_rows = (no_row, no_spaces, no_other_text, no_link, no_open_end, no_end)
