-- What a content begins with, whichever labels are defined.
use Rattle.std.specs.Prelude.{ℕ, false, List, Option}
use Rattle.markdown_options.specs.declared.configuration.ParseOptions.{ParseOptions}
use Rattle.definition_inline.specs.Inline.{Found}
use Rattle.definition_inline.specs.Scan.{InlineContext, leaf_at}

-- a context with no label
abbrev pub without_labels : ParseOptions → (List ℕ → Option (List ℕ)) → InlineContext
without_labels options names = record { options = options; names = names; is_defined = λ label. false; is_footnote = λ label. false }

-- the construct that a content begins with, if it holds no other (CommonMark 6)
abbrev pub leaf_in : ParseOptions → (List ℕ → Option (List ℕ)) → List ℕ → Option Found
leaf_in options names content = leaf_at (without_labels options names) content
