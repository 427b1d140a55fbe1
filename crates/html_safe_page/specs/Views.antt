-- What values of the code stand for.
use Rattle.std.specs.Prelude.{ℕ, List, [], ◌∷◌, Option, None, Some, map}
use Rattle.std.proofs.Common.{Bor}
use Rattle.html_safe_page.specs.Table as table
use Rattle.html_safe_page.specs.Reader.{QuotedText}
use Rattle.html_safe_page.specs.Machine.{Next, next}
use Rattle.html_safe_page.specs.declared.tags.Row.{Row}

abbrev pub names_of : List (Bor (List ℕ)) → List (List ℕ)
names_of names = map (λ n. n.now) names

abbrev pub row_of : Row → table.Row
row_of r = table.row r.0.now (names_of r.1.now)

-- two parts of bytes
abbrev pub quoted_of : Option (Bor (List ℕ) × Bor (List ℕ)) → Option QuotedText
quoted_of None = None
quoted_of (Some p) = Some (record { inside = p.0.now; rest = p.1.now })

-- names in front of others, the last first
abbrev pub onto : List (Bor (List ℕ)) → List (List ℕ) → List (List ℕ)
onto [] others = others
onto (n ∷ names) others = onto names (n.now ∷ others)

-- the names of open tags, the innermost first
abbrev pub open_names : List (Bor (List ℕ)) → List (List ℕ)
open_names names = onto names []

-- what follows, if anything may, after which these tags are open
abbrev pub if_next : Option (Bor (List ℕ)) → List (List ℕ) → Option Next
if_next None names = None
if_next (Some rest) names = Some (next rest.now names)
