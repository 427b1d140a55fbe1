-- The attribute at the start of a text, by its name.
use Rattle.std.proofs.Common.{◌≡◌, ◌≢◌, ℕ, ◌<◌, List, ◌∷◌, ◌++◌, Bor, Option, None, Some, codes, length, get_or, sym, ap, ◌∙◌, append_assoc}
use Rattle.std.specs.Prelude.{MatchOption}
use Rattle.html_safe_page.specs.SafePage.{attribute_start}
use Rattle.html_listed_page.specs.Tags.{lacks, IsQuoted}
use Rattle.html_listed_page.proofs.Cuts.{has_byte, lacks_by_places, tail, same_back}

-- what follows the start of an attribute in a text
pub after_start : (name text spaced x : List ℕ) → text ≡ 32 ∷ spaced → attribute_start name ++ x ≡ text → name ++ (codes "=\"" ++ x) ≡ spaced
after_start name text spaced x e h = sym (append_assoc name (codes "=\"") x) ∙ ap tail (h ∙ e)

pub start_is : (name text spaced named quoted : List ℕ) → text ≡ 32 ∷ spaced → spaced ≡ name ++ named → named ≡ codes "=\"" ++ quoted
    → attribute_start name ++ quoted ≡ text
start_is name text spaced named quoted e h k =
    ap (λ z. 32 ∷ z) (append_assoc name (codes "=\"") quoted ∙ ap (λ z. name ++ z) (sym k) ∙ sym h) ∙ sym e

-- a quoted value in what follows it
pub quoted_in : (name text quoted : List ℕ) (r : Option (Bor (List ℕ) × Bor (List ℕ))) → attribute_start name ++ quoted ≡ text
    → MatchOption r ((i : ℕ) → i < length quoted → get_or quoted i 0 ≢ 34)
    (λ x. (quoted ≡ x.0.now ++ (34 ∷ x.1.now)) × ((i : ℕ) → i < length x.0.now → get_or x.0.now i 0 ≢ 34))
    → IsQuoted name text r
quoted_in name text quoted None e h =
    λ value after k.
    has_byte 34 value after (ap (lacks 34) (same_back (attribute_start name) (value ++ (34 ∷ after)) quoted (k ∙ sym e)) ∙ lacks_by_places 34 quoted h)
quoted_in name text quoted (Some p) e h = (lacks_by_places 34 p.0.now h.1, ap (λ z. attribute_start name ++ z) (sym h.0) ∙ e)
