-- A law of slugs.
use Rattle.std.specs.Prelude.{◌<◌, ◌^◌, ℕ, List, length}
use Rattle.std.specs.List.{IsDistinct}
use Rattle.std.specs.Str.{bytes_eq}
use Rattle.definition_page.specs.Slug.{slugs_of}

-- the slugs of texts differ from one another; beyond so many, numbers as they are printed need not differ
abbrev pub SlugsDifferLaw : Type 0
SlugsDifferLaw = (texts : List (List ℕ)) → length texts < 2 ^ 64 → IsDistinct bytes_eq (slugs_of texts)
